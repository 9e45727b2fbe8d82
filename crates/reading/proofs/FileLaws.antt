-- The whole file: functions, predicates, clauses, the query and the end.
-- Assumes nothing.
use Prim.Native.Nat.{ℕ, zero, suc, ◌+◌, ◌*◌, ◌≤◌, ◌<◌}
use mathlib.Core.Path.{◌≡◌, refl, sym, ap, ◌∙◌}
use mathlib.Core.List.{List, []}
use native.Mathlib.Omega.{arith}
use lib.ListN.{length}
use Rattle.meaning.specs.Kinds.{a_function, a_predicate, a_clause, a_query, function_limit, predicate_limit, todays_limits}
use Rattle.meaning.specs.Rules.{Clause, Rules}
use Rattle.meaning.specs.Reading.{Read, refused, read, Reader, after, ◌>>=◌, ◌>>◌, give, end_due}
use Rattle.meaning.specs.Reading.{byte, next, query, no_more, items, parse}
use Rattle.meaning.specs.declared.Refusal.{Refusal}
use Rattle.reading.specs.Verdict.{verdict, counted}
use Rattle.reading.specs.Arities.{functions_of, predicates_of}
use Rattle.reading.specs.SoFar.{SoFar, Pairs, Counted, of_functions, of_predicates}
use Rattle.reading.specs.Steps.{step, only, last}
use Rattle.reading.specs.declared.Counts.{Counts}
use Rattle.reading.specs.declared.step.Reached.{Reached}
use Rattle.std.specs.Prelude.{Result, Ok, Err}
use Rattle.reading.proofs.StepLaws.{Step, next_missing}
use Rattle.reading.proofs.TermLaws.{arities_length}
use Rattle.reading.proofs.ItemLaws.{item_query}
use Rattle.reading.proofs.RowLaws.{so_far_start, so_far_past}

-- ---- the functions, then the predicates
pub functions_start : (file : List ℕ) → Counted file a_function function_limit 0 0 0
functions_start file = of_functions {n = 0} {at = 0} (record { few = omega arith; place = refl; inside = omega arith }) (so_far_start file)

-- all functions are read, all predicates
pub predicates_from : {file : List ℕ} {n at : ℕ} → Counted file a_function function_limit 0 n at → (byte file at ≡ a_function → ⊥) → Counted file a_predicate predicate_limit n 0 at
predicates_from {file} {n} {at} (of_functions p S) h =
    let e = p.place in
    let none : Pairs file predicate_limit (2 * n) 0 at = record { few = omega arith; place = omega arith; inside = p.inside } in
    of_predicates p.few none (so_far_past S h)

-- ---- the query, with all clauses before it
-- two that are both refused, or both read, the first with so many functions, predicates and clauses
data Alike (f p c : ℕ) : Read Rules → Read Rules → Type 0 where
  stop : {n q : ℕ} → Alike f p c (refused n q) (refused n q)
  both : {R Q : Rules} {s e : ℕ} → length R.functions ≡ f → length R.predicates ≡ p → length R.clauses ≡ c → Alike f p c (read R s e) (read Q s e)

answer : ℕ → ℕ → ℕ → Step → Result Counts Refusal
answer f p c (Err e) = Err e
answer f p c (Ok t) = Ok (counted f p c)

alike_answer : {f p c : ℕ} {r t : Read Rules} → Alike f p c r t → verdict r ≡ answer f p c (step t)
unfolding answer verdict step
alike_answer stop = refl
alike_answer (both x y z) = rw (x, y, z)

alike_after : {f p c : ℕ} {A : Type 0} (r : Read A) (g h : A → Reader Rules) → ((a : A) (s e : ℕ) → Alike f p c (g a s e) (h a s e)) → Alike f p c (after r g) (after r h)
unfolding after
alike_after (refused n q) g h k = stop
alike_after (read a s e) g h k = k a s e

module _ (file : List ℕ) (fs ps : List ℕ) (cs : List Clause) where
  abbrev Same : Read Rules → Read Rules → Type 0
  Same = Alike (length fs) (length ps) (length cs)

  query_alike : (p s e : ℕ) → Same (query file todays_limits fs ps cs p s e) (query file todays_limits fs ps [] p s e)
  unfolding query ◌>>◌ ◌>>=◌ give
  query_alike p s e =
      alike_after _ _ _ λ u s e. alike_after _ _ _ λ u s e. alike_after _ _ _ λ gs s e. alike_after _ _ _ λ u s e. both refl refl refl

  abbrev close : Rules → Reader Rules
  close R = do
    next file end_due
    no_more file
    give R

  close_both : (R Q : Rules) (s e : ℕ) → length R.functions ≡ length fs → length R.predicates ≡ length ps → length R.clauses ≡ length cs → Same (close R s e) (close Q s e)
  unfolding ◌>>◌ give
  close_both R Q s e x y z = alike_after _ _ _ λ q s e. alike_after _ _ _ λ u s e. both x y z

  close_alike : {r t : Read Rules} → Same r t → Same (after r close) (after t close)
  unfolding after
  close_alike stop = stop
  close_alike (both {R} {Q} {s} {e} x y z) = close_both R Q s e x y z

  last_alike : (s at : ℕ) → Same (last file fs ps cs s at) (last file fs ps [] s at)
  unfolding last ◌>>=◌
  last_alike s at = alike_after _ _ _ λ p s e. close_alike (query_alike p s e)

-- where only the query is due, it and the end are what is left
module _ (file : List ℕ) (fs ps : List ℕ) (cs : List Clause) (latest at : ℕ) (h : latest ≤ byte file at → byte file at < suc a_clause → ⊥) where
  items_last : (more : ℕ) → length file ≤ at + more → items file todays_limits more latest fs ps cs 0 at ≡ last file fs ps cs 0 at
  unfolding items last ◌>>=◌ after
  items_last zero e = rw (next_missing file (only a_query) at 0 (omega arith))
  items_last (suc more) e = item_query file more latest fs ps cs at (λ l k. h l (omega arith))

-- all clauses are read, and `x` is what the query and the end come to
module _ (file : List ℕ) (functions predicates n at : ℕ) (S : SoFar file a_clause functions predicates n at) (shut : byte file at ≡ a_clause → ⊥) where
  abbrev the_last : Step
  the_last = step (last file (functions_of file functions) (predicates_of file functions predicates) [] 0 at)

  file_answer : (x : Step) → x ≡ the_last → answer functions predicates n x ≡ verdict (parse file)
  file_answer x w =
      let T = so_far_past S shut in
      let fs : List ℕ = functions_of file functions in
      let ps : List ℕ = predicates_of file functions predicates in
      let a : answer (length fs) (length ps) (length T.read) (step (last file fs ps [] 0 at)) ≡ verdict (parse file) =
      sym (alike_answer (last_alike file fs ps T.read 0 at)) ∙ sym (ap verdict (items_last file fs ps T.read T.latest at T.shut T.more T.enough)) ∙ T.rest in
      rw w (rw (arities_length file 0 functions, arities_length file (2 * functions) predicates, T.many) at a)

  pub query_refused : {e : Refusal} → Err e ≡ the_last → Err e ≡ verdict (parse file)
  unfolding answer
  query_refused h = file_answer _ h

  pub query_good : {t : Reached} → Ok t ≡ the_last → Ok (counted functions predicates n) ≡ verdict (parse file)
  unfolding answer
  query_good h = file_answer _ h
