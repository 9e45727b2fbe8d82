-- The rows of records of the top level, and the records in them.
-- Assumes nothing.
use Prim.Native.Nat.{ℕ, suc, ◌+◌, ◌-◌, ◌*◌, ◌≤◌, ◌<◌}
use mathlib.Core.Path.{◌≡◌, refl, sym, ap, subst, ◌∙◌}
use mathlib.Core.Bool.{Bool, true, false, ◌&&◌}
use mathlib.Core.List.{List, [], ◌∷◌, ◌++◌}
use native.Mathlib.Omega.{arith}
use lib.Dec.{leb, ltb, eqb}
use lib.ListN.{length, length-append}
use borrow.Author.Tests.{lt-ltb, le-ltb, lt-leb, le-leb, leb-true, leb-false, ltb-true, eqb-true, eqb-false}
use Rattle.std.specs.Prelude.{◌⊎◌, Result, Ok, Err}
use Rattle.std.proofs.Common.{inl, inr}
use Rattle.meaning.specs.Kinds.{a_function, a_predicate, a_clause, arity_limit, function_limit, predicate_limit, clause_limit, body_length, body_lengths, todays_limits}
use Rattle.meaning.specs.Rules.{Clause, Rules}
use Rattle.meaning.specs.Reading.{Read, refused, read, Reader, after, ◌>>=◌, ◌>>◌, need, byte, next, items, parse_within, parse}
use Rattle.meaning.specs.declared.Refusal.{Refusal}
use Rattle.reading.specs.Verdict.{refusal, verdict}
use Rattle.reading.specs.Each.{RowOf, no_more, refused_there, one_more}
use Rattle.reading.specs.Arities.{arities, functions_of, predicates_of}
use Rattle.reading.specs.SoFar.{SoFar, Pairs, Counted, of_functions, of_predicates, Rowed}
use Rattle.records.specs.declared.Kind.{Kind}
use Rattle.records.specs.declared.Kind.TheVariants.{Function, Predicate, Clause as AClause, Variable, Application, Goal as AGoal, Cut, Query, End, Answer, AnswerVariable, Step as AStep, AnswerEnd}
use Rattle.reading.specs.Steps.{step, only, either, declared, clause_after}
use Rattle.records.specs.Numbers.{number}
use Rattle.reading.specs.declared.Counts.{Counts}
use Rattle.reading.specs.declared.row.Row.{Row}
use Rattle.reading.specs.declared.step.Reached.{Reached}
use Rattle.laws.specs.IfLaws.{and_left}
use Rattle.laws.specs.Onward.{Onward, onward_read, after_on, later, need_on, next_on, clause_on}
use Rattle.reading.proofs.StepLaws.{Step, came, after_refused, Found, Looked, lost, found, look, next_then, byte_past, only_inside}
use Rattle.reading.proofs.TermLaws.{arities_length, arities_more}
use Rattle.reading.proofs.ItemLaws.{items_fresh, item_function, item_predicate, item_clause}

-- where a kind stands, the file goes on
here_inside : (file : List ℕ) (at kind : ℕ) → byte file at ≡ kind → 0 < kind → at < length file
here_inside file at kind e h = go _ refl
  where
    go : (b : Bool) → leb (length file) at ≡ b → at < length file
    go true l = absurd (omega (arith, byte_past file at (leb-true _ _ l)))
    go false l = leb-false _ _ l

number_positive : (kind : Kind) → 0 < number kind
number_positive kind = elim kind as (λ k. 0 < number k) [ Function ↦ omega arith | Predicate ↦ omega arith | AClause ↦ omega arith | Variable ↦ omega arith | Application ↦ omega arith | AGoal ↦ omega arith | Cut ↦ omega arith | Query ↦ omega arith | End ↦ omega arith | Answer ↦ omega arith | AnswerVariable ↦ omega arith | AStep ↦ omega arith | AnswerEnd ↦ omega arith ]

pub stands_inside : (file : List ℕ) (at : ℕ) (kind : Kind) → eqb (byte file at) (number kind) ≡ true → at < length file
stands_inside file at kind e = here_inside file at (number kind) (eqb-true _ _ e) (number_positive kind)

-- ---- the loop: what the calls to come give, all calls do
module _ (one : Row → Step → Type 0) (file : List ℕ) (kind start n at : ℕ)
    (inv : (r : Result Row Refusal) → RowOf one file kind (record { records = n; at = at }) r → RowOf one file kind (record { records = 0; at = start }) r) where
  pub row_end : eqb (byte file at) kind ≡ false → RowOf one file kind (record { records = 0; at = start }) (Ok (record { records = n; at = at }))
  row_end e = inv (Ok (record { records = n; at = at })) (no_more (eqb-false (byte file at) kind e))

  module _ (s : eqb (byte file at) kind ≡ true) where
    pub row_stopped : {e : Refusal} → one (record { records = n; at = at }) (Err e) → RowOf one file kind (record { records = 0; at = start }) (Err e)
    row_stopped k = inv _ (refused_there (eqb-true (byte file at) kind s) k)

    pub row_more : {t : Reached} → one (record { records = n; at = at }) (Ok t) → (r : Result Row Refusal) → RowOf one file kind (record { records = n + 1; at = t.at }) r
        → RowOf one file kind (record { records = 0; at = start }) r
    row_more k r d = inv r (one_more (eqb-true (byte file at) kind s) k d)

-- ---- one function or predicate
module _ (file : List ℕ) (kind limit before at : ℕ) where
  abbrev the_record : Step
  the_record = step (declared file kind limit before 0 at)

  pub declared_refused : {e : Refusal} → Err e ≡ step (next file (either kind kind) 0 at) → Err e ≡ the_record
  unfolding declared ◌>>=◌
  declared_refused h = after_refused _ _ h

  module _ {t : Reached} (h : Ok t ≡ step (next file (either kind kind) 0 at)) where
    pub declared_inside : body_length kind ≡ 1 → at + 1 < length file
    declared_inside b = let i = only_inside file kind 0 at h in omega (arith, b)

    pub declared_bad : (limit ≤ before) ⊎ ((before < limit) × (arity_limit < byte file (at + 1))) → Err (refusal 6 at) ≡ the_record
    unfolding declared ◌>>=◌ need step
    declared_bad (inl m) = rw (next_then file _ 0 at h, le-ltb before limit m)
    declared_bad (inr m) = rw (next_then file _ 0 at h, lt-ltb before limit m.0, lt-leb (byte file (at + 1)) arity_limit m.1)

    pub declared_good : before < limit → byte file (at + 1) ≤ arity_limit → Ok t ≡ the_record
    unfolding declared ◌>>=◌ need step
    declared_good l m = rw (next_then file _ 0 at h, lt-ltb before limit l, le-leb (byte file (at + 1)) arity_limit m)

-- what is known of one that was read
record One (file : List ℕ) (kind limit before at e : ℕ) : Type 0 where
  gives : declared file kind limit before 0 at ≡ read tt 0 e
  few : before < limit
  found : Found file (only kind) at e

module _ (file : List ℕ) (kind limit before at : ℕ) {t : Reached} (h : Ok t ≡ step (declared file kind limit before 0 at)) where
  one_read : One file kind limit before at t.at
  unfolding declared ◌>>=◌ after need step
  one_read = go (look file (only kind) at)
    where
      allow : (e : ℕ) → Found file (only kind) at e → (b : Bool) → (ltb before limit && leb (byte file (at + 1)) arity_limit) ≡ b → One file kind limit before at t.at
      allow e f true a =
          let d : declared file kind limit before 0 at ≡ read tt 0 e = rw (f.gives 0, a) in
          let k : ◌≡◌ {A = Step} (Ok t) (Ok (record { seen = 0; at = e })) = h ∙ ap step d in
          let p : ◌≡◌ {A = Reached} t (record { seen = 0; at = e }) = cc in
          let q : e ≡ t.at = sym (ap (λ (t : Reached). t.at) p) in
          let o : One file kind limit before at e = record { gives = d; few = ltb-true _ _ (and_left _ _ a); found = f } in
          rw q at o
      allow e f false a =
          let d : declared file kind limit before 0 at ≡ refused 6 at = rw (f.gives 0, a) in
          let k : ◌≡◌ {A = Step} (Ok t) (Err (refusal 6 at)) = h ∙ ap step d in
          cc

      go : Looked file (only kind) at → One file kind limit before at t.at
      go (lost l) =
          let d : declared file kind limit before 0 at ≡ refused l.number l.place = rw (l.gives 0) in
          let k : ◌≡◌ {A = Step} (Ok t) (Err (refusal l.number l.place)) = h ∙ ap step d in
          cc
      go (found e f) = allow e f _ refl

  pub declared_onward : at < t.at
  declared_onward = let o = one_read in let f = o.found in omega (arith, f.end)

-- ---- what was read so far
pub so_far_start : (file : List ℕ) → SoFar file a_function 0 0 0 0
unfolding arities parse_within
so_far_start file =
    record {
      latest = a_function;
      read = [];
      more = length file;
      low = omega arith;
      shut = λ l h. omega arith;
      many = refl;
      few = omega arith;
      enough = omega arith;
      rest = refl;
    }

-- the row of a kind is over
pub so_far_past : {file : List ℕ} {kind functions predicates clauses at : ℕ} → SoFar file kind functions predicates clauses at → (byte file at ≡ kind → ⊥)
    → SoFar file (suc kind) functions predicates clauses at
so_far_past S n =
    record {
      latest = S.latest;
      read = S.read;
      more = S.more;
      low = let l = S.low in omega arith;
      shut = λ l h. S.shut l (omega (arith, n));
      many = S.many;
      few = S.few;
      enough = S.enough;
      rest = S.rest;
    }

-- ---- the functions and the predicates
pairs_more : {file : List ℕ} {limit start n at : ℕ} (kind e : ℕ) → body_length kind ≡ 1 → byte file at ≡ kind → Pairs file limit start n at → One file kind limit n at e
    → Pairs file limit start (n + 1) e
pairs_more {at} kind e b k p o =
    let l = ap body_length k in
    let m = o.few in
    let f = o.found in
    record { few = omega arith; place = omega (arith, p.place, f.end); inside = f.inside }

-- one record more is read: there was one more to read, and it ended further on
left_one : {file : List ℕ} {kind functions predicates clauses at : ℕ} (S : SoFar file kind functions predicates clauses at) → at < length file → S.more ≡ suc (S.more - 1)
left_one S h = let e = S.enough in omega arith

module _ (file : List ℕ) (n at e : ℕ) (o : One file a_function function_limit n at e) (p : Pairs file function_limit 0 n at) (k : byte file at ≡ a_function) where
  function_more : (m latest : ℕ) (ps : List ℕ) (cs : List Clause) → latest ≤ a_function
      → items file todays_limits (suc m) latest (functions_of file n) ps cs 0 at ≡ items file todays_limits m a_function (functions_of file (n + 1)) ps cs 0 e
  unfolding after
  function_more m latest ps cs l =
      item_function file m latest (functions_of file n) ps cs at k l
      ∙ rw (arities_length file 0 n, o.gives, p.place, arities_more file 0 n)

  so_far_function : SoFar file a_function n 0 0 at → SoFar file a_function (n + 1) 0 0 e
  unfolding arities
  so_far_function S =
      let h : at < length file = here_inside file at a_function k (omega arith) in
      let m : S.more ≡ suc (S.more - 1) = left_one S h in
      let f = o.found in
      record {
        latest = a_function;
        read = S.read;
        more = S.more - 1;
        low = omega arith;
        shut = λ l b. omega arith;
        many = S.many;
        few = S.few;
        enough = omega (arith, S.enough, f.end);
        rest = ap verdict (sym (function_more (S.more - 1) S.latest [] S.read S.low)) ∙ rw m at S.rest;
      }

module _ (file : List ℕ) (functions n at e : ℕ) (o : One file a_predicate predicate_limit n at e) (p : Pairs file predicate_limit (2 * functions) n at) (k : byte file at ≡ a_predicate) where
  predicate_more : (m latest : ℕ) (fs : List ℕ) (cs : List Clause) → latest ≤ a_predicate
      → items file todays_limits (suc m) latest fs (predicates_of file functions n) cs 0 at ≡ items file todays_limits m a_predicate fs (predicates_of file functions (n + 1)) cs 0 e
  unfolding after
  predicate_more m latest fs cs l =
      item_predicate file m latest fs (predicates_of file functions n) cs at k l
      ∙ rw (arities_length file (2 * functions) n, o.gives, p.place, arities_more file (2 * functions) n)

  so_far_predicate : SoFar file a_predicate functions n 0 at → SoFar file a_predicate functions (n + 1) 0 e
  so_far_predicate S =
      let h : at < length file = here_inside file at a_predicate k (omega arith) in
      let m : S.more ≡ suc (S.more - 1) = left_one S h in
      let f = o.found in
      record {
        latest = a_predicate;
        read = S.read;
        more = S.more - 1;
        low = omega arith;
        shut = λ l b. omega arith;
        many = S.many;
        few = S.few;
        enough = omega (arith, S.enough, f.end);
        rest = ap verdict (sym (predicate_more (S.more - 1) S.latest (functions_of file functions) S.read S.low)) ∙ rw m at S.rest;
      }

-- a refusal at the first record of what is left is the file's
refused_first : {A : Type 0} {r : Read Rules} {w : Result Counts Refusal} {e : Refusal} (d : Read A) (K : A → Reader Rules) → r ≡ after d K → Err e ≡ step d
    → verdict r ≡ w → Err e ≡ w
unfolding verdict after step
refused_first {e} (refused n p) K q g h = let k : e ≡ refusal n p = cc in ap Err k ∙ sym (ap verdict q) ∙ h
refused_first (read a s i) K q g h = cc

-- a row of them: the records' length, and one more
pub counted_body : {file : List ℕ} {kind limit functions n at : ℕ} → Counted file kind limit functions n at → body_length kind ≡ 1
unfolding body_length body_lengths
counted_body (of_functions p S) = refl
counted_body (of_predicates l p S) = refl

counted_more : {file : List ℕ} {kind limit functions n at e : ℕ} → byte file at ≡ kind → One file kind limit n at e → Counted file kind limit functions n at
    → Counted file kind limit functions (n + 1) e
unfolding body_length body_lengths
counted_more k o (of_functions p S) = of_functions (pairs_more a_function _ refl k p o) (so_far_function _ _ _ _ o p k S)
counted_more k o (of_predicates l p S) = of_predicates l (pairs_more a_predicate _ refl k p o) (so_far_predicate _ _ _ _ _ o p k S)

counted_refused : {file : List ℕ} {kind limit functions n at : ℕ} {e : Refusal} → byte file at ≡ kind → Err e ≡ step (declared file kind limit n 0 at)
    → Counted file kind limit functions n at → Err e ≡ verdict (parse file)
unfolding arities
counted_refused {file} {n} {at} k r (of_functions p S) =
    let m = left_one S (here_inside file at a_function k (omega arith)) in
    refused_first _ _ (item_function file (S.more - 1) S.latest (functions_of file n) [] S.read at k S.low) (rw arities_length r) (rw m at S.rest)
counted_refused {file} {functions} {n} {at} k r (of_predicates l p S) =
    let m = left_one S (here_inside file at a_predicate k (omega arith)) in
    refused_first _ _ (item_predicate file (S.more - 1) S.latest (functions_of file functions) (predicates_of file functions n) S.read at k S.low) (rw arities_length r) (rw m at S.rest)

-- the whole row, where each call answers what the definition's reader does
module _ (file : List ℕ) (kind limit functions : ℕ) (one : Row → Step → Type 0)
    (k : (before : Row) (x : Step) → one before x → x ≡ step (declared file kind limit before.records 0 before.at)) where
  pub counted_row : {before : Row} {r : Result Row Refusal} → Counted file kind limit functions before.records before.at → RowOf one file kind before r
      → Rowed file kind (Counted file kind limit functions) r
  counted_row C (no_more n) = (C, n)
  counted_row C (refused_there s p) = counted_refused s (k _ _ p) C
  counted_row C (one_more {before} s p d) = counted_row (counted_more s (one_read file kind limit before.records before.at (k _ _ p)) C) d

-- ---- the clauses
clause_few : (file functions predicates : List ℕ) (before s at : ℕ) {c : Clause} {t e : ℕ} → clause_after file functions predicates before s at ≡ read c t e → before < clause_limit
unfolding clause_after ◌>>◌ ◌>>=◌ after need
clause_few file functions predicates before s at {c} {t} {e} r = go (look file (only a_clause) at)
  where
    allow : (e' : ℕ) → Found file (only a_clause) at e' → (b : Bool) → ltb before clause_limit ≡ b → before < clause_limit
    allow e' f true a = ltb-true _ _ a
    allow e' f false a =
        let k : refused 6 at ≡ read c t e = sym (rw (f.gives s, a)) ∙ r in
        cc

    go : Looked file (only a_clause) at → before < clause_limit
    go (lost l) =
        let k : refused l.number l.place ≡ read c t e = sym (rw (l.gives s)) ∙ r in
        cc
    go (found e' f) = allow e' f _ refl

-- a clause goes onward
clause_after_on : (file functions predicates : List ℕ) (before s at : ℕ) → Onward (at + 1) (clause_after file functions predicates before s at)
unfolding clause_after ◌>>◌ ◌>>=◌
clause_after_on file functions predicates before s at =
    after_on (next_on file (only a_clause) s at) λ p s₁ e₁ k₁.
    after_on (later k₁ (need_on _ 6 p s₁ e₁)) λ u s₂ e₂ k₂.
    later k₂ (clause_on file functions predicates todays_limits p s₂ e₂)

pub clause_onward : (file functions predicates : List ℕ) (before at : ℕ) {t : Reached} → Ok t ≡ step (clause_after file functions predicates before 0 at) → at < t.at
clause_onward file functions predicates before at h =
    let c = came _ h in
    omega (arith, onward_read (subst (Onward (at + 1)) c.same (clause_after_on file functions predicates before 0 at)))

module _ (file : List ℕ) (functions predicates n at : ℕ) (S : SoFar file a_clause functions predicates n at) (s : byte file at ≡ a_clause) where
  abbrev one_clause : Read Clause
  one_clause = clause_after file (functions_of file functions) (predicates_of file functions predicates) n 0 at

  clause_left : S.more ≡ suc (S.more - 1)
  clause_left = left_one S (here_inside file at a_clause s (omega arith))

  clause_item : items file todays_limits (suc (S.more - 1)) S.latest (functions_of file functions) (predicates_of file functions predicates) S.read 0 at
      ≡ after one_clause (λ c. items file todays_limits (S.more - 1) a_clause (functions_of file functions) (predicates_of file functions predicates) (S.read ++ c ∷ []))
  clause_item = item_clause file (S.more - 1) S.latest _ _ S.read at s S.low ∙ rw S.many

  clauses_refused : {e : Refusal} → Err e ≡ step one_clause → Err e ≡ verdict (parse file)
  clauses_refused h = refused_first _ _ clause_item h (rw clause_left at S.rest)

  clauses_more : {t : Reached} (c : Clause) → one_clause ≡ read c t.seen t.at → at < t.at → SoFar file a_clause functions predicates (n + 1) t.at
  unfolding after
  clauses_more {t} c same on =
      let few : n < clause_limit = clause_few file _ _ n 0 at same in
      record {
        latest = a_clause;
        read = S.read ++ c ∷ [];
        more = S.more - 1;
        low = omega arith;
        shut = λ l b. omega arith;
        many = simp length-append (omega (arith, S.many));
        few = omega arith;
        enough = omega (arith, S.enough, clause_left);
        rest =
            items_fresh file (S.more - 1) a_clause _ _ (S.read ++ c ∷ []) 0 t.seen t.at
            ∙ ap verdict (sym (clause_item ∙ rw same))
            ∙ rw clause_left at S.rest;
      }

  clause_read : {t : Reached} → Ok t ≡ step one_clause → SoFar file a_clause functions predicates (n + 1) t.at
  clause_read h = let k = came one_clause h in clauses_more k.value k.same (clause_onward file _ _ n at h)

-- the whole row
module _ (file : List ℕ) (functions predicates : ℕ) (one : Row → Step → Type 0)
    (k : (before : Row) (x : Step) → one before x
    → x ≡ step (clause_after file (functions_of file functions) (predicates_of file functions predicates) before.records 0 before.at)) where
  pub clauses_row : {before : Row} {r : Result Row Refusal} → SoFar file a_clause functions predicates before.records before.at → RowOf one file a_clause before r
      → Rowed file a_clause (SoFar file a_clause functions predicates) r
  clauses_row S (no_more n) = (S, n)
  clauses_row S (refused_there s p) = clauses_refused file functions predicates _ _ S s (k _ _ p)
  clauses_row S (one_more s p d) = clauses_row (clause_read file functions predicates _ _ S s (k _ _ p)) d
