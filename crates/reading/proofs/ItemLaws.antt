-- The definition's records of the top level, one at a time: what stands here, and then the rest.
-- Assumes nothing.
use Prim.Native.Nat.{ℕ, zero, suc, ◌+◌, ◌≤◌}
use mathlib.Core.Path.{◌≡◌, refl, sym, ◌∙◌}
use mathlib.Core.Bool.{Bool, true, false, ◌&&◌}
use mathlib.Core.List.{List, [], ◌∷◌, ◌++◌}
use native.Mathlib.Omega.{arith}
use lib.Dec.{leb, ltb}
use lib.ListN.{length}
use borrow.Author.Tests.{le-leb, eq-eqb, leb-true, eqb-true}
use Rattle.meaning.specs.If.{when◌then◌else◌}
use Rattle.meaning.specs.Kinds.{a_function, a_predicate, a_clause, a_query, function_limit, predicate_limit, clause_limit, todays_limits}
use Rattle.meaning.specs.Rules.{Clause, Rules}
use Rattle.meaning.specs.Reading.{Read, refused, read, Reader, after, ◌>>=◌, ◌>>◌, need, none_seen, item_due}
use Rattle.meaning.specs.Reading.{byte, next, clause, query, items}
use Rattle.reading.specs.Verdict.{verdict}
use Rattle.reading.specs.Steps.{only, declared, clause_after, last}
use Rattle.laws.specs.IfLaws.{if_by}
use Rattle.reading.proofs.StepLaws.{Found, Looked, lost, found, look, next_due, only_eqb}

-- ---- what has appeared before a clause or query does not matter
need_fresh : {A X : Type 0} (F : Read A → X) (b : Bool) (n p s t e : ℕ) (m : Reader A) → F (m s e) ≡ F (m t e)
    → F (after (need b n p s e) (λ u. m)) ≡ F (after (need b n p t e) (λ u. m))
unfolding need after
need_fresh F true n p s t e m h = h
need_fresh F false n p s t e m h = refl

module _ (file functions predicates : List ℕ) (p s t e : ℕ) where
  clause_fresh : clause file todays_limits functions predicates p s e ≡ clause file todays_limits functions predicates p t e
  unfolding clause ◌>>◌ none_seen after
  clause_fresh = need_fresh (λ r. r) _ 6 p s t e _ refl

  query_fresh : (clauses : List Clause) → query file todays_limits functions predicates clauses p s e ≡ query file todays_limits functions predicates clauses p t e
  unfolding query ◌>>◌ none_seen after
  query_fresh clauses = need_fresh (λ r. r) _ 6 p s t e _ refl

module _ (file : List ℕ) where
  abbrev Fresh : ℕ → Type 0
  Fresh more = (latest : ℕ) (functions predicates : List ℕ) (clauses : List Clause) (s t at : ℕ)
      → verdict (items file todays_limits more latest functions predicates clauses s at) ≡ verdict (items file todays_limits more latest functions predicates clauses t at)

  fresh_more : (more : ℕ) → Fresh more → Fresh (suc more)
  unfolding items ◌>>◌ ◌>>=◌ after
  fresh_more more ih latest fs ps cs s t at = go (look file (item_due latest) at)
    where
      go : Looked file (item_due latest) at → verdict (items file todays_limits (suc more) latest fs ps cs s at) ≡ verdict (items file todays_limits (suc more) latest fs ps cs t at)
      go (lost l) = rw (l.gives s, l.gives t)
      go (found e f) =
          let Same : Reader Rules → Type 0 = λ r. verdict (r s e) ≡ verdict (r t e) in
          rw (f.gives s, f.gives t)
          (if_by Same _ (λ k. need_fresh verdict _ 6 at s t e _ (ih _ _ _ _ s t e)) λ k.
          if_by Same _ (λ k. need_fresh verdict _ 6 at s t e _ (ih _ _ _ _ s t e)) λ k.
          if_by Same _ (λ k. need_fresh verdict _ 6 at s t e _ (rw (clause_fresh file fs ps at s t e))) λ k.
          rw (query_fresh file fs ps at s t e cs))

  pub items_fresh : (more : ℕ) → Fresh more
  unfolding items
  items_fresh zero latest fs ps cs s t at = refl
  items_fresh (suc more) latest fs ps cs s t at = fresh_more more (items_fresh more) latest fs ps cs s t at

-- ---- one record, by its kind
-- a kind from the latest on is due
due_from : (latest kind k : ℕ) → latest ≤ k → k ≤ a_clause → kind ≡ k → item_due latest kind ≡ only k kind
unfolding item_due
due_from latest kind k l h e =
    rw (le-leb latest kind (omega arith), le-leb kind a_clause (omega arith)) (sym (only_eqb k kind ∙ eq-eqb kind k e))

-- where all kinds before the query are shut, only the query is due
due_query : (latest kind : ℕ) → (latest ≤ kind → kind ≤ a_clause → ⊥) → item_due latest kind ≡ only a_query kind
unfolding item_due
due_query latest kind h = rw shut (sym (only_eqb a_query kind))
  where
    go : (a b : Bool) → leb latest kind ≡ a → leb kind a_clause ≡ b → (leb latest kind && leb kind a_clause) ≡ false
    go true true p q = absurd (h (leb-true latest kind p) (leb-true kind a_clause q))
    go true false p q = rw (p, q)
    go false b p q = rw p

    shut : (leb latest kind && leb kind a_clause) ≡ false
    shut = go _ _ refl refl

-- readers in a row
after_after : {A B C : Type 0} (r : Read A) (f : A → Reader B) (g : B → Reader C) → after r (λ a s e. after (f a s e) g) ≡ after (after r f) g
unfolding after
after_after (refused n p) f g = refl
after_after (read a s e) f g = refl

module _ (file : List ℕ) (more latest : ℕ) (functions predicates : List ℕ) (clauses : List Clause) (at : ℕ) where
  abbrev all : Read Rules
  all = items file todays_limits (suc more) latest functions predicates clauses 0 at

  -- with the continuation K, which agrees with the definition's where the record was found
  module _ (k : ℕ) (d : item_due latest (byte file at) ≡ only k (byte file at)) where
    item_here : (K : ℕ → Reader Rules) → ((e : ℕ) → byte file at ≡ k → Found file (item_due latest) at e → all ≡ K at 0 e) → all ≡ after (next file (only k) 0 at) K
    unfolding items ◌>>=◌ after
    item_here K h = go (look file (item_due latest) at)
      where
        same : next file (item_due latest) 0 at ≡ next file (only k) 0 at
        same = next_due file _ _ 0 at d

        go : Looked file (item_due latest) at → all ≡ after (next file (only k) 0 at) K
        go (lost l) = rw (← same, l.gives 0)
        go (found e f) = h e (eqb-true _ _ (sym (only_eqb k (byte file at)) ∙ sym d ∙ f.kind)) f ∙ rw (← same, f.gives 0)

  pub item_function : byte file at ≡ a_function → latest ≤ a_function
      → all ≡ after (declared file a_function function_limit (length functions) 0 at) (λ u. items file todays_limits more a_function (functions ++ byte file (at + 1) ∷ []) predicates clauses)
  unfolding declared items ◌>>◌ ◌>>=◌ after when◌then◌else◌
  item_function k l =
      item_here a_function (due_from latest (byte file at) a_function l (omega arith) k) _ (λ e b f. rw (f.gives 0, eq-eqb (byte file at) a_function b))
      ∙ after_after (next file (only a_function) 0 at) _ _

  pub item_predicate : byte file at ≡ a_predicate → latest ≤ a_predicate
      → all ≡ after (declared file a_predicate predicate_limit (length predicates) 0 at) (λ u. items file todays_limits more a_predicate functions (predicates ++ byte file (at + 1) ∷ []) clauses)
  unfolding declared items ◌>>◌ ◌>>=◌ after when◌then◌else◌
  item_predicate k l =
      item_here a_predicate (due_from latest (byte file at) a_predicate l (omega arith) k) _ (λ e b f. rw (f.gives 0, b))
      ∙ after_after (next file (only a_predicate) 0 at) _ _

  pub item_clause : byte file at ≡ a_clause → latest ≤ a_clause
      → all ≡ after (clause_after file functions predicates (length clauses) 0 at) (λ c. items file todays_limits more a_clause functions predicates (clauses ++ c ∷ []))
  unfolding clause_after items ◌>>◌ ◌>>=◌ after when◌then◌else◌
  item_clause k l =
      item_here a_clause (due_from latest (byte file at) a_clause l (omega arith) k) _ (λ e b f. rw (f.gives 0, b) (after_after (need (ltb (length clauses) clause_limit) 6 at 0 e) _ _))
      ∙ after_after (next file (only a_clause) 0 at) _ _

  pub item_query : (latest ≤ byte file at → byte file at ≤ a_clause → ⊥) → all ≡ last file functions predicates clauses 0 at
  unfolding last items ◌>>=◌ after when◌then◌else◌
  item_query h = item_here a_query (due_query latest (byte file at) h) _ (λ e b f. rw (f.gives 0, b))
