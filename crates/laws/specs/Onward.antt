-- Reading goes onward: what is read ends at or after the place where it starts.
-- Assumes nothing.
use Prim.Native.Nat.{ℕ, zero, suc, ◌+◌, ◌≤◌}
use Rattle.std.specs.Prelude.{Bool, true, false, List}
use Rattle.std.proofs.Common.{arith}
use Rattle.meaning.specs.Terms.{Term}
use Rattle.meaning.specs.Kinds.{level_limit, RuleLimits}
use Rattle.meaning.specs.Rules.{Goal}
use Rattle.meaning.specs.Reading.{Read, refused, read, Reader, after, ◌>>=◌, ◌>>◌, give, refuse, need, terms, goals, none_seen, all_seen, term_due, goal_due}
use Rattle.meaning.specs.Reading.{next, variable, applied, term, arguments, called, goal, clause}
use Rattle.laws.specs.IfLaws.{if_by}

pub here : (n : ℕ) → n ≤ n
here n = omega arith

pub onto : {a b c : ℕ} → a ≤ b → b ≤ c → a ≤ c
onto h g = omega arith

pub data Onward {A : Type 0} (at : ℕ) : Read A → Type 0 where
  stop : {n p : ℕ} → Onward at (refused n p)
  on : {a : A} {s e : ℕ} → at ≤ e → Onward at (read a s e)

pub onward_read : {A : Type 0} {at : ℕ} {a : A} {s e : ℕ} → Onward at (read a s e) → at ≤ e
onward_read (on h) = h

pub after_on : {A B : Type 0} {at : ℕ} {r : Read A} {f : A → Reader B} → Onward at r → ((a : A) (s e : ℕ) → at ≤ e → Onward at (f a s e)) → Onward at (after r f)
unfolding after
after_on stop k = stop
after_on (on {a} {s} {e} h) k = k a s e h

pub later : {A : Type 0} {at b : ℕ} {r : Read A} → at ≤ b → Onward b r → Onward at r
later h stop = stop
later h (on g) = on (onto h g)

pub need_on : (b : Bool) (n p s at : ℕ) → Onward at (need b n p s at)
unfolding need
need_on true n p s at = on (here at)
need_on false n p s at = stop

pub next_on : (file : List ℕ) (due : ℕ → Bool) (s at : ℕ) → Onward (at + 1) (next file due s at)
unfolding next
next_on file due s at =
    let P : Read ℕ → Type 0 = Onward (at + 1) in
    if_by P _ (λ e. stop) λ e. if_by P _ (λ d. stop) λ d. if_by P _ (λ z. stop) λ z. on (omega arith)

next_past : (file : List ℕ) (due : ℕ → Bool) (s at : ℕ) → Onward at (next file due s at)
next_past file due s at = later (omega arith) (next_on file due s at)

terms_on : (one : Reader Term) → ((s at : ℕ) → Onward at (one s at)) → (n s at : ℕ) → Onward at (terms one n s at)
unfolding terms ◌>>=◌ give
terms_on one h zero s at = on (here at)
terms_on one h (suc n) s at = after_on (h s at) λ t s₁ e₁ k₁. after_on (later k₁ (terms_on one h n s₁ e₁)) λ ts s₂ e₂ k₂. on k₂

goals_on : (one : Reader Goal) → ((s at : ℕ) → Onward at (one s at)) → (n s at : ℕ) → Onward at (goals one n s at)
unfolding goals ◌>>=◌ give
goals_on one h zero s at = on (here at)
goals_on one h (suc n) s at = after_on (h s at) λ g s₁ e₁ k₁. after_on (later k₁ (goals_on one h n s₁ e₁)) λ gs s₂ e₂ k₂. on k₂

module _ (file functions : List ℕ) (declared : ℕ) where
  pub variable_on : (p s at : ℕ) → Onward at (variable file declared p s at)
  unfolding variable
  variable_on p s at =
      let P : Read Term → Type 0 = Onward at in
      if_by P _ (λ e. stop) λ e. if_by P _ (λ d. stop) λ d. if_by P _ (λ z. on (here at)) λ z. on (here at)

  pub applied_on : (argument : Reader Term) → ((s at : ℕ) → Onward at (argument s at)) → (p s at : ℕ) → Onward at (applied file functions argument p s at)
  unfolding applied ◌>>◌ ◌>>=◌ give
  applied_on argument h p s at = after_on (need_on _ 6 p s at) λ u s₁ e₁ k₁. after_on (later k₁ (terms_on argument h _ s₁ e₁)) λ ts s₂ e₂ k₂. on k₂

  pub term_on : (levels s at : ℕ) → Onward at (term file functions declared levels s at)
  unfolding term ◌>>=◌ refuse
  term_on zero s at = after_on (next_past file term_due s at) λ p s₁ e₁ k₁. stop
  term_on (suc levels) s at =
      after_on (next_past file term_due s at) λ p s₁ e₁ k₁.
      if_by (λ (r : Reader Term). Onward at (r s₁ e₁)) _ (λ v. later k₁ (variable_on p s₁ e₁)) λ v. later k₁ (applied_on _ (term_on levels) p s₁ e₁)

module _ (file functions predicates : List ℕ) where
  arguments_on : (declared n s at : ℕ) → Onward at (arguments file functions declared n s at)
  unfolding arguments
  arguments_on declared n s at = terms_on _ (term_on file functions declared level_limit) n s at

  pub called_on : (declared p s at : ℕ) → Onward at (called file functions predicates declared p s at)
  unfolding called ◌>>◌ ◌>>=◌ give
  called_on declared p s at = after_on (need_on _ 6 p s at) λ u s₁ e₁ k₁. after_on (later k₁ (arguments_on declared _ s₁ e₁)) λ ts s₂ e₂ k₂. on k₂

  goal_on : (declared s at : ℕ) → Onward at (goal file functions predicates declared s at)
  unfolding goal ◌>>=◌ give
  goal_on declared s at =
      after_on (next_past file goal_due s at) λ p s₁ e₁ k₁.
      if_by (λ (r : Reader Goal). Onward at (r s₁ e₁)) _ (λ v. on k₁) λ v. later k₁ (called_on declared p s₁ e₁)

  pub clause_on : (most : RuleLimits) (p s at : ℕ) → Onward at (clause file most functions predicates p s at)
  unfolding clause none_seen all_seen ◌>>◌ ◌>>=◌ give
  clause_on most p s at =
      after_on (need_on _ 6 p s at) λ u s₁ e₁ k₁.
      after_on (on k₁) λ v s₂ e₂ k₂.
      after_on (later k₂ (arguments_on _ _ s₂ e₂)) λ ts s₃ e₃ k₃.
      after_on (later k₃ (goals_on _ (goal_on _) _ s₃ e₃)) λ gs s₄ e₄ k₄.
      after_on (later k₄ (need_on _ 7 p s₄ e₄)) λ w s₅ e₅ k₅.
      on k₅
