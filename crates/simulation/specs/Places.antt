-- The places of terms and goals in a good file: where an argument list of the rules goes on, and where goals do.
-- Assumes nothing.
use Rattle.std.specs.Prelude.{ℕ, ◌+◌, ◌≡◌, List, ◌∷◌}
use Rattle.std.proofs.Math.Option.{some}
use Rattle.std.proofs.Math.ListN.{get_elem?}
use Rattle.meaning.specs.Terms.{Term, app, Terms, ◌∷ₜ◌, inst, from}
use Rattle.meaning.specs.Rules.{Call, Goal, call, Clause, Rules}
use Rattle.layout.specs.Lengths.{term_length, goal_length, head_length, clause_place, query_place}
use Rattle.cells.specs.declared.Held.{Held}

-- the goals hs are what is left at q of the goals gs, which begin at p
pub data GoalsFrom : ℕ → List Goal → ℕ → List Goal → Type 0 where
  whole : {p : ℕ} {gs : List Goal} → GoalsFrom p gs p gs
  later : {p q : ℕ} {g : Goal} {gs hs : List Goal} → GoalsFrom (p + goal_length g) gs q hs → GoalsFrom p (g ∷ gs) q hs

module _ (R : Rules) where
  -- at p stands what is left of the body of the clause k, of the query
  pub record BodyAt (k p : ℕ) (gs : List Goal) : Type 0 where
    pub clause : Clause
    pub known : get_elem? R.clauses k ≡ some clause
    pub left : GoalsFrom (clause_place R k + head_length clause) clause.body p gs

  abbrev pub QueryAt : ℕ → List Goal → Type 0
  QueryAt p gs = GoalsFrom (query_place R + 3) R.query p gs

  -- at p stand these terms one after another: what is left of the arguments of a head, a goal or an applied function
  pub data TermsAt : ℕ → Terms → Type 0 where
    of_head : (k : ℕ) (c : Clause) → get_elem? R.clauses k ≡ some c → TermsAt (clause_place R k + 5) c.head.arguments
    of_body : {k p : ℕ} {g : Call} {gs : List Goal} → BodyAt k p (call g ∷ gs) → TermsAt (p + 3) g.arguments
    of_query : {p : ℕ} {g : Call} {gs : List Goal} → QueryAt p (call g ∷ gs) → TermsAt (p + 3) g.arguments
    of_term : {p f : ℕ} {ts us : Terms} → TermsAt p (app f ts ∷ₜ us) → TermsAt (p + 3) ts
    rest : {p : ℕ} {t : Term} {ts : Terms} → TermsAt p (t ∷ₜ ts) → TermsAt (p + term_length t) ts

  -- what is held is the term t over cells: a term of the rules, its variables counted from the base
  pub record IsHeld (h : Held) (t : Term) : Type 0 where
    pub raw : Term
    pub behind : Terms
    pub stands : TermsAt h.place.0 (raw ∷ₜ behind)
    pub is : t ≡ inst (from h.base.0) raw
