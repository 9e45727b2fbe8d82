-- Which kinds may stand where: what is left of the kinds that are due.
-- Assumes nothing.
use Rattle.std.specs.Prelude.{ℕ, ◌≤◌, ◌≡◌, refl, Bool, true, false, ◌&&◌, ◌||◌, ◌⊎◌, leb, eqb}
use Rattle.std.proofs.Common.{sym, ◌∙◌, inl, inr, ⊎_elim, arith, leb-true, eqb-true}
use Rattle.std.proofs.lemmas.Bool.{eqb-false}
use Rattle.meaning.specs.Kinds.{a_function, a_predicate, a_clause, a_variable, an_application, a_goal, a_cut, a_query}
use Rattle.meaning.specs.Reading.{term_due, goal_due, item_due}
use Rattle.laws.specs.IfLaws.{and_right}

or_first : (a b : Bool) → (a || b) ≡ true → b ≡ false → a ≡ true
or_first true b e f = refl
or_first false b e f = sym f ∙ e

-- of a term and of a goal
pub application_left : (kind : ℕ) → term_due kind ≡ true → eqb kind a_variable ≡ false → kind ≡ an_application
unfolding term_due
application_left kind due v = eqb-true kind an_application (rw v at due)

pub goal_left : (kind : ℕ) → goal_due kind ≡ true → eqb kind a_cut ≡ false → kind ≡ a_goal
unfolding goal_due
goal_left kind due v = eqb-true kind a_goal (or_first _ _ due v)

-- at the top level none may go back to a kind before the latest
pub item_order : (latest kind k : ℕ) → item_due latest kind ≡ true → kind ≡ k → k ≤ a_clause → latest ≤ k
unfolding item_due
item_order latest kind k e same h = go (leb latest kind) refl
  where
    go : (b : Bool) → leb latest kind ≡ b → latest ≤ k
    go true d = omega (arith, leb-true latest kind d)
    go false d = omega (arith, eqb-true kind a_query (rw d at e))

pub item_kind : (latest kind : ℕ) → item_due latest kind ≡ true → (kind ≤ a_clause) ⊎ (kind ≡ a_query)
unfolding item_due
item_kind latest kind e = go (eqb kind a_query) refl
  where
    go : (b : Bool) → eqb kind a_query ≡ b → (kind ≤ a_clause) ⊎ (kind ≡ a_query)
    go true d = inr (eqb-true kind a_query d)
    go false d = inl (leb-true kind a_clause (and_right (leb latest kind) (leb kind a_clause) (or_first (leb latest kind && leb kind a_clause) (eqb kind a_query) e d)))

-- what is due and is of no other kind is the query
pub query_left : (latest kind : ℕ) → a_function ≤ latest → item_due latest kind ≡ true → eqb kind a_function ≡ false → eqb kind a_predicate ≡ false → eqb kind a_clause ≡ false → kind ≡ a_query
query_left latest kind l e v₁ v₂ v₃ =
    ⊎_elim (λ h. absurd (omega (arith, item_order latest kind kind e refl h, eqb-false kind a_function v₁, eqb-false kind a_predicate v₂, eqb-false kind a_clause v₃)))
    (λ h. h) (item_kind latest kind e)
