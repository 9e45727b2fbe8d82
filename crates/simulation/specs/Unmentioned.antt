-- Cells that no value and no goal side of a pair mentions: the variable of such a cell stands inside no value of a goal.
-- Assumes nothing.
use Rattle.std.specs.Prelude.{ℕ, ◌≤◌, ◌<◌, ◌≡◌, refl, Bool, true, false, List, [], ◌∷◌, ◌++◌}
use Rattle.std.proofs.Common.{arith, ne_eqb}
use Rattle.meaning.specs.Terms.{Term, var, Terms, []ₜ, ◌∷ₜ◌, inst, occurs}
use Rattle.meaning.specs.Store.{Store, value}
use Rattle.meaning.specs.Moves.{Pair, pairs}
use Rattle.demands.specs.TermLaws.{occurs_true}
use Rattle.demands.specs.StoreLaws.{Free, value_free}
use Rattle.demands.specs.WellLaws.{Good, Goods, GoodStore, GoodBindings, GoodPairs, well_in, well_inst, value_good, store_bindings_good}

module _ (fs : List ℕ) where
  -- the goal sides of the pairs are over the first k cells
  abbrev pub GoodSides : ℕ → List Pair → Type 0
  GoodSides k [] = Unit {0}
  GoodSides k (p ∷ ps) = Good fs k p.goal_side × GoodSides k ps

  -- no cell from k on is mentioned
  pub record Unmentioned (k : ℕ) (s : Store) (ps : List Pair) : Type 0 where
    pub bindings : GoodBindings fs k s
    pub goals : GoodSides k ps

  sides_good : (k : ℕ) (ps : List Pair) → GoodPairs fs k ps → GoodSides k ps
  sides_good k [] g = tt
  sides_good k (p ∷ ps) g = (g.0, sides_good k ps g.2)

  pub arguments_good : (k : ℕ) (ts us : Terms) → Goods fs k ts → GoodSides k (pairs ts us)
  unfolding pairs
  arguments_good k []ₜ us g = tt
  arguments_good k (t ∷ₜ ts) []ₜ g = tt
  arguments_good k (t ∷ₜ ts) (u ∷ₜ us) g = (g.0, arguments_good k ts us g.1)

  pub sides_append : (k : ℕ) (ps qs : List Pair) → GoodSides k ps → GoodSides k qs → GoodSides k (ps ++ qs)
  sides_append k [] qs g h = h
  sides_append k (p ∷ ps) qs g h = (g.0, sides_append k ps qs g.1 h)

  -- of all cells none is left
  pub all_mentioned : (k : ℕ) (s : Store) (ps : List Pair) → GoodStore fs k s → GoodPairs fs k ps → Unmentioned k s ps
  all_mentioned k s ps g h = record { bindings = store_bindings_good fs k s g; goals = sides_good k ps h }

  -- a cell that is not mentioned does not stand inside the value of a goal
  pub outside : (k : ℕ) (s : Store) (t : Term) (y : ℕ) → GoodBindings fs k s → Good fs k t → k ≤ y → occurs y (inst (value s) t) ≡ false
  outside k s t y b g h = go (occurs y (inst (value s) t)) refl
    where
      go : (o : Bool) → occurs y (inst (value s) t) ≡ o → o ≡ false
      go false e = refl
      go true e = let l = well_in fs (λ z. z < k) y (inst (value s) t) (well_inst fs (λ z. z < k) (λ z. z < k) (value s) (value_good fs k s b) t g) (occurs_true y (inst (value s) t) e) in absurd (omega arith)

-- a free variable does not stand inside another one
pub free_apart : (s : Store) (x y : ℕ) → Free x s → (x ≡ y → ⊥) → occurs y (inst (value s) (var x)) ≡ false
unfolding inst occurs
free_apart s x y f n = rw (value_free s x f) (ne_eqb y x (λ e. n (rw e refl)))
