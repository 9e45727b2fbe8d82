-- What the returns of matching and the turns of its loops say, where the constructors of the relations do not say it as they stand.
-- Assumes nothing.
use Prim.Native.Nat.{ℕ, suc, ◌+◌, ◌*◌, ◌^◌, ◌≤◌, ◌<◌}
use Rattle.std.specs.Prelude.{Result, Ok, Err, eqb}
use mathlib.Core.Path.{◌≡◌, refl}
use mathlib.Core.Bool.{true, false}
use mathlib.Core.List.{List}
use native.Mathlib.Omega.{arith}
use Rattle.std.proofs.lemmas.Bool.{eqb-true, eqb-false}
use native.Mathlib.Nat.{mod-eq_of_lt}
use Rattle.meaning.specs.declared.CellNumber.{CellNumber}
use Rattle.words.specs.Words.{plus, put_four}
use Rattle.cells.specs.declared.Held.{Held}
use Rattle.cells.specs.declared.Found.{Found}
use Rattle.cells.specs.declared.Found.TheVariants.{Unbound, Function}
use Rattle.cells.specs.declared.Layout.{Layout}
use Rattle.cells.specs.Cells.{place_after, word_of_place}
use Rattle.matching.specs.Matching.{pushed, bound_to, one_bound, BindChecked, unmentioned, Compares, one_variable, head_variable, head_free, goal_free, TakesPair, MatchesPairs, clashed, matched_all, next_pair, came_out}
use Rattle.matching.specs.declared.Pairs.{Pairs}
use Rattle.matching.specs.declared.Clash.{Clash}
use Rattle.matching.specs.declared.Came.TheVariants.{Matched, Clashed}
use Rattle.matching.specs.declared.Matched.{Matched as MatchedPairs}

-- ---- the pairs of arguments
-- one pair fewer is left to write
pub pushed_more : (n work : ℕ) (lay : Layout) (g h : Held) (w v : List ℕ) → v ≡ put_four w (lay.work + 4 * plus work n) (word_of_place g.place) g.base.0 (word_of_place h.place) h.base.0
    → pushed n work lay (record { place = place_after v g.place; base = g.base }) (record { place = place_after v h.place; base = h.base }) v ≡ pushed (n + 1) work lay g h w
unfolding pushed
pushed_more n work lay g h w v e = let s : n + 1 ≡ suc n = omega arith in rw (s, e) refl

-- ---- a free variable of the goal side takes a function applied, and mentions all cells then
pub goal_takes : {file : List ℕ} {lay : Layout} {limit stamp cells : ℕ} {at : Pairs} {x : CellNumber} {e f : ℕ} {s t : Held} {g h : Found} {w v : List ℕ} {r : Result Pairs Clash}
    → g ≡ Unbound x s → h ≡ Function e t → BindChecked file lay stamp at.trail at.work f x t w r v → f ≡ cells → Compares file lay limit stamp cells at.trail at.work at.fresh g h w r v
goal_takes a b k z = goal_free a b (rw z at k)

-- ---- a free variable of the head side: it stands against itself, against another, or takes a function applied that it needs no check for
module _ {file : List ℕ} {lay : Layout} {limit stamp cells : ℕ} {at : Pairs} {y : CellNumber} {s t : Held} {g h : Found} {w : List ℕ} where
  pub one_cell : {x : CellNumber} → g ≡ Unbound x s → h ≡ Unbound y t → eqb x.0 y.0 ≡ true → Compares file lay limit stamp cells at.trail at.work at.fresh g h w (Ok at) w
  one_cell a b e = one_variable a b (eqb-true _ _ e)

  module _ {m : Pairs} {v : List ℕ} (e : Ok m ≡ one_bound at.trail at.work at.fresh) (i : v ≡ bound_to lay at.trail y s w) where
    pub two_cells : {x : CellNumber} → g ≡ Unbound x s → h ≡ Unbound y t → eqb x.0 y.0 ≡ false → Compares file lay limit stamp cells at.trail at.work at.fresh g h w (Ok m) v
    two_cells a b n = rw (e, i) (head_variable a b (eqb-false _ _ n))

    pub fresh_cell : {f : ℕ} → g ≡ Function f s → h ≡ Unbound y t → at.fresh ≤ y.0 → Compares file lay limit stamp cells at.trail at.work at.fresh g h w (Ok m) v
    fresh_cell a b l = rw (e, i) (head_free a b (unmentioned l))

-- ---- the pairs of a head: a unit within the budget is no sum that wraps
next_unit : {budget units : ℕ} → units < budget → budget < 2 ^ 32 → plus units 1 ≡ units + 1
unfolding plus
next_unit h few = mod-eq_of_lt (omega arith)

module _ {file : List ℕ} {lay : Layout} {limit budget cells trail work fresh units : ℕ} {w : List ℕ} (h : units < budget) (few : budget < 2 ^ 32) where
  pub clashes : {c : Clash} {v : List ℕ} → TakesPair file lay limit (units + 1) cells trail work fresh w (Err c) v → MatchesPairs file lay limit budget cells trail work fresh units w (came_out (Clashed c) trail work fresh (units + 1)) v
  clashes a = let e = next_unit h few in rw (← e) (clashed h (rw (← e) at a))

  pub matches : {v : List ℕ} {p : Pairs} → TakesPair file lay limit (units + 1) cells trail work fresh w (Ok p) v → p.work ≡ 0 → MatchesPairs file lay limit budget cells trail work fresh units w (record { came = Matched; pairs = p; units = units + 1 }) v
  matches a z = let e = next_unit h few in rw (← e) (matched_all h (rw (← e) at a) z)

  pub goes : {v u : List ℕ} {p : Pairs} {r : MatchedPairs} → TakesPair file lay limit (units + 1) cells trail work fresh w (Ok p) v → (p.work ≡ 0 → ⊥) → MatchesPairs file lay limit budget cells p.trail p.work p.fresh (units + 1) v r u → MatchesPairs file lay limit budget cells trail work fresh units w r u
  goes a z b = let e = next_unit h few in next_pair h (rw (← e) at a) z (rw (← e) at b)
