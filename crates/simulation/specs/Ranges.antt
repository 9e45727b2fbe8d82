-- The run limits of a run that is not refused.
-- Assumes nothing.
use Rattle.std.specs.Prelude.{ℕ, ◌^◌, ◌≤◌, ◌<◌, ◌≡◌, Bool, true, ◌&&◌, leb, length}
use Rattle.std.proofs.Math.Option.{some}
use Rattle.std.proofs.Common.{arith, leb-true}
use Rattle.std.proofs.Math.ListN.{get_elem?}
use Rattle.meaning.specs.Kinds.{arity_limit}
use Rattle.meaning.specs.Moves.{Limits}
use Rattle.meaning.specs.Call.{in_range, needed}
use Rattle.laws.specs.IfLaws.{and_left, and_right}
use Rattle.demands.specs.Order.{each_at}
use Rattle.demands.specs.GoodFiles.{good_files_have_small_arities}
use Rattle.simulation.specs.Rep.{Setting}

pub record Range (L : Limits) : Type 0 where
  pub few_cells : L.cells ≤ 60000
  pub few_steps : L.steps ≤ 60000
  pub some_work : 8 ≤ L.work
  pub few_work : L.work ≤ 60000

and_both : (a b : Bool) → (a && b) ≡ true → (a ≡ true) × (b ≡ true)
and_both a b e = (and_left a b e, and_right a b e)

pub in_range_is : (L : Limits) → in_range L ≡ true → Range L
unfolding in_range
in_range_is L e =
    let c₁ = leb 1 L.cells in
    let c₂ = leb L.cells 60000 in
    let s₁ = leb 1 L.steps in
    let s₂ = leb L.steps 60000 in
    let w₁ = leb 8 L.work in
    let w₂ = leb L.work 60000 in
    let (a, w_most) = and_both (c₁ && c₂ && s₁ && s₂ && w₁) w₂ e in
    let (b, w_least) = and_both (c₁ && c₂ && s₁ && s₂) w₁ a in
    let (c, s_most) = and_both (c₁ && c₂ && s₁) s₂ b in
    let (d, s_least) = and_both (c₁ && c₂) s₁ c in
    let (c_least, c_most) = and_both c₁ c₂ d in
    record { few_cells = leb-true _ _ c_most; few_steps = leb-true _ _ s_most; some_work = leb-true _ _ w_least; few_work = leb-true _ _ w_most }

-- the words that a run needs are few
pub needed_small : (X : Setting) → needed (length X.file) X.limits < 2 ^ 32
unfolding needed
needed_small X = let r = in_range_is X.limits X.in_limits in let s = X.short in let a = r.few_cells in let b = r.few_steps in let c = r.few_work in omega arith

-- ---- the arities of a good file
module _ (X : Setting) where
  pub few_functions : (f a : ℕ) → get_elem? X.rules.functions f ≡ some a → a ≤ arity_limit
  few_functions f a e = each_at _ X.rules.functions f a (good_files_have_small_arities X.file X.rules (X.seen, X.end, X.good)).0 e

  pub few_predicates : (q a : ℕ) → get_elem? X.rules.predicates q ≡ some a → a ≤ arity_limit
  few_predicates q a e = each_at _ X.rules.predicates q a (good_files_have_small_arities X.file X.rules (X.seen, X.end, X.good)).1 e
