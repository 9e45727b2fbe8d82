-- What the functions of the search are answered by: clauses by number, going back, and choices by a test.
-- Assumes nothing.
use Prim.Native.Nat.{ℕ, zero, suc, ◌-◌, ◌≤◌, ◌<◌}
use mathlib.Core.Path.{◌≡◌, refl, sym, ◌∙◌}
use mathlib.Core.Bool.{Bool, true, false}
use Rattle.meaning.specs.If.{when◌then◌else◌}
use mathlib.Core.List.{List}
use lib.Dec.{ltb}
use lib.ListN.{length}
use borrow.Author.Tests.{eq-eqb, ne_eqb, lt-ltb, le-ltb, ltb-true}
use Rattle.std.proofs.lemmas.Bool.{or_left, or_right, or_from}
use Rattle.std.specs.Prelude.{Some, None}
use Rattle.meaning.specs.declared.ClauseNumber.{ClauseNumber}
use Rattle.meaning.specs.declared.End.TheVariants.{NoMore}
use Rattle.laws.specs.IfLaws.{if_by, if_true, if_false}
use Rattle.cells.specs.Cells.{undone}
use Rattle.cells.specs.declared.Layout.{Layout}
use Rattle.search.specs.Search.{step_word, clause_numbered, below_of, rest_word, retried, Backs, no_choice, retries, pops, no_clause, first_clause, a_cut, no_goal, a_goal, none_wanted, few_cells, starts}
use Rattle.search.specs.declared.Rest.{Rest}
use Rattle.search.specs.declared.Regs.{Regs}
use Rattle.search.specs.declared.Due.{Due}
use Rattle.search.specs.declared.Due.TheVariants.{Over as OverDue}

-- ---- clauses by number
pub numbered_none : (v : ℕ) → clause_numbered v ≡ None → v ≡ 0
unfolding clause_numbered
numbered_none zero e = refl
numbered_none (suc k) e = cc

pub numbered_some : (v : ℕ) (k : ClauseNumber) → clause_numbered v ≡ Some k → v ≡ suc k.0
unfolding clause_numbered
numbered_some zero k e = cc
numbered_some (suc j) k e = cc

-- ---- choices
pub below_falls : (a b : ℕ) → 0 < b → below_of a b < b
unfolding below_of
below_falls a b h = if_by (λ (n : ℕ). n < b) (ltb a b) (λ t. ltb-true a b t) (λ t. h)

-- ---- going back: what is left to go back over comes to the same
pub record Backing (lay : Layout) (m : Regs) (trail₀ c₀ : ℕ) (w₀ : List ℕ) (trail c : ℕ) (w : List ℕ) : Type 0 where
  pub rest : (d : Due) (u : List ℕ) → Backs lay m trail c w d u → Backs lay m trail₀ c₀ w₀ d u
  pub as_long : length w ≡ length w₀

module _ (lay : Layout) (m : Regs) (trail₀ c₀ : ℕ) (w₀ : List ℕ) (trail c : ℕ) (w : List ℕ) (i : Backing lay m trail₀ c₀ w₀ trail c w) where
  pub back_none : c ≤ 0 → Backs lay m trail₀ c₀ w₀ (OverDue NoMore (record { cells = m.cells; trail = trail; steps = m.steps; choice = 0; work = m.work; fresh = m.fresh; next = m.next; units = m.units })) w
  back_none h = i.rest _ _ (no_choice h)

  module _ (mark : ℕ) (v : List ℕ) (r : Rest) (h : 0 < c) (e : mark ≡ step_word w lay c 6) (f : v ≡ undone trail mark lay w) (g : r ≡ rest_word v lay c) where
    undone_is : v ≡ undone trail (step_word w lay c 6) lay w
    undone_is = rw e at f

    pub back_retry : (d : Due) (k : ClauseNumber) → r.clause ≡ Some k
        → d ≡ retried v lay (record { cells = m.cells; trail = mark; units = m.units; steps = c - 1; choice = r.prior; work = m.work; fresh = m.fresh; next = m.next }) mark c (c - 1) r.prior k.0 → Backs lay m trail₀ c₀ w₀ d v
    unfolding retried
    back_retry d k z q = i.rest _ _ (rw (q, e, g) (retries h undone_is (rw g at z)))

    pub back_again : r.clause ≡ None → length v ≡ length w → Backing lay m trail₀ c₀ w₀ mark r.prior v
    back_again k l = record { rest = λ d u q. i.rest d u (pops h undone_is (rw g at k) (rw (e, g) at q)); as_long = l ∙ i.as_long }

    pub back_less : r.prior < c
    unfolding rest_word
    back_less = rw g (below_falls _ c h)

-- ---- a choice whose test has come out
pub first_of : {A : Type 0} (b : Bool) (x y z : A) → b ≡ true → z ≡ x → z ≡ (when b then x else y)
first_of b x y z e f = f ∙ sym (if_true b x y e)

pub second_of : {A : Type 0} (b : Bool) (x y z : A) → b ≡ false → z ≡ y → z ≡ (when b then x else y)
second_of b x y z e f = f ∙ sym (if_false b x y e)

pub ruleset choosing = (first_of, second_of, lt-ltb, le-ltb, eq-eqb, ne_eqb, or_left, or_right, or_from)

pub ruleset going = (a_cut, no_goal, a_goal, no_clause, first_clause, numbered_none, numbered_some)

pub ruleset starting = (none_wanted, few_cells, starts)
