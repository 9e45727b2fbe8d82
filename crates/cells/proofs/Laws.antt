-- What each turn of a loop of the functions over cells comes to, and the laws that their proofs go by.
-- Assumes nothing.
use Prim.Native.Nat.{ℕ, zero, suc, ◌+◌, ◌-◌, ◌≤◌, ◌<◌}
use mathlib.Core.Path.{◌≡◌, refl}
use mathlib.Core.List.{List}
use Rattle.std.specs.Prelude.{Option, Some, None, Result, Ok, Err}
use Rattle.std.specs.Option.{is_some}
use Rattle.std.specs.Result.{result_unwrap_or}
use mathlib.Core.Bool.{Bool, true, false, not}
use native.Mathlib.Omega.{arith}
use lib.Dec.{leb}
use lib.ListN.{get_or, set}
use borrow.Author.Tests.{eq-eqb, ne_eqb, le-leb, lt-leb}
use Rattle.words.specs.Words.{plus}
use Rattle.laws.specs.IfLaws.{if_true, if_false}
use Rattle.cells.specs.Cells.{hop_of, hopped, followed, undone, freed, same, free, known, listed, variable, function}
use Rattle.cells.specs.Cells.{over, met, on, was_free, was_bound, Looks, all, found, none, next, looks}
use Rattle.cells.specs.declared.Held.{Held}
use Rattle.cells.specs.declared.Found.{Found}
use Rattle.cells.specs.declared.Found.TheVariants.{Function}
use Rattle.cells.specs.declared.Layout.{Layout}

-- a choice by a test on two numbers, where they are equal and where they are not
pub ruleset choices = (if_true, if_false, eq-eqb, ne_eqb)

-- ---- following: what is left to follow comes to the same
module _ (file w : List ℕ) (lay : Layout) (h : Held) where
  pub follow_stop : (k : ℕ) (f : Found) → hop_of file w lay h ≡ Ok f → followed k file w lay h ≡ f
  unfolding followed hopped
  follow_stop zero f e = rw e refl
  follow_stop (suc k) f e = rw e refl

  pub follow_last : (k : ℕ) → k ≡ 0 → followed k file w lay h ≡ result_unwrap_or (hop_of file w lay h) (Function 0 h)
  unfolding followed hopped
  follow_last zero e = go (hop_of file w lay h)
    where
      go : (p : Result Found Held) → hopped (λ n. Function 0 h) p ≡ result_unwrap_or p (Function 0 h)
      go (Ok f) = refl
      go (Err n) = refl
  follow_last (suc k) e = absurd (omega arith)

  pub follow_again : (hops counter : ℕ) (n : Held) → counter < hops → hop_of file w lay h ≡ Err n → followed (hops - counter) file w lay h ≡ followed (hops - (counter + 1)) file w lay n
  unfolding followed hopped
  follow_again hops counter n l e =
      let z : hops - counter ≡ suc (hops - (counter + 1)) = omega arith in
      rw (z, e) refl

pub ruleset follows = (follow_stop, follow_last, follow_again)

-- ---- going back
pub undo_again : (t mark : ℕ) (lay : Layout) (w : List ℕ) → mark < t → undone t mark lay w ≡ undone (t - 1) mark lay (set w (lay.cells + get_or w (lay.trail + (t - 1)) 0) 0)
unfolding undone
undo_again zero mark lay w h = absurd (omega arith)
undo_again (suc k) mark lay w h = let z : suc k - 1 ≡ k = omega arith in rw z (if_true (leb mark k) _ _ (le-leb mark k (omega arith)))

pub undo_end : (t mark : ℕ) (lay : Layout) (w : List ℕ) → t ≤ mark → undone t mark lay w ≡ w
unfolding undone
undo_end zero mark lay w h = refl
undo_end (suc k) mark lay w h = if_false (leb mark k) _ _ (lt-leb mark k h)

pub ruleset undoes = (undo_again, undo_end)

-- ---- fresh cells
pub clear_again : (n from : ℕ) (lay : Layout) (w : List ℕ) → 0 < n → freed n from lay w ≡ freed (n - 1) from lay (set (set w (lay.cells + plus from (n - 1)) 0) (lay.marks + plus from (n - 1)) 0)
unfolding freed
clear_again zero from lay w h = absurd (omega arith)
clear_again (suc k) from lay w h = let z : suc k - 1 ≡ k = omega arith in rw z refl

pub clear_end : (n from : ℕ) (lay : Layout) (w : List ℕ) → n ≤ 0 → freed n from lay w ≡ w
unfolding freed
clear_end zero from lay w h = refl
clear_end (suc k) from lay w h = absurd (omega arith)

pub ruleset frees = (clear_again, clear_end)

-- ---- the check inside a value: what each relation says, case by case
pub ruleset visits = (same, free, known, listed)

pub ruleset meets = (variable, function)

pub ruleset scans = (over, met, on)

pub ruleset looks_into = (was_free, was_bound)

-- where as many cells were looked into as are bound, the variable was met or stands nowhere
pub all_looked : (file : List ℕ) (lay : Layout) (stamp bound x i : ℕ) (s : Option ℕ) (w : List ℕ) (met : Bool) → is_some s ≡ not met → bound ≤ i → Looks file lay stamp bound x i s w met w
all_looked file lay stamp bound x i None w true e h = found
all_looked file lay stamp bound x i None w false e h = cc
all_looked file lay stamp bound x i (Some n) w true e h = cc
all_looked file lay stamp bound x i (Some n) w false e h = all h

pub ruleset looks_on = (all_looked, found, none, next, looks)
