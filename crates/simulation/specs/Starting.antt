-- The start of a run comes to what the definition says.
-- Assumes nothing.
use Rattle.std.specs.Prelude.{ℕ, ◌+◌, ◌≤◌, ◌≡◌}
use Rattle.std.proofs.Math.Path.{refl, subst}
use Rattle.std.proofs.Common.{sym, ◌∙◌, eq-eqb, ne_eqb, lt-ltb, le-ltb}
use mathlib.Core.List.{List, []}
use native.Mathlib.Omega.{arith}
use Rattle.meaning.specs.Editions.{todays}
use Rattle.meaning.specs.Outcome.{end_number}
use Rattle.meaning.specs.declared.End.TheVariants.{Wanted, Cells}
use Rattle.meaning.specs.Call.{needed}
use Rattle.meaning.specs.Moves.{Derivation, asked, nothing, start_keeping, start}
use Rattle.laws.specs.IfLaws.{if_true, if_false}
use Rattle.demands.specs.GoodFiles.{good_files_are_well_formed}
use Rattle.demands.specs.Ways.{asked_good}
use Rattle.layout.specs.Lengths.{query_place}
use Rattle.cells.specs.Cells.{freed}
use Rattle.search.specs.Search.{start_regs, Starts, none_wanted, few_cells, starts}
use Rattle.search.specs.declared.Regs.{Regs}
use Rattle.search.specs.declared.Due.{Due}
use Rattle.simulation.specs.Places.{whole}
use Rattle.simulation.specs.PlaceLaws.{rules_stand}
use Rattle.simulation.specs.Rep.{Setting, lay, layout_of, Base, in_query, no_choices}
use Rattle.simulation.specs.TableFrames.{base_same}
use Rattle.simulation.specs.States.{none, Fair, AtIs, DueIs, is_over}
use Rattle.simulation.specs.Going.{goes_on, ahead_small}
use Rattle.simulation.specs.Fresh.{Cleared, freed_clears}
use Rattle.simulation.specs.Trying.{given_of}

module _ (X : Setting) (wanted room : ℕ) where
  abbrev n₀ : Derivation
  n₀ = asked X.rules todays.query_keeps

  abbrev m₀ : Regs
  m₀ = record { cells = X.rules.variables; trail = 0; steps = 0; choice = 0; work = 0; fresh = 0; next = record { place = record { 0 = query_place X.rules + 3 }; step = 0 }; units = 0 }

  -- the registers before the first unit
  regs_are : start_regs X.file (given_of X) ≡ m₀
  unfolding start_regs given_of
  regs_are =
      let s = rules_stand X in let e = s.ends in let f = X.short in
      rw (s.query_variables, ahead_small (query_place X.rules) 3 (omega arith)) refl

  module _ (w : List ℕ) (b : Base X w) (h : X.rules.variables ≤ X.limits.cells) where
    abbrev v : List ℕ
    v = freed X.rules.variables 0 (lay X) w

    cleared : Cleared X w 0 X.rules.variables v
    unfolding layout_of needed
    cleared = freed_clears X X.rules.variables 0 w (omega arith) (let l = b.long in omega arith)

    base_is : Base X v
    unfolding layout_of
    base_is = base_same X w v (λ i a c. cleared.same i (λ x d e. ((λ q. omega arith), λ q. omega arith))) cleared.as_long b

    at_start : AtIs X v m₀ [] n₀ []
    at_start = record {
      run = record {
        holds = record { base = base_is; store = refl; free = λ x l f. cleared.cells x (omega arith) (omega arith); few = h; marks = λ x l. let z = cleared.marks x (omega arith) (omega arith) in omega arith };
        cells = refl;
        steps = (refl, λ j l. absurd (omega arith));
        few_steps = omega arith;
        choices = no_choices;
        choice = omega arith;
      };
      pairs = refl;
      few = omega arith;
      next = record { goals = in_query whole; step = omega arith; links = tt; settled = tt };
    }

    fair_start : Fair X n₀ []
    fair_start = record { good = asked_good X.rules (good_files_are_well_formed X.file X.rules (X.seen, X.end, X.good)) todays.query_keeps; within = tt; choices = none }

  pub start_comes : {w u : List ℕ} {r : Due} → Base X w → Starts X.file (given_of X) wanted w r u → DueIs X u wanted room nothing r (start X.rules X.limits wanted room)
  unfolding start_keeping nothing end_number given_of start_regs
  start_comes {w} b (none_wanted e) = subst (DueIs X w wanted room nothing _) (sym (if_true _ _ _ (eq-eqb wanted 0 e))) (is_over Wanted refl)
  start_comes {w} b (few_cells e l) =
      let q = (rules_stand X).query_variables in
      subst (DueIs X w wanted room nothing _) (sym (if_false _ _ _ (ne_eqb wanted 0 e) ∙ if_true _ _ _ (lt-ltb X.limits.cells X.rules.variables (omega arith)))) (is_over Cells refl)
  start_comes {w} {u} b (starts e l g) =
      let q = (rules_stand X).query_variables in
      let h : X.rules.variables ≤ X.limits.cells = omega arith in
      subst (DueIs X u wanted room nothing _) (sym (if_false _ _ _ (ne_eqb wanted 0 e) ∙ if_false _ _ _ (le-ltb X.limits.cells X.rules.variables h)))
      (goes_on X wanted room (v w b h) m₀ n₀ [] nothing (at_start w b h) (fair_start w b h) refl (rw (regs_are, q) at g))
