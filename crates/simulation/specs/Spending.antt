-- A unit is spent: what the words stand for stays.
-- Assumes nothing.
use Rattle.std.specs.Prelude.{ℕ, suc, ◌≡◌, List}
use Rattle.std.proofs.Common.{arith}
use Rattle.meaning.specs.Rules.{Call}
use Rattle.meaning.specs.Moves.{Open, Derivation, Numbered, Choice, Pair}
use Rattle.search.specs.declared.Next.{Next}
use Rattle.search.specs.declared.Regs.{Regs}
use Rattle.search.specs.declared.Trial.{Trial}
use Rattle.simulation.specs.Rep.{Setting, MarksAre}
use Rattle.simulation.specs.States.{Run, Onward, TryIs, AtIs}

-- the same, with so many units spent
abbrev pub later : Regs → ℕ → Regs
later m u = record { cells = m.cells; trail = m.trail; steps = m.steps; choice = m.choice; work = m.work; fresh = m.fresh; next = m.next; units = u }

module _ (X : Setting) (w : List ℕ) (m : Regs) (u : ℕ) (h : u ≡ suc m.units) where
  later_run : {n : Derivation} {cs : List Choice} → Run X w m n cs → Run X w (later m u) n cs
  later_run r = record {
    holds = record { base = r.holds.base; store = r.holds.store; free = r.holds.free; few = r.holds.few; marks = λ x l. let k = r.holds.marks x l in omega arith };
    cells = r.cells;
    steps = r.steps;
    few_steps = r.few_steps;
    choices = r.choices;
    choice = r.choice;
  }

  later_onward : {x : Next} {os : List Open} → Onward X w m x os → Onward X w (later m u) x os
  later_onward o = record { goals = o.goals; step = o.step; links = o.links; settled = o.settled }

  pub later_at : {ps : List Pair} {n : Derivation} {cs : List Choice} → AtIs X w m ps n cs → AtIs X w (later m u) ps n cs
  later_at a = record { run = later_run a.run; pairs = a.pairs; few = a.few; next = later_onward a.next }

  pub later_try : {t : Trial} {k : Numbered} {ks : List Numbered} {g : Call} {n : Derivation} {cs : List Choice} → TryIs X w t m k ks g n cs → TryIs X w t (later m u) k ks g n cs
  later_try t = record {
    run = later_run t.run;
    clause = t.clause;
    place = t.place;
    number = t.number;
    chain = t.chain;
    numbers = t.numbers;
    goal = t.goal;
    next = later_onward t.next;
  }

  -- no cell bears a mark of the unit that is spent
  pub later_marks : {n : Derivation} {cs : List Choice} → Run X w m n cs → MarksAre X w n.cells u
  later_marks r x l = let k = r.holds.marks x l in omega arith
