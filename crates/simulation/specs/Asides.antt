-- What the writing of an answer leaves as it was: it changes only the words that list cells and those of work.
-- Assumes nothing.
use Prim.Native.Nat.{ℕ, zero, suc, ◌+◌, ◌≤◌, ◌<◌}
use Rattle.std.specs.Prelude.{◌≡◌, List, length}
use Rattle.std.proofs.Math.Path.{refl}
use Rattle.std.proofs.Common.{◌∙◌, inl, inr, arith}
use Rattle.meaning.specs.Store.{Store}
use Rattle.meaning.specs.Moves.{Derivation, Choice}
use Rattle.demands.specs.StoreLaws.{Sound}
use Rattle.demands.specs.WellLaws.{GoodStore}
use Rattle.layout.specs.Regions.{word, Keeps}
use Rattle.search.specs.Search.{step_word}
use Rattle.search.specs.declared.Regs.{Regs}
use Rattle.simulation.specs.Rep.{Setting, lay, layout_of, Base}
use Rattle.simulation.specs.Frames.{SameSteps, SameTables, steps_same, choices_same}
use Rattle.simulation.specs.TableFrames.{tables_room, base_same}
use Rattle.simulation.specs.States.{StoreRep, Run}
use Rattle.simulation.specs.Follows.{Stored}
use Rattle.simulation.specs.Insides.{stored_few, store_same}
use Rattle.simulation.specs.Ranges.{in_range_is}

-- what is known of a store with its cells
pub stored_of : (X : Setting) (w : List ℕ) {s : Store} {n k units : ℕ} → Sound s → GoodStore X.rules.functions n s → StoreRep X w s n k units → Stored X w k n s
stored_of X w sound good r = let h = (in_range_is X.limits X.in_limits).few_cells in let l = r.few in record { sound = sound; is = r.store; free = r.free; good = good; few = omega arith }

module _ (X : Setting) where
  -- the words before the list, and those of the steps
  pub record Aside (w v : List ℕ) : Type 0 where
    pub same_length : length v ≡ length w
    pub low : (i : ℕ) → i < (lay X).list → word v i ≡ word w i
    pub steps : (i : ℕ) → (lay X).steps ≤ i → i < (lay X).work → word v i ≡ word w i

  pub aside_none : (w : List ℕ) → Aside w w
  aside_none w = record { same_length = refl; low = λ i h. refl; steps = λ i h k. refl }

  pub aside_then : {u v w : List ℕ} → Aside u v → Aside v w → Aside u w
  aside_then a b = record { same_length = b.same_length ∙ a.same_length; low = λ i h. b.low i h ∙ a.low i h; steps = λ i h k. b.steps i h k ∙ a.steps i h k }

  pub aside_list : {w v : List ℕ} → Keeps (lay X).list (lay X).steps w v → Aside w v
  aside_list k = record { same_length = k.same_length; low = λ i h. k.same i (inl h); steps = λ i h l. k.same i (inr h) }

  pub aside_work : {w v : List ℕ} (hi : ℕ) → Keeps (lay X).work hi w v → Aside w v
  unfolding layout_of
  aside_work hi k = record { same_length = k.same_length; low = λ i h. k.same i (inl (omega arith)); steps = λ i h l. k.same i (inl l) }

  module _ {w v : List ℕ} (a : Aside w v) where
    pub tables_aside : SameTables X w v
    unfolding layout_of
    tables_aside i l h = a.low i (omega arith)

    pub base_aside : Base X w → Base X v
    base_aside = base_same X w v tables_aside a.same_length

    pub stored_aside : {k n : ℕ} {s : Store} → n ≤ X.limits.cells → Stored X w k n s → Stored X v k n s
    unfolding layout_of
    stored_aside {k} {n} {s} h c =
        let l : k ≤ n = stored_few c in
        record {
          sound = c.sound;
          is = store_same X w v k n s (λ y i. a.low _ (omega arith)) (λ j i. a.low _ (omega arith)) c.good c.is;
          free = λ x i f. a.low _ (omega arith) ∙ c.free x i f;
          good = c.good;
          few = c.few;
        }

    pub steps_aside : (k : ℕ) → k ≤ X.limits.steps → SameSteps X k w v
    unfolding step_word layout_of
    steps_aside k h zero j l = refl
    steps_aside k h (suc s) j l = a.steps _ (omega arith) (omega arith)

    -- the run stands for what it stood for
    pub run_aside : {m : Regs} {n : Derivation} {cs : List Choice} → Sound n.store → GoodStore X.rules.functions n.cells n.store → Run X w m n cs → Run X v m n cs
    unfolding layout_of
    run_aside {m} {n} sound good r =
        let few = r.holds.few in
        let c = stored_aside few (stored_of X w sound good r.holds) in
        record {
          holds = record { base = base_aside r.holds.base; store = c.is; free = c.free; few = few; marks = λ x h. rw (a.low ((lay X).marks + x) (omega arith)) (r.holds.marks x h) };
          cells = r.cells;
          steps = steps_same X m.steps w v (steps_aside _ r.few_steps) m.steps n.steps (omega arith) r.steps;
          few_steps = r.few_steps;
          choices = choices_same X w v tables_aside (tables_room X) m.steps (steps_aside _ r.few_steps) r.choice r.choices;
          choice = r.choice;
        }
