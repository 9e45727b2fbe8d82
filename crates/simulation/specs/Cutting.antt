-- Matching that is done, and cuts, come to what the definition says.
-- Assumes nothing.
use Prim.Native.Nat.{ℕ, zero, suc, ◌+◌, ◌-◌, ◌≤◌}
use Rattle.std.specs.Prelude.{◌≡◌, length}
use Rattle.std.proofs.Math.Path.{refl, ap}
use Rattle.std.proofs.Common.{sym, subst}
use mathlib.Core.List.{List, [], ◌∷◌}
use native.Mathlib.Omega.{arith}
use Rattle.std.proofs.Math.ListN.{drop}
use Rattle.meaning.specs.Store.{Store}
use Rattle.meaning.specs.Moves.{Open, cut_to, Derivation, Choice, Pair, Done, keep, with_goals, go_on, matching}
use Rattle.demands.specs.Order.{keep_all}
use Rattle.words.specs.Words.{ahead}
use Rattle.search.specs.Search.{step_word, MatchesOn, matched, more, kept_of, cut_regs, MovesCut, cuts}
use Rattle.search.specs.declared.Regs.{Regs}
use Rattle.search.specs.declared.Due.{Due}
use Rattle.simulation.specs.Rep.{Setting, lay, HeightIs, no_height, height, OnChain, here, up, Links, GoalsAre, ChoicesAre, no_choices, choices}
use Rattle.simulation.specs.Frames.{choices_later}
use Rattle.simulation.specs.States.{SoundAll, more as more_sound, Fair, AtIs, DueIs, is_pair}
use Rattle.simulation.specs.Unmentioned.{Unmentioned}
use Rattle.simulation.specs.Goals.{First, a_cut, goals_first, SettledAt, settled_is}
use Rattle.simulation.specs.Going.{ahead_small, goes_on}

module _ (X : Setting) (wanted room : ℕ) where
  -- ---- pairs
  pub matches_on : (w : List ℕ) (m : Regs) (ps : List Pair) (n : Derivation) (cs : List Choice) (d : Done) {r : Due} {v : List ℕ} → MatchesOn X.file (lay X) m w r v → AtIs X w m ps n cs → Unmentioned X.rules.functions m.fresh n.store ps → Fair X n cs → m.units ≡ d.units
      → DueIs X v wanted room d r (matching X.rules X.limits wanted room ps n cs d)
  unfolding matching
  matches_on w m [] n cs d (matched e g) at fresh fair un = goes_on X wanted room w m n cs d at fair un g
  matches_on w m [] n cs d (more e) at fresh fair un = absurd (e at.pairs)
  matches_on w m (p ∷ ps) n cs d (matched e g) at fresh fair un = let q = at.pairs.1 in absurd (omega arith)
  matches_on w m (p ∷ ps) n cs d (more e) at fresh fair un = is_pair at fresh un

  -- ---- choices that a cut keeps
  height_length : (w : List ℕ) {s : Store} {u c h : ℕ} {cs : List Choice} → HeightIs X w c h → ChoicesAre X w s u c cs → length cs ≡ h
  height_length w no_height no_choices = refl
  height_length w {s = s} (height i p q) (choices _ {n = n} chain known numbers goal goals less links settled cells trail prior steps older fewer rest) = ap suc (height_length w {s = n.store} q rest)

  keep_tail : (h : ℕ) (c : Choice) (cs : List Choice) → h ≤ length cs → keep h (c ∷ cs) ≡ keep h cs
  unfolding keep
  keep_tail h c cs l = let e : suc (length cs) - h ≡ suc (length cs - h) = omega arith in ap (λ (k : ℕ). drop k (c ∷ cs)) e

  -- the choices from a choice on the way back are those that its height keeps
  pub kept_choices : (w : List ℕ) {s : Store} {u b c h : ℕ} {cs : List Choice} → OnChain X w b c → HeightIs X w c h → ChoicesAre X w s u b cs → ChoicesAre X w s u c (keep h cs) × (h ≤ length cs)
  kept_choices w {cs = cs} here g ch =
      let e = height_length w g ch in
      (subst (ChoicesAre X w _ _ _) (sym (keep_all _ cs (omega arith))) ch, omega arith)
  kept_choices w {s = s} (up i l o) g (choices _ {n = n} {cs = cs} chain known numbers goal goals less links settled cells trail prior steps older fewer rest) =
      let (k, m) = kept_choices w {s = n.store} o g rest in
      (subst (ChoicesAre X w _ _ _) (sym (keep_tail _ _ cs m)) (choices_later X w older fewer k), omega arith)

  sound_drop : (k : ℕ) (cs : List Choice) → SoundAll X cs → SoundAll X (drop k cs)
  sound_drop zero cs a = a
  sound_drop (suc k) [] a = a
  sound_drop (suc k) (c ∷ cs) (more_sound a b e f) = sound_drop k cs f

  pub fair_keep : (h : ℕ) (n : Derivation) (cs : List Choice) → Fair X n cs → Fair X n (keep h cs)
  unfolding keep
  fair_keep h n cs f = record { good = f.good; within = f.within; choices = sound_drop (length cs - h) cs f.choices }

  -- ---- a cut
  module _ (w : List ℕ) (m : Regs) (o : Open) (n : Derivation) (cs : List Choice) (at : AtIs X w m [] (with_goals (o ∷ n.goals) n) cs) where
    rest_at : (b : ℕ) → m.next.place.0 + 1 ≤ length X.file → GoalsAre X w (m.next.place.0 + 1) m.next.step n.goals → Links X w b m.next.step
        → SettledAt X w at.run.holds.base.tabled b m.next.step n.goals (cut_regs X.file w (lay X) m).next
    unfolding cut_regs
    rest_at b l g k =
        let s = X.short in
        let e : ahead m.next.place.0 1 ≡ m.next.place.0 + 1 = ahead_small m.next.place.0 1 (omega arith) in
        settled_is X w at.run.holds.base.tabled (ahead m.next.place.0 1) m.next.step b n.goals (rw e g) k

    cut_at : (h : ℕ) → ChoicesAre X w n.store n.cells (cut_regs X.file w (lay X) m).choice (keep h cs) → (cut_regs X.file w (lay X) m).choice ≤ m.steps
        → SettledAt X w at.run.holds.base.tabled (cut_regs X.file w (lay X) m).choice m.next.step n.goals (cut_regs X.file w (lay X) m).next → AtIs X w (cut_regs X.file w (lay X) m) [] n (keep h cs)
    unfolding cut_regs with_goals
    cut_at h c l s = record {
      run = record { holds = at.run.holds; cells = at.run.cells; steps = at.run.steps; few_steps = at.run.few_steps; choices = c; choice = l };
      pairs = at.pairs;
      few = at.few;
      next = record { goals = s.goals; step = let a = s.step in let b = at.next.step in omega arith; links = s.links; settled = s.settled };
    }

  -- in the query it keeps none, as word 7 of no step says
  kept_word : (w : List ℕ) (step : ℕ) → kept_of w (lay X) step ≡ step_word w (lay X) step 7
  unfolding kept_of step_word
  kept_word w zero = refl
  kept_word w (suc i) = refl

  -- going back from a choice comes to no choice at last, and to the one that a cut keeps
  chain_end : (w : List ℕ) {s : Store} {u b : ℕ} {cs : List Choice} → ChoicesAre X w s u b cs → OnChain X w b 0
  chain_end w no_choices = here
  chain_end w (choices i chain known numbers goal goals less links settled cells trail prior steps older fewer rest) = up i prior (chain_end w rest)

  chain_kept : (w : List ℕ) {s : Store} {u b : ℕ} {cs : List Choice} (step : ℕ) → ChoicesAre X w s u b cs → Links X w b step → OnChain X w b (step_word w (lay X) step 7)
  unfolding step_word
  chain_kept w zero ch l = chain_end w ch
  chain_kept w (suc i) ch l = l

  step_links : (w : List ℕ) (step : ℕ) → Links X w (step_word w (lay X) step 7) step
  step_links w zero = tt
  step_links w (suc i) = here

  pub cut_moves : (w : List ℕ) (m : Regs) (h : ℕ) (n : Derivation) (cs : List Choice) (d : Done) {r : Due} {v : List ℕ} → MovesCut X.file (lay X) m w r v → AtIs X w m [] (with_goals (cut_to h ∷ n.goals) n) cs → Fair X n cs → m.units ≡ d.units
      → DueIs X v wanted room d r (go_on X.rules X.limits wanted room n (keep h cs) d)
  unfolding cut_regs with_goals
  cut_moves w m h n cs d {r} {v} (cuts g) at fair un = go (goals_first X w at.run.holds.base.tabled at.next.goals at.next.settled)
    where
      go : First X w at.run.holds.base.tabled m.next.place.0 m.next.step (cut_to h ∷ n.goals) → DueIs X v wanted room d r (go_on X.rules X.limits wanted room n (keep h cs) d)
      go (a_cut k hi pr al ga) =
          let c : kept_of w (lay X) m.next.step ≡ step_word w (lay X) m.next.step 7 = kept_word w m.next.step in
          let ch = kept_choices w (chain_kept w m.next.step at.run.choices at.next.links) hi at.run.choices in
          let st = at.next.step in
          goes_on X wanted room w (cut_regs X.file w (lay X) m) n (keep h cs) d
          (cut_at w m (cut_to h) n cs at h (rw c ch.0) (rw c (omega arith)) (rest_at w m (cut_to h) n cs at _ al ga (subst (λ (b : ℕ). Links X w b m.next.step) (sym c) (step_links w m.next.step))))
          (fair_keep h n cs fair) un g
