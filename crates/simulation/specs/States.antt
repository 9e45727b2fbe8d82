-- When the registers and words of a run stand for a state of the definition.
-- Assumes nothing.
use Rattle.std.specs.Prelude.{ℕ, suc, ◌≤◌, ◌<◌, ◌≡◌, List, [], ◌∷◌, length}
use Rattle.meaning.specs.Rules.{Call}
use Rattle.meaning.specs.Outcome.{end_number}
use Rattle.meaning.specs.Store.{Store}
use Rattle.meaning.specs.Moves.{Open, cut_to, Derivation, Numbered, Choice, choice, Pair, trying, taking, cutting, Done, State, ended, due, with_goals, answering}
use Rattle.meaning.specs.declared.End.{End}
use Rattle.demands.specs.Proofs.{Each}
use Rattle.demands.specs.StoreLaws.{Free, Sound}
use Rattle.demands.specs.Ways.{GoodAt}
use Rattle.layout.specs.Lengths.{clause_place}
use Rattle.layout.specs.Regions.{word, place_at}
use Rattle.layout.specs.Tables.{Chain}
use Rattle.search.specs.Search.{clause_next_word}
use Rattle.search.specs.declared.Regs.{Regs}
use Rattle.search.specs.declared.Next.{Next}
use Rattle.search.specs.declared.Trial.{Trial}
use Rattle.search.specs.declared.Due.{Due}
use Rattle.search.specs.declared.Due.TheVariants.{Try, Pair as PairDue, Cut, Answer, Over}
use Rattle.simulation.specs.Rep.{Setting, lay, Base, StoreIs, FreeIs, MarksAre, PairsAre, StepsAre, Links, Settled, GoalsAre, GoalIs, ChoicesAre}
use Rattle.simulation.specs.Undoes.{Within}
use Rattle.simulation.specs.Unmentioned.{Unmentioned}

module _ (X : Setting) where
  -- every choice has a sound store over the C cells
  pub data SoundAll : List Choice → Type 0 where
    none : SoundAll []
    more : {ks : List Numbered} {g : Call} {n : Derivation} {cs : List Choice} → Sound n.store → Within X n.store → n.cells ≤ X.limits.cells → SoundAll cs → SoundAll (choice ks g n ∷ cs)

  -- what the definition's own invariant says of a derivation and its choices
  pub record Fair (n : Derivation) (cs : List Choice) : Type 0 where
    pub good : GoodAt X.rules n
    pub within : Within X n.store
    pub choices : SoundAll cs

module _ (X : Setting) (w : List ℕ) where
  -- the store s with u cells taken, k of which are bound, after so many units
  pub record StoreRep (s : Store) (u k units : ℕ) : Type 0 where
    pub base : Base X w
    pub store : StoreIs X w k s
    pub free : FreeIs X w u (λ x. Free x s)
    pub few : u ≤ X.limits.cells
    pub marks : MarksAre X w u (suc units)

  -- the derivation n, its goals aside, with the choices cs
  pub record Run (m : Regs) (n : Derivation) (cs : List Choice) : Type 0 where
    pub holds : StoreRep n.store n.cells m.trail m.units
    pub cells : m.cells ≡ n.cells
    pub steps : StepsAre X w m.steps n.steps
    pub few_steps : m.steps ≤ X.limits.steps
    pub choices : ChoicesAre X w n.store n.cells m.choice cs
    pub choice : m.choice ≤ m.steps

  -- where the goals os go on
  pub record Onward (m : Regs) (x : Next) (os : List Open) : Type 0 where
    pub goals : GoalsAre X w x.place.0 x.step os
    pub step : x.step ≤ m.steps
    pub links : Links X w m.choice x.step
    pub settled : Settled X x.place.0 x.step

  -- the clause k is to be tried for the goal g, and ks after it
  pub record TryIs (t : Trial) (m : Regs) (k : Numbered) (ks : List Numbered) (g : Call) (n : Derivation) (cs : List Choice) : Type 0 where
    pub run : Run m n cs
    pub clause : t.clause.0 ≡ k.number
    pub place : word w (place_at (length X.file) (length X.rules.predicates) k.number) ≡ clause_place X.rules k.number
    pub number : k.number < length X.rules.clauses
    pub chain : Chain w (length X.file) (length X.rules.predicates) X.rules (clause_next_word w (lay X) k.number) ks
    pub numbers : Each (λ j. j.number < length X.rules.clauses) ks
    pub goal : GoalIs X w t.goal.0 t.caller.0 g
    pub next : Onward m t.next n.goals

  -- the pairs ps are to be matched, and then the goals of n
  pub record AtIs (m : Regs) (ps : List Pair) (n : Derivation) (cs : List Choice) : Type 0 where
    pub run : Run m n cs
    pub pairs : PairsAre X w m.work ps
    pub few : m.work ≤ X.limits.work
    pub next : Onward m m.next n.goals

  module _ (wanted room : ℕ) (d : Done) where
    -- what is due is what the state says, once so much was done
    pub data DueIs : Due → State → Type 0 where
      is_try : {t : Trial} {m : Regs} {k : Numbered} {ks : List Numbered} {g : Call} {n : Derivation} {cs : List Choice} → TryIs t m k ks g n cs → m.units ≡ d.units → DueIs (Try m t) (due (trying k (choice ks g n) cs) d)
      is_pair : {m : Regs} {p : Pair} {ps : List Pair} {n : Derivation} {cs : List Choice} → AtIs m (p ∷ ps) n cs → Unmentioned X.rules.functions m.fresh n.store (p ∷ ps) → m.units ≡ d.units → DueIs (PairDue m) (due (taking p ps n cs) d)
      is_cut : {m : Regs} {h : ℕ} {n : Derivation} {cs : List Choice} → AtIs m [] (with_goals (cut_to h ∷ n.goals) n) cs → m.units ≡ d.units → DueIs (Cut m) (due (cutting h n cs) d)
      is_answer : {m : Regs} (n : Derivation) (cs : List Choice) → AtIs m [] n cs → Fair X n cs → n.goals ≡ [] → m.units ≡ d.units → DueIs (Answer m) (answering X.rules X.limits wanted room n cs d)
      is_over : (e : End) {m : Regs} → m.units ≡ d.units → DueIs (Over e m) (ended (end_number e) d)
