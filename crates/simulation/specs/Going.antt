-- Taking the first open goal comes to what the definition says.
-- Assumes nothing.
use Rattle.std.specs.Prelude.{ℕ, ◌+◌, ◌^◌, ◌≤◌, ◌<◌, ◌≡◌, length}
use Rattle.std.proofs.Math.Path.{refl, ap, sym}
use Rattle.std.proofs.Common.{◌∙◌, subst, arith, mod-eq_of_lt}
use mathlib.Core.List.{List, [], ◌∷◌}
use Rattle.std.proofs.Math.ListN.{get_or}
use Rattle.meaning.specs.Rules.{Call}
use Rattle.meaning.specs.Reading.{two_bytes}
use Rattle.meaning.specs.Moves.{Open, goal, cut_to, Derivation, Numbered, Choice, choice, Done, clauses_of, over, with_goals, fail, take_goal, go_on}
use Rattle.demands.specs.Proofs.{Each, WellCall}
use Rattle.demands.specs.Order.{each_map, clauses_known}
use Rattle.demands.specs.Ways.{todo}
use Rattle.demands.specs.GoodFiles.{index_less}
use Rattle.layout.specs.Regions.{word, after_at, first_at}
use Rattle.layout.specs.Tables.{Chain}
use Rattle.words.specs.Words.{ahead}
use Rattle.cells.specs.Cells.{place_after}
use Rattle.search.specs.Search.{step_word, clause_next_word, trial_of, Calls, no_clause, first_clause, GoesOn, a_cut as CutMove, no_goal as AnswerMove, a_goal as GoalMove}
use Rattle.search.specs.declared.Regs.{Regs}
use Rattle.search.specs.declared.Due.{Due}
use Rattle.simulation.specs.Rep.{Setting, lay, layout_of, GoalsAre, GoalIs}
use Rattle.simulation.specs.TableFrames.{tables_room}
use Rattle.simulation.specs.States.{Fair, AtIs, DueIs, is_try, is_cut, is_answer}
use Rattle.simulation.specs.Backing.{backs_fail}
use Rattle.simulation.specs.Goals.{First, no_goal, a_call, a_cut, goals_first, SettledAt, settled_is}

-- a place of the file and a few bytes more do not pass a word
pub ahead_small : (p n : ℕ) → p + n < 2 ^ 64 → ahead p n ≡ p + n
unfolding ahead
ahead_small p n h = mod-eq_of_lt h

module _ (X : Setting) (wanted room : ℕ) where
  abbrev F : ℕ
  F = length X.file

  abbrev q : ℕ
  q = length X.rules.predicates

  after_word : (w : List ℕ) (p : ℕ) → p ≤ F → (place_after w (record { 0 = p })).0 ≡ word w (after_at p)
  unfolding place_after
  after_word w p h = let s = X.short in ap (λ (i : ℕ). get_or w i 0) (ahead_small 64 p (omega arith))

  first_word : (w : List ℕ) (p : ℕ) → word w (first_at F p) ≡ get_or w ((lay X).firsts + p) 0
  unfolding layout_of
  first_word w p = refl

  no_clauses : (w : List ℕ) (x : ℕ) (ks : List Numbered) → Chain w F q X.rules x ks → x ≡ 0 → ks ≡ []
  no_clauses w x [] c e = refl
  no_clauses w x (k ∷ ks) c e = let h = c.0 in absurd (omega arith)

  -- a goal is called
  module _ (w : List ℕ) (m : Regs) (len : ℕ) (g : Call) (os : List Open) (n : Derivation) (cs : List Choice) (d : Done) (at : AtIs X w m [] n cs) (fair : Fair X n cs)
      (stands : GoalIs X w m.next.place.0 (step_word w (lay X) m.next.step 5) g) (after_is : word w (after_at m.next.place.0) ≡ m.next.place.0 + len) (within : m.next.place.0 + len ≤ F)
      (behind : GoalsAre X w (m.next.place.0 + len) m.next.step os) (units : m.units ≡ d.units) where
    predicate_is : two_bytes X.file (m.next.place.0 + 1) ≡ g.predicate
    unfolding over
    predicate_is = stands.predicate ∙ sym (ap (λ (x : Call). x.predicate) stands.is)

    first_is : word w (first_at F g.predicate) ≡ get_or w ((lay X).firsts + two_bytes X.file (m.next.place.0 + 1)) 0
    first_is = first_word w g.predicate ∙ ap (λ (x : ℕ). get_or w ((lay X).firsts + x) 0) (sym predicate_is)

    next_is : SettledAt X w at.run.holds.base.tabled m.choice m.next.step os (trial_of X.file w (lay X) m.next 0).next
    unfolding trial_of
    next_is =
        let e : (place_after w m.next.place).0 ≡ m.next.place.0 + len = after_word w m.next.place.0 (omega arith) ∙ after_is in
        settled_is X w at.run.holds.base.tabled (place_after w m.next.place).0 m.next.step m.choice os (rw e behind) at.next.links

    calls : (r : Due) (v : List ℕ) → Calls X.file (lay X) m m.next w r v → (ks : List Numbered) → Each (λ k. k.number < length X.rules.clauses) ks → Chain w F q X.rules (word w (first_at F g.predicate)) ks
        → DueIs X v wanted room d r (fail (choice ks g (with_goals os n) ∷ cs) d)
    unfolding fail with_goals trial_of clause_next_word layout_of
    calls r v (no_clause z b) [] numbers chain =
        let l = at.run.choice in let s = at.run.few_steps in
        backs_fail X (tables_room X) wanted room m b n.store n.cells cs d at.run.holds fair.good.sound fair.within at.run.choices fair.choices (omega arith) units
    calls r v (no_clause z b) (k ∷ ks) numbers chain = let h = chain.0 in let e = first_is in absurd (omega arith)
    calls r v (first_clause {k = j} z) [] numbers chain = let e = first_is in absurd (omega arith)
    calls r v (first_clause {k = j} z) (k ∷ ks) numbers chain =
        is_try {t = trial_of X.file w (lay X) m.next j} {m = m} {k = k} {ks = ks} {g = g} {n = record { goals = os; store = n.store; cells = n.cells; steps = n.steps }} {cs = cs} (record {
          run = record { holds = at.run.holds; cells = at.run.cells; steps = at.run.steps; few_steps = at.run.few_steps; choices = at.run.choices; choice = at.run.choice };
          clause = let h = chain.0 in let e = first_is in omega arith;
          place = chain.1;
          number = numbers.0;
          chain = chain.2;
          numbers = numbers.1;
          goal = stands;
          next = record { goals = next_is.goals; step = let a = next_is.step in let b = at.next.step in omega arith; links = next_is.links; settled = next_is.settled };
        }) units

  -- the first open goal is taken
  module _ (w : List ℕ) (m : Regs) (n : Derivation) (cs : List Choice) (d : Done) (at : AtIs X w m [] n cs) (fair : Fair X n cs) (units : m.units ≡ d.units) where
    abbrev Comes : Due → List ℕ → List Open → Type 0
    Comes r v os = DueIs X v wanted room d r (take_goal X.rules X.limits wanted room os n cs d)

    numbers : (p : ℕ) → Each (λ k. k.number < length X.rules.clauses) (clauses_of p 0 X.rules.clauses)
    numbers p = each_map _ _ (λ k h. index_less X.rules.clauses k.number k.clause h.0) (clauses_of p 0 X.rules.clauses) (clauses_known p X.rules.clauses)

    first_goes : (os : List Open) {r : Due} {v : List ℕ} → n.goals ≡ os → First X w at.run.holds.base.tabled m.next.place.0 m.next.step os → GoesOn X.file (lay X) m w r v → Comes r v os
    unfolding take_goal with_goals
    first_goes [] e (no_goal a b z) (CutMove c) = absurd (b c)
    first_goes [] e (no_goal a b z) (AnswerMove c k) = is_answer n cs at fair e units
    first_goes [] e (no_goal a b z) (GoalMove c k) = absurd (a c)
    first_goes (goal g ∷ os) e (a_call len k gi aw al ga) (CutMove c) = absurd (omega arith)
    first_goes (goal g ∷ os) e (a_call len k gi aw al ga) (AnswerMove c j) = absurd (j k)
    first_goes (goal g ∷ os) e (a_call len k gi aw al ga) (GoalMove c j) =
        calls w m len g os n cs d at fair gi aw al ga units _ _ j (clauses_of g.predicate 0 X.rules.clauses) (numbers g.predicate)
        (at.run.holds.base.tabled.chains g.predicate _ (subst (λ (x : List Open). Each (WellCall X.rules n.cells) (todo x)) e fair.good.goals).0.arity)
    first_goes (cut_to h ∷ os) e (a_cut k hi pr al ga) (CutMove c) = is_cut (subst (λ (x : List Open). AtIs X w m [] (record { goals = x; store = n.store; cells = n.cells; steps = n.steps }) cs) e at) units
    first_goes (cut_to h ∷ os) e (a_cut k hi pr al ga) (AnswerMove c j) = absurd (c k)
    first_goes (cut_to h ∷ os) e (a_cut k hi pr al ga) (GoalMove c j) = absurd (omega arith)

    pub goes_on : {r : Due} {v : List ℕ} → GoesOn X.file (lay X) m w r v → DueIs X v wanted room d r (go_on X.rules X.limits wanted room n cs d)
    unfolding go_on
    goes_on g = first_goes n.goals refl (goals_first X w at.run.holds.base.tabled at.next.goals at.next.settled) g
