-- What holds all along a run: where each part of a move keeps it, and it holds of the query, it holds in every state and at the end.
-- Assumes nothing.
use Prim.Native.Nat.{ℕ, zero, suc, ◌+◌, ◌-◌, ◌≤◌}
use Rattle.std.specs.Prelude.{◌≡◌, ◌≢◌}
use Rattle.std.proofs.Math.Path.{refl}
use mathlib.Core.List.{List, [], ◌∷◌, ◌++◌}
use Rattle.std.proofs.Common.{arith}
use Rattle.std.proofs.Math.ListN.{length}
use borrow.Author.Tests.{ltb-false}
use Rattle.meaning.specs.Terms.{Term, var, app}
use Rattle.meaning.specs.Rules.{Call, Rules}
use Rattle.meaning.specs.Store.{Store}
use Rattle.meaning.specs.Answers.{pieces, output, Fit, fits, stops, fitting}
use Rattle.meaning.specs.Moves.{Limits, Open, goal, cut_to, Derivation, Numbered, Choice, choice, Pair, Move, trying, taking, cutting, Done, State, ended, due}
use Rattle.meaning.specs.Moves.{nothing, spend, list, clauses_of, asked, pairs, with_goals, with_binding, with_step, keep, fail, answer, answered, put_out, answering, take_goal, go_on, matching, binding, compared, take_pair, try_head, move, start_keeping, run}
use Rattle.laws.specs.IfLaws.{if_by}
use Rattle.demands.specs.Stops.{fitting_unfit, unfit_range, ReachedFrom, started, moved}

module _ (R : Rules) (L : Limits) (wanted room : ℕ) where
  -- What is said of a derivation with its choices, of choices to go back to, and of an end; and that each part of a move keeps it
  pub record Along : Type 1 where
    pub At : Derivation → List Choice → Done → Type 0
    pub Back : List Choice → Done → Type 0
    pub Over : ℕ → Done → Type 0
    pub goes_back : (n : Derivation) (cs : List Choice) (d : Done) → At n cs d → Back cs d
    pub passes_over : (g : Call) (n : Derivation) (cs : List Choice) (d : Done) → Back (choice [] g n ∷ cs) d → Back cs d
    pub no_more : (d : Done) → Back [] d → Over 20 d
    pub stops_at : (cs : List Choice) (d : Done) (e : ℕ) → e ≢ 20 → Back cs d → Over e d
    pub calls : (g : Call) (gs : List Open) (n : Derivation) (cs : List Choice) (d : Done) → n.goals ≡ goal g ∷ gs → At n cs d → Back (choice (clauses_of g.predicate 0 R.clauses) g (with_goals gs n) ∷ cs) d
    pub enters : (k : Numbered) (ks : List Numbered) (g : Call) (n : Derivation) (cs : List Choice) (d : Done) → length n.steps + 1 ≤ L.steps → Back (choice (k ∷ ks) g n ∷ cs) d → At (with_step k (length cs) n) (choice ks g n ∷ cs) d
    pub binds : (x : ℕ) (t : Term) (n : Derivation) (cs : List Choice) (d : Done) → At n cs d → At (with_binding x t n) cs d
    pub cuts : (h : ℕ) (gs : List Open) (n : Derivation) (cs : List Choice) (d : Done) → n.goals ≡ cut_to h ∷ gs → At n cs d → At (with_goals gs n) (keep h cs) d
    pub answers : (n : Derivation) (cs : List Choice) (d : Done) → n.goals ≡ [] → fitting (room - length (output d.listed)) L.work 0 (pieces (answer R L wanted room n)) ≡ fits → At n cs d → Back cs (list (answer R L wanted room n) d)
    pub spends_at : (n : Derivation) (cs : List Choice) (d : Done) → At n cs d → At n cs (spend d)
    pub spends_back : (cs : List Choice) (d : Done) → Back cs d → Back cs (spend d)

  module _ (A : Along) where
    -- a cut that is due was the first of the open goals
    abbrev pub Holds : State → Type 0
    Holds (ended e d) = A.Over e d
    Holds (due (trying k (choice ks g n) cs) d) = A.Back (choice (k ∷ ks) g n ∷ cs) d
    Holds (due (taking p ps n cs) d) = A.At n cs d
    Holds (due (cutting h n cs) d) = A.At (with_goals (cut_to h ∷ n.goals) n) cs d

    fail_holds : (cs : List Choice) (d : Done) → A.Back cs d → Holds (fail cs d)
    unfolding fail
    fail_holds [] d b = A.no_more d b
    fail_holds (choice [] g n ∷ cs) d b = fail_holds cs d (A.passes_over g n cs d b)
    fail_holds (choice (k ∷ ks) g n ∷ cs) d b = b

    at_end : (e : ℕ) (n : Derivation) (cs : List Choice) (d : Done) → e ≢ 20 → A.At n cs d → A.Over e d
    at_end e n cs d h a = A.stops_at cs d e h (A.goes_back n cs d a)

    answering_holds : (n : Derivation) (cs : List Choice) (d : Done) → n.goals ≡ [] → A.At n cs d → Holds (answering R L wanted room n cs d)
    unfolding answering put_out answered
    answering_holds n cs d q a = go (fitting left L.work 0 (pieces (answer R L wanted room n))) refl
      where
        left : ℕ
        left = room - length (output d.listed)

        go : (f : Fit) → fitting left L.work 0 (pieces (answer R L wanted room n)) ≡ f → Holds (put_out R L wanted room f (answer R L wanted room n) cs d)
        go fits e =
            let b = A.answers n cs d q e a in
            if_by Holds _ (λ w. A.stops_at cs _ 21 (omega arith) b) (λ w. fail_holds cs _ b)
        go (stops s) e = let r = unfit_range (fitting_unfit left L.work 0 (pieces (answer R L wanted room n)) e) in at_end s n cs d (λ z. omega arith) a

    take_goal_holds : (gs : List Open) (s : Store) (u : ℕ) (p : List ℕ) (cs : List Choice) (d : Done) → A.At (record { goals = gs; store = s; cells = u; steps = p }) cs d
        → Holds (take_goal R L wanted room gs (record { goals = gs; store = s; cells = u; steps = p }) cs d)
    unfolding take_goal with_goals
    take_goal_holds [] s u p cs d a = answering_holds _ cs d refl a
    take_goal_holds (goal g ∷ gs) s u p cs d a = fail_holds _ d (A.calls g gs _ cs d refl a)
    take_goal_holds (cut_to h ∷ gs) s u p cs d a = a

    matching_holds : (ps : List Pair) (n : Derivation) (cs : List Choice) (d : Done) → A.At n cs d → Holds (matching R L wanted room ps n cs d)
    unfolding matching go_on
    matching_holds [] n cs d a = take_goal_holds n.goals n.store n.cells n.steps cs d a
    matching_holds (p ∷ ps) n cs d a = a

    binding_holds : (x : ℕ) (t : Term) (ps : List Pair) (n : Derivation) (cs : List Choice) (d : Done) → A.At n cs d → Holds (binding R L wanted room x t ps n cs d)
    unfolding binding
    binding_holds x t ps n cs d a = if_by Holds _ (λ e. fail_holds cs d (A.goes_back n cs d a)) (λ e. matching_holds ps _ cs d (A.binds x t n cs d a))

    compared_holds : (t u : Term) (ps : List Pair) (n : Derivation) (cs : List Choice) (d : Done) → A.At n cs d → Holds (compared R L wanted room t u ps n cs d)
    unfolding compared
    compared_holds (var x) (var y) ps n cs d a = if_by Holds _ (λ e. matching_holds ps n cs d a) (λ e. binding_holds y (var x) ps n cs d a)
    compared_holds (app f ts) (var y) ps n cs d a = binding_holds y (app f ts) ps n cs d a
    compared_holds (var x) (app g us) ps n cs d a = binding_holds x (app g us) ps n cs d a
    compared_holds (app f ts) (app g us) ps n cs d a =
        if_by Holds _ (λ e. fail_holds cs d (A.goes_back n cs d a)) (λ e. if_by Holds _ (λ l. at_end 25 n cs d (omega arith) a) (λ l. matching_holds (pairs ts us ++ ps) n cs d a))

    move_holds : (m : Move) (d : Done) → Holds (due m d) → Holds (move R L wanted room m (spend d))
    unfolding move try_head take_pair go_on with_goals
    move_holds (trying k (choice ks g n) cs) d b =
        let c = A.spends_back _ d b in
        if_by Holds _ (λ e. A.stops_at _ _ 23 (omega arith) c) (λ e. if_by Holds _ (λ l. A.stops_at _ _ 24 (omega arith) c) (λ l.
        let few : length n.steps + 1 ≤ L.steps = ltb-false _ _ l in
        matching_holds _ _ _ _ (A.enters k ks g n cs _ few c)))
    move_holds (taking p ps n cs) d a = compared_holds _ _ ps n cs _ (A.spends_at n cs d a)
    move_holds (cutting h n cs) d a = take_goal_holds n.goals n.store n.cells n.steps (keep h cs) _ (A.cuts h n.goals _ cs _ refl (A.spends_at _ cs d a))

    due_over : (m : Move) (d : Done) → Holds (due m d) → A.Over 22 d
    due_over (trying k (choice ks g n) cs) d b = A.stops_at _ d 22 (omega arith) b
    due_over (taking p ps n cs) d a = at_end 22 n cs d (omega arith) a
    due_over (cutting h n cs) d a = at_end 22 _ cs d (omega arith) a

    start_holds : (h : ℕ) → A.At (asked R h) [] nothing → Holds (start_keeping R L wanted room h)
    unfolding start_keeping go_on
    start_holds h a =
        if_by Holds _ (λ e. at_end 21 (asked R h) [] nothing (omega arith) a) (λ e. if_by Holds _ (λ l. at_end 23 (asked R h) [] nothing (omega arith) a) (λ l.
        take_goal_holds _ _ _ _ [] nothing a))

    -- in every state of a run
    pub reached_holds : (h budget : ℕ) {s : State} → A.At (asked R h) [] nothing → ReachedFrom R L wanted room (start_keeping R L wanted room h) budget s → Holds s
    reached_holds h budget a started = start_holds h a
    reached_holds h budget a (moved {m = m} {d = d} r l) = move_holds m d (reached_holds h budget a r)

    -- and at its end
    run_over : (left : ℕ) (s : State) → Holds s → A.Over (run R L wanted room left s).0 (run R L wanted room left s).1
    unfolding run
    run_over zero (ended e d) h = h
    run_over zero (due m d) h = due_over m d h
    run_over (suc left) (ended e d) h = h
    run_over (suc left) (due m d) h = run_over left (move R L wanted room m (spend d)) (move_holds m d h)

    pub ends_over : (h budget : ℕ) → A.At (asked R h) [] nothing → let r = run R L wanted room budget (start_keeping R L wanted room h) in A.Over r.0 r.1
    ends_over h budget a = run_over budget (start_keeping R L wanted room h) (start_holds h a)
