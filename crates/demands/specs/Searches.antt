-- The search keeps what is known of its answers: move by move, to the end.
-- Assumes nothing.
use Prim.Native.Nat.{ℕ, suc, zero, ◌+◌, ◌-◌, ◌<◌}
use Rattle.std.specs.Prelude.{◌≡◌, ◌⊎◌, ◌↔◌, ◌≢◌, not, ltb, eqb, drop}
use Rattle.std.proofs.Math.Path.{refl, sym}
use Rattle.std.proofs.Common.{ap, ap₂, ◌∙◌, subst, arith, eqb-true}
use Rattle.std.proofs.Math.Logic.{inl, inr}
use mathlib.Core.List.{List, [], ◌∷◌, ◌++◌, map, append-nil, append_assoc}
use Rattle.std.proofs.Math.Option.{some-injective}
use Rattle.std.proofs.Math.ListN.{length, get_elem?}
use Rattle.std.proofs.lemmas.Bool.{eqb-false, not-true, not-false}
use Rattle.meaning.specs.Terms.{Term, var, app, Terms, count, inst, insts, occurs}
use Rattle.meaning.specs.Rules.{Call, Goal, call, cut, Rules}
use Rattle.meaning.specs.Store.{Store, value, follow}
use Rattle.meaning.specs.Answers.{pieces, output, Fit, fits, stops}
use Rattle.meaning.specs.Moves.{Limits, Open, goal, cut_to, Derivation, Numbered, Choice, choice, Pair, Move, trying, taking, cutting, Done, State, ended, due}
use Rattle.meaning.specs.Moves.{nothing, spend, list, clauses_of, over, body_goal, query_goal, asked, pairs, with_goals, with_binding, with_step, keep, fail, answer, answered, put_out, answering, take_goal, go_on, matching, binding, compared, take_pair, try_head, move, start_keeping, run}
use Rattle.demands.specs.Proofs.{Each, Some, IsProof, WellFormed, WellClause, NoCut, Uncut}
use Rattle.laws.specs.IfLaws.{if_by}
use Rattle.demands.specs.TermLaws.{In, Ins, occurs_true, occurs_false, no_loop}
use Rattle.demands.specs.StoreLaws.{Free, Solves, solves_values, solves_follow, value_free, follow_free}
use Rattle.demands.specs.WellLaws.{Good, GoodPairs, follow_good, pairs_good, append_good, goods_more, Agree, agree_append, pairs_agree}
use Rattle.demands.specs.Ways.{Under, todo, GoodAt, Exact, asked_good, asked_exact, with_goal, OfGoal, head_pairs, exact_none, exact_pairs, exact_bind, exact_goals, exact_goal, exact_step, exact_answer, answer_right, step_good, over_good}
use Rattle.demands.specs.Order.{each_at, some_map, each_drop, some_drop, clauses_known, clauses_ascend, clauses_all, Ascends, InChoice, InChoices, Stacked, StackedFrom, stacked_from, stacked_drop, before_choices}
use Rattle.demands.specs.Stops.{fitting_unfit, unfit_range}
use Rattle.demands.specs.Sofar.{Sofar, sofar_none, sofar_less, sofar_answer, Fine, sofar_fine}

-- no cut is among the open goals
abbrev pub FreeOfCut : List Open → Type 0
FreeOfCut [] = Unit {0}
FreeOfCut (goal g ∷ gs) = FreeOfCut gs
FreeOfCut (cut_to h ∷ gs) = ⊥

body_free : (b h : ℕ) (gs : List Goal) (os : List Open) → NoCut gs → FreeOfCut os → FreeOfCut (map (body_goal b h) gs ++ os)
unfolding body_goal
body_free b h [] os n f = f
body_free b h (call g ∷ gs) os n f = body_free b h gs os n f
body_free b h (cut ∷ gs) os n f = absurd n

query_free : (h : ℕ) (gs : List Goal) → NoCut gs → FreeOfCut (map (query_goal h) gs)
unfolding query_goal
query_free h [] n = tt
query_free h (call g ∷ gs) n = query_free h gs n
query_free h (cut ∷ gs) n = absurd n

-- going on by an untried clause of a goal is going on from that goal
in_choice_under : (p : List ℕ) (ks : List Numbered) (ls : List ℕ) → Some (λ k. Under (p ++ k.number ∷ []) ls) ks → Under p ls
in_choice_under p (k ∷ ks) ls (inl u) = (k.number ∷ u.0, u.1 ∙ append_assoc p (k.number ∷ []) u.0)
in_choice_under p (k ∷ ks) ls (inr o) = in_choice_under p ks ls o
in_choice_under p [] ls o = absurd o

module _ (R : Rules) (wf : WellFormed R) where
  -- a choice that the search may come back to
  pub record GoodChoice (ks : List Numbered) (g : Call) (n : Derivation) : Type 0 where
    pub good : GoodAt R (with_goal R g n)
    pub exact : Exact R [] (with_goal R g n)
    pub untried : Each (OfGoal R g) ks
    pub ascends : Ascends ks
    pub uncut : Uncut R → FreeOfCut n.goals

  abbrev pub GoodOne : Choice → Type 0
  GoodOne (choice ks g n) = GoodChoice ks g n

  abbrev pub GoodChoices : List Choice → Type 0
  GoodChoices cs = Each GoodOne cs

  -- at a derivation, with the pairs still to match
  pub record At (ps : List Pair) (n : Derivation) (cs : List Choice) (d : Done) : Type 0 where
    pub good : GoodAt R n
    pub pairs : GoodPairs R.functions n.cells ps
    pub exact : Exact R ps n
    pub uncut : Uncut R → FreeOfCut n.goals
    pub choices : GoodChoices cs
    pub stacked : Stacked n.steps cs
    pub sofar : Sofar R (λ ks. Under n.steps ks ⊎ InChoices cs ks) d.listed

  -- about to go back
  pub record Back (cs : List Choice) (d : Done) : Type 0 where
    pub choices : GoodChoices cs
    pub stacked : StackedFrom cs
    pub sofar : Sofar R (InChoices cs) d.listed

  abbrev pub Due : Move → Done → Type 0
  Due (trying k (choice ks g n) cs) d = Back (choice (k ∷ ks) g n ∷ cs) d
  Due (taking p ps n cs) d = At (p ∷ ps) n cs d
  Due (cutting h n cs) d = At [] n cs d × ¬ Uncut R

  abbrev pub Holds : State → Type 0
  Holds (ended e d) = Fine R e d.listed
  Holds (due m d) = Due m d

  -- ---- ends on the way
  at_fine : (e : ℕ) (ps : List Pair) (n : Derivation) (cs : List Choice) (d : Done) → e ≢ 20 → At ps n cs d → Fine R e d.listed
  at_fine e ps n cs d h a = sofar_fine R e _ d.listed (λ q. absurd (h q)) a.sofar

  back_fine : (e : ℕ) (cs : List Choice) (d : Done) → e ≢ 20 → Back cs d → Fine R e d.listed
  back_fine e cs d h b = sofar_fine R e _ d.listed (λ q. absurd (h q)) b.sofar

  -- ---- failure
  pub fail_holds : (cs : List Choice) (d : Done) → Back cs d → Holds (fail cs d)
  unfolding fail
  fail_holds [] d b = sofar_fine R 20 (InChoices []) d.listed (λ q ks o. o) b.sofar
  fail_holds (choice [] g n ∷ cs) d b =
      fail_holds cs d (record {
        choices = b.choices.1;
        stacked = stacked_from n.steps cs b.stacked;
        sofar = sofar_less R (InChoices (choice [] g n ∷ cs)) (InChoices cs) d.listed (λ ks o. inr o) (λ u ks p o. later ks o) b.sofar;
      })
    where
      later : (ks : List ℕ) → InChoices (choice [] g n ∷ cs) ks → InChoices cs ks
      later ks (inl o) = absurd o
      later ks (inr o) = o
  fail_holds (choice (k ∷ ks) g n ∷ cs) d b = b

  -- a derivation that no proof goes on from
  dead : (ps : List Pair) (n : Derivation) (cs : List Choice) (d : Done) → ((ν : ℕ → Term) → Solves ν n.store → Agree ν ps → ⊥) → At ps n cs d → Holds (fail cs d)
  dead ps n cs d h a =
      fail_holds cs d (record {
        choices = a.choices;
        stacked = stacked_from n.steps cs a.stacked;
        sofar = sofar_less R _ (InChoices cs) d.listed (λ ks o. inr o) (λ u ks p o. other ks p o) a.sofar;
      })
    where
      other : (ks : List ℕ) → IsProof R ks → Under n.steps ks ⊎ InChoices cs ks → InChoices cs ks
      other ks p (inl o) = absurd (exact_none R ps n a.exact h ks p o)
      other ks p (inr o) = o

  module _ (L : Limits) (wanted room : ℕ) where
    -- ---- answers
    answered_holds : (cs : List Choice) (d : Done) → Back cs d → Holds (answered R L wanted room cs d)
    unfolding answered
    answered_holds cs d b = if_by Holds (eqb (length d.listed) wanted) (λ e. back_fine 21 cs d (omega arith) b) (λ e. fail_holds cs d b)

    put_out_holds : (f : Fit) (n : Derivation) (cs : List Choice) (d : Done) → ((e : ℕ) → f ≡ stops e → e ≢ 20) → todo n.goals ≡ [] → At [] n cs d → Holds (put_out R L wanted room f (answer R L wanted room n) cs d)
    unfolding put_out answer list
    put_out_holds (stops e) n cs d h t a = at_fine e [] n cs d (h e refl) a
    put_out_holds fits n cs d h t a =
        answered_holds cs _ (record {
          choices = a.choices;
          stacked = stacked_from n.steps cs a.stacked;
          sofar = sofar_answer R _ (InChoices cs) d.listed (answer R L wanted room n) (answer_right R n t a.good a.exact (answer R L wanted room n) refl refl)
              (inl ([], sym (append-nil n.steps))) (λ ks o. inr o) (λ ks o. before_choices n.steps cs a.stacked ks o) (λ u ks p o. this ks p o) a.sofar;
        })
      where
        this : (ks : List ℕ) → IsProof R ks → Under n.steps ks ⊎ InChoices cs ks → (ks ≡ n.steps) ⊎ InChoices cs ks
        this ks p (inl o) = inl (exact_answer R n t a.exact ks p o)
        this ks p (inr o) = inr o

    answering_holds : (n : Derivation) (cs : List Choice) (d : Done) → todo n.goals ≡ [] → At [] n cs d → Holds (answering R L wanted room n cs d)
    unfolding answering
    answering_holds n cs d t a = put_out_holds _ n cs d (λ e q z. let r = unfit_range (fitting_unfit (room - length (output d.listed)) L.work 0 (pieces (answer R L wanted room n)) q) in omega arith) t a

    -- ---- a goal is taken
    -- a cut has no part in a proof
    past_cut : (o : Open) (gs : List Open) (s : Store) (u : ℕ) (p : List ℕ) (cs : List Choice) (d : Done) → todo gs ≡ todo (o ∷ gs) → (Uncut R → FreeOfCut gs)
        → At [] (record { goals = o ∷ gs; store = s; cells = u; steps = p }) cs d → At [] (record { goals = gs; store = s; cells = u; steps = p }) cs d
    unfolding with_goals
    past_cut o gs s u p cs d e f a = record {
      good = record { sound = a.good.sound; store = a.good.store; goals = rw e a.good.goals; asks = a.good.asks; numbers = a.good.numbers };
      pairs = tt;
      exact = exact_goals R [] gs (record { goals = o ∷ gs; store = s; cells = u; steps = p }) e a.exact;
      uncut = f;
      choices = a.choices;
      stacked = a.stacked;
      sofar = a.sofar;
    }

    take_goal_holds : (gs : List Open) (s : Store) (u : ℕ) (p : List ℕ) (cs : List Choice) (d : Done)
        → At [] (record { goals = gs; store = s; cells = u; steps = p }) cs d → Holds (take_goal R L wanted room gs (record { goals = gs; store = s; cells = u; steps = p }) cs d)
    unfolding take_goal with_goals
    take_goal_holds [] s u p cs d a = answering_holds _ cs d refl a
    take_goal_holds (cut_to h ∷ gs) s u p cs d a = (past_cut (cut_to h) gs s u p cs d refl (λ q. absurd (a.uncut q)) a, λ q. absurd (a.uncut q))
    take_goal_holds (goal g ∷ gs) s u p cs d a =
        fail_holds (choice untried g (record { goals = gs; store = s; cells = u; steps = p }) ∷ cs) d (record {
          choices = (record { good = a.good; exact = a.exact; untried = clauses_known g.predicate R.clauses; ascends = clauses_ascend g.predicate 0 R.clauses; uncut = a.uncut }, a.choices);
          stacked = a.stacked;
          sofar = sofar_less R _ _ d.listed fewer (λ q ks i o. enough ks i o) a.sofar;
        })
      where
        untried : List Numbered
        untried = clauses_of g.predicate 0 R.clauses

        fewer : (ks : List ℕ) → InChoices (choice untried g (record { goals = gs; store = s; cells = u; steps = p }) ∷ cs) ks → Under p ks ⊎ InChoices cs ks
        fewer ks (inl o) = inl (in_choice_under p untried ks o)
        fewer ks (inr o) = inr o

        enough : (ks : List ℕ) → IsProof R ks → Under p ks ⊎ InChoices cs ks → InChoices (choice untried g (record { goals = gs; store = s; cells = u; steps = p }) ∷ cs) ks
        enough ks i (inl o) =
            let (k, of_goal, under) = exact_goal R g (record { goals = gs; store = s; cells = u; steps = p }) a.exact ks i o in
            inl (some_map (λ j. j.number ≡ 0 + k.number) (λ j. Under (p ++ j.number ∷ []) ks)
            (λ j e. let f : j.number ≡ k.number = omega arith in rw f under) untried (clauses_all g.predicate 0 R.clauses k.number k.clause of_goal.0 of_goal.1))
        enough ks i (inr o) = inr o

    go_on_holds : (n : Derivation) (cs : List Choice) (d : Done) → At [] n cs d → Holds (go_on R L wanted room n cs d)
    unfolding go_on
    go_on_holds n cs d a = take_goal_holds n.goals n.store n.cells n.steps cs d a

    matching_holds : (ps : List Pair) (n : Derivation) (cs : List Choice) (d : Done) → At ps n cs d → Holds (matching R L wanted room ps n cs d)
    unfolding matching
    matching_holds [] n cs d a = go_on_holds n cs d a
    matching_holds (p ∷ ps) n cs d a = a

    -- ---- a pair is taken
    -- the front pair says that the free variable x has the value of t
    pub record Equates (p : Pair) (x : ℕ) (t : Term) (n : Derivation) : Type 0 where
      pub cell : x < n.cells
      pub free : Free x n.store
      pub term : Good R.functions n.cells t
      pub same : (ν : ℕ → Term) → Solves ν n.store → ((inst ν p.goal_side ≡ inst ν p.head_side) ↔ (ν x ≡ inst ν t))
      pub inside : In x (inst (value n.store) t) → (ν : ℕ → Term) → Solves ν n.store → ν x ≡ inst ν t → ⊥

    binding_holds : (p : Pair) (x : ℕ) (t : Term) (ps : List Pair) (n : Derivation) (cs : List Choice) (d : Done) → Equates p x t n → At (p ∷ ps) n cs d → Holds (binding R L wanted room x t ps n cs d)
    unfolding binding with_binding
    binding_holds p x t ps n cs d q a =
        if_by Holds (occurs x (inst (value n.store) t))
        (λ e. dead (p ∷ ps) n cs d (λ ν s h. q.inside (occurs_true x _ e) ν s ((q.same ν s).0 h.0)) a)
        (λ e. matching_holds ps (with_binding x t n) cs d (record {
          good = record { sound = (q.free, occurs_false x _ e, a.good.sound); store = (q.cell, q.term, a.good.store); goals = a.good.goals; asks = a.good.asks; numbers = a.good.numbers };
          pairs = a.pairs.2;
          exact = exact_bind R p ps x t n q.same a.exact;
          uncut = a.uncut;
          choices = a.choices;
          stacked = a.stacked;
          sofar = a.sofar;
        }))

    compared_holds : (a b : Term) (p : Pair) (ps : List Pair) (n : Derivation) (cs : List Choice) (d : Done) → follow n.store p.goal_side ≡ a → follow n.store p.head_side ≡ b
        → At (p ∷ ps) n cs d → Holds (compared R L wanted room a b ps n cs d)
    unfolding compared inst
    compared_holds a b p ps n cs d ea eb h = go a b ea eb
      where
        s : Store
        s = n.store

        good_a : (a : Term) → follow s p.goal_side ≡ a → Good R.functions n.cells a
        good_a a e = subst (Good R.functions n.cells) e (follow_good R.functions n.cells s h.good.store p.goal_side h.pairs.0)

        good_b : (b : Term) → follow s p.head_side ≡ b → Good R.functions n.cells b
        good_b b e = subst (Good R.functions n.cells) e (follow_good R.functions n.cells s h.good.store p.head_side h.pairs.1)

        same : (a b : Term) → follow s p.goal_side ≡ a → follow s p.head_side ≡ b → (ν : ℕ → Term) → Solves ν s → (inst ν p.goal_side ≡ inst ν p.head_side) ↔ (inst ν a ≡ inst ν b)
        same a b ea eb ν k =
            let f : inst ν a ≡ inst ν p.goal_side = ap (inst ν) (sym ea) ∙ solves_follow ν s k p.goal_side in
            let g : inst ν b ≡ inst ν p.head_side = ap (inst ν) (sym eb) ∙ solves_follow ν s k p.head_side in
            ((λ e. f ∙ e ∙ sym g), λ e. sym f ∙ e ∙ g)

        flip : {A : Type 0} {B C : Term} → A ↔ (B ≡ C) → A ↔ (C ≡ B)
        flip i = ((λ q. sym (i.0 q)), λ q. i.1 (sym q))

        inside : (x f : ℕ) (ts : Terms) → Ins x (insts (value s) ts) → (ν : ℕ → Term) → Solves ν s → ν x ≡ inst ν (app f ts) → ⊥
        inside x f ts i ν k e = no_loop ν x f (insts (value s) ts) i (e ∙ sym (solves_values ν s k (app f ts)))

        go : (a b : Term) → follow s p.goal_side ≡ a → follow s p.head_side ≡ b → Holds (compared R L wanted room a b ps n cs d)
        go (var x) (var y) ea eb =
            if_by Holds (eqb x y)
            (λ e. matching_holds ps n cs d (record {
              good = h.good;
              pairs = h.pairs.2;
              exact = exact_pairs R (p ∷ ps) ps n (λ ν k. ((λ z. z.1), λ z. ((same (var x) (var y) ea eb ν k).1 (ap ν (eqb-true x y e)), z))) h.exact;
              uncut = h.uncut;
              choices = h.choices;
              stacked = h.stacked;
              sofar = h.sofar;
            }))
            (λ e. binding_holds p y (var x) ps n cs d (record {
              cell = good_b (var y) eb;
              free = follow_free s h.good.sound p.head_side y eb;
              term = good_a (var x) ea;
              same = λ ν k. flip (same (var x) (var y) ea eb ν k);
              inside = λ i. absurd (eqb-false x y e (sym (rw (value_free s x (follow_free s h.good.sound p.goal_side x ea)) at i)));
            }) h)
        go (app f ts) (var y) ea eb =
            binding_holds p y (app f ts) ps n cs d (record {
              cell = good_b (var y) eb;
              free = follow_free s h.good.sound p.head_side y eb;
              term = good_a (app f ts) ea;
              same = λ ν k. flip (same (app f ts) (var y) ea eb ν k);
              inside = inside y f ts;
            }) h
        go (var x) (app g us) ea eb =
            binding_holds p x (app g us) ps n cs d (record {
              cell = good_a (var x) ea;
              free = follow_free s h.good.sound p.goal_side x ea;
              term = good_b (app g us) eb;
              same = same (var x) (app g us) ea eb;
              inside = inside x g us;
            }) h
        go (app f ts) (app g us) ea eb =
            if_by Holds (not (eqb f g))
            (λ e. dead (p ∷ ps) n cs d (λ ν k z. eqb-false f g (not-true (eqb f g) e) (same_function ν ((same (app f ts) (app g us) ea eb ν k).0 z.0))) h)
            (λ e. if_by Holds (ltb L.work (length (pairs ts us ++ ps)))
            (λ l. at_fine 25 (p ∷ ps) n cs d (omega arith) h)
            (λ l. matching_holds (pairs ts us ++ ps) n cs d (record {
              good = h.good;
              pairs = append_good R.functions n.cells (pairs ts us) ps (pairs_good R.functions n.cells ts us (good_a (app f ts) ea).1 (good_b (app g us) eb).1) h.pairs.2;
              exact = exact_pairs R (p ∷ ps) (pairs ts us ++ ps) n (λ ν k. parts ν k (eqb-true f g (not-false (eqb f g) e))) h.exact;
              uncut = h.uncut;
              choices = h.choices;
              stacked = h.stacked;
              sofar = h.sofar;
            })))
          where
            same_function : (ν : ℕ → Term) → app f (insts ν ts) ≡ app g (insts ν us) → f ≡ g
            same_function ν e = cc

            same_arguments : (ν : ℕ → Term) → app f (insts ν ts) ≡ app g (insts ν us) → insts ν ts ≡ insts ν us
            same_arguments ν e = cc

            parts : (ν : ℕ → Term) → Solves ν s → f ≡ g → Agree ν (p ∷ ps) ↔ Agree ν (pairs ts us ++ ps)
            parts ν k e =
                let counts : count ts ≡ count us = some-injective _ _ (sym (good_a (app f ts) ea).0 ∙ ap (get_elem? R.functions) e ∙ (good_b (app g us) eb).0) in
                let arguments = pairs_agree ν ts us counts in
                let whole = same (app f ts) (app g us) ea eb ν k in (
                  (λ z. (agree_append ν (pairs ts us) ps).0 (arguments.0 (same_arguments ν (whole.0 z.0)), z.1)),
                  λ z. let w = (agree_append ν (pairs ts us) ps).1 z in (whole.1 (ap₂ app e (arguments.1 w.0)), w.1),
                )

    -- ---- a head is tried
    try_head_holds : (k : Numbered) (ks : List Numbered) (g : Call) (n : Derivation) (cs : List Choice) (d : Done) → Back (choice (k ∷ ks) g n ∷ cs) d → Holds (try_head R L wanted room k (choice ks g n) cs d)
    unfolding try_head with_step with_goals over
    try_head_holds k ks g n cs d b =
        if_by Holds (ltb L.cells (n.cells + k.clause.variables))
        (λ e. back_fine 23 (choice (k ∷ ks) g n ∷ cs) d (omega arith) b)
        (λ e. if_by Holds (ltb L.steps (length n.steps + 1))
        (λ f. back_fine 24 (choice (k ∷ ks) g n ∷ cs) d (omega arith) b)
        (λ f. matching_holds (head_pairs R g k n) (with_step k (length cs) n) (choice ks g n ∷ cs) d (record {
          good = step_good R k (length cs) g n c.untried.0.0 clause_well c.good;
          pairs = pairs_good R.functions (n.cells + k.clause.variables) g.arguments _
              (goods_more R.functions n.cells (n.cells + k.clause.variables) (omega arith) g.arguments c.good.goals.0.terms)
              (over_good R n.cells k.clause.variables k.clause.head clause_well.head).terms;
          exact = exact_step R g k (length cs) n c.untried.0 clause_well c.good c.exact;
          uncut = λ u. body_free n.cells (length cs) k.clause.body n.goals (each_at (λ x. NoCut x.body) R.clauses k.number k.clause u.clauses c.untried.0.0) (c.uncut u);
          choices = (record { good = c.good; exact = c.exact; untried = c.untried.1; ascends = c.ascends.1; uncut = c.uncut }, b.choices.1);
          stacked = ((k.number, [], refl, c.ascends.0), b.stacked);
          sofar = sofar_less R _ _ d.listed out (λ u ls p. in_again ls) b.sofar;
        })))
      where
        c : GoodChoice (k ∷ ks) g n
        c = b.choices.0

        clause_well : WellClause R k.clause
        clause_well = each_at (WellClause R) R.clauses k.number k.clause wf.clauses c.untried.0.0

        out : (ls : List ℕ) → Under (n.steps ++ k.number ∷ []) ls ⊎ InChoices (choice ks g n ∷ cs) ls → InChoices (choice (k ∷ ks) g n ∷ cs) ls
        out ls (inl o) = inl (inl o)
        out ls (inr (inl o)) = inl (inr o)
        out ls (inr (inr o)) = inr o

        in_again : (ls : List ℕ) → InChoices (choice (k ∷ ks) g n ∷ cs) ls → Under (n.steps ++ k.number ∷ []) ls ⊎ InChoices (choice ks g n ∷ cs) ls
        in_again ls (inl (inl o)) = inl o
        in_again ls (inl (inr o)) = inr (inl o)
        in_again ls (inr o) = inr (inr o)

    -- ---- a cut
    cut_holds : (h : ℕ) (n : Derivation) (cs : List Choice) (d : Done) → At [] n cs d → ¬ Uncut R → At [] n (keep h cs) d
    unfolding keep
    cut_holds h n cs d a l = record {
      good = a.good;
      pairs = tt;
      exact = a.exact;
      uncut = a.uncut;
      choices = each_drop GoodOne (length cs - h) cs a.choices;
      stacked = stacked_drop (length cs - h) n.steps cs a.stacked;
      sofar = sofar_less R _ _ d.listed kept (λ u. absurd (l u)) a.sofar;
    }
      where
        kept : (ks : List ℕ) → Under n.steps ks ⊎ InChoices (drop (length cs - h) cs) ks → Under n.steps ks ⊎ InChoices cs ks
        kept ks (inl o) = inl o
        kept ks (inr o) = inr (some_drop (λ c. InChoice c ks) (length cs - h) cs o)

    -- ---- the whole run
    pub spent : (m : Move) (d : Done) → Due m d → Due m (spend d)
    unfolding spend
    spent (trying k (choice ks g n) cs) d b = record { choices = b.choices; stacked = b.stacked; sofar = b.sofar }
    spent (taking p ps n cs) d a = record { good = a.good; pairs = a.pairs; exact = a.exact; uncut = a.uncut; choices = a.choices; stacked = a.stacked; sofar = a.sofar }
    spent (cutting h n cs) d (a, l) = (record { good = a.good; pairs = a.pairs; exact = a.exact; uncut = a.uncut; choices = a.choices; stacked = a.stacked; sofar = a.sofar }, l)

    pub move_holds : (m : Move) (d : Done) → Due m d → Holds (move R L wanted room m d)
    unfolding move take_pair
    move_holds (trying k (choice ks g n) cs) d b = try_head_holds k ks g n cs d b
    move_holds (taking p ps n cs) d a = compared_holds _ _ p ps n cs d refl refl a
    move_holds (cutting h n cs) d (a, l) = go_on_holds n (keep h cs) d (cut_holds h n cs d a l)

    due_fine : (m : Move) (d : Done) → Due m d → Fine R 22 d.listed
    due_fine (trying k (choice ks g n) cs) d b = back_fine 22 _ d (omega arith) b
    due_fine (taking p ps n cs) d a = at_fine 22 (p ∷ ps) n cs d (omega arith) a
    due_fine (cutting h n cs) d (a, l) = at_fine 22 [] n cs d (omega arith) a

    pub run_fine : (left : ℕ) (s : State) → Holds s → let r = run R L wanted room left s in Fine R r.0 r.1.listed
    unfolding run
    run_fine zero (ended e d) h = h
    run_fine zero (due m d) h = due_fine m d h
    run_fine (suc left) (ended e d) h = h
    run_fine (suc left) (due m d) h = run_fine left (move R L wanted room m (spend d)) (move_holds m (spend d) (spent m d h))

    nothing_fine : (e : ℕ) → e ≢ 20 → Fine R e []
    nothing_fine e h = sofar_fine R e (IsProof R) [] (λ q. absurd (h q)) (sofar_none R (IsProof R) (λ ks p. p))

    pub start_holds : (h : ℕ) → Holds (start_keeping R L wanted room h)
    unfolding start_keeping nothing
    start_holds h =
        if_by Holds (eqb wanted 0) (λ e. nothing_fine 21 (omega arith))
        (λ e. if_by Holds (ltb L.cells R.variables) (λ f. nothing_fine 23 (omega arith))
        (λ f. go_on_holds (asked R h) [] _ (record {
          good = asked_good R wf h;
          pairs = tt;
          exact = asked_exact R wf h;
          uncut = λ u. query_free h R.query u.query;
          choices = tt;
          stacked = tt;
          sofar = sofar_none R _ (λ ks p. inl (ks, refl));
        })))
