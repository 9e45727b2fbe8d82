-- Trying a head comes to what the definition says.
-- Assumes nothing.
use Rattle.std.specs.Prelude.{ℕ, ◌+◌, ◌*◌, ◌≤◌, ◌<◌, ltb, Ok, Err}
use Rattle.std.proofs.Math.Path.{◌≡◌, refl, ap}
use Rattle.std.proofs.Common.{sym, ◌∙◌, subst, arith, ltb-false}
use mathlib.Core.List.{List, ◌∷◌}
use Rattle.std.proofs.Math.Option.{some, some-injective}
use Rattle.std.proofs.Math.ListN.{length, get_elem?, get_or}
use Rattle.meaning.specs.If.{when◌then◌else◌}
use Rattle.meaning.specs.Terms.{count}
use Rattle.meaning.specs.Rules.{Call}
use Rattle.meaning.specs.Outcome.{end_number}
use Rattle.meaning.specs.declared.End.TheVariants.{Cells, Steps}
use Rattle.meaning.specs.Moves.{Derivation, Numbered, Choice, choice, pairs, over, Done, ended, with_goals, with_step, matching, try_head}
use Rattle.laws.specs.IfLaws.{if_by, if_true, if_false}
use Rattle.demands.specs.Proofs.{WellClause, WellFormed}
use Rattle.demands.specs.Order.{each_at}
use Rattle.demands.specs.WellLaws.{store_bindings_good}
use Rattle.demands.specs.Ways.{step_good}
use Rattle.demands.specs.Searches.{GoodChoice}
use Rattle.layout.specs.Lengths.{clause_place, query_place}
use Rattle.meaning.specs.declared.Place.{Place}
use Rattle.cells.specs.Cells.{freed}
use Rattle.search.specs.Search.{step_put, clause_place_word, room_of, arity_at, paired, entered_regs, entered_words, Enters, enters, MatchesOn, TriesHead, no_room, tries}
use Rattle.search.specs.declared.Given.{Given}
use Rattle.search.specs.declared.Regs.{Regs}
use Rattle.search.specs.declared.Trial.{Trial}
use Rattle.search.specs.declared.Due.{Due}
use Rattle.search.specs.declared.Fits.{Fits}
use Rattle.simulation.specs.PlaceLaws.{rules_stand}
use Rattle.simulation.specs.Rep.{Setting, lay, layout_of}
use Rattle.simulation.specs.Ranges.{few_predicates, in_range_is}
use Rattle.simulation.specs.Undoes.{within_good}
use Rattle.simulation.specs.States.{SoundAll, more, Fair, TryIs, DueIs, is_over}
use Rattle.simulation.specs.Unmentioned.{Unmentioned, arguments_good}
use Rattle.simulation.specs.Cutting.{matches_on}
use Rattle.simulation.specs.Entering.{Tried, entered_at, arity_is}

-- what the code is given for a setting
unfoldable pub given_of : Setting → Given
given_of X = record {
  lay = lay X;
  limits = record { cells = X.limits.cells; steps = X.limits.steps; work = X.limits.work };
  functions = length X.rules.functions;
  query = record { 0 = query_place X.rules };
}

module _ (X : Setting) (wf : WellFormed X.rules) (wanted room : ℕ) where
  module _ (w : List ℕ) (t : Trial) (m : Regs) (k : Numbered) (ks : List Numbered) (g : Call) (n : Derivation) (cs : List Choice) (try : TryIs X w t m k ks g n cs) (c : GoodChoice X.rules wf (k ∷ ks) g n) (below : SoundAll X cs) where
    known : get_elem? X.rules.clauses k.number ≡ some k.clause
    known = c.untried.0.0

    clause_well : WellClause X.rules k.clause
    clause_well = each_at (WellClause X.rules) X.rules.clauses k.number k.clause wf.clauses known

    arity : get_elem? X.rules.predicates g.predicate ≡ some (count g.arguments)
    unfolding with_goals
    arity = c.good.goals.0.arity

    tried : n.cells + k.clause.variables ≤ X.limits.cells → m.steps < X.limits.steps → Tried X m k g n
    unfolding with_goals
    tried a b = record {
      known = known;
      arity = arity;
      counts = some-injective _ _ (sym arity ∙ ap (get_elem? X.rules.predicates) c.untried.0.1 ∙ clause_well.head.arity);
      few = let f = few_predicates X g.predicate (count g.arguments) arity in let r = in_range_is X.limits X.in_limits in let s = r.some_work in omega arith;
      sound = c.good.sound;
      good = c.good.store;
      cells = a;
      steps = b;
    }

    place_is : clause_place_word w (lay X) t.clause ≡ record { 0 = clause_place X.rules k.number }
    unfolding clause_place_word layout_of
    place_is = ap (λ (x : ℕ). record { 0 = get_or w (64 + length X.file + length X.rules.predicates + 2 * x) 0 }) try.clause ∙ ap (λ (x : ℕ). record { 0 = x }) try.place

    room_is : room_of X.file w (given_of X) t.clause m
        ≡ (when ltb X.limits.cells (n.cells + k.clause.variables) then Err Cells else when ltb X.limits.steps (length n.steps + 1) then Err Steps else Ok (record { place = record { 0 = clause_place X.rules k.number }; variables = k.clause.variables }))
    unfolding room_of given_of
    room_is = rw (place_is, ((rules_stand X).clauses k.number k.clause known).variables, try.run.cells, try.run.steps.0) refl

    fair : Fair X (with_step k (length cs) n) (choice ks g n ∷ cs)
    unfolding with_step with_goals
    fair =
        let good = step_good X.rules k (length cs) g n known clause_well c.good in
        let within = within_good X X.rules.functions n.cells n.store try.run.holds.few c.good.store in
        record { good = good; within = within; choices = more c.good.sound within try.run.holds.few below }

    abbrev here_place : Place
    here_place = record { 0 = clause_place X.rules k.number }

    -- the fresh cells of the clause are mentioned by its head alone
    fresh : Unmentioned X.rules.functions m.cells n.store (pairs g.arguments (over n.cells k.clause.head).arguments)
    unfolding with_goals
    fresh = rw try.run.cells (record { bindings = store_bindings_good X.rules.functions n.cells n.store c.good.store; goals = arguments_good X.rules.functions n.cells g.arguments _ c.good.goals.0.terms })

    -- the clause has been entered, and its pairs are matched
    entered_due : (d : Done) {r : Due} {u : List ℕ} → m.units ≡ d.units → n.cells + k.clause.variables ≤ X.limits.cells → m.steps < X.limits.steps
        → MatchesOn X.file (lay X) (entered_regs X.file (entered_words X.file (given_of X) t m here_place k.clause.variables w) (lay X) m here_place k.clause.variables (arity_at X.file (length X.rules.functions) t.goal))
        (entered_words X.file (given_of X) t m here_place k.clause.variables w) r u
        → DueIs X u wanted room d r (matching X.rules X.limits wanted room (pairs g.arguments (over n.cells k.clause.head).arguments) (with_step k (length cs) n) (choice ks g n ∷ cs) d)
    unfolding entered_words given_of entered_regs with_step
    entered_due d {r} {u} un a b mo =
        let at = entered_at X w t m k ks g n cs try (tried a b) in
        matches_on X wanted room _ _ _ _ _ d (subst (λ (x : ℕ). MatchesOn X.file (lay X) (entered_regs X.file (paired (lay X) x t here_place m.cells (freed k.clause.variables m.cells (lay X) (step_put (lay X) t m w))) (lay X) m here_place k.clause.variables x)
        (paired (lay X) x t here_place m.cells (freed k.clause.variables m.cells (lay X) (step_put (lay X) t m w))) r u) (arity_is X w t m k ks g n cs try (tried a b)) mo) at fresh fair un

    pub tries_head : (d : Done) {r : Due} {v : List ℕ} → TriesHead X.file (given_of X) t m w r v → m.units ≡ d.units → DueIs X v wanted room d r (try_head X.rules X.limits wanted room k (choice ks g n) cs d)
    unfolding try_head end_number given_of
    tries_head d h un =
        if_by (DueIs X _ wanted room d _) (ltb X.limits.cells (n.cells + k.clause.variables))
        (λ b. over_one h (room_is ∙ if_true _ _ _ b))
        (λ b. if_by (DueIs X _ wanted room d _) (ltb X.limits.steps (length n.steps + 1))
        (λ c'. over_two h (room_is ∙ if_false _ _ _ b ∙ if_true _ _ _ c'))
        (λ c'. fits h (room_is ∙ if_false _ _ _ b ∙ if_false _ _ _ c') (ltb-false _ _ b) (ltb-false _ _ c')))
      where
        over_one : {r : Due} {v : List ℕ} → TriesHead X.file (given_of X) t m w r v → room_of X.file w (given_of X) t.clause m ≡ Err Cells → DueIs X v wanted room d r (ended 23 d)
        over_one (no_room {e = z} a) e = let y : z ≡ Cells = cc in rw y (is_over Cells un)
        over_one (tries a x y) e = cc

        over_two : {r : Due} {v : List ℕ} → TriesHead X.file (given_of X) t m w r v → room_of X.file w (given_of X) t.clause m ≡ Err Steps → DueIs X v wanted room d r (ended 24 d)
        over_two (no_room {e = z} a) e = let y : z ≡ Steps = cc in rw y (is_over Steps un)
        over_two (tries a x y) e = cc

        fits : {r : Due} {v : List ℕ} → TriesHead X.file (given_of X) t m w r v → room_of X.file w (given_of X) t.clause m ≡ Ok (record { place = here_place; variables = k.clause.variables }) → n.cells + k.clause.variables ≤ X.limits.cells → length n.steps + 1 ≤ X.limits.steps
            → DueIs X v wanted room d r (matching X.rules X.limits wanted room (pairs g.arguments (over n.cells k.clause.head).arguments) (with_step k (length cs) n) (choice ks g n ∷ cs) d)
        fits (no_room a) e i j = cc
        fits (tries {fit = y} a f mo) e i j = let s = try.run.steps.0 in let z : y ≡ record { place = here_place; variables = k.clause.variables } = cc in again y.place y.variables f mo (ap (λ (b : Fits). b.place) z) (ap (λ (b : Fits). b.variables) z) i (omega arith)
          where
            again : (q : Place) (x : ℕ) {o : Regs} {y u : List ℕ} {s : Due} → Enters X.file (given_of X) t m q x w o y → MatchesOn X.file (given_of X).lay o y s u → q ≡ here_place → x ≡ k.clause.variables → n.cells + k.clause.variables ≤ X.limits.cells → m.steps < X.limits.steps
                → DueIs X u wanted room d s (matching X.rules X.limits wanted room (pairs g.arguments (over n.cells k.clause.head).arguments) (with_step k (length cs) n) (choice ks g n ∷ cs) d)
            again q x enters mo eq ex i j = entered_due d un i j (rw (eq, ex) at mo)
