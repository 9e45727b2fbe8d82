-- The tables stay while their words do.
-- Assumes nothing.
use Rattle.std.specs.Prelude.{ℕ, ◌+◌, ◌*◌, ◌≤◌, ◌<◌, ◌≡◌, length}
use Rattle.std.proofs.Common.{sym, ◌∙◌, subst, arith}
use mathlib.Core.List.{List, [], ◌∷◌}
use Rattle.std.proofs.Math.Option.{some}
use Rattle.std.proofs.Math.ListN.{get_elem?}
use Rattle.meaning.specs.Terms.{Term, var, app, Terms, []ₜ, ◌∷ₜ◌}
use Rattle.meaning.specs.Rules.{Goal, call, cut, Clause}
use Rattle.meaning.specs.Moves.{clauses_of}
use Rattle.demands.specs.Proofs.{Each}
use Rattle.demands.specs.GoodFiles.{index_less}
use Rattle.demands.specs.Order.{each_map, clauses_known}
use Rattle.layout.specs.Lengths.{term_length, terms_length, goal_length, goals_length, head_length, clause_length, clause_place, query_place}
use Rattle.layout.specs.Stood.{good_files_fit}
use Rattle.layout.specs.Regions.{word, after_at, first_at}
use Rattle.layout.specs.Tables.{AfterTerm, AfterTerms, AfterGoals, AfterClause, Chain, Tabled}
use Rattle.tables.specs.Stood.{tables_fit}
use Rattle.simulation.specs.Rep.{Setting, Base}
use Rattle.simulation.specs.PlaceLaws.{rules_stand}
use Rattle.simulation.specs.Frames.{SameTables, clause_words_same}

module _ (X : Setting) where
  pub tables_room : length X.rules.predicates + 2 * length X.rules.clauses ≤ length X.file
  tables_room = tables_fit X.file X.rules (rules_stand X) (good_files_fit X.file X.rules X.seen X.end X.good)

  module _ (w v : List ℕ) (e : SameTables X w v) where
    abbrev F : ℕ
    F = length X.file

    mutual
      unfolding term_length terms_length

      term_same : (t : Term) (p : ℕ) → p + term_length t ≤ F → AfterTerm w p t → AfterTerm v p t
      term_same (var x) p h a = e (after_at p) (omega arith) (omega arith) ∙ a
      term_same (app f ts) p h a = (e (after_at p) (omega arith) (omega arith) ∙ a.0, terms_same ts (p + 3) (omega arith) a.1)

      terms_same : (ts : Terms) (p : ℕ) → p + terms_length ts ≤ F → AfterTerms w p ts → AfterTerms v p ts
      terms_same []ₜ p h a = tt
      terms_same (t ∷ₜ ts) p h a = (term_same t p (omega arith) a.0, terms_same ts (p + term_length t) (omega arith) a.1)

    goals_after_same : (gs : List Goal) (p : ℕ) → p + goals_length gs ≤ F → AfterGoals w p gs → AfterGoals v p gs
    unfolding goals_length goal_length
    goals_after_same [] p h a = tt
    goals_after_same (cut ∷ gs) p h a = (tt, goals_after_same gs (p + 1) (omega arith) a.1)
    goals_after_same (call g ∷ gs) p h a =
        ((e (after_at p) (omega arith) (omega arith) ∙ a.0.0, terms_same g.arguments (p + 3) (omega arith) a.0.1), goals_after_same gs (p + (3 + terms_length g.arguments)) (omega arith) a.1)

    clause_same : (p : ℕ) (c : Clause) → p + clause_length c ≤ F → AfterClause w p c → AfterClause v p c
    unfolding clause_length head_length
    clause_same p c h a = record {
      body_place = e (after_at p) (omega arith) (omega arith) ∙ a.body_place;
      head = terms_same c.head.arguments (p + 5) (omega arith) a.head;
      body = goals_after_same c.body (p + (5 + terms_length c.head.arguments)) (omega arith) a.body;
    }

    pub tabled_same : Tabled F X.rules w → Tabled F X.rules v
    tabled_same t = record {
      clauses = λ k c q. clause_same (clause_place X.rules k) c ((rules_stand X).clauses k c q).ends (t.clauses k c q);
      query = goals_after_same X.rules.query (query_place X.rules + 3) (let h = (rules_stand X).ends in omega arith) t.query;
      chains = λ q a h. chain q a h;
    }
      where
        numbers : (q : ℕ) → Each (λ k. k.number < length X.rules.clauses) (clauses_of q 0 X.rules.clauses)
        numbers q = each_map _ _ (λ k h. index_less X.rules.clauses k.number k.clause h.0) (clauses_of q 0 X.rules.clauses) (clauses_known q X.rules.clauses)

        chain : (q a : ℕ) → get_elem? X.rules.predicates q ≡ some a → Chain v F (length X.rules.predicates) X.rules (word v (first_at F q)) (clauses_of q 0 X.rules.clauses)
        chain q a h =
            let l : q < length X.rules.predicates = index_less X.rules.predicates q a h in
            let r : length X.rules.predicates + 2 * length X.rules.clauses ≤ F = tables_room in
            subst (λ (x : ℕ). Chain v F (length X.rules.predicates) X.rules x (clauses_of q 0 X.rules.clauses)) (sym (e (first_at F q) (omega arith) (omega arith)))
            (clause_words_same X w v e tables_room _ (clauses_of q 0 X.rules.clauses) (numbers q) (t.chains q a h))

    pub base_same : length v ≡ length w → Base X w → Base X v
    base_same l b = record { long = let k = b.long in omega arith; tabled = tabled_same b.tabled }
