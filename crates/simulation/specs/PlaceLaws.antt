-- What stands at the places of terms and goals, what the tables say of them, and that they fit.
-- Assumes nothing.
use Rattle.std.specs.Prelude.{ℕ, ◌+◌, ◌*◌, ◌≤◌, ◌≡◌, List, ◌∷◌, length}
use Rattle.std.proofs.Math.Option.{some}
use Rattle.std.proofs.Math.ListN.{get_elem?}
use Rattle.std.proofs.Common.{arith}
use Rattle.meaning.specs.Terms.{Term, app, Terms, ◌∷ₜ◌, count}
use Rattle.meaning.specs.Kinds.{variable_limit}
use Rattle.meaning.specs.Rules.{Call, Goal, call, Clause, Rules}
use Rattle.meaning.specs.Reading.{byte}
use Rattle.layout.specs.Lengths.{term_length, terms_length, goal_length, goals_length, head_length, clause_length, clause_place, query_place}
use Rattle.layout.specs.Standing.{StandsTerms, StandsGoals, StandsRules}
use Rattle.layout.specs.Tables.{AfterTerms, AfterGoals, Tabled}
use Rattle.layout.specs.Fitting.{FitsTerms, FitsGoals, FitsRules}
use Rattle.layout.specs.Stood.{good_files_stand, good_files_fit}
use Rattle.simulation.specs.Places.{GoalsFrom, whole, later, BodyAt, QueryAt, TermsAt, of_head, of_body, of_query, of_term, rest}
use Rattle.simulation.specs.Rep.{Setting}

-- P of terms and Q of goals hold where each part of the rules begins, and of what is left when one is passed or entered
record Passes (R : Rules) (P : ℕ → Terms → Type 0) (Q : ℕ → List Goal → Type 0) : Type 0 where
  heads : (k : ℕ) (c : Clause) → get_elem? R.clauses k ≡ some c → P (clause_place R k + 5) c.head.arguments
  bodies : (k : ℕ) (c : Clause) → get_elem? R.clauses k ≡ some c → Q (clause_place R k + head_length c) c.body
  query : Q (query_place R + 3) R.query
  called : (p : ℕ) (g : Call) (gs : List Goal) → Q p (call g ∷ gs) → P (p + 3) g.arguments
  goal : (p : ℕ) (g : Goal) (gs : List Goal) → Q p (g ∷ gs) → Q (p + goal_length g) gs
  inner : (p f : ℕ) (ts us : Terms) → P p (app f ts ∷ₜ us) → P (p + 3) ts
  term : (p : ℕ) (t : Term) (ts : Terms) → P p (t ∷ₜ ts) → P (p + term_length t) ts

-- what holds of goals, and of those after the first where it holds of them all, holds of those left
pub left_by : {p q : ℕ} {gs hs : List Goal} (Q : ℕ → List Goal → Type 0) → ((p : ℕ) (g : Goal) (gs : List Goal) → Q p (g ∷ gs) → Q (p + goal_length g) gs) → GoalsFrom p gs q hs → Q p gs → Q q hs
left_by Q k whole h = h
left_by Q k (later {p} {g = g} {gs = gs} r) h = left_by Q k r (k p g gs h)

module _ (R : Rules) (P : ℕ → Terms → Type 0) (Q : ℕ → List Goal → Type 0) (k : Passes R P Q) where
  at_body : {c p : ℕ} {gs : List Goal} → BodyAt R c p gs → Q p gs
  at_body {c} b = left_by Q k.goal b.left (k.bodies c b.clause b.known)

  at_query : {p : ℕ} {gs : List Goal} → QueryAt R p gs → Q p gs
  at_query b = left_by Q k.goal b k.query

  at_terms : {p : ℕ} {ts : Terms} → TermsAt R p ts → P p ts
  at_terms (of_head c r e) = k.heads c r e
  at_terms (of_body {p = p} {g = g} {gs = gs} b) = k.called p g gs (at_body b)
  at_terms (of_query {p = p} {g = g} {gs = gs} b) = k.called p g gs (at_query b)
  at_terms (of_term {p} {f} {ts} {us} b) = k.inner p f ts us (at_terms b)
  at_terms (rest {p} {t} {ts} b) = k.term p t ts (at_terms b)

module _ (X : Setting) where
  pub rules_stand : StandsRules X.file X.rules
  rules_stand = good_files_stand X.file X.rules X.seen X.end X.good

  pub rules_fit : FitsRules X.rules
  rules_fit = good_files_fit X.file X.rules X.seen X.end X.good

  -- ---- what stands
  stands : Passes X.rules (StandsTerms X.file) (StandsGoals X.file)
  stands = record {
    heads = λ k c e. (rules_stand.clauses k c e).head;
    bodies = λ k c e. (rules_stand.clauses k c e).body;
    query = rules_stand.query;
    called = λ p g gs h. h.0.2;
    goal = λ p g gs h. h.1;
    inner = λ p f ts us h. h.0.2;
    term = λ p t ts h. h.1;
  }

  pub terms_stand : {p : ℕ} {ts : Terms} → TermsAt X.rules p ts → StandsTerms X.file p ts
  terms_stand = at_terms _ _ _ stands

  pub body_stands : {k p : ℕ} {gs : List Goal} → BodyAt X.rules k p gs → StandsGoals X.file p gs
  body_stands = at_body _ _ _ stands

  pub query_stands : {p : ℕ} {gs : List Goal} → QueryAt X.rules p gs → StandsGoals X.file p gs
  query_stands = at_query _ _ _ stands

  -- ---- where it ends
  ends : Passes X.rules (λ p ts. p + terms_length ts ≤ length X.file) (λ p gs. p + goals_length gs ≤ length X.file)
  unfolding terms_length term_length goals_length goal_length head_length clause_length
  ends = record {
    heads = λ k c e. let h = (rules_stand.clauses k c e).ends in omega arith;
    bodies = λ k c e. let h = (rules_stand.clauses k c e).ends in omega arith;
    query = let h = rules_stand.ends in omega arith;
    called = λ p g gs h. omega arith;
    goal = λ p g gs h. omega arith;
    inner = λ p f ts us h. omega arith;
    term = λ p t ts h. omega arith;
  }

  pub terms_end : {p : ℕ} {ts : Terms} → TermsAt X.rules p ts → p + terms_length ts ≤ length X.file
  terms_end = at_terms _ _ _ ends

  pub body_ends : {k p : ℕ} {gs : List Goal} → BodyAt X.rules k p gs → p + goals_length gs ≤ length X.file
  body_ends = at_body _ _ _ ends

  pub query_ends : {p : ℕ} {gs : List Goal} → QueryAt X.rules p gs → p + goals_length gs ≤ length X.file
  query_ends = at_query _ _ _ ends

  -- ---- what the tables say
  module _ (w : List ℕ) (T : Tabled (length X.file) X.rules w) where
    afters : Passes X.rules (AfterTerms w) (AfterGoals w)
    afters = record {
      heads = λ k c e. (T.clauses k c e).head;
      bodies = λ k c e. (T.clauses k c e).body;
      query = T.query;
      called = λ p g gs h. h.0.1;
      goal = λ p g gs h. h.1;
      inner = λ p f ts us h. h.0.1;
      term = λ p t ts h. h.1;
    }

    pub terms_after : {p : ℕ} {ts : Terms} → TermsAt X.rules p ts → AfterTerms w p ts
    terms_after = at_terms _ _ _ afters

    pub body_after : {k p : ℕ} {gs : List Goal} → BodyAt X.rules k p gs → AfterGoals w p gs
    body_after = at_body _ _ _ afters

    pub query_after : {p : ℕ} {gs : List Goal} → QueryAt X.rules p gs → AfterGoals w p gs
    query_after = at_query _ _ _ afters

  -- ---- that it fits: with so many variables declared, within the limit
  abbrev pub TermsFit : Terms → Type 0
  TermsFit ts = (d : ℕ) × (d ≤ variable_limit) × FitsTerms X.rules.functions d ts

  abbrev pub GoalsFit : List Goal → Type 0
  GoalsFit gs = (d : ℕ) × (d ≤ variable_limit) × FitsGoals X.rules.functions X.rules.predicates d gs

  fits : Passes X.rules (λ p. TermsFit) (λ p. GoalsFit)
  fits = record {
    heads = λ k c e. let h = rules_fit.clauses k c e in (c.variables, h.variables, h.head.terms);
    bodies = λ k c e. let h = rules_fit.clauses k c e in (c.variables, h.variables, h.body);
    query = (X.rules.variables, rules_fit.variables, rules_fit.query);
    called = λ p g gs h. (h.0, h.1, h.2.0.terms);
    goal = λ p g gs h. (h.0, h.1, h.2.1);
    inner = λ p f ts us h. (h.0, h.1, h.2.0.1);
    term = λ p t ts h. (h.0, h.1, h.2.1);
  }

  pub terms_fit : {p : ℕ} {ts : Terms} → TermsAt X.rules p ts → TermsFit ts
  terms_fit = at_terms _ _ _ fits

  pub body_fits : {k p : ℕ} {gs : List Goal} (b : BodyAt X.rules k p gs) → FitsGoals X.rules.functions X.rules.predicates b.clause.variables gs
  body_fits {k} b = left_by (λ p. FitsGoals X.rules.functions X.rules.predicates b.clause.variables) (λ p g gs h. h.1) b.left (rules_fit.clauses k b.clause b.known).body

  pub query_fits : {p : ℕ} {gs : List Goal} → QueryAt X.rules p gs → FitsGoals X.rules.functions X.rules.predicates X.rules.variables gs
  query_fits b = left_by (λ p. FitsGoals X.rules.functions X.rules.predicates X.rules.variables) (λ p g gs h. h.1) b rules_fit.query

  -- the file says how many arguments an applied function has
  pub arity_stands : {p f : ℕ} {us ts : Terms} → TermsAt X.rules p (app f us ∷ₜ ts) → byte X.file (2 * f + 1) ≡ count us
  arity_stands {f = f} {us = us} a = rules_stand.functions f (count us) (terms_fit a).2.0.0
