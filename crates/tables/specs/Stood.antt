-- What stands in a good file is here, place by place.
-- Assumes nothing.
use Rattle.std.specs.Prelude.{ℕ, zero, suc, ◌+◌, ◌-◌, ◌*◌, ◌≤◌, ◌<◌, ◌≡◌, refl, take}
use Rattle.std.proofs.Common.{ap, ◌∙◌, take_all}
use Rattle.std.proofs.Math.Path.{subst}
use mathlib.Core.List.{List, [], ◌∷◌}
use Rattle.std.proofs.Math.Option.{some}
use native.Mathlib.Omega.{arith}
use Rattle.std.proofs.Math.ListN.{length, get_elem?}
use Rattle.meaning.specs.Terms.{Term, var, app, Terms, []ₜ, ◌∷ₜ◌, count}
use Rattle.meaning.specs.Kinds.{level_limit}
use Rattle.meaning.specs.Rules.{Call, Goal, call, cut, Clause, Rules}
use Rattle.meaning.specs.Reading.{byte, two_bytes}
use Rattle.layout.specs.Lengths.{term_length, terms_length, goal_length, goals_length, head_length, clause_length, clauses_length, clause_place, query_place}
use Rattle.layout.specs.Standing.{StandsTerm, StandsTerms, StandsGoals, StandsClause, StandsRules}
use Rattle.layout.specs.Fitting.{depth, depths, FitsTerm, FitsTerms, FitsCall, FitsGoals, FitsClause, FitsRules}
use Rattle.tables.specs.Laid.{clauses_start}
use Rattle.tables.specs.Here.{Arity, HereTerm, HereTerms, HereArguments, HereGoals, HereClause, HereClauses}

-- an index is below the length
pub index_below : {A : Type 0} (l : List A) (i : ℕ) (a : A) → get_elem? l i ≡ some a → i < length l
index_below [] i a e = let z : ◌≡◌ {A = ℕ} 0 1 = cc in absurd (omega arith)
index_below (x ∷ l) zero a e = omega arith
index_below (x ∷ l) (suc i) a e = let h = index_below l i a e in omega arith

pub index_there : {A : Type 0} (l : List A) (i : ℕ) → i < length l → (a : A) × (get_elem? l i ≡ some a)
index_there [] i h = absurd (omega arith)
index_there (x ∷ l) zero h = (x, refl)
index_there (x ∷ l) (suc i) h = index_there l i (omega arith)

-- the arities stand in the file, from `base` on
abbrev pub Arities : List ℕ → ℕ → List ℕ → Type 0
Arities file base l = (i a : ℕ) → get_elem? l i ≡ some a → (byte file (base + 2 * i + 1) ≡ a) × (base + 2 * i + 1 < length file)

arity_here : (file : List ℕ) (base : ℕ) (l : List ℕ) → Arities file base l → (p i n : ℕ) → two_bytes file (p + 1) ≡ i → get_elem? l i ≡ some n → p + 3 ≤ length file → Arity file base p n
arity_here file base l A p i n e k h =
    let (b, within) = A i n k in
    let same : base + 2 * two_bytes file (p + 1) + 1 ≡ base + 2 * i + 1 = omega arith in
    record { within = h; known = omega arith; many = ap (byte file) same ∙ b }

module _ (file functions : List ℕ) (A : Arities file 0 functions) where
  mutual
    unfolding term_length depth

    here_term : (declared levels p : ℕ) (t : Term) → StandsTerm file p t → FitsTerm functions declared t → depth t ≤ levels → p + term_length t ≤ length file → HereTerm file levels p t
    here_term declared levels p (var x) s f d e = (s.0, e)
    here_term declared levels p (app f ts) s q d e =
        (s.0, omega arith, arity_here file 0 functions A p f (count ts) s.1 q.0 (omega arith), here_terms declared (levels - 1) (p + 3) ts s.2 q.1 (omega arith) (omega arith))

    here_terms : (declared levels p : ℕ) (ts : Terms) → StandsTerms file p ts → FitsTerms functions declared ts → depths ts ≤ levels → p + terms_length ts ≤ length file → HereTerms file levels p ts
    here_terms declared levels p []ₜ s f d e = omega arith
    here_terms declared levels p (t ∷ₜ ts) s f d e =
        (here_term declared levels p t s.0 f.0 (omega arith) (omega arith), here_terms declared levels (p + term_length t) ts s.1 f.1 (omega arith) (omega arith))

  module _ (base : ℕ) (predicates : List ℕ) (B : Arities file base predicates) where
    here_arguments : (declared p s : ℕ) (g : Call) → two_bytes file (p + 1) ≡ g.predicate → StandsTerms file s g.arguments → FitsCall functions predicates declared g
        → p + 3 ≤ s → s + terms_length g.arguments ≤ length file → HereArguments file base level_limit p s g.arguments
    here_arguments declared p s g e t f o l = record {
      arity = arity_here file base predicates B p g.predicate (count g.arguments) e f.arity (omega arith);
      terms = here_terms declared level_limit s g.arguments t f.terms f.levels l;
    }

    here_goals : (declared p : ℕ) (gs : List Goal) → StandsGoals file p gs → FitsGoals functions predicates declared gs → p + goals_length gs ≤ length file → HereGoals file base p gs
    unfolding goals_length goal_length
    here_goals declared p [] s f e = omega arith
    here_goals declared p (call g ∷ gs) s f e =
        ((s.0.0, here_arguments declared p (p + 3) g s.0.1 s.0.2 f.0 (omega arith) (omega arith)), here_goals declared (p + (3 + terms_length g.arguments)) gs s.1 f.1 (omega arith))
    here_goals declared p (cut ∷ gs) s f e = ((s.0, omega arith), here_goals declared (p + 1) gs s.1 f.1 (omega arith))

    here_clause : (p : ℕ) (c : Clause) → StandsClause file p c → FitsClause functions predicates c → HereClause file base p c
    unfolding clause_length head_length
    here_clause p c s f =
        let e = s.ends in
        record {
          within = omega arith;
          number = s.predicate;
          head = here_arguments c.variables p (p + 5) c.head s.predicate s.head f.head (omega arith) (omega arith);
          many = s.goals;
          body = here_goals c.variables (p + (5 + terms_length c.head.arguments)) c.body s.body f.body (omega arith);
        }

    here_clauses : (p : ℕ) (cs : List Clause) → ((k : ℕ) (c : Clause) → get_elem? cs k ≡ some c → StandsClause file (p + clauses_length (take k cs)) c)
        → ((k : ℕ) (c : Clause) → get_elem? cs k ≡ some c → FitsClause functions predicates c) → p + clauses_length cs ≤ length file → HereClauses file base p cs
    unfolding clauses_length
    here_clauses p [] s f e = omega arith
    here_clauses p (c ∷ cs) s f e =
        let here : p + 0 ≡ p = omega arith in (
          here_clause p c (subst (λ (x : ℕ). StandsClause file x c) here (s 0 c refl)) (f 0 c refl),
          here_clauses (p + clause_length c) cs
              (λ k d h. let same : p + (clause_length c + clauses_length (take k cs)) ≡ p + clause_length c + clauses_length (take k cs) = omega arith in
              subst (λ (x : ℕ). StandsClause file x d) same (s (suc k) d h))
              (λ k d h. f (suc k) d h) (omega arith),
        )

-- ---- the rules
pub query_after : (R : Rules) → query_place R ≡ clauses_start R + clauses_length R.clauses
unfolding query_place clause_place
query_after R = rw (take_all (length R.clauses) R.clauses (omega arith))

module _ (file : List ℕ) (R : Rules) (S : StandsRules file R) (T : FitsRules R) where
  pub query_within : clauses_start R + clauses_length R.clauses + 3 + goals_length R.query < length file
  query_within = let e = S.ends in let q = query_after R in omega arith

  functions_here : Arities file 0 R.functions
  functions_here f a e =
      let l = query_within in
      let i = index_below R.functions f a e in
      let same : 0 + 2 * f + 1 ≡ 2 * f + 1 = omega arith in
      (ap (byte file) same ∙ S.functions f a e, omega arith)

  predicates_here : Arities file (2 * length R.functions) R.predicates
  predicates_here q a e =
      let l = query_within in
      let i = index_below R.predicates q a e in
      (S.predicates q a e, omega arith)

  pub clauses_here : HereClauses file (2 * length R.functions) (clauses_start R) R.clauses
  unfolding clause_place
  clauses_here =
      let l = query_within in
      here_clauses file R.functions functions_here (2 * length R.functions) R.predicates predicates_here (clauses_start R) R.clauses S.clauses T.clauses (omega arith)

  pub query_here : HereGoals file (2 * length R.functions) (query_place R + 3) R.query
  query_here = let l = S.ends in here_goals file R.functions functions_here (2 * length R.functions) R.predicates predicates_here R.variables (query_place R + 3) R.query S.query T.query (omega arith)

-- each clause takes five bytes at least
clauses_few : (cs : List Clause) → 5 * length cs ≤ clauses_length cs
unfolding clauses_length clause_length head_length
clauses_few [] = omega arith
clauses_few (c ∷ cs) = let h = clauses_few cs in omega arith

-- the words for the predicates and clauses fit behind those for the places
pub tables_fit : (file : List ℕ) (R : Rules) → StandsRules file R → FitsRules R → length R.predicates + 2 * length R.clauses ≤ length file
tables_fit file R S T = let l = query_within file R S T in let f = clauses_few R.clauses in omega arith
