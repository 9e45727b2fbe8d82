-- The words as they are laid out say of each term and goal the place after it, and of each clause its place and its predicate.
-- Assumes nothing.
use Rattle.std.specs.Prelude.{ℕ, zero, suc, ◌+◌, ◌*◌, ◌≤◌, ◌<◌, ◌≡◌, List, [], ◌∷◌, length, set, take}
use Rattle.std.proofs.Common.{◌∙◌, inl, inr, arith, length-set, get_or-set_other}
use Rattle.std.proofs.Math.Option.{some, some-injective}
use Rattle.std.proofs.Math.ListN.{get_elem?}
use Rattle.meaning.specs.Terms.{Term, var, app, Terms, []ₜ, ◌∷ₜ◌}
use Rattle.meaning.specs.Rules.{Goal, call, cut, Clause}
use Rattle.layout.specs.Lengths.{term_length, terms_length, goal_length, goals_length, head_length, clause_length, clauses_length}
use Rattle.layout.specs.Regions.{word, Keeps}
use Rattle.layout.specs.Tables.{AfterTerm, AfterTerms, AfterGoal, AfterGoals, AfterClause}
use Rattle.tables.specs.Laid.{lay_term, lay_terms, lay_arguments, lay_goal, lay_goals, lay_clause, enter, lay_clauses}
use Rattle.tables.specs.Kept.{keeps_set, set_word, term_keeps, terms_keep, arguments_keep, goal_keeps, goals_keep, clause_keeps, enter_keeps, clauses_keep}

-- ---- the places after terms and goals depend on the words of the places that these take
abbrev pub Same : ℕ → ℕ → List ℕ → List ℕ → Type 0
Same lo hi w v = (i : ℕ) → lo ≤ i → i < hi → word v i ≡ word w i

mutual
  unfolding term_length

  term_same : (w v : List ℕ) (p : ℕ) (t : Term) → Same (64 + p) (64 + p + term_length t) w v → AfterTerm w p t → AfterTerm v p t
  term_same w v p (var x) e a = e (64 + p) (omega arith) (omega arith) ∙ a
  term_same w v p (app f ts) e a = (e (64 + p) (omega arith) (omega arith) ∙ a.0, terms_same w v (p + 3) ts (λ i l h. e i (omega arith) (omega arith)) a.1)

  terms_same : (w v : List ℕ) (p : ℕ) (ts : Terms) → Same (64 + p) (64 + p + terms_length ts) w v → AfterTerms w p ts → AfterTerms v p ts
  terms_same w v p []ₜ e a = tt
  terms_same w v p (t ∷ₜ ts) e a =
      (term_same w v p t (λ i l h. e i (omega arith) (omega arith)) a.0, terms_same w v (p + term_length t) ts (λ i l h. e i (omega arith) (omega arith)) a.1)

pub goals_same : (w v : List ℕ) (p : ℕ) (gs : List Goal) → Same (64 + p) (64 + p + goals_length gs) w v → AfterGoals w p gs → AfterGoals v p gs
unfolding goals_length goal_length
goals_same w v p [] e a = tt
goals_same w v p (call g ∷ gs) e a = (
  (e (64 + p) (omega arith) (omega arith) ∙ a.0.0, terms_same w v (p + 3) g.arguments (λ i l h. e i (omega arith) (omega arith)) a.0.1),
  goals_same w v (p + (3 + terms_length g.arguments)) gs (λ i l h. e i (omega arith) (omega arith)) a.1,
)
goals_same w v p (cut ∷ gs) e a = (tt, goals_same w v (p + 1) gs (λ i l h. e i (omega arith) (omega arith)) a.1)

pub clause_same : (w v : List ℕ) (p : ℕ) (c : Clause) → Same (64 + p) (64 + p + clause_length c) w v → AfterClause w p c → AfterClause v p c
unfolding clause_length head_length
clause_same w v p c e a = record {
  body_place = e (64 + p) (omega arith) (omega arith) ∙ a.body_place;
  head = terms_same w v (p + 5) c.head.arguments (λ i l h. e i (omega arith) (omega arith)) a.head;
  body = goals_same w v (p + (5 + terms_length c.head.arguments)) c.body (λ i l h. e i (omega arith) (omega arith)) a.body;
}

-- what is kept outside lo and hi is the same before lo, and from hi on
pub keeps_below : (a b lo hi : ℕ) (w v : List ℕ) → Keeps lo hi w v → b ≤ lo → Same a b w v
keeps_below a b lo hi w v K h i l m = K.same i (inl (omega arith))

keeps_above : (a b lo hi : ℕ) (w v : List ℕ) → Keeps lo hi w v → hi ≤ a → Same a b w v
keeps_above a b lo hi w v K h i l m = K.same i (inr (omega arith))

-- ---- terms and goals are laid
mutual
  unfolding term_length lay_term

  term_laid : (t : Term) (p : ℕ) (w : List ℕ) → 64 + p + term_length t ≤ length w → AfterTerm (lay_term t p w) p t
  term_laid (var x) p w h = set_word w (64 + p) (p + 2) (omega arith)
  term_laid (app f ts) p w h =
      let v : List ℕ = lay_terms ts (p + 3) w in
      let long : length v ≡ length w = (terms_keep ts (p + 3) w).same_length in
      let e : p + 3 + terms_length ts ≡ p + (3 + terms_length ts) = omega arith in (
        set_word v (64 + p) (p + 3 + terms_length ts) (omega arith) ∙ e,
        terms_same v (set v (64 + p) (p + 3 + terms_length ts)) (p + 3) ts (keeps_above _ _ (64 + p) (64 + p + 1) v _ (keeps_set (64 + p) (64 + p + 1) v (64 + p) (p + 3 + terms_length ts) (omega arith) (omega arith)) (omega arith)) (terms_laid ts (p + 3) w (omega arith)),
      )

  terms_laid : (ts : Terms) (p : ℕ) (w : List ℕ) → 64 + p + terms_length ts ≤ length w → AfterTerms (lay_terms ts p w) p ts
  terms_laid []ₜ p w h = tt
  terms_laid (t ∷ₜ ts) p w h =
      let v : List ℕ = lay_term t p w in
      let long : length v ≡ length w = (term_keeps t p w).same_length in (
        term_same v (lay_terms ts (p + term_length t) v) p t (keeps_below _ _ (64 + (p + term_length t)) (64 + (p + term_length t) + terms_length ts) v _ (terms_keep ts (p + term_length t) v) (omega arith)) (term_laid t p w (omega arith)),
        terms_laid ts (p + term_length t) v (omega arith),
      )

arguments_laid : (ts : Terms) (p s : ℕ) (w : List ℕ) → p < s → 64 + s + terms_length ts ≤ length w
    → (word (lay_arguments ts p s w) (64 + p) ≡ s + terms_length ts) × AfterTerms (lay_arguments ts p s w) s ts
unfolding lay_arguments
arguments_laid ts p s w o h =
    let v : List ℕ = lay_terms ts s w in
    let long : length v ≡ length w = (terms_keep ts s w).same_length in (
      set_word v (64 + p) (s + terms_length ts) (omega arith),
      terms_same v (set v (64 + p) (s + terms_length ts)) s ts (keeps_above _ _ (64 + p) (64 + p + 1) v _ (keeps_set (64 + p) (64 + p + 1) v (64 + p) (s + terms_length ts) (omega arith) (omega arith)) (omega arith)) (terms_laid ts s w h),
    )

goal_laid : (g : Goal) (p : ℕ) (w : List ℕ) → 64 + p + goal_length g ≤ length w → AfterGoal (lay_goal g p w) p g
unfolding goal_length lay_goal
goal_laid (call g) p w h =
    let (e, a) = arguments_laid g.arguments p (p + 3) w (omega arith) (omega arith) in
    let f : p + 3 + terms_length g.arguments ≡ p + (3 + terms_length g.arguments) = omega arith in
    (e ∙ f, a)
goal_laid cut p w h = tt

pub goals_laid : (gs : List Goal) (p : ℕ) (w : List ℕ) → 64 + p + goals_length gs ≤ length w → AfterGoals (lay_goals gs p w) p gs
unfolding goals_length lay_goals
goals_laid [] p w h = tt
goals_laid (g ∷ gs) p w h =
    let v : List ℕ = lay_goal g p w in
    let long : length v ≡ length w = (goal_keeps g p w).same_length in
    let one : AfterGoals v p (g ∷ []) = (goal_laid g p w (omega arith), tt) in
    let later : Same (64 + p) (64 + p + (goal_length g + 0)) v (lay_goals gs (p + goal_length g) v) = keeps_below _ _ (64 + (p + goal_length g)) (64 + (p + goal_length g) + goals_length gs) v _ (goals_keep gs (p + goal_length g) v) (omega arith) in
    ((goals_same v (lay_goals gs (p + goal_length g) v) p (g ∷ []) later one).0, goals_laid gs (p + goal_length g) v (omega arith))

clause_laid : (c : Clause) (p : ℕ) (w : List ℕ) → 64 + p + clause_length c ≤ length w → AfterClause (lay_clause c p w) p c
unfolding clause_length head_length lay_clause
clause_laid c p w h =
    let n : ℕ = terms_length c.head.arguments in
    let v : List ℕ = lay_arguments c.head.arguments p (p + 5) w in
    let long : length v ≡ length w = (arguments_keep c.head.arguments p (p + 5) w (omega arith)).same_length in
    let (e, a) = arguments_laid c.head.arguments p (p + 5) w (omega arith) (omega arith) in
    let K = goals_keep c.body (p + (5 + n)) v in
    let f : p + 5 + n ≡ p + (5 + n) = omega arith in
    record {
      body_place = K.same (64 + p) (inl (omega arith)) ∙ e ∙ f;
      head = terms_same v (lay_goals c.body (p + (5 + n)) v) (p + 5) c.head.arguments (keeps_below _ _ (64 + (p + (5 + n))) (64 + (p + (5 + n)) + goals_length c.body) v _ K (omega arith)) a;
      body = goals_laid c.body (p + (5 + n)) v (omega arith);
    }

-- ---- clauses are laid: each one's own places, its place by number, and its predicate for now
pub record ClauseLaid (v : List ℕ) (table k p : ℕ) (c : Clause) : Type 0 where
  pub after : AfterClause v p c
  pub place : word v (table + 2 * k) ≡ p
  pub predicate : word v (table + 2 * k + 1) ≡ c.head.predicate

pub clauses_laid : (table k : ℕ) (cs : List Clause) (p : ℕ) (w : List ℕ) → 64 + p + clauses_length cs ≤ table → table + 2 * (k + length cs) ≤ length w
    → (j : ℕ) (c : Clause) → get_elem? cs j ≡ some c → ClauseLaid (lay_clauses table k cs p w) table (k + j) (p + clauses_length (take j cs)) c
unfolding clauses_length lay_clauses enter
clauses_laid table k [] p w o h j c e = let z : ◌≡◌ {A = ℕ} 0 1 = cc in absurd (omega arith)
clauses_laid table k (d ∷ cs) p w o h zero c e =
    let q : ℕ = d.head.predicate in
    let u : List ℕ = enter table k p q w in
    let v : List ℕ = lay_clause d p u in
    let K = clause_keeps d p u in
    let B = clauses_keep table (suc k) cs (p + clause_length d) v in
    let long : length u ≡ length w = (enter_keeps table k p q w).same_length in
    let same : d ≡ c = some-injective _ _ e in
    let here : p + 0 ≡ p = omega arith in
    let number : k + 0 ≡ k = omega arith in
    let first : word u (table + 2 * k) ≡ p = get_or-set_other (set w (table + 2 * k) p) (table + 2 * k + 1) (table + 2 * k) q 0 (λ x. omega arith) ∙ set_word w (table + 2 * k) p (omega arith) in
    let longer : length (set w (table + 2 * k) p) ≡ length w = length-set w (table + 2 * k) p in
    let second : word u (table + 2 * k + 1) ≡ q = set_word (set w (table + 2 * k) p) (table + 2 * k + 1) q (omega arith) in
    rw (here, number, ← same) (record {
      after = clause_same v (lay_clauses table (suc k) cs (p + clause_length d) v) p d (λ i l m. B.same i (inl (omega arith)) (inl (omega arith))) (clause_laid d p u (omega arith));
      place = B.same (table + 2 * k) (inr (omega arith)) (inl (omega arith)) ∙ K.same (table + 2 * k) (inr (omega arith)) ∙ first;
      predicate = B.same (table + 2 * k + 1) (inr (omega arith)) (inl (omega arith)) ∙ K.same (table + 2 * k + 1) (inr (omega arith)) ∙ second;
    })
clauses_laid table k (d ∷ cs) p w o h (suc j) c e =
    let u : List ℕ = enter table k p d.head.predicate w in
    let long : length (lay_clause d p u) ≡ length w = (clause_keeps d p u).same_length ∙ (enter_keeps table k p d.head.predicate w).same_length in
    let there : p + (clause_length d + clauses_length (take j cs)) ≡ p + clause_length d + clauses_length (take j cs) = omega arith in
    let number : k + suc j ≡ suc k + j = omega arith in
    rw (there, number) (clauses_laid table (suc k) cs (p + clause_length d) (lay_clause d p u) (omega arith) (omega arith) j c e)
