-- Which words laying out sets, and that the others are kept.
-- Assumes nothing.
use Rattle.std.specs.Prelude.{ℕ, zero, suc, ◌+◌, ◌*◌, ◌≤◌, ◌<◌, ◌≡◌, refl, ◌⊎◌, List, [], ◌∷◌, length, set}
use Rattle.std.proofs.Common.{◌∙◌, inl, inr, ⊎_elim, arith, length-set, get_or-set_same, get_or-set_other}
use Rattle.std.proofs.Math.Decide.{ℕ_discrete}
use Rattle.meaning.specs.Terms.{Term, var, app, Terms, []ₜ, ◌∷ₜ◌}
use Rattle.meaning.specs.Rules.{Goal, call, cut, Clause}
use Rattle.layout.specs.Lengths.{term_length, terms_length, goal_length, goals_length, head_length, clause_length, clauses_length}
use Rattle.layout.specs.Regions.{word, Keeps}
use Rattle.tables.specs.Laid.{lay_term, lay_terms, lay_arguments, lay_goal, lay_goals, lay_clause, enter, lay_clauses, clear}

-- ---- laws
pub keeps_none : (lo hi : ℕ) (w : List ℕ) → Keeps lo hi w w
keeps_none lo hi w = record { same_length = refl; same = λ i h. refl }

pub keeps_then : (lo hi : ℕ) (u v w : List ℕ) → Keeps lo hi u v → Keeps lo hi v w → Keeps lo hi u w
keeps_then lo hi u v w K L = record { same_length = L.same_length ∙ K.same_length; same = λ i h. L.same i h ∙ K.same i h }

pub keeps_wide : (a b lo hi : ℕ) (w v : List ℕ) → lo ≤ a → b ≤ hi → Keeps a b w v → Keeps lo hi w v
keeps_wide a b lo hi w v l h K = record { same_length = K.same_length; same = λ i o. K.same i (⊎_elim (λ x. inl (omega arith)) (λ x. inr (omega arith)) o) }

pub keeps_set : (lo hi : ℕ) (w : List ℕ) (i v : ℕ) → lo ≤ i → i < hi → Keeps lo hi w (set w i v)
keeps_set lo hi w i v l h = record { same_length = length-set w i v; same = λ j o. get_or-set_other w i j v 0 (λ e. ⊎_elim (λ x. omega arith) (λ x. omega arith) o) }

pub set_word : (w : List ℕ) (i v : ℕ) → i < length w → word (set w i v) i ≡ v
set_word w i v h = get_or-set_same w i v 0 h

-- ---- terms and goals set only words of the places that they take
mutual
  unfolding term_length lay_term

  pub term_keeps : (t : Term) (p : ℕ) (w : List ℕ) → Keeps (64 + p) (64 + p + term_length t) w (lay_term t p w)
  term_keeps (var x) p w = keeps_set (64 + p) (64 + p + 2) w (64 + p) (p + 2) (omega arith) (omega arith)
  term_keeps (app f ts) p w =
      keeps_then (64 + p) (64 + p + (3 + terms_length ts)) w (lay_terms ts (p + 3) w) _
      (keeps_wide (64 + (p + 3)) (64 + (p + 3) + terms_length ts) (64 + p) (64 + p + (3 + terms_length ts)) w _ (omega arith) (omega arith) (terms_keep ts (p + 3) w))
      (keeps_set (64 + p) (64 + p + (3 + terms_length ts)) _ (64 + p) (p + 3 + terms_length ts) (omega arith) (omega arith))

  pub terms_keep : (ts : Terms) (p : ℕ) (w : List ℕ) → Keeps (64 + p) (64 + p + terms_length ts) w (lay_terms ts p w)
  terms_keep []ₜ p w = keeps_none (64 + p) (64 + p + 0) w
  terms_keep (t ∷ₜ ts) p w =
      let lo : ℕ = 64 + p in
      let hi : ℕ = 64 + p + (term_length t + terms_length ts) in
      keeps_then lo hi w (lay_term t p w) _
      (keeps_wide (64 + p) (64 + p + term_length t) lo hi w _ (omega arith) (omega arith) (term_keeps t p w))
      (keeps_wide (64 + (p + term_length t)) (64 + (p + term_length t) + terms_length ts) lo hi _ _ (omega arith) (omega arith) (terms_keep ts (p + term_length t) (lay_term t p w)))

pub arguments_keep : (ts : Terms) (p s : ℕ) (w : List ℕ) → p < s → Keeps (64 + p) (64 + s + terms_length ts) w (lay_arguments ts p s w)
unfolding lay_arguments
arguments_keep ts p s w h =
    keeps_then (64 + p) (64 + s + terms_length ts) w (lay_terms ts s w) _
    (keeps_wide (64 + s) (64 + s + terms_length ts) (64 + p) (64 + s + terms_length ts) w _ (omega arith) (omega arith) (terms_keep ts s w))
    (keeps_set (64 + p) (64 + s + terms_length ts) _ (64 + p) (s + terms_length ts) (omega arith) (omega arith))

pub goal_keeps : (g : Goal) (p : ℕ) (w : List ℕ) → Keeps (64 + p) (64 + p + goal_length g) w (lay_goal g p w)
unfolding goal_length lay_goal
goal_keeps (call g) p w =
    keeps_wide (64 + p) (64 + (p + 3) + terms_length g.arguments) (64 + p) (64 + p + (3 + terms_length g.arguments)) w _ (omega arith) (omega arith) (arguments_keep g.arguments p (p + 3) w (omega arith))
goal_keeps cut p w = keeps_none (64 + p) (64 + p + 1) w

pub goals_keep : (gs : List Goal) (p : ℕ) (w : List ℕ) → Keeps (64 + p) (64 + p + goals_length gs) w (lay_goals gs p w)
unfolding goals_length lay_goals
goals_keep [] p w = keeps_none (64 + p) (64 + p + 0) w
goals_keep (g ∷ gs) p w =
    let lo : ℕ = 64 + p in
    let hi : ℕ = 64 + p + (goal_length g + goals_length gs) in
    keeps_then lo hi w (lay_goal g p w) _
    (keeps_wide (64 + p) (64 + p + goal_length g) lo hi w _ (omega arith) (omega arith) (goal_keeps g p w))
    (keeps_wide (64 + (p + goal_length g)) (64 + (p + goal_length g) + goals_length gs) lo hi _ _ (omega arith) (omega arith) (goals_keep gs (p + goal_length g) (lay_goal g p w)))

pub clause_keeps : (c : Clause) (p : ℕ) (w : List ℕ) → Keeps (64 + p) (64 + p + clause_length c) w (lay_clause c p w)
unfolding clause_length head_length lay_clause
clause_keeps c p w =
    let n : ℕ = terms_length c.head.arguments in
    let lo : ℕ = 64 + p in
    let hi : ℕ = 64 + p + (5 + n + goals_length c.body) in
    keeps_then lo hi w (lay_arguments c.head.arguments p (p + 5) w) _
    (keeps_wide (64 + p) (64 + (p + 5) + n) lo hi w _ (omega arith) (omega arith) (arguments_keep c.head.arguments p (p + 5) w (omega arith)))
    (keeps_wide (64 + (p + (5 + n))) (64 + (p + (5 + n)) + goals_length c.body) lo hi _ _ (omega arith) (omega arith) (goals_keep c.body (p + (5 + n)) _))

-- ---- clauses set words of their places, and those of their numbers
pub enter_keeps : (table k p q : ℕ) (w : List ℕ) → Keeps (table + 2 * k) (table + 2 * k + 2) w (enter table k p q w)
unfolding enter
enter_keeps table k p q w =
    let lo : ℕ = table + 2 * k in
    keeps_then lo (lo + 2) w (set w lo p) _ (keeps_set lo (lo + 2) w lo p (omega arith) (omega arith)) (keeps_set lo (lo + 2) _ (lo + 1) q (omega arith) (omega arith))

pub record KeepsBoth (a b c d : ℕ) (w v : List ℕ) : Type 0 where
  pub same_length : length v ≡ length w
  pub same : (i : ℕ) → (i < a) ⊎ (b ≤ i) → (i < c) ⊎ (d ≤ i) → word v i ≡ word w i

pub clauses_keep : (table k : ℕ) (cs : List Clause) (p : ℕ) (w : List ℕ) → KeepsBoth (64 + p) (64 + p + clauses_length cs) (table + 2 * k) (table + 2 * (k + length cs)) w (lay_clauses table k cs p w)
unfolding clauses_length lay_clauses
clauses_keep table k [] p w = record { same_length = refl; same = λ i h o. refl }
clauses_keep table k (c ∷ cs) p w =
    let u : List ℕ = enter table k p c.head.predicate w in
    let v : List ℕ = lay_clause c p u in
    let E = enter_keeps table k p c.head.predicate w in
    let C = clause_keeps c p u in
    let D = clauses_keep table (suc k) cs (p + clause_length c) v in
    record {
      same_length = D.same_length ∙ C.same_length ∙ E.same_length;
      same = λ i h o.
          D.same i (⊎_elim (λ x. inl (omega arith)) (λ x. inr (omega arith)) h) (⊎_elim (λ x. inl (omega arith)) (λ x. inr (omega arith)) o)
          ∙ C.same i (⊎_elim (λ x. inl (omega arith)) (λ x. inr (omega arith)) h)
          ∙ E.same i (⊎_elim (λ x. inl (omega arith)) (λ x. inr (omega arith)) o);
    }

-- ---- predicates
pub clear_keeps : (first n : ℕ) (w : List ℕ) → Keeps first (first + n) w (clear first n w)
unfolding clear
clear_keeps first zero w = keeps_none first (first + 0) w
clear_keeps first (suc n) w =
    keeps_then first (first + suc n) w (clear first n w) _ (keeps_wide first (first + n) first (first + suc n) w _ (omega arith) (omega arith) (clear_keeps first n w))
    (keeps_set first (first + suc n) _ (first + n) 0 (omega arith) (omega arith))

pub clear_word : (first n : ℕ) (w : List ℕ) (i : ℕ) → first + n ≤ length w → i < n → word (clear first n w) (first + i) ≡ 0
unfolding clear
clear_word first zero w i l h = absurd (omega arith)
clear_word first (suc n) w i l h = go (clear_keeps first n w).same_length (λ m. clear_word first n w i (omega arith) (omega arith)) (ℕ_discrete i n)
  where
    go : length (clear first n w) ≡ length w → ((i ≡ n → ⊥) → word (clear first n w) (first + i) ≡ 0) → Dec (i ≡ n) → word (set (clear first n w) (first + n) 0) (first + i) ≡ 0
    go long before (yes e) = rw e (set_word (clear first n w) (first + n) 0 (omega arith))
    go long before (no m) = get_or-set_other (clear first n w) (first + n) (first + i) 0 0 (λ e. m (omega arith)) ∙ before m
