-- What a change of some words leaves as it was.
-- Assumes nothing.
use Rattle.std.specs.Prelude.{ℕ, zero, suc, ◌+◌, ◌*◌, ◌≤◌, ◌<◌, ◌≡◌, refl, ◌⊎◌, ◌≢◌, List, [], ◌∷◌, length, set}
use Rattle.std.proofs.Common.{ap, sym, ◌∙◌, subst, inl, inr, arith, length-set, get_or-set_other}
use Rattle.std.proofs.Math.Option.{some}
use Rattle.meaning.specs.Store.{Store, bind}
use Rattle.meaning.specs.Moves.{Open, Choice, Numbered}
use Rattle.demands.specs.Proofs.{Each}
use Rattle.layout.specs.Regions.{word, Keeps, place_at, next_at}
use Rattle.layout.specs.Tables.{Chain}
use Rattle.search.specs.Search.{step_word, clause_next_word}
use Rattle.simulation.specs.Rep.{Setting, lay, layout_of, StepsAre, HeightIs, no_height, height, OnChain, here, up, Links, Settled, GoalsAre, in_query, in_body, Older, now, since, ChoicesAre, no_choices, choices, GoalIs}

-- ---- regions
pub keeps_none : (lo hi : ℕ) (w : List ℕ) → Keeps lo hi w w
keeps_none lo hi w = record { same_length = refl; same = λ i h. refl }

pub keeps_then : (lo hi : ℕ) (u v w : List ℕ) → Keeps lo hi u v → Keeps lo hi v w → Keeps lo hi u w
keeps_then lo hi u v w k l = record { same_length = l.same_length ∙ k.same_length; same = λ i h. l.same i h ∙ k.same i h }

pub keeps_wider : (lo hi a b : ℕ) (w v : List ℕ) → a ≤ lo → hi ≤ b → Keeps lo hi w v → Keeps a b w v
keeps_wider lo hi a b w v h k s = record { same_length = s.same_length; same = λ i d. s.same i (out i d) }
  where
    out : (i : ℕ) → (i < a) ⊎ (b ≤ i) → (i < lo) ⊎ (hi ≤ i)
    out i (inl d) = inl (omega arith)
    out i (inr d) = inr (omega arith)

pub set_keeps : (lo hi i v : ℕ) (w : List ℕ) → lo ≤ i → i < hi → Keeps lo hi w (set w i v)
set_keeps lo hi i v w h k = record { same_length = length-set w i v; same = λ j d. get_or-set_other w i j v 0 (apart j d) }
  where
    apart : (j : ℕ) → (j < lo) ⊎ (hi ≤ j) → j ≢ i
    apart j (inl d) e = omega arith
    apart j (inr d) e = omega arith

module _ (X : Setting) where
  -- ---- steps
  -- the words of the steps up to k are the same
  abbrev pub SameSteps : ℕ → List ℕ → List ℕ → Type 0
  SameSteps k w v = (s j : ℕ) → s ≤ k → step_word v (lay X) s j ≡ step_word w (lay X) s j

  module _ (k : ℕ) (w v : List ℕ) (e : SameSteps k w v) where
    pub height_same : {c h : ℕ} → c ≤ k → HeightIs X w c h → HeightIs X v c h
    height_same l no_height = no_height
    height_same l (height i {h} p q) =
        let z : step_word v (lay X) (suc i) 7 ≡ step_word w (lay X) (suc i) 7 = e (suc i) 7 l in
        height i (rw z p) (subst (λ (n : ℕ). HeightIs X v n h) (sym z) (height_same (omega arith) q))

    pub chain_same : {b c : ℕ} → b ≤ k → OnChain X w b c → OnChain X v b c
    chain_same l here = here
    chain_same l (up i {c} p q) =
        let z : step_word v (lay X) (suc i) 7 ≡ step_word w (lay X) (suc i) 7 = e (suc i) 7 l in
        up i (rw z p) (subst (λ (n : ℕ). OnChain X v n c) (sym z) (chain_same (omega arith) q))

    pub links_same : (b f : ℕ) → b ≤ k → f ≤ k → Links X w b f → Links X v b f
    links_same b zero l m q = tt
    links_same b (suc i) l m q = subst (OnChain X v b) (sym (e (suc i) 7 m)) (chain_same l q)

    pub steps_same : (i : ℕ) (ks : List ℕ) → i ≤ k → StepsAre X w i ks → StepsAre X v i ks
    steps_same i ks l (n, f) = (n, λ j h. f j h ∙ ap some (sym (e (suc j) 0 (omega arith))))

    pub goals_same : {p f : ℕ} {os : List Open} → f ≤ k → GoalsAre X w p f os → GoalsAre X v p f os
    goals_same l (in_query q) = in_query q
    goals_same l (in_body {p} i {b} {h} {gs} {os} body base high prior less links settled rest) =
        let s : (j : ℕ) → step_word w (lay X) (suc i) j ≡ step_word v (lay X) (suc i) j = λ j. sym (e (suc i) j l) in
        in_body i (rw (s 0) at body) (rw (s 5) at base)
        (subst (λ (c : ℕ). HeightIs X v c h) (s 7) (height_same (omega arith) high))
        (rw (s 7) at prior)
        (rw (s 4) at less)
        (subst (λ (c : ℕ). Links X v c (step_word v (lay X) (suc i) 4)) (s 7) (subst (Links X v (step_word w (lay X) (suc i) 7)) (s 4) (links_same (step_word w (lay X) (suc i) 7) (step_word w (lay X) (suc i) 4) (omega arith) (omega arith) links)))
        (subst (λ (f : ℕ). Settled X (step_word v (lay X) (suc i) 3) f) (s 4) (subst (λ (q : ℕ). Settled X q (step_word w (lay X) (suc i) 4)) (s 3) settled))
        (subst (λ (f : ℕ). GoalsAre X v (step_word v (lay X) (suc i) 3) f os) (s 4) (subst (λ (q : ℕ). GoalsAre X v q (step_word w (lay X) (suc i) 4) os) (s 3) (goals_same (omega arith) rest)))

  -- ---- tables
  -- the words of the tables are the same
  abbrev pub SameTables : List ℕ → List ℕ → Type 0
  SameTables w v = (i : ℕ) → 64 ≤ i → i < 64 + 2 * length X.file → word v i ≡ word w i

  module _ (w v : List ℕ) (e : SameTables w v) (fits : length X.rules.predicates + 2 * length X.rules.clauses ≤ length X.file) where
    abbrev F : ℕ
    F = length X.file

    abbrev q : ℕ
    q = length X.rules.predicates

    pub clause_words_same : (v₀ : ℕ) (ks : List Numbered) → Each (λ k. k.number < length X.rules.clauses) ks → Chain w F q X.rules v₀ ks → Chain v F q X.rules v₀ ks
    clause_words_same v₀ [] n c = c
    clause_words_same v₀ (k ∷ ks) n c =
        let l : k.number < length X.rules.clauses = n.0 in (
          c.0,
          e (place_at F q k.number) (omega arith) (omega arith) ∙ c.1,
          subst (λ (x : ℕ). Chain v F q X.rules x ks) (sym (e (next_at F q k.number) (omega arith) (omega arith))) (clause_words_same (word w (next_at F q k.number)) ks n.1 c.2),
        )

    pub next_same : (k : ℕ) → k < length X.rules.clauses → clause_next_word v (lay X) k ≡ clause_next_word w (lay X) k
    unfolding clause_next_word layout_of
    next_same k l = e (64 + F + q + 2 * k + 1) (omega arith) (omega arith)

    pub choices_same : (m : ℕ) → SameSteps m w v → {s : Store} {u c : ℕ} {cs : List Choice} → c ≤ m → ChoicesAre X w s u c cs → ChoicesAre X v s u c cs
    choices_same m f l no_choices = no_choices
    choices_same m f l (choices {s} {u} i {ks} {g} {n} {cs} chain known numbers goal goals less links settled cells trail prior steps older fewer rest) =
        let z : (j : ℕ) → step_word w (lay X) (suc i) j ≡ step_word v (lay X) (suc i) j = λ j. sym (f (suc i) j l) in
        choices i
        (subst (λ (x : ℕ). Chain v F q X.rules x ks) (sym (next_same (step_word w (lay X) (suc i) 0) known) ∙ ap (clause_next_word v (lay X)) (z 0)) (clause_words_same _ ks numbers chain))
        (rw (z 0) at known)
        numbers
        (subst (λ (b : ℕ). GoalIs X v (step_word v (lay X) (suc i) 1) b g) (z 2) (subst (λ (p : ℕ). GoalIs X v p (step_word w (lay X) (suc i) 2) g) (z 1) (goal_same goal)))
        (subst (λ (x : ℕ). GoalsAre X v (step_word v (lay X) (suc i) 3) x n.goals) (z 4) (subst (λ (p : ℕ). GoalsAre X v p (step_word w (lay X) (suc i) 4) n.goals) (z 3) (goals_same m w v f (omega arith) goals)))
        (rw (z 4) at less)
        (subst (λ (x : ℕ). Links X v x (step_word v (lay X) (suc i) 4)) (z 7) (subst (Links X v (step_word w (lay X) (suc i) 7)) (z 4) (links_same m w v f (step_word w (lay X) (suc i) 7) (step_word w (lay X) (suc i) 4) (omega arith) (omega arith) links)))
        (subst (λ (x : ℕ). Settled X (step_word v (lay X) (suc i) 3) x) (z 4) (subst (λ (p : ℕ). Settled X p (step_word w (lay X) (suc i) 4)) (z 3) settled))
        (rw (z 5) at cells)
        (rw (z 6) at trail)
        (rw (z 7) at prior)
        (steps_same m w v f i n.steps (omega arith) steps)
        older
        fewer
        (subst (λ (x : ℕ). ChoicesAre X v n.store n.cells x cs) (z 7) (choices_same m f (omega arith) rest))
      where
        goal_same : {p b : ℕ} → GoalIs X w p b g → GoalIs X v p b g
        goal_same h = record { raw = h.raw; stands = h.stands; number = h.number; predicate = h.predicate; is = h.is }

  -- a later store, and more cells taken
  older_then : (s t u : Store) → Older s t → Older t u → Older s u
  older_then s t u o now = o
  older_then s t (bind x y u) o (since p) = since (older_then s t u o p)

  pub choices_later : (w : List ℕ) {s u : Store} {a b c : ℕ} {cs : List Choice} → Older s u → a ≤ b → ChoicesAre X w s a c cs → ChoicesAre X w u b c cs
  choices_later w o h no_choices = no_choices
  choices_later w {s} {u} {b = b} o h (choices i {n = n} chain known numbers goal goals less links settled cells trail prior steps older fewer rest) =
      choices {u = b} i chain known numbers goal goals less links settled cells trail prior steps (older_then n.store s u older o) (omega arith) rest
