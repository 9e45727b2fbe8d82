-- Walking from place to place: what is asked at each call, and what each loop turn and each return gives.
-- Assumes nothing.
use Rattle.std.proofs.Common.{ℕ, suc, ◌+◌, ◌-◌, ◌*◌, ◌≤◌, ◌<◌, ◌≡◌, refl, sym, ◌∙◌, subst, List, [], ◌∷◌, length, get_or, set, length-set, arith}
use Rattle.meaning.specs.Terms.{Term, var, app, Terms, []ₜ, ◌∷ₜ◌, count}
use Rattle.meaning.specs.Rules.{Goal, call, cut, Clause}
use Rattle.meaning.specs.Reading.{byte, two_bytes}
use Rattle.layout.specs.Lengths.{term_length, terms_length, goal_length, goals_length, head_length, clause_length, clauses_length}
use Rattle.tables.specs.Laid.{lay_term, lay_terms, lay_arguments, lay_goal, lay_goals, lay_clause, enter, lay_clauses}
use Rattle.tables.specs.Here.{Room, HereTerm, HereTerms, HereGoal, HereGoals, HereClause, HereClauses}
use Rattle.tables.specs.Here.{CanTerm, HasTerm, CanTerms, HasTerms, CanArguments, HasArguments, CanGoal, HasGoal, CanGoals, HasGoals, CanClause, HasClause, CanClauses, HasClauses}

room_kept : (file w v : List ℕ) → Room file w → length v ≡ length w → Room file v
room_kept file w v R e = let r = R.room in record { small = R.small; room = omega arith }

-- ---- what is here begins and ends in the file
module _ (file : List ℕ) where
  terms_within : (levels p : ℕ) (ts : Terms) → HereTerms file levels p ts → p + terms_length ts ≤ length file
  unfolding term_length
  terms_within levels p []ₜ h = omega arith
  terms_within levels p (t ∷ₜ ts) h = let e = terms_within levels (p + term_length t) ts h.1 in omega arith

  goals_within : (base p : ℕ) (gs : List Goal) → HereGoals file base p gs → p + goals_length gs ≤ length file
  unfolding goals_length
  goals_within base p [] h = omega arith
  goals_within base p (g ∷ gs) h = let e = goals_within base (p + goal_length g) gs h.1 in omega arith

  clauses_within : (base p : ℕ) (cs : List Clause) → HereClauses file base p cs → p + clauses_length cs ≤ length file
  unfolding clauses_length
  clauses_within base p [] h = omega arith
  clauses_within base p (c ∷ cs) h = let e = clauses_within base (p + clause_length c) cs h.1 in omega arith

  terms_start_within : (levels p : ℕ) (ts : Terms) → HereTerms file levels p ts → p ≤ length file
  terms_start_within levels p ts h = let e = terms_within levels p ts h in omega arith

  term_starts : (levels p : ℕ) (t : Term) → HereTerm file levels p t → p + 2 ≤ length file
  term_starts levels p (var x) h = h.1
  term_starts levels p (app f ts) h = let e = h.2.within in omega arith

  goal_starts : (base p : ℕ) (g : Goal) → HereGoal file base p g → p < length file
  goal_starts base p (call g) h = let e = h.1.arity.within in omega arith
  goal_starts base p cut h = let e = h.1 in omega arith

-- ---- a term
module _ (file w : List ℕ) (p levels : ℕ) (C : CanTerm file w p levels) where
  pub term_variable : (q : ℕ) → q ≡ p + 2 → get_or file p 0 ≡ 4 → HasTerm file w p levels (p + 2) (set w (64 + p) q)
  unfolding byte lay_term term_length
  term_variable q e k = rw e (record { within = C.start; is = go })
    where
      go : (t : Term) → HereTerm file levels p t → (set w (64 + p) (p + 2) ≡ lay_term t p w) × (p + 2 ≡ p + term_length t)
      go (var x) h = (refl, refl)
      go (app f ts) h = let e : get_or file p 0 ≡ 5 = h.0 in absurd (omega arith)

  -- it is an application
  applied : (get_or file p 0 ≡ 4 → ⊥) → (f : ℕ) × (ts : Terms) × (C.which ≡ app f ts)
  unfolding byte
  applied k = go C.which C.here
    where
      go : (t : Term) → HereTerm file levels p t → (f : ℕ) × (ts : Terms) × (t ≡ app f ts)
      go (var x) h = absurd (k h.0)
      go (app f ts) h = (f, ts, refl)

  pub term_deep : (get_or file p 0 ≡ 4 → ⊥) → 0 < levels
  term_deep k = let (f, ts, e) = applied k in (subst (HereTerm file levels p) e C.here).1

  pub term_arguments : (get_or file p 0 ≡ 4 → ⊥) → CanArguments file w 0 p (p + 3) (levels - 1)
  term_arguments k =
      let (f, ts, e) = applied k in
      let h : HereTerm file levels p (app f ts) = subst (HereTerm file levels p) e C.here in
      record { room = C.room; start = h.2.within; known = h.2.known; which = ts; here = record { arity = h.2; terms = h.3 } }

  pub term_application : (r : ℕ) (v : List ℕ) → (get_or file p 0 ≡ 4 → ⊥) → HasArguments file w 0 p (p + 3) (levels - 1) r v → HasTerm file w p levels r v
  unfolding byte lay_term lay_arguments term_length
  term_application r v k H = record { within = H.within; is = go }
    where
      go : (t : Term) → HereTerm file levels p t → (v ≡ lay_term t p w) × (r ≡ p + term_length t)
      go (var x) h = absurd (k h.0)
      go (app f ts) h = let (e, g) = H.is ts (record { arity = h.2; terms = h.3 }) in (e, omega arith)

-- ---- terms
-- the terms that are left, with which the walk comes to the same end
pub record RestTerms (file : List ℕ) (w₀ : List ℕ) (p n levels done at : ℕ) (w : List ℕ) (ts : Terms) : Type 0 where
  pub rest : Terms
  pub counted : done + count rest ≡ n
  pub here : HereTerms file levels at rest
  pub words : lay_terms rest at w ≡ lay_terms ts p w₀
  pub place : at + terms_length rest ≡ p + terms_length ts

pub record GoingTerms (file w₀ : List ℕ) (p n levels done at : ℕ) (w : List ℕ) : Type 0 where
  pub can : CanTerms file w₀ p n levels
  pub long : length w ≡ length w₀
  pub within : at ≤ length file
  pub left_over : (ts : Terms) → count ts ≡ n → HereTerms file levels p ts → RestTerms file w₀ p n levels done at w ts

-- one term less
next_terms : (file w₀ : List ℕ) (p n levels done at : ℕ) (w : List ℕ) (ts : Terms) (r : ℕ) (v : List ℕ) → RestTerms file w₀ p n levels done at w ts → done < n → HasTerm file w at levels r v → RestTerms file w₀ p n levels (done + 1) r v ts
unfolding count term_length lay_term
next_terms file w₀ p n levels done at w ts r v T l H = go T.rest T.counted T.here T.words T.place
  where
    go : (us : Terms) → done + count us ≡ n → HereTerms file levels at us → lay_terms us at w ≡ lay_terms ts p w₀ → at + terms_length us ≡ p + terms_length ts → RestTerms file w₀ p n levels (done + 1) r v ts
    go []ₜ c h e f = absurd (omega arith)
    go (u ∷ₜ us) c h e f =
        let (g, q) = H.is u h.0 in
        record {
          rest = us;
          counted = omega arith;
          here = rw q h.1;
          words = rw (g, q) e;
          place = omega arith;
        }

first_term : (file : List ℕ) (levels at done n : ℕ) (us : Terms) → done + count us ≡ n → done < n → HereTerms file levels at us → (t : Term) × HereTerm file levels at t
unfolding count
first_term file levels at done n []ₜ c l h = absurd (omega arith)
first_term file levels at done n (u ∷ₜ us) c l h = (u, h.0)

module _ (file w₀ : List ℕ) (p n levels done at : ℕ) (w : List ℕ) (G : GoingTerms file w₀ p n levels done at w) where
  terms_rest : RestTerms file w₀ p n levels done at w G.can.which
  terms_rest = G.left_over G.can.which G.can.counted G.can.here

  pub terms_can : done < n → CanTerm file w at levels
  terms_can l =
      let T = terms_rest in
      let (t, h) = first_term file levels at done n T.rest T.counted l T.here in
      record { room = room_kept file w₀ w G.can.room G.long; start = term_starts file levels at t h; which = t; here = h }

  pub terms_again : (r : ℕ) (v : List ℕ) → done < n → HasTerm file w at levels r v → length v ≡ length w → GoingTerms file w₀ p n levels (done + 1) r v
  terms_again r v l H e = record { can = G.can; long = e ∙ G.long; within = H.within; left_over = λ ts c h. next_terms file w₀ p n levels done at w ts r v (G.left_over ts c h) l H }

  pub terms_end : n ≤ done → HasTerms file w₀ p n levels at w
  unfolding count term_length lay_term
  terms_end l = record { within = G.within; is = λ ts c h. (let T = G.left_over ts c h in go ts T.rest T.counted T.words T.place) }
    where
      go : (ts us : Terms) → done + count us ≡ n → lay_terms us at w ≡ lay_terms ts p w₀ → at + terms_length us ≡ p + terms_length ts → (w ≡ lay_terms ts p w₀) × (at ≡ p + terms_length ts)
      go ts []ₜ c e f = (e, omega arith)
      go ts (u ∷ₜ us) c e f = absurd (omega arith)

-- ---- arguments
module _ (file w : List ℕ) (base p s levels : ℕ) (C : CanArguments file w base p s levels) (f : ℕ) (e : f ≡ two_bytes file (p + 1)) where
  pub arguments_terms : CanTerms file w s (get_or file (base + 2 * f + 1) 0) levels
  unfolding byte
  arguments_terms =
      let h = C.here in
      record {
        room = C.room;
        start = terms_start_within file levels s C.which h.terms;
        which = C.which;
        counted = rw e (sym h.arity.many);
        here = h.terms;
      }

  pub arguments_end : (r : ℕ) (v : List ℕ) → HasTerms file w s (get_or file (base + 2 * f + 1) 0) levels r v → HasArguments file w base p s levels r (set v (64 + p) r)
  unfolding byte lay_arguments
  arguments_end r v H = record {
    within = H.within;
    is = λ ts h. (let (g, q) = H.is ts (rw e (sym h.arity.many)) h.terms in (rw (g, q), q));
  }

-- ---- a goal
module _ (file w : List ℕ) (base p : ℕ) (C : CanGoal file w base p) where
  pub goal_cut : get_or file p 0 ≡ 7 → HasGoal file w base p (p + 1) w
  unfolding byte lay_goal goal_length
  goal_cut k = record { within = (let s = C.start in omega arith); is = go }
    where
      go : (g : Goal) → HereGoal file base p g → (w ≡ lay_goal g p w) × (p + 1 ≡ p + goal_length g)
      go (call g) h = let e : get_or file p 0 ≡ 6 = h.0 in absurd (omega arith)
      go cut h = (refl, refl)

  pub goal_arguments : (get_or file p 0 ≡ 7 → ⊥) → CanArguments file w base p (p + 3) 32
  unfolding byte
  goal_arguments k = go C.which C.here
    where
      go : (g : Goal) → HereGoal file base p g → CanArguments file w base p (p + 3) 32
      go (call g) h = record { room = C.room; start = h.1.arity.within; known = h.1.arity.known; which = g.arguments; here = h.1 }
      go cut h = absurd (k h.0)

  pub goal_call : (r : ℕ) (v : List ℕ) → (get_or file p 0 ≡ 7 → ⊥) → HasArguments file w base p (p + 3) 32 r v → HasGoal file w base p r v
  unfolding byte lay_goal goal_length
  goal_call r v k H = record { within = H.within; is = go }
    where
      go : (g : Goal) → HereGoal file base p g → (v ≡ lay_goal g p w) × (r ≡ p + goal_length g)
      go (call g) h = let (e, q) = H.is g.arguments h.1 in (e, omega arith)
      go cut h = absurd (k h.0)

-- ---- goals
pub record RestGoals (file : List ℕ) (w₀ : List ℕ) (base p n done at : ℕ) (w : List ℕ) (gs : List Goal) : Type 0 where
  pub rest : List Goal
  pub counted : done + length rest ≡ n
  pub here : HereGoals file base at rest
  pub words : lay_goals rest at w ≡ lay_goals gs p w₀
  pub place : at + goals_length rest ≡ p + goals_length gs

pub record GoingGoals (file w₀ : List ℕ) (base p n done at : ℕ) (w : List ℕ) : Type 0 where
  pub can : CanGoals file w₀ base p n
  pub long : length w ≡ length w₀
  pub within : at ≤ length file
  pub left_over : (gs : List Goal) → length gs ≡ n → HereGoals file base p gs → RestGoals file w₀ base p n done at w gs

next_goals : (file w₀ : List ℕ) (base p n done at : ℕ) (w : List ℕ) (gs : List Goal) (r : ℕ) (v : List ℕ) → RestGoals file w₀ base p n done at w gs → done < n → HasGoal file w base at r v → RestGoals file w₀ base p n (done + 1) r v gs
unfolding goals_length lay_goals
next_goals file w₀ base p n done at w gs r v T l H = go T.rest T.counted T.here T.words T.place
  where
    go : (us : List Goal) → done + length us ≡ n → HereGoals file base at us → lay_goals us at w ≡ lay_goals gs p w₀ → at + goals_length us ≡ p + goals_length gs → RestGoals file w₀ base p n (done + 1) r v gs
    go [] c h e f = absurd (omega arith)
    go (u ∷ us) c h e f =
        let (g, q) = H.is u h.0 in
        record {
          rest = us;
          counted = omega arith;
          here = rw q h.1;
          words = rw (g, q) e;
          place = omega arith;
        }

first_goal : (file : List ℕ) (base at done n : ℕ) (us : List Goal) → done + length us ≡ n → done < n → HereGoals file base at us → (g : Goal) × HereGoal file base at g
first_goal file base at done n [] c l h = absurd (omega arith)
first_goal file base at done n (u ∷ us) c l h = (u, h.0)

module _ (file w₀ : List ℕ) (base p n done at : ℕ) (w : List ℕ) (G : GoingGoals file w₀ base p n done at w) where
  goals_rest : RestGoals file w₀ base p n done at w G.can.which
  goals_rest = G.left_over G.can.which G.can.counted G.can.here

  pub goals_can : done < n → CanGoal file w base at
  goals_can l =
      let T = goals_rest in
      let (g, h) = first_goal file base at done n T.rest T.counted l T.here in
      record { room = room_kept file w₀ w G.can.room G.long; start = goal_starts file base at g h; which = g; here = h }

  pub goals_again : (r : ℕ) (v : List ℕ) → done < n → HasGoal file w base at r v → length v ≡ length w → GoingGoals file w₀ base p n (done + 1) r v
  goals_again r v l H e = record { can = G.can; long = e ∙ G.long; within = H.within; left_over = λ gs c h. next_goals file w₀ base p n done at w gs r v (G.left_over gs c h) l H }

  pub goals_end : n ≤ done → HasGoals file w₀ base p n at w
  unfolding goals_length lay_goals
  goals_end l = record { within = G.within; is = λ gs c h. (let T = G.left_over gs c h in go gs T.rest T.counted T.words T.place) }
    where
      go : (gs us : List Goal) → done + length us ≡ n → lay_goals us at w ≡ lay_goals gs p w₀ → at + goals_length us ≡ p + goals_length gs → (w ≡ lay_goals gs p w₀) × (at ≡ p + goals_length gs)
      go gs [] c e f = (e, omega arith)
      go gs (u ∷ us) c e f = absurd (omega arith)

-- ---- a clause
module _ (file w : List ℕ) (base p : ℕ) (C : CanClause file w base p) where
  module _ (r : ℕ) (v : List ℕ) (H : HasArguments file w base p (p + 5) 32 r v) where
    body_starts : (c : Clause) → HereClause file base p c → r ≡ p + head_length c
    unfolding head_length
    body_starts c h = let (e, q) = H.is c.head.arguments h.head in omega arith

    pub clause_body : length v ≡ length w → CanGoals file v base r (get_or file (p + 4) 0)
    unfolding byte
    clause_body e =
        let c = C.which in
        let h = C.here in
        let same = body_starts c h in
        record {
          room = room_kept file w v C.room e;
          start = H.within;
          which = c.body;
          counted = sym h.many;
          here = rw same h.body;
        }

    pub clause_end : (a : ℕ) (u : List ℕ) → HasGoals file v base r (get_or file (p + 4) 0) a u → HasClause file w base p a u
    unfolding byte lay_clause clause_length
    clause_end a u K = record { within = K.within; is = go }
      where
        go : (c : Clause) → HereClause file base p c → (u ≡ lay_clause c p w) × (a ≡ p + clause_length c)
        go c h =
            let same = body_starts c h in
            let (e, q) = H.is c.head.arguments h.head in
            let (f, z) = K.is c.body (sym h.many) (rw same h.body) in
            (rw (f, same, e), omega arith)

-- ---- clauses
pub record RestClauses (file : List ℕ) (w₀ : List ℕ) (base p table n k at : ℕ) (w : List ℕ) (cs : List Clause) : Type 0 where
  pub rest : List Clause
  pub counted : k + length rest ≡ n
  pub here : HereClauses file base at rest
  pub words : lay_clauses table k rest at w ≡ lay_clauses table 0 cs p w₀
  pub place : at + clauses_length rest ≡ p + clauses_length cs

pub record GoingClauses (file w₀ : List ℕ) (base p table n k at : ℕ) (w : List ℕ) : Type 0 where
  pub can : CanClauses file w₀ base p table n
  pub long : length w ≡ length w₀
  pub within : at ≤ length file
  pub left_over : (cs : List Clause) → length cs ≡ n → HereClauses file base p cs → RestClauses file w₀ base p table n k at w cs

-- the words once the clause k is entered
abbrev pub entered : List ℕ → ℕ → ℕ → ℕ → ℕ → List ℕ
entered w table k p q = set (set w (table + 2 * k) p) (table + 2 * k + 1) q

next_clauses : (file w₀ : List ℕ) (base p table n k at : ℕ) (w : List ℕ) (cs : List Clause) (q r : ℕ) (v : List ℕ) → q ≡ two_bytes file (at + 1) → RestClauses file w₀ base p table n k at w cs → k < n → HasClause file (entered w table k at q) base at r v → RestClauses file w₀ base p table n (k + 1) r v cs
unfolding clauses_length lay_clauses enter
next_clauses file w₀ base p table n k at w cs q r v d T l H = go T.rest T.counted T.here T.words T.place
  where
    go : (us : List Clause) → k + length us ≡ n → HereClauses file base at us → lay_clauses table k us at w ≡ lay_clauses table 0 cs p w₀ → at + clauses_length us ≡ p + clauses_length cs → RestClauses file w₀ base p table n (k + 1) r v cs
    go [] c h e f = absurd (omega arith)
    go (u ∷ us) c h e f =
        let (g, z) = H.is u h.0 in
        let same : q ≡ u.head.predicate = d ∙ h.0.number in
        let one : k + 1 ≡ suc k = omega arith in
        record {
          rest = us;
          counted = omega arith;
          here = rw z h.1;
          words = rw (one, g, z, same) e;
          place = omega arith;
        }

first_clause : (file : List ℕ) (base at k n : ℕ) (us : List Clause) → k + length us ≡ n → k < n → HereClauses file base at us → (c : Clause) × HereClause file base at c
first_clause file base at k n [] c l h = absurd (omega arith)
first_clause file base at k n (u ∷ us) c l h = (u, h.0)

module _ (file w₀ : List ℕ) (base p table n k at : ℕ) (w : List ℕ) (G : GoingClauses file w₀ base p table n k at w) where
  clauses_first : k < n → (c : Clause) × HereClause file base at c
  clauses_first l =
      let T = G.left_over G.can.which G.can.counted G.can.here in
      first_clause file base at k n T.rest T.counted l T.here

  pub clauses_number : k < n → at + 1 + 1 < length file
  clauses_number l = let (c, h) = clauses_first l in let e = h.within in omega arith

  pub clauses_can : (q : ℕ) → k < n → CanClause file (entered w table k at q) base at
  clauses_can q l =
      let (c, h) = clauses_first l in
      record { room = room_kept file w₀ (entered w table k at q) G.can.room (simp length-set G.long); start = h.within; which = c; here = h }

  pub clauses_again : (q r : ℕ) (v : List ℕ) → k < n → q ≡ two_bytes file (at + 1) → HasClause file (entered w table k at q) base at r v → length v ≡ length (entered w table k at q) → GoingClauses file w₀ base p table n (k + 1) r v
  clauses_again q r v l d H e = record {
    can = G.can;
    long = simp length-set at e ∙ G.long;
    within = H.within;
    left_over = λ cs c h. next_clauses file w₀ base p table n k at w cs q r v d (G.left_over cs c h) l H;
  }

  pub clauses_end : n ≤ k → HasClauses file w₀ base p table n at w
  unfolding clauses_length lay_clauses
  clauses_end l = record { within = G.within; is = λ cs c h. (let T = G.left_over cs c h in go cs T.rest T.counted T.words T.place) }
    where
      go : (cs us : List Clause) → k + length us ≡ n → lay_clauses table k us at w ≡ lay_clauses table 0 cs p w₀ → at + clauses_length us ≡ p + clauses_length cs → (w ≡ lay_clauses table 0 cs p w₀) × (at ≡ p + clauses_length cs)
      go cs [] c e f = (e, omega arith)
      go cs (u ∷ us) c e f = absurd (omega arith)
