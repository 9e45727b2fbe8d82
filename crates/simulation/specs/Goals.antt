-- The open goals in scratch: what stands first, and where they go on.
-- Assumes nothing.
use Prim.Native.Nat.{ℕ, zero, suc, ◌+◌, ◌≤◌}
use Rattle.std.proofs.Math.Path.{◌≡◌, refl, ap, sym, fun_ext}
use Rattle.std.proofs.Common.{◌∙◌}
use Rattle.std.specs.Prelude.{◌≢◌, Bool, ◌||◌, List, [], ◌∷◌}
use Rattle.std.proofs.Math.Bool.{true, false}
use native.Mathlib.Omega.{arith}
use Rattle.std.proofs.Math.Dec.{eqb}
use Rattle.std.proofs.Math.ListN.{length}
use borrow.Author.Tests.{eq-eqb, ne_eqb}
use Rattle.meaning.specs.Terms.{Term, var, Terms, insts, from}
use Rattle.meaning.specs.Rules.{Call, Goal, call, cut}
use Rattle.meaning.specs.Reading.{byte, goal_due}
use Rattle.meaning.specs.Moves.{Open, goal, cut_to, body_goal, query_goal, over}
use Rattle.laws.specs.IfLaws.{if_by}
use Rattle.demands.specs.TermLaws.{insts_var}
use Rattle.layout.specs.Lengths.{terms_length, goal_length, goals_length}
use Rattle.layout.specs.Standing.{StandsGoal}
use Rattle.layout.specs.Regions.{word, after_at}
use Rattle.layout.specs.Tables.{Tabled}
use Rattle.search.specs.Search.{step_word, step_next, settled_next}
use Rattle.search.specs.declared.Next.{Next}
use Rattle.simulation.specs.Places.{GoalsFrom, whole, later, BodyAt, of_body, of_query}
use Rattle.simulation.specs.Rep.{Setting, lay, HeightIs, no_height, OnChain, here, up, Links, Settled, GoalsAre, in_query, in_body, GoalIs}
use Rattle.simulation.specs.PlaceLaws.{body_stands, query_stands, body_ends, query_ends, body_after, query_after}

pub goals_later : {p q : ℕ} {g : Goal} {gs hs : List Goal} → GoalsFrom p gs q (g ∷ hs) → GoalsFrom p gs (q + goal_length g) hs
goals_later whole = later whole
goals_later (later f) = later (goals_later f)

pub over_zero : (g : Call) → over 0 g ≡ g
unfolding over from
over_zero g = ap (λ (ts : Terms). record { predicate = g.predicate; arguments = ts }) (ap (λ (f : ℕ → Term). insts f g.arguments) (fun_ext (λ x. ap var (omega arith))) ∙ insts_var g.arguments)

module _ (X : Setting) (w : List ℕ) (tabled : Tabled (length X.file) X.rules w) where
  abbrev kind : ℕ → ℕ
  kind p = byte X.file p

  pub chain_then : {a b c : ℕ} → OnChain X w a b → OnChain X w b c → OnChain X w a c
  chain_then here q = q
  chain_then (up i l p) q = up i l (chain_then p q)

  -- what stands first among the open goals
  pub data First (p f : ℕ) : List Open → Type 0 where
    no_goal : kind p ≢ 6 → kind p ≢ 7 → f ≡ 0 → First p f []
    a_call : {g : Call} {os : List Open} (len : ℕ) → kind p ≡ 6 → GoalIs X w p (step_word w (lay X) f 5) g → word w (after_at p) ≡ p + len → p + len ≤ length X.file → GoalsAre X w (p + len) f os → First p f (goal g ∷ os)
    a_cut : {h : ℕ} {os : List Open} → kind p ≡ 7 → HeightIs X w (step_word w (lay X) f 7) h → step_word w (lay X) f 7 ≤ f → p + 1 ≤ length X.file → GoalsAre X w (p + 1) f os → First p f (cut_to h ∷ os)

  not_due : (p : ℕ) → goal_due (kind p) ≡ true → kind p ≢ 6 → kind p ≢ 7 → ⊥
  unfolding goal_due
  not_due p e n m = let z : ◌≡◌ {A = Bool} false true = sym (rw (ne_eqb (kind p) 6 n, ne_eqb (kind p) 7 m) refl) ∙ e in let y : ◌≡◌ {A = ℕ} 0 1 = cc in omega arith

  later_body : {k p : ℕ} {g : Goal} {gs : List Goal} → BodyAt X.rules k p (g ∷ gs) → BodyAt X.rules k (p + goal_length g) gs
  later_body b = record { clause = b.clause; known = b.known; left = goals_later b.left }

  pub goals_first : {p f : ℕ} {os : List Open} → GoalsAre X w p f os → Settled X p f → First p f os
  unfolding query_goal body_goal goal_length goals_length step_word
  goals_first (in_query {p = p} {gs = []} q) s = let h = query_stands X q in no_goal h.0 h.1 refl
  goals_first (in_query {p = p} {gs = call g ∷ gs} q) s =
      let h = query_stands X q in
      let e : p + (3 + terms_length g.arguments + goals_length gs) ≤ length X.file = query_ends X q in
      a_call (3 + terms_length g.arguments) h.0.0 (record { raw = g; stands = of_query q; number = h.0.0; predicate = h.0.1; is = sym (over_zero g) }) (query_after X w tabled q).0.0 (omega arith) (in_query (goals_later q))
  goals_first (in_query {p = p} {gs = cut ∷ gs} q) s =
      let h = query_stands X q in
      let e : p + (1 + goals_length gs) ≤ length X.file = query_ends X q in
      a_cut h.0 no_height (omega arith) (omega arith) (in_query (goals_later q))
  goals_first (in_body {p = p} i {gs = []} body base high prior less links settled rest) s = let h = body_stands X body in absurd (not_due p s h.0 h.1)
  goals_first (in_body {p = p} i {gs = call g ∷ gs} body base high prior less links settled rest) s =
      let h = body_stands X body in
      let e : p + (3 + terms_length g.arguments + goals_length gs) ≤ length X.file = body_ends X body in
      a_call (3 + terms_length g.arguments) h.0.0 (record { raw = g; stands = of_body body; number = h.0.0; predicate = h.0.1; is = ap (λ (c : ℕ). over c g) (sym base) }) (body_after X w tabled body).0.0 (omega arith)
      (in_body i (later_body body) base high prior less links settled rest)
  goals_first (in_body {p = p} i {gs = cut ∷ gs} body base high prior less links settled rest) s =
      let h = body_stands X body in
      let e : p + (1 + goals_length gs) ≤ length X.file = body_ends X body in
      a_cut h.0 high (omega arith) (omega arith) (in_body i (later_body body) base high prior less links settled rest)

  -- ---- where they go on
  pub record SettledAt (b f : ℕ) (os : List Open) (x : Next) : Type 0 where
    pub goals : GoalsAre X w x.place.0 x.step os
    pub step : x.step ≤ f
    pub links : Links X w b x.step
    pub settled : Settled X x.place.0 x.step

  is_due : (p : ℕ) (g : Goal) → StandsGoal X.file p g → goal_due (kind p) ≡ true
  unfolding goal_due
  is_due p (call g) h = rw (eq-eqb (kind p) 6 h.0) refl
  is_due p cut h = rw h refl

  -- nothing is left of the body: the goals behind its step's own goal are next
  behind_step : (q i b : ℕ) (os : List Open) → GoalsAre X w q (suc i) os → Links X w b (suc i) → goal_due (kind q) ≡ false → SettledAt b (suc i) os (step_next w (lay X) (suc i))
  unfolding step_next
  behind_step q i b _ (in_body _ {gs = []} body base high prior less links settled rest) l e =
      record { goals = rest; step = omega arith; links = onward (step_word w (lay X) (suc i) 4) l links; settled = settled }
    where
      onward : (f : ℕ) → OnChain X w b (step_word w (lay X) (suc i) 7) → Links X w (step_word w (lay X) (suc i) 7) f → Links X w b f
      onward zero o k = tt
      onward (suc j) o k = chain_then o k
  behind_step q i b _ (in_body _ {gs = g ∷ gs} body base high prior less links settled rest) l e =
      let z : ◌≡◌ {A = Bool} true false = sym (is_due q g (body_stands X body).0) ∙ e in
      let y : ◌≡◌ {A = ℕ} 0 1 = cc in absurd (omega arith)

  pub settled_is : (q f b : ℕ) (os : List Open) → GoalsAre X w q f os → Links X w b f → SettledAt b f os (settled_next X.file w (lay X) (record { place = record { 0 = q }; step = f }))
  unfolding settled_next
  settled_is q zero b os g l = if_by (SettledAt b 0 os) (goal_due (kind q) || eqb 0 0) (λ e. record { goals = g; step = omega arith; links = tt; settled = tt }) (λ e. absurd (never (goal_due (kind q)) e))
    where
      never : (c : Bool) → c || eqb 0 0 ≡ false → ⊥
      never true e = let y : ◌≡◌ {A = ℕ} 0 1 = cc in omega arith
      never false e = let y : ◌≡◌ {A = ℕ} 0 1 = cc in omega arith
  settled_is q (suc i) b os g l =
      if_by (SettledAt b (suc i) os) (goal_due (kind q) || eqb (suc i) 0)
      (λ e. record { goals = g; step = omega arith; links = l; settled = here_due (goal_due (kind q)) e })
      (λ e. behind_step q i b os g l (none_due (goal_due (kind q)) e))
    where
      here_due : (c : Bool) → c || eqb (suc i) 0 ≡ true → c ≡ true
      here_due true e = refl
      here_due false e = sym (ne_eqb (suc i) 0 (λ z. omega arith)) ∙ e

      none_due : (c : Bool) → c || eqb (suc i) 0 ≡ false → c ≡ false
      none_due true e = e
      none_due false e = refl
