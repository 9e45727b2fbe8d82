-- The proofs below a derivation. A derivation is exact when the proofs that begin with its steps are those that solve its store, make
-- its pairs agree and prove its open goals. Every move keeps derivations exact: nothing is lost and nothing is invented.
-- Assumes nothing.
use Prim.Native.Nat.{ℕ, ◌+◌, ◌≤◌, ◌<◌}
use Rattle.std.specs.Prelude.{◌≡◌, refl, ◌↔◌, length}
use Rattle.std.proofs.Math.Path.{ap, ap₂, sym, fun_ext, subst}
use Rattle.std.proofs.Common.{◌∙◌, arith}
use mathlib.Core.List.{List, [], ◌∷◌, ◌++◌, map, append_assoc, append-nil}
use Rattle.std.proofs.Math.Option.{some, some-injective}
use Rattle.std.proofs.Math.ListN.{get_elem?}
use Rattle.meaning.specs.Terms.{Term, var, Terms, count, inst, insts, from, row}
use Rattle.meaning.specs.Rules.{Call, Goal, call, cut, Clause, Rules}
use Rattle.meaning.specs.Store.{Store, value}
use Rattle.meaning.specs.Answers.{Answer, renumbered}
use Rattle.meaning.specs.Moves.{Open, goal, cut_to, Derivation, Numbered, Pair, pairs, over, body_goal, query_goal, asked, with_goals, with_binding, with_step}
use Rattle.demands.specs.Proofs.{Each, Value, Values, calls, at_values, all_at, Proves, Allows, IsProof, Matches, WellCall, WellClause, WellFormed}
use Rattle.demands.specs.Demands.{Right}
use Rattle.demands.specs.GoodFiles.{each_last, index_less}
use Rattle.demands.specs.TermLaws.{inst_var, insts_insts, count_insts, insts_from, from_eq, eq_from}
use Rattle.demands.specs.StoreLaws.{Sound, Solves, solves_value, value_solves}
use Rattle.demands.specs.WellLaws.{Any, GoodStore, goods_more, goods_from, store_more, value_well, well_inst, insts_under, solves_under, joined, joined_below, joined_above, joined_all, Agree, pairs_agree}
use Rattle.demands.specs.RenumberLaws.{renumbered_in, renumbered_out}

-- ---- lists
pub append_same : (p q r : List ℕ) → p ++ q ≡ p ++ r → q ≡ r
append_same [] q r e = e
append_same (x ∷ p) q r e = append_same p q r (cc)

-- the step list begins with p
abbrev pub Under : List ℕ → List ℕ → Type 0
Under p ks = (r : List ℕ) × (ks ≡ p ++ r)

-- ---- open goals
-- the predicate goals among the open goals
abbrev pub todo : List Open → List Call
todo [] = []
todo (goal g ∷ gs) = g ∷ todo gs
todo (cut_to h ∷ gs) = todo gs

todo_append : (xs ys : List Open) → todo (xs ++ ys) ≡ todo xs ++ todo ys
todo_append [] ys = refl
todo_append (goal g ∷ xs) ys = ap (g ∷◌) (todo_append xs ys)
todo_append (cut_to h ∷ xs) ys = todo_append xs ys

all_at_append : (ν : ℕ → Term) (xs ys : List Call) → all_at ν (xs ++ ys) ≡ all_at ν xs ++ all_at ν ys
all_at_append ν [] ys = refl
all_at_append ν (g ∷ xs) ys = ap (at_values ν g ∷◌) (all_at_append ν xs ys)

call_eq : (p : ℕ) (a b : Terms) → a ≡ b → ◌≡◌ {A = Call} (record { predicate = p; arguments = a }) (record { predicate = p; arguments = b })
call_eq p a b e = ap (λ (t : Terms). record { predicate = p; arguments = t }) e

-- the goals of a clause's body, and of the query
body_at : (ν : ℕ → Term) (b h : ℕ) (gs : List Goal) → all_at ν (todo (map (body_goal b h) gs)) ≡ all_at (λ i. ν (b + i)) (calls gs)
unfolding body_goal over from inst
body_at ν b h [] = refl
body_at ν b h (call g ∷ gs) = ap₂ ◌∷◌ (call_eq g.predicate _ _ (insts_insts ν (from b) g.arguments)) (body_at ν b h gs)
body_at ν b h (cut ∷ gs) = body_at ν b h gs

query_at : (ν : ℕ → Term) (h : ℕ) (gs : List Goal) → all_at ν (todo (map (query_goal h) gs)) ≡ all_at ν (calls gs)
unfolding query_goal
query_at ν h [] = refl
query_at ν h (call g ∷ gs) = ap (at_values ν g ∷◌) (query_at ν h gs)
query_at ν h (cut ∷ gs) = query_at ν h gs

use_at : (ν : ℕ → Term) (b h : ℕ) (gs : List Goal) (os : List Open) → all_at ν (todo (map (body_goal b h) gs ++ os)) ≡ all_at (λ i. ν (b + i)) (calls gs) ++ all_at ν (todo os)
use_at ν b h gs os =
    ap (all_at ν) (todo_append (map (body_goal b h) gs) os)
    ∙ all_at_append ν (todo (map (body_goal b h) gs)) (todo os)
    ∙ ap (◌++ all_at ν (todo os)) (body_at ν b h gs)

module _ (R : Rules) where
  -- ---- well_formed derivations
  -- open goals over the first n cells
  abbrev pub GoodGoals : ℕ → List Open → Type 0
  GoodGoals n gs = Each (WellCall R n) (todo gs)

  pub record GoodAt (n : Derivation) : Type 0 where
    pub sound : Sound n.store
    pub store : GoodStore R.functions n.cells n.store
    pub goals : GoodGoals n.cells n.goals
    pub asks : R.variables ≤ n.cells
    pub numbers : Each (λ k. k < length R.clauses) n.steps

  call_more : (n m : ℕ) → n ≤ m → (g : Call) → WellCall R n g → WellCall R m g
  call_more n m h g w = record { arity = w.arity; terms = goods_more R.functions n m h g.arguments w.terms }

  goals_more : (n m : ℕ) → n ≤ m → (gs : List Open) → GoodGoals n gs → GoodGoals m gs
  goals_more n m h [] w = tt
  goals_more n m h (goal g ∷ gs) w = (call_more n m h g w.0, goals_more n m h gs w.1)
  goals_more n m h (cut_to k ∷ gs) w = goals_more n m h gs w

  pub over_good : (b v : ℕ) (g : Call) → WellCall R v g → WellCall R (b + v) (over b g)
  unfolding over
  over_good b v g w = record { arity = w.arity ∙ ap some (sym (count_insts (from b) g.arguments)); terms = goods_from R.functions b v g.arguments w.terms }

  body_good : (b v h : ℕ) (gs : List Goal) (os : List Open) → Each (WellCall R v) (calls gs) → GoodGoals b os → GoodGoals (b + v) (map (body_goal b h) gs ++ os)
  unfolding body_goal
  body_good b v h [] os w o = goals_more b (b + v) (omega arith) os o
  body_good b v h (call g ∷ gs) os w o = (over_good b v g w.0, body_good b v h gs os w.1 o)
  body_good b v h (cut ∷ gs) os w o = body_good b v h gs os w o

  pub query_good : (v h : ℕ) (gs : List Goal) → Each (WellCall R v) (calls gs) → GoodGoals v (map (query_goal h) gs)
  unfolding query_goal
  query_good v h [] w = tt
  query_good v h (call g ∷ gs) w = (w.0, query_good v h gs w.1)
  query_good v h (cut ∷ gs) w = query_good v h gs w

  pub step_good : (k : Numbered) (h : ℕ) (g : Call) (n : Derivation) → get_elem? R.clauses k.number ≡ some k.clause → WellClause R k.clause → GoodAt (with_goals (goal g ∷ n.goals) n) → GoodAt (with_step k h n)
  unfolding with_goals with_step
  step_good k h g n e w o = record {
    sound = o.sound;
    store = store_more R.functions n.cells (n.cells + k.clause.variables) (omega arith) n.store o.store;
    goals = body_good n.cells k.clause.variables h k.clause.body n.goals w.body o.goals.1;
    asks = let a : R.variables ≤ n.cells = o.asks in omega arith;
    numbers = each_last _ n.steps k.number o.numbers (index_less R.clauses k.number k.clause e);
  }

  -- goals over the first n cells depend on their values alone
  goals_under : (n : ℕ) (μ ν : ℕ → Term) → ((x : ℕ) → x < n → μ x ≡ ν x) → (gs : List Open) → GoodGoals n gs → all_at μ (todo gs) ≡ all_at ν (todo gs)
  goals_under n μ ν h [] w = refl
  goals_under n μ ν h (goal g ∷ gs) w = ap₂ ◌∷◌ (call_eq g.predicate _ _ (insts_under R.functions n μ ν h g.arguments w.0.terms)) (goals_under n μ ν h gs w.1)
  goals_under n μ ν h (cut_to k ∷ gs) w = goals_under n μ ν h gs w

  -- ---- what is left
  -- values for all cells, those of the query's variables as θ has them, that satisfy the store and E, and with which r proves the calls
  pub record Way (θ : ℕ → Term) (s : Store) (E : (ℕ → Term) → Type 0) (gs : List Call) (r : List ℕ) : Type 0 where
    pub ν : ℕ → Term
    pub are_values : Values R ν
    pub agrees : (i : ℕ) → i < R.variables → ν i ≡ θ i
    pub solves : Solves ν s
    pub also : E ν
    pub proves : Proves R r (all_at ν gs)

  way_iff : (θ : ℕ → Term) (s : Store) (E F : (ℕ → Term) → Type 0) (gs : List Call) (r : List ℕ) → ((ν : ℕ → Term) → Solves ν s → E ν → F ν) → Way θ s E gs r → Way θ s F gs r
  way_iff θ s E F gs r h w = record { ν = w.ν; are_values = w.are_values; agrees = w.agrees; solves = w.solves; also = h w.ν w.solves w.also; proves = w.proves }

  -- ks goes on from the derivation, with the pairs still to agree
  abbrev pub Left : (ℕ → Term) → List Pair → Derivation → List ℕ → Type 0
  Left θ ps n ks = (r : List ℕ) × (ks ≡ n.steps ++ r) × Way θ n.store (λ ν. Agree ν ps) (todo n.goals) r

  abbrev pub Exact : List Pair → Derivation → Type 0
  Exact ps n = (θ : ℕ → Term) → Values R θ → (ks : List ℕ) → Left θ ps n ks ↔ (Allows R ks θ × Under n.steps ks)

  -- what is left of an exact derivation without a solution is nothing
  pub exact_none : (ps : List Pair) (n : Derivation) → Exact ps n → ((ν : ℕ → Term) → Solves ν n.store → Agree ν ps → ⊥) → (ks : List ℕ) → IsProof R ks → Under n.steps ks → ⊥
  exact_none ps n x h ks (θ, a) u = let (r, e, w) = (x θ a.0 ks).1 (a, u) in h w.ν w.solves w.also

  -- the pairs say the same in other words
  pub exact_pairs : (ps qs : List Pair) (n : Derivation) → ((ν : ℕ → Term) → Solves ν n.store → (Agree ν ps ↔ Agree ν qs)) → Exact ps n → Exact qs n
  exact_pairs ps qs n h x θ o ks = (
    (λ l. (x θ o ks).0 (l.0, l.1, way_iff θ n.store (λ ν. Agree ν qs) (λ ν. Agree ν ps) _ l.0 (λ ν s. (h ν s).1) l.2)),
    λ b. let (r, e, w) = (x θ o ks).1 b in (r, e, way_iff θ n.store (λ ν. Agree ν ps) (λ ν. Agree ν qs) _ r (λ ν s. (h ν s).0) w),
  )

  -- the front pair is a binding
  pub exact_bind : (p : Pair) (ps : List Pair) (x : ℕ) (t : Term) (n : Derivation)
      → ((ν : ℕ → Term) → Solves ν n.store → ((inst ν p.goal_side ≡ inst ν p.head_side) ↔ (ν x ≡ inst ν t))) → Exact (p ∷ ps) n → Exact ps (with_binding x t n)
  unfolding with_binding
  exact_bind p ps x t n h ex θ o ks = (
    (λ l. let (r, e, w) = l in
        (ex θ o ks).0 (r, e, record { ν = w.ν; are_values = w.are_values; agrees = w.agrees; solves = w.solves.1; also = ((h w.ν w.solves.1).1 w.solves.0, w.also); proves = w.proves })),
    λ b. let (r, e, w) = (ex θ o ks).1 b in
        (r, e, record { ν = w.ν; are_values = w.are_values; agrees = w.agrees; solves = ((h w.ν w.solves).0 w.also.0, w.solves); also = w.also.1; proves = w.proves }),
  )

  -- other open goals with the same predicate goals
  pub exact_goals : (ps : List Pair) (gs : List Open) (n : Derivation) → todo gs ≡ todo n.goals → Exact ps n → Exact ps (with_goals gs n)
  unfolding with_goals
  exact_goals ps gs n e x θ o ks = (
    λ l. (x θ o ks).0 (subst (λ (cs : List Call). (r : List ℕ) × (ks ≡ n.steps ++ r) × Way θ n.store (λ ν. Agree ν ps) cs r) e l),
    λ b. subst (λ (cs : List Call). (r : List ℕ) × (ks ≡ n.steps ++ r) × Way θ n.store (λ ν. Agree ν ps) cs r) (sym e) ((x θ o ks).1 b),
  )

  -- ---- the start
  pub asked_good : WellFormed R → (h : ℕ) → GoodAt (asked R h)
  asked_good w h = record { sound = tt; store = tt; goals = query_good R.variables h R.query w.query; asks = omega arith; numbers = tt }

  pub asked_exact : WellFormed R → (h : ℕ) → Exact [] (asked R h)
  asked_exact wf h θ o ks = (
    (λ l. let (r, e, w) = l in
        ((o, subst (λ (x : List ℕ). Proves R x (all_at θ (calls R.query))) (sym e) (subst (Proves R r) (goals_under R.variables w.ν θ w.agrees (map (query_goal h) R.query) (query_good R.variables h R.query wf.query) ∙ query_at θ h R.query) w.proves)), (r, e))),
    λ b. (ks, refl, record { ν = θ; are_values = o; agrees = λ i l. refl; solves = tt; also = tt; proves = rw (query_at θ h R.query) b.0.1 }),
  )

  -- ---- a goal and a clause
  abbrev pub with_goal : Call → Derivation → Derivation
  with_goal g n = with_goals (goal g ∷ n.goals) n

  -- a clause of the rules, for the goal
  abbrev pub OfGoal : Call → Numbered → Type 0
  OfGoal g k = (get_elem? R.clauses k.number ≡ some k.clause) × (g.predicate ≡ k.clause.head.predicate)

  -- the pairs of a goal and a head
  abbrev pub head_pairs : Call → Numbered → Derivation → List Pair
  head_pairs g k n = pairs g.arguments (over n.cells k.clause.head).arguments

  -- a proof that goes on from a goal does so by a clause of its predicate
  pub exact_goal : (g : Call) (n : Derivation) → Exact [] (with_goal g n) → (ks : List ℕ) → IsProof R ks → Under n.steps ks
      → (k : Numbered) × OfGoal g k × Under (n.steps ++ k.number ∷ []) ks
  unfolding with_goals
  exact_goal g n x ks (θ, a) u = go ((x θ a.0 ks).1 (a, u))
    where
      go : Left θ [] (record { goals = goal g ∷ n.goals; store = n.store; cells = n.cells; steps = n.steps }) ks → (k : Numbered) × OfGoal g k × Under (n.steps ++ k.number ∷ []) ks
      go ([], e, w) = absurd w.proves
      go (j ∷ r, e, w) =
          (record { number = j; clause = w.proves.0 }, (w.proves.2, ap (λ (c : Call). c.predicate) w.proves.4), (r, e ∙ sym (append_assoc n.steps (j ∷ []) r)))

  count_head : (g : Call) (k : Numbered) (n : Derivation) → OfGoal g k → WellCall R n.cells g → WellClause R k.clause → count g.arguments ≡ count (over n.cells k.clause.head).arguments
  unfolding over
  count_head g k n o w c =
      some-injective _ _ (sym w.arity ∙ ap (get_elem? R.predicates) o.1 ∙ c.head.arity) ∙ sym (count_insts (from n.cells) k.clause.head.arguments)

  -- a use of the clause k by the proof k ∷ r
  abbrev Used : Numbered → List ℕ → Call → List Call → Type 0
  Used k r g gs = (τ : ℕ → Term) × Values R τ × (g ≡ at_values τ k.clause.head) × Proves R r (all_at τ (calls k.clause.body) ++ gs)

  proves_used : (k : Numbered) (r : List ℕ) (g : Call) (gs : List Call) → get_elem? R.clauses k.number ≡ some k.clause → Proves R (k.number ∷ r) (g ∷ gs) → Used k r g gs
  proves_used k r g gs e (c, τ, f, v, q, p) =
      subst (λ (d : Clause). (g ≡ at_values τ d.head) × Proves R r (all_at τ (calls d.body) ++ gs) → Used k r g gs) (sym (some-injective _ _ (sym f ∙ e))) (λ h. (τ, v, h.0, h.1)) (q, p)

  -- the values of all cells that a use of the clause comes to: those before, and its own from the next cell on
  module _ (θ : ℕ → Term) (g : Call) (k : Numbered) (h : ℕ) (n : Derivation) (ok : GoodAt (with_goal g n)) (ν τ : ℕ → Term) where
    new_values : ℕ → Term
    new_values = joined n.cells ν τ

    new_low : (y : ℕ) → y < n.cells → new_values y ≡ ν y
    unfolding new_values
    new_low y l = joined_below n.cells ν τ y l

    new_high : (λ (i : ℕ). new_values (n.cells + i)) ≡ τ
    unfolding new_values
    new_high = fun_ext (joined_above n.cells ν τ)

    new_goals : all_at new_values (todo (map (body_goal n.cells h) k.clause.body ++ n.goals)) ≡ all_at τ (calls k.clause.body) ++ all_at ν (todo n.goals)
    unfolding with_goals
    new_goals =
        use_at new_values n.cells h k.clause.body n.goals
        ∙ ap₂ (λ (f : ℕ → Term) (gs : List Call). all_at f (calls k.clause.body) ++ gs) new_high (goals_under n.cells new_values ν new_low n.goals ok.goals.1)

    new_head : insts ν g.arguments ≡ insts τ k.clause.head.arguments → insts new_values g.arguments ≡ insts new_values (insts (from n.cells) k.clause.head.arguments)
    unfolding with_goals from inst
    new_head e =
        insts_under R.functions n.cells new_values ν new_low g.arguments ok.goals.0.terms
        ∙ e
        ∙ sym (insts_insts new_values (from n.cells) k.clause.head.arguments ∙ ap (λ (f : ℕ → Term). insts f k.clause.head.arguments) new_high)

    new_way : (r : List ℕ) → Values R ν → Values R τ → ((i : ℕ) → i < R.variables → ν i ≡ θ i) → Solves ν n.store → Agree new_values (head_pairs g k n)
        → Proves R r (all_at τ (calls k.clause.body) ++ all_at ν (todo n.goals))
        → Way θ n.store (λ μ. Agree μ (head_pairs g k n)) (todo (map (body_goal n.cells h) k.clause.body ++ n.goals)) r
    unfolding with_goals new_values
    new_way r a b c s also p = record {
      ν = new_values;
      are_values = joined_all (Value R) n.cells ν τ a b;
      agrees = λ i l. new_low i (omega (arith, ok.asks)) ∙ c i l;
      solves = solves_under R.functions n.cells new_values ν new_low n.store ok.store s;
      also = also;
      proves = rw new_goals p;
    }

  pub exact_step : (g : Call) (k : Numbered) (h : ℕ) (n : Derivation) → OfGoal g k → WellClause R k.clause → GoodAt (with_goal g n) → Exact [] (with_goal g n) → Exact (head_pairs g k n) (with_step k h n)
  unfolding with_goals with_step over from inst
  exact_step g k h n o c ok x θ v ks = (out, back)
    where
      head : Terms
      head = k.clause.head.arguments

      alike : (ν : ℕ → Term) → (insts ν g.arguments ≡ insts ν (insts (from n.cells) head)) ↔ Agree ν (head_pairs g k n)
      alike ν = pairs_agree ν g.arguments (insts (from n.cells) head) (count_head g k n o ok.goals.0 c)

      out : Left θ (head_pairs g k n) (with_step k h n) ks → Allows R ks θ × Under (n.steps ++ k.number ∷ []) ks
      out (r, e, w) =
          let same : insts w.ν g.arguments ≡ insts (λ i. w.ν (n.cells + i)) head = (alike w.ν).1 w.also ∙ insts_insts w.ν (from n.cells) head in
          let at_goal = (x θ v ks).0 (
            k.number ∷ r,
            e ∙ append_assoc n.steps (k.number ∷ []) r,
            record {
              ν = w.ν;
              are_values = w.are_values;
              agrees = w.agrees;
              solves = w.solves;
              also = tt;
              proves = (k.clause, λ i. w.ν (n.cells + i), o.0, λ i. w.are_values (n.cells + i), λ i. record { predicate = o.1 i; arguments = same i }, rw (use_at w.ν n.cells h k.clause.body n.goals) at w.proves);
            },
          ) in
          (at_goal.0, (r, e))

      forth : (r : List ℕ) (w : Way θ n.store (λ ν. Agree ν []) (g ∷ todo n.goals) (k.number ∷ r)) → Used k r (at_values w.ν g) (all_at w.ν (todo n.goals))
          → Way θ n.store (λ μ. Agree μ (head_pairs g k n)) (todo (map (body_goal n.cells h) k.clause.body ++ n.goals)) r
      forth r w (τ, t, q, p) =
          new_way θ g k h n ok w.ν τ r w.are_values t w.agrees w.solves
          ((alike (new_values θ g k h n ok w.ν τ)).0 (new_head θ g k h n ok w.ν τ (ap (λ (y : Call). y.arguments) q))) p

      back : Allows R ks θ × Under (n.steps ++ k.number ∷ []) ks → Left θ (head_pairs g k n) (with_step k h n) ks
      back (a, (r, e)) = go ((x θ v ks).1 (a, (k.number ∷ r, at_goal)))
        where
          at_goal : ks ≡ n.steps ++ k.number ∷ r
          at_goal = e ∙ append_assoc n.steps (k.number ∷ []) r

          go : Left θ [] (with_goal g n) ks → Left θ (head_pairs g k n) (with_step k h n) ks
          go (q, f, w) =
              let w' : Way θ n.store (λ ν. Agree ν []) (g ∷ todo n.goals) (k.number ∷ r) =
              subst (Way θ n.store (λ ν. Agree ν []) (g ∷ todo n.goals)) (append_same n.steps q (k.number ∷ r) (sym f ∙ at_goal)) w in
              (r, e, forth r w' (proves_used k r (at_values w'.ν g) (all_at w'.ν (todo n.goals)) o.0 w'.proves))

  -- ---- an answer
  -- a proof that goes on from a derivation with no open goal is that derivation
  pub exact_answer : (n : Derivation) → todo n.goals ≡ [] → Exact [] n → (ks : List ℕ) → IsProof R ks → Under n.steps ks → ks ≡ n.steps
  exact_answer n none_open x ks (θ, a) b = go ((x θ a.0 ks).1 (a, b))
    where
      go : Left θ [] n ks → ks ≡ n.steps
      go ([], e, w) = e ∙ append-nil n.steps
      go (k ∷ r, e, w) = absurd (subst (λ (gs : List Call). Proves R (k ∷ r) (all_at w.ν gs)) none_open w.proves)

  -- the query's values of a solution are an instance of the store's
  pub answer_right : (n : Derivation) → todo n.goals ≡ [] → GoodAt n → Exact [] n → (a : Answer) → a.steps ≡ n.steps → a.values ≡ renumbered (row R.variables (value n.store)) → Right R a
  unfolding row inst
  answer_right n none_open ok x a es ev = record { proof = (value s, subst (λ (ks : List ℕ). Allows R ks (value s)) (sym es) itself.0); values = λ θ o. (inward θ o, outward θ o) }
    where
      s : Store
      s = n.store

      m : ℕ
      m = R.variables

      are : Values R (value s)
      are = value_well R.functions n.cells s ok.store

      -- an instance of the values is left
      left : (θ τ : ℕ → Term) → Values R τ → ((i : ℕ) → i < m → inst τ (value s i) ≡ θ i) → Left θ [] n n.steps
      left θ τ o h = (
        [],
        sym (append-nil n.steps),
        record {
          ν = λ y. inst τ (value s y);
          are_values = λ y. well_inst R.functions Any Any τ (λ z k. o z) (value s y) (are y);
          agrees = h;
          solves = value_solves s ok.sound τ;
          also = tt;
          proves = subst (λ (gs : List Call). Proves R [] (all_at (λ y. inst τ (value s y)) gs)) (sym none_open) tt;
        },
      )

      itself : Allows R n.steps (value s) × Under n.steps n.steps
      itself = (x (value s) are n.steps).0 (left (value s) var (λ z. tt) (λ i k. inst_var (value s i)))

      inward : (θ : ℕ → Term) → Values R θ → Allows R a.steps θ → Matches R θ a.values
      inward θ o b =
          let (r, e, w) = (x θ o n.steps).1 (subst (λ (ks : List ℕ). Allows R ks θ) es b, ([], sym (append-nil n.steps))) in
          let same : row m θ ≡ insts w.ν (row m (value s)) =
          from_eq θ (λ y. inst w.ν (value s y)) 0 m (λ i k. sym (w.agrees i (omega arith)) ∙ sym (solves_value w.ν s w.solves i)) ∙ sym (insts_from w.ν (value s) 0 m) in
          rw ev (renumbered_in R (row m θ) (row m (value s)) (w.ν, w.are_values, same))

      outward : (θ : ℕ → Term) → Values R θ → Matches R θ a.values → Allows R a.steps θ
      outward θ o h =
          let (τ, v, e) = renumbered_out R (row m θ) (row m (value s)) (rw ev at h) in
          let same : (i : ℕ) → i < m → inst τ (value s i) ≡ θ i = λ i k. sym (eq_from θ (λ y. inst τ (value s y)) 0 m (e ∙ insts_from τ (value s) 0 m) i (omega arith) (omega arith)) in
          subst (λ (ks : List ℕ). Allows R ks θ) (sym es) ((x θ o n.steps).0 (left θ τ v same)).0
