-- Entering a clause: one step more, fresh cells, the pairs of its head.
-- Assumes nothing.
use Rattle.std.specs.Prelude.{ℕ, zero, suc, ◌+◌, ◌*◌, ◌%◌, ◌≤◌, ◌<◌, ◌≡◌, refl, ◌⊎◌, ltb, Bool, true, false}
use Rattle.std.proofs.Math.Path.{ap, sym, subst}
use Rattle.std.proofs.Common.{◌∙◌, inl, inr, ltb-true, ltb-false, length-append}
use mathlib.Core.List.{List, [], ◌∷◌, ◌++◌, map, append-nil}
use Rattle.std.proofs.Math.Option.{some}
use native.Mathlib.Omega.{arith}
use Rattle.std.proofs.Math.Nat.{mod-lt}
use Rattle.std.proofs.Math.ListN.{length, get_elem?, get_or}
use Rattle.meaning.specs.Terms.{Terms, count, insts, from}
use Rattle.meaning.specs.Rules.{Call}
use Rattle.meaning.specs.Reading.{byte}
use Rattle.meaning.specs.Store.{Store}
use Rattle.meaning.specs.Moves.{Open, Derivation, Numbered, Choice, choice, pairs, over, body_goal, with_step}
use Rattle.meaning.specs.Call.{needed}
use Rattle.demands.specs.TermLaws.{count_insts}
use Rattle.demands.specs.StoreLaws.{Free, Sound}
use Rattle.demands.specs.WellLaws.{GoodStore}
use Rattle.layout.specs.Lengths.{head_length, clause_length, clause_place}
use Rattle.layout.specs.Standing.{StandsClause}
use Rattle.layout.specs.Regions.{word, Keeps}
use Rattle.layout.specs.Tables.{Chain}
use Rattle.words.specs.Words.{plus}
use Rattle.cells.specs.Cells.{freed, place_after}
use Rattle.matching.specs.Matching.{past_kind}
use Rattle.search.specs.Search.{step_word, step_put, clause_next_word, arity_at, paired, entered_regs, settled_next}
use Rattle.search.specs.declared.Regs.{Regs}
use Rattle.search.specs.declared.Trial.{Trial}
use Rattle.simulation.specs.Places.{whole, BodyAt, of_head}
use Rattle.simulation.specs.PlaceLaws.{rules_stand, terms_end, body_ends, query_ends}
use Rattle.simulation.specs.Rep.{Setting, lay, layout_of, Base, StepsAre, HeightIs, no_height, height, here, up, Links, Settled, GoalsAre, in_query, in_body, GoalIs, ChoicesAre, no_choices, choices, bindings, now, PairsAre}
use Rattle.simulation.specs.Ranges.{in_range_is}
use Rattle.simulation.specs.Frames.{keeps_none, SameSteps, SameTables, links_same, steps_same, goals_same, clause_words_same, next_same, choices_same}
use Rattle.simulation.specs.TableFrames.{tables_room, base_same}
use Rattle.simulation.specs.Undoes.{store_bindings}
use Rattle.simulation.specs.Follows.{bindings_few}
use Rattle.simulation.specs.Insides.{store_same}
use Rattle.simulation.specs.States.{StoreRep, TryIs, AtIs}
use Rattle.simulation.specs.Goals.{SettledAt, settled_is}
use Rattle.simulation.specs.Going.{ahead_small}
use Rattle.simulation.specs.Pushing.{plus_small, Pushed, pushed_pairs}
use Rattle.simulation.specs.Fresh.{Cleared, freed_clears, step_keeps, wrote_0, wrote_1, wrote_2, wrote_3, wrote_4, wrote_5, wrote_6, wrote_7}

module _ (X : Setting) where
  abbrev C : ℕ
  C = X.limits.cells

  -- what entering a clause with so many variables leaves in the words
  pub record Changed (w : List ℕ) (t : Trial) (m : Regs) (variables : ℕ) (v : List ℕ) : Type 0 where
    pub as_long : length v ≡ length w
    pub tables : SameTables X w v
    pub trail : (j : ℕ) → j < C → word v ((lay X).trail + j) ≡ word w ((lay X).trail + j)
    pub cells : (x : ℕ) → x < m.cells → word v ((lay X).cells + x) ≡ word w ((lay X).cells + x)
    pub marks : (x : ℕ) → x < m.cells → word v ((lay X).marks + x) ≡ word w ((lay X).marks + x)
    pub fresh : (x : ℕ) → m.cells ≤ x → x < m.cells + variables → word v ((lay X).cells + x) ≡ 0
    pub unmarked : (x : ℕ) → m.cells ≤ x → x < m.cells + variables → word v ((lay X).marks + x) ≡ 0
    pub steps : SameSteps X m.steps w v
    pub wrote : (j : ℕ) → step_word v (lay X) (suc m.steps) j ≡ step_word (step_put (lay X) t m w) (lay X) (suc m.steps) j

  module _ (w : List ℕ) (b : Base X w) (t : Trial) (m : Regs) (l : m.steps < X.limits.steps) (hg : t.goal.0 ≤ 60000) (hn : t.next.place.0 ≤ 60000) (variables : ℕ) (room : m.cells + variables ≤ C) where
    abbrev w₁ : List ℕ
    w₁ = step_put (lay X) t m w

    abbrev w₂ : List ℕ
    w₂ = freed variables m.cells (lay X) w₁

    keeps_1 : Keeps ((lay X).steps + 8 * m.steps) ((lay X).steps + 8 * m.steps + 8) w w₁
    keeps_1 = step_keeps X w b t m l hg hn

    long_1 : (lay X).marks + C ≤ length w₁
    unfolding layout_of needed
    long_1 = let a = keeps_1.same_length in let e = b.long in omega arith

    clears : Cleared X w₁ m.cells variables w₂
    clears = freed_clears X variables m.cells w₁ room long_1

    -- a word that is no cell and no mark
    apart : (i : ℕ) → (i < (lay X).cells) ⊎ ((lay X).steps ≤ i) → word w₂ i ≡ word w₁ i
    unfolding layout_of
    apart i (inl h) = clears.same i (λ x a c. ((λ e. omega arith), λ e. omega arith))
    apart i (inr h) = clears.same i (λ x a c. ((λ e. omega arith), λ e. omega arith))

    low : (i : ℕ) → i < (lay X).steps → word w₁ i ≡ word w i
    low i h = keeps_1.same i (inl (omega arith))

    pub changed : (v : List ℕ) (n : ℕ) → Keeps ((lay X).work + 4 * 0) ((lay X).work + 4 * (0 + n)) w₂ v → Changed w t m variables v
    unfolding layout_of step_word
    changed v n k = record {
      as_long = k.same_length ∙ clears.as_long ∙ keeps_1.same_length;
      tables = λ i a c. k.same i (inl (omega arith)) ∙ apart i (inl (omega arith)) ∙ low i (omega arith);
      trail = λ j h. k.same _ (inl (omega arith)) ∙ clears.same _ (λ x a c. ((λ e. omega arith), λ e. omega arith)) ∙ low _ (omega arith);
      cells = λ x h. k.same _ (inl (omega arith)) ∙ clears.same _ (λ y a c. ((λ e. omega arith), λ e. omega arith)) ∙ low _ (omega arith);
      marks = λ x h. k.same _ (inl (omega arith)) ∙ clears.same _ (λ y a c. ((λ e. omega arith), λ e. omega arith)) ∙ low _ (omega arith);
      fresh = λ x a c. k.same _ (inl (omega arith)) ∙ clears.cells x a c;
      unmarked = λ x a c. k.same _ (inl (omega arith)) ∙ clears.marks x a c;
      steps = same;
      wrote = λ j. k.same _ (inl (in_steps m.steps j l)) ∙ apart _ (inr (omega arith));
    }
      where
        in_steps : (i j : ℕ) → i < X.limits.steps → (lay X).steps + 8 * i + j % 8 < (lay X).work + 4 * 0
        in_steps i j h = let q = mod-lt j {m = 8} (omega arith) in omega arith

        same : SameSteps X m.steps w v
        same zero j h = refl
        same (suc i) j h =
            let q = mod-lt j {m = 8} (omega arith) in
            k.same _ (inl (in_steps i j (omega arith))) ∙ apart _ (inr (omega arith)) ∙ keeps_1.same _ (inl (omega arith))

  -- ---- the clause is entered
  goals_place : (w : List ℕ) {p f : ℕ} {os : List Open} → GoalsAre X w p f os → p ≤ length X.file
  goals_place w (in_query q) = let e = query_ends X q in omega arith
  goals_place w (in_body i body base high prior less links settled rest) = let e = body_ends X body in omega arith

  choices_height : (w : List ℕ) {s : Store} {u c : ℕ} {cs : List Choice} → ChoicesAre X w s u c cs → HeightIs X w c (length cs)
  choices_height w no_choices = no_height
  choices_height w (choices i chain known numbers stands goals less links settled cells trail prior steps older fewer rest) = height i prior (choices_height w rest)

  get_last : (ks : List ℕ) (k j : ℕ) → j < length ks → get_elem? (ks ++ k ∷ []) j ≡ get_elem? ks j
  get_last [] k j h = absurd (omega arith)
  get_last (x ∷ ks) k zero h = refl
  get_last (x ∷ ks) k (suc j) h = get_last ks k j (omega arith)

  get_new : (ks : List ℕ) (k j : ℕ) → j ≡ length ks → get_elem? (ks ++ k ∷ []) j ≡ some k
  get_new [] k j e = rw e refl
  get_new (x ∷ ks) k zero e = absurd (omega arith)
  get_new (x ∷ ks) k (suc j) e = get_new ks k j (omega arith)

  steps_more : (w : List ℕ) (i k : ℕ) (ks : List ℕ) → StepsAre X w i ks → step_word w (lay X) (suc i) 0 ≡ k → StepsAre X w (suc i) (ks ++ k ∷ [])
  steps_more w i k ks (e, f) q = (length-append ks (k ∷ []) ∙ omega (arith, e), λ j h. go j h (ltb j i) refl)
    where
      go : (j : ℕ) → j < suc i → (b : Bool) → ltb j i ≡ b → get_elem? (ks ++ k ∷ []) j ≡ some (step_word w (lay X) (suc j) 0)
      go j h true t = let l = ltb-true j i t in get_last ks k j (omega arith) ∙ f j l
      go j h false t = let l = ltb-false j i t in let z : j ≡ i = omega arith in get_new ks k j (omega arith) ∙ ap some (sym (rw z q))

  -- what is asked of a trial beside the words
  pub record Tried (m : Regs) (k : Numbered) (g : Call) (n : Derivation) : Type 0 where
    pub known : get_elem? X.rules.clauses k.number ≡ some k.clause
    pub arity : get_elem? X.rules.predicates g.predicate ≡ some (count g.arguments)
    pub counts : count g.arguments ≡ count k.clause.head.arguments
    pub few : count g.arguments ≤ X.limits.work
    pub sound : Sound n.store
    pub good : GoodStore X.rules.functions n.cells n.store
    pub cells : n.cells + k.clause.variables ≤ C
    pub steps : m.steps < X.limits.steps

  module _ (w : List ℕ) (t : Trial) (m : Regs) (k : Numbered) (ks : List Numbered) (g : Call) (n : Derivation) (cs : List Choice) (try : TryIs X w t m k ks g n cs) (ok : Tried m k g n) where
    abbrev p : ℕ
    p = clause_place X.rules k.number

    abbrev V₀ : ℕ
    V₀ = k.clause.variables

    base : Base X w
    base = try.run.holds.base

    hg : t.goal.0 ≤ 60000
    hg = let e = terms_end X try.goal.stands in let s = X.short in omega arith

    hn : t.next.place.0 ≤ 60000
    hn = let e = goals_place w try.next.goals in let s = X.short in omega arith

    stands_clause : StandsClause X.file p k.clause
    stands_clause = (rules_stand X).clauses k.number k.clause ok.known

    hp : p + 5 ≤ 60000
    unfolding clause_length head_length
    hp = let e = stands_clause.ends in let s = X.short in omega arith

    room : m.cells + V₀ ≤ C
    room = let e = try.run.cells in let h = ok.cells in omega arith

    abbrev v₂ : List ℕ
    v₂ = freed V₀ m.cells (lay X) (step_put (lay X) t m w)

    base₂ : Base X v₂
    base₂ =
        let c = changed w base t m ok.steps hg hn V₀ room v₂ 0 (keeps_none _ _ v₂) in
        base_same X w v₂ c.tables c.as_long base

    raw_count : count try.goal.raw.arguments ≡ count g.arguments
    unfolding over
    raw_count = sym (ap (λ (c : Call). count c.arguments) try.goal.is ∙ count_insts (from t.caller.0) try.goal.raw.arguments)

    raw_arguments : insts (from t.caller.0) try.goal.raw.arguments ≡ g.arguments
    unfolding over
    raw_arguments = sym (ap (λ (c : Call). c.arguments) try.goal.is)

    pub arity_is : arity_at X.file (length X.rules.functions) t.goal ≡ count try.goal.raw.arguments
    unfolding arity_at over
    arity_is =
        let e : g.predicate ≡ try.goal.raw.predicate = ap (λ (c : Call). c.predicate) try.goal.is in
        ap (λ (q : ℕ). byte X.file (2 * length X.rules.functions + 2 * q + 1)) (try.goal.predicate ∙ sym e) ∙ (rules_stand X).predicates g.predicate (count g.arguments) ok.arity ∙ sym raw_count

    held_goal : (past_kind (record { place = t.goal; base = t.caller }) 3).place.0 ≡ t.goal.0 + 3
    unfolding past_kind
    held_goal = let h = hg in ahead_small t.goal.0 3 (omega arith)

    held_head : (past_kind (record { place = record { 0 = p }; base = record { 0 = m.cells } }) 5).place.0 ≡ p + 5
    unfolding past_kind
    held_head = let h = hp in ahead_small p 5 (omega arith)

    abbrev v₃ : List ℕ
    v₃ = paired (lay X) (count try.goal.raw.arguments) t (record { 0 = p }) m.cells v₂

    pushes : Pushed X v₂ 0 (count try.goal.raw.arguments) [] (pairs g.arguments (over n.cells k.clause.head).arguments) v₃
    unfolding paired past_kind over
    pushes =
        subst (λ (c : ℕ). Pushed X v₂ 0 (count try.goal.raw.arguments) [] (pairs g.arguments (insts (from c) k.clause.head.arguments)) v₃) try.run.cells
        (subst (λ (a : Terms). Pushed X v₂ 0 (count try.goal.raw.arguments) [] (pairs a (insts (from m.cells) k.clause.head.arguments)) v₃) raw_arguments
        (pushed_pairs X try.goal.raw.arguments k.clause.head.arguments v₂ 0 _ _ [] base₂ (rw held_goal try.goal.stands) (rw held_head (of_head k.number k.clause ok.known))
        (raw_count ∙ ok.counts) (let c = raw_count in let f = ok.few in omega arith) refl))

    changes : Changed w t m V₀ v₃
    changes = changed w base t m ok.steps hg hn V₀ room v₃ (count try.goal.raw.arguments) pushes.keeps

    base₃ : Base X v₃
    base₃ = base_same X w v₃ changes.tables changes.as_long base

    -- the store is the same, with more cells
    holds₃ : StoreRep X v₃ n.store (n.cells + V₀) m.trail m.units
    holds₃ =
        let e = try.run.cells in
        let few : m.trail ≤ C = (let b = store_bindings X w m.trail n.store try.run.holds.store in let c = bindings_few X.rules.functions n.cells n.store ok.sound ok.good in let h = ok.cells in omega arith) in
        record {
          base = base₃;
          store = store_same X w v₃ m.trail n.cells n.store (λ y h. changes.cells y (omega arith)) (λ j h. changes.trail j (omega arith)) ok.good try.run.holds.store;
          free = λ x h f. free_at x h f (ltb x n.cells) refl;
          few = ok.cells;
          marks = λ x h. mark_at x h (ltb x n.cells) refl;
        }
      where
        free_at : (x : ℕ) → x < n.cells + V₀ → Free x n.store → (b : Bool) → ltb x n.cells ≡ b → word v₃ ((lay X).cells + x) ≡ 0
        free_at x h f true q = let l = ltb-true x n.cells q in let e = try.run.cells in changes.cells x (omega arith) ∙ try.run.holds.free x l f
        free_at x h f false q = let l = ltb-false x n.cells q in let e = try.run.cells in changes.fresh x (omega arith) (omega arith)

        mark_at : (x : ℕ) → x < n.cells + V₀ → (b : Bool) → ltb x n.cells ≡ b → word v₃ ((lay X).marks + x) < suc m.units
        mark_at x h true q = let l = ltb-true x n.cells q in let e = try.run.cells in subst (λ (y : ℕ). y < suc m.units) (sym (changes.marks x (omega arith))) (try.run.holds.marks x l)
        mark_at x h false q = let l = ltb-false x n.cells q in let e = try.run.cells in subst (λ (y : ℕ). y < suc m.units) (sym (changes.unmarked x (omega arith) (omega arith))) (omega arith)

    -- the words of the new step
    abbrev s₀ : ℕ
    s₀ = suc m.steps

    at_0 : step_word v₃ (lay X) s₀ 0 ≡ k.number
    at_0 = changes.wrote 0 ∙ wrote_0 X w base t m ok.steps hg hn ∙ try.clause

    at_1 : step_word v₃ (lay X) s₀ 1 ≡ t.goal.0
    at_1 = changes.wrote 1 ∙ wrote_1 X w base t m ok.steps hg hn

    at_2 : step_word v₃ (lay X) s₀ 2 ≡ t.caller.0
    at_2 = changes.wrote 2 ∙ wrote_2 X w base t m ok.steps hg hn

    at_3 : step_word v₃ (lay X) s₀ 3 ≡ t.next.place.0
    at_3 = changes.wrote 3 ∙ wrote_3 X w base t m ok.steps hg hn

    at_4 : step_word v₃ (lay X) s₀ 4 ≡ t.next.step
    at_4 = changes.wrote 4 ∙ wrote_4 X w base t m ok.steps hg hn

    at_5 : step_word v₃ (lay X) s₀ 5 ≡ n.cells
    at_5 = changes.wrote 5 ∙ wrote_5 X w base t m ok.steps hg hn ∙ try.run.cells

    at_6 : step_word v₃ (lay X) s₀ 6 ≡ bindings n.store
    at_6 = changes.wrote 6 ∙ wrote_6 X w base t m ok.steps hg hn ∙ store_bindings X w m.trail n.store try.run.holds.store

    at_7 : step_word v₃ (lay X) s₀ 7 ≡ m.choice
    at_7 = changes.wrote 7 ∙ wrote_7 X w base t m ok.steps hg hn

    -- what was there before
    rest₃ : ChoicesAre X v₃ n.store n.cells m.choice cs
    rest₃ = choices_same X w v₃ changes.tables (tables_room X) m.steps changes.steps try.run.choice try.run.choices

    goals₃ : GoalsAre X v₃ (step_word v₃ (lay X) s₀ 3) (step_word v₃ (lay X) s₀ 4) n.goals
    goals₃ = rw (at_3, at_4) (goals_same X m.steps w v₃ changes.steps try.next.step try.next.goals)

    less₃ : step_word v₃ (lay X) s₀ 4 ≤ m.steps
    less₃ = rw at_4 try.next.step

    links₃ : Links X v₃ (step_word v₃ (lay X) s₀ 7) (step_word v₃ (lay X) s₀ 4)
    links₃ = rw (at_7, at_4) (links_same X m.steps w v₃ changes.steps m.choice t.next.step try.run.choice try.next.step try.next.links)

    settled₃ : Settled X (step_word v₃ (lay X) s₀ 3) (step_word v₃ (lay X) s₀ 4)
    settled₃ = rw (at_3, at_4) try.next.settled

    prior₃ : step_word v₃ (lay X) s₀ 7 ≤ m.steps
    prior₃ = rw at_7 try.run.choice

    goal₃ : GoalIs X v₃ (step_word v₃ (lay X) s₀ 1) (step_word v₃ (lay X) s₀ 2) g
    goal₃ = rw (at_1, at_2) (record { raw = try.goal.raw; stands = try.goal.stands; number = try.goal.number; predicate = try.goal.predicate; is = try.goal.is })

    left₃ : BodyAt X.rules (step_word v₃ (lay X) s₀ 0) (p + head_length k.clause) k.clause.body
    left₃ = rw at_0 (record { clause = k.clause; known = ok.known; left = whole })

    -- the new choice
    choices₃ : ChoicesAre X v₃ n.store (n.cells + V₀) s₀ (choice ks g n ∷ cs)
    choices₃ =
        choices {u = n.cells + V₀} m.steps
        (subst (λ (x : ℕ). Chain v₃ (length X.file) (length X.rules.predicates) X.rules x ks) (sym (ap (clause_next_word v₃ (lay X)) at_0 ∙ next_same X w v₃ changes.tables (tables_room X) k.number try.number))
        (clause_words_same X w v₃ changes.tables (tables_room X) _ ks try.numbers try.chain))
        (rw at_0 try.number)
        try.numbers
        goal₃
        goals₃
        less₃
        links₃
        settled₃
        at_5
        at_6
        prior₃
        (steps_same X m.steps w v₃ changes.steps m.steps n.steps (omega arith) try.run.steps)
        now
        (omega arith)
        (subst (λ (c : ℕ). ChoicesAre X v₃ n.store n.cells c cs) (sym at_7) rest₃)

    -- its body's goals in front
    body₃ : GoalsAre X v₃ (p + head_length k.clause) s₀ (map (body_goal n.cells (length cs)) k.clause.body ++ n.goals)
    body₃ =
        in_body m.steps left₃ at_5 (subst (λ (c : ℕ). HeightIs X v₃ c (length cs)) (sym at_7) (choices_height v₃ rest₃)) prior₃ less₃ links₃ settled₃ goals₃

    steps_is : plus m.steps 1 ≡ s₀
    steps_is = let r = in_range_is X.limits X.in_limits in let a = r.few_steps in let b = ok.steps in plus_small m.steps 1 (omega arith) ∙ omega arith

    cells_is : plus m.cells V₀ ≡ n.cells + V₀
    cells_is = let r = in_range_is X.limits X.in_limits in let a = r.few_cells in let b = ok.cells in let e = try.run.cells in plus_small m.cells V₀ (omega arith) ∙ omega arith

    body_place_is : (place_after v₃ (record { 0 = p })).0 ≡ p + head_length k.clause
    unfolding place_after
    body_place_is = let h = hp in ap (λ (i : ℕ). get_or v₃ i 0) (ahead_small 64 p (omega arith)) ∙ (base₃.tabled.clauses k.number k.clause ok.known).body_place

    next₃ : SettledAt X v₃ base₃.tabled s₀ s₀ (map (body_goal n.cells (length cs)) k.clause.body ++ n.goals) (settled_next X.file v₃ (lay X) (record { place = place_after v₃ (record { 0 = p }); step = s₀ }))
    next₃ = settled_is X v₃ base₃.tabled (place_after v₃ (record { 0 = p })).0 s₀ s₀ _ (rw body_place_is body₃) (up m.steps prior₃ here)

    pub entered_at : AtIs X v₃ (entered_regs X.file v₃ (lay X) m (record { 0 = p }) V₀ (count try.goal.raw.arguments)) (pairs g.arguments (over n.cells k.clause.head).arguments) (with_step k (length cs) n) (choice ks g n ∷ cs)
    unfolding entered_regs with_step
    entered_at = record {
      run = record {
        holds = holds₃;
        cells = cells_is;
        steps = rw steps_is (steps_more v₃ m.steps k.number n.steps (steps_same X m.steps w v₃ changes.steps m.steps n.steps (omega arith) try.run.steps) at_0);
        few_steps = rw steps_is ok.steps;
        choices = rw steps_is choices₃;
        choice = omega arith;
      };
      pairs = subst (PairsAre X v₃ (count try.goal.raw.arguments)) (append-nil (pairs g.arguments (over n.cells k.clause.head).arguments)) (let z : 0 + count try.goal.raw.arguments ≡ count try.goal.raw.arguments = omega arith in subst (λ (c : ℕ). PairsAre X v₃ c (pairs g.arguments (over n.cells k.clause.head).arguments ++ [])) z pushes.pairs);
      few = let c = raw_count in let f = ok.few in omega arith;
      next = rw steps_is (record { goals = next₃.goals; step = next₃.step; links = next₃.links; settled = next₃.settled });
    }
