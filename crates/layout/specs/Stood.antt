-- What is read from a good file stands where it was read, and fits: reader by reader.
-- Assumes nothing.
use Prim.Native.Nat.{ℕ, zero, suc, ◌+◌, ◌*◌, ◌≤◌, ◌<◌}
use Rattle.std.specs.Prelude.{◌≡◌, false, ◌&&◌, ◌⊎◌, get_or, take}
use Rattle.std.proofs.Math.Path.{refl, ap, sym, subst}
use Rattle.std.proofs.Common.{◌∙◌, inl, inr, take_all}
use Rattle.std.proofs.Math.Bool.{Bool, true}
use mathlib.Core.List.{List, [], ◌∷◌, ◌++◌}
use Rattle.std.proofs.Math.Option.{some, some-injective}
use Rattle.std.proofs.Math.Logic.{⊎_elim}
use native.Mathlib.Omega.{arith}
use Rattle.std.proofs.Math.Dec.{leb, ltb, eqb}
use Rattle.std.proofs.Math.ListN.{length, get_elem?, length-append}
use Rattle.std.proofs.lemmas.List.{take-append-le}
use Rattle.std.proofs.Math.Seq.{take-append_seam}
use borrow.Author.Tests.{ltb-true, ltb-false, leb-true, leb-false, eqb-true, not-false}
use Rattle.meaning.specs.If.{when◌then◌else◌}
use Rattle.meaning.specs.Terms.{Term, var, app, Terms, []ₜ, ◌∷ₜ◌, count}
use Rattle.meaning.specs.Kinds.{body_lengths, body_length, a_function, a_predicate, a_clause, a_variable, an_application, a_goal, a_cut, a_query, the_end, variable_limit, level_limit, todays_limits}
use Rattle.meaning.specs.Rules.{Goal, call, cut, Clause, Rules}
use Rattle.meaning.specs.Reading.{Read, refused, read, Reader, after, ◌>>=◌, ◌>>◌, give, refuse, need, none_seen, all_seen, terms, goals, term_due, goal_due, item_due, end_due}
use Rattle.meaning.specs.Reading.{byte, two_bytes, next, variable, applied, term, arguments, called, goal, clause, query, no_more, items, parse_within, parse}
use Rattle.laws.specs.IfLaws.{if_by, and_left, and_right}
use Rattle.laws.specs.Due.{application_left, goal_left, item_order, item_kind, query_left}
use Rattle.layout.specs.Lengths.{term_length, terms_length, goal_length, goals_length, head_length, clause_length, clauses_length, clause_place, query_place}
use Rattle.layout.specs.Standing.{StandsTerm, StandsTerms, StandsGoal, StandsGoals, StandsClause, StandsRules}
use Rattle.layout.specs.Fitting.{depth, depths, FitsTerm, FitsTerms, FitsCall, FitsGoal, FitsGoals, FitsClause, FitsRules}

-- a number below the length is an index
index_known : (l : List ℕ) (i : ℕ) → i < length l → get_elem? l i ≡ some (get_or l i 0)
index_known [] i h = absurd (omega arith)
index_known (a ∷ l) zero h = refl
index_known (a ∷ l) (suc i) h = index_known l i (omega arith)

-- what stands in a list with one more at the end: an item before, or that one
index_last : {A : Type 0} (l : List A) (a b : A) (k : ℕ) → get_elem? (l ++ a ∷ []) k ≡ some b → ((get_elem? l k ≡ some b) × (k < length l)) ⊎ ((k ≡ length l) × (a ≡ b))
index_last [] a b zero e = inr (refl, some-injective _ _ e)
index_last [] a b (suc k) e = let z : ◌≡◌ {A = ℕ} 0 1 = cc in absurd (omega arith)
index_last (x ∷ l) a b zero e = inl (e, omega arith)
index_last (x ∷ l) a b (suc k) e = ⊎_elim (λ h. let i : k < length l = h.1 in inl (h.0, omega arith)) (λ h. let i : k ≡ length l = h.0 in inr (omega arith, h.1)) (index_last l a b k e)

no_index : {A : Type 0} {G : Type 0} (l : List A) (k : ℕ) (a : A) → l ≡ [] → get_elem? l k ≡ some a → G
no_index l k a e h = let f : get_elem? [] k ≡ some a = rw e at h in let z : ◌≡◌ {A = ℕ} 0 1 = cc in absurd (omega arith)

-- ---- readers
-- what is read, if anything is, has the property, with the place after it
data Gives {A : Type 0} (Q : A → ℕ → Type 0) : Read A → Type 0 where
  nothing : {n p : ℕ} → Gives Q (refused n p)
  this : {a : A} {seen at : ℕ} → Q a at → Gives Q (read a seen at)

gives_read : {A : Type 0} {Q : A → ℕ → Type 0} {a : A} {seen at : ℕ} → Gives Q (read a seen at) → Q a at
gives_read (this q) = q

-- the reader that follows may count on what the reader before it gave
after_gives : {A B : Type 0} {P : A → ℕ → Type 0} {Q : B → ℕ → Type 0} {r : Read A} {f : A → Reader B} → Gives P r → ((a : A) (seen at : ℕ) → P a at → Gives Q (f a seen at)) → Gives Q (after r f)
unfolding after
after_gives nothing k = nothing
after_gives (this {a} {seen} {at} q) k = k a seen at q

need_gives : (b : Bool) (n p seen at : ℕ) → Gives (λ u e. (b ≡ true) × (e ≡ at)) (need b n p seen at)
unfolding need
need_gives true n p seen at = this (refl, refl)
need_gives false n p seen at = nothing

none_seen_gives : (seen at : ℕ) → Gives (λ u e. e ≡ at) (none_seen seen at)
unfolding none_seen
none_seen_gives seen at = this refl

all_seen_gives : (declared p seen at : ℕ) → Gives (λ u e. e ≡ at) (all_seen declared p seen at)
unfolding all_seen need
all_seen_gives declared p seen at = go (eqb seen declared)
  where
    go : (b : Bool) → Gives (λ u e. e ≡ at) (need b 7 p seen at)
    go true = this refl
    go false = nothing

module _ (file : List ℕ) where
  -- the record that was due stands at the place p: its kind, and the place e after it
  record Record (due : ℕ → Bool) (at p e : ℕ) : Type 0 where
    place : p ≡ at
    kind : due (byte file p) ≡ true
    ends : e ≡ p + 1 + body_length (byte file p)
    within : e ≤ length file

  next_gives : (due : ℕ → Bool) (seen at : ℕ) → Gives (Record due at) (next file due seen at)
  unfolding next
  next_gives due seen at =
      let Q : Read ℕ → Type 0 = Gives (Record due at) in
      if_by Q _ (λ e. nothing) λ e. if_by Q _ (λ d. nothing) λ d. if_by Q _ (λ s. nothing) λ s. this (record { place = refl; kind = not-false _ d; ends = refl; within = ltb-false _ _ s })

  -- the place after a record of a kind that is known
  record_ends : {due : ℕ → Bool} {at p e : ℕ} (k : ℕ) → Record due at p e → byte file p ≡ k → e ≡ p + 1 + body_length k
  record_ends {p} k r h = r.ends ∙ ap (λ (x : ℕ). p + 1 + body_length x) h

  -- ---- terms
  -- the term read at a place, over the functions, within some levels
  record TermRead (functions : List ℕ) (declared levels at : ℕ) (t : Term) (e : ℕ) : Type 0 where
    stands : StandsTerm file at t
    ends : e ≡ at + term_length t
    within : e ≤ length file
    fits : FitsTerm functions declared t
    deep : depth t ≤ levels

  record TermsRead (functions : List ℕ) (declared levels at n : ℕ) (ts : Terms) (e : ℕ) : Type 0 where
    stands : StandsTerms file at ts
    ends : e ≡ at + terms_length ts
    within : e ≤ length file
    counted : count ts ≡ n
    fits : FitsTerms functions declared ts
    deep : depths ts ≤ levels

  terms_none : (functions : List ℕ) (declared levels at : ℕ) → at ≤ length file → TermsRead functions declared levels at 0 []ₜ at
  unfolding count term_length depth
  terms_none functions declared levels at l = record { stands = tt; ends = omega arith; within = l; counted = refl; fits = tt; deep = omega arith }

  terms_more : (functions : List ℕ) (declared levels at n : ℕ) (t : Term) (ts : Terms) (d e : ℕ) → TermRead functions declared levels at t d → TermsRead functions declared levels d n ts e → TermsRead functions declared levels at (suc n) (t ∷ₜ ts) e
  unfolding count term_length depth
  terms_more functions declared levels at n t ts d e r s =
      let f : d ≡ at + term_length t = r.ends in
      let g : e ≡ d + terms_length ts = s.ends in
      let h : depth t ≤ levels = r.deep in
      let hs : depths ts ≤ levels = s.deep in
      record {
        stands = (r.stands, subst (λ (p : ℕ). StandsTerms file p ts) f s.stands);
        ends = omega arith;
        within = s.within;
        counted = ap suc s.counted;
        fits = (r.fits, s.fits);
        deep = omega arith;
      }

  terms_read : (functions : List ℕ) (declared levels : ℕ) (one : Reader Term) → ((seen at : ℕ) → Gives (TermRead functions declared levels at) (one seen at))
      → (n seen at : ℕ) → at ≤ length file → Gives (TermsRead functions declared levels at n) (terms one n seen at)
  unfolding terms ◌>>=◌ give
  terms_read functions declared levels one h zero seen at l = this (terms_none functions declared levels at l)
  terms_read functions declared levels one h (suc n) seen at l =
      after_gives (h seen at) λ t seen₁ at₁ r.
      after_gives (terms_read functions declared levels one h n seen₁ at₁ r.within) λ ts seen₂ at₂ s.
      this (terms_more functions declared levels at n t ts at₁ at₂ r s)

  module _ (functions : List ℕ) (declared : ℕ) where
    variable_read : (levels p seen at : ℕ) → byte file p ≡ a_variable → at ≡ p + 2 → at ≤ length file → Gives (TermRead functions declared (suc levels) p) (variable file declared p seen at)
    unfolding variable term_length depth
    variable_read levels p seen at k e l =
        let Q : Read Term → Type 0 = Gives (TermRead functions declared (suc levels) p) in
        if_by Q _ (λ t. nothing) λ t.
        let found : TermRead functions declared (suc levels) p (var (byte file (p + 1))) at = record { stands = (k, refl); ends = e; within = l; fits = leb-false _ _ t; deep = omega arith } in
        if_by Q _ (λ d. nothing) λ d. if_by Q _ (λ s. this found) λ s. this found

    application_read : (levels p d e f : ℕ) (ts : Terms) → byte file p ≡ an_application → two_bytes file (p + 1) ≡ f → f < length functions
        → d ≡ p + 3 → TermsRead functions declared levels d (get_or functions f 0) ts e → TermRead functions declared (suc levels) p (app f ts) e
    unfolding term_length depth
    application_read levels p d e f ts k q l same r =
        let g : e ≡ d + terms_length ts = r.ends in
        let h : depths ts ≤ levels = r.deep in
        record {
          stands = (k, q, subst (λ (p : ℕ). StandsTerms file p ts) same r.stands);
          ends = omega arith;
          within = r.within;
          fits = (index_known functions f l ∙ ap some (sym r.counted), r.fits);
          deep = omega arith;
        }

    applied_read : (levels : ℕ) (argument : Reader Term) → ((seen at : ℕ) → Gives (TermRead functions declared levels at) (argument seen at))
        → (p seen at : ℕ) → byte file p ≡ an_application → at ≡ p + 3 → at ≤ length file → Gives (TermRead functions declared (suc levels) p) (applied file functions argument p seen at)
    unfolding applied ◌>>◌ ◌>>=◌ give
    applied_read levels argument h p seen at k e l =
        after_gives (need_gives _ 6 p seen at) λ u seen₁ at₁ n.
        let e₁ : at₁ ≡ at = n.1 in
        after_gives (terms_read functions declared levels argument h _ seen₁ at₁ (omega arith)) λ ts seen₂ at₂ r.
        this (application_read levels p at₁ at₂ _ ts k refl (ltb-true _ _ n.0) (e₁ ∙ e) r)

    term_read : (levels seen at : ℕ) → Gives (TermRead functions declared levels at) (term file functions declared levels seen at)
    unfolding term ◌>>=◌ refuse body_length body_lengths term_due
    term_read zero seen at = after_gives (next_gives term_due seen at) λ p seen₁ at₁ r. nothing
    term_read (suc levels) seen at =
        after_gives (next_gives term_due seen at) λ p seen₁ at₁ r.
        let Q : ℕ → Reader Term → Type 0 = λ q f. Gives (TermRead functions declared (suc levels) q) (f seen₁ at₁) in
        subst (λ (q : ℕ). Q q (when eqb (byte file p) a_variable then variable file declared p else applied file functions (term file functions declared levels) p)) r.place
        (if_by (Q p) _
        (λ v. let k : byte file p ≡ a_variable = eqb-true _ _ v in
        variable_read levels p seen₁ at₁ k (record_ends a_variable r k ∙ omega arith) r.within)
        λ v. let k : byte file p ≡ an_application = application_left (byte file p) r.kind v in
        applied_read levels _ (term_read levels) p seen₁ at₁ k (record_ends an_application r k ∙ omega arith) r.within)

  -- ---- goals
  -- the goals stand at p, one after another, whatever comes then
  abbrev Follows : ℕ → List Goal → Type 0
  Follows p [] = Unit {0}
  Follows p (g ∷ gs) = StandsGoal file p g × Follows (p + goal_length g) gs

  -- no goal starts here
  abbrev NoGoal : ℕ → Type 0
  NoGoal p = (byte file p ≡ a_goal → ⊥) × (byte file p ≡ a_cut → ⊥)

  goals_stand : (p : ℕ) (gs : List Goal) → Follows p gs → NoGoal (p + goals_length gs) → StandsGoals file p gs
  unfolding goals_length
  goals_stand p [] f n = let e : p + 0 ≡ p = omega arith in rw e at n
  goals_stand p (g ∷ gs) f n =
      let e : p + (goal_length g + goals_length gs) ≡ (p + goal_length g) + goals_length gs = omega arith in
      (f.0, goals_stand (p + goal_length g) gs f.1 (rw e at n))

  module _ (functions predicates : List ℕ) where
    record GoalRead (declared at : ℕ) (g : Goal) (e : ℕ) : Type 0 where
      stands : StandsGoal file at g
      ends : e ≡ at + goal_length g
      within : e ≤ length file
      fits : FitsGoal functions predicates declared g

    record GoalsRead (declared at n : ℕ) (gs : List Goal) (e : ℕ) : Type 0 where
      stands : Follows at gs
      ends : e ≡ at + goals_length gs
      within : e ≤ length file
      counted : length gs ≡ n
      fits : FitsGoals functions predicates declared gs

    cut_read : (declared p e : ℕ) → byte file p ≡ a_cut → e ≡ p + 1 → e ≤ length file → GoalRead declared p cut e
    unfolding goal_length
    cut_read declared p e k f l = record { stands = k; ends = f; within = l; fits = tt }

    goals_none : (declared at : ℕ) → at ≤ length file → GoalsRead declared at 0 [] at
    unfolding goals_length
    goals_none declared at l = record { stands = tt; ends = omega arith; within = l; counted = refl; fits = tt }

    goals_more : (declared at n : ℕ) (g : Goal) (gs : List Goal) (d e : ℕ) → GoalRead declared at g d → GoalsRead declared d n gs e → GoalsRead declared at (suc n) (g ∷ gs) e
    unfolding goals_length
    goals_more declared at n g gs d e r s =
        let f : d ≡ at + goal_length g = r.ends in
        let h : e ≡ d + goals_length gs = s.ends in
        record {
          stands = (r.stands, subst (λ (p : ℕ). Follows p gs) f s.stands);
          ends = omega arith;
          within = s.within;
          counted = ap suc s.counted;
          fits = (r.fits, s.fits);
        }

    -- the arguments read for a predicate of the file
    arguments_read : (declared q seen at : ℕ) → at ≤ length file → Gives (TermsRead functions declared level_limit at (get_or predicates q 0)) (arguments file functions declared (get_or predicates q 0) seen at)
    unfolding arguments
    arguments_read declared q seen at l = terms_read functions declared level_limit _ (term_read functions declared level_limit) _ seen at l

    call_fits : (declared at q : ℕ) (ts : Terms) (e : ℕ) → q < length predicates → TermsRead functions declared level_limit at (get_or predicates q 0) ts e → FitsCall functions predicates declared (record { predicate = q; arguments = ts })
    call_fits declared at q ts e l r = record { arity = index_known predicates q l ∙ ap some (sym r.counted); terms = r.fits; levels = r.deep }

    call_read : (declared p d q : ℕ) (ts : Terms) (e : ℕ) → byte file p ≡ a_goal → two_bytes file (p + 1) ≡ q → q < length predicates → d ≡ p + 3
        → TermsRead functions declared level_limit d (get_or predicates q 0) ts e → GoalRead declared p (call (record { predicate = q; arguments = ts })) e
    unfolding goal_length
    call_read declared p d q ts e k f l same r =
        let g : e ≡ d + terms_length ts = r.ends in
        record {
          stands = (k, f, subst (λ (p : ℕ). StandsTerms file p ts) same r.stands);
          ends = omega arith;
          within = r.within;
          fits = call_fits declared d q ts e l r;
        }

    called_read : (declared p seen at : ℕ) → byte file p ≡ a_goal → at ≡ p + 3 → at ≤ length file → Gives (GoalRead declared p) (called file functions predicates declared p seen at)
    unfolding called ◌>>◌ ◌>>=◌ give
    called_read declared p seen at k e l =
        after_gives (need_gives _ 6 p seen at) λ u seen₁ at₁ n.
        let e₁ : at₁ ≡ at = n.1 in
        after_gives (arguments_read declared _ seen₁ at₁ (omega arith)) λ ts seen₂ at₂ r.
        this (call_read declared p at₁ _ ts at₂ k refl (ltb-true _ _ n.0) (e₁ ∙ e) r)

    goal_read : (declared seen at : ℕ) → Gives (GoalRead declared at) (goal file functions predicates declared seen at)
    unfolding goal ◌>>=◌ give body_length body_lengths
    goal_read declared seen at =
        after_gives (next_gives goal_due seen at) λ p seen₁ at₁ r.
        let Q : ℕ → Reader Goal → Type 0 = λ q f. Gives (GoalRead declared q) (f seen₁ at₁) in
        subst (λ (q : ℕ). Q q (when eqb (byte file p) a_cut then give cut else called file functions predicates declared p)) r.place
        (if_by (Q p) _
        (λ v. let k : byte file p ≡ a_cut = eqb-true _ _ v in
        this (cut_read declared p at₁ k (record_ends a_cut r k ∙ omega arith) r.within))
        λ v. let k : byte file p ≡ a_goal = goal_left (byte file p) r.kind v in
        called_read declared p seen₁ at₁ k (record_ends a_goal r k ∙ omega arith) r.within)

    goals_read : (declared n seen at : ℕ) → at ≤ length file → Gives (GoalsRead declared at n) (goals (goal file functions predicates declared) n seen at)
    unfolding goals ◌>>=◌ give
    goals_read declared zero seen at l = this (goals_none declared at l)
    goals_read declared (suc n) seen at l =
        after_gives (goal_read declared seen at) λ g seen₁ at₁ r.
        after_gives (goals_read declared n seen₁ at₁ r.within) λ gs seen₂ at₂ s.
        this (goals_more declared at n g gs at₁ at₂ r s)

    -- ---- a clause
    record ClauseRead (p : ℕ) (c : Clause) (e : ℕ) : Type 0 where
      stands : NoGoal e → StandsClause file p c
      ends : e ≡ p + clause_length c
      within : e ≤ length file
      fits : FitsClause functions predicates c

    clause_made : (p d q declared : ℕ) (ts : Terms) (b n : ℕ) (gs : List Goal) (e : ℕ) → byte file p ≡ a_clause → two_bytes file (p + 1) ≡ q → q < length predicates → byte file (p + 3) ≡ declared → declared ≤ variable_limit
        → d ≡ p + 5 → byte file (p + 4) ≡ n → TermsRead functions declared level_limit d (get_or predicates q 0) ts b → GoalsRead declared b n gs e
        → ClauseRead p (record { variables = declared; head = record { predicate = q; arguments = ts }; body = gs }) e
    unfolding clause_length head_length
    clause_made p d q declared ts b n gs e k f l v few same many r s =
        let g : b ≡ d + terms_length ts = r.ends in
        let h : e ≡ b + goals_length gs = s.ends in
        let w : e ≤ length file = s.within in
        let body : b ≡ p + (5 + terms_length ts) = omega arith in
        record {
          stands = λ no. record {
            kind = k;
            predicate = f;
            variables = v;
            goals = many ∙ sym s.counted;
            head = subst (λ (p : ℕ). StandsTerms file p ts) same r.stands;
            body = subst (λ (p : ℕ). StandsGoals file p gs) body (goals_stand b gs s.stands (subst NoGoal h no));
            ends = omega arith;
          };
          ends = omega arith;
          within = w;
          fits = record { variables = few; head = call_fits declared d q ts b l r; body = s.fits };
        }

    clause_read : (p seen at : ℕ) → byte file p ≡ a_clause → at ≡ p + 5 → at ≤ length file → Gives (ClauseRead p) (clause file todays_limits functions predicates p seen at)
    unfolding clause ◌>>◌ ◌>>=◌ give
    clause_read p seen at k e l =
        after_gives (need_gives _ 6 p seen at) λ u seen₁ at₁ n.
        after_gives (none_seen_gives seen₁ at₁) λ u seen₂ at₂ e₂.
        let same : at₂ ≡ at = e₂ ∙ n.1 in
        after_gives (arguments_read _ _ seen₂ at₂ (omega arith)) λ ts seen₃ at₃ r.
        after_gives (goals_read _ _ seen₃ at₃ r.within) λ gs seen₄ at₄ s.
        after_gives (all_seen_gives _ p seen₄ at₄) λ u seen₅ at₅ e₅.
        let known : Bool = ltb (two_bytes file (p + 1)) (length predicates) in
        let few : leb (byte file (p + 3)) variable_limit ≡ true = and_right known _ (and_left (known && leb (byte file (p + 3)) variable_limit) _ n.0) in
        this (subst (ClauseRead p _) (sym e₅) (clause_made p at₂ _ _ ts at₃ _ gs at₄ k refl (ltb-true _ _ (and_left _ _ (and_left _ _ n.0))) refl (leb-true _ _ few) (same ∙ e) refl r s))

-- ---- the whole file
-- one clause more
clauses_more : (cs : List Clause) (c : Clause) → clauses_length (cs ++ c ∷ []) ≡ clauses_length cs + clause_length c
unfolding clauses_length
clauses_more [] c = omega arith
clauses_more (d ∷ cs) c = let h = clauses_more cs c in omega arith

-- what is due at the top level is no goal
module _ (file : List ℕ) where
  item_no_goal : (latest p : ℕ) → item_due latest (byte file p) ≡ true → NoGoal file p
  item_no_goal latest p e = ⊎_elim (λ h. ((λ g. omega arith), (λ g. omega arith))) (λ h. ((λ g. omega arith), (λ g. omega arith))) (item_kind latest (byte file p) e)

  -- the items so far: the place after them, and what stands before it
  record SoFar (latest : ℕ) (functions predicates : List ℕ) (clauses : List Clause) (at : ℕ) : Type 0 where
    started : a_function ≤ latest
    no_predicates : latest < a_predicate → predicates ≡ []
    no_clauses : latest < a_clause → clauses ≡ []
    place : at ≡ 2 * length functions + 2 * length predicates + clauses_length clauses
    function : (f a : ℕ) → get_elem? functions f ≡ some a → byte file (2 * f + 1) ≡ a
    predicate : (q a : ℕ) → get_elem? predicates q ≡ some a → byte file (2 * length functions + 2 * q + 1) ≡ a
    clause : NoGoal file at → (k : ℕ) (c : Clause) → get_elem? clauses k ≡ some c → StandsClause file (2 * length functions + 2 * length predicates + clauses_length (take k clauses)) c
    fits : (k : ℕ) (c : Clause) → get_elem? clauses k ≡ some c → FitsClause functions predicates c

  so_far_start : SoFar a_function [] [] [] 0
  unfolding clauses_length
  so_far_start = record {
    started = omega arith;
    no_predicates = λ h. refl;
    no_clauses = λ h. refl;
    place = refl;
    function = λ f a e. no_index [] f a refl e;
    predicate = λ q a e. no_index [] q a refl e;
    clause = λ no k c e. no_index [] k c refl e;
    fits = λ k c e. no_index [] k c refl e;
  }

  so_far_function : (latest : ℕ) (fs ps : List ℕ) (cs : List Clause) (at e a : ℕ) → SoFar latest fs ps cs at → latest ≤ a_function → e ≡ at + 2 → byte file (at + 1) ≡ a → SoFar a_function (fs ++ a ∷ []) ps cs e
  unfolding clauses_length
  so_far_function latest fs ps cs at e a so l h b =
      let none : ps ≡ [] = so.no_predicates (omega arith) in
      let empty : cs ≡ [] = so.no_clauses (omega arith) in
      let long : length (fs ++ a ∷ []) ≡ length fs + 1 = length-append fs (a ∷ []) in
      let here : at ≡ 2 * length fs + 2 * length ps + clauses_length cs = so.place in
      let no_ps : length ps ≡ 0 = ap length none in
      let no_cs : clauses_length cs ≡ 0 = ap clauses_length empty in
      record {
        started = omega arith;
        no_predicates = λ k. none;
        no_clauses = λ k. empty;
        place = omega arith;
        function = λ f x g. ⊎_elim (λ i. so.function f x i.0)
            (λ i. let j : f ≡ length fs = i.0 in let same : 2 * f + 1 ≡ at + 1 = omega arith in ap (byte file) same ∙ b ∙ i.1) (index_last fs a x f g);
        predicate = λ q x g. no_index ps q x none g;
        clause = λ no k c g. no_index cs k c empty g;
        fits = λ k c g. no_index cs k c empty g;
      }

  so_far_predicate : (latest : ℕ) (fs ps : List ℕ) (cs : List Clause) (at e a : ℕ) → SoFar latest fs ps cs at → latest ≤ a_predicate → e ≡ at + 2 → byte file (at + 1) ≡ a → SoFar a_predicate fs (ps ++ a ∷ []) cs e
  unfolding clauses_length
  so_far_predicate latest fs ps cs at e a so l h b =
      let empty : cs ≡ [] = so.no_clauses (omega arith) in
      let long : length (ps ++ a ∷ []) ≡ length ps + 1 = length-append ps (a ∷ []) in
      let here : at ≡ 2 * length fs + 2 * length ps + clauses_length cs = so.place in
      let no_cs : clauses_length cs ≡ 0 = ap clauses_length empty in
      record {
        started = omega arith;
        no_predicates = λ k. absurd (omega arith);
        no_clauses = λ k. empty;
        place = omega arith;
        function = so.function;
        predicate = λ q x g. ⊎_elim (λ i. so.predicate q x i.0)
            (λ i. let j : q ≡ length ps = i.0 in let same : 2 * length fs + 2 * q + 1 ≡ at + 1 = omega arith in ap (byte file) same ∙ b ∙ i.1) (index_last ps a x q g);
        clause = λ no k c g. no_index cs k c empty g;
        fits = λ k c g. no_index cs k c empty g;
      }

  so_far_clause : (latest : ℕ) (fs ps : List ℕ) (cs : List Clause) (at e : ℕ) (c : Clause) → SoFar latest fs ps cs at → NoGoal file at → ClauseRead file fs ps at c e → SoFar a_clause fs ps (cs ++ c ∷ []) e
  so_far_clause latest fs ps cs at e c so free r =
      let here : at ≡ 2 * length fs + 2 * length ps + clauses_length cs = so.place in
      let more = clauses_more cs c in
      let ends : e ≡ at + clause_length c = r.ends in
      record {
        started = omega arith;
        no_predicates = λ k. absurd (omega arith);
        no_clauses = λ k. absurd (omega arith);
        place = omega arith;
        function = so.function;
        predicate = so.predicate;
        clause = λ no' k d g. ⊎_elim
            (λ i. let l : k ≤ length cs = (let j : k < length cs = i.1 in omega arith) in
            rw (take-append-le k cs (c ∷ []) l) (so.clause free k d i.0))
            (λ i. rw (i.0, take-append_seam cs (c ∷ []), ← i.1, ← here) (r.stands no'))
            (index_last cs c d k g);
        fits = λ k d g. ⊎_elim (λ i. so.fits k d i.0) (λ i. subst (FitsClause fs ps) i.1 r.fits) (index_last cs c d k g);
      }

  -- ---- the query, which ends the rules
  abbrev Stood : Rules → Type 0
  Stood R = StandsRules file R × FitsRules R

  query_made : (latest : ℕ) (fs ps : List ℕ) (cs : List Clause) (p d declared n e : ℕ) (gs : List Goal) → SoFar latest fs ps cs p → NoGoal file p → byte file p ≡ a_query → d ≡ p + 3 → byte file (p + 1) ≡ declared → declared ≤ variable_limit → byte file (p + 2) ≡ n
      → GoalsRead file fs ps declared d n gs e → NoGoal file e → e < length file
      → Stood (record { functions = fs; predicates = ps; clauses = cs; variables = declared; query = gs })
  unfolding clause_place query_place
  query_made latest fs ps cs p d declared n e gs so free k same v few many r out l =
      let here : p ≡ 2 * length fs + 2 * length ps + clauses_length (take (length cs) cs) = rw (take_all (length cs) cs (omega arith)) so.place in
      let ends : e ≡ d + goals_length gs = r.ends in
      let goals : StandsGoals file d gs = goals_stand file d gs r.stands (subst (NoGoal file) ends out) in (
        record {
          functions = so.function;
          predicates = so.predicate;
          clauses = so.clause free;
          query_kind = rw here at k;
          query_variables = ap (λ (x : ℕ). byte file (x + 1)) (sym here) ∙ v;
          query_goals = ap (λ (x : ℕ). byte file (x + 2)) (sym here) ∙ many ∙ sym r.counted;
          query = subst (λ (x : ℕ). StandsGoals file x gs) (same ∙ ap (λ (x : ℕ). x + 3) here) goals;
          ends = omega arith;
        },
        record { clauses = so.fits; variables = few; query = r.fits },
      )

  query_read : (latest : ℕ) (fs ps : List ℕ) (cs : List Clause) (p seen at : ℕ) → SoFar latest fs ps cs p → NoGoal file p → byte file p ≡ a_query → at ≡ p + 3 → at ≤ length file
      → Gives (λ R e. NoGoal file e → e < length file → Stood R) (query file todays_limits fs ps cs p seen at)
  unfolding query ◌>>◌ ◌>>=◌ give
  query_read latest fs ps cs p seen at so free k e l =
      after_gives (need_gives _ 6 p seen at) λ u seen₁ at₁ n.
      after_gives (none_seen_gives seen₁ at₁) λ u seen₂ at₂ e₂.
      let same : at₂ ≡ at = e₂ ∙ n.1 in
      after_gives (goals_read file fs ps _ _ seen₂ at₂ (omega arith)) λ gs seen₃ at₃ r.
      after_gives (all_seen_gives _ p seen₃ at₃) λ u seen₄ at₄ e₄.
      this λ out m. query_made latest fs ps cs p at₂ _ _ at₃ gs so free k (same ∙ e) refl (leb-true _ _ (and_left _ _ n.0)) refl r (subst (NoGoal file) e₄ out) (omega arith)

  items_stand : (more latest : ℕ) (fs ps : List ℕ) (cs : List Clause) (seen at : ℕ) → SoFar latest fs ps cs at → Gives (λ R e. Stood R) (items file todays_limits more latest fs ps cs seen at)
  unfolding items ◌>>◌ ◌>>=◌ give no_more body_length body_lengths end_due
  items_stand zero latest fs ps cs seen at so = nothing
  items_stand (suc more) latest fs ps cs seen at so₀ =
      after_gives (next_gives file (item_due latest) seen at) λ p seen₁ at₁ r.
      let so : SoFar latest fs ps cs p = subst (SoFar latest fs ps cs) (sym r.place) so₀ in
      let free : NoGoal file p = item_no_goal latest p r.kind in
      let Q : Reader Rules → Type 0 = λ f. Gives (λ R e. Stood R) (f seen₁ at₁) in
      if_by Q _ (λ v. let k : byte file p ≡ a_function = eqb-true _ _ v in
      let e : at₁ ≡ p + 2 = record_ends file a_function r k ∙ omega arith in
      after_gives (need_gives _ 6 p seen₁ at₁) λ u seen₂ at₂ n.
      items_stand more _ _ _ _ seen₂ at₂ (so_far_function latest fs ps cs p at₂ _ so (item_order latest _ a_function r.kind k (omega arith)) (n.1 ∙ e) refl)) λ v₁.
      if_by Q _ (λ v. let k : byte file p ≡ a_predicate = eqb-true _ _ v in
      let e : at₁ ≡ p + 2 = record_ends file a_predicate r k ∙ omega arith in
      after_gives (need_gives _ 6 p seen₁ at₁) λ u seen₂ at₂ n.
      items_stand more _ _ _ _ seen₂ at₂ (so_far_predicate latest fs ps cs p at₂ _ so (item_order latest _ a_predicate r.kind k (omega arith)) (n.1 ∙ e) refl)) λ v₂.
      if_by Q _ (λ v. let k : byte file p ≡ a_clause = eqb-true _ _ v in
      let e : at₁ ≡ p + 5 = record_ends file a_clause r k ∙ omega arith in
      let l : at₁ ≤ length file = r.within in
      after_gives (need_gives _ 6 p seen₁ at₁) λ u seen₂ at₂ n.
      let e₂ : at₂ ≡ at₁ = n.1 in
      after_gives (clause_read file fs ps p seen₂ at₂ k (e₂ ∙ e) (omega arith)) λ c seen₃ at₃ s.
      items_stand more _ _ _ _ seen₃ at₃ (so_far_clause latest fs ps cs p at₃ c so free s)) λ v₃.
      let k : byte file p ≡ a_query = query_left latest (byte file p) so.started r.kind v₁ v₂ v₃ in
      after_gives (query_read latest fs ps cs p seen₁ at₁ so free k (record_ends file a_query r k ∙ omega arith) r.within) λ R seen₂ at₂ q.
      after_gives (next_gives file end_due seen₂ at₂) λ x seen₃ at₃ s.
      after_gives (need_gives (eqb at₃ (length file)) 9 at₃ seen₃ at₃) λ u seen₄ at₄ n.
      let end : byte file x ≡ the_end = eqb-true _ _ s.kind in
      let here : x ≡ at₂ = s.place in
      let f : at₃ ≡ x + 1 + body_length (byte file x) = s.ends in
      let w : at₃ ≤ length file = s.within in
      this (subst (λ (y : ℕ). NoGoal file y → y < length file → Stood R) (sym here) q ((λ g. omega arith), (λ g. omega arith)) (omega arith))

  parse_stands : Gives (λ R e. Stood R) (parse file)
  unfolding parse_within
  parse_stands = items_stand (length file) a_function [] [] [] 0 0 so_far_start

-- the rules of a good file stand in it, and fit
pub good_files_stand : (file : List ℕ) (R : Rules) (seen at : ℕ) → parse file ≡ read R seen at → StandsRules file R
good_files_stand file R seen at e = (gives_read (subst (Gives (λ R e. Stood file R)) e (parse_stands file))).0

pub good_files_fit : (file : List ℕ) (R : Rules) (seen at : ℕ) → parse file ≡ read R seen at → FitsRules R
good_files_fit file R seen at e = (gives_read (subst (Gives (λ R e. Stood file R)) e (parse_stands file))).1
