-- A good file says well_formed rules: reader by reader, what is read is well_formed.
-- Assumes nothing.
use Prim.Native.Nat.{ℕ, zero, suc, ◌+◌, ◌≤◌, ◌<◌}
use Rattle.std.specs.Prelude.{◌≡◌, refl, Bool, true, false, ltb, eqb, length, get_or}
use Rattle.std.proofs.Math.Path.{ap}
use Rattle.std.proofs.Common.{sym, subst, ◌∙◌, arith}
use mathlib.Core.List.{List, [], ◌∷◌, ◌++◌}
use Rattle.std.proofs.Math.Option.{some}
use Rattle.std.proofs.Math.ListN.{get_elem?}
use borrow.Author.Tests.{ltb-true, leb-true, leb-false, eqb-true, not-false}
use Rattle.meaning.specs.Terms.{Term, count}
use Rattle.meaning.specs.Kinds.{a_function, a_clause, level_limit, arity_limit, function_limit, predicate_limit, todays_limits}
use Rattle.meaning.specs.Rules.{Call, Goal, call, cut, Clause, Rules}
use Rattle.meaning.specs.Reading.{Read, refused, read, Reader, after, ◌>>=◌, ◌>>◌, give, refuse, need, terms, goals, term_due, goal_due, item_due}
use Rattle.meaning.specs.Reading.{byte, next, variable, applied, term, arguments, called, goal, clause, query, items, parse_within, parse}
use Rattle.laws.specs.IfLaws.{if_by, and_left, and_right}
use Rattle.laws.specs.Due.{item_order}
use Rattle.demands.specs.Proofs.{Each, Well, Wells, calls, WellCall, WellClause, WellFormed}
use Rattle.demands.specs.Demands.{Says, GoodFilesAreWellFormed}

-- ---- indices
-- a number below the length is an index
index_known : (l : List ℕ) (i : ℕ) → i < length l → get_elem? l i ≡ some (get_or l i 0)
index_known [] i h = absurd (omega arith)
index_known (a ∷ l) zero h = refl
index_known (a ∷ l) (suc i) h = index_known l i (omega arith)

pub index_less : {A : Type 0} (l : List A) (i : ℕ) (a : A) → get_elem? l i ≡ some a → i < length l
index_less [] i a e = let z : ◌≡◌ {A = ℕ} 0 1 = cc in absurd (omega arith)
index_less (b ∷ l) zero a e = omega arith
index_less (b ∷ l) (suc i) a e = let h = index_less l i a e in omega arith

-- ---- readers
-- what is read, if anything is, has the property
data Gives {A : Type 0} (Q : A → Type 0) : Read A → Type 0 where
  nothing : {n p : ℕ} → Gives Q (refused n p)
  this : {a : A} {seen at : ℕ} → Q a → Gives Q (read a seen at)

gives_read : {A : Type 0} {Q : A → Type 0} {a : A} {seen at : ℕ} → Gives Q (read a seen at) → Q a
gives_read (this q) = q

gives_any : {A : Type 0} (r : Read A) → Gives (λ a. Unit {0}) r
gives_any (refused n p) = nothing
gives_any (read a seen at) = this tt

gives_map : {A : Type 0} {P Q : A → Type 0} {r : Read A} → ((a : A) → P a → Q a) → Gives P r → Gives Q r
gives_map h nothing = nothing
gives_map h (this {a} q) = this (h a q)

-- the reader that follows may count on what the reader before it gave
after_gives : {A B : Type 0} {P : A → Type 0} {Q : B → Type 0} {r : Read A} {f : A → Reader B} → Gives P r → ((a : A) (seen at : ℕ) → P a → Gives Q (f a seen at)) → Gives Q (after r f)
unfolding after
after_gives nothing k = nothing
after_gives (this {a} {seen} {at} q) k = k a seen at q

need_gives : (b : Bool) (n p seen at : ℕ) → Gives (λ u. b ≡ true) (need b n p seen at)
unfolding need
need_gives true n p seen at = this refl
need_gives false n p seen at = nothing

-- the record that stands here is of a kind that is due
next_gives : (file : List ℕ) (due : ℕ → Bool) (seen at : ℕ) → Gives (λ p. due (byte file p) ≡ true) (next file due seen at)
unfolding next
next_gives file due seen at =
    let Q : Read ℕ → Type 0 = Gives (λ p. due (byte file p) ≡ true) in
    if_by Q _ (λ e. nothing) λ e. if_by Q _ (λ d. nothing) λ d. if_by Q _ (λ s. nothing) λ s. this (not-false _ d)

-- ---- terms: over the functions, with the variables below the declared number
module _ (functions : List ℕ) (P : ℕ → Type 0) where
  terms_well : (one : Reader Term) → ((seen at : ℕ) → Gives (Well functions P) (one seen at)) → (n seen at : ℕ) → Gives (λ ts. (count ts ≡ n) × Wells functions P ts) (terms one n seen at)
  unfolding terms ◌>>=◌ give count
  terms_well one h zero seen at = this (refl, tt)
  terms_well one h (suc n) seen at =
      after_gives (h seen at) λ t seen₁ at₁ w.
      after_gives (terms_well one h n seen₁ at₁) λ ts seen₂ at₂ ws.
      this (ap suc ws.0, (w, ws.1))

module _ (file functions : List ℕ) (declared : ℕ) where
  abbrev TermWell : Term → Type 0
  TermWell = Well functions (λ x. x < declared)

  variable_well : (p seen at : ℕ) → Gives TermWell (variable file declared p seen at)
  unfolding variable
  variable_well p seen at =
      if_by (Gives TermWell) _ (λ e. nothing) λ e.
      let w : byte file (p + 1) < declared = leb-false _ _ e in
      if_by (Gives TermWell) _ (λ d. nothing) λ d. if_by (Gives TermWell) _ (λ s. this w) λ s. this w

  applied_well : (argument : Reader Term) → ((seen at : ℕ) → Gives TermWell (argument seen at)) → (p seen at : ℕ) → Gives TermWell (applied file functions argument p seen at)
  unfolding applied ◌>>◌ ◌>>=◌ give
  applied_well argument h p seen at =
      after_gives (need_gives _ 6 p seen at) λ u seen₁ at₁ e.
      after_gives (terms_well functions _ argument h _ seen₁ at₁) λ ts seen₂ at₂ ws.
      this (index_known functions _ (ltb-true _ _ e) ∙ ap some (sym ws.0), ws.1)

  term_well : (levels seen at : ℕ) → Gives TermWell (term file functions declared levels seen at)
  unfolding term ◌>>=◌ refuse
  term_well zero seen at = after_gives (next_gives file term_due seen at) λ p seen₁ at₁ e. nothing
  term_well (suc levels) seen at =
      after_gives (next_gives file term_due seen at) λ p seen₁ at₁ e.
      if_by (λ (r : Reader Term). Gives TermWell (r seen₁ at₁)) _
      (λ v. variable_well p seen₁ at₁) λ v. applied_well _ (term_well levels) p seen₁ at₁

-- ---- goals, clauses and the query
-- one goal more, in front
calls_both : (P : Call → Type 0) (g : Goal) (gs : List Goal) → Each P (calls (g ∷ [])) → Each P (calls gs) → Each P (calls (g ∷ gs))
calls_both P (call g) gs w ws = (w.0, ws)
calls_both P cut gs w ws = ws

-- one more at the end
pub each_last : {A : Type 0} (P : A → Type 0) (l : List A) (a : A) → Each P l → P a → Each P (l ++ a ∷ [])
each_last P [] a ws w = (w, tt)
each_last P (b ∷ l) a ws w = (ws.0, each_last P l a ws.1 w)

each_none : {A : Type 0} (P : A → Type 0) (l : List A) → l ≡ [] → Each P l
each_none P l e = rw e tt

-- no arity passes its limit
abbrev pub Small : List ℕ → Type 0
Small arities = Each (λ a. a ≤ arity_limit) arities

abbrev WellAndSmall : Rules → Type 0
WellAndSmall R = WellFormed R × Small R.functions × Small R.predicates

module _ (functions predicates : List ℕ) where
  -- it holds of the rules with these functions and predicates, whatever else they say
  abbrev Over : (Rules → Type 0) → Type 0
  Over P = (cs : List Clause) (n : ℕ) (gs : List Goal) → P (record { functions = functions; predicates = predicates; clauses = cs; variables = n; query = gs })

  abbrev GoalsWell : ℕ → List Goal → Type 0
  GoalsWell declared gs = Over λ R. Each (WellCall R declared) (calls gs)

  abbrev ClausesWell : List Clause → Type 0
  ClausesWell cs = Over λ R. Each (WellClause R) cs

module _ (file functions predicates : List ℕ) where
  -- the arguments read for a predicate of the file make a call
  arguments_well : (declared q seen at : ℕ) → q < length predicates
      → Gives (λ ts. Over functions predicates λ R. WellCall R declared (record { predicate = q; arguments = ts })) (arguments file functions declared (get_or predicates q 0) seen at)
  unfolding arguments
  arguments_well declared q seen at h =
      gives_map (λ ts ws. λ cs n gs. record { arity = index_known predicates q h ∙ ap some (sym ws.0); terms = ws.1 })
      (terms_well functions _ _ (term_well file functions declared level_limit) _ seen at)

  called_well : (declared p seen at : ℕ) → Gives (λ g. GoalsWell functions predicates declared (g ∷ [])) (called file functions predicates declared p seen at)
  unfolding called ◌>>◌ ◌>>=◌ give
  called_well declared p seen at =
      after_gives (need_gives _ 6 p seen at) λ u seen₁ at₁ e.
      after_gives (arguments_well declared _ seen₁ at₁ (ltb-true _ _ e)) λ ts seen₂ at₂ w.
      this λ cs n gs. (w cs n gs, tt)

  goal_well : (declared seen at : ℕ) → Gives (λ g. GoalsWell functions predicates declared (g ∷ [])) (goal file functions predicates declared seen at)
  unfolding goal ◌>>=◌ give
  goal_well declared seen at =
      after_gives (next_gives file goal_due seen at) λ p seen₁ at₁ e.
      if_by (λ (r : Reader Goal). Gives (λ g. GoalsWell functions predicates declared (g ∷ [])) (r seen₁ at₁)) _
      (λ v. this λ cs n gs. tt) λ v. called_well declared p seen₁ at₁

  goals_well : (declared n seen at : ℕ) → Gives (GoalsWell functions predicates declared) (goals (goal file functions predicates declared) n seen at)
  unfolding goals ◌>>=◌ give
  goals_well declared zero seen at = this λ cs n gs. tt
  goals_well declared (suc n) seen at =
      after_gives (goal_well declared seen at) λ g seen₁ at₁ w.
      after_gives (goals_well declared n seen₁ at₁) λ gs seen₂ at₂ ws.
      this λ cs m hs. calls_both _ g gs (w cs m hs) (ws cs m hs)

  clause_well : (p seen at : ℕ) → Gives (λ c. Over functions predicates λ R. WellClause R c) (clause file todays_limits functions predicates p seen at)
  unfolding clause ◌>>◌ ◌>>=◌ give
  clause_well p seen at =
      after_gives (need_gives _ 6 p seen at) λ u seen₁ at₁ e.
      after_gives (gives_any _) λ u seen₂ at₂ t.
      after_gives (arguments_well _ _ seen₂ at₂ (ltb-true _ _ (and_left _ _ (and_left _ _ e)))) λ ts seen₃ at₃ w.
      after_gives (goals_well _ _ seen₃ at₃) λ gs seen₄ at₄ ws.
      after_gives (gives_any _) λ u seen₅ at₅ t.
      this λ cs n hs. record { head = w cs n hs; body = ws cs n hs }

  query_well : (clauses : List Clause) → Small functions → Small predicates → ClausesWell functions predicates clauses → (p seen at : ℕ) → Gives WellAndSmall (query file todays_limits functions predicates clauses p seen at)
  unfolding query ◌>>◌ ◌>>=◌ give
  query_well clauses fs ps cs p seen at =
      after_gives (gives_any _) λ u seen₁ at₁ t.
      after_gives (gives_any _) λ u seen₂ at₂ t.
      after_gives (goals_well _ _ seen₂ at₂) λ gs seen₃ at₃ ws.
      after_gives (gives_any _) λ u seen₄ at₄ t.
      this (record { clauses = cs _ _ _; query = ws _ _ _ }, fs, ps)

-- ---- the whole file
-- the items so far: small arities, no clause where functions and predicates may still come, and the clauses are well_formed
record SoFar (latest : ℕ) (functions predicates : List ℕ) (clauses : List Clause) : Type 0 where
  functions_small : Small functions
  predicates_small : Small predicates
  none : latest < a_clause → clauses ≡ []
  well : ClausesWell functions predicates clauses

-- a function or a predicate more; a clause more
so_far_early : {latest : ℕ} {fs ps : List ℕ} {clauses : List Clause} (kind k : ℕ) {fs' ps' : List ℕ} → SoFar latest fs ps clauses
    → Small fs' → Small ps' → item_due latest kind ≡ true → eqb kind k ≡ true → k < a_clause → SoFar k fs' ps' clauses
so_far_early {clauses} kind k so f p due e h =
    let order = item_order _ kind k due (eqb-true kind k e) (omega arith) in
    let empty : clauses ≡ [] = so.none (omega arith) in
    record { functions_small = f; predicates_small = p; none = λ l. empty; well = λ cs n gs. each_none _ clauses empty }

so_far_clause : {latest : ℕ} {fs ps : List ℕ} {clauses : List Clause} (c : Clause) → SoFar latest fs ps clauses
    → Over fs ps (λ R. WellClause R c) → SoFar a_clause fs ps (clauses ++ c ∷ [])
so_far_clause {clauses} c so w = record { functions_small = so.functions_small; predicates_small = so.predicates_small; none = λ h. absurd (omega arith); well = λ cs n gs. each_last _ clauses c (so.well cs n gs) (w cs n gs) }

module _ (file : List ℕ) where
  items_well : (more latest : ℕ) (functions predicates : List ℕ) (clauses : List Clause) → SoFar latest functions predicates clauses
      → (seen at : ℕ) → Gives WellAndSmall (items file todays_limits more latest functions predicates clauses seen at)
  unfolding items ◌>>◌ ◌>>=◌ give
  items_well zero latest functions predicates clauses so seen at = nothing
  items_well (suc more) latest functions predicates clauses so seen at =
      after_gives (next_gives file (item_due latest) seen at) λ p seen₁ at₁ due.
      let Q : Reader Rules → Type 0 = λ r. Gives WellAndSmall (r seen₁ at₁) in
      if_by Q _ (λ k. after_gives (need_gives _ 6 p seen₁ at₁) λ u seen₂ at₂ t.
      items_well more _ _ _ _ (so_far_early _ _ so (each_last _ functions (byte file (p + 1)) so.functions_small (leb-true (byte file (p + 1)) arity_limit (and_right (ltb (length functions) function_limit) _ t))) so.predicates_small due k (omega arith)) seen₂ at₂) λ k₁.
      if_by Q _ (λ k. after_gives (need_gives _ 6 p seen₁ at₁) λ u seen₂ at₂ t.
      items_well more _ _ _ _ (so_far_early _ _ so so.functions_small (each_last _ predicates (byte file (p + 1)) so.predicates_small (leb-true (byte file (p + 1)) arity_limit (and_right (ltb (length predicates) predicate_limit) _ t))) due k (omega arith)) seen₂ at₂) λ k₂.
      if_by Q _ (λ k. after_gives (gives_any _) λ u seen₂ at₂ t.
      after_gives (clause_well file _ _ p seen₂ at₂) λ c seen₃ at₃ w.
      items_well more _ _ _ _ (so_far_clause c so w) seen₃ at₃) λ k₃.
      after_gives (query_well file _ _ clauses so.functions_small so.predicates_small so.well p seen₁ at₁) λ R seen₂ at₂ w.
      after_gives (gives_any _) λ q seen₃ at₃ t.
      after_gives (gives_any _) λ u seen₄ at₄ t.
      this w

  parse_well : Gives WellAndSmall (parse file)
  unfolding parse_within
  parse_well = items_well (length file) a_function [] [] [] (record { functions_small = tt; predicates_small = tt; none = λ h. refl; well = λ cs n gs. tt }) 0 0

pub good_files_are_well_formed : GoodFilesAreWellFormed
good_files_are_well_formed file R says = (gives_read (subst (Gives WellAndSmall) says.2 (parse_well file))).0

-- no function and no predicate of a good file has more arguments than the limit says
pub good_files_have_small_arities : (file : List ℕ) (R : Rules) → Says file R → Small R.functions × Small R.predicates
good_files_have_small_arities file R says = let w = gives_read (subst (Gives WellAndSmall) says.2 (parse_well file)) in (w.1, w.2)
