-- A refusal of a file has a number of document 01's table, and its place is a place of the file, or the place after it; where reading starts
-- at a place, it is not before that.
-- Assumes nothing.
use Prim.Native.Nat.{ℕ, zero, suc, ◌≤◌}
use Rattle.std.specs.Prelude.{◌≡◌, Bool, List, [], length}
use Rattle.std.proofs.Common.{subst}
use Rattle.std.proofs.Math.Bool.{true, false}
use native.Mathlib.Omega.{arith}
use borrow.Author.Tests.{ltb-false}
use Rattle.meaning.specs.Terms.{Term}
use Rattle.meaning.specs.Kinds.{a_function, level_limit, RuleLimits, todays_limits}
use Rattle.meaning.specs.Rules.{Goal, Clause, Rules}
use Rattle.meaning.specs.Reading.{Read, refused, read, Reader, after, ◌>>=◌, ◌>>◌, give, refuse, need, none_seen, all_seen, terms, goals, term_due, goal_due, end_due, item_due}
use Rattle.meaning.specs.Reading.{next, variable, applied, term, arguments, called, goal, clause, query, no_more, items, parse_within, parse}
use Rattle.laws.specs.IfLaws.{if_by}

module _ (file : List ℕ) (start : ℕ) where
  -- a place from the start on
  abbrev pub Within : ℕ → Type 0
  Within p = (start ≤ p) × (p ≤ length file)

  -- a number from 4 to 9, and such a place
  pub record Fault (n p : ℕ) : Type 0 where
    pub least : 4 ≤ n
    pub most : n ≤ 9
    pub place : Within p

  -- it refuses so, or comes to such a place
  pub data Inside {A : Type 0} (P : A → Type 0) : Read A → Type 0 where
    faulty : {n p : ℕ} → Fault n p → Inside P (refused n p)
    faultless : {a : A} {seen at : ℕ} → P a → Within at → Inside P (read a seen at)

  fault : {p : ℕ} (n : ℕ) → Within p → 4 ≤ n → n ≤ 9 → Fault n p
  fault n h a b = record { least = a; most = b; place = h }

  abbrev pub Any : {A : Type 0} → A → Type 0
  Any a = Unit {0}

  -- a reader that starts inside stays inside
  abbrev pub Stays : {A : Type 0} → Reader A → Type 0
  Stays m = (seen at : ℕ) → Within at → Inside Any (m seen at)

  pub after_inside : {A B : Type 0} {P : A → Type 0} {r : Read A} {f : A → Reader B} → Inside P r → ((a : A) → P a → Stays (f a)) → Inside Any (after r f)
  unfolding after
  after_inside (faulty h) k = faulty h
  after_inside (faultless {a} {seen} {at} p h) k = k a p seen at h

  pub need_inside : (b : Bool) (n p : ℕ) → Fault n p → Stays (need b n p)
  unfolding need
  need_inside true n p h seen at l = faultless tt l
  need_inside false n p h seen at l = faulty h

  none_inside : Stays none_seen
  unfolding none_seen
  none_inside seen at l = faultless tt l

  all_inside : (declared p : ℕ) → Within p → Stays (all_seen declared p)
  unfolding all_seen
  all_inside declared p h seen at l = need_inside _ 7 p (fault 7 h (omega arith) (omega arith)) seen at l

  next_inside : (due : ℕ → Bool) (seen at : ℕ) → Within at → Inside Within (next file due seen at)
  unfolding next
  next_inside due seen at l =
      let Q : Read ℕ → Type 0 = Inside Within in
      if_by Q _ (λ e. faulty (fault 4 l (omega arith) (omega arith))) λ e. if_by Q _ (λ d. faulty (fault 5 l (omega arith) (omega arith))) λ d. if_by Q _ (λ s. faulty (fault 4 l (omega arith) (omega arith))) λ s. let a = l.0 in faultless l (omega arith, ltb-false _ _ s)

  terms_inside : (one : Reader Term) → Stays one → (n : ℕ) → Stays (terms one n)
  unfolding terms ◌>>=◌ give
  terms_inside one h zero seen at l = faultless tt l
  terms_inside one h (suc n) seen at l = after_inside (h seen at l) λ t u seen₁ at₁ l₁. after_inside (terms_inside one h n seen₁ at₁ l₁) λ ts v seen₂ at₂ l₂. faultless tt l₂

  goals_inside : (one : Reader Goal) → Stays one → (n : ℕ) → Stays (goals one n)
  unfolding goals ◌>>=◌ give
  goals_inside one h zero seen at l = faultless tt l
  goals_inside one h (suc n) seen at l = after_inside (h seen at l) λ t u seen₁ at₁ l₁. after_inside (goals_inside one h n seen₁ at₁ l₁) λ ts v seen₂ at₂ l₂. faultless tt l₂

  variable_inside : (declared p : ℕ) → Within p → Stays (variable file declared p)
  unfolding variable
  variable_inside declared p h seen at l =
      let Q : Read Term → Type 0 = Inside Any in
      if_by Q _ (λ e. faulty (fault 7 h (omega arith) (omega arith))) λ e. if_by Q _ (λ d. faulty (fault 7 h (omega arith) (omega arith))) λ d. if_by Q _ (λ s. faultless tt l) λ s. faultless tt l

  applied_inside : (functions : List ℕ) (argument : Reader Term) → Stays argument → (p : ℕ) → Within p → Stays (applied file functions argument p)
  unfolding applied ◌>>◌ ◌>>=◌ give
  applied_inside functions argument k p h seen at l =
      after_inside (need_inside _ 6 p (fault 6 h (omega arith) (omega arith)) seen at l) λ u v seen₁ at₁ l₁. after_inside (terms_inside argument k _ seen₁ at₁ l₁) λ ts w seen₂ at₂ l₂. faultless tt l₂

  term_inside : (functions : List ℕ) (declared levels : ℕ) → Stays (term file functions declared levels)
  unfolding term ◌>>=◌ refuse
  term_inside functions declared zero seen at l = after_inside (next_inside term_due seen at l) λ p h seen₁ at₁ l₁. faulty (fault 8 h (omega arith) (omega arith))
  term_inside functions declared (suc levels) seen at l =
      after_inside (next_inside term_due seen at l) λ p h seen₁ at₁ l₁.
      if_by (λ (r : Reader Term). Inside Any (r seen₁ at₁)) _ (λ e. variable_inside declared p h seen₁ at₁ l₁) λ e. applied_inside functions _ (term_inside functions declared levels) p h seen₁ at₁ l₁

  arguments_inside : (functions : List ℕ) (declared n : ℕ) → Stays (arguments file functions declared n)
  unfolding arguments
  arguments_inside functions declared n = terms_inside _ (term_inside functions declared level_limit) n

  module _ (most : RuleLimits) (functions predicates : List ℕ) where
    called_inside : (declared p : ℕ) → Within p → Stays (called file functions predicates declared p)
    unfolding called ◌>>◌ ◌>>=◌ give
    called_inside declared p h seen at l =
        after_inside (need_inside _ 6 p (fault 6 h (omega arith) (omega arith)) seen at l) λ u v seen₁ at₁ l₁. after_inside (arguments_inside functions declared _ seen₁ at₁ l₁) λ ts w seen₂ at₂ l₂. faultless tt l₂

    goal_inside : (declared : ℕ) → Stays (goal file functions predicates declared)
    unfolding goal ◌>>=◌ give
    goal_inside declared seen at l =
        after_inside (next_inside goal_due seen at l) λ p h seen₁ at₁ l₁.
        if_by (λ (r : Reader Goal). Inside Any (r seen₁ at₁)) _ (λ e. faultless tt l₁) λ e. called_inside declared p h seen₁ at₁ l₁

    pub clause_inside : (p : ℕ) → Within p → Stays (clause file most functions predicates p)
    unfolding clause ◌>>◌ ◌>>=◌ give
    clause_inside p h seen at l =
        after_inside (need_inside _ 6 p (fault 6 h (omega arith) (omega arith)) seen at l) λ u v seen₁ at₁ l₁.
        after_inside (none_inside seen₁ at₁ l₁) λ u v seen₁ at₁ l₁.
        after_inside (arguments_inside functions _ _ seen₁ at₁ l₁) λ ts w seen₂ at₂ l₂.
        after_inside (goals_inside _ (goal_inside _) _ seen₂ at₂ l₂) λ gs x seen₃ at₃ l₃.
        after_inside (all_inside _ p h seen₃ at₃ l₃) λ y z seen₄ at₄ l₄. faultless tt l₄

    pub query_inside : (clauses : List Clause) (p : ℕ) → Within p → Stays (query file most functions predicates clauses p)
    unfolding query ◌>>◌ ◌>>=◌ give
    query_inside clauses p h seen at l =
        after_inside (need_inside _ 6 p (fault 6 h (omega arith) (omega arith)) seen at l) λ u v seen₁ at₁ l₁.
        after_inside (none_inside seen₁ at₁ l₁) λ u v seen₁ at₁ l₁.
        after_inside (goals_inside _ (goal_inside _) _ seen₁ at₁ l₁) λ gs x seen₂ at₂ l₂.
        after_inside (all_inside _ p h seen₂ at₂ l₂) λ y z seen₃ at₃ l₃. faultless tt l₃

  -- the end, after the query
  pub close_inside : (R : Rules) → Stays (◌>>◌ (next file end_due) (◌>>◌ (no_more file) (give R)))
  unfolding ◌>>◌ give no_more
  close_inside R seen at l =
      after_inside (next_inside end_due seen at l) λ e v seen₁ at₁ l₁.
      after_inside (need_inside _ 9 at₁ (fault 9 l₁ (omega arith) (omega arith)) seen₁ at₁ l₁) λ w x seen₂ at₂ l₂. faultless tt l₂

  pub items_inside : (most : RuleLimits) (more latest : ℕ) (functions predicates : List ℕ) (clauses : List Clause) → Stays (items file most more latest functions predicates clauses)
  unfolding items ◌>>◌ ◌>>=◌
  items_inside most zero latest functions predicates clauses seen at l = faulty (fault 4 l (omega arith) (omega arith))
  items_inside most (suc more) latest functions predicates clauses seen at l =
      after_inside (next_inside (item_due latest) seen at l) λ p h seen₁ at₁ l₁.
      let Q : Reader Rules → Type 0 = λ r. Inside Any (r seen₁ at₁) in
      if_by Q _ (λ k. after_inside (need_inside _ 6 p (fault 6 h (omega arith) (omega arith)) seen₁ at₁ l₁) λ u v seen₂ at₂ l₂. items_inside most more _ _ _ _ seen₂ at₂ l₂) λ k₁.
      if_by Q _ (λ k. after_inside (need_inside _ 6 p (fault 6 h (omega arith) (omega arith)) seen₁ at₁ l₁) λ u v seen₂ at₂ l₂. items_inside most more _ _ _ _ seen₂ at₂ l₂) λ k₂.
      if_by Q _ (λ k. after_inside (need_inside _ 6 p (fault 6 h (omega arith) (omega arith)) seen₁ at₁ l₁) λ u v seen₂ at₂ l₂.
      after_inside (clause_inside most _ _ p h seen₂ at₂ l₂) λ c w seen₃ at₃ l₃. items_inside most more _ _ _ _ seen₃ at₃ l₃) λ k₃.
      after_inside (query_inside most _ _ clauses p h seen₁ at₁ l₁) λ R u seen₂ at₂ l₂. close_inside R seen₂ at₂ l₂

  pub fault_of : {n p : ℕ} → Inside {A = Rules} Any (refused n p) → Fault n p
  fault_of (faulty h) = h

-- the whole file
parse_inside : (file : List ℕ) → Inside file 0 (Any file 0) (parse file)
unfolding parse_within
parse_inside file = items_inside file 0 todays_limits (length file) a_function [] [] [] 0 0 (omega arith, omega arith)

pub refused_inside : (file : List ℕ) (n p : ℕ) → parse file ≡ refused n p → Fault file 0 n p
refused_inside file n p e = fault_of file 0 (subst (Inside file 0 (Any file 0)) e (parse_inside file))
