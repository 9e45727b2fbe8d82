-- Cases of 2026-01, by computation: a query and a clause of 33 variables were refused and are read; a second clause is one too many where
-- one is allowed, and not where two are; case A is read alike.
-- Assumes nothing.
use Rattle.std.specs.Prelude.{ℕ, ◌+◌, ◌≡◌, refl, List, [], ◌∷◌, ◌++◌, map}
use Rattle.meaning.specs.Terms.{[]ₜ}
use Rattle.meaning.specs.Kinds.{RuleLimits, earlier_limits, todays_limits}
use Rattle.meaning.specs.Editions.{todays, within}
use Rattle.meaning.specs.Call.{Result, refusal, end, result_by}
use Rattle.meaning.specs.Reading.{parse_within, parse}
use Rattle.demands.specs.Computes.{computes}
use Rattle.demands.specs.Cases.{append}
use Rattle.demands.specs.Larger.{TooLarge, by_clauses}

-- eight variables from one on, and one of them eight times
abbrev from : ℕ → List ℕ
from x = 0x04 ∷ x ∷ 0x04 ∷ (x + 1) ∷ 0x04 ∷ (x + 2) ∷ 0x04 ∷ (x + 3) ∷ 0x04 ∷ (x + 4) ∷ 0x04 ∷ (x + 5) ∷ 0x04 ∷ (x + 6) ∷ 0x04 ∷ (x + 7) ∷ []

abbrev only : ℕ → List ℕ
only x = 0x04 ∷ x ∷ 0x04 ∷ x ∷ 0x04 ∷ x ∷ 0x04 ∷ x ∷ 0x04 ∷ x ∷ 0x04 ∷ x ∷ 0x04 ∷ x ∷ 0x04 ∷ x ∷ []

abbrev a_goal_of : List ℕ → List ℕ
a_goal_of arguments = 0x06 ∷ 0x00 ∷ 0x00 ∷ arguments

-- a predicate without clauses is asked for with 33 variables
abbrev pub asked_with_33 : List ℕ
asked_with_33 = 0x02 ∷ 8 ∷ 0x08 ∷ 33 ∷ 5 ∷ a_goal_of (from 0) ++ a_goal_of (from 8) ++ a_goal_of (from 16) ++ a_goal_of (from 24) ++ a_goal_of (only 32) ++ 0x09 ∷ []

-- a clause of 33 variables; nothing is asked
abbrev pub clause_with_33 : List ℕ
clause_with_33 = 0x02 ∷ 8 ∷ 0x03 ∷ 0x00 ∷ 0x00 ∷ 33 ∷ 4 ∷ from 0 ++ a_goal_of (from 8) ++ a_goal_of (from 16) ++ a_goal_of (from 24) ++ a_goal_of (only 32) ++ 0x08 ∷ 0 ∷ 0 ∷ 0x09 ∷ []

-- two clauses; nothing is asked
abbrev pub two_clauses : List ℕ
two_clauses = 0x02 ∷ 0 ∷ 0x03 ∷ 0x00 ∷ 0x00 ∷ 0 ∷ 0 ∷ 0x03 ∷ 0x00 ∷ 0x00 ∷ 0 ∷ 0 ∷ 0x08 ∷ 0 ∷ 0 ∷ 0x09 ∷ []

abbrev pub so_many : ℕ → RuleLimits
so_many n = record { clauses = n; variables = 32 }

pub record Case : Type 0 where
  pub most : RuleLimits
  pub file : List ℕ
  pub gives : Result

abbrev given : Case → Result
given c = result_by (within c.most todays) c.file (record { cells = 1_000; steps = 1_000; work = 1_000 }) 1_000 1_000 100_000 1_000

-- one answer, of nothing
abbrev one_answer : Result
one_answer = end 20 1 0 (0x0A ∷ 0x00 ∷ 0x00 ∷ 0x00 ∷ 0x00 ∷ 0x0D ∷ [])

abbrev pub cases : List Case
cases =
    record { most = earlier_limits; file = asked_with_33; gives = refusal 6 2 }
    ∷ record { most = todays_limits; file = asked_with_33; gives = end 20 0 0 [] }
    ∷ record { most = earlier_limits; file = clause_with_33; gives = refusal 6 2 }
    ∷ record { most = todays_limits; file = clause_with_33; gives = one_answer }
    ∷ record { most = so_many 1; file = two_clauses; gives = refusal 6 7 }
    ∷ record { most = so_many 2; file = two_clauses; gives = one_answer }
    ∷ []

pub all_cases : map given cases ≡ map (λ c. c.gives) cases
unfolding computes
all_cases = refl

-- the second clause is one too many where one is allowed
pub second_too_many : TooLarge (so_many 1) two_clauses 7
unfolding computes
second_too_many =
    by_clauses (record { functions = []; predicates = 0 ∷ []; clauses = record { variables = 0; head = record { predicate = 0; arguments = []ₜ }; body = [] } ∷ []; variables = 0; query = [] }) (0, 11, refl) refl refl

-- case A
pub append_before : parse_within append earlier_limits ≡ parse append
unfolding computes
append_before = refl
