-- Cases of 2026-02, by computation: what each comes to today, and what it came to by document 01.
-- Assumes nothing.
use Rattle.std.specs.Prelude.{ℕ, ◌≡◌, refl, List, [], ◌∷◌, ◌++◌, map}
use Rattle.meaning.specs.Editions.{Edition, document_01, todays}
use Rattle.meaning.specs.Call.{Result, end, result_by}
use Rattle.demands.specs.Computes.{computes}

-- the rules of case E without their cut: a(X) if b(X); a(two); b(one); b(two)
abbrev pub rules : List ℕ
rules =
    0x01 ∷ 0x00 ∷ 0x01 ∷ 0x00 ∷ 0x02 ∷ 0x01 ∷ 0x02 ∷ 0x01 ∷ 0x03 ∷ 0x00 ∷ 0x00 ∷ 0x01 ∷ 0x01 ∷ 0x04 ∷ 0x00 ∷ 0x06 ∷ 0x00 ∷ 0x01 ∷ 0x04 ∷ 0x00 ∷ 0x03 ∷ 0x00 ∷ 0x00 ∷ 0x00 ∷ 0x00 ∷ 0x05 ∷ 0x00 ∷ 0x01 ∷ 0x03 ∷ 0x00 ∷ 0x01 ∷ 0x00 ∷ 0x00 ∷ 0x05 ∷ 0x00 ∷ 0x00 ∷ 0x03 ∷ 0x00 ∷ 0x01 ∷ 0x00 ∷ 0x00 ∷ 0x05 ∷ 0x00 ∷ 0x01 ∷ []

-- b(one); b(two); c(two)
abbrev pub facts : List ℕ
facts =
    0x01 ∷ 0x00 ∷ 0x01 ∷ 0x00 ∷ 0x02 ∷ 0x01 ∷ 0x02 ∷ 0x01 ∷ 0x03 ∷ 0x00 ∷ 0x00 ∷ 0x00 ∷ 0x00 ∷ 0x05 ∷ 0x00 ∷ 0x00 ∷ 0x03 ∷ 0x00 ∷ 0x00 ∷ 0x00 ∷ 0x00 ∷ 0x05 ∷ 0x00 ∷ 0x01 ∷ 0x03 ∷ 0x00 ∷ 0x01 ∷ 0x00 ∷ 0x00 ∷ 0x05 ∷ 0x00 ∷ 0x01 ∷ []

-- a goal of predicate p, with the variable x; a cut; a query of so many variables and goals
abbrev asks : ℕ → ℕ → List ℕ
asks p x = 0x06 ∷ 0x00 ∷ p ∷ 0x04 ∷ x ∷ []

abbrev cuts : List ℕ
cuts = 0x07 ∷ []

abbrev query : ℕ → ℕ → List ℕ → List ℕ
query variables goals what = 0x08 ∷ variables ∷ goals ∷ what ++ 0x09 ∷ []

-- an answer of one value, of two, by one step or two
abbrev one_by_1 : ℕ → ℕ → List ℕ
one_by_1 f k = 0x0A ∷ 0x00 ∷ 0x00 ∷ 0x00 ∷ 0x01 ∷ 0x05 ∷ 0x00 ∷ f ∷ 0x0C ∷ 0x00 ∷ k ∷ 0x0D ∷ []

abbrev one_by_2 : ℕ → ℕ → ℕ → List ℕ
one_by_2 f j k = 0x0A ∷ 0x00 ∷ 0x00 ∷ 0x00 ∷ 0x02 ∷ 0x05 ∷ 0x00 ∷ f ∷ 0x0C ∷ 0x00 ∷ j ∷ 0x0C ∷ 0x00 ∷ k ∷ 0x0D ∷ []

abbrev two_by_2 : ℕ → ℕ → ℕ → ℕ → List ℕ
two_by_2 f g j k = 0x0A ∷ 0x00 ∷ 0x00 ∷ 0x00 ∷ 0x02 ∷ 0x05 ∷ 0x00 ∷ f ∷ 0x05 ∷ 0x00 ∷ g ∷ 0x0C ∷ 0x00 ∷ j ∷ 0x0C ∷ 0x00 ∷ k ∷ 0x0D ∷ []

-- the answers of a(X), in order
abbrev first_a : List ℕ
first_a = one_by_2 0 0 2

abbrev all_a : List ℕ
all_a = one_by_2 0 0 2 ++ one_by_2 1 0 3 ++ one_by_1 1 1

pub record Case : Type 0 where
  pub file : List ℕ
  pub budget : ℕ
  pub today : Result
  pub before : Result

abbrev given : Edition → Case → Result
given E c = result_by E c.file (record { cells = 1_000; steps = 400; work = 200 }) c.budget 1_000 100_000 1_000

-- a(X) followed by a cut, the request's case: "one answer, steps 0 2, 5 units, end 20"; with a unit less; a cut first; two cuts; a cut between
-- goals, of which the one behind it leaves choices again; a goal behind it that fails; and a query without cut
abbrev pub cases : List Case
cases =
    record { file = rules ++ query 1 2 (asks 0 0 ++ cuts); budget = 1_000; today = end 20 1 5 first_a; before = end 20 3 11 all_a }
    ∷ record { file = rules ++ query 1 2 (asks 0 0 ++ cuts); budget = 5; today = end 20 1 5 first_a; before = end 22 1 5 first_a }
    ∷ record { file = rules ++ query 1 2 (asks 0 0 ++ cuts); budget = 4; today = end 22 0 4 []; before = end 22 0 4 [] }
    ∷ record { file = rules ++ query 1 2 (cuts ++ asks 0 0); budget = 1_000; today = end 20 3 9 all_a; before = end 20 3 9 all_a }
    ∷ record { file = rules ++ query 1 3 (asks 0 0 ++ cuts ++ cuts); budget = 1_000; today = end 20 1 6 first_a; before = end 20 3 14 all_a }
    ∷ record { file = rules ++ query 2 3 (asks 1 0 ++ cuts ++ asks 1 1); budget = 1_000; today = end 20 2 7 (two_by_2 0 0 2 2 ++ two_by_2 0 1 2 3); before = end 20 4 14 (two_by_2 0 0 2 2 ++ two_by_2 0 1 2 3 ++ two_by_2 1 0 3 2 ++ two_by_2 1 1 3 3) }
    ∷ record { file = facts ++ query 1 3 (asks 0 0 ++ cuts ++ asks 1 0); budget = 1_000; today = end 20 0 5 []; before = end 20 1 10 (one_by_2 1 1 2) }
    ∷ record { file = rules ++ query 1 1 (asks 0 0); budget = 1_000; today = end 20 3 8 all_a; before = end 20 3 8 all_a }
    ∷ []

pub todays_cases : map (given todays) cases ≡ map (λ c. c.today) cases
unfolding computes
todays_cases = refl

pub earlier_cases : map (given document_01) cases ≡ map (λ c. c.before) cases
unfolding computes
earlier_cases = refl
