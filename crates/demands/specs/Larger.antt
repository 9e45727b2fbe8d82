-- 2026-01, larger rule sets: what a file that was read by the earlier limits comes to by today's, all other rules being those of any one
-- edition. A reader needs document 01's definitions, and no proof: that each statement holds is in `LargerLaws`.
-- Assumes nothing.
use Rattle.std.specs.Prelude.{ℕ, ◌+◌, ◌≤◌, ◌<◌, ◌≡◌, List, [], ◌∷◌, ◌++◌, length, take}
use Rattle.meaning.specs.Kinds.{a_clause, a_query, the_end, RuleLimits, earlier_limits, todays_limits}
use Rattle.meaning.specs.Editions.{Edition, within}
use Rattle.meaning.specs.Rules.{Rules}
use Rattle.meaning.specs.Reading.{refused, byte, parse_within, parse}
use Rattle.meaning.specs.Moves.{Limits}
use Rattle.meaning.specs.Call.{Result, refusal, result_by}
use Rattle.meaning.specs.Embedded.{embedded_by}
use Rattle.demands.specs.Demands.{SaysWithin, Says, LeavesBy}

-- "No answer to a file accepted before may change": it is accepted, and says the same rules
abbrev pub AcceptedBefore : Type 0
AcceptedBefore = (file : List ℕ) (R : Rules) → SaysWithin earlier_limits file R → Says file R

-- so every call with it leaves the same result, scratch and output, and the embedded form has the same result
abbrev pub SameCalls : Type 0
SameCalls = (E : Edition) (file : List ℕ) (R : Rules) → SaysWithin earlier_limits file R → (L : Limits) (budget wanted : ℕ) (scratch out : List ℕ) (r : Result) (scratch_then out_then : List ℕ)
    → LeavesBy (within earlier_limits E) file L budget wanted scratch out r scratch_then out_then → LeavesBy (within todays_limits E) file L budget wanted scratch out r scratch_then out_then

abbrev pub SameEmbedded : Type 0
SameEmbedded = (E : Edition) (file : List ℕ) (R : Rules) → SaysWithin earlier_limits file R → (budget wanted room : ℕ)
    → embedded_by (within todays_limits E) file budget wanted room ≡ embedded_by (within earlier_limits E) file budget wanted room

-- the bytes before the place p, closed by a query of nothing and the end
abbrev pub closing : List ℕ
closing = a_query ∷ 0 ∷ 0 ∷ the_end ∷ []

abbrev pub closed : List ℕ → ℕ → List ℕ
closed file p = take p file ++ closing

-- The rule set is too large at p, by one of the two limits: the record there is a clause after as many as are allowed, or a clause or query with too many variables
pub data TooLarge (most : RuleLimits) (file : List ℕ) (p : ℕ) : Type 0 where
  by_clauses : (R : Rules) → SaysWithin most (closed file p) R → length R.clauses ≡ most.clauses → byte file p ≡ a_clause → TooLarge most file p
  by_variables : byte file p ≡ a_clause → most.variables < byte file (p + 3) → TooLarge most file p
  by_asked : byte file p ≡ a_query → most.variables < byte file (p + 1) → TooLarge most file p

-- A file that was refused with anything but one of these 6s is refused with the same number and place
abbrev pub RefusedBefore : Type 0
RefusedBefore = (file : List ℕ) (n p : ℕ) → parse_within file earlier_limits ≡ refused n p → ¬ ((n ≡ 6) × TooLarge earlier_limits file p) → parse file ≡ refused n p

-- and so is every call with it
abbrev pub SameRefusals : Type 0
SameRefusals = (E : Edition) (file : List ℕ) (L : Limits) (budget wanted scratch room n p : ℕ) → result_by (within earlier_limits E) file L budget wanted scratch room ≡ refusal n p
    → ¬ ((n ≡ 6) × TooLarge earlier_limits file p) → result_by (within todays_limits E) file L budget wanted scratch room ≡ refusal n p

-- A file that was refused with one of them is good, or is refused at the same place or a later one
abbrev pub RefusedLater : Type 0
RefusedLater = (file : List ℕ) (n p m q : ℕ) → parse_within file earlier_limits ≡ refused n p → parse file ≡ refused m q → p ≤ q
