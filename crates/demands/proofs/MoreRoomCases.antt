-- Cases of 2026-14, by computation: each of cells, steps, work, budget, wanted count and room, alone and raised by one, gives an answer more; a
-- call that came to 20 comes to the same with more of everything; and limits may be raised past their range, or past the scratch.
-- Assumes nothing.
use Rattle.std.specs.Prelude.{ℕ, ◌≡◌, refl, List, [], ◌∷◌, ◌++◌, map}
use Rattle.std.proofs.Common.{arith}
use Rattle.meaning.specs.Editions.{todays}
use Rattle.meaning.specs.Call.{Result, refusal, end}
use Rattle.meaning.specs.Embedded.{embedded}
use Rattle.demands.specs.Computes.{computes}
use Rattle.demands.specs.MoreRoom.{Given, called, Raised}

-- f of eight times the same
abbrev of_eight : List ℕ → List ℕ
of_eight t = 0x05 ∷ 0x00 ∷ 0x01 ∷ t ++ t ++ t ++ t ++ t ++ t ++ t ++ t

-- p(V, one). p(f(V, .., V), X) if cut, q(X). q(two). Query p(f(one, .., one), X)
abbrev pub file : List ℕ
file =
    (0x01 ∷ 0x00 ∷ 0x01 ∷ 0x08 ∷ 0x01 ∷ 0x00 ∷ 0x02 ∷ 0x02 ∷ 0x02 ∷ 0x01 ∷ [])
    ++ (0x03 ∷ 0x00 ∷ 0x00 ∷ 0x01 ∷ 0x00 ∷ 0x04 ∷ 0x00 ∷ 0x05 ∷ 0x00 ∷ 0x00 ∷ [])
    ++ (0x03 ∷ 0x00 ∷ 0x00 ∷ 0x02 ∷ 0x02 ∷ of_eight (0x04 ∷ 0x00 ∷ []) ++ 0x04 ∷ 0x01 ∷ 0x07 ∷ 0x06 ∷ 0x00 ∷ 0x01 ∷ 0x04 ∷ 0x01 ∷ [])
    ++ (0x03 ∷ 0x00 ∷ 0x01 ∷ 0x00 ∷ 0x00 ∷ 0x05 ∷ 0x00 ∷ 0x02 ∷ [])
    ++ (0x08 ∷ 0x01 ∷ 0x01 ∷ 0x06 ∷ 0x00 ∷ 0x00 ∷ of_eight (0x05 ∷ 0x00 ∷ 0x00 ∷ []) ++ 0x04 ∷ 0x00 ∷ 0x09 ∷ [])

-- X is one, by clause 0; and then two, by clauses 1 and 2
abbrev first : List ℕ
first = 0x0A ∷ 0x00 ∷ 0x00 ∷ 0x00 ∷ 0x01 ∷ 0x05 ∷ 0x00 ∷ 0x00 ∷ 0x0C ∷ 0x00 ∷ 0x00 ∷ 0x0D ∷ []

abbrev both : List ℕ
both = first ++ 0x0A ∷ 0x00 ∷ 0x00 ∷ 0x00 ∷ 0x02 ∷ 0x05 ∷ 0x00 ∷ 0x02 ∷ 0x0C ∷ 0x00 ∷ 0x01 ∷ 0x0C ∷ 0x00 ∷ 0x02 ∷ 0x0D ∷ []

abbrev given : ℕ → ℕ → ℕ → ℕ → ℕ → ℕ → Given
given cells steps work budget wanted room =
    record { limits = record { cells = cells; steps = steps; work = work }; budget = budget; wanted = wanted; scratch = 1_000; room = room }

-- what a call comes to, and one that is given no less
pub record Case : Type 0 where
  pub less : Given
  pub more : Given
  pub raised : Raised less more
  pub before : Result
  pub after : Result

-- cells, steps, work, budget, wanted count and room are one less than what both answers take, each alone; nothing is; limits out of range, and
-- more than the scratch is enough for
abbrev pub cases : List Case
cases =
    record { less = given 2 2 9 17 2 27; more = given 3 2 9 17 2 27; raised = omega arith; before = end 23 1 4 first; after = end 21 2 17 both }
    ∷ record { less = given 3 1 9 17 2 27; more = given 3 2 9 17 2 27; raised = omega arith; before = end 24 1 16 first; after = end 21 2 17 both }
    ∷ record { less = given 3 2 8 17 2 27; more = given 3 2 9 17 2 27; raised = omega arith; before = end 25 1 5 first; after = end 21 2 17 both }
    ∷ record { less = given 3 2 9 16 2 27; more = given 3 2 9 17 2 27; raised = omega arith; before = end 22 1 16 first; after = end 21 2 17 both }
    ∷ record { less = given 3 2 9 17 1 27; more = given 3 2 9 17 2 27; raised = omega arith; before = end 21 1 3 first; after = end 21 2 17 both }
    ∷ record { less = given 3 2 9 17 2 26; more = given 3 2 9 17 2 27; raised = omega arith; before = end 26 1 17 first; after = end 21 2 17 both }
    ∷ record { less = given 3 2 9 17 3 27; more = given 30 20 90 170 30 270; raised = omega arith; before = end 20 2 17 both; after = end 20 2 17 both }
    ∷ record { less = given 3 2 9 17 3 27; more = given 60_001 2 9 17 3 27; raised = omega arith; before = end 20 2 17 both; after = refusal 1 0 }
    ∷ record { less = given 3 2 9 17 3 27; more = given 300 2 9 17 3 27; raised = omega arith; before = end 20 2 17 both; after = refusal 3 0 }
    ∷ []

pub before_cases : map (λ c. called todays file c.less) cases ≡ map (λ c. c.before) cases
unfolding computes
before_cases = refl

pub after_cases : map (λ c. called todays file c.more) cases ≡ map (λ c. c.after) cases
unfolding computes
after_cases = refl

-- the embedded form: budget, wanted count and room are one less, each alone; none is; and more of each
pub embedded_cases :
    embedded file 16 2 27 ∷ embedded file 17 1 27 ∷ embedded file 17 2 26 ∷ embedded file 17 2 27 ∷ embedded file 17 3 27 ∷ embedded file 170 30 270 ∷ []
    ≡ end 22 1 16 first ∷ end 21 1 3 first ∷ end 26 1 17 first ∷ end 21 2 17 both ∷ end 20 2 17 both ∷ end 20 2 17 both ∷ []
unfolding computes
embedded_cases = refl
