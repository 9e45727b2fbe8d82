-- 2026-14, more room, same answers: where a call is given no less of anything, and is not refused, it writes what it wrote and goes on from
-- there. A reader needs document 01's definitions, for the last two statements `Stops.ReachedFrom` and `Stops.spent`, and no proof: that each
-- statement holds is in `MoreRoomLaws`.
--
-- It speaks of `Call.result_by` and `Embedded.embedded_by`, with cut or without, for every edition: so of `Call.result` and `Embedded.embedded`,
-- which are today's. A request that changes these changes what is stated here, and the theorems have to hold anew.
-- Assumes nothing.
use Rattle.std.specs.Prelude.{ℕ, ◌≤◌, ◌≡◌, ◌⊎◌, List, ◌++◌}
use Rattle.meaning.specs.Editions.{Edition}
use Rattle.meaning.specs.Rules.{Rules}
use Rattle.meaning.specs.Moves.{Limits, State, ended, due, start_keeping}
use Rattle.meaning.specs.Call.{Result, refusal, end, result_by}
use Rattle.meaning.specs.Embedded.{embedded_by}
use Rattle.demands.specs.Stops.{spent, ReachedFrom}

-- what a call is given besides its file
pub record Given : Type 0 where
  pub limits : Limits
  pub budget : ℕ
  pub wanted : ℕ
  pub scratch : ℕ
  pub room : ℕ

abbrev pub called : Edition → List ℕ → Given → Result
called E file a = result_by E file a.limits a.budget a.wanted a.scratch a.room

-- "raise any of cells, steps, work, budget, wanted count or output room": none is lowered; scratch may be of any length
pub record Raised (a b : Given) : Type 0 where
  pub cells : a.limits.cells ≤ b.limits.cells
  pub steps : a.limits.steps ≤ b.limits.steps
  pub work : a.limits.work ≤ b.limits.work
  pub budget : a.budget ≤ b.budget
  pub wanted : a.wanted ≤ b.wanted
  pub room : a.room ≤ b.room

-- xs is the beginning of ys
abbrev pub BeginningOf : {A : Type 0} → List A → List A → Type 0
BeginningOf {A} xs ys = (zs : List A) × (ys ≡ xs ++ zs)

-- "the earlier output is the beginning of the new one. A run that ended with 20 gives exactly the same result": an end with its answers, units
-- and bytes, and the same of a call that is given no less; it has no fewer answers and units either
pub record Continued (e answers units : ℕ) (bytes : List ℕ) (e' answers' units' : ℕ) (bytes' : List ℕ) : Type 0 where
  pub beginning : BeginningOf bytes bytes'
  pub more_answers : answers ≤ answers'
  pub more_units : units ≤ units'
  pub no_more : e ≡ 20 → end e answers units bytes ≡ end e' answers' units' bytes'

-- "where neither run is refused"
abbrev pub MoreRoom : Type 0
MoreRoom = (E : Edition) (file : List ℕ) (a b : Given) → Raised a b
    → (e answers units : ℕ) (bytes : List ℕ) → called E file a ≡ end e answers units bytes
    → (e' answers' units' : ℕ) (bytes' : List ℕ) → called E file b ≡ end e' answers' units' bytes'
    → Continued e answers units bytes e' answers' units' bytes'

-- Where a call is not refused, another with the same file is refused for its limits or its scratch alone
abbrev pub RefusedFor : Type 0
RefusedFor = (E : Edition) (file : List ℕ) (a b : Given) (e answers units : ℕ) (bytes : List ℕ) → called E file a ≡ end e answers units bytes
    → (n p : ℕ) → called E file b ≡ refusal n p → (n ≡ 1) ⊎ (n ≡ 3)

-- The embedded form, whose limits and scratch are its own: over budget, wanted count and room
abbrev pub MoreRoomEmbedded : Type 0
MoreRoomEmbedded = (E : Edition) (file : List ℕ) (budget budget' wanted wanted' room room' : ℕ) → budget ≤ budget' → wanted ≤ wanted' → room ≤ room'
    → (e answers units : ℕ) (bytes : List ℕ) → embedded_by E file budget wanted room ≡ end e answers units bytes
    → (e' answers' units' : ℕ) (bytes' : List ℕ) → embedded_by E file budget' wanted' room' ≡ end e' answers' units' bytes'
    → Continued e answers units bytes e' answers' units' bytes'

-- A file is refused by it with all of them or with none
abbrev pub RefusedAlike : Type 0
RefusedAlike = (E : Edition) (file : List ℕ) (budget budget' wanted wanted' room room' n p : ℕ)
    → embedded_by E file budget wanted room ≡ refusal n p → embedded_by E file budget' wanted' room' ≡ refusal n p

-- Move by move: a state of the run of these rules, and one that is not stopped by what the call was given
abbrev pub Reaches : Edition → Rules → Given → State → Type 0
Reaches E R a = ReachedFrom R a.limits a.wanted a.room (start_keeping R a.limits a.wanted a.room E.query_keeps) a.budget

abbrev pub Goes : State → Type 0
Goes (ended e d) = e ≡ 20
Goes (due m d) = Unit {0}

-- Each such state of the first run, a move that is due or no more, with the answers listed and the units spent, is one of the second
abbrev pub MoveByMove : Type 0
MoveByMove = (E : Edition) (R : Rules) (a b : Given) → Raised a b → (s : State) → Goes s → Reaches E R a s → Reaches E R b s

-- and so, where as many units are spent, the second run's state is the first's
abbrev pub SameStates : Type 0
SameStates = (E : Edition) (R : Rules) (a b : Given) → Raised a b → (s t : State) → Goes s → Reaches E R a s → Reaches E R b t → spent t ≡ spent s → t ≡ s
