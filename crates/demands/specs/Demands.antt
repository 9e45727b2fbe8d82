-- What the machine's definition promises, each demand a type of its own. A reader needs `Proofs` and document 01's definitions, and no
-- proof: that each holds is in `Theorems`.
-- Assumes nothing.
use Rattle.std.specs.Prelude.{ℕ, ◌≡◌, ◌↔◌, List, [], ◌∷◌, length}
use Rattle.meaning.specs.Terms.{Term}
use Rattle.meaning.specs.Rules.{Rules}
use Rattle.meaning.specs.Kinds.{RuleLimits, todays_limits}
use Rattle.meaning.specs.Editions.{Edition, todays}
use Rattle.meaning.specs.Reading.{read, parse_within}
use Rattle.meaning.specs.Answers.{Answer, output}
use Rattle.meaning.specs.Moves.{Limits}
use Rattle.meaning.specs.Call.{Result, end, result_by, result, needed, output_after, scratch_after}
use Rattle.demands.specs.Proofs.{Each, Some, Values, Allows, IsProof, Matches, Before, WellFormed, Uncut}

-- the file is good by these limits of a rule set, and says these rules
abbrev pub SaysWithin : RuleLimits → List ℕ → Rules → Type 0
SaysWithin most file R = (seen : ℕ) × (at : ℕ) × (parse_within file most ≡ read R seen at)

-- by today's
abbrev pub Says : List ℕ → Rules → Type 0
Says = SaysWithin todays_limits

-- "A file that is found good gives well_formed rules"
abbrev pub GoodFilesAreWellFormed : Type 0
GoodFilesAreWellFormed = (file : List ℕ) (R : Rules) → Says file R → WellFormed R

-- each answer comes before all that are listed after it, so that none is listed twice
abbrev pub Rises : List Answer → Type 0
Rises [] = Unit {0}
Rises (a ∷ later) = Each (λ b. Before a.steps b.steps) later × Rises later

-- the steps ks are listed
abbrev pub Listed : List ℕ → List Answer → Type 0
Listed ks listed = Some (λ a. a.steps ≡ ks) listed

-- An answer beside its proof: the steps prove the query of the rules with the cuts left out, and the values that this proof allows
-- are exactly the instances of the answer
pub record Right (R : Rules) (a : Answer) : Type 0 where
  pub proof : IsProof R a.steps
  pub values : (θ : ℕ → Term) → Values R θ → (Allows R a.steps θ ↔ Matches R θ a.values)

-- With cut or without: the listed answers are right, and rise in dictionary order
pub record Correct (R : Rules) (listed : List Answer) : Type 0 where
  pub right : Each (Right R) listed
  pub rises : Rises listed

-- Without cut: at "no more" every proof is listed; at any end a proof that is not listed comes after all those listed
pub record Complete (R : Rules) (listed : List Answer) (no_more : Type 0) : Type 0 where
  pub correct : Correct R listed
  pub all : no_more → (ks : List ℕ) → IsProof R ks → Listed ks listed
  pub after : (ks : List ℕ) → IsProof R ks → ¬ Listed ks listed → Each (λ a. Before a.steps ks) listed

-- A call that is not refused: the file says the rules R, and the call comes to the end number e with these answers, units and bytes
pub record Ends (R : Rules) (e answers units : ℕ) (bytes : List ℕ) : Type 0 where
  pub file : List ℕ
  pub limits : Limits
  pub budget : ℕ
  pub wanted : ℕ
  pub scratch : ℕ
  pub room : ℕ
  pub says : Says file R
  pub gives : result file limits budget wanted scratch room ≡ end e answers units bytes

-- "The third demand, from bytes to bytes", where "no more" is the end 20
abbrev pub ThirdDemand : Type 0
ThirdDemand = (R : Rules) (e answers units : ℕ) (bytes : List ℕ) → Uncut R → Ends R e answers units bytes
    → (listed : List Answer) × (bytes ≡ output listed) × (answers ≡ length listed) × Complete R listed (e ≡ 20)

-- The same for rules with cut
abbrev pub ThirdDemandWithCut : Type 0
ThirdDemandWithCut = (R : Rules) (e answers units : ℕ) (bytes : List ℕ) → Ends R e answers units bytes
    → (listed : List Answer) × (bytes ≡ output listed) × (answers ≡ length listed) × Correct R listed

-- What a call leaves behind, by the rules of an edition: its result r, the scratch and the output after it
pub record LeavesBy (E : Edition) (file : List ℕ) (L : Limits) (budget wanted : ℕ) (scratch out : List ℕ) (r : Result) (scratch_then out_then : List ℕ) : Type 0 where
  pub result_is : r ≡ result_by E file L budget wanted (length scratch) (length out)
  pub scratch_is : scratch_then ≡ scratch_after r (needed (length file) L) scratch
  pub output_is : out_then ≡ output_after r out

-- by today's rules
abbrev pub Leaves : List ℕ → Limits → ℕ → ℕ → List ℕ → List ℕ → Result → List ℕ → List ℕ → Type 0
Leaves = LeavesBy todays

-- "For every input, refused or not, one possible result and one possible content of output and scratch"
pub record OneOutcome (file : List ℕ) (L : Limits) (budget wanted : ℕ) (scratch out : List ℕ) : Type 0 where
  pub some : (r : Result) × (s : List ℕ) × (o : List ℕ) × Leaves file L budget wanted scratch out r s o
  pub one : (r q : Result) (s t o p : List ℕ) → Leaves file L budget wanted scratch out r s o → Leaves file L budget wanted scratch out q t p → (r ≡ q) × (s ≡ t) × (o ≡ p)
