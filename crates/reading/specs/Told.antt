-- A refusal has document 01's number and place.
-- Assumes nothing.
use Rattle.std.specs.Prelude.{ℕ, ◌+◌, ◌-◌, ◌≤◌, ◌≡◌, List, Result, Err, refl}
use Rattle.std.proofs.Common.{zero, suc, ap, ◌∙◌, arith, sym}
use Rattle.meaning.specs.Rules.{Rules}
use Rattle.meaning.specs.Reading.{Read, refused, read, parse}
use Rattle.meaning.specs.Outcome.{fault_number, fault_of}
use Rattle.meaning.specs.declared.Refusal.{Refusal}
use Rattle.demands.specs.Faults.{refused_inside}
use Rattle.reading.specs.Verdict.{Told, refusal, verdict}
use Rattle.reading.specs.declared.Counts.{Counts}

-- the numbers from 4 to 9
from_four : (k : ℕ) → k ≤ 5 → fault_number (fault_of (4 + k)) ≡ 4 + k
unfolding fault_number
from_four zero h = refl
from_four (suc zero) h = refl
from_four (suc (suc zero)) h = refl
from_four (suc (suc (suc zero))) h = refl
from_four (suc (suc (suc (suc zero)))) h = refl
from_four (suc (suc (suc (suc (suc zero))))) h = refl
from_four (suc (suc (suc (suc (suc (suc k)))))) h = absurd (omega arith)

-- so the fault tells the number that the definition refuses a file with
pub numbers_are_told : (file : List ℕ) (n p : ℕ) → parse file ≡ refused n p → fault_number (fault_of n) ≡ n
numbers_are_told file n p e =
    let f = refused_inside file n p e in
    let k : n ≡ 4 + (n - 4) = omega (arith, f.least) in
    let m : n - 4 ≤ 5 = omega (arith, f.most) in
    rw k (from_four (n - 4) m)

-- what a check answers for a file that the definition refuses: a refusal with that number and that place
pub refusal_is_told : (file : List ℕ) (r : Result Counts Refusal) (n p : ℕ) → r ≡ verdict (parse file) → parse file ≡ refused n p
    → (e : Refusal) × (r ≡ Err e) × (fault_number e.fault ≡ n) × (e.place.0 ≡ p)
unfolding verdict
refusal_is_told file r n p v e = (refusal n p, v ∙ ap verdict e, numbers_are_told file n p e, refl)

-- so a check tells it, whatever the file says
told_of : (file : List ℕ) (r : Result Counts Refusal) (x : Read Rules) → parse file ≡ x → r ≡ verdict x → Told x r
told_of file r (refused n p) e v = refusal_is_told file r n p (v ∙ sym (ap verdict e)) e
told_of file r (read R seen at) e v = tt

pub is_told : (file : List ℕ) (r : Result Counts Refusal) → r ≡ verdict (parse file) → Told (parse file) r
is_told file r v = told_of file r (parse file) refl v
