-- A verdict as one number, case by case.
-- Assumes nothing.
use Prim.Native.Nat.{ℕ, ◌+◌, ◌*◌, ◌%◌, ◌^◌}
use mathlib.Core.Path.{◌≡◌, refl, sym, ◌∙◌}
use mathlib.Core.List.{List}
use Rattle.std.specs.Prelude.{Result, Ok, Err}
use Rattle.meaning.specs.Rules.{Rules}
use Rattle.meaning.specs.Reading.{Read, refused, read, parse}
use Rattle.meaning.specs.Outcome.{fault_number}
use Rattle.meaning.specs.declared.Refusal.{Refusal}
use Rattle.reading.specs.declared.Counts.{Counts}
use Rattle.reading.specs.Verdict.{verdict, refusal}
use Rattle.reading.specs.Told.{numbers_are_told}
use Rattle.machine.proofs.CallLaws.{refused_good}
use Rattle.embedded.specs.Checking.{halves_of, checked_number}

pub halves_are : (high low l : ℕ) → l ≡ low → high * 2 ^ 32 + l % 2 ^ 32 ≡ halves_of high low
unfolding halves_of
halves_are high low l e = rw e refl

module _ (file : List ℕ) (x : Result Counts Refusal) (e : x ≡ verdict (parse file)) where
  number_refused : (r : Refusal) (v : Read Rules) → parse file ≡ v → verdict v ≡ Err r → halves_of (fault_number r.fault) r.place.0 ≡ checked_number v
  unfolding verdict checked_number
  number_refused r (refused n p) f g =
      let z : refusal n p ≡ r = cc in
      let q = numbers_are_told file n p f in
      rw (← z, q) refl
  number_refused r (read R seen at) f g = absurd (refused_good (sym g))

  pub check_refused : (r : Refusal) (n : ℕ) → x ≡ Err r → n ≡ halves_of (fault_number r.fault) r.place.0 → n ≡ checked_number (parse file)
  check_refused r n f g = g ∙ number_refused r (parse file) refl (sym e ∙ f)

  number_good : (c : Counts) (v : Read Rules) → verdict v ≡ Ok c → 0 ≡ checked_number v
  unfolding verdict checked_number
  number_good c (refused n p) g = absurd (refused_good g)
  number_good c (read R seen at) g = refl

  pub check_good : (c : Counts) → x ≡ Ok c → 0 ≡ checked_number (parse file)
  check_good c f = number_good c (parse file) (sym e ∙ f)
