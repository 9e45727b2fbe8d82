-- Reading and writing past the end, and four in a row.
-- Assumes nothing.
use Rattle.std.proofs.Common.{◌≡◌, ℕ, ◌+◌, ◌*◌, ◌%◌, ◌^◌, ◌≤◌, ◌<◌, List, length, set, sym, refl, arith}
use lib.ListN.{get_or-eq_default, length-set}
use native.Mathlib.Nat.{mod-eq_of_lt}
use Rattle.meaning.specs.Reading.{byte, two_bytes}
use Rattle.words.specs.Words.{ahead, put_four}

-- a sum of places, in either order of its parts
pub number_split : (file : List ℕ) (p high low : ℕ) → high ≡ byte file (p + 1) → low ≡ byte file (p + 2) → 256 * high + low ≡ two_bytes file (p + 1)
unfolding two_bytes
number_split file p high low e f = let q : p + 1 + 1 ≡ p + 2 = omega arith in rw (e, f, q) refl

-- no byte stands so far behind a place that their sum is no place
pub byte_far : (file : List ℕ) (p k : ℕ) → length file < 2 ^ 64 → 2 ^ 64 ≤ p + k → 0 ≡ byte file (p + k)
unfolding byte
byte_far file p k h g = sym (get_or-eq_default file 0 (omega arith))

-- where no place wraps
pub put_four_within : {A : Type 0} (w : List A) (at : ℕ) (a b c d : A) → at + 3 < 2 ^ 64 → set (set (set (set w at a) (at + 1) b) (at + 2) c) (at + 3) d ≡ put_four w at a b c d
unfolding put_four ahead
put_four_within w at a b c d h =
    let x : (at + 1) % 2 ^ 64 ≡ at + 1 = mod-eq_of_lt (omega arith) in
    let y : (at + 2) % 2 ^ 64 ≡ at + 2 = mod-eq_of_lt (omega arith) in
    let z : (at + 3) % 2 ^ 64 ≡ at + 3 = mod-eq_of_lt (omega arith) in
    rw (x, y, z) refl

-- within the words no place wraps
pub four_within : {A : Type 0} (w : List A) (at : ℕ) (a b c d : A) → at + 3 < length w → length w < 2 ^ 64 → set (set (set (set w at a) (at + 1) b) (at + 2) c) (at + 3) d ≡ put_four w at a b c d
four_within w at a b c d h s = put_four_within w at a b c d (omega arith)

-- as many stand there as before
pub put_four_length : {A : Type 0} (w : List A) (at : ℕ) (a b c d : A) → length (put_four w at a b c d) ≡ length w
unfolding put_four
put_four_length w at a b c d = simp length-set refl
