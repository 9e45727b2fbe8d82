-- The number that a check of a file answers to C.
-- Assumes nothing.
use Rattle.std.specs.Prelude.{ℕ, ◌+◌, ◌*◌, ◌%◌, ◌^◌}
use Rattle.meaning.specs.Rules.{Rules}
use Rattle.meaning.specs.Reading.{Read, refused, read}

-- two numbers in the halves of 64 bits, the lower one by its remainder
unfoldable pub halves_of : ℕ → ℕ → ℕ
halves_of high low = high * 2 ^ 32 + low % 2 ^ 32

-- 0 for a good file; else the refusal in the upper half of 64 bits, the place in the lower. The place of a file of up to
-- 60,000 bytes is its own remainder
unfoldable pub checked_number : Read Rules → ℕ
checked_number (refused n p) = halves_of n p
checked_number (read R seen at) = 0
