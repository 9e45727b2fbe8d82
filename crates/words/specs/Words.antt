-- Sums of words, and of places; four in a row.
-- Assumes nothing.
use Rattle.std.specs.Prelude.{ℕ, ◌+◌, ◌%◌, ◌^◌, List, set}

unfoldable pub plus : ℕ → ℕ → ℕ
plus a b = (a + b) % 2 ^ 32

unfoldable pub ahead : ℕ → ℕ → ℕ
ahead p n = (p + n) % 2 ^ 64

-- four words in a row
unfoldable pub put_four : {A : Type 0} → List A → ℕ → A → A → A → A → List A
put_four w at a b c d = set (set (set (set w at a) (ahead at 1) b) (ahead at 2) c) (ahead at 3) d
