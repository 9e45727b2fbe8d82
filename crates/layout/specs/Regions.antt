-- The regions of scratch: 64 words of registers and spare, 2F of tables, 4C of cells, 8S of steps, 4W of work.
-- Assumes nothing.
use Rattle.std.specs.Prelude.{ℕ, ◌+◌, ◌*◌, ◌≤◌, ◌<◌, ◌≡◌, ◌⊎◌, List, length, get_or}

-- where the word for the place p stands that says which place comes after it
abbrev pub after_at : ℕ → ℕ
after_at p = 64 + p

-- where the first clause of the predicate q stands, with F the file's length
abbrev pub first_at : ℕ → ℕ → ℕ
first_at F q = 64 + F + q

-- where the place of the clause k stands, and the next clause of its predicate, with q predicates
abbrev pub place_at : ℕ → ℕ → ℕ → ℕ
place_at F q k = 64 + F + q + 2 * k

abbrev pub next_at : ℕ → ℕ → ℕ → ℕ
next_at F q k = place_at F q k + 1

-- the word at an index
abbrev pub word : List ℕ → ℕ → ℕ
word w i = get_or w i 0

-- nothing changed but in the words from lo up to hi
pub record Keeps (lo hi : ℕ) (w v : List ℕ) : Type 0 where
  pub same_length : length v ≡ length w
  pub same : (i : ℕ) → (i < lo) ⊎ (hi ≤ i) → word v i ≡ word w i
