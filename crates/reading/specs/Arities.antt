-- The arities of functions and predicates stand in the file by number: records of two bytes, one after another.
-- Assumes nothing.
use Rattle.std.specs.Prelude.{ℕ, zero, suc, ◌+◌, ◌*◌, List, [], ◌∷◌, ◌++◌, ltb, length, get_or, Option, Some, None}
use Rattle.meaning.specs.If.{when◌then◌else◌}
use Rattle.meaning.specs.Reading.{byte, two_bytes}

-- those of the first n records from the place `start` on
unfoldable pub arities : List ℕ → ℕ → ℕ → List ℕ
arities file start zero = []
arities file start (suc n) = arities file start n ++ byte file (start + 2 * n + 1) ∷ []

abbrev pub functions_of : List ℕ → ℕ → List ℕ
functions_of file n = arities file 0 n

-- the predicates stand after so many functions
abbrev pub predicates_of : List ℕ → ℕ → ℕ → List ℕ
predicates_of file functions n = arities file (2 * functions) n

-- a reader over the functions and predicates of the file, so many of each
abbrev pub over : {A : Type 0} → (List ℕ → List ℕ → List ℕ → A) → List ℕ → ℕ → ℕ → A
over reader file functions predicates = reader file (functions_of file functions) (predicates_of file functions predicates)

-- the arity for the number in the record at p
unfoldable pub arity : List ℕ → List ℕ → ℕ → Option ℕ
arity file known p =
    let number : ℕ = two_bytes file (p + 1) in
    when ltb number (length known) then Some (get_or known number 0) else None
