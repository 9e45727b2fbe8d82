-- Terms. In a rule file a variable is a number of its clause or of the query; in a run it is the number of a cell.
-- A list of terms has a type of its own: `[]ₜ` is empty, and `t ∷ₜ ts` has t in front of ts.
-- Assumes nothing.
use Rattle.std.specs.Prelude.{ℕ, zero, suc, ◌+◌, Bool, false, ◌||◌, eqb}

infixr 67 ◌∷ₜ◌
-- a variable, or a function applied to arguments
mutual
  pub data Term : Type 0 where
    var : ℕ → Term
    app : ℕ → Terms → Term

  pub data Terms : Type 0 where
    []ₜ : Terms
    ◌∷ₜ◌ : Term → Terms → Terms

-- how many terms
unfoldable pub count : Terms → ℕ
count []ₜ = 0
count (t ∷ₜ ts) = suc (count ts)

-- the instance of a term that has ν x in the place of each variable x
unfoldable mutual
  pub inst : (ℕ → Term) → Term → Term
  inst ν (var x) = ν x
  inst ν (app f ts) = app f (insts ν ts)

  pub insts : (ℕ → Term) → Terms → Terms
  insts ν []ₜ = []ₜ
  insts ν (t ∷ₜ ts) = inst ν t ∷ₜ insts ν ts

-- variables counted from the cell b
unfoldable pub from : ℕ → ℕ → Term
from b x = var (b + x)

-- whether the variable x stands in the term
unfoldable mutual
  pub occurs : ℕ → Term → Bool
  occurs x (var y) = eqb x y
  occurs x (app f ts) = occurs_in x ts

  pub occurs_in : ℕ → Terms → Bool
  occurs_in x []ₜ = false
  occurs_in x (t ∷ₜ ts) = occurs x t || occurs_in x ts

-- the first n values, from the variable i on
unfoldable pub values_from : ℕ → ℕ → (ℕ → Term) → Terms
values_from i zero ν = []ₜ
values_from i (suc n) ν = ν i ∷ₜ values_from (suc i) n ν

-- the values of the variables below n, in order
unfoldable pub row : ℕ → (ℕ → Term) → Terms
row n ν = values_from 0 n ν
