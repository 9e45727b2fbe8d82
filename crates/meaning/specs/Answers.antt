-- Writing an answer: its records in written order, each with its bytes, and where the writing stops.
-- Assumes nothing.
use Rattle.std.specs.Prelude.{ℕ, suc, ◌+◌, ◌/◌, ◌%◌, Bool, false, ◌||◌, List, [], ◌∷◌, ◌++◌, map, ltb, eqb, length}
use Rattle.meaning.specs.If.{when◌then◌else◌}
use Rattle.meaning.specs.Terms.{Term, var, app, Terms, []ₜ, ◌∷ₜ◌, count, insts}
use Rattle.meaning.specs.Kinds.{an_application, an_answer, an_answer_variable, a_step, the_answer_end}

-- an answer: a term for each query variable in order, its free variables numbered, and the clause numbers of the steps
pub record Answer : Type 0 where
  pub values : Terms
  pub steps : List ℕ

-- "Free variables are numbered by first appearance": those seen, and behind them what is new in the term
unfoldable pub has : ℕ → List ℕ → Bool
has x [] = false
has x (y ∷ ys) = eqb x y || has x ys

unfoldable mutual
  pub appear : List ℕ → Term → List ℕ
  appear seen (var x) = when has x seen then seen else seen ++ x ∷ []
  appear seen (app f ts) = appears seen ts

  pub appears : List ℕ → Terms → List ℕ
  appears seen []ₜ = seen
  appears seen (t ∷ₜ ts) = appears (appear seen t) ts

-- the number of a variable: its index among those that appear
unfoldable pub index : List ℕ → ℕ → ℕ
index [] x = 0
index (y ∷ ys) x = when eqb x y then 0 else suc (index ys x)

-- the values with their free variables numbered
unfoldable pub renumbered : Terms → Terms
renumbered ts = insts (λ x. var (index (appears [] ts) x)) ts

-- a record: its bytes, and how many nodes of its value are due after it
pub data Piece : Type 0 where
  piece : List ℕ → ℕ → Piece

unfoldable pub two : ℕ → List ℕ
two n = n / 256 ∷ n % 256 ∷ []

-- "Each value is written front first: a node's record, then its arguments are due", and behind them what was due already
unfoldable mutual
  pub write : Term → ℕ → List Piece
  write (var x) due = piece (an_answer_variable ∷ two x) due ∷ []
  write (app f ts) due = piece (an_application ∷ two f) (count ts + due) ∷ writes ts due

  pub writes : Terms → ℕ → List Piece
  writes []ₜ due = []
  writes (t ∷ₜ ts) due = write t (count ts + due) ++ writes ts due

-- the values, each by itself
unfoldable pub write_each : Terms → List Piece
write_each []ₜ = []
write_each (t ∷ₜ ts) = write t 0 ++ write_each ts

unfoldable pub write_step : ℕ → Piece
write_step n = piece (a_step ∷ two n) 0

-- "Record 0A, one term for each query variable in order, one 0C for each step of the derivation, 0D"
unfoldable pub pieces : Answer → List Piece
pieces a =
    piece (an_answer ∷ two (length (appears [] a.values)) ++ two (length a.steps)) 0
    ∷ write_each a.values ++ map write_step a.steps ++ piece (the_answer_end ∷ []) 0 ∷ []

unfoldable pub bytes_of : List Piece → List ℕ
bytes_of [] = []
bytes_of (piece b due ∷ ps) = b ++ bytes_of ps

-- the bytes of an answer, and of answers one after another
unfoldable pub bytes : Answer → List ℕ
bytes a = bytes_of (pieces a)

unfoldable pub output : List Answer → List ℕ
output [] = []
output (a ∷ rest) = bytes a ++ output rest

-- an answer fits, or its writing stops with this end
pub data Fit : Type 0 where
  fits : Fit
  stops : ℕ → Fit

-- "If at some record the answer's size passes the room left, end 26; if then that value's nodes due exceed W, end 25"
unfoldable pub fitting : ℕ → ℕ → ℕ → List Piece → Fit
fitting room W size [] = fits
fitting room W size (piece b due ∷ ps) =
    let rest : Fit = fitting room W (size + length b) ps in
    when ltb room (size + length b) then stops 26 else
    when ltb W due then stops 25 else
    rest
