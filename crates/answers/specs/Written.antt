-- The records of an answer in the bytes of the output.
-- Assumes nothing.
use Rattle.std.specs.Prelude.{ℕ, zero, suc, ◌+◌, ◌*◌, ◌/◌, ◌%◌, ◌≡◌, refl, Bool, List, [], ◌∷◌, map, get_or, set}
use Rattle.meaning.specs.If.{when◌then◌else◌}
use Rattle.meaning.specs.Kinds.{body_lengths, body_length, an_application, an_answer, an_answer_variable, a_step, the_answer_end}
use Rattle.words.specs.Words.{ahead}
use Rattle.cells.specs.declared.Layout.{Layout}

-- the sizes of the records: the first of an answer, an applied function, a free variable, a step, the last
abbrev pub answer_size : ℕ
answer_size = 5

abbrev pub application_size : ℕ
application_size = 3

abbrev pub variable_size : ℕ
variable_size = 3

abbrev pub step_size : ℕ
step_size = 3

abbrev pub end_size : ℕ
end_size = 1

-- each is a byte for the kind and the body of that kind
pub sizes_of_records : map (λ (kind : ℕ). 1 + body_length kind) (an_answer ∷ an_application ∷ an_answer_variable ∷ a_step ∷ the_answer_end ∷ []) ≡ answer_size ∷ application_size ∷ variable_size ∷ step_size ∷ end_size ∷ []
unfolding body_length body_lengths
sizes_of_records = refl

-- a two-byte number at an index, the high byte first
unfoldable pub two_put : ℕ → ℕ → List ℕ → List ℕ
two_put i n o = set (set o i (n / 256 % 256)) (ahead i 1) (n % 256)

-- a record of a kind with a two-byte number
unfoldable pub record_put : ℕ → ℕ → ℕ → List ℕ → List ℕ
record_put i kind n o = two_put (ahead i 1) n (set o i (kind % 256))

-- the same while the answer is written; nothing while it is measured
unfoldable pub recorded : Bool → ℕ → ℕ → ℕ → List ℕ → List ℕ
recorded write i kind n o = when write then record_put i kind n o else o

-- the first record: how many free variables and how many steps the answer has
unfoldable pub first_put : ℕ → ℕ → List ℕ → List ℕ
first_put free steps o = two_put 3 steps (record_put 0 an_answer free o)

-- so many steps from i on, in the records that begin at an index: the clause number is the first word of a step
unfoldable pub steps_put : ℕ → ℕ → Layout → List ℕ → ℕ → List ℕ → List ℕ
steps_put zero i lay w at o = o
steps_put (suc n) i lay w at o = steps_put n (i + 1) lay w at (record_put (ahead at (step_size * i)) a_step (get_or w (lay.steps + 8 * i) 0) o)

-- the records behind the values: the steps, and the last
unfoldable pub last_put : ℕ → Layout → List ℕ → ℕ → List ℕ → List ℕ
last_put steps lay w at o = set (steps_put steps 0 lay w at o) (ahead at (step_size * steps)) the_answer_end
