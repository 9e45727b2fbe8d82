-- What the exported calls tell a C program.
-- Assumes nothing.
use Rattle.std.specs.Prelude.{ℕ, ◌+◌, ◌≡◌, List, length, set}
use Rattle.meaning.specs.Editions.{todays}
use Rattle.meaning.specs.Call.{needed, output_after, scratch_after}
use Rattle.meaning.specs.Embedded.{embedded_in, embedded, packed}
use Rattle.meaning.specs.Outcome.{Said, refused_as, ended_as, says, to_say}
use Rattle.meaning.specs.Outcome.{Outcome}
use Rattle.search.specs.declared.Limits.{Limits}
use Rattle.machine.specs.Calling.{limits_of, result_of}
use Rattle.embedded.specs.Checking.{halves_of}

-- four words, from an index on; those that the result does not hold are left out
unfoldable pub told_four : ℕ → ℕ → ℕ → ℕ → ℕ → List ℕ → List ℕ
told_four at a b c d result = set (set (set (set result at a) (at + 1) b) (at + 2) c) (at + 3) d

-- "end or refusal number, place (0 after an end), answers, units, bytes, then 0": twelve words, or as many as the result holds
unfoldable pub told_all : ℕ → ℕ → ℕ → ℕ → ℕ → List ℕ → List ℕ
told_all n place answers units bytes result = told_four 8 0 0 0 0 (told_four 4 bytes 0 0 0 (told_four 0 n place answers units result))

-- the words of what an outcome says
unfoldable pub told : Said → List ℕ → List ℕ
told (refused_as n p) result = told_all n p 0 0 0 result
told (ended_as e answers units bytes) result = told_all e 0 answers units bytes result

-- the whole call: what is in scratch, in the output and in the result after it
pub record CallTells (file : List ℕ) (l : Limits) (budget wanted : ℕ) (w o r v p s : List ℕ) : Type 0 where
  pub scratch : v ≡ scratch_after (result_of file l budget wanted w o) (needed (length file) (limits_of l)) w
  pub output : p ≡ output_after (result_of file l budget wanted w o) o
  pub words : s ≡ told (to_say (result_of file l budget wanted w o)) r

-- an outcome as one number; place and bytes by their remainders, which are place and bytes themselves
unfoldable pub packed_said : Said → ℕ
packed_said (refused_as n p) = halves_of n p
packed_said (ended_as e answers units bytes) = halves_of e bytes

unfoldable pub packed_of : Outcome → ℕ
packed_of r = packed_said (says r)

-- the embedded form where all of the output counts as room
pub record EmbedRuns (file : List ℕ) (budget wanted : ℕ) (o : List ℕ) (r : Outcome) (p : List ℕ) : Type 0 where
  pub outcome : says r ≡ to_say (embedded_in todays file budget wanted (length o))
  pub output : p ≡ output_after (embedded_in todays file budget wanted (length o)) o

-- the embedded form: its packed number, and what is in the output after it
pub record EmbedTells (file : List ℕ) (budget wanted : ℕ) (o : List ℕ) (n : ℕ) (p : List ℕ) : Type 0 where
  pub number : n ≡ packed (embedded file budget wanted (length o))
  pub output : p ≡ output_after (embedded file budget wanted (length o)) o
