-- The embedded form with its packed number, and the line of the small program.
-- Assumes nothing.
use Rattle.std.specs.Prelude.{ℕ, zero, suc, ◌+◌, ◌*◌, ◌/◌, ◌%◌, ◌^◌, min, ◌&&◌, List, [], ◌∷◌, ◌++◌, leb, ltb, length}
use Rattle.meaning.specs.If.{when◌then◌else◌}
use Rattle.meaning.specs.Editions.{Edition, todays}
use Rattle.meaning.specs.Moves.{Limits}
use Rattle.meaning.specs.Call.{Result, refusal, end, result_by}

-- "C 1,000, S 400, W 200"
unfoldable pub embedded_limits : Limits
embedded_limits = record { cells = 1_000; steps = 400; work = 200 }

-- "16,064 words": enough for a file of 4,000 bytes
abbrev pub embedded_scratch : ℕ
embedded_scratch = 16_064

-- "for F up to 4,000 (else refusal 2)", where all of the output counts as room, by the rules of an edition
unfoldable pub embedded_in : Edition → List ℕ → ℕ → ℕ → ℕ → Result
embedded_in E file budget wanted room =
    let good : Result = result_by E file embedded_limits budget wanted embedded_scratch room in
    when ltb 4_000 (length file) then refusal 2 0 else
    good

-- "Of the output at most 4,000,000,000 bytes count as room"
abbrev pub room_limit : ℕ
room_limit = 4_000_000_000

unfoldable pub embedded_by : Edition → List ℕ → ℕ → ℕ → ℕ → Result
embedded_by E file budget wanted room = embedded_in E file budget wanted (min room room_limit)

-- by today's rules
abbrev pub embedded : List ℕ → ℕ → ℕ → ℕ → Result
embedded = embedded_by todays

-- "end or refusal in the upper half; in the lower the bytes written after an end, the place after a refusal"
unfoldable pub packed : Result → ℕ
packed (refusal n p) = n * 2 ^ 32 + p
packed (end e n u b) = e * 2 ^ 32 + length b

-- a number in decimal, of at most so many digits
unfoldable pub decimal : ℕ → ℕ → List ℕ
decimal zero n = []
decimal (suc digits) n =
    let front : List ℕ = decimal digits (n / 10) in
    when ltb n 10 then (48 + n) ∷ [] else front ++ (48 + n % 10) ∷ []

-- a space and a number; a 64-bit number has at most 20 digits
unfoldable pub number : ℕ → List ℕ
number n = 32 ∷ decimal 20 n

-- the words "end", " answers", " units", " bytes", " limits too small", "refused", " at"
unfoldable pub end_word : List ℕ
end_word = 101 ∷ 110 ∷ 100 ∷ []

unfoldable pub answers_word : List ℕ
answers_word = 32 ∷ 97 ∷ 110 ∷ 115 ∷ 119 ∷ 101 ∷ 114 ∷ 115 ∷ []

unfoldable pub units_word : List ℕ
units_word = 32 ∷ 117 ∷ 110 ∷ 105 ∷ 116 ∷ 115 ∷ []

unfoldable pub bytes_word : List ℕ
bytes_word = 32 ∷ 98 ∷ 121 ∷ 116 ∷ 101 ∷ 115 ∷ []

unfoldable pub too_small_words : List ℕ
too_small_words = 32 ∷ 108 ∷ 105 ∷ 109 ∷ 105 ∷ 116 ∷ 115 ∷ 32 ∷ 116 ∷ 111 ∷ 111 ∷ 32 ∷ 115 ∷ 109 ∷ 97 ∷ 108 ∷ 108 ∷ []

unfoldable pub refused_word : List ℕ
refused_word = 114 ∷ 101 ∷ 102 ∷ 117 ∷ 115 ∷ 101 ∷ 100 ∷ []

unfoldable pub at_word : List ℕ
at_word = 32 ∷ 97 ∷ 116 ∷ []

-- "for ends 23 to 25 ` limits too small` follows on it"
unfoldable pub too_small : ℕ → List ℕ
too_small e = when leb 23 e && leb e 25 then too_small_words else []

-- "one line, closed by byte 0A"
unfoldable pub line : Result → List ℕ
line (refusal n p) = refused_word ++ number n ++ at_word ++ number p ++ 0x0A ∷ []
line (end e n u b) =
    end_word ++ number e ++ answers_word ++ number n ++ units_word ++ number u ++ bytes_word ++ number (length b) ++ too_small e ++ 0x0A ∷ []

-- "and then the answer bytes"
unfoldable pub printed : Result → List ℕ
printed (refusal n p) = line (refusal n p)
printed (end e n u b) = line (end e n u b) ++ b

-- the small program: "budget, wanted number and room 1,000 each"
unfoldable pub program : List ℕ → List ℕ
program file = printed (embedded file 1_000 1_000 1_000)
