-- The records of an answer: where their writing stops, and their bytes in the output.
-- Assumes nothing.
use Rattle.std.specs.Prelude.{ℕ, suc, ◌+◌, ◌*◌, ◌/◌, ◌%◌, ◌^◌, ◌≤◌, ◌<◌, ◌≡◌, refl, Bool, true, false, List, [], ◌∷◌, ◌++◌, map, ltb, length, get_or, set}
use Rattle.std.proofs.Common.{ap, sym, ◌∙◌, append_assoc, arith, length-append, lt-ltb, le-ltb, ltb-true, ltb-false}
use Rattle.std.proofs.lemmas.List.Edits.{sets}
use Rattle.std.proofs.Math.Seq.{length-sets}
use Rattle.meaning.specs.If.{when◌then◌else◌}
use Rattle.meaning.specs.Terms.{Term, Terms, []ₜ, ◌∷ₜ◌, count, inst, insts}
use Rattle.meaning.specs.Kinds.{an_answer, a_step, the_answer_end}
use Rattle.meaning.specs.Answers.{appear, appears, Piece, piece, two, writes, write_step, bytes_of, fits, stops, fitting}
use Rattle.laws.specs.IfLaws.{if_true, if_false}
use Rattle.demands.specs.Proofs.{Each}
use Rattle.words.specs.Words.{ahead}
use Rattle.cells.specs.declared.Layout.{Layout}
use Rattle.answers.specs.Written.{two_put, record_put, recorded, first_put, steps_put, last_put}
use Rattle.simulation.specs.Going.{ahead_small}

-- ---- terms due in front of others
unfoldable pub joined : Terms → Terms → Terms
joined []ₜ ts = ts
joined (u ∷ₜ us) ts = u ∷ₜ joined us ts

pub joined_count : (us ts : Terms) → count (joined us ts) ≡ count us + count ts
unfolding joined count
joined_count []ₜ ts = omega arith
joined_count (u ∷ₜ us) ts = let h = joined_count us ts in omega arith

pub joined_insts : (ν : ℕ → Term) (us ts : Terms) → insts ν (joined us ts) ≡ joined (insts ν us) (insts ν ts)
unfolding joined insts
joined_insts ν []ₜ ts = refl
joined_insts ν (u ∷ₜ us) ts = ap (inst ν u ∷ₜ◌) (joined_insts ν us ts)

pub joined_writes : (us ts : Terms) (due : ℕ) → writes (joined us ts) due ≡ writes us (count ts + due) ++ writes ts due
unfolding joined writes
joined_writes []ₜ ts due = refl
joined_writes (u ∷ₜ us) ts due =
    let e : count (joined us ts) + due ≡ count us + (count ts + due) = ap (◌+ due) (joined_count us ts) ∙ omega arith in
    rw (e, joined_writes us ts due, append_assoc)

pub joined_appears : (seen : List ℕ) (us ts : Terms) → appears seen (joined us ts) ≡ appears (appears seen us) ts
unfolding joined appears
joined_appears seen []ₜ ts = refl
joined_appears seen (u ∷ₜ us) ts = joined_appears (appear seen u) us ts

-- ---- bytes
pub bytes_join : (ps qs : List Piece) → bytes_of (ps ++ qs) ≡ bytes_of ps ++ bytes_of qs
unfolding bytes_of
bytes_join [] qs = refl
bytes_join (piece b d ∷ ps) qs = ap (b ++◌) (bytes_join ps qs) ∙ sym (append_assoc b (bytes_of ps) (bytes_of qs))

pub sets_join : (o : List ℕ) (i : ℕ) (bs cs : List ℕ) → sets (sets o i bs) (i + length bs) cs ≡ sets o i (bs ++ cs)
sets_join o i [] cs = ap (λ (k : ℕ). sets o k cs) (omega arith)
sets_join o i (b ∷ bs) cs =
    let e : i + suc (length bs) ≡ suc i + length bs = omega arith in
    rw e (sets_join (set o i b) (suc i) bs cs)

-- bytes written from an index on, or none while an answer is measured
unfoldable pub put : Bool → ℕ → List ℕ → List ℕ → List ℕ
put b i bs o = when b then sets o i bs else o

pub put_none : (b : Bool) (i : ℕ) (o : List ℕ) → put b i [] o ≡ o
unfolding put when◌then◌else◌
put_none true i o = refl
put_none false i o = refl

pub put_join : (b : Bool) (i : ℕ) (bs cs o : List ℕ) → put b (i + length bs) cs (put b i bs o) ≡ put b i (bs ++ cs) o
unfolding put when◌then◌else◌
put_join true i bs cs o = sets_join o i bs cs
put_join false i bs cs o = refl

pub put_length : (b : Bool) (i : ℕ) (bs o : List ℕ) → length (put b i bs o) ≡ length o
unfolding put when◌then◌else◌
put_length true i bs o = length-sets o i bs
put_length false i bs o = refl

-- a record of a kind with a number of two bytes
pub record_sets : (i kind n : ℕ) (o : List ℕ) → kind < 256 → n < 65536 → i + 3 ≤ length o → length o < 2 ^ 63 → record_put i kind n o ≡ sets o i (kind ∷ two n)
unfolding record_put two_put ahead two
record_sets i kind n o k l h s =
    let a : (i + 1) % 2 ^ 64 ≡ suc i = omega arith in
    let b : (suc i + 1) % 2 ^ 64 ≡ suc (suc i) = omega arith in
    let c : kind % 256 ≡ kind = omega arith in
    let d : n / 256 % 256 ≡ n / 256 = omega arith in
    rw (a, b, c, d)

pub recorded_put : (b : Bool) (i kind n : ℕ) (o : List ℕ) → kind < 256 → n < 65536 → i + 3 ≤ length o → length o < 2 ^ 63 → recorded b i kind n o ≡ put b i (kind ∷ two n) o
unfolding recorded put
recorded_put b i kind n o k l h s = ap (λ (p : List ℕ). when b then p else o) (record_sets i kind n o k l h s)

pub first_sets : (free steps : ℕ) (o : List ℕ) → free < 65536 → steps < 65536 → 5 ≤ length o → length o < 2 ^ 63 → first_put free steps o ≡ sets o 0 (an_answer ∷ two free ++ two steps)
unfolding first_put two_put two
first_sets free steps o k l h s =
    let d : steps / 256 % 256 ≡ steps / 256 = omega arith in
    rw (d, ahead_small 3 1 (omega arith), record_sets 0 an_answer free o (omega arith) k (omega arith) s)

-- ---- the steps and the last record
-- the records behind the values
unfoldable pub tail : List ℕ → List Piece
tail ks = map write_step ks ++ piece (the_answer_end ∷ []) 0 ∷ []

steps_length : (ks : List ℕ) → length (bytes_of (map write_step ks)) ≡ 3 * length ks
unfolding bytes_of write_step two
steps_length [] = refl
steps_length (k ∷ ks) = let h = steps_length ks in omega arith

pub tail_length : (ks : List ℕ) → length (bytes_of (tail ks)) ≡ 3 * length ks + 1
unfolding tail bytes_of
tail_length ks = ap length (bytes_join (map write_step ks) (piece (the_answer_end ∷ []) 0 ∷ [])) ∙ length-append (bytes_of (map write_step ks)) (the_answer_end ∷ []) ∙ ap (◌+ 1) (steps_length ks)

-- the first words of the steps from i on are these clause numbers
abbrev pub FirstWords : Layout → List ℕ → ℕ → List ℕ → Type 0
FirstWords lay w i [] = Unit {0}
FirstWords lay w i (k ∷ ks) = (get_or w (lay.steps + 8 * i) 0 ≡ k) × FirstWords lay w (i + 1) ks

pub steps_sets : (ks : List ℕ) (i at : ℕ) (lay : Layout) (w o : List ℕ) → FirstWords lay w i ks → Each (λ k. k < 65536) ks → at + 3 * (i + length ks) ≤ length o → length o < 2 ^ 63
    → steps_put (length ks) i lay w at o ≡ sets o (at + 3 * i) (bytes_of (map write_step ks))
unfolding steps_put bytes_of write_step two
steps_sets [] i at lay w o f e h s = refl
steps_sets (k ∷ ks) i at lay w o f e h s =
    let a : ahead at (3 * i) ≡ at + 3 * i = ahead_small at (3 * i) (omega arith) in
    let n : at + 3 * (i + 1) ≡ at + 3 * i + 3 = omega arith in
    let l : length (record_put (at + 3 * i) a_step k o) ≡ length o = ap length (record_sets (at + 3 * i) a_step k o (omega arith) e.0 (omega arith) s) ∙ length-sets o (at + 3 * i) (a_step ∷ two k) in
    ap (λ (j : ℕ). steps_put (length ks) (i + 1) lay w at (record_put j a_step (get_or w (lay.steps + 8 * i) 0) o)) a
    ∙ ap (λ (j : ℕ). steps_put (length ks) (i + 1) lay w at (record_put (at + 3 * i) a_step j o)) f.0
    ∙ steps_sets ks (i + 1) at lay w (record_put (at + 3 * i) a_step k o) f.1 e.1 (omega arith) (omega arith)
    ∙ ap (λ (j : ℕ). sets (record_put (at + 3 * i) a_step k o) j (bytes_of (map write_step ks))) n
    ∙ ap (λ (p : List ℕ). sets p (at + 3 * i + 3) (bytes_of (map write_step ks))) (record_sets (at + 3 * i) a_step k o (omega arith) e.0 (omega arith) s)
    ∙ sets_join o (at + 3 * i) (a_step ∷ two k) (bytes_of (map write_step ks))

pub last_sets : (ks : List ℕ) (at : ℕ) (lay : Layout) (w o : List ℕ) → FirstWords lay w 0 ks → Each (λ k. k < 65536) ks → at + 3 * length ks < length o → length o < 2 ^ 63
    → last_put (length ks) lay w at o ≡ sets o at (bytes_of (tail ks))
unfolding last_put tail bytes_of
last_sets ks at lay w o f e h s =
    let a : ahead at (3 * length ks) ≡ at + 0 + length (bytes_of (map write_step ks)) = ahead_small at (3 * length ks) (omega arith) ∙ (let l = steps_length ks in omega arith) in
    let b : at + 3 * 0 ≡ at = omega arith in
    ap (λ (p : List ℕ). set p (ahead at (3 * length ks)) the_answer_end) (steps_sets ks 0 at lay w o f e (omega arith) s)
    ∙ rw (a, b) (sets_join o at (bytes_of (map write_step ks)) (the_answer_end ∷ []))
    ∙ ap (sets o at) (sym (bytes_join (map write_step ks) (piece (the_answer_end ∷ []) 0 ∷ [])))

-- ---- where the writing stops
pub fitting_none : (room W size : ℕ) → fitting room W size [] ≡ fits
unfolding fitting
fitting_none room W size = refl

module _ (room W size : ℕ) (b : List ℕ) (d : ℕ) (ps : List Piece) where
  pub fitting_full : room < size + length b → fitting room W size (piece b d ∷ ps) ≡ stops 26
  unfolding fitting
  fitting_full h = if_true _ _ _ (lt-ltb _ _ h)

  pub fitting_crowded : size + length b ≤ room → W < d → fitting room W size (piece b d ∷ ps) ≡ stops 25
  unfolding fitting
  fitting_crowded h k = if_false _ _ _ (le-ltb _ _ h) ∙ if_true _ _ _ (lt-ltb _ _ k)

  pub fitting_on : size + length b ≤ room → d ≤ W → fitting room W size (piece b d ∷ ps) ≡ fitting room W (size + length b) ps
  unfolding fitting
  fitting_on h k = if_false _ _ _ (le-ltb _ _ h) ∙ if_false _ _ _ (le-ltb _ _ k)

pub tail_fits : (room W size : ℕ) (ks : List ℕ) → size + (3 * length ks + 1) ≤ room → fitting room W size (tail ks) ≡ fits
unfolding tail fitting write_step two
tail_fits room W size [] h = fitting_on room W size (the_answer_end ∷ []) 0 [] (omega arith) (omega arith)
tail_fits room W size (k ∷ ks) h = fitting_on room W size (a_step ∷ two k) 0 (tail ks) (omega arith) (omega arith) ∙ tail_fits room W (size + 3) ks (omega arith)

pub tail_full : (room W size : ℕ) (ks : List ℕ) → size ≤ room → room < size + (3 * length ks + 1) → fitting room W size (tail ks) ≡ stops 26
unfolding tail write_step two
tail_full room W size [] l h = fitting_full room W size (the_answer_end ∷ []) 0 [] (omega arith)
tail_full room W size (k ∷ ks) l h = go (ltb room (size + 3)) refl (tail_full room W (size + 3) ks)
  where
    go : (b : Bool) → ltb room (size + 3) ≡ b → (size + 3 ≤ room → room < size + 3 + (3 * length ks + 1) → fitting room W (size + 3) (tail ks) ≡ stops 26) → fitting room W size (piece (a_step ∷ two k) 0 ∷ tail ks) ≡ stops 26
    go true e ih = fitting_full room W size (a_step ∷ two k) 0 (tail ks) (ltb-true _ _ e)
    go false e ih =
        let q : size + 3 ≤ room = ltb-false _ _ e in
        fitting_on room W size (a_step ∷ two k) 0 (tail ks) (omega arith) (omega arith) ∙ ih q (omega arith)
