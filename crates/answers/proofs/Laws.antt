-- What each turn of a loop of the functions that write an answer comes to.
-- Assumes nothing.
use Prim.Native.Nat.{ℕ, zero, suc, ◌+◌, ◌-◌, ◌*◌, ◌≤◌, ◌<◌, ◌%◌, ◌^◌}
use native.Mathlib.Nat.{mod-eq_of_lt}
use mathlib.Core.Path.{◌≡◌, refl}
use mathlib.Core.List.{List}
use mathlib.Core.Bool.{Bool, true}
use native.Mathlib.Omega.{arith}
use lib.ListN.{length, get_or, set}
use Rattle.std.specs.Prelude.{Result, Ok, Err, IfOk}
use Rattle.std.proofs.lemmas.Bool.Decides.{nat_tests}
use Rattle.words.specs.Words.{plus, ahead}
use Rattle.laws.specs.IfLaws.{if_true, if_false}
use Rattle.cells.specs.Cells.{held_at}
use Rattle.cells.specs.declared.Held.{Held}
use Rattle.cells.specs.declared.Found.{Found}
use Rattle.cells.specs.declared.Layout.{Layout}
use Rattle.answers.specs.declared.Stopped.{Stopped}
use Rattle.answers.specs.declared.Tally.{Tally}
use Rattle.answers.specs.Written.{record_put, first_put, steps_put, last_put}
use Rattle.answers.specs.Values.{forgotten, known, fresh, due_put, due_at, arguments_put, variable_full, variable, function_full, crowded, function, Node, is_free, is_function}
use Rattle.answers.specs.Values.{none_due, node_stopped, next_due, first_stopped, whole_value, Values, no_more, value_stopped, next_value, none_yet}
use Rattle.answers.specs.Answering.{Writes, records, reached, first_full, values_stopped, measured, last_full, whole}

-- ---- loops
pub forgotten_next : (n : ℕ) (lay : Layout) (w : List ℕ) → 0 < n → forgotten n lay w ≡ forgotten (n - 1) lay (set w (lay.list + (n - 1)) 0)
unfolding forgotten
forgotten_next zero lay w h = absurd (omega arith)
forgotten_next (suc n) lay w h = let z : suc n - 1 ≡ n = omega arith in rw z refl

pub forgotten_over : (n : ℕ) (lay : Layout) (w : List ℕ) → n ≤ 0 → forgotten n lay w ≡ w
unfolding forgotten
forgotten_over zero lay w h = refl
forgotten_over (suc n) lay w h = absurd (omega arith)

pub arguments_next : (n due base p : ℕ) (lay : Layout) (w : List ℕ) → 0 < n
    → arguments_put n due base p lay w ≡ arguments_put (n - 1) due base (get_or (due_put lay (plus due (n - 1)) p base w) (ahead 64 p) 0) lay (due_put lay (plus due (n - 1)) p base w)
unfolding arguments_put
arguments_next zero due base p lay w h = absurd (omega arith)
arguments_next (suc n) due base p lay w h = let z : suc n - 1 ≡ n = omega arith in rw z refl

pub arguments_over : (n due base p : ℕ) (lay : Layout) (w : List ℕ) → n ≤ 0 → arguments_put n due base p lay w ≡ w
unfolding arguments_put
arguments_over zero due base p lay w h = refl
arguments_over (suc n) due base p lay w h = absurd (omega arith)

pub steps_next : (steps i : ℕ) (lay : Layout) (w : List ℕ) (at : ℕ) (o : List ℕ) → i < steps
    → steps_put (steps - i) i lay w at o ≡ steps_put (steps - (i + 1)) (i + 1) lay w at (record_put (ahead at (3 * i)) 12 (get_or w (lay.steps + 8 * i) 0) o)
unfolding steps_put
steps_next steps i lay w at o h = let z : steps - i ≡ suc (steps - (i + 1)) = omega arith in rw z refl

pub steps_over : (n i : ℕ) (lay : Layout) (w : List ℕ) (at : ℕ) (o : List ℕ) → n ≤ 0 → steps_put n i lay w at o ≡ o
unfolding steps_put
steps_over zero i lay w at o h = refl
steps_over (suc n) i lay w at o h = absurd (omega arith)

-- ---- a term that is due is held in two words
pub due_held : (w : List ℕ) (lay : Layout) (i at : ℕ) (h : Held) → at < 2 ^ 40 → at ≡ lay.work + 2 * i → h ≡ held_at w at → h ≡ due_at w lay i
unfolding due_at held_at ahead
due_held w lay i at h small e f = let z : (at + 1) % 2 ^ 64 ≡ at + 1 = mod-eq_of_lt (omega arith) in rw (f, z, e) refl

-- ---- a node takes of the room, where the writing goes on
room_taken : {file : List ℕ} {lay : Layout} {limit : ℕ} {write : Bool} {t : Tally} {g : Found} {w o v p : List ℕ} {r : Result Tally Stopped} → Node file lay limit write t g w o r v p → length p ≡ length o
    → IfOk r (λ s. length p - s.size < length o - t.size)
room_taken (is_free (variable_full h)) l = tt
room_taken (is_free (variable h d)) l = omega arith
room_taken (is_function (function_full k)) l = tt
room_taken (is_function (crowded k m)) l = tt
room_taken (is_function (function k m)) l = omega arith

pub node_less : {file : List ℕ} {lay : Layout} {limit : ℕ} {write : Bool} {t s : Tally} {g : Found} {w o v p : List ℕ} → Node file lay limit write t g w o (Ok s) v p → length p ≡ length o
    → length p - s.size < length o - t.size
node_less {s = s} d l = room_taken {r = Ok s} d l

-- ---- the records behind the values stand where the writing pass was, whether it went through or stopped
pub records_whole : {file : List ℕ} {lay : Layout} {limit variables steps hops free : ℕ} {t : Tally} {w o v p : List ℕ}
    → Values file lay limit true hops variables 0 none_yet w (first_put free steps o) (Ok t) v p → Writes file lay limit variables steps hops free w o v (last_put steps lay v t.size p)
unfolding reached
records_whole d = records d

pub records_stopped : {file : List ℕ} {lay : Layout} {limit variables steps hops free : ℕ} {e : Stopped} {w o v p : List ℕ}
    → Values file lay limit true hops variables 0 none_yet w (first_put free steps o) (Err e) v p → Writes file lay limit variables steps hops free w o v (last_put steps lay v e.tally.size p)
unfolding reached
records_stopped d = records d

-- what the functions that write an answer are proved by: the cases of its relations, and the laws above
pub ruleset writing = (known, fresh, variable_full, variable, function_full, crowded, function, is_free, is_function, none_due, node_stopped, next_due, first_stopped, whole_value, no_more, value_stopped, next_value, records_whole, records_stopped, first_full, values_stopped, measured, last_full, whole, forgotten_next, forgotten_over, arguments_next, arguments_over, steps_next, steps_over, node_less)

-- what a choice by a test comes to
pub ruleset choosing = (if_true, if_false, nat_tests)
