-- The bytes of a run never pass the room, and a refusal's place is in the file or just after it.
-- Assumes nothing.
use Rattle.std.specs.Prelude.{ℕ, ◌+◌, ◌-◌, ◌≤◌, ◌≡◌, refl, List, [], ◌∷◌, ◌++◌, ltb}
use Rattle.std.proofs.Math.Path.{ap}
use Rattle.std.proofs.Common.{sym, ◌∙◌, append-nil, append_assoc, ltb-false}
use native.Mathlib.Omega.{arith}
use Rattle.std.proofs.Math.ListN.{length, length-append}
use Rattle.meaning.specs.Editions.{todays}
use Rattle.meaning.specs.Rules.{Rules}
use Rattle.meaning.specs.Reading.{Read, refused, read, parse}
use Rattle.meaning.specs.Answers.{Answer, Piece, piece, pieces, bytes_of, bytes, output, Fit, fits, stops, fitting}
use Rattle.meaning.specs.Moves.{Limits, Done, nothing, spend, list, answer, start, run}
use Rattle.meaning.specs.Call.{Result, refusal, end, ending, run_read, result_by, result}
use Rattle.laws.specs.IfLaws.{if_by}
use Rattle.demands.specs.Faults.{refused_inside}
use Rattle.demands.specs.Stops.{run_range}
use Rattle.demands.specs.Along.{Along, ends_over}

-- the bytes of answers, with more behind them, with one more
pub output_append : (xs ys : List Answer) → output (xs ++ ys) ≡ output xs ++ output ys
unfolding output
output_append [] ys = refl
output_append (x ∷ xs) ys = ap (bytes x ++◌) (output_append xs ys) ∙ sym (append_assoc (bytes x) (output xs) (output ys))

pub output_last : (xs : List Answer) (a : Answer) → output (xs ++ a ∷ []) ≡ output xs ++ bytes a
unfolding output
output_last xs a = output_append xs (a ∷ []) ∙ ap (output xs ++◌) (append-nil (bytes a))

pub never_fits : (n : ℕ) → stops n ≡ fits → ⊥
never_fits n q = let z : ◌≡◌ {A = ℕ} 0 1 = cc in omega arith

-- an answer that fits is no longer than the room left
pub fits_within : (room W size : ℕ) (ps : List Piece) → size ≤ room → fitting room W size ps ≡ fits → size + length (bytes_of ps) ≤ room
unfolding fitting bytes_of
fits_within room W size [] h e = omega arith
fits_within room W size (piece b d ∷ ps) h e =
    let G : Fit → Type 0 = λ f. f ≡ fits → size + length (b ++ bytes_of ps) ≤ room in
    if_by G (ltb room (size + length b)) (λ p q. absurd (never_fits 26 q))
    (λ p. if_by G (ltb W d) (λ r q. absurd (never_fits 25 q))
    (λ r q.
    let k = fits_within room W (size + length b) ps (ltb-false _ _ p) q in
    let l = length-append b (bytes_of ps) in
    omega arith)) e

module _ (R : Rules) (L : Limits) (wanted room : ℕ) where
  -- the answers listed are in the room
  abbrev Roomy : Done → Type 0
  Roomy d = length (output d.listed) ≤ room

  one_more : (a : Answer) (d : Done) → fitting (room - length (output d.listed)) L.work 0 (pieces a) ≡ fits → Roomy d → Roomy (list a d)
  unfolding list bytes
  one_more a d e h =
      let q = ap length (output_last d.listed a) in
      let l = length-append (output d.listed) (bytes a) in
      let m = fits_within (room - length (output d.listed)) L.work 0 (pieces a) (omega arith) e in
      omega arith

  roomy : Along R L wanted room
  unfolding spend
  roomy = record {
    At = λ n cs d. Roomy d;
    Back = λ cs d. Roomy d;
    Over = λ e d. Roomy d;
    goes_back = λ n cs d h. h;
    passes_over = λ g n cs d h. h;
    no_more = λ d h. h;
    stops_at = λ cs d e z h. h;
    calls = λ g gs n cs d e h. h;
    enters = λ k ks g n cs d l h. h;
    binds = λ x t n cs d h. h;
    cuts = λ k gs n cs d e h. h;
    answers = λ n cs d q e h. one_more (answer R L wanted room n) d e h;
    spends_at = λ n cs d h. h;
    spends_back = λ cs d h. h;
  }

  pub run_roomy : (budget : ℕ) → length (output (run R L wanted room budget (start R L wanted room)).1.listed) ≤ room
  unfolding roomy nothing output
  run_roomy budget = ends_over R L wanted room roomy todays.query_keeps budget (omega arith)

-- ---- the result of a call: a refusal has a number from 1 to 9, and its place is in the file or just after it; an end has a number from
-- 20 to 26, and its bytes are in the room
abbrev pub Small : List ℕ → ℕ → Result → Type 0
Small file room (refusal n p) = (1 ≤ n) × (n ≤ 9) × (p ≤ length file)
Small file room (end e n u b) = (20 ≤ e) × (e ≤ 26) × (length b ≤ room)

read_small : (file : List ℕ) (L : Limits) (budget wanted room : ℕ) (r : Read Rules) → parse file ≡ r → Small file room (run_read todays r L budget wanted room)
unfolding run_read ending
read_small file L budget wanted room (refused n p) e = let f = refused_inside file n p e in let a = f.least in (omega arith, f.most, f.place.1)
read_small file L budget wanted room (read R seen at) e = let (a, b) = run_range R L wanted room budget _ _ refl in (a, b, run_roomy R L wanted room budget)

pub result_small : (file : List ℕ) (L : Limits) (budget wanted scratch room : ℕ) → Small file room (result file L budget wanted scratch room)
unfolding result_by
result_small file L budget wanted scratch room =
    let G : Result → Type 0 = Small file room in
    if_by G _ (λ e. (omega arith, omega arith, omega arith)) (λ e. if_by G _ (λ f. (omega arith, omega arith, omega arith)) (λ f. if_by G _ (λ g. (omega arith, omega arith, omega arith)) (λ g. read_small file L budget wanted room (parse file) refl)))
