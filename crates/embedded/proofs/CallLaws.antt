-- What the exported calls tell, case by case.
-- Assumes nothing.
use Prim.Native.Nat.{ℕ, ◌+◌, ◌*◌, ◌^◌, ◌≤◌, ◌<◌}
use mathlib.Core.Path.{◌≡◌, refl, sym, ap, ap₂, ◌∙◌}
use mathlib.Core.List.{List, ◌++◌, append_assoc}
use native.Mathlib.Omega.{arith}
use native.Mathlib.Nat.{mod-eq_of_lt, min-eq_left, min-eq_right}
use lib.ListN.{length, take, drop, replicate, length-replicate, take-append-drop}
use lib.Seq.{length-take-le, drop-append-le}
use borrow.Author.Tests.{lt-ltb, le-ltb}
use Rattle.laws.specs.IfLaws.{if_true, if_false}
use Rattle.meaning.specs.Editions.{todays}
use Rattle.meaning.specs.Moves.{Limits as LimitsDefined}
use Rattle.meaning.specs.Call.{Result, refusal, end, result, output_after}
use Rattle.meaning.specs.Embedded.{embedded_in, embedded_by, embedded, embedded_limits, embedded_scratch, room_limit, packed}
use Rattle.meaning.specs.Outcome.{Outcome, Said, says, to_say, fault_number, end_number}
use Rattle.std.specs.Prelude.{Ok, Err}
use Rattle.meaning.specs.declared.Ended.{Ended}
use Rattle.meaning.specs.declared.Refusal.{Refusal}
use Rattle.meaning.specs.declared.Fault.TheVariants.{Length}
use Rattle.words.specs.Words.{put_four, ahead}
use Rattle.search.specs.declared.Limits.{Limits}
use Rattle.machine.specs.Calling.{Called, limits_of, result_of}
use Rattle.embedded.specs.Promises.{Tight, embedded_tight}
use Rattle.embedded.specs.Checking.{halves_of}
use Rattle.embedded.specs.Telling.{told_four, told_all, told, CallTells, packed_said, packed_of, EmbedRuns, EmbedTells}

-- ---- the words
pub all_put : (n p a u b : ℕ) (l l₀ l₁ l₂ : List ℕ) → l₀ ≡ put_four l 0 n p a u → l₁ ≡ put_four l₀ 4 b 0 0 0 → l₂ ≡ put_four l₁ 8 0 0 0 0 → l₂ ≡ told_all n p a u b l
unfolding told_all told_four put_four ahead
all_put n p a u b l l₀ l₁ l₂ e₀ e₁ e₂ = rw (e₂, e₁, e₀) refl

module _ (r : Outcome) where
  pub refused_told : (x : Refusal) (k : ℕ) (l v : List ℕ) → r ≡ Err x → k ≡ fault_number x.fault → v ≡ told_all k x.place.0 0 0 0 l → v ≡ told (says r) l
  unfolding told says
  refused_told x k l v q f h = rw (q, ← f) h

  pub ended_told : (e : Ended) (k : ℕ) (l v : List ℕ) → r ≡ Ok e → k ≡ end_number e.end → v ≡ told_all k 0 e.totals.answers e.totals.units e.totals.bytes l → v ≡ told (says r) l
  unfolding told says
  ended_told e k l v q f h = rw (q, ← f) h

  pub refused_packed : (x : Refusal) (m : ℕ) → r ≡ Err x → m ≡ halves_of (fault_number x.fault) x.place.0 → m ≡ packed_of r
  unfolding packed_of packed_said says
  refused_packed x m q h = rw q h

  pub ended_packed : (e : Ended) (k m : ℕ) → r ≡ Ok e → k ≡ end_number e.end → m ≡ halves_of k e.totals.bytes → m ≡ packed_of r
  unfolding packed_of packed_said says
  ended_packed e k m q f h = rw (q, ← f) h

-- ---- the calls
pub call_tells : (file : List ℕ) (l : Limits) (budget wanted : ℕ) (w o result : List ℕ) (r : Outcome) (v p n : List ℕ) → Called file l budget wanted w o r v p → n ≡ told (says r) result → CallTells file l budget wanted w o result v p n
call_tells file l budget wanted w o result r v p n a e = record { scratch = a.words; output = a.bytes; words = e ∙ ap (λ (x : Said). told x result) a.outcome }

own_limits : Limits
own_limits = record { cells = 1_000; steps = 400; work = 200 }

limits_are : limits_of own_limits ≡ embedded_limits
unfolding own_limits embedded_limits
limits_are = refl

module _ (file : List ℕ) (budget wanted : ℕ) (o : List ℕ) where
  pub embed_long : (r : Refusal) → r.fault ≡ Length → r.place.0 ≡ 0 → 4_000 < length file → EmbedRuns file budget wanted o (Err r) o
  unfolding embedded_in says to_say output_after fault_number
  embed_long r f p h =
      let e : embedded_in todays file budget wanted (length o) ≡ refusal 2 0 = if_true _ _ _ (lt-ltb 4_000 (length file) h) in
      record { outcome = rw (f, p) (ap to_say (sym e)); output = ap (λ (x : Result). output_after x o) (sym e) }

  pub embed_runs : (r : Outcome) (v p : List ℕ) → length file ≤ 4_000 → Called file (record { cells = 1_000; steps = 400; work = 200 }) budget wanted (replicate embedded_scratch 0) o r v p → EmbedRuns file budget wanted o r p
  unfolding embedded_in own_limits
  embed_runs r v p h a =
      let e : result_of file own_limits budget wanted (replicate embedded_scratch 0) o ≡ embedded_in todays file budget wanted (length o) =
      ap₂ (λ (L : LimitsDefined) (n : ℕ). result file L budget wanted n (length o)) limits_are (length-replicate {A = ℕ} embedded_scratch 0) ∙ sym (if_false _ _ _ (le-ltb 4_000 (length file) h)) in
      record { outcome = a.outcome ∙ ap to_say e; output = a.bytes ∙ ap (λ (x : Result). output_after x o) e }

  packs : (r : Result) (x : Outcome) → Tight r → says x ≡ to_say r → packed_of x ≡ packed r
  unfolding packed_of packed_said halves_of packed to_say
  packs (refusal n p) x h e = rw e (ap (n * 2 ^ 32 +◌) (mod-eq_of_lt h.2))
  packs (end e n u b) x h q = let k = h.2 in rw q (ap (e * 2 ^ 32 +◌) (mod-eq_of_lt (omega arith)))

  pub embed_all : (r : Outcome) (p : List ℕ) (n : ℕ) → length o ≤ 4_000_000_000 → EmbedRuns file budget wanted o r p → n ≡ packed_of r → EmbedTells file budget wanted o n p
  unfolding embedded_by embedded_in
  embed_all r p n h a e =
      let same : embedded_in todays file budget wanted (length o) ≡ embedded file budget wanted (length o) = ap (λ (k : ℕ). embedded_in todays file budget wanted k) (sym (min-eq_left h)) in
      record { number = e ∙ packs _ r (embedded_tight file budget wanted (length o) h) a.outcome ∙ ap packed same; output = a.output ∙ ap (λ (x : Result). output_after x o) same }

-- a part of the output, and what follows it
drop_part : (k m : ℕ) (o : List ℕ) → k ≤ m → m ≤ length o → drop k (take m o) ++ drop m o ≡ drop k o
drop_part k m o h l = let e = length-take-le m o l in sym (drop-append-le k (take m o) (drop m o) (omega arith)) ∙ ap (drop k) (take-append-drop m o)

module _ (file : List ℕ) (budget wanted : ℕ) (o : List ℕ) where
  part_after : (r : Result) → Tight r → room_limit ≤ length o → output_after r (take room_limit o) ++ drop room_limit o ≡ output_after r o
  unfolding output_after
  part_after (refusal n p) h l = take-append-drop room_limit o
  part_after (end e n u b) h l = append_assoc b (drop (length b) (take room_limit o)) (drop room_limit o) ∙ ap (b ++◌) (drop_part (length b) room_limit o h.2 l)

  pub embed_some : (r : Outcome) (p : List ℕ) (n : ℕ) → 4_000_000_000 < length o → EmbedRuns file budget wanted (take 4_000_000_000 o) r p → n ≡ packed_of r → EmbedTells file budget wanted o n (p ++ drop 4_000_000_000 o)
  unfolding embedded_by embedded_in
  embed_some r p n h a e =
      let l : length (take room_limit o) ≡ room_limit = length-take-le room_limit o (omega arith) in
      let same : embedded_in todays file budget wanted (length (take room_limit o)) ≡ embedded file budget wanted (length o) = ap (λ (k : ℕ). embedded_in todays file budget wanted k) (l ∙ sym (min-eq_right (omega arith))) in
      let k = embedded_tight file budget wanted (length (take room_limit o)) (omega arith) in
      record {
        number = e ∙ packs file budget wanted (take room_limit o) _ r k a.outcome ∙ ap packed same;
        output = ap (◌++ drop room_limit o) a.output ∙ part_after _ k (omega arith) ∙ ap (λ (x : Result). output_after x o) same;
      }

pub room_part : (o : List ℕ) → 4_000_000_000 < length o → 4_000_000_000 ≡ length (take 4_000_000_000 o)
room_part o h = sym (length-take-le 4_000_000_000 o (omega arith))
