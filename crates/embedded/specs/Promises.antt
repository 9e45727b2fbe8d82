-- What follows from the promises of the exported functions: one content of every buffer and one number, what the two halves of the number
-- say, the third demand for what the embedded form wrote, that they do what they did where a request of document 02 changed nothing for a
-- file, and that where they are given no less and do not refuse they write what they wrote and go on from there.
-- Assumes nothing.
use Rattle.std.specs.Prelude.{ℕ, ◌+◌, ◌*◌, ◌/◌, ◌%◌, ◌^◌, ◌≤◌, ◌<◌, min, ltb, get_or, take}
use Rattle.std.proofs.Math.Path.{◌≡◌, refl, ap, ap₂, subst}
use Rattle.std.proofs.Common.{sym, ◌∙◌, ltb-false}
use mathlib.Core.List.{List, [], ◌∷◌, ◌++◌}
use native.Mathlib.Omega.{arith}
use Rattle.std.proofs.Math.Nat.{min-le_right}
use Rattle.std.proofs.Math.ListN.{length, drop}
use Rattle.laws.specs.IfLaws.{if_by}
use Rattle.meaning.specs.Kinds.{earlier_limits}
use Rattle.meaning.specs.Editions.{Edition, document_01, todays, within, keeping}
use Rattle.meaning.specs.Rules.{Goal, cut, Rules}
use Rattle.meaning.specs.Reading.{parse}
use Rattle.meaning.specs.Answers.{Answer, output}
use Rattle.meaning.specs.Call.{Result, refusal, end, result_by, result, output_after}
use Rattle.meaning.specs.Embedded.{embedded_in, embedded_by, embedded, embedded_limits, embedded_scratch, room_limit, packed}
use Rattle.meaning.specs.Outcome.{Said, to_say}
use Rattle.demands.specs.Proofs.{NoCut, Uncut}
use Rattle.demands.specs.Demands.{SaysWithin, Says, LeavesBy, Ends, Correct, Complete}
use Rattle.demands.specs.Rooms.{Small, result_small}
use Rattle.demands.specs.MoreRoom.{BeginningOf, Raised, Continued}
use Rattle.demands.proofs.MoreRoomLaws.{more_room_embedded, refused_alike}
use Rattle.demands.specs.Theorems.{not_refused, third_demand, third_demand_with_cut}
use Rattle.demands.specs.LargerLaws.{accepted_before, same_result as larger_result, same_embedded as larger_embedded}
use Rattle.demands.specs.QueryCutLaws.{same_result as cut_result, same_embedded as cut_embedded, settled_result, settled_embedded, at_most_one}
use Rattle.machine.specs.Calling.{limits_of, result_of}
use Rattle.machine.specs.Promises.{Left, came, given_by, taken, left_continued, left_same}
use Rattle.search.specs.declared.Limits.{Limits}
use Rattle.embedded.specs.Checking.{checked_number}
use Rattle.embedded.specs.Telling.{told_four, told_all, told, CallTells, EmbedTells}

-- one content of scratch, output and result
pub call_once : (file : List ℕ) (l : Limits) (budget wanted : ℕ) (w o r : List ℕ) (u v p q s t : List ℕ) → CallTells file l budget wanted w o r u p s → CallTells file l budget wanted w o r v q t → (u ≡ v) × (p ≡ q) × (s ≡ t)
call_once file l budget wanted w o r u v p q s t a b = (a.scratch ∙ sym b.scratch, a.output ∙ sym b.output, a.words ∙ sym b.words)

-- ---- an edition that gives the same result: the functions do what that edition says
module _ (file : List ℕ) (l : Limits) (budget wanted : ℕ) (w o r v p s : List ℕ) (a : CallTells file l budget wanted w o r v p s) where
  abbrev pub CallBy : Edition → Type 0
  CallBy E = (x : Result) × (s ≡ told (to_say x) r) × LeavesBy E file (limits_of l) budget wanted w o x v p

  call_by : (E : Edition) → result_by E file (limits_of l) budget wanted (length w) (length o) ≡ result_of file l budget wanted w o → CallBy E
  call_by E same = (result_of file l budget wanted w o, a.words, record { result_is = sym same; scratch_is = a.scratch; output_is = a.output })

  module _ (R : Rules) where
    -- 2026-01: a file that was good by the earlier limits
    pub call_before : SaysWithin earlier_limits file R → CallBy (within earlier_limits todays)
    call_before good = call_by _ (larger_result todays file R good (limits_of l) budget wanted (length w) (length o))

    -- 2026-02: a file whose query holds no cut
    pub call_uncut : Says file R → NoCut R.query → (h : ℕ) → CallBy (keeping h todays)
    call_uncut good n h = call_by _ (cut_result todays h file R good n (limits_of l) budget wanted (length w) (length o))

    -- by both: what document 01 says of such a file
    pub call_settled : SaysWithin earlier_limits file R → NoCut R.query → CallBy document_01
    call_settled good n = call_by _ (settled_result file R good n (limits_of l) budget wanted (length w) (length o))

module _ (file : List ℕ) (budget wanted : ℕ) (o : List ℕ) (n : ℕ) (p : List ℕ) (a : EmbedTells file budget wanted o n p) where
  abbrev pub RunBy : Edition → Type 0
  RunBy E = (n ≡ packed (embedded_by E file budget wanted (length o))) × (p ≡ output_after (embedded_by E file budget wanted (length o)) o)

  run_by : (E : Edition) → embedded file budget wanted (length o) ≡ embedded_by E file budget wanted (length o) → RunBy E
  run_by E same = (a.number ∙ ap packed same, a.output ∙ ap (λ (x : Result). output_after x o) same)

  module _ (R : Rules) where
    pub run_before : SaysWithin earlier_limits file R → RunBy (within earlier_limits todays)
    run_before good = run_by _ (larger_embedded todays file R good budget wanted (length o))

    pub run_uncut : Says file R → NoCut R.query → (h : ℕ) → RunBy (keeping h todays)
    run_uncut good n h = run_by _ (cut_embedded todays h file R good n budget wanted (length o))

    pub run_settled : SaysWithin earlier_limits file R → NoCut R.query → RunBy document_01
    run_settled good n = run_by _ (settled_embedded file R good n budget wanted (length o))

pub check_before : (file : List ℕ) (R : Rules) → SaysWithin earlier_limits file R → checked_number (parse file) ≡ 0
unfolding checked_number
check_before file R good = let (s, e, q) = accepted_before file R good in rw q refl

-- ---- the numbers of a result: those of document 01's tables, and what fits the lower half
abbrev pub Tight : Result → Type 0
Tight (refusal n p) = (1 ≤ n) × (n ≤ 9) × (p < 2 ^ 32)
Tight (end e n u b) = (20 ≤ e) × (e ≤ 26) × (length b ≤ room_limit)

tight : (file : List ℕ) (room : ℕ) (r : Result) → length file ≤ 4_000 → room ≤ room_limit → Small file room r → Tight r
tight file room (refusal n p) l h s = let k = s.2 in (s.0, s.1, omega arith)
tight file room (end e n u b) l h s = let k = s.2 in (s.0, s.1, omega arith)

pub embedded_tight : (file : List ℕ) (budget wanted room : ℕ) → room ≤ room_limit → Tight (embedded_in todays file budget wanted room)
unfolding embedded_in
embedded_tight file budget wanted room h =
    let good : Result = result file embedded_limits budget wanted embedded_scratch room in
    if_by Tight (ltb 4_000 (length file)) {x = refusal 2 0} {y = good} (λ e. (omega arith, omega arith, omega arith))
    (λ e. tight file room good (ltb-false 4_000 (length file) e) h (result_small file embedded_limits budget wanted embedded_scratch room))

module _ (file : List ℕ) (budget wanted : ℕ) (o : List ℕ) where
  -- one number and one content of the output
  pub run_once : (m n : ℕ) (p q : List ℕ) → EmbedTells file budget wanted o m p → EmbedTells file budget wanted o n q → (m ≡ n) × (p ≡ q)
  run_once m n p q a b = (a.number ∙ sym b.number, a.output ∙ sym b.output)

  -- ---- the number taken apart: a refusal with its place, and the output as it was, or an end with the bytes written
  pub data Apart (n : ℕ) (p : List ℕ) : Type 0 where
    refused : embedded file budget wanted (length o) ≡ refusal (n / 2 ^ 32) (n % 2 ^ 32) → n / 2 ^ 32 ≤ 9 → p ≡ o → Apart n p
    ended : (answers units : ℕ) (b : List ℕ) → embedded file budget wanted (length o) ≡ end (n / 2 ^ 32) answers units b → 20 ≤ n / 2 ^ 32 → n % 2 ^ 32 ≡ length b → p ≡ b ++ drop (length b) o → Apart n p

  apart : (r : Result) → embedded file budget wanted (length o) ≡ r → Tight r → (n : ℕ) (p : List ℕ) → n ≡ packed r → p ≡ output_after r o → Apart n p
  unfolding packed output_after
  apart (refusal m q) e (a, b, c) n p f g =
      let high : n / 2 ^ 32 ≡ m = omega arith in
      let low : n % 2 ^ 32 ≡ q = omega arith in
      refused (e ∙ ap₂ refusal (sym high) (sym low)) (omega arith) g
  apart (end m k u w) e (a, b, c) n p f g =
      let high : n / 2 ^ 32 ≡ m = omega arith in
      ended k u w (e ∙ ap (λ (x : ℕ). end x k u w) (sym high)) (omega arith) (omega arith) g

  pub run_apart : (n : ℕ) (p : List ℕ) → EmbedTells file budget wanted o n p → Apart n p
  unfolding embedded_by
  run_apart n p a = apart (embedded file budget wanted (length o)) refl (embedded_tight file budget wanted (min (length o) room_limit) (min-le_right (length o) room_limit)) n p a.number a.output

  -- ---- an end
  module _ (R : Rules) (says : Says file R) (e answers units : ℕ) (b : List ℕ) (gives : embedded file budget wanted (length o) ≡ end e answers units b) (n : ℕ) (p : List ℕ) (a : EmbedTells file budget wanted o n p) where
    whole : result file embedded_limits budget wanted embedded_scratch (min (length o) room_limit) ≡ end e answers units b
    unfolding embedded_by embedded_in
    whole =
        if_by (λ (x : Result). x ≡ end e answers units b → result file embedded_limits budget wanted embedded_scratch (min (length o) room_limit) ≡ end e answers units b) (ltb 4_000 (length file))
        (λ t q. let z : ◌≡◌ {A = ℕ} 0 1 = cc in absurd (omega arith)) (λ t q. q) gives

    ends : Ends R e answers units b
    ends = record { file = file; limits = embedded_limits; budget = budget; wanted = wanted; scratch = embedded_scratch; room = min (length o) room_limit; says = says; gives = whole }

    -- the answers that stand in the output, and the number that tells of them
    pub record Wrote (listed : List Answer) : Type 0 where
      pub answers_are : answers ≡ length listed
      pub number : n ≡ e * 2 ^ 32 + length (output listed)
      pub output_is : p ≡ output listed ++ drop (length (output listed)) o

    wrote : (listed : List Answer) → b ≡ output listed → answers ≡ length listed → Wrote listed
    unfolding packed output_after
    wrote listed f k = record {
      answers_are = k;
      number = a.number ∙ ap packed gives ∙ ap (λ (x : List ℕ). e * 2 ^ 32 + length x) f;
      output_is = a.output ∙ ap (λ (x : Result). output_after x o) gives ∙ ap (λ (x : List ℕ). x ++ drop (length x) o) f;
    }

    -- without cut, the answers that it wrote are complete
    pub run_complete : Uncut R → (listed : List Answer) × Wrote listed × Complete R listed (e ≡ 20)
    run_complete uncut = let (listed, f, k, c) = third_demand R e answers units b uncut ends in (listed, wrote listed f k, c)

    -- where the query's last goal is a cut, there is at most one
    pub run_at_most_one : (gs : List Goal) → R.query ≡ gs ++ cut ∷ [] → answers ≤ 1
    run_at_most_one gs last = at_most_one R gs last e answers units b ends

    -- with cut or without, they are right, and rise in dictionary order
    pub run_correct : (listed : List Answer) × Wrote listed × Correct R listed
    run_correct = let (listed, f, k, c) = third_demand_with_cut R e answers units b ends in (listed, wrote listed f k, c)

-- ---- 2026-14: two calls with the same file, and the second is given no less
-- a word of a result
abbrev pub word : List ℕ → ℕ → ℕ
word s i = get_or s i 0

-- the first five words of a result that holds as many
five_told : (n place answers units bytes : ℕ) (r : List ℕ) → 5 ≤ length r → let s = told_all n place answers units bytes r in
    (word s 0 ≡ n) × (word s 1 ≡ place) × (word s 2 ≡ answers) × (word s 3 ≡ units) × (word s 4 ≡ bytes)
unfolding told_all told_four
five_told n place answers units bytes [] h = absurd (omega arith)
five_told n place answers units bytes (_ ∷ []) h = absurd (omega arith)
five_told n place answers units bytes (_ ∷ _ ∷ []) h = absurd (omega arith)
five_told n place answers units bytes (_ ∷ _ ∷ _ ∷ []) h = absurd (omega arith)
five_told n place answers units bytes (_ ∷ _ ∷ _ ∷ _ ∷ []) h = absurd (omega arith)
five_told n place answers units bytes (_ ∷ _ ∷ _ ∷ _ ∷ _ ∷ r) h = (refl, refl, refl, refl, refl)

-- what a result of five words or more tells of a call that was not refused, with what it left
module _ (file : List ℕ) (l : Limits) (budget wanted : ℕ) (w o r v p s : List ℕ) (a : CallTells file l budget wanted w o r v p s) (five : 5 ≤ length r) (high : 20 ≤ word s 0) where
  call_came : (x : Result) → result_of file l budget wanted w o ≡ x → Left file l budget wanted w o (word s 2) (word s 3) (word s 4) (word s 0) v p
  unfolding told to_say
  call_came (refusal n q) g =
      let number = ap (λ (t : List ℕ). word t 0) (a.words ∙ ap (λ (x : Result). told (to_say x) r) g) ∙ (five_told n q 0 0 0 r five).0 in
      let small = subst (Small file (length o)) g (result_small file (limits_of l) budget wanted (length w) (length o)) in
      let most = small.1 in
      absurd (omega arith)
  call_came (end e n u b) g =
      let said : s ≡ told_all e 0 n u (length b) r = a.words ∙ ap (λ (x : Result). told (to_say x) r) g in
      let (f₀, f₁, f₂, f₃, f₄) = five_told e 0 n u (length b) r five in
      let small = subst (Small file (length o)) g (result_small file (limits_of l) budget wanted (length w) (length o)) in
      rw (said, f₀, f₂, f₃, f₄, a.scratch, a.output, g) (came file l budget wanted w o (end e n u b) g small)

  pub call_left : Left file l budget wanted w o (word s 2) (word s 3) (word s 4) (word s 0) v p
  call_left = call_came _ refl

module _ (file : List ℕ) (l m : Limits) (budget budget' wanted wanted' : ℕ) (w w' o o' : List ℕ) (raised : Raised (given_by l budget wanted w o) (given_by m budget' wanted' w' o'))
    (r r' v v' p p' s s' : List ℕ) (a : CallTells file l budget wanted w o r v p s) (b : CallTells file m budget' wanted' w' o' r' v' p' s')
    (five : 5 ≤ length r) (five' : 5 ≤ length r') (high : 20 ≤ word s 0) (high' : 20 ≤ word s' 0) where
  -- what the first wrote, by its result, is the beginning of what the second wrote
  pub call_continued : Continued (word s 0) (word s 2) (word s 3) (take (word s 4) p) (word s' 0) (word s' 2) (word s' 3) (take (word s' 4) p')
  call_continued =
      left_continued file l m budget budget' wanted wanted' w w' o o' raised
      (call_left file l budget wanted w o r v p s a five high) (call_left file m budget' wanted' w' o' r' v' p' s' b five' high')

  -- and where the first came to 20, both results tell the same
  pub call_no_more : word s 0 ≡ 20 → (y : Said) × (s ≡ told y r) × (s' ≡ told y r')
  call_no_more n =
      let same = left_same file l m budget budget' wanted wanted' w w' o o' raised (call_left file l budget wanted w o r v p s a five high) (call_left file m budget' wanted' w' o' r' v' p' s' b five' high') n in
      (to_say (result_of file l budget wanted w o), a.words, b.words ∙ ap (λ (x : Result). told (to_say x) r') (sym same))

-- the bytes that the embedded form wrote, by its number
abbrev pub written_by : ℕ → List ℕ → List ℕ
written_by n p = take (n % 2 ^ 32) p

-- the number of a call by the embedded form and the bytes that it wrote, and those of one that is given no less: it is not refused either
pub record RunContinued (n n' : ℕ) (bytes bytes' : List ℕ) : Type 0 where
  pub ends : 20 ≤ n' / 2 ^ 32
  pub beginning : BeginningOf bytes bytes'
  pub no_more : n / 2 ^ 32 ≡ 20 → (n ≡ n') × (bytes ≡ bytes')

module _ (file : List ℕ) (budget budget' wanted wanted' : ℕ) (o o' : List ℕ) (f : budget ≤ budget') (g : wanted ≤ wanted') (h : length o ≤ length o')
    (n n' : ℕ) (p p' : List ℕ) (a : EmbedTells file budget wanted o n p) (b : EmbedTells file budget' wanted' o' n' p') where
  both_apart : 20 ≤ n / 2 ^ 32 → Apart file budget wanted o n p → Apart file budget' wanted' o' n' p' → RunContinued n n' (written_by n p) (written_by n' p')
  both_apart high (refused e few is) y = absurd (omega arith)
  both_apart high (ended k u c gives many long is) (refused e few is') =
      absurd (not_refused _ _ _ k u c (sym (refused_alike todays file budget' budget wanted' wanted (length o') (length o) _ _ e) ∙ gives))
  both_apart high (ended k u c gives many long is) (ended k' u' c' gives' many' long' is') =
      let x = more_room_embedded todays file budget budget' wanted wanted' (length o) (length o') f g h _ k u c gives _ k' u' c' gives' in
      rw (← taken c o p (n % 2 ^ 32) (sym long) (rw long is), ← taken c' o' p' (n' % 2 ^ 32) (sym long') (rw long' is')) record {
        ends = many';
        beginning = x.beginning;
        no_more = λ q. let same = x.no_more q in (a.number ∙ ap packed (gives ∙ same ∙ sym gives') ∙ sym b.number, cc);
      }

  pub run_continued : 20 ≤ n / 2 ^ 32 → RunContinued n n' (written_by n p) (written_by n' p')
  run_continued high = both_apart high (run_apart file budget wanted o n p a) (run_apart file budget' wanted' o' n' p' b)
