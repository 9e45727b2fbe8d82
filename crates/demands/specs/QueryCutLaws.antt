-- What a cut in the query keeps: none of the choices today, all of them by document 01. A query that ends with one has at most one answer, and
-- where there is none nothing hangs on it.
-- Assumes nothing.
use Rattle.std.specs.Prelude.{ℕ, zero, suc, ◌+◌, ◌-◌, ◌≤◌, ◌<◌, min, ◌≡◌, refl, ◌⊎◌, List, [], ◌∷◌, ◌++◌, map, drop}
use Rattle.std.proofs.Common.{ap, sym, ◌∙◌, inl, inr, append_assoc}
use Rattle.std.proofs.lemmas.List.{map-append}
use native.Mathlib.Omega.{arith}
use Rattle.std.proofs.Math.ListN.{length, length-append}
use Rattle.std.proofs.Math.Seq.{drop-length}
use Rattle.meaning.specs.Editions.{Edition, document_01, todays, keeping}
use Rattle.meaning.specs.Rules.{Call, Goal, call, cut, Rules}
use Rattle.meaning.specs.Answers.{Answer}
use Rattle.meaning.specs.Moves.{Limits, Open, goal, cut_to, Derivation, Numbered, Choice, choice, cutting, Done, due}
use Rattle.meaning.specs.Moves.{nothing, spend, list, body_goal, query_goal, with_goals, with_binding, with_step, keep, answer, go_on, move, start_keeping, start, run}
use Rattle.meaning.specs.Call.{ending, run_read, result_by, result}
use Rattle.meaning.specs.Embedded.{embedded_limits, embedded_scratch, room_limit, embedded_in, embedded_by}
use Rattle.demands.specs.Proofs.{Each, NoCut}
use Rattle.demands.specs.Demands.{SaysWithin}
use Rattle.demands.specs.Order.{each_drop, keep_all}
use Rattle.demands.specs.Stops.{ReachedFrom}
use Rattle.demands.specs.Along.{Along, reached_holds, ends_over}
use Rattle.demands.specs.QueryCut.{DropsAll, DoesNothingElse, AtMostOne, SameCalls, SameEmbedded, Settled, SettledEmbedded}
use Rattle.demands.specs.Theorems.{result_ran}
use Rattle.demands.specs.LargerLaws.{accepted_before, same_result as larger_result, same_embedded as larger_embedded}

-- ---- no choice is kept
pub drops_all : DropsAll
unfolding move keep
drops_all R L wanted room n cs d =
    let all : length cs - 0 ≡ length cs = omega arith in
    ap (λ (x : List Choice). go_on R L wanted room n x d) (rw all (drop-length cs))

-- ---- there are never more choices than steps, nor more steps than S
-- each choice was met before the one after it, the last before there were u steps
abbrev Piled : ℕ → List Choice → Type 0
Piled u [] = Unit {0}
Piled u (choice ks g n ∷ cs) = (length n.steps < u) × Piled (length n.steps) cs

piled_few : (u : ℕ) (cs : List Choice) → Piled u cs → length cs ≤ u
piled_few u [] p = omega arith
piled_few u (choice ks g n ∷ cs) p = let l = piled_few (length n.steps) cs p.1 in let m = p.0 in omega arith

piled_more : (u v : ℕ) (cs : List Choice) → u ≤ v → Piled u cs → Piled v cs
piled_more u v [] l p = tt
piled_more u v (choice ks g n ∷ cs) l p = let m = p.0 in (omega arith, p.1)

piled_drop : (m u : ℕ) (cs : List Choice) → Piled u cs → Piled u (drop m cs)
piled_drop zero u cs p = p
piled_drop (suc m) u [] p = tt
piled_drop (suc m) u (choice ks g n ∷ cs) p = let l = p.0 in piled_drop m u cs (piled_more (length n.steps) u cs (omega arith) p.1)

module _ (R : Rules) (L : Limits) (wanted room : ℕ) where
  -- at a derivation; going back, with the steps there were
  abbrev Few : Derivation → List Choice → Type 0
  Few n cs = (length n.steps ≤ L.steps) × Piled (length n.steps) cs

  abbrev FewBack : List Choice → Type 0
  FewBack cs = (u : ℕ) × (u ≤ L.steps + 1) × Piled u cs

  few : Along R L wanted room
  unfolding with_goals with_binding with_step keep
  few = record {
    At = λ n cs d. Few n cs;
    Back = λ cs d. FewBack cs;
    Over = λ e d. Unit {0};
    goes_back = λ n cs d f. let l = f.0 in (length n.steps, omega arith, f.1);
    passes_over = λ g n cs d b. let l = b.1 in let m = b.2.0 in (length n.steps, omega arith, b.2.1);
    no_more = λ d b. tt;
    stops_at = λ cs d e z b. tt;
    calls = λ g gs n cs d e f. let l = f.0 in (length n.steps + 1, omega arith, (omega arith, f.1));
    enters = λ k ks g n cs d l b. let m = length-append n.steps (k.number ∷ []) in (omega arith, (omega arith, b.2.1));
    binds = λ x t n cs d f. f;
    cuts = λ h gs n cs d e f. (f.0, piled_drop (length cs - h) (length n.steps) cs f.1);
    answers = λ n cs d q e f. let l = f.0 in (length n.steps, omega arith, f.1);
    spends_at = λ n cs d f. f;
    spends_back = λ cs d b. b;
  }

  few_choices : (h budget j : ℕ) (n : Derivation) (cs : List Choice) (d : Done)
      → ReachedFrom R L wanted room (start_keeping R L wanted room h) budget (due (cutting j n cs) d) → length cs ≤ L.steps
  unfolding few with_goals
  few_choices h budget j n cs d r =
      let f = reached_holds R L wanted room few h budget (omega arith, tt) r in
      let l = f.0 in
      let c = piled_few (length n.steps) cs f.1 in
      omega arith

pub does_nothing_else : DoesNothingElse
unfolding move
does_nothing_else R L wanted room budget s n cs d r =
    let l = few_choices R L wanted room document_01.query_keeps budget document_01.query_keeps n cs d r in
    ap (λ (x : List Choice). go_on R L wanted room n x (spend d)) (keep_all document_01.query_keeps cs (omega arith))

-- ---- a query that ends with a cut
-- the last of the open goals is a cut that keeps no choice
abbrev LastCut : List Open → Type 0
LastCut gs = (os : List Open) × (gs ≡ os ++ cut_to 0 ∷ [])

abbrev LastCutOf : Choice → Type 0
LastCutOf (choice ks g n) = LastCut n.goals

-- it is still open, wherever the search may go, and nothing is listed; or it has been made, and what is listed comes of its derivation
data Waiting : List Open → List Choice → List Answer → Type 0 where
  open_yet : {gs : List Open} {cs : List Choice} → LastCut gs → Each LastCutOf cs → Waiting gs cs []
  made : Waiting [] [] []

data WaitingBack : List Choice → List Answer → Type 0 where
  open_still : {cs : List Choice} → Each LastCutOf cs → WaitingBack cs []
  no_choice : {ls : List Answer} → length ls ≤ 1 → WaitingBack [] ls

waiting_few : {cs : List Choice} {ls : List Answer} → WaitingBack cs ls → length ls ≤ 1
waiting_few (open_still w) = omega arith
waiting_few (no_choice l) = l

-- behind the first goal the cut is still the last, unless it is the first
last_behind : (o : Open) (gs os : List Open) → o ∷ gs ≡ os ++ cut_to 0 ∷ [] → LastCut gs ⊎ ((o ≡ cut_to 0) × (gs ≡ []))
last_behind o gs [] e = inr (cc, cc)
last_behind o gs (p ∷ os) e = inl (os, cc)

never_last : (os : List Open) → [] ≡ os ++ cut_to 0 ∷ [] → ⊥
never_last [] e = let z : ◌≡◌ {A = ℕ} 0 1 = cc in omega arith
never_last (o ∷ os) e = let z : ◌≡◌ {A = ℕ} 0 1 = cc in omega arith

waiting_back : {gs : List Open} {cs : List Choice} {ls : List Answer} → Waiting gs cs ls → WaitingBack cs ls
waiting_back (open_yet l w) = open_still w
waiting_back made = no_choice {ls = []} (omega arith)

waiting_over : {ks : List Numbered} {g : Call} {n : Derivation} {cs : List Choice} {ls : List Answer} → WaitingBack (choice ks g n ∷ cs) ls → WaitingBack cs ls
waiting_over (open_still w) = open_still w.1

waiting_called : (ks : List Numbered) (g : Call) (gs hs : List Open) (n : Derivation) {cs : List Choice} {ls : List Answer} → hs ≡ goal g ∷ gs → Waiting hs cs ls → WaitingBack (choice ks g (with_goals gs n) ∷ cs) ls
unfolding with_goals
waiting_called ks g gs hs n {cs = cs} e (open_yet (os, q) w) = go (last_behind (goal g) gs os (sym e ∙ q))
  where
    go : LastCut gs ⊎ ((goal g ≡ cut_to 0) × (gs ≡ [])) → WaitingBack (choice ks g (with_goals gs n) ∷ cs) []
    go (inl l) = open_still {cs = choice ks g (with_goals gs n) ∷ cs} (l, w)
    go (inr (z, y)) = let x : ◌≡◌ {A = ℕ} 0 1 = cc in absurd (omega arith)
waiting_called ks g gs hs n e made = let x : ◌≡◌ {A = ℕ} 0 1 = cc in absurd (omega arith)

waiting_entered : (k : Numbered) (ks : List Numbered) (g : Call) (n : Derivation) (h : ℕ) {cs : List Choice} {ls : List Answer} → WaitingBack (choice (k ∷ ks) g n ∷ cs) ls → Waiting (with_step k h n).goals (choice ks g n ∷ cs) ls
unfolding with_step
waiting_entered k ks g n h {cs = cs} (open_still ((os, q), w)) =
    open_yet {cs = choice ks g n ∷ cs} (map (body_goal n.cells h) k.clause.body ++ os, ap (map (body_goal n.cells h) k.clause.body ++◌) q ∙ sym (append_assoc (map (body_goal n.cells h) k.clause.body) os (cut_to 0 ∷ []))) ((os, q), w)

waiting_cut : (h : ℕ) (gs hs : List Open) {cs : List Choice} {ls : List Answer} → hs ≡ cut_to h ∷ gs → Waiting hs cs ls → Waiting gs (keep h cs) ls
unfolding keep
waiting_cut h gs hs {cs = cs} e (open_yet (os, q) w) = go (last_behind (cut_to h) gs os (sym e ∙ q))
  where
    go : LastCut gs ⊎ ((cut_to h ≡ cut_to 0) × (gs ≡ [])) → Waiting gs (drop (length cs - h) cs) []
    go (inl l) = open_yet l (each_drop LastCutOf (length cs - h) cs w)
    go (inr (z, y)) =
        let none : h ≡ 0 = cc in
        let all : length cs - h ≡ length cs = omega arith in
        rw (y, all, drop-length cs) made
waiting_cut h gs hs e made = let x : ◌≡◌ {A = ℕ} 0 1 = cc in absurd (omega arith)

waiting_listed : (gs : List Open) (a : Answer) {cs : List Choice} {ls : List Answer} → gs ≡ [] → Waiting gs cs ls → WaitingBack cs (ls ++ a ∷ [])
waiting_listed gs a e (open_yet (os, q) w) = absurd (never_last os (sym e ∙ q))
waiting_listed gs a e made = no_choice {ls = a ∷ []} (omega arith)

module _ (R : Rules) (L : Limits) (wanted room : ℕ) where
  once : Along R L wanted room
  unfolding with_goals with_binding list spend
  once = record {
    At = λ n cs d. Waiting n.goals cs d.listed;
    Back = λ cs d. WaitingBack cs d.listed;
    Over = λ e d. length d.listed ≤ 1;
    goes_back = λ n cs d w. waiting_back w;
    passes_over = λ g n cs d b. waiting_over b;
    no_more = λ d b. waiting_few b;
    stops_at = λ cs d e z b. waiting_few b;
    calls = λ g gs n cs d e w. waiting_called _ g gs n.goals n e w;
    enters = λ k ks g n cs d l b. waiting_entered k ks g n (length cs) b;
    binds = λ x t n cs d w. w;
    cuts = λ h gs n cs d e w. waiting_cut h gs n.goals e w;
    answers = λ n cs d q e w. waiting_listed n.goals (answer R L wanted room n) q w;
    spends_at = λ n cs d w. w;
    spends_back = λ cs d b. b;
  }

  -- the cut is the last of the open goals at the start
  asked_last : (gs : List Goal) → R.query ≡ gs ++ cut ∷ [] → LastCut (map (query_goal 0) R.query)
  unfolding query_goal
  asked_last gs e = (map (query_goal 0) gs, rw e (map-append (query_goal 0) gs (cut ∷ [])))

  run_once : (gs : List Goal) → R.query ≡ gs ++ cut ∷ [] → (budget : ℕ) → length (run R L wanted room budget (start R L wanted room)).1.listed ≤ 1
  unfolding once nothing
  run_once gs e budget = ends_over R L wanted room once todays.query_keeps budget (open_yet (asked_last gs e) tt)

pub at_most_one : AtMostOne
unfolding ending
at_most_one R gs q e n u b c =
    let ran = result_ran c.file c.limits c.budget c.wanted c.scratch c.room e n u b R c.says c.gives in
    let few = run_once R c.limits c.wanted c.room gs q c.budget in
    let same : length (run R c.limits c.wanted c.room c.budget (start R c.limits c.wanted c.room)).1.listed ≡ n = cc in
    omega arith

-- ---- a query without cut
same_goals : (h k : ℕ) (gs : List Goal) → NoCut gs → map (query_goal h) gs ≡ map (query_goal k) gs
unfolding query_goal
same_goals h k [] n = refl
same_goals h k (call g ∷ gs) n = ap (goal g ∷◌) (same_goals h k gs n)
same_goals h k (cut ∷ gs) n = absurd n

same_start : (R : Rules) → NoCut R.query → (L : Limits) (wanted room h k : ℕ) → start_keeping R L wanted room h ≡ start_keeping R L wanted room k
unfolding start_keeping
same_start R n L wanted room h k = rw (same_goals h k R.query n) refl

pub same_result : (E : Edition) (h : ℕ) (file : List ℕ) (R : Rules) → SaysWithin E.limits file R → NoCut R.query → (L : Limits) (budget wanted scratch room : ℕ)
    → result_by (keeping h E) file L budget wanted scratch room ≡ result_by E file L budget wanted scratch room
unfolding result_by run_read
same_result E h file R (s, e, q) n L budget wanted scratch room = rw (q, same_start R n L wanted room h E.query_keeps) refl

pub same_calls : SameCalls
same_calls E h file R says n L budget wanted scratch out r scratch_then out_then l =
    record { result_is = l.result_is ∙ same_result E h file R says n L budget wanted (length scratch) (length out); scratch_is = l.scratch_is; output_is = l.output_is }

pub same_embedded : SameEmbedded
unfolding embedded_by embedded_in
same_embedded E h file R says n budget wanted room = rw (same_result E h file R says n embedded_limits budget wanted embedded_scratch (min room room_limit)) refl

-- ---- with 2026-01
pub settled_result : (file : List ℕ) (R : Rules) → SaysWithin document_01.limits file R → NoCut R.query → (L : Limits) (budget wanted scratch room : ℕ)
    → result_by document_01 file L budget wanted scratch room ≡ result file L budget wanted scratch room
settled_result file R says n L budget wanted scratch room =
    larger_result document_01 file R says L budget wanted scratch room
    ∙ same_result todays document_01.query_keeps file R (accepted_before file R says) n L budget wanted scratch room

pub settled : Settled
settled file R says n L budget wanted scratch out r scratch_then out_then l =
    record { result_is = l.result_is ∙ settled_result file R says n L budget wanted (length scratch) (length out); scratch_is = l.scratch_is; output_is = l.output_is }

pub settled_embedded : SettledEmbedded
settled_embedded file R says n budget wanted room =
    same_embedded todays document_01.query_keeps file R (accepted_before file R says) n budget wanted room
    ∙ larger_embedded document_01 file R says budget wanted room
