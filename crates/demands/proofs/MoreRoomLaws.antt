-- A run beside one that is given no less: from the same state both come to the same, or the first is stopped there, not with 20, and the
-- second goes on from what was done. So what the first lists is the beginning of what the second lists.
-- Assumes nothing.
use Prim.Native.Nat.{ℕ, zero, suc, ◌+◌, ◌≤◌, ◌<◌, min}
use Rattle.std.proofs.Math.Path.{◌≡◌, refl, subst}
use Rattle.std.proofs.Common.{ap, sym, ◌∙◌, inl, inr}
use Rattle.std.specs.Prelude.{◌≢◌, ◌⊎◌, Bool, not, ltb, eqb}
use Rattle.std.proofs.Math.Bool.{true, false}
use mathlib.Core.List.{List, [], ◌∷◌, ◌++◌, append-nil, append_assoc}
use native.Mathlib.Omega.{arith}
use Rattle.std.proofs.Math.ListN.{length, length-append}
use borrow.Author.Tests.{ltb-false, le-ltb, eqb-false, ne_eqb}
use Rattle.meaning.specs.If.{when◌then◌else◌}
use Rattle.meaning.specs.Kinds.{file_limit}
use Rattle.meaning.specs.Editions.{Edition}
use Rattle.meaning.specs.Terms.{Term, var, app}
use Rattle.meaning.specs.Rules.{Rules}
use Rattle.meaning.specs.Reading.{Read, refused, read, parse_within}
use Rattle.meaning.specs.Answers.{Answer, Piece, piece, output, Fit, fits, stops, fitting}
use Rattle.meaning.specs.Moves.{Limits, Open, goal, cut_to, Derivation, Numbered, Choice, choice, Pair, Move, trying, taking, cutting, Done, State, ended, due}
use Rattle.meaning.specs.Moves.{nothing, spend, list, asked, pairs, with_binding, keep, fail, answer, answered, put_out, answering, take_goal, go_on, matching, binding, compared, take_pair, try_head, move, start_keeping, run}
use Rattle.meaning.specs.Call.{Result, refusal, end, in_range, needed, ending, run_read, result_by}
use Rattle.meaning.specs.Embedded.{embedded_limits, embedded_scratch, room_limit, embedded_in, embedded_by}
use Rattle.laws.specs.IfLaws.{if_by, if_true, if_false}
use Rattle.demands.specs.Stops.{fitting_unfit, unfit_range, started, moved, reached_once}
use Rattle.demands.specs.Rooms.{output_append, never_fits}
use Rattle.demands.specs.Theorems.{not_refused, result_read}
use Rattle.demands.specs.MoreRoom.{Given, Raised, BeginningOf, Continued, MoreRoom, RefusedFor, MoreRoomEmbedded, RefusedAlike, Reaches, Goes, MoveByMove, SameStates}

-- ---- beginnings
begins_itself : {A : Type 0} (xs : List A) → BeginningOf xs xs
begins_itself xs = ([], sym (append-nil xs))

begins_then : {A : Type 0} (xs ys zs : List A) → BeginningOf xs ys → BeginningOf ys zs → BeginningOf xs zs
begins_then xs ys zs (us, p) (vs, q) = (us ++ vs, q ∙ ap (◌++ vs) p ∙ append_assoc xs us vs)

-- what was done is kept: the answers listed come first, and no unit is given back
abbrev Kept : Done → Done → Type 0
Kept d c = BeginningOf d.listed c.listed × (d.units ≤ c.units)

kept_itself : (d : Done) → Kept d d
kept_itself d = (begins_itself d.listed, omega arith)

kept_then : (d c b : Done) → Kept d c → Kept c b → Kept d b
kept_then d c b (p, h) (q, k) = (begins_then d.listed c.listed b.listed p q, omega arith)

kept_spent : (d : Done) → Kept d (spend d)
unfolding spend
kept_spent d = (begins_itself d.listed, omega arith)

kept_listed : (a : Answer) (d : Done) → Kept d (list a d)
unfolding list
kept_listed a d = ((a ∷ [], refl), omega arith)

-- ---- what passes no limit passes no raised one
ltb_raised : (l m n : ℕ) → l ≤ m → ltb l n ≡ false → ltb m n ≡ false
ltb_raised l m n h p = let q = ltb-false l n p in le-ltb m n (omega arith)

fitting_raised : (room room' W W' size : ℕ) (ps : List Piece) → room ≤ room' → W ≤ W' → fitting room W size ps ≡ fits → fitting room' W' size ps ≡ fits
unfolding fitting
fitting_raised room room' W W' size [] h k e = refl
fitting_raised room room' W W' size (piece b nodes ∷ ps) h k e =
    let G : Fit → Type 0 = λ f. f ≡ fits → fitting room' W' size (piece b nodes ∷ ps) ≡ fits in
    if_by G (ltb room (size + length b)) (λ p q. absurd (never_fits 26 q))
    (λ p. if_by G (ltb W nodes) (λ r q. absurd (never_fits 25 q))
    (λ r q. if_false _ _ _ (ltb_raised room room' _ h p) ∙ if_false _ _ _ (ltb_raised W W' _ k r) ∙ fitting_raised room room' W W' (size + length b) ps h k q)) e

-- ---- What comes of d where so many answers are wanted: what was done is kept, and a move is due only while fewer are listed
abbrev Since : ℕ → Done → State → Type 0
Since wanted d (ended e c) = Kept d c
Since wanted d (due m c) = Kept d c × (length c.listed < wanted)

since_raised : (wanted wanted' : ℕ) (d : Done) (s : State) → wanted ≤ wanted' → Since wanted d s → Since wanted' d s
since_raised wanted wanted' d (ended e c) h k = k
since_raised wanted wanted' d (due m c) h (k, l) = (k, omega arith)

since_then : (wanted : ℕ) (d c : Done) (s : State) → Kept d c → Since wanted c s → Since wanted d s
since_then wanted d c (ended e b) k j = kept_then d c b k j
since_then wanted d c (due m b) k (j, l) = (kept_then d c b k j, l)

fail_since : (wanted : ℕ) (cs : List Choice) (d : Done) → length d.listed < wanted → Since wanted d (fail cs d)
unfolding fail
fail_since wanted [] d l = kept_itself d
fail_since wanted (choice [] g n ∷ cs) d l = fail_since wanted cs d l
fail_since wanted (choice (k ∷ ks) g n ∷ cs) d l = (kept_itself d, l)

answered_since : (R : Rules) (a : Given) (cs : List Choice) (d : Done) → length d.listed ≤ a.wanted → Since a.wanted d (answered R a.limits a.wanted a.room cs d)
unfolding answered
answered_since R a cs d l =
    if_by (Since a.wanted d) (eqb (length d.listed) a.wanted) (λ p. kept_itself d)
    (λ p. fail_since a.wanted cs d (let n = eqb-false (length d.listed) a.wanted p in omega arith))

raised_itself : (a : Given) → Raised a a
raised_itself a = omega arith

module _ (R : Rules) (a b : Given) (r : Raised a b) where
  -- What comes of d as the one and as the other is given: the same; or an end of the first, not 20, and what comes of the second goes on
  -- from what was done there
  data Beside (d : Done) : State → State → Type 0 where
    same : {s : State} → Since a.wanted d s → Beside d s s
    stopped : {e : ℕ} {c : Done} {t : State} → e ≢ 20 → Kept d c → Since b.wanted c t → Beside d (ended e c) t

  -- so with what f gives for the one and for the other, where fewer answers are listed than the first wants
  abbrev Both : Done → (Given → State) → Type 0
  Both d f = length d.listed < a.wanted → Beside d (f a) (f b)

  beside_since : {d : Done} {s t : State} → Beside d s t → Since b.wanted d t
  beside_since {d} (same {s} k) = since_raised a.wanted b.wanted d s r.wanted k
  beside_since {d} (stopped {c = c} {t = t} n k j) = since_then b.wanted d c t k j

  beside_then : {d c : Done} {s t : State} → Kept d c → Beside c s t → Beside d s t
  beside_then {d} {c} k (same {s} j) = same (since_then a.wanted d c s k j)
  beside_then {d} {c} k (stopped {c = x} n i j) = stopped n (kept_then d c x k i) j

  -- a test of a limit, and of the raised one
  limit_beside : (d : Done) (e : ℕ) (x y : Bool) {s t : State} → e ≢ 20 → (x ≡ false → y ≡ false) → Beside d s t
      → Beside d (when x then ended e d else s) (when y then ended e d else t)
  unfolding when◌then◌else◌
  limit_beside d e true true n f k = same {s = ended e d} (kept_itself d)
  limit_beside d e true false n f k = stopped n (kept_itself d) (beside_since k)
  limit_beside d e false true n f k = let z : ◌≡◌ {A = ℕ} 0 1 = cc (f refl) in absurd (omega arith)
  limit_beside d e false false n f k = k

  -- a test that has no part in what is given
  test_beside : (d : Done) (x : Bool) {s t u v : State} → Beside d s t → Beside d u v → Beside d (when x then s else u) (when x then t else v)
  unfolding when◌then◌else◌
  test_beside d true j k = j
  test_beside d false j k = k

  -- ---- each part of a move
  fail_beside : (cs : List Choice) (d : Done) → Both d (λ x. fail cs d)
  fail_beside cs d l = same (fail_since a.wanted cs d l)

  due_beside : (m : Move) (d : Done) → Both d (λ x. due m d)
  due_beside m d l = same {s = due m d} (kept_itself d, l)

  answered_beside : (cs : List Choice) (d : Done) → length d.listed ≤ a.wanted → Beside d (answered R a.limits a.wanted a.room cs d) (answered R b.limits b.wanted b.room cs d)
  unfolding answered
  answered_beside cs d l =
      let h = r.wanted in
      if_by (λ s. Beside d s (answered R b.limits b.wanted b.room cs d)) (eqb (length d.listed) a.wanted)
      (λ p. stopped (omega arith) (kept_itself d) (answered_since R b cs d (omega arith)))
      (λ p. let n = eqb-false (length d.listed) a.wanted p in
      subst (Beside d (fail cs d)) (sym (if_false (eqb (length d.listed) b.wanted) _ _ (ne_eqb (length d.listed) b.wanted (λ q. omega arith)))) (fail_beside cs d (omega arith)))

  put_out_beside : (f g : Fit) (x : Answer) (cs : List Choice) (d : Done) → (f ≡ fits → g ≡ fits) → ((e : ℕ) → f ≡ stops e → e ≢ 20) → length d.listed < a.wanted
      → Beside d (put_out R a.limits a.wanted a.room f x cs d) (put_out R b.limits b.wanted b.room g x cs d)
  unfolding put_out list
  put_out_beside f g x cs d h k l = go f g h k
    where
      room_for_one : length (list x d).listed ≤ a.wanted
      room_for_one = let q = length-append d.listed (x ∷ []) in omega arith

      listed : Beside d (answered R a.limits a.wanted a.room cs (list x d)) (answered R b.limits b.wanted b.room cs (list x d))
      listed = beside_then (kept_listed x d) (answered_beside cs (list x d) room_for_one)

      go : (f g : Fit) → (f ≡ fits → g ≡ fits) → ((e : ℕ) → f ≡ stops e → e ≢ 20)
          → Beside d (put_out R a.limits a.wanted a.room f x cs d) (put_out R b.limits b.wanted b.room g x cs d)
      go fits fits h k = listed
      go fits (stops e) h k = absurd (never_fits e (h refl))
      go (stops e) fits h k = stopped (k e refl) (kept_itself d) (beside_since listed)
      go (stops e) (stops i) h k = stopped (k e refl) (kept_itself d) (kept_itself d)

  answering_beside : (n : Derivation) (cs : List Choice) (d : Done) → Both d (λ x. answering R x.limits x.wanted x.room n cs d)
  unfolding answering answer
  answering_beside n cs d l =
      let h = r.room in
      put_out_beside _ _ (answer R a.limits a.wanted a.room n) cs d
      (λ e. fitting_raised _ _ _ _ 0 _ (omega arith) r.work e)
      (λ e q z. let i = unfit_range (fitting_unfit _ _ 0 _ q) in omega arith) l

  take_goal_beside : (gs : List Open) (n : Derivation) (cs : List Choice) (d : Done) → Both d (λ x. take_goal R x.limits x.wanted x.room gs n cs d)
  unfolding take_goal
  take_goal_beside [] n cs d = answering_beside n cs d
  take_goal_beside (goal g ∷ gs) n cs d = fail_beside _ d
  take_goal_beside (cut_to h ∷ gs) n cs d = due_beside _ d

  go_on_beside : (n : Derivation) (cs : List Choice) (d : Done) → Both d (λ x. go_on R x.limits x.wanted x.room n cs d)
  unfolding go_on
  go_on_beside n cs d = take_goal_beside n.goals n cs d

  matching_beside : (ps : List Pair) (n : Derivation) (cs : List Choice) (d : Done) → Both d (λ x. matching R x.limits x.wanted x.room ps n cs d)
  unfolding matching
  matching_beside [] n cs d = go_on_beside n cs d
  matching_beside (p ∷ ps) n cs d = due_beside _ d

  binding_beside : (v : ℕ) (t : Term) (ps : List Pair) (n : Derivation) (cs : List Choice) (d : Done) → Both d (λ x. binding R x.limits x.wanted x.room v t ps n cs d)
  unfolding binding
  binding_beside v t ps n cs d l = test_beside d _ (fail_beside cs d l) (matching_beside ps (with_binding v t n) cs d l)

  compared_beside : (t u : Term) (ps : List Pair) (n : Derivation) (cs : List Choice) (d : Done) → Both d (λ x. compared R x.limits x.wanted x.room t u ps n cs d)
  unfolding compared
  compared_beside (var v) (var w) ps n cs d l = test_beside d _ (matching_beside ps n cs d l) (binding_beside w (var v) ps n cs d l)
  compared_beside (app f ts) (var w) ps n cs d l = binding_beside w (app f ts) ps n cs d l
  compared_beside (var v) (app g us) ps n cs d l = binding_beside v (app g us) ps n cs d l
  compared_beside (app f ts) (app g us) ps n cs d l =
      test_beside d _ (fail_beside cs d l)
      (limit_beside d 25 _ _ (omega arith) (ltb_raised _ _ _ r.work) (matching_beside (pairs ts us ++ ps) n cs d l))

  try_head_beside : (k : Numbered) (c : Choice) (cs : List Choice) (d : Done) → Both d (λ x. try_head R x.limits x.wanted x.room k c cs d)
  unfolding try_head
  try_head_beside k (choice ks g n) cs d l =
      limit_beside d 23 _ _ (omega arith) (ltb_raised _ _ _ r.cells)
      (limit_beside d 24 _ _ (omega arith) (ltb_raised _ _ _ r.steps) (matching_beside _ _ _ d l))

  move_beside : (m : Move) (d : Done) → Both d (λ x. move R x.limits x.wanted x.room m d)
  unfolding move take_pair
  move_beside (trying k c cs) d = try_head_beside k c cs d
  move_beside (taking p ps n cs) d = compared_beside _ _ ps n cs d
  move_beside (cutting h n cs) d = go_on_beside n (keep h cs) d

-- ---- the start, a move and a run, as a call is given
abbrev starts : Rules → Given → ℕ → State
starts R a = start_keeping R a.limits a.wanted a.room

abbrev moves : Rules → Given → Move → Done → State
moves R a = move R a.limits a.wanted a.room

abbrev runs : Rules → Given → ℕ → State → ℕ × Done
runs R a = run R a.limits a.wanted a.room

-- ---- one run by itself: the first and the second are given the same
module _ (R : Rules) (a : Given) where
  move_since : (m : Move) (d : Done) → length d.listed < a.wanted → Since a.wanted d (moves R a m d)
  move_since m d l = beside_since R a a (raised_itself a) (move_beside R a a (raised_itself a) m d l)

  -- a unit is spent, and the move made
  next_since : (d : Done) (m : Move) (c : Done) → Since a.wanted d (due m c) → Since a.wanted d (moves R a m (spend c))
  unfolding spend
  next_since d m c (k, l) = since_then a.wanted d (spend c) (moves R a m (spend c)) (kept_then d c (spend c) k (kept_spent c)) (move_since m (spend c) l)

  start_since : (h : ℕ) → Since a.wanted nothing (starts R a h)
  unfolding start_keeping nothing
  start_since h =
      let P : State → Type 0 = Since a.wanted nothing in
      if_by P (eqb a.wanted 0) (λ p. kept_itself nothing)
      (λ p. if_by P (ltb a.limits.cells R.variables) (λ q. kept_itself nothing)
      (λ q. let n = eqb-false a.wanted 0 p in
      beside_since R a a (raised_itself a) (go_on_beside R a a (raised_itself a) (asked R h) [] nothing (omega arith))))

  -- in every state of a run
  reached_since : (E : Edition) {s : State} → Reaches E R a s → Since a.wanted nothing s
  reached_since E started = start_since E.query_keeps
  reached_since E (moved {m = m} {d = d} i l) = next_since nothing m d (reached_since E i)

  -- and at its end
  run_since : (left : ℕ) (d : Done) (s : State) → Since a.wanted d s → Kept d (runs R a left s).1
  unfolding run
  run_since zero d (ended e c) k = k
  run_since zero d (due m c) k = k.0
  run_since (suc left) d (ended e c) k = k
  run_since (suc left) d (due m c) k = run_since left d (moves R a m (spend c)) (next_since d m c k)

  run_ended : (left e : ℕ) (d : Done) → runs R a left (ended e d) ≡ (e, d)
  unfolding run
  run_ended zero e d = refl
  run_ended (suc left) e d = refl

-- ---- two runs
-- what the first has done is kept by the second, and where the first comes to 20 they are the same
abbrev Keeps : ℕ × Done → ℕ × Done → Type 0
Keeps p q = Kept p.1 q.1 × (p.0 ≡ 20 → p ≡ q)

module _ (R : Rules) (a b : Given) (r : Raised a b) where
  start_beside : (h : ℕ) → Beside R a b r nothing (starts R a h) (starts R b h)
  unfolding start_keeping nothing
  start_beside h =
      let g = r.wanted in
      if_by (λ s. Beside R a b r nothing s (starts R b h)) (eqb a.wanted 0)
      (λ p. stopped (omega arith) (kept_itself nothing) (start_since R b h))
      (λ p. let n = eqb-false a.wanted 0 p in
      subst (Beside R a b r nothing _) (sym (if_false (eqb b.wanted 0) _ _ (ne_eqb b.wanted 0 (λ q. omega arith))))
      (limit_beside R a b r nothing 23 _ _ (omega arith) (ltb_raised _ _ _ r.cells)
      (go_on_beside R a b r (asked R h) [] nothing (omega arith))))

  beside_keeps : (left left' : ℕ) {d : Done} {s t : State}
      → ((u : State) → Since a.wanted d u → Keeps (runs R a left u) (runs R b left' u))
      → Beside R a b r d s t → Keeps (runs R a left s) (runs R b left' t)
  beside_keeps left left' f (same {s} k) = f s k
  beside_keeps left left' f (stopped {e} {c} {t} n k j) =
      subst (λ (p : ℕ × Done). Keeps p (runs R b left' t)) (sym (run_ended R a left e c)) (run_since R b left' c t j, λ q. absurd (n q))

  run_keeps : (left left' : ℕ) → left ≤ left' → (d : Done) (s : State) → Since a.wanted d s
      → Keeps (runs R a left s) (runs R b left' s)
  unfolding run spend
  run_keeps zero left' h d (ended e c) k = rw (run_ended R b left' e c) (kept_itself c, λ q. refl)
  run_keeps zero left' h d (due m c) (k, l) = let g = r.wanted in (run_since R b left' c (due m c) (kept_itself c, omega arith), λ q. absurd (omega arith))
  run_keeps (suc left) zero h d s k = absurd (omega arith)
  run_keeps (suc left) (suc left') h d (ended e c) k = (kept_itself c, λ q. refl)
  run_keeps (suc left) (suc left') h d (due m c) (k, l) = beside_keeps left left' (run_keeps left left' (omega arith) (spend c)) (move_beside R a b r m (spend c) l)

  -- a state that is not stopped by what the first was given
  beside_goes : (P : State → Type 0) {d : Done} {s t : State} → Beside R a b r d s t → Goes s → P t → P s
  beside_goes P (same k) g p = p
  beside_goes P (stopped n k j) g p = absurd (n g)

pub move_by_move : MoveByMove
unfolding spend
move_by_move E R a b r s g started = beside_goes R a b r (Reaches E R b) (start_beside R a b r E.query_keeps) g started
move_by_move E R a b r s g (moved {m = m} {d = d} i l) =
    let (k, f) = reached_since R a E i in
    let h = r.budget in
    beside_goes R a b r (Reaches E R b) (move_beside R a b r m (spend d) f) g (moved (move_by_move E R a b r (due m d) tt i) (omega arith))

pub same_states : SameStates
same_states E R a b r s t g i j e = reached_once R b.limits b.wanted b.room j (move_by_move E R a b r s g i) e

-- ---- two calls
ending_continued : (p q : ℕ × Done) (e n u e' n' u' : ℕ) (w w' : List ℕ) → Keeps p q → ending p ≡ end e n u w → ending q ≡ end e' n' u' w' → Continued e n u w e' n' u' w'
unfolding ending
ending_continued p q e n u e' n' u' w w' (((bs, more), units), twin) x y =
    let number : p.0 ≡ e = cc in
    let first : output p.1.listed ≡ w = cc in
    let second : output q.1.listed ≡ w' = cc in
    let few : length p.1.listed ≡ n = cc in
    let many : length q.1.listed ≡ n' = cc in
    let spent : p.1.units ≡ u = cc in
    let spent' : q.1.units ≡ u' = cc in
    let long = ap length more ∙ length-append p.1.listed bs in
    record {
      beginning = (output bs, sym second ∙ ap output more ∙ output_append p.1.listed bs ∙ ap (◌++ output bs) first);
      more_answers = omega arith;
      more_units = omega arith;
      no_more = λ h. sym x ∙ ap ending (twin (number ∙ h)) ∙ y;
    }

-- the same file, read and run as the one call and as the other is given
read_continued : (E : Edition) (x : Read Rules) (a b : Given) → Raised a b → (e n u e' n' u' : ℕ) (w w' : List ℕ)
    → run_read E x a.limits a.budget a.wanted a.room ≡ end e n u w → run_read E x b.limits b.budget b.wanted b.room ≡ end e' n' u' w'
    → Continued e n u w e' n' u' w'
unfolding run_read
read_continued E (refused m q) a b r e n u e' n' u' w w' x y = absurd (not_refused m q e n u w x)
read_continued E (read R seen at) a b r e n u e' n' u' w w' x y =
    ending_continued _ _ e n u e' n' u' w w'
    (beside_keeps R a b r a.budget b.budget (run_keeps R a b r a.budget b.budget r.budget nothing) (start_beside R a b r E.query_keeps)) x y

pub more_room : MoreRoom
more_room E file a b r e n u w x e' n' u' w' y =
    read_continued E (parse_within file E.limits) a b r e n u e' n' u' w w'
    (result_read E file a.limits a.budget a.wanted a.scratch a.room e n u w x).runs
    (result_read E file b.limits b.budget b.wanted b.scratch b.room e' n' u' w' y).runs

-- ---- refusals
-- a file that was read for one call is read for every other
read_refused : (E : Edition) (x : Read Rules) (L M : Limits) (budget budget' wanted wanted' room room' n p : ℕ)
    → run_read E x L budget wanted room ≡ refusal n p → run_read E x M budget' wanted' room' ≡ refusal n p
unfolding run_read ending
read_refused E (refused m q) L M budget budget' wanted wanted' room room' n p x = x
read_refused E (read R seen at) L M budget budget' wanted wanted' room room' n p x = absurd (not_refused n p _ _ _ _ (sym x))

same_number : (m q n p : ℕ) → refusal m q ≡ refusal n p → n ≡ m
same_number m q n p x = cc

pub refused_for : RefusedFor
unfolding result_by
refused_for E file a b e k u w x n p y =
    let g = result_read E file a.limits a.budget a.wanted a.scratch a.room e k u w x in
    let G : Result → Type 0 = λ z. z ≡ refusal n p → (n ≡ 1) ⊎ (n ≡ 3) in
    if_by G (not (in_range b.limits)) (λ t q. inl (same_number 1 0 n p q))
    (λ t. if_by G (ltb file_limit (length file)) (λ v q. let z : ◌≡◌ {A = ℕ} 0 1 = cc (sym v ∙ g.short) in absurd (omega arith))
    (λ v. if_by G (ltb b.scratch (needed (length file) b.limits)) (λ s q. inr (same_number 3 0 n p q))
    (λ s q. absurd (not_refused n p e k u w (sym (read_refused E _ _ a.limits _ a.budget _ a.wanted _ a.room n p q) ∙ g.runs))))) y

-- ---- the embedded form
-- its limits are in range, and its scratch is enough: a file that is not too long is read and run
embedded_read : (E : Edition) (file : List ℕ) (budget wanted room : ℕ) → ltb 4_000 (length file) ≡ false
    → embedded_by E file budget wanted room ≡ run_read E (parse_within file E.limits) embedded_limits budget wanted (min room room_limit)
unfolding embedded_by embedded_in result_by in_range embedded_limits needed
embedded_read E file budget wanted room s =
    let h = ltb-false 4_000 (length file) s in
    if_false _ _ _ s ∙ if_false (not (in_range embedded_limits)) _ _ refl ∙ if_false _ _ _ (le-ltb file_limit (length file) (omega arith))
    ∙ if_false _ _ _ (le-ltb embedded_scratch (needed (length file) embedded_limits) (omega arith))

-- a file that is too long is refused
embedded_long : (E : Edition) (file : List ℕ) (budget wanted room : ℕ) → ltb 4_000 (length file) ≡ true → embedded_by E file budget wanted room ≡ refusal 2 0
unfolding embedded_by embedded_in
embedded_long E file budget wanted room s = if_true _ _ _ s

-- what it is given
abbrev own : ℕ → ℕ → ℕ → Given
own budget wanted room = record { limits = embedded_limits; budget = budget; wanted = wanted; scratch = embedded_scratch; room = min room room_limit }

own_raised : (budget budget' wanted wanted' room room' : ℕ) → budget ≤ budget' → wanted ≤ wanted' → room ≤ room' → Raised (own budget wanted room) (own budget' wanted' room')
own_raised budget budget' wanted wanted' room room' f g h = record { cells = omega arith; steps = omega arith; work = omega arith; budget = f; wanted = g; room = omega arith }

pub more_room_embedded : MoreRoomEmbedded
more_room_embedded E file budget budget' wanted wanted' room room' f g h e n u w x e' n' u' w' y = go (ltb 4_000 (length file)) refl
  where
    go : (long : Bool) → ltb 4_000 (length file) ≡ long → Continued e n u w e' n' u' w'
    go true s = absurd (not_refused 2 0 e n u w (sym (embedded_long E file budget wanted room s) ∙ x))
    go false s =
        read_continued E (parse_within file E.limits) (own budget wanted room) (own budget' wanted' room')
        (own_raised budget budget' wanted wanted' room room' f g h) e n u e' n' u' w w'
        (sym (embedded_read E file budget wanted room s) ∙ x) (sym (embedded_read E file budget' wanted' room' s) ∙ y)

pub refused_alike : RefusedAlike
refused_alike E file budget budget' wanted wanted' room room' n p x = go (ltb 4_000 (length file)) refl
  where
    go : (long : Bool) → ltb 4_000 (length file) ≡ long → embedded_by E file budget' wanted' room' ≡ refusal n p
    go true s = embedded_long E file budget' wanted' room' s ∙ sym (embedded_long E file budget wanted room s) ∙ x
    go false s =
        embedded_read E file budget' wanted' room' s
        ∙ read_refused E (parse_within file E.limits) embedded_limits embedded_limits budget budget' wanted wanted' _ (min room' room_limit) n p (sym (embedded_read E file budget wanted room s) ∙ x)
