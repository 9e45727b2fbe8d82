-- What each return and each turn of a loop of the machine says.
-- Assumes nothing.
use Prim.Native.Nat.{ℕ, ◌+◌, ◌-◌, ◌*◌, ◌^◌, ◌≤◌, ◌<◌}
use mathlib.Core.Path.{◌≡◌, refl, ◌∙◌}
use mathlib.Core.Bool.{true, false≢true}
use mathlib.Core.List.{List, [], append-nil}
use native.Mathlib.Omega.{arith}
use lib.ListN.{length, take, drop, length-drop}
use lib.Seq.{take_all, drop-length}
use borrow.Rule.Slice.PartMut.{mid_of, put_mid}
use Rattle.meaning.specs.Reading.{byte}
use Rattle.meaning.specs.declared.End.{End}
use Rattle.meaning.specs.declared.End.TheVariants.{Wanted, Budget, Output}
use Rattle.meaning.specs.Outcome.{Outcome, ended_with}
use Rattle.words.specs.Words.{plus, ahead}
use Rattle.simulation.specs.Pushing.{plus_small}
use Rattle.search.specs.Search.{Backs, no_choice, retries, pops, retried, Calls, no_clause, first_clause, GoesOn, a_cut, no_goal, a_goal, MatchesOn, matched, more, enters, entered_regs, TriesHead, no_room, tries, MovesPair, same, differ, over_work, cut_regs, MovesCut, cuts, Starts, none_wanted, few_cells, starts}
use Rattle.search.specs.declared.Given.{Given}
use Rattle.search.specs.declared.Regs.{Regs}
use Rattle.search.specs.declared.Trial.{Trial}
use Rattle.search.specs.declared.Due.{Due}
use Rattle.search.specs.declared.Due.TheVariants.{Try, Pair, Cut, Answer, Over}
use Rattle.answers.specs.Answering.{Answers}
use Rattle.std.specs.Prelude.{Result, Ok, Err}
use Rattle.machine.specs.declared.run.Written.{Written}
use Rattle.machine.specs.Running.{spent, behind_of, going_on, over_of, ended_of, WritesBehind, written_behind, Lists, no_output, last_wanted, goes_back, no_answer, Moves, try_late, pair_late, cut_late, tries_one, pairs_one, cuts_one, lists, is_over, MovesPairs, too_late, last_pair, next_pair, TriesPairs, no_pairs, then_pairs, TriesHeads, head_late, last_head, next_head, NoPair, Cuts, no_unit, a_unit, Turns, one, heads, RunsFrom, stops, onward, nothing_yet, Runs, runs}

pub spend_is : (m : Regs) (u : ℕ) → u ≡ plus m.units 1 → ◌≡◌ {A = Regs} (record { cells = m.cells; trail = m.trail; steps = m.steps; choice = m.choice; work = m.work; fresh = m.fresh; next = m.next; units = u }) (spent m)
unfolding spent
spend_is m u e = rw e refl

pub behind_is : (t : Written) (size a b : ℕ) → a ≡ plus t.answers 1 → b ≡ ahead t.bytes size → ◌≡◌ {A = Written} (record { answers = a; bytes = b }) (behind_of t size)
unfolding behind_of
behind_is t size a b e f = rw (e, f) refl

pub over_is : (e : End) (m : Regs) (t : Written) → ended_with e (record { answers = t.answers; units = m.units; bytes = t.bytes }) ≡ over_of e m t
unfolding over_of
over_is e m t = refl

-- ---- between heads no pair is due
pub backs_apart : {lay : _} {m : Regs} {trail c : ℕ} {w u : List ℕ} {d : Due} → Backs lay m trail c w d u → NoPair d
unfolding retried
backs_apart (no_choice h) = tt
backs_apart (retries h e k) = tt
backs_apart (pops h e k b) = backs_apart b

pub goes_apart : {file : _} {lay : _} {m : Regs} {w u : List ℕ} {d : Due} → GoesOn file lay m w d u → NoPair d
goes_apart (a_cut e) = tt
goes_apart (no_goal e f) = tt
goes_apart (a_goal e (no_clause k b)) = backs_apart b
goes_apart (a_goal e (first_clause k)) = tt

cuts_apart : {file : _} {lay : _} {m : Regs} {w u : List ℕ} {d : Due} → MovesCut file lay m w d u → NoPair d
cuts_apart (cuts b) = goes_apart b

lists_apart : {file : _} {g : Given} {wanted : ℕ} {m : Regs} {t s : Written} {w o v p : List ℕ} {d : Due} → Lists file g wanted m t w o d s v p → NoPair d
lists_apart (no_output h) = tt
lists_apart (last_wanted h a e) = tt
lists_apart (goes_back h a e b) = backs_apart b
lists_apart (no_answer h a) = tt

starts_apart : {file : _} {g : Given} {wanted : ℕ} {w v : List ℕ} {d : Due} → Starts file g wanted w d v → NoPair d
starts_apart (none_wanted e) = tt
starts_apart (few_cells e h) = tt
starts_apart (starts e h b) = goes_apart b

pairs_apart : {file : _} {g : Given} {budget : ℕ} {m : Regs} {d : Due} {w v : List ℕ} → MovesPairs file g budget m w d v → NoPair d
pairs_apart (too_late h) = tt
pairs_apart (last_pair h n a) = n
pairs_apart (next_pair h a b) = pairs_apart b

head_apart : {file : _} {g : Given} {budget : ℕ} {x : Trial} {m : Regs} {d : Due} {w v : List ℕ} → TriesPairs file g budget x m w d v → NoPair d
head_apart (no_pairs n a) = n
head_apart (then_pairs a b) = pairs_apart b

heads_apart : {file : _} {g : Given} {budget : ℕ} {x : Trial} {m : Regs} {d : Due} {w v : List ℕ} → TriesHeads file g budget m x w d v → NoPair d
heads_apart (head_late h) = tt
heads_apart (last_head h a) = head_apart a
heads_apart (next_head h a b) = heads_apart b

turns_apart : {file : _} {g : Given} {budget wanted : ℕ} {d n : Due} {t s : Written} {w o v p : List ℕ} → Turns file g budget wanted d t w o n s v p → NoPair n
turns_apart (one n a) = n
turns_apart (heads a) = heads_apart a

-- ---- a cut
module _ (file : List ℕ) (g : Given) (budget : ℕ) (m : Regs) (w : List ℕ) where
  pub cut_no_unit : budget ≤ m.units → Cuts file g budget m w (Over Budget m) w
  cut_no_unit h = no_unit h

  pub cut_a_unit : (s : Regs) (d : Due) (v : List ℕ) → s ≡ spent m → m.units < budget → MovesCut file g.lay s w d v → Cuts file g budget m w d v
  cut_a_unit s d v e h a = a_unit h (rw e at a)

-- ---- one turn
module _ (file : List ℕ) (g : Given) (budget wanted : ℕ) (d : Due) (t : Written) (w o : List ℕ) (m : Regs) where
  pub turn_cut : (n : Due) (v : List ℕ) → d ≡ Cut m → Cuts file g budget m w n v → Turns file g budget wanted d t w o n t v o
  turn_cut n v q (no_unit h) = rw q (one tt (cut_late h))
  turn_cut n v q (a_unit h l) = rw q (one (cuts_apart l) (cuts_one h l))

  pub turn_over : (e : End) → d ≡ Over e m → Turns file g budget wanted d t w o (Over e m) t w o
  turn_over e q = rw q (one tt is_over)

  pub turn_list : (n : Due) (s : Written) (v p : List ℕ) → d ≡ Answer m → Lists file g wanted m t w o n s v p → Turns file g budget wanted d t w o n s v p
  turn_list n s v p q l = rw q (one (lists_apart l) (lists l))

  module _ (n : Due) (v : List ℕ) where
    pub turn_pair : NoPair d → d ≡ Pair m → Turns file g budget wanted d t w o n t v o
    turn_pair h q = absurd (rw q at h)

    pub turn_heads : (x : Trial) → d ≡ Try m x → TriesHeads file g budget m x w n v → Turns file g budget wanted d t w o n t v o
    turn_heads x q l = rw q (heads l)

-- ---- the rest of the output is lent
rest_all : (xs : List ℕ) (n : ℕ) → n ≡ length xs → take n xs ≡ xs
rest_all xs n e = take_all n xs (omega arith)

rest_none : (xs : List ℕ) (n : ℕ) → n ≡ length xs → drop n xs ≡ []
rest_none xs n e = rw e (drop-length xs)

pub writes_behind : (file : List ℕ) (g : Given) (m : Regs) (used : ℕ) (w o : List ℕ) (x : ℕ) (r : Result ℕ End) (v p : List ℕ) → x ≡ byte file (g.query.0 + 1) → used ≤ length o
    → Answers file g.lay g.limits.work x m.cells m.steps m.trail w (mid_of used (length o - used) o) r v p → WritesBehind file g m used w o r v (put_mid used (length o - used) o p)
writes_behind file g m used w o x r v p e h a =
    let l = length-drop used o in
    rw (rest_none (drop used o) (length o - used) (omega arith), append-nil p) (written_behind (rw (e, rest_all (drop used o) (length o - used) (omega arith)) at a))

module _ (file : List ℕ) (g : Given) (wanted : ℕ) (m : Regs) (t : Written) (w o : List ℕ) where
  pub list_none : length o < t.bytes → Lists file g wanted m t w o (Over Output m) t w o
  list_none h = no_output h

  module _ (x : Result ℕ End) (v p : List ℕ) (h : t.bytes ≤ length o) (a : WritesBehind file g m t.bytes w o x v p) where
    pub list_over : (e : End) → x ≡ Err e → Lists file g wanted m t w o (Over e m) t v p
    list_over e q = no_answer h (rw q at a)

    module _ (n : ℕ) (s : Written) (e : x ≡ Ok n) (f : s ≡ behind_of t n) where
      pub list_last : s.answers ≡ wanted → Lists file g wanted m t w o (Over Wanted m) s v p
      list_last z = rw f (last_wanted h (rw e at a) (rw f at z))

      pub list_back : (d : Due) (u : List ℕ) → (s.answers ≡ wanted → ⊥) → Backs g.lay m m.trail m.choice v d u → Lists file g wanted m t w o d s u p
      list_back d u z b = rw f (goes_back h (rw e at a) (rw f at z) b)

-- ---- the run: each turn of the loop brings it nearer to its end
-- the units left count twice, for an answer spends none
unfoldable pub left : ℕ → Due → ℕ
left budget (Try m x) = 2 * (budget - m.units) + 1
left budget (Pair m) = 2 * (budget - m.units) + 1
left budget (Cut m) = 2 * (budget - m.units) + 1
left budget (Answer m) = 2 * (budget - m.units) + 2
left budget (Over e m) = 0

backs_left : {lay : _} {m : Regs} {trail c : ℕ} {w u : List ℕ} {d : Due} (budget : ℕ) → Backs lay m trail c w d u → left budget d ≤ 2 * (budget - m.units) + 1
unfolding left retried
backs_left budget (no_choice h) = omega arith
backs_left budget (retries h e k) = omega arith
backs_left budget (pops h e k b) = backs_left budget b

calls_left : {file : _} {lay : _} {m : Regs} {n : _} {w u : List ℕ} {d : Due} (budget : ℕ) → Calls file lay m n w d u → left budget d ≤ 2 * (budget - m.units) + 2
unfolding left
calls_left budget (no_clause e b) = let h = backs_left budget b in omega arith
calls_left budget (first_clause e) = omega arith

goes_left : {file : _} {lay : _} {m : Regs} {w u : List ℕ} {d : Due} (budget : ℕ) → GoesOn file lay m w d u → left budget d ≤ 2 * (budget - m.units) + 2
unfolding left
goes_left budget (a_cut e) = omega arith
goes_left budget (no_goal e f) = omega arith
goes_left budget (a_goal e b) = calls_left budget b

matches_left : {file : _} {lay : _} {m : Regs} {w u : List ℕ} {d : Due} (budget : ℕ) → MatchesOn file lay m w d u → left budget d ≤ 2 * (budget - m.units) + 2
unfolding left
matches_left budget (matched e b) = goes_left budget b
matches_left budget (more e) = omega arith

tries_left : {file : _} {g : Given} {x : Trial} {m : Regs} {w u : List ℕ} {d : Due} (budget : ℕ) → TriesHead file g x m w d u → left budget d ≤ 2 * (budget - m.units) + 2
unfolding left entered_regs
tries_left budget (no_room e) = omega arith
tries_left budget (tries e enters b) = matches_left budget b

pairs_left : {file : _} {g : Given} {m : Regs} {w u : List ℕ} {d : Due} (budget : ℕ) → MovesPair file g m w d u → left budget d ≤ 2 * (budget - m.units) + 2
unfolding left
pairs_left budget (same e b) = matches_left budget b
pairs_left budget (differ e b) = let h = backs_left budget b in omega arith
pairs_left budget (over_work e) = omega arith

cuts_left : {file : _} {lay : _} {m : Regs} {w u : List ℕ} {d : Due} (budget : ℕ) → MovesCut file lay m w d u → left budget d ≤ 2 * (budget - m.units) + 2
unfolding left cut_regs
cuts_left budget (cuts b) = goes_left budget b

lists_left : {file : _} {g : Given} {wanted : ℕ} {m : Regs} {t s : Written} {w o v p : List ℕ} {d : Due} (budget : ℕ) → Lists file g wanted m t w o d s v p → left budget d ≤ 2 * (budget - m.units) + 1
unfolding left
lists_left budget (no_output h) = omega arith
lists_left budget (last_wanted h a e) = omega arith
lists_left budget (goes_back h a e b) = backs_left budget b
lists_left budget (no_answer h a) = omega arith

-- a unit spent below the budget
spent_less : (budget : ℕ) (m : Regs) → budget < 2 ^ 32 → m.units < budget → 2 * (budget - (spent m).units) + 2 < 2 * (budget - m.units) + 1
unfolding spent
spent_less budget m b h = rw (plus_small m.units 1 (omega arith)) (omega arith)

moves_left : {file : _} {g : Given} {wanted : ℕ} {d n : Due} {t s : Written} {w o v p : List ℕ} (budget : ℕ) → budget < 2 ^ 32 → going_on d ≡ true → Moves file g budget wanted d t w o n s v p → left budget n < left budget d
unfolding left going_on
moves_left budget b e (try_late h) = omega arith
moves_left budget b e (pair_late h) = omega arith
moves_left budget b e (cut_late h) = omega arith
moves_left budget b e (tries_one {m = m} h a) = let x = tries_left budget a in let y = spent_less budget m b h in omega arith
moves_left budget b e (pairs_one {m = m} h a) = let x = pairs_left budget a in let y = spent_less budget m b h in omega arith
moves_left budget b e (cuts_one {m = m} h a) = let x = cuts_left budget a in let y = spent_less budget m b h in omega arith
moves_left budget b e (lists a) = let x = lists_left budget a in omega arith
moves_left budget b e is_over = absurd (false≢true e)

-- the moves of heads
pairs_fewer : {file : _} {g : Given} (budget : ℕ) {m : Regs} {d : Due} {w v : List ℕ} → budget < 2 ^ 32 → MovesPairs file g budget m w d v → left budget d ≤ 2 * (budget - m.units)
unfolding left
pairs_fewer budget b (too_late h) = omega arith
pairs_fewer budget b (last_pair {m = m} h n a) = let x = pairs_left budget a in let y = spent_less budget m b h in omega arith
pairs_fewer budget b (next_pair {m = m} h a r) = let x = pairs_left budget a in let y = spent_less budget m b h in let z = pairs_fewer budget b r in omega arith

pub head_fewer : {file : _} {g : Given} {x : Trial} {m : Regs} {d : Due} {w v : List ℕ} (budget : ℕ) → budget < 2 ^ 32 → TriesPairs file g budget x m w d v → left budget d ≤ 2 * (budget - m.units) + 2
unfolding left
head_fewer budget b (no_pairs n a) = tries_left budget a
head_fewer budget b (then_pairs a r) = let x = tries_left budget a in let y = pairs_fewer budget b r in omega arith

heads_fewer : {file : _} {g : Given} (budget : ℕ) {x : Trial} {m : Regs} {d : Due} {w v : List ℕ} → budget < 2 ^ 32 → TriesHeads file g budget m x w d v → left budget d ≤ 2 * (budget - m.units)
unfolding left
heads_fewer budget b (head_late h) = omega arith
heads_fewer budget b (last_head {m = m} h a) = let x = head_fewer budget b a in let y = spent_less budget m b h in omega arith
heads_fewer budget b (next_head {m = m} h a r) = let x = head_fewer budget b a in let y = spent_less budget m b h in let z = heads_fewer budget b r in omega arith

unfoldable pub units_left : ℕ → Regs → ℕ
units_left budget m = budget - m.units

-- a head that follows another has fewer units left
pub next_fewer : {file : _} {g : Given} {x y : Trial} {n : Regs} {w v : List ℕ} (m : Regs) (budget : ℕ) → budget < 2 ^ 32 → m.units < budget → TriesPairs file g budget x (spent m) w (Try n y) v → units_left budget n < units_left budget m
unfolding left units_left
next_fewer m budget b h a = let x = head_fewer budget b a in let y = spent_less budget m b h in omega arith

turns_left : {file : _} {g : Given} {wanted : ℕ} {d n : Due} {t s : Written} {w o v p : List ℕ} (budget : ℕ) → budget < 2 ^ 32 → going_on d ≡ true → Turns file g budget wanted d t w o n s v p → left budget n < left budget d
unfolding left
turns_left budget b e (one n a) = moves_left budget b e a
turns_left budget b e (heads a) = let x = heads_fewer budget b a in omega arith

-- a run from behind the moves of heads is a run from their first move
module _ {file : List ℕ} {g : Given} {budget wanted : ℕ} {t : Written} {o u q : List ℕ} {r : Outcome} where
  run_pairs : {m : Regs} {d : Due} {w v : List ℕ} → MovesPairs file g budget m w d v → RunsFrom file g budget wanted d t v o r u q → RunsFrom file g budget wanted (Pair m) t w o r u q
  unfolding going_on
  run_pairs (too_late h) b = onward refl (pair_late h) b
  run_pairs (last_pair h n a) b = onward refl (pairs_one h a) b
  run_pairs (next_pair h a c) b = onward refl (pairs_one h a) (run_pairs c b)

  run_head : {x : Trial} {m : Regs} {d : Due} {w v : List ℕ} → m.units < budget → TriesPairs file g budget x (spent m) w d v → RunsFrom file g budget wanted d t v o r u q → RunsFrom file g budget wanted (Try m x) t w o r u q
  unfolding going_on
  run_head h (no_pairs n a) b = onward refl (tries_one h a) b
  run_head h (then_pairs a c) b = onward refl (tries_one h a) (run_pairs c b)

  run_heads : {x : Trial} {m : Regs} {d : Due} {w v : List ℕ} → TriesHeads file g budget m x w d v → RunsFrom file g budget wanted d t v o r u q → RunsFrom file g budget wanted (Try m x) t w o r u q
  unfolding going_on
  run_heads (head_late h) b = onward refl (try_late h) b
  run_heads (last_head h a) b = run_head h a b
  run_heads (next_head h a c) b = run_head h a (run_heads c b)

run_turn : {file : List ℕ} {g : Given} {budget wanted : ℕ} {d n : Due} {t s : Written} {w o v p u q : List ℕ} {r : Outcome} → going_on d ≡ true → Turns file g budget wanted d t w o n s v p → RunsFrom file g budget wanted n s v p r u q → RunsFrom file g budget wanted d t w o r u q
run_turn e (one n a) b = onward e a b
run_turn e (heads a) b = run_heads a b

-- what is still to be run comes to the same
pub record Running (file : List ℕ) (g : Given) (budget wanted : ℕ) (d₀ : Due) (t₀ : Written) (w₀ o₀ : List ℕ) (d : Due) (t : Written) (w o : List ℕ) : Type 0 where
  pub rest : (r : Outcome) (v p : List ℕ) → RunsFrom file g budget wanted d t w o r v p → RunsFrom file g budget wanted d₀ t₀ w₀ o₀ r v p
  pub words_long : length w ≡ length w₀
  pub bytes_long : length o ≡ length o₀
  pub apart : NoPair d

pub running_start : (file : List ℕ) (g : Given) (budget wanted : ℕ) (d : Due) (t : Written) (w₀ w o : List ℕ) → Starts file g wanted w₀ d w → Running file g budget wanted d t w o d t w o
running_start file g budget wanted d t w₀ w o s = record { rest = λ r v p a. a; words_long = refl; bytes_long = refl; apart = starts_apart s }

module _ (file : List ℕ) (g : Given) (budget wanted : ℕ) (d₀ : Due) (t₀ : Written) (w₀ o₀ : List ℕ) (d : Due) (t : Written) (w o : List ℕ) (i : Running file g budget wanted d₀ t₀ w₀ o₀ d t w o) where
  module _ (f : (e : End) (m : Regs) → d ≡ Over e m → ⊥) (n : Due) (s : Written) (v p : List ℕ) (a : Turns file g budget wanted d t w o n s v p) where
    goes : (x : Due) → d ≡ x → going_on x ≡ true
    unfolding going_on
    goes (Over e m) q = absurd (f e m q)
    goes (Try m x) q = refl
    goes (Pair m) q = refl
    goes (Cut m) q = refl
    goes (Answer m) q = refl

    pub running_again : length v ≡ length w → length p ≡ length o → Running file g budget wanted d₀ t₀ w₀ o₀ n s v p
    running_again k l = record { rest = λ r u q b. i.rest r u q (run_turn (goes d refl) a b); words_long = k ∙ i.words_long; bytes_long = l ∙ i.bytes_long; apart = turns_apart a }

    pub running_less : budget < 2 ^ 32 → left budget n < left budget d
    running_less b = turns_left budget b (goes d refl) a

  pub running_end : (e : End) (m : Regs) → d ≡ Over e m → (r : Outcome) → r ≡ over_of e m t → (w₁ : List ℕ) → Starts file g wanted w₁ d₀ w₀ → t₀ ≡ nothing_yet → Runs file g budget wanted w₁ o₀ r w o
  unfolding ended_of going_on
  running_end e m f r q w₁ b z = let c = i.rest r w o (rw (f, q) (stops refl)) in runs b (rw z at c)
