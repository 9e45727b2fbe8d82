-- What the functions of the search do, word for word.
-- Assumes nothing.
use Rattle.std.specs.Prelude.{ℕ, zero, suc, ◌+◌, ◌-◌, ◌*◌, ◌%◌, ◌<◌, ◌≤◌, ◌≡◌, ◌||◌, List, eqb, ltb, get_or, Option, Some, None, Result, Ok, Err}
use Rattle.meaning.specs.If.{when◌then◌else◌}
use Rattle.meaning.specs.Reading.{byte, two_bytes, goal_due}
use Rattle.meaning.specs.declared.Place.{Place}
use Rattle.meaning.specs.declared.ClauseNumber.{ClauseNumber}
use Rattle.meaning.specs.declared.End.{End}
use Rattle.meaning.specs.declared.End.TheVariants.{NoMore, Wanted, Cells, Steps, Work}
use Rattle.words.specs.Words.{plus, ahead, put_four}
use Rattle.cells.specs.Cells.{undone, freed, word_of_place, place_after}
use Rattle.cells.specs.declared.Layout.{Layout}
use Rattle.matching.specs.Matching.{going, past_kind, pushed, TakesPair}
use Rattle.matching.specs.declared.Clash.TheVariants.{Differ, Over}
use Rattle.search.specs.declared.Given.{Given}
use Rattle.search.specs.declared.Next.{Next}
use Rattle.search.specs.declared.Rest.{Rest}
use Rattle.search.specs.declared.Fits.{Fits}
use Rattle.search.specs.declared.StepWord.{StepWord}
use Rattle.search.specs.declared.StepWord.TheVariants.{Clause, Goal, Caller, Place as PlaceWord, Step, Cells as CellsWord, Trail, Choice}
use Rattle.search.specs.declared.Regs.{Regs}
use Rattle.search.specs.declared.Trial.{Trial}
use Rattle.search.specs.declared.Due.{Due}
use Rattle.search.specs.declared.Due.TheVariants.{Try, Pair, Cut, Answer, Over as OverDue}

-- the place of a word in its step
abbrev pub word_number : StepWord → ℕ
word_number Clause = 0
word_number Goal = 1
word_number Caller = 2
word_number PlaceWord = 3
word_number Step = 4
word_number CellsWord = 5
word_number Trail = 6
word_number Choice = 7

-- a clause as a word names it, from 1; 0 is none
unfoldable pub clause_numbered : ℕ → Option ClauseNumber
clause_numbered zero = None
clause_numbered (suc k) = Some (record { 0 = k })

-- the word k of a step, which is numbered from 1
unfoldable pub step_word : List ℕ → Layout → ℕ → ℕ → ℕ
step_word w lay zero k = 0
step_word w lay (suc i) k = get_or w (lay.steps + 8 * i + k % 8) 0

unfoldable pub step_next : List ℕ → Layout → ℕ → Next
step_next w lay step = record { place = record { 0 = step_word w lay step 3 }; step = step_word w lay step 4 }

-- where no goal is left, the goals go on behind the step's own goal
unfoldable pub settled_next : List ℕ → List ℕ → Layout → Next → Next
settled_next file w lay n =
    when goal_due (byte file n.place.0) || eqb n.step 0 then n else
    step_next w lay n.step

unfoldable pub clause_place_word : List ℕ → Layout → ClauseNumber → Place
clause_place_word w lay k = record { 0 = get_or w (lay.clauses + 2 * k.0) 0 }

unfoldable pub clause_next_word : List ℕ → Layout → ℕ → ℕ
clause_next_word w lay k = get_or w (lay.clauses + 2 * k + 1) 0

unfoldable pub below_of : ℕ → ℕ → ℕ
below_of a b = when ltb a b then a else 0

-- the choice before that of the step c, and the next clause to try
unfoldable pub rest_word : List ℕ → Layout → ℕ → Rest
rest_word w lay c = record { prior = below_of (step_word w lay c 7) c; clause = clause_numbered (clause_next_word w lay (step_word w lay c 0)) }

-- the goal of the step c is tried again with the clause k, trail, steps and choices being as they were before it
unfoldable pub retried : List ℕ → Layout → Regs → ℕ → ℕ → ℕ → ℕ → ℕ → Due
retried w lay m trail c steps prior k =
    Try
    (record { cells = step_word w lay c 5; trail = trail; steps = steps; choice = prior; work = m.work; fresh = m.fresh; next = m.next; units = m.units })
    (record { clause = record { 0 = k }; goal = record { 0 = step_word w lay c 1 }; caller = record { 0 = step_word w lay c 2 }; next = step_next w lay c })

-- going back from the choice c, with so many bindings
pub data Backs (lay : Layout) (m : Regs) : ℕ → ℕ → List ℕ → Due → List ℕ → Type 0 where
  no_choice : {trail c : ℕ} {w : List ℕ} → c ≤ 0 → Backs lay m trail c w (OverDue NoMore (record { cells = m.cells; trail = trail; steps = m.steps; choice = 0; work = m.work; fresh = m.fresh; next = m.next; units = m.units })) w
  retries : {trail c : ℕ} {w v : List ℕ} {k : ClauseNumber} → 0 < c → v ≡ undone trail (step_word w lay c 6) lay w → (rest_word v lay c).clause ≡ Some k
      → Backs lay m trail c w (retried v lay m (step_word w lay c 6) c (c - 1) (rest_word v lay c).prior k.0) v
  pops : {trail c : ℕ} {w v u : List ℕ} {d : Due} → 0 < c → v ≡ undone trail (step_word w lay c 6) lay w → (rest_word v lay c).clause ≡ None
      → Backs lay m (step_word w lay c 6) (rest_word v lay c).prior v d u → Backs lay m trail c w d u

-- a goal with the clause k to try, and the goals behind it
unfoldable pub trial_of : List ℕ → List ℕ → Layout → Next → ℕ → Trial
trial_of file w lay n k = record {
  clause = record { 0 = k };
  goal = n.place;
  caller = record { 0 = step_word w lay n.step 5 };
  next = settled_next file w lay (record { place = place_after w n.place; step = n.step });
}

-- the first clause of the goal at a place, from 1; 0 is none
unfoldable pub first_word : List ℕ → List ℕ → Layout → Place → ℕ
first_word file w lay p = get_or w (lay.firsts + two_bytes file (p.0 + 1)) 0

-- the predicate goal at n is called: it has no clause, or its first one is to be tried
pub data Calls (file : List ℕ) (lay : Layout) (m : Regs) (n : Next) (w : List ℕ) : Due → List ℕ → Type 0 where
  no_clause : {d : Due} {v : List ℕ} → get_or w (lay.firsts + two_bytes file (n.place.0 + 1)) 0 ≡ 0 → Backs lay m m.trail m.choice w d v → Calls file lay m n w d v
  first_clause : {k : ℕ} → get_or w (lay.firsts + two_bytes file (n.place.0 + 1)) 0 ≡ suc k → Calls file lay m n w (Try m (trial_of file w lay n k)) w

-- the first open goal is taken
pub data GoesOn (file : List ℕ) (lay : Layout) (m : Regs) (w : List ℕ) : Due → List ℕ → Type 0 where
  a_cut : byte file m.next.place.0 ≡ 7 → GoesOn file lay m w (Cut m) w
  no_goal : (byte file m.next.place.0 ≡ 7 → ⊥) → (byte file m.next.place.0 ≡ 6 → ⊥) → GoesOn file lay m w (Answer m) w
  a_goal : {d : Due} {v : List ℕ} → byte file m.next.place.0 ≡ 6 → Calls file lay m m.next w d v → GoesOn file lay m w d v

pub data MatchesOn (file : List ℕ) (lay : Layout) (m : Regs) (w : List ℕ) : Due → List ℕ → Type 0 where
  matched : {d : Due} {v : List ℕ} → m.work ≡ 0 → GoesOn file lay m w d v → MatchesOn file lay m w d v
  more : (m.work ≡ 0 → ⊥) → MatchesOn file lay m w (Pair m) w

-- a step's words are written: clause, goal, the cells of its variables, the goals behind it (place, step), cells, bindings and choice before it
unfoldable pub step_put : Layout → Trial → Regs → List ℕ → List ℕ
step_put lay t m w =
    put_four
    (put_four w (lay.steps + 8 * m.steps) t.clause.0 (word_of_place t.goal) t.caller.0 (word_of_place t.next.place))
    (lay.steps + 8 * m.steps + 4) t.next.step m.cells m.trail m.choice

unfoldable pub room_of : List ℕ → List ℕ → Given → ClauseNumber → Regs → Result Fits End
room_of file w g k m =
    when ltb g.limits.cells (m.cells + byte file ((clause_place_word w g.lay k).0 + 3)) then Err Cells else
    when ltb g.limits.steps (m.steps + 1) then Err Steps else
    Ok (record { place = clause_place_word w g.lay k; variables = byte file ((clause_place_word w g.lay k).0 + 3) })

unfoldable pub arity_at : List ℕ → ℕ → Place → ℕ
arity_at file functions goal = byte file (2 * functions + 2 * two_bytes file (goal.0 + 1) + 1)

unfoldable pub paired : Layout → ℕ → Trial → Place → ℕ → List ℕ → List ℕ
paired lay n t p base w = pushed n 0 lay (past_kind (record { place = t.goal; base = t.caller }) 3) (past_kind (record { place = p; base = record { 0 = base } }) 5) w

unfoldable pub entered_regs : List ℕ → List ℕ → Layout → Regs → Place → ℕ → ℕ → Regs
entered_regs file w lay m p variables pairs = record {
  cells = plus m.cells variables;
  trail = m.trail;
  steps = plus m.steps 1;
  choice = plus m.steps 1;
  work = pairs;
  fresh = m.cells;
  next = settled_next file w lay (record { place = place_after w p; step = plus m.steps 1 });
  units = m.units;
}

-- the words once the clause at p has been entered
unfoldable pub entered_words : List ℕ → Given → Trial → Regs → Place → ℕ → List ℕ → List ℕ
entered_words file g t m p variables w =
    paired g.lay (arity_at file g.functions t.goal) t p m.cells (freed variables m.cells g.lay (step_put g.lay t m w))

pub data Enters (file : List ℕ) (g : Given) (t : Trial) (m : Regs) (p : Place) (variables : ℕ) (w : List ℕ) : Regs → List ℕ → Type 0 where
  enters : Enters file g t m p variables w
      (entered_regs file (entered_words file g t m p variables w) g.lay m p variables (arity_at file g.functions t.goal))
      (entered_words file g t m p variables w)

pub data TriesHead (file : List ℕ) (g : Given) (t : Trial) (m : Regs) (w : List ℕ) : Due → List ℕ → Type 0 where
  no_room : {e : End} → room_of file w g t.clause m ≡ Err e → TriesHead file g t m w (OverDue e m) w
  tries : {fit : Fits} {n : Regs} {d : Due} {v u : List ℕ} → room_of file w g t.clause m ≡ Ok fit → Enters file g t m fit.place fit.variables w n v → MatchesOn file g.lay n v d u → TriesHead file g t m w d u

pub data MovesPair (file : List ℕ) (g : Given) (m : Regs) (w : List ℕ) : Due → List ℕ → Type 0 where
  same : {trail work fresh : ℕ} {d : Due} {v u : List ℕ} → TakesPair file g.lay g.limits.work m.units m.cells m.trail m.work m.fresh w (going trail work fresh) v
      → MatchesOn file g.lay (record { cells = m.cells; trail = trail; steps = m.steps; choice = m.choice; work = work; fresh = fresh; next = m.next; units = m.units }) v d u → MovesPair file g m w d u
  differ : {d : Due} {v u : List ℕ} → TakesPair file g.lay g.limits.work m.units m.cells m.trail m.work m.fresh w (Err Differ) v → Backs g.lay m m.trail m.choice v d u → MovesPair file g m w d u
  over_work : {v : List ℕ} → TakesPair file g.lay g.limits.work m.units m.cells m.trail m.work m.fresh w (Err Over) v → MovesPair file g m w (OverDue Work m) v

-- the latest choice that a cut leaves: none in the query, in a clause's body the latest before the goal of its step
unfoldable pub kept_of : List ℕ → Layout → ℕ → ℕ
kept_of w lay zero = 0
kept_of w lay (suc i) = step_word w lay (suc i) 7

-- where the run is behind a cut
unfoldable pub cut_regs : List ℕ → List ℕ → Layout → Regs → Regs
cut_regs file w lay m = record {
  cells = m.cells;
  trail = m.trail;
  steps = m.steps;
  choice = kept_of w lay m.next.step;
  work = m.work;
  fresh = m.fresh;
  next = settled_next file w lay (record { place = record { 0 = ahead m.next.place.0 1 }; step = m.next.step });
  units = m.units;
}

pub data MovesCut (file : List ℕ) (lay : Layout) (m : Regs) (w : List ℕ) : Due → List ℕ → Type 0 where
  cuts : {d : Due} {v : List ℕ} → GoesOn file lay (cut_regs file w lay m) w d v → MovesCut file lay m w d v

-- before the first unit
unfoldable pub start_regs : List ℕ → Given → Regs
start_regs file g = record {
  cells = byte file (g.query.0 + 1);
  trail = 0;
  steps = 0;
  choice = 0;
  work = 0;
  fresh = 0;
  next = record { place = record { 0 = ahead g.query.0 3 }; step = 0 };
  units = 0;
}

pub data Starts (file : List ℕ) (g : Given) (wanted : ℕ) (w : List ℕ) : Due → List ℕ → Type 0 where
  none_wanted : wanted ≡ 0 → Starts file g wanted w (OverDue Wanted (start_regs file g)) w
  few_cells : (wanted ≡ 0 → ⊥) → g.limits.cells < byte file (g.query.0 + 1) → Starts file g wanted w (OverDue Cells (start_regs file g)) w
  starts : {d : Due} {v : List ℕ} → (wanted ≡ 0 → ⊥) → byte file (g.query.0 + 1) ≤ g.limits.cells
      → GoesOn file g.lay (start_regs file g) (freed (byte file (g.query.0 + 1)) 0 g.lay w) d v → Starts file g wanted w d v
