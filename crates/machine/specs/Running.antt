-- What a run does, word for word: each move as the search defines it, each answer as the answers do.
-- Assumes nothing.
use Rattle.std.specs.Prelude.{ℕ, ◌+◌, ◌≤◌, ◌<◌, ◌≡◌, Bool, true, false, List, ◌++◌, length, take, drop, Result, Ok, Err}
use Rattle.meaning.specs.Reading.{byte}
use Rattle.meaning.specs.declared.End.{End}
use Rattle.meaning.specs.declared.End.TheVariants.{Wanted, Budget, Work, Output}
use Rattle.meaning.specs.Outcome.{Outcome}
use Rattle.words.specs.Words.{plus, ahead}
use Rattle.cells.specs.declared.Layout.{Layout}
use Rattle.matching.specs.declared.Came.TheVariants.{Matched, Clashed, Late}
use Rattle.matching.specs.declared.Clash.TheVariants.{Differ, Over as Overfull}
use Rattle.matching.specs.declared.Matched.{Matched as MatchedPairs}
use Rattle.search.specs.Search.{Backs, GoesOn, TriesHead, MovesPair, MovesCut, Starts}
use Rattle.search.specs.declared.Given.{Given}
use Rattle.search.specs.declared.Regs.{Regs}
use Rattle.search.specs.declared.Trial.{Trial}
use Rattle.search.specs.declared.Due.{Due}
use Rattle.search.specs.declared.Due.TheVariants.{Try, Pair, Cut, Answer, Over}
use Rattle.answers.specs.Answering.{Answers}
use Rattle.machine.specs.declared.run.Written.{Written}

unfoldable pub spent : Regs → Regs
spent m = record { cells = m.cells; trail = m.trail; steps = m.steps; choice = m.choice; work = m.work; fresh = m.fresh; next = m.next; units = plus m.units 1 }

unfoldable pub behind_of : Written → ℕ → Written
behind_of t size = record { answers = plus t.answers 1; bytes = ahead t.bytes size }

unfoldable pub going_on : Due → Bool
going_on (Over e m) = false
going_on (Try m x) = true
going_on (Pair m) = true
going_on (Cut m) = true
going_on (Answer m) = true

unfoldable pub over_of : End → Regs → Written → Outcome
over_of e m t = Ok (record { end = e; totals = record { answers = t.answers; units = m.units; bytes = t.bytes } })

unfoldable pub ended_of : Due → Written → Outcome
ended_of (Over e m) t = over_of e m t
ended_of (Try m x) t = over_of Budget m t
ended_of (Pair m) t = over_of Budget m t
ended_of (Cut m) t = over_of Budget m t
ended_of (Answer m) t = over_of Budget m t

-- an answer is written into the output behind the bytes used
pub data WritesBehind (file : List ℕ) (g : Given) (m : Regs) (used : ℕ) (w o : List ℕ) : Result ℕ End → List ℕ → List ℕ → Type 0 where
  written_behind : {r : Result ℕ End} {v p : List ℕ} → Answers file g.lay g.limits.work (byte file (g.query.0 + 1)) m.cells m.steps m.trail w (drop used o) r v p
      → WritesBehind file g m used w o r v (take used o ++ p)

-- an answer that is due: it is written, or it stops the run
pub data Lists (file : List ℕ) (g : Given) (wanted : ℕ) (m : Regs) (t : Written) (w o : List ℕ) : Due → Written → List ℕ → List ℕ → Type 0 where
  no_output : length o < t.bytes → Lists file g wanted m t w o (Over Output m) t w o
  last_wanted : {n : ℕ} {v p : List ℕ} → t.bytes ≤ length o → WritesBehind file g m t.bytes w o (Ok n) v p → (behind_of t n).answers ≡ wanted
      → Lists file g wanted m t w o (Over Wanted m) (behind_of t n) v p
  goes_back : {n : ℕ} {d : Due} {v p u : List ℕ} → t.bytes ≤ length o → WritesBehind file g m t.bytes w o (Ok n) v p → ((behind_of t n).answers ≡ wanted → ⊥)
      → Backs g.lay m m.trail m.choice v d u → Lists file g wanted m t w o d (behind_of t n) u p
  no_answer : {e : End} {v p : List ℕ} → t.bytes ≤ length o → WritesBehind file g m t.bytes w o (Err e) v p → Lists file g wanted m t w o (Over e m) t v p

-- what is due is done: a move where a unit is left for it, or an answer
pub data Moves (file : List ℕ) (g : Given) (budget wanted : ℕ) : Due → Written → List ℕ → List ℕ → Due → Written → List ℕ → List ℕ → Type 0 where
  try_late : {x : Trial} {m : Regs} {t : Written} {w o : List ℕ} → budget ≤ m.units → Moves file g budget wanted (Try m x) t w o (Over Budget m) t w o
  pair_late : {m : Regs} {t : Written} {w o : List ℕ} → budget ≤ m.units → Moves file g budget wanted (Pair m) t w o (Over Budget m) t w o
  cut_late : {m : Regs} {t : Written} {w o : List ℕ} → budget ≤ m.units → Moves file g budget wanted (Cut m) t w o (Over Budget m) t w o
  tries_one : {x : Trial} {m : Regs} {t : Written} {d : Due} {w o v : List ℕ} → m.units < budget → TriesHead file g x (spent m) w d v → Moves file g budget wanted (Try m x) t w o d t v o
  pairs_one : {m : Regs} {t : Written} {d : Due} {w o v : List ℕ} → m.units < budget → MovesPair file g (spent m) w d v → Moves file g budget wanted (Pair m) t w o d t v o
  cuts_one : {m : Regs} {t : Written} {d : Due} {w o v : List ℕ} → m.units < budget → MovesCut file g.lay (spent m) w d v → Moves file g budget wanted (Cut m) t w o d t v o
  lists : {m : Regs} {t s : Written} {d : Due} {w o v p : List ℕ} → Lists file g wanted m t w o d s v p → Moves file g budget wanted (Answer m) t w o d s v p
  is_over : {e : End} {m : Regs} {t : Written} {w o : List ℕ} → Moves file g budget wanted (Over e m) t w o (Over e m) t w o

-- where a run is once the pairs of a head came out so
abbrev pub matched_regs : Regs → MatchedPairs → Regs
matched_regs m r = record { cells = m.cells; trail = r.pairs.trail; steps = m.steps; choice = m.choice; work = r.pairs.work; fresh = r.pairs.fresh; next = m.next; units = r.units }

-- what comes of that
pub data Leads (file : List ℕ) (lay : Layout) (m : Regs) (r : MatchedPairs) (w : List ℕ) : Due → List ℕ → Type 0 where
  leads_on : {d : Due} {v : List ℕ} → r.came ≡ Matched → GoesOn file lay (matched_regs m r) w d v → Leads file lay m r w d v
  leads_back : {d : Due} {v : List ℕ} → r.came ≡ Clashed Differ → Backs lay (matched_regs m r) r.pairs.trail m.choice w d v → Leads file lay m r w d v
  leads_over : r.came ≡ Clashed Overfull → Leads file lay m r w (Over Work (matched_regs m r)) w
  leads_late : r.came ≡ Late → Leads file lay m r w (Over Budget (matched_regs m r)) w

-- something else than a pair is due
abbrev pub NoPair : Due → Type 0
NoPair (Pair m) = ⊥
NoPair (Try m x) = Unit {0}
NoPair (Cut m) = Unit {0}
NoPair (Answer m) = Unit {0}
NoPair (Over e m) = Unit {0}

-- the pairs of a head, each for a unit, up to the move that comes to something else
pub data MovesPairs (file : List ℕ) (g : Given) (budget : ℕ) : Regs → List ℕ → Due → List ℕ → Type 0 where
  too_late : {m : Regs} {w : List ℕ} → budget ≤ m.units → MovesPairs file g budget m w (Over Budget m) w
  last_pair : {m : Regs} {d : Due} {w v : List ℕ} → m.units < budget → NoPair d → MovesPair file g (spent m) w d v → MovesPairs file g budget m w d v
  next_pair : {m n : Regs} {d : Due} {w v u : List ℕ} → m.units < budget → MovesPair file g (spent m) w (Pair n) v → MovesPairs file g budget n v d u → MovesPairs file g budget m w d u

-- a head that was entered
pub data MatchesHead (file : List ℕ) (g : Given) (budget : ℕ) (m : Regs) (w : List ℕ) : Due → List ℕ → Type 0 where
  none_to_match : {d : Due} {v : List ℕ} → m.work ≡ 0 → GoesOn file g.lay m w d v → MatchesHead file g budget m w d v
  some_to_match : {d : Due} {v : List ℕ} → (m.work ≡ 0 → ⊥) → MovesPairs file g budget m w d v → MatchesHead file g budget m w d v

-- a head, and then its pairs
pub data TriesPairs (file : List ℕ) (g : Given) (budget : ℕ) (x : Trial) (m : Regs) (w : List ℕ) : Due → List ℕ → Type 0 where
  no_pairs : {d : Due} {v : List ℕ} → NoPair d → TriesHead file g x m w d v → TriesPairs file g budget x m w d v
  then_pairs : {n : Regs} {d : Due} {v u : List ℕ} → TriesHead file g x m w (Pair n) v → MovesPairs file g budget n v d u → TriesPairs file g budget x m w d u

-- heads, as long as one is due
pub data TriesHeads (file : List ℕ) (g : Given) (budget : ℕ) : Regs → Trial → List ℕ → Due → List ℕ → Type 0 where
  head_late : {m : Regs} {x : Trial} {w : List ℕ} → budget ≤ m.units → TriesHeads file g budget m x w (Over Budget m) w
  last_head : {m : Regs} {x : Trial} {d : Due} {w v : List ℕ} → m.units < budget → TriesPairs file g budget x (spent m) w d v → TriesHeads file g budget m x w d v
  next_head : {m n : Regs} {x y : Trial} {d : Due} {w v u : List ℕ} → m.units < budget → TriesPairs file g budget x (spent m) w (Try n y) v → TriesHeads file g budget n y v d u → TriesHeads file g budget m x w d u

-- one move, or all moves of heads that follow each other
pub data Turns (file : List ℕ) (g : Given) (budget wanted : ℕ) : Due → Written → List ℕ → List ℕ → Due → Written → List ℕ → List ℕ → Type 0 where
  one : {d n : Due} {t s : Written} {w o v p : List ℕ} → NoPair n → Moves file g budget wanted d t w o n s v p → Turns file g budget wanted d t w o n s v p
  heads : {x : Trial} {m : Regs} {d : Due} {t : Written} {w o v : List ℕ} → TriesHeads file g budget m x w d v → Turns file g budget wanted (Try m x) t w o d t v o

-- a cut, where a unit is left for it
pub data Cuts (file : List ℕ) (g : Given) (budget : ℕ) (m : Regs) (w : List ℕ) : Due → List ℕ → Type 0 where
  no_unit : budget ≤ m.units → Cuts file g budget m w (Over Budget m) w
  a_unit : {d : Due} {v : List ℕ} → m.units < budget → MovesCut file g.lay (spent m) w d v → Cuts file g budget m w d v

-- from what is due to the end
pub data RunsFrom (file : List ℕ) (g : Given) (budget wanted : ℕ) : Due → Written → List ℕ → List ℕ → Outcome → List ℕ → List ℕ → Type 0 where
  stops : {d : Due} {t : Written} {w o : List ℕ} → going_on d ≡ false → RunsFrom file g budget wanted d t w o (ended_of d t) w o
  onward : {d n : Due} {t s : Written} {w o v p u q : List ℕ} {r : Outcome} → going_on d ≡ true → Moves file g budget wanted d t w o n s v p
      → RunsFrom file g budget wanted n s v p r u q → RunsFrom file g budget wanted d t w o r u q

abbrev pub nothing_yet : Written
nothing_yet = record { answers = 0; bytes = 0 }

-- a whole run
pub data Runs (file : List ℕ) (g : Given) (budget wanted : ℕ) (w o : List ℕ) : Outcome → List ℕ → List ℕ → Type 0 where
  runs : {d : Due} {v u q : List ℕ} {r : Outcome} → Starts file g wanted w d v → RunsFrom file g budget wanted d nothing_yet v o r u q → Runs file g budget wanted w o r u q
