-- The moves of a run, each of which costs one unit, and what comes of each: the next move that is due, or an end.
-- Assumes nothing.
use Rattle.std.specs.Prelude.{ℕ, zero, suc, ◌+◌, ◌-◌, not, List, [], ◌∷◌, ◌++◌, map, ltb, eqb, length, drop}
use Rattle.meaning.specs.If.{when◌then◌else◌}
use Rattle.meaning.specs.Editions.{todays}
use Rattle.meaning.specs.Terms.{Term, var, app, Terms, []ₜ, ◌∷ₜ◌, inst, insts, from, occurs, row}
use Rattle.meaning.specs.Rules.{Call, Goal, call, cut, Clause, Rules}
use Rattle.meaning.specs.Store.{Store, empty, bind, value, follow}
use Rattle.meaning.specs.Answers.{Answer, renumbered, pieces, output, Fit, fits, stops, fitting}

-- the run limits C, S and W
pub record Limits : Type 0 where
  pub cells : ℕ
  pub steps : ℕ
  pub work : ℕ

-- An open goal, over cells. A cut knows how many choices it keeps: in a clause's body those there were before the goal was called; in the
-- query none, by 2026-02
pub data Open : Type 0 where
  goal : Call → Open
  cut_to : ℕ → Open

-- a derivation: its open goals, what its cells hold, how many cells it took, the clause numbers of its steps
pub record Derivation : Type 0 where
  pub goals : List Open
  pub store : Store
  pub cells : ℕ
  pub steps : List ℕ

pub record Numbered : Type 0 where
  pub number : ℕ
  pub clause : Clause

-- a goal with its untried clauses, and the derivation when the goal was taken, with the goals behind it
pub data Choice : Type 0 where
  choice : List Numbered → Call → Derivation → Choice

-- a pair to match
pub record Pair : Type 0 where
  pub goal_side : Term
  pub head_side : Term

-- What costs a unit: to try the head of a clause, with the choice that is left, to take the front pair, to cut. Choices: the latest first
pub data Move : Type 0 where
  trying : Numbered → Choice → List Choice → Move
  taking : Pair → List Pair → Derivation → List Choice → Move
  cutting : ℕ → Derivation → List Choice → Move

-- what was done: the answers written, in order, and the units spent
pub record Done : Type 0 where
  pub listed : List Answer
  pub units : ℕ

-- an end, by number, or a move that is due
pub data State : Type 0 where
  ended : ℕ → Done → State
  due : Move → Done → State

unfoldable pub nothing : Done
nothing = record { listed = []; units = 0 }

unfoldable pub spend : Done → Done
spend d = record { listed = d.listed; units = d.units + 1 }

unfoldable pub list : Answer → Done → Done
list a d = record { listed = d.listed ++ a ∷ []; units = d.units }

-- the clauses of a predicate in number order, counted from n
unfoldable pub clauses_of : ℕ → ℕ → List Clause → List Numbered
clauses_of p n [] = []
clauses_of p n (c ∷ cs) =
    let rest : List Numbered = clauses_of p (suc n) cs in
    when eqb c.head.predicate p then record { number = n; clause = c } ∷ rest else rest

-- the call with its variables counted from the cell b
unfoldable pub over : ℕ → Call → Call
over b g = record { predicate = g.predicate; arguments = insts (from b) g.arguments }

-- a goal of a clause whose variables are counted from b, and of the query; its cuts keep h choices
unfoldable pub body_goal : ℕ → ℕ → Goal → Open
body_goal b h (call g) = goal (over b g)
body_goal b h cut = cut_to h

unfoldable pub query_goal : ℕ → Goal → Open
query_goal h (call g) = goal g
query_goal h cut = cut_to h

unfoldable pub pairs : Terms → Terms → List Pair
pairs []ₜ us = []
pairs (t ∷ₜ ts) []ₜ = []
pairs (t ∷ₜ ts) (u ∷ₜ us) = record { goal_side = t; head_side = u } ∷ pairs ts us

-- the derivation at the start, where a cut in the query keeps h choices
abbrev pub asked : Rules → ℕ → Derivation
asked R h = record { goals = map (query_goal h) R.query; store = empty; cells = R.variables; steps = [] }

unfoldable pub with_goals : List Open → Derivation → Derivation
with_goals gs n = record { goals = gs; store = n.store; cells = n.cells; steps = n.steps }

unfoldable pub with_binding : ℕ → Term → Derivation → Derivation
with_binding x t n = record { goals = n.goals; store = bind x t n.store; cells = n.cells; steps = n.steps }

-- the derivation with one step more, the body's goals in front; its cuts keep h choices
unfoldable pub with_step : Numbered → ℕ → Derivation → Derivation
with_step k h n = record {
  goals = map (body_goal n.cells h) k.clause.body ++ n.goals;
  store = n.store;
  cells = n.cells + k.clause.variables;
  steps = n.steps ++ k.number ∷ [];
}

-- the h oldest choices
unfoldable pub keep : ℕ → List Choice → List Choice
keep h cs = drop (length cs - h) cs

-- "Failure goes back to the latest goal with untried clauses. None left: end 20"
unfoldable pub fail : List Choice → Done → State
fail [] d = ended 20 d
fail (choice [] g n ∷ cs) d = fail cs d
fail (choice (k ∷ ks) g n ∷ cs) d = due (trying k (choice ks g n) cs) d

module _ (R : Rules) (L : Limits) (wanted room : ℕ) where
  -- the answer of a derivation with no open goal
  unfoldable pub answer : Derivation → Answer
  answer n = record { values = renumbered (row R.variables (value n.store)); steps = n.steps }

  -- "End 21 is tested after each answer. After it is written the machine fails on purpose"
  unfoldable pub answered : List Choice → Done → State
  answered cs d = when eqb (length d.listed) wanted then ended 21 d else fail cs d

  unfoldable pub put_out : Fit → Answer → List Choice → Done → State
  put_out fits a cs d = answered cs (list a d)
  put_out (stops e) a cs d = ended e d

  -- "No open goal: an answer"
  unfoldable pub answering : Derivation → List Choice → Done → State
  answering n cs d = put_out (fitting (room - length (output d.listed)) L.work 0 (pieces (answer n))) (answer n) cs d

  -- "The first open goal is taken. For a predicate goal, its clauses are tried in number order"
  unfoldable pub take_goal : List Open → Derivation → List Choice → Done → State
  take_goal [] n cs d = answering n cs d
  take_goal (goal g ∷ gs) n cs d = fail (choice (clauses_of g.predicate 0 R.clauses) g (with_goals gs n) ∷ cs) d
  take_goal (cut_to h ∷ gs) n cs d = due (cutting h (with_goals gs n) cs) d

  unfoldable pub go_on : Derivation → List Choice → Done → State
  go_on n cs d = take_goal n.goals n cs d

  -- the pairs that are left to match; none: the head matched
  unfoldable pub matching : List Pair → Derivation → List Choice → Done → State
  matching [] n cs d = go_on n cs d
  matching (p ∷ ps) n cs d = due (taking p ps n cs) d

  -- "A variable occurring inside its new value is a mismatch", else the free variable is bound
  unfoldable pub binding : ℕ → Term → List Pair → Derivation → List Choice → Done → State
  binding x t ps n cs d =
      when occurs x (inst (value n.store) t) then fail cs d else
      matching ps (with_binding x t n) cs d

  -- Goal side and head side, both followed. "One and the same free variable: done. Else a free head side is bound to the goal side;
  -- else a free goal side to the head side. Else the functions must be equal, and the argument pairs go in front; end 25 if the list
  -- would then exceed W"
  unfoldable pub compared : Term → Term → List Pair → Derivation → List Choice → Done → State
  compared (var x) (var y) ps n cs d = when eqb x y then matching ps n cs d else binding y (var x) ps n cs d
  compared (app f ts) (var y) ps n cs d = binding y (app f ts) ps n cs d
  compared (var x) (app g us) ps n cs d = binding x (app g us) ps n cs d
  compared (app f ts) (app g us) ps n cs d =
      when not (eqb f g) then fail cs d else
      when ltb L.work (length (pairs ts us ++ ps)) then ended 25 d else
      matching (pairs ts us ++ ps) n cs d

  unfoldable pub take_pair : Pair → List Pair → Derivation → List Choice → Done → State
  take_pair p ps n cs d = compared (follow n.store p.goal_side) (follow n.store p.head_side) ps n cs d

  -- "The clause's variables need fresh cells (end 23 if over C); the derivation would gain one step (end 24 if over S); the arguments
  -- are matched"
  unfoldable pub try_head : Numbered → Choice → List Choice → Done → State
  try_head k (choice ks g n) cs d =
      when ltb L.cells (n.cells + k.clause.variables) then ended 23 d else
      when ltb L.steps (length n.steps + 1) then ended 24 d else
      matching
      (pairs g.arguments (over n.cells k.clause.head).arguments)
      (with_step k (length cs) n)
      (choice ks g n ∷ cs)
      d

  -- a move, its unit being spent
  unfoldable pub move : Move → Done → State
  move (trying k c cs) d = try_head k c cs d
  move (taking p ps n cs) d = take_pair p ps n cs d
  move (cutting h n cs) d = go_on n (keep h cs) d

  -- "End 21 is tested at the start. Then the query's variables take one cell each; if C is less, end 23 with 0 units"; a cut in the query
  -- keeps h choices
  unfoldable pub start_keeping : ℕ → State
  start_keeping h =
      when eqb wanted 0 then ended 21 nothing else
      when ltb L.cells R.variables then ended 23 nothing else
      go_on (asked R h) [] nothing

  -- today, none
  abbrev pub start : State
  start = start_keeping todays.query_keeps

  -- Moves, while a unit is left: "one unit is spent (end 22 if none is left)". The end's number, and what was done
  unfoldable pub run : ℕ → State → ℕ × Done
  run zero (ended e d) = (e, d)
  run zero (due m d) = (22, d)
  run (suc left) (ended e d) = (e, d)
  run (suc left) (due m d) = run left (move m (spend d))
