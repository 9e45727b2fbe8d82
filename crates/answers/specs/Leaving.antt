-- What an answer leaves: "such an answer leaves no byte", and one that is written keeps to the room. The ends that it stops with.
-- Assumes nothing.
use Rattle.std.specs.Prelude.{ℕ, ◌+◌, ◌≤◌, ◌≡◌, ◌⊎◌, refl, Bool, false, List, Result, Ok, IfErr, length}
use Rattle.std.proofs.Common.{◌∙◌, inl, inr, arith}
use Rattle.meaning.specs.If.{when◌then◌else◌}
use Rattle.meaning.specs.Answers.{stops}
use Rattle.meaning.specs.declared.End.{End}
use Rattle.meaning.specs.declared.End.TheVariants.{Work, Output}
use Rattle.cells.specs.declared.Held.{Held}
use Rattle.cells.specs.declared.Found.{Found}
use Rattle.cells.specs.declared.Layout.{Layout}
use Rattle.answers.specs.declared.Stopped.{Stopped}
use Rattle.answers.specs.declared.Tally.{Tally}
use Rattle.answers.specs.Written.{recorded}
use Rattle.answers.specs.Values.{FreeNode, variable_full, variable, FunctionNode, function_full, crowded, function, Node, is_free, is_function}
use Rattle.answers.specs.Values.{Nodes, none_due, node_stopped, next_due, Value, first_stopped, whole_value, Values, no_more, value_stopped, next_value}
use Rattle.answers.specs.Answering.{last_size, Finishes, last_full, whole, Answers, first_full, values_stopped, measured, fit_of}

-- no record is written while the answer is measured
pub recorded_measured : (i kind n : ℕ) (o : List ℕ) → recorded false i kind n o ≡ o
unfolding recorded when◌then◌else◌
recorded_measured i kind n o = refl

pub free_measured : {lay : Layout} {t : Tally} {r : Result Tally Stopped} {x : ℕ} {w o v p : List ℕ} → FreeNode lay false t x w o r v p → p ≡ o
free_measured (variable_full h) = refl
free_measured (variable h d) = recorded_measured _ _ _ _

pub function_measured : {file : List ℕ} {lay : Layout} {limit f : ℕ} {h : Held} {t : Tally} {r : Result Tally Stopped} {w o v p : List ℕ} → FunctionNode file lay limit false t f h w o r v p → p ≡ o
function_measured (function_full k) = refl
function_measured (crowded k l) = refl
function_measured (function k l) = recorded_measured _ _ _ _

pub node_measured : {file : List ℕ} {lay : Layout} {limit : ℕ} {g : Found} {t : Tally} {r : Result Tally Stopped} {w o v p : List ℕ} → Node file lay limit false t g w o r v p → p ≡ o
node_measured (is_free d) = free_measured d
node_measured (is_function d) = function_measured d

pub nodes_measured : {file : List ℕ} {lay : Layout} {limit hops : ℕ} {t : Tally} {r : Result Tally Stopped} {w o v p : List ℕ} → Nodes file lay limit false hops t w o r v p → p ≡ o
nodes_measured (none_due h) = refl
nodes_measured (node_stopped h d) = node_measured d
nodes_measured (next_due h d n) = nodes_measured n ∙ node_measured d

pub value_measured : {file : List ℕ} {lay : Layout} {limit hops x : ℕ} {t : Tally} {r : Result Tally Stopped} {w o v p : List ℕ} → Value file lay limit false hops t x w o r v p → p ≡ o
value_measured (first_stopped d) = node_measured d
value_measured (whole_value d n) = nodes_measured n ∙ node_measured d

pub values_measured : {file : List ℕ} {lay : Layout} {limit hops variables x : ℕ} {t : Tally} {r : Result Tally Stopped} {w o v p : List ℕ} → Values file lay limit false hops variables x t w o r v p → p ≡ o
values_measured (no_more h) = refl
values_measured (value_stopped h d) = value_measured d
values_measured (next_value h d n) = values_measured n ∙ value_measured d

-- an answer whose writing stops leaves the output as it was
finish_leaves : {file : List ℕ} {lay : Layout} {limit variables steps hops end : ℕ} {t : Tally} {w o v p : List ℕ} {r : Result ℕ End} → Finishes file lay limit variables steps hops t w o r v p → fit_of r ≡ stops end → p ≡ o
unfolding fit_of
finish_leaves (last_full f) e = refl
finish_leaves (whole f n) e = let z : ◌≡◌ {A = ℕ} 0 1 = cc in absurd (omega arith)

pub stop_leaves : {file : List ℕ} {lay : Layout} {limit variables cells steps hops end : ℕ} {w o v p : List ℕ} {r : Result ℕ End} → Answers file lay limit variables cells steps hops w o r v p → fit_of r ≡ stops end → p ≡ o
stop_leaves (first_full h) e = refl
stop_leaves (values_stopped h d) e = values_measured d
stop_leaves (measured h d f) e = finish_leaves f e ∙ values_measured d

-- an answer that is written takes no more than the room
finish_fits : {file : List ℕ} {lay : Layout} {limit variables steps hops n : ℕ} {t : Tally} {w o v p : List ℕ} {r : Result ℕ End} → Finishes file lay limit variables steps hops t w o r v p → r ≡ Ok n → n ≤ length o
finish_fits (last_full f) e = let z : ◌≡◌ {A = ℕ} 0 1 = cc in absurd (omega arith)
finish_fits {steps} {n} {t} (whole f k) e = let s : t.size + last_size steps ≡ n = cc in omega arith

pub bytes_fit : {file : List ℕ} {lay : Layout} {limit variables cells steps hops n : ℕ} {w o v p : List ℕ} {r : Result ℕ End} → Answers file lay limit variables cells steps hops w o r v p → r ≡ Ok n → n ≤ length o
bytes_fit (first_full h) e = let z : ◌≡◌ {A = ℕ} 0 1 = cc in absurd (omega arith)
bytes_fit (values_stopped h d) e = let z : ◌≡◌ {A = ℕ} 0 1 = cc in absurd (omega arith)
bytes_fit {o} (measured {p} h d f) e = let l : p ≡ o = values_measured d in rw l at (finish_fits f e)

-- an answer stops with one of two ends: a record passes the room, or the nodes due the limit
abbrev pub Stops : {A : Type 0} → Result A End → Type 0
Stops r = IfErr r (λ e. (e ≡ Work) ⊎ (e ≡ Output))

-- and so does a pass over its values
abbrev pub PassStops : {A : Type 0} → Result A Stopped → Type 0
PassStops r = IfErr r (λ e. (e.end ≡ Work) ⊎ (e.end ≡ Output))

node_stops : {file : List ℕ} {lay : Layout} {limit : ℕ} {write : Bool} {g : Found} {t : Tally} {r : Result Tally Stopped} {w o v p : List ℕ} → Node file lay limit write t g w o r v p → PassStops r
node_stops (is_free (variable_full h)) = inr refl
node_stops (is_free (variable h d)) = tt
node_stops (is_function (function_full k)) = inr refl
node_stops (is_function (crowded k l)) = inl refl
node_stops (is_function (function k l)) = tt

nodes_stop : {file : List ℕ} {lay : Layout} {limit hops : ℕ} {write : Bool} {t : Tally} {r : Result Tally Stopped} {w o v p : List ℕ} → Nodes file lay limit write hops t w o r v p → PassStops r
nodes_stop (none_due h) = tt
nodes_stop (node_stopped h d) = node_stops d
nodes_stop (next_due h d n) = nodes_stop n

values_stop : {file : List ℕ} {lay : Layout} {limit hops variables : ℕ} {write : Bool} {x : ℕ} {t : Tally} {r : Result Tally Stopped} {w o v p : List ℕ} → Values file lay limit write hops variables x t w o r v p → PassStops r
values_stop (no_more h) = tt
values_stop (value_stopped h (first_stopped d)) = node_stops d
values_stop (value_stopped h (whole_value d n)) = nodes_stop n
values_stop (next_value h d n) = values_stop n

finish_stops : {file : List ℕ} {lay : Layout} {limit variables steps hops : ℕ} {t : Tally} {w o v p : List ℕ} {r : Result ℕ End} → Finishes file lay limit variables steps hops t w o r v p → Stops r
finish_stops (last_full f) = inr refl
finish_stops (whole f n) = tt

pub answer_stops : {file : List ℕ} {lay : Layout} {limit variables cells steps hops : ℕ} {w o v p : List ℕ} {r : Result ℕ End} → Answers file lay limit variables cells steps hops w o r v p → Stops r
answer_stops (first_full h) = inr refl
answer_stops (values_stopped h d) = values_stop d
answer_stops (measured h d f) = finish_stops f
