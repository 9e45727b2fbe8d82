-- The values of an answer, node by node: free variables are numbered, arguments are due, and the writing stops where a record passes
-- the room or the nodes due pass the limit W. What is measured and what is written differ in the bytes of the output alone.
-- Assumes nothing.
use Rattle.std.specs.Prelude.{ℕ, zero, suc, ◌+◌, ◌-◌, ◌*◌, ◌%◌, ◌≤◌, ◌<◌, ◌≡◌, Bool, List, Result, Ok, Err, ltb, length, get_or, set}
use Rattle.meaning.specs.If.{when◌then◌else◌}
use Rattle.meaning.specs.Kinds.{an_application, an_answer_variable}
use Rattle.meaning.specs.Reading.{byte}
use Rattle.meaning.specs.declared.CellNumber.{CellNumber}
use Rattle.meaning.specs.declared.End.TheVariants.{Work, Output}
use Rattle.words.specs.Words.{plus, ahead}
use Rattle.cells.specs.Cells.{cell_at, followed}
use Rattle.cells.specs.declared.Held.{Held}
use Rattle.cells.specs.declared.Cell.{Cell}
use Rattle.cells.specs.declared.Cell.TheVariants.{Free, Bound}
use Rattle.cells.specs.declared.Found.{Found}
use Rattle.cells.specs.declared.Found.TheVariants.{Unbound, Function}
use Rattle.cells.specs.declared.Layout.{Layout}
use Rattle.answers.specs.declared.Stopped.{Stopped}
use Rattle.answers.specs.declared.Tally.{Tally}
use Rattle.answers.specs.Written.{answer_size, application_size, variable_size, recorded}

-- the words after so many cells are no more numbered, the last first
unfoldable pub forgotten : ℕ → Layout → List ℕ → List ℕ
forgotten zero lay w = w
forgotten (suc n) lay w = forgotten n lay (set w (lay.list + n) 0)

-- the number of the free variable x, where so many have appeared: that of its first appearance, or the next one. Its word is one more
pub data Number (lay : Layout) (x free : ℕ) (w : List ℕ) : ℕ → List ℕ → Type 0 where
  known : (get_or w (lay.list + x) 0 ≡ 0 → ⊥) → Number lay x free w (get_or w (lay.list + x) 0 - 1) w
  fresh : get_or w (lay.list + x) 0 ≡ 0 → Number lay x free w free (set w (lay.list + x) (plus free 1))

-- how many have appeared then
unfoldable pub appeared_of : ℕ → ℕ → ℕ
appeared_of free number = when ltb number free then free else plus number 1

-- the term that is due at i, and the words after a term is due there: its place, and the cell its variables are counted from
unfoldable pub due_at : List ℕ → Layout → ℕ → Held
due_at w lay i = record { place = record { 0 = get_or w (lay.work + 2 * i) 0 }; base = record { 0 = get_or w (lay.work + 2 * i + 1) 0 } }

unfoldable pub due_put : Layout → ℕ → ℕ → ℕ → List ℕ → List ℕ
due_put lay i place base w = set (set w (lay.work + 2 * i) (place % 4294967296)) (lay.work + 2 * i + 1) base

-- the words after so many arguments are due, of which the first stands at p: each stands where the tables say that the one before it ends
unfoldable pub arguments_put : ℕ → ℕ → ℕ → ℕ → Layout → List ℕ → List ℕ
arguments_put zero due base p lay w = w
arguments_put (suc n) due base p lay w =
    let v : List ℕ = due_put lay (plus due n) p base w in
    arguments_put n due base (get_or v (ahead 64 p) 0) lay v

-- the arity of a function: its record is the one at place 2 f
abbrev pub arity_of : List ℕ → ℕ → ℕ
arity_of file f = byte file (2 * f + 1)

-- so many nodes are due
abbrev pub with_due : ℕ → Tally → Tally
with_due n t = record { size = t.size; free = t.free; due = n }

-- a node that is a free variable x
pub data FreeNode (lay : Layout) (write : Bool) (t : Tally) (x : ℕ) (w o : List ℕ) : Result Tally Stopped → List ℕ → List ℕ → Type 0 where
  variable_full : length o < t.size + variable_size → FreeNode lay write t x w o (Err (record { end = Output; tally = t })) w o
  variable : {n : ℕ} {v : List ℕ} → t.size + variable_size ≤ length o → Number lay x t.free w n v
      → FreeNode lay write t x w o (Ok (record { size = t.size + variable_size; free = appeared_of t.free n; due = t.due })) v (recorded write t.size an_answer_variable n o)

-- a node that is the function f applied, which stands where h says
pub data FunctionNode (file : List ℕ) (lay : Layout) (limit : ℕ) (write : Bool) (t : Tally) (f : ℕ) (h : Held) (w o : List ℕ) : Result Tally Stopped → List ℕ → List ℕ → Type 0 where
  function_full : length o < t.size + application_size → FunctionNode file lay limit write t f h w o (Err (record { end = Output; tally = t })) w o
  crowded : t.size + application_size ≤ length o → limit < plus t.due (arity_of file f) → FunctionNode file lay limit write t f h w o (Err (record { end = Work; tally = t })) w o
  function : t.size + application_size ≤ length o → plus t.due (arity_of file f) ≤ limit
      → FunctionNode file lay limit write t f h w o (Ok (record { size = t.size + application_size; free = t.free; due = plus t.due (arity_of file f) }))
      (arguments_put (arity_of file f) t.due h.base.0 (ahead h.place.0 application_size) lay w) (recorded write t.size an_application f o)

-- a node of a value, by what following its term comes to
pub data Node (file : List ℕ) (lay : Layout) (limit : ℕ) (write : Bool) (t : Tally) : Found → List ℕ → List ℕ → Result Tally Stopped → List ℕ → List ℕ → Type 0 where
  is_free : {x : CellNumber} {h : Held} {w o v p : List ℕ} {r : Result Tally Stopped} → FreeNode lay write t x.0 w o r v p → Node file lay limit write t (Unbound x h) w o r v p
  is_function : {f : ℕ} {h : Held} {w o v p : List ℕ} {r : Result Tally Stopped} → FunctionNode file lay limit write t f h w o r v p → Node file lay limit write t (Function f h) w o r v p

-- the foremost node due, behind which so many more are
abbrev pub NextNode : List ℕ → Layout → ℕ → Bool → ℕ → Tally → List ℕ → List ℕ → Result Tally Stopped → List ℕ → List ℕ → Type 0
NextNode file lay limit write hops t w o r v p = Node file lay limit write t (followed hops file w lay (due_at w lay t.due)) w o r v p

-- the nodes due, one after another, until none is left or the writing stops
pub data Nodes (file : List ℕ) (lay : Layout) (limit : ℕ) (write : Bool) (hops : ℕ) : Tally → List ℕ → List ℕ → Result Tally Stopped → List ℕ → List ℕ → Type 0 where
  none_due : {t : Tally} {w o : List ℕ} → t.due ≡ 0 → Nodes file lay limit write hops t w o (Ok t) w o
  node_stopped : {t : Tally} {e : Stopped} {w o v p : List ℕ} → (t.due ≡ 0 → ⊥) → NextNode file lay limit write hops (with_due (t.due - 1) t) w o (Err e) v p
      → Nodes file lay limit write hops t w o (Err e) v p
  next_due : {t s : Tally} {r : Result Tally Stopped} {w o v p u q : List ℕ} → (t.due ≡ 0 → ⊥) → NextNode file lay limit write hops (with_due (t.due - 1) t) w o (Ok s) v p
      → Nodes file lay limit write hops s v p r u q → Nodes file lay limit write hops t w o r u q

-- what a query variable comes to: itself, where its cell is free
unfoldable pub cell_value : ℕ → List ℕ → List ℕ → Layout → ℕ → Cell → Found
cell_value hops file w lay x Free = Unbound (record { 0 = x }) (record { place = record { 0 = 0 }; base = record { 0 = 0 } })
cell_value hops file w lay x (Bound h) = followed hops file w lay h

unfoldable pub value_of : ℕ → List ℕ → List ℕ → Layout → ℕ → Found
value_of hops file w lay x = cell_value hops file w lay x (cell_at w lay x)

-- the value of the query variable x: its first node, and then those due
pub data Value (file : List ℕ) (lay : Layout) (limit : ℕ) (write : Bool) (hops : ℕ) (t : Tally) (x : ℕ) (w o : List ℕ) : Result Tally Stopped → List ℕ → List ℕ → Type 0 where
  first_stopped : {e : Stopped} {v p : List ℕ} → Node file lay limit write (with_due 0 t) (value_of hops file w lay x) w o (Err e) v p → Value file lay limit write hops t x w o (Err e) v p
  whole_value : {s : Tally} {r : Result Tally Stopped} {v p u q : List ℕ} → Node file lay limit write (with_due 0 t) (value_of hops file w lay x) w o (Ok s) v p
      → Nodes file lay limit write hops s v p r u q → Value file lay limit write hops t x w o r u q

-- the values of the query variables from x on, in order, until the writing stops
pub data Values (file : List ℕ) (lay : Layout) (limit : ℕ) (write : Bool) (hops variables : ℕ) : ℕ → Tally → List ℕ → List ℕ → Result Tally Stopped → List ℕ → List ℕ → Type 0 where
  no_more : {x : ℕ} {t : Tally} {w o : List ℕ} → variables ≤ x → Values file lay limit write hops variables x t w o (Ok t) w o
  value_stopped : {x : ℕ} {t : Tally} {e : Stopped} {w o v p : List ℕ} → x < variables → Value file lay limit write hops t x w o (Err e) v p
      → Values file lay limit write hops variables x t w o (Err e) v p
  next_value : {x : ℕ} {t s : Tally} {r : Result Tally Stopped} {w o v p u q : List ℕ} → x < variables → Value file lay limit write hops t x w o (Ok s) v p
      → Values file lay limit write hops variables (x + 1) s v p r u q → Values file lay limit write hops variables x t w o r u q

-- before the first value: the first record, and no variable has appeared
abbrev pub none_yet : Tally
none_yet = record { size = answer_size; free = 0; due = 0 }
