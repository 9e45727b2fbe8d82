-- What the writing of an answer comes to is one: one result, one content of scratch and of the output.
-- Assumes nothing.
use Rattle.std.specs.Prelude.{ℕ, ◌≡◌, refl, Bool, List, Result, Ok, Err}
use Rattle.std.proofs.Common.{arith}
use Rattle.meaning.specs.declared.End.{End}
use Rattle.cells.specs.declared.Held.{Held}
use Rattle.cells.specs.declared.Found.{Found}
use Rattle.cells.specs.declared.Layout.{Layout}
use Rattle.answers.specs.declared.Stopped.{Stopped}
use Rattle.answers.specs.declared.Tally.{Tally}
use Rattle.answers.specs.Values.{Number, known, fresh, FreeNode, variable_full, variable, FunctionNode, function_full, crowded, function, Node, is_free, is_function}
use Rattle.answers.specs.Values.{Nodes, none_due, node_stopped, next_due, Value, first_stopped, whole_value, Values, no_more, value_stopped, next_value}
use Rattle.answers.specs.Answering.{Writes, records, Finishes, last_full, whole, Answers, first_full, values_stopped, measured}

-- two ends that are the same: result, words, bytes
pub record Same {A : Type 0} (r₁ r₂ : A) (v₁ v₂ p₁ p₂ : List ℕ) : Type 0 where
  pub result : r₁ ≡ r₂
  pub words : v₁ ≡ v₂
  pub bytes : p₁ ≡ p₂

-- a tally is no end
no_end : {a : Tally} {e : Stopped} {v₁ v₂ p₁ p₂ : List ℕ} → Same (Ok a) (Err e) v₁ v₂ p₁ p₂ → ⊥
no_end s = let q = s.result in cc

number_unique : {lay : Layout} {x free : ℕ} {w : List ℕ} {n₁ n₂ : ℕ} {v₁ v₂ o : List ℕ} → Number lay x free w n₁ v₁ → Number lay x free w n₂ v₂ → Same n₁ n₂ v₁ v₂ o o
number_unique (known h) (known k) = record { result = refl; words = refl; bytes = refl }
number_unique (known h) (fresh k) = absurd (h k)
number_unique (fresh h) (known k) = absurd (k h)
number_unique (fresh h) (fresh k) = record { result = refl; words = refl; bytes = refl }

free_unique : {lay : Layout} {write : Bool} {t : Tally} {r₁ r₂ : Result Tally Stopped} {x : ℕ} {w o v₁ v₂ p₁ p₂ : List ℕ} → FreeNode lay write t x w o r₁ v₁ p₁ → FreeNode lay write t x w o r₂ v₂ p₂ → Same r₁ r₂ v₁ v₂ p₁ p₂
free_unique (variable_full h) (variable_full k) = record { result = refl; words = refl; bytes = refl }
free_unique (variable_full h) (variable k e) = absurd (omega arith)
free_unique (variable h d) (variable_full k) = absurd (omega arith)
free_unique {o} (variable h d) (variable k e) =
    let s : Same _ _ _ _ o o = number_unique d e in
    rw (s.result, s.words) (record { result = refl; words = refl; bytes = refl })

function_unique : {file : List ℕ} {lay : Layout} {limit f : ℕ} {write : Bool} {t : Tally} {r₁ r₂ : Result Tally Stopped} {h : Held} {w o v₁ v₂ p₁ p₂ : List ℕ}
    → FunctionNode file lay limit write t f h w o r₁ v₁ p₁ → FunctionNode file lay limit write t f h w o r₂ v₂ p₂ → Same r₁ r₂ v₁ v₂ p₁ p₂
function_unique (function_full h) (function_full k) = record { result = refl; words = refl; bytes = refl }
function_unique (function_full h) (crowded k l) = absurd (omega arith)
function_unique (function_full h) (function k l) = absurd (omega arith)
function_unique (crowded h i) (function_full k) = absurd (omega arith)
function_unique (crowded h i) (crowded k l) = record { result = refl; words = refl; bytes = refl }
function_unique (crowded h i) (function k l) = absurd (omega arith)
function_unique (function h i) (function_full k) = absurd (omega arith)
function_unique (function h i) (crowded k l) = absurd (omega arith)
function_unique (function h i) (function k l) = record { result = refl; words = refl; bytes = refl }

node_unique : {file : List ℕ} {lay : Layout} {limit : ℕ} {write : Bool} {t : Tally} {r₁ r₂ : Result Tally Stopped} {g : Found} {w o v₁ v₂ p₁ p₂ : List ℕ}
    → Node file lay limit write t g w o r₁ v₁ p₁ → Node file lay limit write t g w o r₂ v₂ p₂ → Same r₁ r₂ v₁ v₂ p₁ p₂
node_unique (is_free d) (is_free e) = free_unique d e
node_unique (is_function d) (is_function e) = function_unique d e

nodes_unique : {file : List ℕ} {lay : Layout} {limit hops : ℕ} {write : Bool} {t : Tally} {r₁ r₂ : Result Tally Stopped} {w o v₁ v₂ p₁ p₂ : List ℕ}
    → Nodes file lay limit write hops t w o r₁ v₁ p₁ → Nodes file lay limit write hops t w o r₂ v₂ p₂ → Same r₁ r₂ v₁ v₂ p₁ p₂
nodes_unique (none_due h) (none_due k) = record { result = refl; words = refl; bytes = refl }
nodes_unique (none_due h) (node_stopped k e) = absurd (k h)
nodes_unique (none_due h) (next_due k e n) = absurd (k h)
nodes_unique (node_stopped h d) (none_due k) = absurd (h k)
nodes_unique (node_stopped h d) (node_stopped k e) = node_unique d e
nodes_unique (node_stopped h d) (next_due k e n) = absurd (no_end (node_unique e d))
nodes_unique (next_due h d m) (none_due k) = absurd (h k)
nodes_unique (next_due h d m) (node_stopped k e) = absurd (no_end (node_unique d e))
nodes_unique (next_due {s = a} h d m) (next_due {s = b} k e n) =
    let s : Same _ _ _ _ _ _ = node_unique e d in
    let t : b ≡ a = cc in
    nodes_unique m (rw (t, s.words, s.bytes) at n)

value_unique : {file : List ℕ} {lay : Layout} {limit hops x : ℕ} {write : Bool} {t : Tally} {r₁ r₂ : Result Tally Stopped} {w o v₁ v₂ p₁ p₂ : List ℕ}
    → Value file lay limit write hops t x w o r₁ v₁ p₁ → Value file lay limit write hops t x w o r₂ v₂ p₂ → Same r₁ r₂ v₁ v₂ p₁ p₂
value_unique (first_stopped d) (first_stopped e) = node_unique d e
value_unique (first_stopped d) (whole_value e n) = absurd (no_end (node_unique e d))
value_unique (whole_value d m) (first_stopped e) = absurd (no_end (node_unique d e))
value_unique (whole_value {s = a} d m) (whole_value {s = b} e n) =
    let s : Same _ _ _ _ _ _ = node_unique e d in
    let t : b ≡ a = cc in
    nodes_unique m (rw (t, s.words, s.bytes) at n)

pub values_unique : {file : List ℕ} {lay : Layout} {limit hops variables : ℕ} {write : Bool} {x : ℕ} {t : Tally} {r₁ r₂ : Result Tally Stopped} {w o v₁ v₂ p₁ p₂ : List ℕ}
    → Values file lay limit write hops variables x t w o r₁ v₁ p₁ → Values file lay limit write hops variables x t w o r₂ v₂ p₂ → Same r₁ r₂ v₁ v₂ p₁ p₂
values_unique (no_more h) (no_more k) = record { result = refl; words = refl; bytes = refl }
values_unique (no_more h) (value_stopped k e) = absurd (omega arith)
values_unique (no_more h) (next_value k e n) = absurd (omega arith)
values_unique (value_stopped h d) (no_more k) = absurd (omega arith)
values_unique (value_stopped h d) (value_stopped k e) = value_unique d e
values_unique (value_stopped h d) (next_value k e n) = absurd (no_end (value_unique e d))
values_unique (next_value h d m) (no_more k) = absurd (omega arith)
values_unique (next_value h d m) (value_stopped k e) = absurd (no_end (value_unique d e))
values_unique (next_value {s = a} h d m) (next_value {s = b} k e n) =
    let s : Same _ _ _ _ _ _ = value_unique e d in
    let t : b ≡ a = cc in
    values_unique m (rw (t, s.words, s.bytes) at n)

writes_unique : {file : List ℕ} {lay : Layout} {limit variables steps hops free : ℕ} {w o v₁ v₂ p₁ p₂ : List ℕ}
    → Writes file lay limit variables steps hops free w o v₁ p₁ → Writes file lay limit variables steps hops free w o v₂ p₂ → Same steps steps v₁ v₂ p₁ p₂
writes_unique (records d) (records e) =
    let s : Same _ _ _ _ _ _ = values_unique d e in
    rw (s.result, s.words, s.bytes) (record { result = refl; words = refl; bytes = refl })

finishes_unique : {file : List ℕ} {lay : Layout} {limit variables steps hops : ℕ} {t : Tally} {r₁ r₂ : Result ℕ End} {w o v₁ v₂ p₁ p₂ : List ℕ}
    → Finishes file lay limit variables steps hops t w o r₁ v₁ p₁ → Finishes file lay limit variables steps hops t w o r₂ v₂ p₂ → Same r₁ r₂ v₁ v₂ p₁ p₂
finishes_unique (last_full h) (last_full k) = record { result = refl; words = refl; bytes = refl }
finishes_unique (last_full h) (whole k n) = absurd (omega arith)
finishes_unique (whole h m) (last_full k) = absurd (omega arith)
finishes_unique (whole h m) (whole k n) =
    let s : Same _ _ _ _ _ _ = writes_unique m n in
    record { result = refl; words = s.words; bytes = s.bytes }

-- the answer is one
pub answers_unique : {file : List ℕ} {lay : Layout} {limit variables cells steps hops : ℕ} {r₁ r₂ : Result ℕ End} {w o v₁ v₂ p₁ p₂ : List ℕ}
    → Answers file lay limit variables cells steps hops w o r₁ v₁ p₁ → Answers file lay limit variables cells steps hops w o r₂ v₂ p₂ → Same r₁ r₂ v₁ v₂ p₁ p₂
answers_unique (first_full h) (first_full k) = record { result = refl; words = refl; bytes = refl }
answers_unique (first_full h) (values_stopped k e) = absurd (omega arith)
answers_unique (first_full h) (measured k e g) = absurd (omega arith)
answers_unique (values_stopped h d) (first_full k) = absurd (omega arith)
answers_unique (values_stopped {e = x} h d) (values_stopped {e = y} k e) =
    let s : Same _ _ _ _ _ _ = values_unique d e in
    let t : x ≡ y = cc in
    rw t (record { result = refl; words = s.words; bytes = s.bytes })
answers_unique (values_stopped h d) (measured k e g) = absurd (no_end (values_unique e d))
answers_unique (measured h d f) (first_full k) = absurd (omega arith)
answers_unique (measured h d f) (values_stopped k e) = absurd (no_end (values_unique d e))
answers_unique (measured {t = a} h d f) (measured {t = b} k e g) =
    let s : Same _ _ _ _ _ _ = values_unique e d in
    let t : b ≡ a = cc in
    finishes_unique f (rw (t, s.words, s.bytes) at g)
