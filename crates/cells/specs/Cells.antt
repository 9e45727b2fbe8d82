-- What the functions over cells do, word for word.
-- Assumes nothing.
use Rattle.std.specs.Prelude.{ℕ, zero, suc, ◌+◌, ◌-◌, ◌*◌, ◌/◌, ◌%◌, ◌≤◌, ◌<◌, ◌≡◌, Bool, true, false, List, Option, Some, None, Result, Ok, Err, eqb, leb, get_or, set}
use Rattle.meaning.specs.If.{when◌then◌else◌}
use Rattle.meaning.specs.Kinds.{a_variable}
use Rattle.meaning.specs.Reading.{byte, two_bytes}
use Rattle.meaning.specs.declared.Place.{Place}
use Rattle.meaning.specs.declared.CellNumber.{CellNumber}
use Rattle.words.specs.Words.{plus, ahead}
use Rattle.cells.specs.declared.Held.{Held}
use Rattle.cells.specs.declared.Cell.{Cell}
use Rattle.cells.specs.declared.Cell.TheVariants.{Free, Bound}
use Rattle.cells.specs.declared.Node.{Node}
use Rattle.cells.specs.declared.Node.TheVariants.{Variable, Applied}
use Rattle.cells.specs.declared.Found.{Found}
use Rattle.cells.specs.declared.Found.TheVariants.{Unbound, Function}
use Rattle.cells.specs.declared.Layout.{Layout}

-- a place as a word; a term held in two words; the place after the term or goal that stands at a place
unfoldable pub word_of_place : Place → ℕ
word_of_place p = p.0 % 4294967296

unfoldable pub held_at : List ℕ → ℕ → Held
held_at w at = record { place = record { 0 = get_or w at 0 }; base = record { 0 = get_or w (ahead at 1) 0 } }

unfoldable pub place_after : List ℕ → Place → Place
place_after w p = record { 0 = get_or w (ahead 64 p.0) 0 }

-- a bound cell as a word, from 1 on
unfoldable pub word_of : Held → ℕ
word_of h = plus ((h.place.0 % 65536) * 65536 + h.base.0 % 65536) 1

unfoldable pub cell_of : ℕ → Cell
cell_of v = when eqb v 0 then Free else Bound (record { place = record { 0 = (v - 1) / 65536 }; base = record { 0 = (v - 1) % 65536 } })

unfoldable pub cell_at : List ℕ → Layout → ℕ → Cell
cell_at w lay x = cell_of (get_or w (lay.cells + x) 0)

unfoldable pub node_of : List ℕ → Held → Node
node_of file h =
    when eqb (byte file h.place.0) a_variable then Variable (record { 0 = plus h.base.0 (byte file (h.place.0 + 1)) }) else
    Applied (two_bytes file (h.place.0 + 1))

-- a hop: what the term comes to, or else the next term
unfoldable pub hop_cell : Held → CellNumber → Cell → Result Found Held
hop_cell h x Free = Ok (Unbound x h)
hop_cell h x (Bound n) = Err n

unfoldable pub hop_node : List ℕ → Layout → Held → Node → Result Found Held
hop_node w lay h (Applied f) = Ok (Function f h)
hop_node w lay h (Variable x) = hop_cell h x (cell_at w lay x.0)

unfoldable pub hop_of : List ℕ → List ℕ → Layout → Held → Result Found Held
hop_of file w lay h = hop_node w lay h (node_of file h)

-- what comes of a hop, where so many more may follow
unfoldable pub hopped : (Held → Found) → Result Found Held → Found
hopped go (Ok f) = f
hopped go (Err n) = go n

unfoldable pub followed : ℕ → List ℕ → List ℕ → Layout → Held → Found
followed zero file w lay h = hopped (λ n. Function 0 h) (hop_of file w lay h)
followed (suc k) file w lay h = hopped (followed k file w lay) (hop_of file w lay h)

-- the words after the latest bindings are undone, down to the mark
unfoldable pub undone : ℕ → ℕ → Layout → List ℕ → List ℕ
undone zero mark lay w = w
undone (suc t) mark lay w =
    let rest : List ℕ = undone t mark lay (set w (lay.cells + get_or w (lay.trail + t) 0) 0) in
    when leb mark t then rest else w

-- the words after so many cells are made free, the last first
unfoldable pub freed : ℕ → ℕ → Layout → List ℕ → List ℕ
freed zero from lay w = w
freed (suc n) from lay w = freed n from lay (set (set w (lay.cells + plus from n) 0) (lay.marks + plus from n) 0)

-- a variable y of a value is met while x is looked for: none where it is x, and else how many bound cells are listed
pub data Visit (lay : Layout) (stamp x y count : ℕ) (w : List ℕ) : Option ℕ → List ℕ → Type 0 where
  same : y ≡ x → Visit lay stamp x y count w None w
  free : (y ≡ x → ⊥) → get_or w (lay.cells + y) 0 ≡ 0 → Visit lay stamp x y count w (Some count) w
  known : (y ≡ x → ⊥) → (get_or w (lay.cells + y) 0 ≡ 0 → ⊥) → get_or w (lay.marks + y) 0 ≡ stamp → Visit lay stamp x y count w (Some count) w
  listed : (y ≡ x → ⊥) → (get_or w (lay.cells + y) 0 ≡ 0 → ⊥) → (get_or w (lay.marks + y) 0 ≡ stamp → ⊥) → Visit lay stamp x y count w (Some (plus count 1)) (set (set w (lay.marks + y) stamp) (lay.list + count) y)

-- the record of a term at p is passed: a variable, counted from base, is met
pub data Meet (file : List ℕ) (lay : Layout) (stamp x base p count : ℕ) (w : List ℕ) : Option ℕ → List ℕ → Type 0 where
  variable : {s : Option ℕ} {v : List ℕ} → byte file p ≡ a_variable → Visit lay stamp x (plus base (byte file (p + 1))) count w s v → Meet file lay stamp x base p count w s v
  function : (byte file p ≡ a_variable → ⊥) → Meet file lay stamp x base p count w (Some count) w

-- how many bytes the record takes
unfoldable pub width_of : List ℕ → ℕ → ℕ
width_of file p = when eqb (byte file p) a_variable then 2 else 3

pub record Small (n : ℕ) : Type 0 where
  pub some : 0 < n
  pub few : n ≤ 3

-- the records from p up to end are passed in turn, until x is met
pub data Scan (file : List ℕ) (lay : Layout) (stamp x base end : ℕ) : ℕ → ℕ → List ℕ → Option ℕ → List ℕ → Type 0 where
  over : {p n : ℕ} {w : List ℕ} → end ≤ p → Scan file lay stamp x base end p n w (Some n) w
  met : {p n : ℕ} {w v : List ℕ} → p < end → Meet file lay stamp x base p n w None v → Scan file lay stamp x base end p n w None v
  on : {p n m : ℕ} {w v u : List ℕ} {r : Option ℕ} → p < end → Meet file lay stamp x base p n w (Some m) v
      → Scan file lay stamp x base end (p + width_of file p) m v r u → Scan file lay stamp x base end p n w r u

-- those of a term that is held: it stands up to the place that the tables say
abbrev pub ScanHeld : List ℕ → Layout → ℕ → ℕ → Held → ℕ → List ℕ → Option ℕ → List ℕ → Type 0
ScanHeld file lay stamp x h count w s v = Scan file lay stamp x h.base.0 (get_or w (ahead 64 h.place.0) 0) h.place.0 count w s v

-- the cell that is listed at i is looked into
pub data LookInto (file : List ℕ) (lay : Layout) (stamp x i count : ℕ) (w : List ℕ) : Option ℕ → List ℕ → Type 0 where
  was_free : cell_at w lay (get_or w (lay.list + i) 0) ≡ Free → LookInto file lay stamp x i count w (Some count) w
  was_bound : {t : Held} {s : Option ℕ} {v : List ℕ} → cell_at w lay (get_or w (lay.list + i) 0) ≡ Bound t → ScanHeld file lay stamp x t count w s v → LookInto file lay stamp x i count w s v

-- the listed cells from i on are looked into, until the variable is met or none is left
pub data Looks (file : List ℕ) (lay : Layout) (stamp bound x : ℕ) : ℕ → Option ℕ → List ℕ → Bool → List ℕ → Type 0 where
  all : {i n : ℕ} {w : List ℕ} → bound ≤ i → Looks file lay stamp bound x i (Some n) w false w
  found : {i : ℕ} {w : List ℕ} → Looks file lay stamp bound x i None w true w
  none : {i n : ℕ} {w : List ℕ} → n ≤ i → Looks file lay stamp bound x i (Some n) w false w
  next : {i n : ℕ} {t : Option ℕ} {w v u : List ℕ} {r : Bool} → i < bound → i < n → LookInto file lay stamp x i n w t v → Looks file lay stamp bound x (i + 1) t v r u → Looks file lay stamp bound x i (Some n) w r u

pub data Inside (file : List ℕ) (lay : Layout) (stamp bound x : ℕ) (h : Held) (w : List ℕ) : Bool → List ℕ → Type 0 where
  looks : {s : Option ℕ} {v u : List ℕ} {r : Bool} → ScanHeld file lay stamp x h 0 w s v → Looks file lay stamp bound x 0 s v r u → Inside file lay stamp bound x h w r u
