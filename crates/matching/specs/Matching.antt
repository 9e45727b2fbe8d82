-- What the functions of matching do, word for word.
-- Assumes nothing.
use Rattle.std.specs.Prelude.{ℕ, zero, suc, ◌+◌, ◌-◌, ◌*◌, ◌<◌, ◌≤◌, ◌≡◌, true, false, List, set, Result, Ok, Err}
use Rattle.meaning.specs.Reading.{byte}
use Rattle.meaning.specs.declared.CellNumber.{CellNumber}
use Rattle.words.specs.Words.{plus, ahead, put_four}
use Rattle.cells.specs.Cells.{word_of, word_of_place, held_at, place_after, followed, Inside}
use Rattle.cells.specs.declared.Held.{Held}
use Rattle.cells.specs.declared.Found.{Found}
use Rattle.cells.specs.declared.Found.TheVariants.{Unbound, Function}
use Rattle.cells.specs.declared.Layout.{Layout}
use Rattle.matching.specs.declared.Pairs.{Pairs}
use Rattle.matching.specs.declared.Clash.{Clash}
use Rattle.matching.specs.declared.Clash.TheVariants.{Differ, Over}
use Rattle.matching.specs.declared.Front.{Front}
use Rattle.matching.specs.declared.Came.{Came}
use Rattle.matching.specs.declared.Came.TheVariants.{Matched, Clashed, Late}
use Rattle.matching.specs.declared.Matched.{Matched as MatchedPairs}

-- what the front pair comes to
abbrev pub Pairing : Type 0
Pairing = Result Pairs Clash

-- the matching goes on: the lengths of the trail and of the list then, and the first cell that no goal mentions
abbrev pub going : ℕ → ℕ → ℕ → Pairing
going trail work fresh = Ok (record { trail = trail; work = work; fresh = fresh })

unfoldable pub past_kind : Held → ℕ → Held
past_kind h k = record { place = record { 0 = ahead h.place.0 k }; base = h.base }

-- the words after the pairs of so many arguments were written, from the terms g and h on
unfoldable pub pushed : ℕ → ℕ → Layout → Held → Held → List ℕ → List ℕ
pushed zero work lay g h w = w
pushed (suc n) work lay g h w =
    let v : List ℕ = put_four w (lay.work + 4 * plus work n) (word_of_place g.place) g.base.0 (word_of_place h.place) h.base.0 in
    pushed n work lay (record { place = place_after v g.place; base = g.base }) (record { place = place_after v h.place; base = h.base }) v

-- the words once the free cell x is bound to h, as the latest of the trail
unfoldable pub bound_to : Layout → ℕ → CellNumber → Held → List ℕ → List ℕ
bound_to lay trail x h w = set (set w (lay.cells + x.0) (word_of h)) (lay.trail + trail) x.0

-- one binding more, and no pair
unfoldable pub one_bound : ℕ → ℕ → ℕ → Pairing
one_bound trail work fresh = going (plus trail 1) work fresh

pub data BindChecked (file : List ℕ) (lay : Layout) (stamp trail work fresh : ℕ) (x : CellNumber) (h : Held) (w : List ℕ) : Pairing → List ℕ → Type 0 where
  is_inside : {v : List ℕ} → Inside file lay stamp trail x.0 h w true v → BindChecked file lay stamp trail work fresh x h w (Err Differ) v
  binds : {v : List ℕ} → Inside file lay stamp trail x.0 h w false v → BindChecked file lay stamp trail work fresh x h w (one_bound trail work fresh) (bound_to lay trail x h v)

-- a variable of the head side takes a function applied: no goal mentions a fresh one, which needs no check
pub data BindHead (file : List ℕ) (lay : Layout) (stamp trail work fresh : ℕ) (y : CellNumber) (h : Held) (w : List ℕ) : Pairing → List ℕ → Type 0 where
  unmentioned : fresh ≤ y.0 → BindHead file lay stamp trail work fresh y h w (one_bound trail work fresh) (bound_to lay trail y h w)
  mentioned : {r : Pairing} {v : List ℕ} → y.0 < fresh → BindChecked file lay stamp trail work fresh y h w r v → BindHead file lay stamp trail work fresh y h w r v

pub data Functions (file : List ℕ) (lay : Layout) (limit trail work fresh f g : ℕ) (s t : Held) (w : List ℕ) : Pairing → List ℕ → Type 0 where
  unequal : (f ≡ g → ⊥) → Functions file lay limit trail work fresh f g s t w (Err Differ) w
  crowded : f ≡ g → limit < plus work (byte file (2 * f + 1)) → Functions file lay limit trail work fresh f g s t w (Err Over) w
  equal : f ≡ g → plus work (byte file (2 * f + 1)) ≤ limit
      → Functions file lay limit trail work fresh f g s t w (going trail (plus work (byte file (2 * f + 1))) fresh) (pushed (byte file (2 * f + 1)) work lay (past_kind s 3) (past_kind t 3) w)

-- both sides of the pair i, followed
unfoldable pub front_of : List ℕ → List ℕ → Layout → ℕ → ℕ → Front
front_of file w lay trail i = record {
  goal = followed trail file w lay (held_at w (lay.work + 4 * i));
  head = followed trail file w lay (held_at w (lay.work + 4 * i + 2));
}

-- with all cells taken so far, and those from fresh on unmentioned by values and by the goal sides of pairs
pub data Compares (file : List ℕ) (lay : Layout) (limit stamp cells trail work fresh : ℕ) (g h : Found) (w : List ℕ) : Pairing → List ℕ → Type 0 where
  one_variable : {x y : CellNumber} {s t : Held} → g ≡ Unbound x s → h ≡ Unbound y t → x.0 ≡ y.0 → Compares file lay limit stamp cells trail work fresh g h w (going trail work fresh) w
  head_variable : {x y : CellNumber} {s t : Held} → g ≡ Unbound x s → h ≡ Unbound y t → (x.0 ≡ y.0 → ⊥) → Compares file lay limit stamp cells trail work fresh g h w (one_bound trail work fresh) (bound_to lay trail y s w)
  head_free : {f : ℕ} {y : CellNumber} {s t : Held} {r : Pairing} {v : List ℕ} → g ≡ Function f s → h ≡ Unbound y t → BindHead file lay stamp trail work fresh y s w r v → Compares file lay limit stamp cells trail work fresh g h w r v
  goal_free : {e : ℕ} {x : CellNumber} {s t : Held} {r : Pairing} {v : List ℕ} → g ≡ Unbound x s → h ≡ Function e t → BindChecked file lay stamp trail work cells x t w r v → Compares file lay limit stamp cells trail work fresh g h w r v
  both_applied : {e f : ℕ} {s t : Held} {r : Pairing} {v : List ℕ} → g ≡ Function f s → h ≡ Function e t → Functions file lay limit trail work fresh f e s t w r v → Compares file lay limit stamp cells trail work fresh g h w r v

pub data TakesPair (file : List ℕ) (lay : Layout) (limit stamp cells trail work fresh : ℕ) (w : List ℕ) : Pairing → List ℕ → Type 0 where
  no_pair : work ≡ 0 → TakesPair file lay limit stamp cells trail work fresh w (Err Differ) w
  front : {k : Front} {r : Pairing} {v : List ℕ} → (work ≡ 0 → ⊥) → k ≡ front_of file w lay trail (work - 1) → Compares file lay limit stamp cells trail (work - 1) fresh k.goal k.head w r v → TakesPair file lay limit stamp cells trail work fresh w r v

abbrev pub came_out : Came → ℕ → ℕ → ℕ → ℕ → MatchedPairs
came_out c trail work fresh units = record { came = c; pairs = record { trail = trail; work = work; fresh = fresh }; units = units }

-- the pairs are taken in turn, each for a unit, up to the one that decides
pub data MatchesPairs (file : List ℕ) (lay : Layout) (limit budget cells : ℕ) : ℕ → ℕ → ℕ → ℕ → List ℕ → MatchedPairs → List ℕ → Type 0 where
  late : {trail work fresh units : ℕ} {w : List ℕ} → budget ≤ units → MatchesPairs file lay limit budget cells trail work fresh units w (came_out Late trail work fresh units) w
  clashed : {trail work fresh units : ℕ} {c : Clash} {w v : List ℕ} → units < budget → TakesPair file lay limit (plus units 1) cells trail work fresh w (Err c) v
      → MatchesPairs file lay limit budget cells trail work fresh units w (came_out (Clashed c) trail work fresh (plus units 1)) v
  matched_all : {trail work fresh units t k f : ℕ} {w v : List ℕ} → units < budget → TakesPair file lay limit (plus units 1) cells trail work fresh w (going t k f) v → k ≡ 0
      → MatchesPairs file lay limit budget cells trail work fresh units w (came_out Matched t k f (plus units 1)) v
  next_pair : {trail work fresh units t k f : ℕ} {w v u : List ℕ} {r : MatchedPairs} → units < budget → TakesPair file lay limit (plus units 1) cells trail work fresh w (going t k f) v → (k ≡ 0 → ⊥)
      → MatchesPairs file lay limit budget cells t k f (plus units 1) v r u → MatchesPairs file lay limit budget cells trail work fresh units w r u
