-- What the inner check comes to is one: one result, one content of scratch.
-- Assumes nothing.
use Rattle.std.specs.Prelude.{ℕ, ◌≡◌, refl, Bool, List, Option}
use Rattle.std.proofs.Common.{arith}
use Rattle.cells.specs.declared.Held.{Held}
use Rattle.cells.specs.declared.Cell.{Cell}
use Rattle.cells.specs.declared.Cell.TheVariants.{Free, Bound}
use Rattle.cells.specs.declared.Layout.{Layout}
use Rattle.cells.specs.Cells.{Visit, same, free, known, listed, Meet, variable, function, Scan, over, met, on, LookInto, was_free, was_bound, Looks, all, found, none, next, Inside, looks}

-- the same result, the same words
abbrev pub Once : {A : Type 0} → A → A → List ℕ → List ℕ → Type 0
Once r s v u = (r ≡ s) × (v ≡ u)

visit_once : {lay : Layout} {stamp x y count : ℕ} {w u v : List ℕ} {r s : Option ℕ} → Visit lay stamp x y count w r u → Visit lay stamp x y count w s v → Once r s u v
visit_once (same a) (same b) = (refl, refl)
visit_once (same a) (free b c) = absurd (b a)
visit_once (same a) (known b c d) = absurd (b a)
visit_once (same a) (listed b c d) = absurd (b a)
visit_once (free a b) (same c) = absurd (a c)
visit_once (free a b) (free c d) = (refl, refl)
visit_once (free a b) (known c d e) = absurd (d b)
visit_once (free a b) (listed c d e) = absurd (d b)
visit_once (known a b c) (same d) = absurd (a d)
visit_once (known a b c) (free d e) = absurd (b e)
visit_once (known a b c) (known d e f) = (refl, refl)
visit_once (known a b c) (listed d e f) = absurd (f c)
visit_once (listed a b c) (same d) = absurd (a d)
visit_once (listed a b c) (free d e) = absurd (b e)
visit_once (listed a b c) (known d e f) = absurd (c f)
visit_once (listed a b c) (listed d e f) = (refl, refl)

meet_once : {file : List ℕ} {lay : Layout} {stamp x base p count : ℕ} {w u v : List ℕ} {r s : Option ℕ} → Meet file lay stamp x base p count w r u → Meet file lay stamp x base p count w s v → Once r s u v
meet_once (variable a b) (variable c d) = visit_once b d
meet_once (variable a b) (function c) = absurd (c a)
meet_once (function a) (variable c d) = absurd (a c)
meet_once (function a) (function c) = (refl, refl)

scan_once : {file : List ℕ} {lay : Layout} {stamp x base end p n : ℕ} {w u v : List ℕ} {r s : Option ℕ} → Scan file lay stamp x base end p n w r u → Scan file lay stamp x base end p n w s v → Once r s u v
scan_once (over a) (over b) = (refl, refl)
scan_once (over a) (met b c) = absurd (omega arith)
scan_once (over a) (on b c d) = absurd (omega arith)
scan_once (met a b) (over c) = absurd (omega arith)
scan_once (met a b) (met c d) = meet_once b d
scan_once (met a b) (on c d e) = absurd (cc (meet_once b d).0)
scan_once (on a b c) (over d) = absurd (omega arith)
scan_once (on a b c) (met d e) = absurd (cc (meet_once b e).0)
scan_once (on {m = i} a b c) (on {m = j} d e f) = let g = meet_once b e in let k : i ≡ j = cc g.0 in scan_once c (rw (← k, ← g.1) at f)

free_bound : {A : Type 0} {c d : Cell} {t : Held} → c ≡ d → c ≡ Free → d ≡ Bound t → A
free_bound e f g = let z : ◌≡◌ {A = ℕ} 0 1 = cc in absurd (omega arith)

look_once : {file : List ℕ} {lay : Layout} {stamp x i count : ℕ} {w u v : List ℕ} {r s : Option ℕ} → LookInto file lay stamp x i count w r u → LookInto file lay stamp x i count w s v → Once r s u v
look_once (was_free a) (was_free b) = (refl, refl)
look_once (was_free a) (was_bound b c) = free_bound refl a b
look_once (was_bound a b) (was_free c) = free_bound refl c a
look_once {file} {lay} {stamp} {x} {i} {count} {w} {u} {v} {r} {s} (was_bound {t = g} a b) (was_bound {t = h} c d) = let e : h ≡ g = cc in scan_once b (rw e at d)

looks_once : {file : List ℕ} {lay : Layout} {stamp bound x i : ℕ} {t : Option ℕ} {w u v : List ℕ} {r s : Bool} → Looks file lay stamp bound x i t w r u → Looks file lay stamp bound x i t w s v → Once r s u v
looks_once (all a) (all b) = (refl, refl)
looks_once (all a) (none b) = (refl, refl)
looks_once (all a) (next b c d e) = absurd (omega arith)
looks_once found found = (refl, refl)
looks_once (none a) (all b) = (refl, refl)
looks_once (none a) (none b) = (refl, refl)
looks_once (none a) (next b c d e) = absurd (omega arith)
looks_once (next a b c d) (all e) = absurd (omega arith)
looks_once (next a b c d) (none e) = absurd (omega arith)
looks_once (next a b c d) (next e f g h) = let (k, l) = look_once c g in looks_once d (rw (← k, ← l) at h)

pub inside_once : {file : List ℕ} {lay : Layout} {stamp bound x : ℕ} {h : Held} {w u v : List ℕ} {r s : Bool} → Inside file lay stamp bound x h w r u → Inside file lay stamp bound x h w s v → Once r s u v
inside_once (looks a b) (looks c d) = let (i, j) = scan_once a c in looks_once b (rw (← i, ← j) at d)
