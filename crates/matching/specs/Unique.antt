-- What matching comes to is one: one result, one content of scratch.
-- Assumes nothing.
use Rattle.std.specs.Prelude.{ℕ, ◌≡◌, refl, List, Err}
use Rattle.std.proofs.Common.{sym, ap, ◌∙◌, arith}
use Rattle.std.proofs.lemmas.Bool.{false≢true}
use Rattle.meaning.specs.declared.CellNumber.{CellNumber}
use Rattle.cells.specs.declared.Held.{Held}
use Rattle.cells.specs.declared.Found.{Found}
use Rattle.cells.specs.declared.Found.TheVariants.{Unbound, Function}
use Rattle.cells.specs.declared.Layout.{Layout}
use Rattle.cells.specs.Unique.{Once, inside_once}
use Rattle.matching.specs.declared.Pairs.{Pairs}
use Rattle.matching.specs.declared.Clash.{Clash}
use Rattle.matching.specs.declared.Clash.TheVariants.{Differ, Over}
use Rattle.matching.specs.declared.Matched.{Matched}
use Rattle.matching.specs.Matching.{Pairing, going, bound_to, BindChecked, is_inside, binds, BindHead, unmentioned, mentioned, Functions, unequal, crowded, equal, Compares, one_variable, head_variable, head_free, goal_free, both_applied, TakesPair, no_pair, front, MatchesPairs, late, clashed, matched_all, next_pair}

checked_once : {file : List ℕ} {lay : Layout} {stamp trail work fresh : ℕ} {x : CellNumber} {h : Held} {w u v : List ℕ} {r s : Pairing} → BindChecked file lay stamp trail work fresh x h w r u → BindChecked file lay stamp trail work fresh x h w s v → Once r s u v
checked_once (is_inside a) (is_inside b) = (refl, (inside_once a b).1)
checked_once (is_inside a) (binds b) = absurd (false≢true (sym (inside_once a b).0))
checked_once (binds a) (is_inside b) = absurd (false≢true (inside_once a b).0)
checked_once {lay} {trail = trail} {x = x} {h = h} (binds a) (binds b) = (refl, ap (bound_to lay trail x h) (inside_once a b).1)

head_once : {file : List ℕ} {lay : Layout} {stamp trail work fresh : ℕ} {x : CellNumber} {h : Held} {w u v : List ℕ} {r s : Pairing} → BindHead file lay stamp trail work fresh x h w r u → BindHead file lay stamp trail work fresh x h w s v → Once r s u v
head_once (unmentioned a) (unmentioned b) = (refl, refl)
head_once (unmentioned a) (mentioned b c) = absurd (omega arith)
head_once (mentioned a b) (unmentioned c) = absurd (omega arith)
head_once (mentioned a b) (mentioned c d) = checked_once b d

functions_once : {file : List ℕ} {lay : Layout} {limit trail work fresh f g : ℕ} {i j : Held} {w u v : List ℕ} {r s : Pairing} → Functions file lay limit trail work fresh f g i j w r u → Functions file lay limit trail work fresh f g i j w s v → Once r s u v
functions_once (unequal a) (unequal b) = (refl, refl)
functions_once (unequal a) (crowded b c) = absurd (a b)
functions_once (unequal a) (equal b c) = absurd (a b)
functions_once (crowded a b) (unequal c) = absurd (c a)
functions_once (crowded a b) (crowded c d) = (refl, refl)
functions_once (crowded a b) (equal c d) = absurd (omega arith)
functions_once (equal a b) (unequal c) = absurd (c a)
functions_once (equal a b) (crowded c d) = absurd (omega arith)
functions_once (equal a b) (equal c d) = (refl, refl)

-- a side is free or applied, and not both
either : {A : Type 0} {g : Found} {x : CellNumber} {f : ℕ} {s t : Held} → g ≡ Unbound x s → g ≡ Function f t → A
either a b = let z : ◌≡◌ {A = ℕ} 0 1 = cc in absurd (omega arith)

compares_once : {file : List ℕ} {lay : Layout} {limit stamp cells trail work fresh : ℕ} {g h : Found} {w u v : List ℕ} {r s : Pairing}
    → Compares file lay limit stamp cells trail work fresh g h w r u → Compares file lay limit stamp cells trail work fresh g h w s v → Once r s u v
compares_once (one_variable a b c) (one_variable d e f) = (refl, refl)
compares_once (one_variable {x = x} {y = y} a b c) (head_variable {x = p} {y = q} d e f) = let i : x ≡ p = cc in let j : y ≡ q = cc in absurd (f (rw (i, j) at c))
compares_once (one_variable a b c) (head_free d e f) = either a d
compares_once (one_variable a b c) (goal_free d e f) = either b e
compares_once (one_variable a b c) (both_applied d e f) = either a d
compares_once (head_variable {x = x} {y = y} a b c) (one_variable {x = p} {y = q} d e f) = let i : p ≡ x = cc in let j : q ≡ y = cc in absurd (c (rw (i, j) at f))
compares_once {lay} {trail = trail} {w = w} (head_variable {y = y} {s = s} a b c) (head_variable {y = q} {s = t} d e f) = let i : y ≡ q = cc in let j : s ≡ t = cc in (refl, rw (i, j) refl)
compares_once (head_variable a b c) (head_free d e f) = either a d
compares_once (head_variable a b c) (goal_free d e f) = either b e
compares_once (head_variable a b c) (both_applied d e f) = either a d
compares_once (head_free a b c) (one_variable d e f) = either d a
compares_once (head_free a b c) (head_variable d e f) = either d a
compares_once (head_free {y = y} {s = s} a b c) (head_free {y = q} {s = t} d e f) = let i : q ≡ y = cc in let j : t ≡ s = cc in head_once c (rw (i, j) at f)
compares_once (head_free a b c) (goal_free d e f) = either d a
compares_once (head_free a b c) (both_applied d e f) = either b e
compares_once (goal_free a b c) (one_variable d e f) = either e b
compares_once (goal_free a b c) (head_variable d e f) = either e b
compares_once (goal_free a b c) (head_free d e f) = either a d
compares_once (goal_free {x = x} {t = s} a b c) (goal_free {x = q} {t = t} d e f) = let i : q ≡ x = cc in let j : t ≡ s = cc in checked_once c (rw (i, j) at f)
compares_once (goal_free a b c) (both_applied d e f) = either a d
compares_once (both_applied a b c) (one_variable d e f) = either d a
compares_once (both_applied a b c) (head_variable d e f) = either d a
compares_once (both_applied a b c) (head_free d e f) = either e b
compares_once (both_applied a b c) (goal_free d e f) = either d a
compares_once (both_applied {e = i} {f = j} {s = x} {t = y} a b c) (both_applied {e = k} {f = l} {s = p} {t = q} d e f) =
    let α : k ≡ i = cc in
    let β : l ≡ j = cc in
    let γ : p ≡ x = cc in
    let δ : q ≡ y = cc in
    functions_once c (rw (α, β, γ, δ) at f)

takes_once : {file : List ℕ} {lay : Layout} {limit stamp cells trail work fresh : ℕ} {w u v : List ℕ} {r s : Pairing} → TakesPair file lay limit stamp cells trail work fresh w r u → TakesPair file lay limit stamp cells trail work fresh w s v → Once r s u v
takes_once (no_pair a) (no_pair b) = (refl, refl)
takes_once (no_pair a) (front b c d) = absurd (b a)
takes_once (front a b c) (no_pair d) = absurd (a d)
takes_once (front a b c) (front d e f) = let z = e ∙ sym b in compares_once c (rw z at f)

-- a pair clashes or goes on, and not both
goes_clashes : {A : Type 0} {a b c : ℕ} {e : Clash} → going a b c ≡ Err e → A
goes_clashes e = let z : ◌≡◌ {A = ℕ} 0 1 = cc in absurd (omega arith)

differ_over : {A : Type 0} → Differ ≡ Over → A
differ_over e = let z : ◌≡◌ {A = ℕ} 0 1 = cc in absurd (omega arith)

-- the pairs that it goes on with are one
goes_once : {a b c p q r : ℕ} → going a b c ≡ going p q r → (a ≡ p) × (b ≡ q) × (c ≡ r)
goes_once {a} {b} {c} {p} {q} {r} e =
    let i : ◌≡◌ {A = Pairs} (record { trail = a; work = b; fresh = c }) (record { trail = p; work = q; fresh = r }) = cc in
    (ap (λ (m : Pairs). m.trail) i, ap (λ (m : Pairs). m.work) i, ap (λ (m : Pairs). m.fresh) i)

pub matches_once : {file : List ℕ} {lay : Layout} {limit budget cells trail work fresh units : ℕ} {w u v : List ℕ} {r s : Matched}
    → MatchesPairs file lay limit budget cells trail work fresh units w r u → MatchesPairs file lay limit budget cells trail work fresh units w s v → Once r s u v
matches_once (late a) (late b) = (refl, refl)
matches_once (late a) (clashed b c) = absurd (omega arith)
matches_once (late a) (matched_all b c d) = absurd (omega arith)
matches_once (late a) (next_pair b c d e) = absurd (omega arith)
matches_once (clashed a b) (late c) = absurd (omega arith)
matches_once (clashed {c = i} a b) (clashed {c = j} c d) =
    let (x, y) = takes_once b d in
    let z : i ≡ j = cc in
    (rw z refl, y)
matches_once (clashed a b) (matched_all c d e) = goes_clashes (takes_once d b).0
matches_once (clashed a b) (next_pair c d e f) = goes_clashes (takes_once d b).0
matches_once (matched_all a b c) (late d) = absurd (omega arith)
matches_once (matched_all a b c) (clashed d e) = goes_clashes (takes_once b e).0
matches_once (matched_all {t = i} {k = j} {f = k} a b c) (matched_all {t = l} {k = m} {f = n} d e f) =
    let (x, y) = takes_once b e in
    let (α, β, γ) = goes_once x in
    (rw (α, β, γ) refl, y)
matches_once (matched_all a b c) (next_pair d e f g) = absurd (f (sym (goes_once (takes_once b e).0).1 ∙ c))
matches_once (next_pair a b c d) (late e) = absurd (omega arith)
matches_once (next_pair a b c d) (clashed e f) = goes_clashes (takes_once b f).0
matches_once (next_pair a b c d) (matched_all e f g) = absurd (c ((goes_once (takes_once b f).0).1 ∙ g))
matches_once (next_pair a b c d) (next_pair e f g h) =
    let (x, y) = takes_once b f in
    let (α, β, γ) = goes_once x in
    matches_once d (rw (← α, ← β, ← γ, ← y) at h)
