-- Following what is held, hop by hop, comes to what the store says.
-- Assumes nothing.
use Prim.Native.Nat.{ℕ, zero, suc, ◌+◌, ◌≤◌, ◌<◌}
use Rattle.std.specs.Prelude.{◌≡◌, refl, ◌≢◌, ◌⊎◌, Bool, true, false, List, Result, Ok, Err, eqb}
use Rattle.std.proofs.Math.Path.{ap, sym, subst}
use Rattle.std.proofs.Common.{◌∙◌, inl, inr, arith}
use borrow.Author.Tests.{eqb-true, eqb-false, eq-eqb, ne_eqb}
use Rattle.meaning.specs.If.{when◌then◌else◌}
use Rattle.meaning.specs.Terms.{Term, var, app, Terms, inst, insts, from}
use Rattle.meaning.specs.Store.{Store, empty, bind, value, onward, follow}
use Rattle.meaning.specs.Kinds.{a_variable}
use Rattle.meaning.specs.Rules.{Rules}
use Rattle.meaning.specs.Reading.{byte}
use Rattle.meaning.specs.declared.CellNumber.{CellNumber}
use Rattle.laws.specs.IfLaws.{if_by, if_true, if_false}
use Rattle.demands.specs.TermLaws.{In}
use Rattle.demands.specs.StoreLaws.{Free, Sound, value_free, value_solves_itself, solves_follow}
use Rattle.demands.specs.WellLaws.{Good, GoodStore}
use Rattle.layout.specs.Standing.{StandsTerm}
use Rattle.layout.specs.Regions.{word}
use Rattle.words.specs.Words.{plus}
use Rattle.cells.specs.Cells.{cell_of, cell_at, node_of, hop_cell, hop_node, hop_of, hopped, followed}
use Rattle.cells.specs.declared.Held.{Held}
use Rattle.cells.specs.declared.Cell.{Cell}
use Rattle.cells.specs.declared.Cell.TheVariants.{Free as Unset, Bound}
use Rattle.cells.specs.declared.Node.{Node}
use Rattle.cells.specs.declared.Node.TheVariants.{Variable, Applied}
use Rattle.cells.specs.declared.Found.{Found}
use Rattle.cells.specs.declared.Found.TheVariants.{Unbound, Function}
use Rattle.simulation.specs.Places.{IsHeld}
use Rattle.simulation.specs.Rep.{Setting, lay, StoreIs, FreeIs, bindings}
use Rattle.simulation.specs.PlaceLaws.{terms_stand}
use Rattle.simulation.specs.Undoes.{store_bindings}

-- ---- the bindings of a store
-- the cell y was bound to v
pub data Binds (y : ℕ) (v : Term) : Store → Type 0 where
  newest : {s : Store} → Binds y v (bind y v s)
  before : {x : ℕ} {u : Term} {s : Store} → Binds y v s → Binds y v (bind x u s)

-- a cell is free or bound
pub free_or_bound : (s : Store) (y : ℕ) → Free y s ⊎ ((u : Term) × Binds y u s)
free_or_bound empty y = inl tt
free_or_bound (bind x u s) y = go (eqb y x) refl (free_or_bound s y)
  where
    go : (b : Bool) → eqb y x ≡ b → Free y s ⊎ ((u : Term) × Binds y u s) → Free y (bind x u s) ⊎ ((v : Term) × Binds y v (bind x u s))
    go true p r = inr (u, rw (eqb-true y x p) newest)
    go false p (inl f) = inl (eqb-false y x p, f)
    go false p (inr b) = inr (b.0, before b.1)

pub bound_not_free : {y : ℕ} {u : Term} {s : Store} → Binds y u s → Free y s → ⊥
bound_not_free newest f = f.0 refl
bound_not_free (before b) f = bound_not_free b f.1

-- different cells, all bound, are no more than the bindings
pub bound_few : (s : Store) (m : ℕ) (f : ℕ → ℕ) → ((i : ℕ) → i < m → Free (f i) s → ⊥) → ((i j : ℕ) → i < m → j < m → f i ≡ f j → i ≡ j) → m ≤ bindings s
unfolding bindings
bound_few empty zero f h d = omega arith
bound_few empty (suc m) f h d = absurd (h 0 (omega arith) tt)
bound_few (bind x u s) zero f h d = omega arith
bound_few (bind x u s) (suc m) f h d = let k : m ≤ bindings s = bound_few s m g other apart in omega arith
  where
    -- the last one takes the place of x
    g : ℕ → ℕ
    g i = when eqb (f i) x then f m else f i

    other : (i : ℕ) → i < m → Free (g i) s → ⊥
    other i l = if_by (λ z. Free z s → ⊥) (eqb (f i) x)
        (λ p r. let e : f i ≡ x = eqb-true (f i) x p in h m (omega arith) ((λ q. let c : m ≡ i = d m i (omega arith) (omega arith) (q ∙ sym e) in omega arith), r))
        (λ p r. h i (omega arith) (eqb-false (f i) x p, r))

    apart : (i j : ℕ) → i < m → j < m → g i ≡ g j → i ≡ j
    apart i j l k =
        if_by (λ z. z ≡ g j → i ≡ j) (eqb (f i) x)
        (λ p. if_by (λ z. f m ≡ z → i ≡ j) (eqb (f j) x)
        (λ q e. d i j (omega arith) (omega arith) (eqb-true (f i) x p ∙ sym (eqb-true (f j) x q)))
        (λ q e. let c : m ≡ j = d m j (omega arith) (omega arith) e in absurd (omega arith)))
        (λ p. if_by (λ z. f i ≡ z → i ≡ j) (eqb (f j) x)
        (λ q e. let c : i ≡ m = d i m (omega arith) (omega arith) e in absurd (omega arith))
        (λ q e. d i j (omega arith) (omega arith) e))

-- the cells bound, the oldest first
nth : Store → ℕ → ℕ
nth empty i = 0
nth (bind x u s) i = when eqb i (bindings s) then x else nth s i

nth_bound : (s : Store) (i : ℕ) → i < bindings s → Free (nth s i) s → ⊥
unfolding nth bindings
nth_bound empty i l f = omega arith
nth_bound (bind x u s) i l f = if_by (λ z. Free z (bind x u s) → ⊥) (eqb i (bindings s)) (λ p r. r.0 refl) (λ p r. let q = eqb-false i (bindings s) p in nth_bound s i (omega arith) r.1) f

nth_apart : (s : Store) → Sound s → (i j : ℕ) → i < bindings s → j < bindings s → nth s i ≡ nth s j → i ≡ j
unfolding nth bindings
nth_apart empty w i j l k e = absurd (omega arith)
nth_apart (bind x u s) w i j l k e =
    if_by (λ z. z ≡ nth (bind x u s) j → i ≡ j) (eqb i (bindings s))
    (λ p. if_by (λ z. x ≡ z → i ≡ j) (eqb j (bindings s))
    (λ q r. eqb-true i _ p ∙ sym (eqb-true j _ q))
    (λ q r. let h = eqb-false j (bindings s) q in absurd (nth_bound s j (omega arith) (subst (λ (z : ℕ). Free z s) r w.0))))
    (λ p. if_by (λ z. nth s i ≡ z → i ≡ j) (eqb j (bindings s))
    (λ q r. let h = eqb-false i (bindings s) p in absurd (nth_bound s i (omega arith) (subst (λ (z : ℕ). Free z s) (sym r) w.0)))
    (λ q r. let h = eqb-false i (bindings s) p in let m = eqb-false j (bindings s) q in nth_apart s w.2 i j (omega arith) (omega arith) r))
    e

nth_good : (fs : List ℕ) (n : ℕ) (s : Store) → GoodStore fs n s → (i : ℕ) → i < bindings s → nth s i < n
unfolding nth bindings
nth_good fs n empty g i l = absurd (omega arith)
nth_good fs n (bind x u s) g i l = if_by (λ z. z < n) (eqb i (bindings s)) (λ p. g.0) (λ p. let q = eqb-false i (bindings s) p in nth_good fs n s g.2 i (omega arith))

-- the first n cells, all bound
all_bound : ℕ → Store
all_bound zero = empty
all_bound (suc n) = bind n (var n) (all_bound n)

all_bound_below : (n y : ℕ) → y < n → Free y (all_bound n) → ⊥
unfolding all_bound
all_bound_below zero y l f = omega arith
all_bound_below (suc n) y l f = let h : y ≢ n = f.0 in all_bound_below n y (omega arith) f.1

all_bound_counts : (n : ℕ) → bindings (all_bound n) ≡ n
unfolding all_bound bindings
all_bound_counts zero = refl
all_bound_counts (suc n) = ap suc (all_bound_counts n)

-- there are no more bindings than cells
pub bindings_few : (fs : List ℕ) (n : ℕ) (s : Store) → Sound s → GoodStore fs n s → bindings s ≤ n
bindings_few fs n s w g =
    let h : bindings s ≤ bindings (all_bound n) = bound_few (all_bound n) (bindings s) (nth s) (λ i l. all_bound_below n (nth s i) (nth_good fs n s g i l)) (nth_apart s w) in
    rw all_bound_counts at h

-- ---- where a term leads
pub follow_app : (s : Store) (f : ℕ) (ts : Terms) → follow s (app f ts) ≡ app f ts
unfolding follow onward
follow_app empty f ts = refl
follow_app (bind x u s) f ts = ap (onward x (follow s u)) (follow_app s f ts)

onward_other : (x : ℕ) (u v : Term) → v ≢ var x → onward x u v ≡ v
unfolding onward
onward_other x u (var y) n = if_false (eqb y x) u (var y) (ne_eqb y x (λ e. n (ap var e)))
onward_other x u (app f ts) n = refl

pub follow_free_variable : (s : Store) (y : ℕ) → Free y s → follow s (var y) ≡ var y
unfolding follow
follow_free_variable empty y f = refl
follow_free_variable (bind x u s) y f = ap (onward x (follow s u)) (follow_free_variable s y f.1) ∙ onward_other x (follow s u) (var y) (λ e. f.0 (cc))

-- what a cell is bound to does not lead back to it
leads_elsewhere : (x : ℕ) (u : Term) (s : Store) → Sound (bind x u s) → follow s u ≢ var x
unfolding inst
leads_elsewhere x u s w e =
    let k : var x ≡ inst (value s) u = sym (value_free s x w.0) ∙ sym (ap (inst (value s)) e) ∙ solves_follow (value s) s (value_solves_itself s w.2) u in
    w.1 (subst (In x) k refl)

-- a bound variable leads where its term does
pub follow_bound : (s : Store) (y : ℕ) (v : Term) → Sound s → Binds y v s → follow s (var y) ≡ follow s v
unfolding follow onward
follow_bound s y v = go s
  where
    go : (s : Store) → Sound s → Binds y v s → follow s (var y) ≡ follow s v
    go _ w (newest {s}) =
        ap (onward y (follow s v)) (follow_free_variable s y w.0) ∙ if_true (eqb y y) (follow s v) (var y) (eq-eqb y y refl)
        ∙ sym (onward_other y (follow s v) (follow s v) (leads_elsewhere y v s w))
    go _ w (before {x} {u} {s} b) = ap (onward x (follow s u)) (go s w.2 b)

-- ---- how many hops it takes
-- a term that leads to x takes one more hop and those of what x was bound to
further : ℕ → ℕ → Term → ℕ
further x m (var y) = when eqb y x then suc m else 0
further x m (app f ts) = 0

hops : Store → Term → ℕ
hops empty t = 0
hops (bind x u s) t = hops s t + further x (hops s u) (follow s t)

further_other : (x m : ℕ) (v : Term) → v ≢ var x → further x m v ≡ 0
unfolding further
further_other x m (var y) n = if_false (eqb y x) (suc m) 0 (ne_eqb y x (λ e. n (ap var e)))
further_other x m (app f ts) n = refl

hops_app : (s : Store) (f : ℕ) (ts : Terms) → hops s (app f ts) ≡ 0
unfolding hops further
hops_app empty f ts = refl
hops_app (bind x u s) f ts = rw (hops_app s f ts, follow_app s f ts)

hops_free : (s : Store) (y : ℕ) → Free y s → hops s (var y) ≡ 0
unfolding hops
hops_free empty y f = refl
hops_free (bind x u s) y f = rw (hops_free s y f.1, follow_free_variable s y f.1, further_other x (hops s u) (var y) (λ e. f.0 (cc)))

hops_bound : (s : Store) (y : ℕ) (v : Term) → Sound s → Binds y v s → hops s (var y) ≡ suc (hops s v)
unfolding hops further
hops_bound s y v = go s
  where
    go : (s : Store) → Sound s → Binds y v s → hops s (var y) ≡ suc (hops s v)
    go _ w (newest {s}) =
        let a = hops_free s y w.0 in
        let b = ap (further y (hops s v)) (follow_free_variable s y w.0) ∙ if_true (eqb y y) (suc (hops s v)) 0 (eq-eqb y y refl) in
        let c = further_other y (hops s v) (follow s v) (leads_elsewhere y v s w) in
        omega arith
    go _ w (before {x} {u} {s} b) =
        let a = go s w.2 b in
        let c = ap (further x (hops s u)) (follow_bound s y v w.2 b) in
        omega arith

-- a term from which hops are left is a bound variable
hops_left : (s : Store) → Sound s → (t : Term) (m : ℕ) → hops s t ≡ suc m → (y : ℕ) × (u : Term) × (t ≡ var y) × Binds y u s × (hops s u ≡ m)
hops_left s w (app f ts) m e = let z = hops_app s f ts in absurd (omega arith)
hops_left s w (var y) m e = go (free_or_bound s y)
  where
    go : Free y s ⊎ ((u : Term) × Binds y u s) → (x : ℕ) × (u : Term) × (var y ≡ var x) × Binds x u s × (hops s u ≡ m)
    go (inl f) = let z = hops_free s y f in absurd (omega arith)
    go (inr b) = let z = hops_bound s y b.0 w b.1 in (y, b.0, refl, b.1, omega arith)

-- on the way there is a cell for each number of hops left
hops_cells : (s : Store) → Sound s → (m : ℕ) (t : Term) → hops s t ≡ m → (f : ℕ → ℕ) × ((i : ℕ) → i < m → hops s (var (f i)) ≡ suc i)
hops_cells s w zero t e = (λ i. 0, λ i l. absurd (omega arith))
hops_cells s w (suc m) t e =
    let r = hops_left s w t m e in
    let g = hops_cells s w m r.1 r.4 in
    let here : hops s (var r.0) ≡ suc m = ap (hops s) (sym r.2) ∙ e in (
      λ i. when eqb i m then r.0 else g.0 i,
      λ i l. if_by (λ z. hops s (var z) ≡ suc i) (eqb i m) (λ p. here ∙ ap suc (sym (eqb-true i m p))) (λ p. let q = eqb-false i m p in g.1 i (omega arith)),
    )

hops_few : (s : Store) → Sound s → (t : Term) → hops s t ≤ bindings s
hops_few s w t =
    let r = hops_cells s w (hops s t) t refl in
    bound_few s (hops s t) r.0
    (λ i l f. let a = r.1 i l in let b = hops_free s (r.0 i) f in omega arith)
    (λ i j l k e. let a = r.1 i l in let b = r.1 j k in let c = ap (λ (y : ℕ). hops s (var y)) e in omega arith)

-- ---- what is held
-- what stands at a place is this term
abbrev pub NodeIs : Node → Term → Type 0
NodeIs (Variable x) t = t ≡ var x.0
NodeIs (Applied f) t = (ts : Terms) × (t ≡ app f ts)

-- what following comes to is this term
abbrev pub FoundIs : Rules → Found → Term → Type 0
FoundIs R (Unbound x h) t = (t ≡ var x.0) × IsHeld R h t
FoundIs R (Function f h) t = (ts : Terms) × (t ≡ app f ts) × IsHeld R h t

-- k bindings, which are the store s, over n cells
pub record Stored (X : Setting) (w : List ℕ) (k n : ℕ) (s : Store) : Type 0 where
  pub sound : Sound s
  pub is : StoreIs X w k s
  pub free : FreeIs X w n (λ x. Free x s)
  pub good : GoodStore X.rules.functions n s
  pub few : n ≤ 60_000

-- a bound cell holds the term it was bound to
pub store_bound : (X : Setting) (w : List ℕ) (k : ℕ) (s : Store) (y : ℕ) (v : Term) → StoreIs X w k s → Binds y v s → (h : Held) × (cell_at w (lay X) y ≡ Bound h) × IsHeld X.rules h v
store_bound X w k s y v = go k s
  where
    go : (k : ℕ) (s : Store) → StoreIs X w k s → Binds y v s → (h : Held) × (cell_at w (lay X) y ≡ Bound h) × IsHeld X.rules h v
    go k _ h newest = h.3
    go k _ h (before {s = s} b) = go h.0 s h.4 b

pub bound_good : (fs : List ℕ) (n : ℕ) (s : Store) (y : ℕ) (v : Term) → GoodStore fs n s → Binds y v s → Good fs n v
bound_good fs n s y v = go s
  where
    go : (s : Store) → GoodStore fs n s → Binds y v s → Good fs n v
    go _ g newest = g.1
    go _ g (before {s = s} b) = go s g.2 b

-- the term that stands at a place, over n cells
module _ (X : Setting) (n : ℕ) (few : n ≤ 60_000) where
  pub node_held : (h : Held) (t : Term) → IsHeld X.rules h t → Good X.rules.functions n t → NodeIs (node_of X.file h) t
  unfolding node_of inst insts from plus
  node_held h t i g = go i.raw (terms_stand X i.stands).0 i.is
    where
      go : (r : Term) → StandsTerm X.file h.place.0 r → t ≡ inst (from h.base.0) r → NodeIs (node_of X.file h) t
      go (var x) k e =
          let l : h.base.0 + x < n = subst (Good X.rules.functions n) e g in
          if_by (λ z. NodeIs z t) (eqb (byte X.file h.place.0) a_variable)
          (λ q. e ∙ ap var (rw k.1 (omega arith)))
          (λ q. absurd (eqb-false _ _ q k.0))
      go (app f us) k e =
          if_by (λ z. NodeIs z t) (eqb (byte X.file h.place.0) a_variable)
          (λ q. let c : byte X.file h.place.0 ≡ a_variable = eqb-true _ _ q in absurd (omega arith))
          (λ q. (insts (from h.base.0) us, e ∙ ap (λ (z : ℕ). app z (insts (from h.base.0) us)) (sym k.1)))

-- ---- following
module _ (X : Setting) (w : List ℕ) (k n : ℕ) (s : Store) (c : Stored X w k n s) where
  -- where a hop comes to
  abbrev HopIs : Result Found Held → Term → Type 0
  HopIs (Ok f) t = FoundIs X.rules f (follow s t)
  HopIs (Err h) t = (u : Term) × IsHeld X.rules h u × Good X.rules.functions n u × (follow s t ≡ follow s u) × (hops s t ≡ suc (hops s u))

  hop_held : (h : Held) (t : Term) → IsHeld X.rules h t → Good X.rules.functions n t → HopIs (hop_of X.file w (lay X) h) t
  unfolding hop_of hop_node hop_cell cell_at cell_of
  hop_held h t i g = go (node_of X.file h) (node_held X n c.few h t i g)
    where
      at : (x : CellNumber) → t ≡ var x.0 → Free x.0 s ⊎ ((u : Term) × Binds x.0 u s) → HopIs (hop_cell h x (cell_at w (lay X) x.0)) t
      at x e (inl f) =
          let z : word w ((lay X).cells + x.0) ≡ 0 = c.free x.0 (subst (Good X.rules.functions n) e g) f in
          let v : follow s t ≡ var x.0 = ap (follow s) e ∙ follow_free_variable s x.0 f in
          let y : cell_at w (lay X) x.0 ≡ Unset = if_true _ _ _ (eq-eqb _ 0 z) in
          subst (λ (a : Cell). HopIs (hop_cell h x a) t) (sym y) (v, subst (IsHeld X.rules h) (e ∙ sym v) i)
      at x e (inr b) =
          let r = store_bound X w k s x.0 b.0 c.is b.1 in
          subst (λ (a : Cell). HopIs (hop_cell h x a) t) (sym r.1)
          (b.0, r.2, bound_good _ n s x.0 b.0 c.good b.1, ap (follow s) e ∙ follow_bound s x.0 b.0 c.sound b.1, ap (hops s) e ∙ hops_bound s x.0 b.0 c.sound b.1)

      go : (a : Node) → NodeIs a t → HopIs (hop_node w (lay X) h a) t
      go (Variable x) e = at x e (free_or_bound s x.0)
      go (Applied f) e =
          let v : follow s t ≡ app f e.0 = ap (follow s) e.1 ∙ follow_app s f e.0 in
          (e.0, v, subst (IsHeld X.rules h) (e.1 ∙ sym v) i)

  follows_within : (m : ℕ) (h : Held) (t : Term) → IsHeld X.rules h t → Good X.rules.functions n t → hops s t ≤ m → FoundIs X.rules (followed m X.file w (lay X) h) (follow s t)
  unfolding followed hopped
  follows_within zero h t i g l = go (hop_of X.file w (lay X) h) (hop_held h t i g)
    where
      go : (o : Result Found Held) → HopIs o t → FoundIs X.rules (hopped (λ a. Function 0 h) o) (follow s t)
      go (Ok f) e = e
      go (Err a) e = let q : hops s t ≡ suc (hops s e.0) = e.4 in absurd (omega arith)
  follows_within (suc m) h t i g l = go (hop_of X.file w (lay X) h) (hop_held h t i g) (follows_within m)
    where
      go : (o : Result Found Held) → HopIs o t → ((h : Held) (t : Term) → IsHeld X.rules h t → Good X.rules.functions n t → hops s t ≤ m → FoundIs X.rules (followed m X.file w (lay X) h) (follow s t))
          → FoundIs X.rules (hopped (followed m X.file w (lay X)) o) (follow s t)
      go (Ok f) e ih = e
      go (Err a) e ih =
          let q : hops s t ≡ suc (hops s e.0) = e.4 in
          subst (FoundIs X.rules (followed m X.file w (lay X) a)) (sym e.3) (ih a e.0 e.1 e.2 (omega arith))

  pub follows : (h : Held) (t : Term) → IsHeld X.rules h t → Good X.rules.functions n t → FoundIs X.rules (followed k X.file w (lay X) h) (follow s t)
  follows h t i g =
      let e : k ≡ bindings s = store_bindings X w k s c.is in
      let l : hops s t ≤ bindings s = hops_few s c.sound t in
      follows_within k h t i g (omega arith)
