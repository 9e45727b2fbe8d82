-- Looking for a variable inside a value, over the cells that the value leads to, comes to whether it occurs there.
-- Assumes nothing.
use Prim.Native.Nat.{ℕ, suc, ◌+◌, ◌*◌, ◌^◌, ◌≤◌, ◌<◌}
use Rattle.std.proofs.Math.Path.{◌≡◌, ap}
use Rattle.std.specs.Prelude.{refl, ◌≢◌, ◌⊎◌, Bool, true, false, Option, Some, None, eqb, get_or, set}
use Rattle.std.proofs.Common.{sym, subst, ◌∙◌, inl, inr, ⊎_elim, length-set, get_or-set_same, get_or-set_other, eqb-true, eq-eqb, ne_eqb}
use mathlib.Core.List.{List}
use Rattle.std.proofs.Math.ListN.{length}
use Rattle.std.proofs.lemmas.Bool.{eqb-false}
use native.Mathlib.Omega.{arith}
use Rattle.meaning.specs.If.{when◌then◌else◌}
use Rattle.meaning.specs.Terms.{Term, var, app, Terms, []ₜ, ◌∷ₜ◌, inst, insts, from, occurs}
use Rattle.meaning.specs.Store.{Store, empty, bind, only, value}
use Rattle.meaning.specs.Kinds.{a_variable, an_application}
use Rattle.meaning.specs.Reading.{byte}
use Rattle.meaning.specs.Call.{needed}
use Rattle.laws.specs.IfLaws.{if_by, if_true, if_false}
use Rattle.demands.specs.TermLaws.{In, Ins, occurs_true, occurs_false}
use Rattle.demands.specs.StoreLaws.{Free, Sound, Solves, value_free, value_solves_itself}
use Rattle.demands.specs.WellLaws.{Good, GoodStore, well_in}
use Rattle.layout.specs.Regions.{word, Keeps}
use Rattle.layout.specs.Lengths.{term_length, terms_length}
use Rattle.layout.specs.Standing.{StandsTerm, StandsTerms}
use Rattle.layout.specs.Tables.{AfterTerm}
use Rattle.words.specs.Words.{plus, ahead}
use Rattle.cells.specs.Cells.{cell_of, cell_at, width_of, Visit, same, free, known, listed, Meet, variable, function, Scan, over, met, on, ScanHeld, LookInto, was_free, was_bound, Looks, all, found, none, next, Inside, looks}
use Rattle.cells.specs.declared.Held.{Held}
use Rattle.cells.specs.declared.Cell.TheVariants.{Free as Unset, Bound}
use Rattle.simulation.specs.Places.{IsHeld}
use Rattle.simulation.specs.Rep.{Setting, layout_of, lay, Base, StoreIs, MarksAre, bindings}
use Rattle.simulation.specs.PlaceLaws.{terms_stand, terms_end, terms_after}
use Rattle.simulation.specs.Undoes.{store_bindings}
use Rattle.simulation.specs.Follows.{Binds, newest, before, free_or_bound, bound_not_free, bound_few, bindings_few, Stored, store_bound, bound_good}

-- ---- variables of an instance
mutual
  unfolding inst insts

  in_inst : (ν : ℕ → Term) (x c : ℕ) (t : Term) → In c t → In x (ν c) → In x (inst ν t)
  in_inst ν x c (var y) i h = rw i at h
  in_inst ν x c (app f ts) i h = ins_insts ν x c ts i h

  ins_insts : (ν : ℕ → Term) (x c : ℕ) (ts : Terms) → Ins c ts → In x (ν c) → Ins x (insts ν ts)
  ins_insts ν x c []ₜ i h = i
  ins_insts ν x c (t ∷ₜ ts) (inl i) h = inl (in_inst ν x c t i h)
  ins_insts ν x c (t ∷ₜ ts) (inr i) h = inr (ins_insts ν x c ts i h)

mutual
  unfolding inst insts

  inst_in : (ν : ℕ → Term) (x : ℕ) (t : Term) → In x (inst ν t) → (c : ℕ) × In c t × In x (ν c)
  inst_in ν x (var y) i = (y, refl, i)
  inst_in ν x (app f ts) i = insts_in ν x ts i

  insts_in : (ν : ℕ → Term) (x : ℕ) (ts : Terms) → Ins x (insts ν ts) → (c : ℕ) × Ins c ts × In x (ν c)
  insts_in ν x []ₜ i = absurd i
  insts_in ν x (t ∷ₜ ts) (inl i) = let r = inst_in ν x t i in (r.0, inl r.1, r.2)
  insts_in ν x (t ∷ₜ ts) (inr i) = let r = insts_in ν x ts i in (r.0, inr r.1, r.2)

-- ---- values
solves_bound : (ν : ℕ → Term) (s : Store) (y : ℕ) (u : Term) → Solves ν s → Binds y u s → ν y ≡ inst ν u
solves_bound ν s y u = go s
  where
    go : (s : Store) → Solves ν s → Binds y u s → ν y ≡ inst ν u
    go _ h newest = h.0
    go _ h (before {s = s} b) = go s h.1 b

-- the value of a bound cell is that of the term it was bound to
pub value_bound : (s : Store) (y : ℕ) (u : Term) → Sound s → Binds y u s → value s y ≡ inst (value s) u
value_bound s y u w b = solves_bound (value s) s y u (value_solves_itself s w) b

-- the variable c is not x, and free or one of the cells M
abbrev Clear : Store → ℕ → (ℕ → Type 0) → ℕ → Type 0
Clear s x M c = (c ≢ x) × (Free c s ⊎ M c)

-- every variable that the cells M are bound to is clear
abbrev Closed : Store → ℕ → (ℕ → Type 0) → Type 0
Closed s x M = (y : ℕ) (u : Term) → Binds y u s → M y → (c : ℕ) → In c u → Clear s x M c

-- what is clear after a binding was clear before it, also of the cell bound where that is none of M
module _ (z : ℕ) (v : Term) (s : Store) (x : ℕ) (M : ℕ → Type 0) where
  clear_older : (c : ℕ) → Clear (bind z v s) x M c → Clear s x M c
  clear_older c k = (k.0, ⊎_elim (λ f. inl f.1) inr k.1)

  clear_of_bound : ¬ M z → (c : ℕ) → Clear (bind z v s) x M c → Clear s z M c
  clear_of_bound n c k = ⊎_elim (λ f. (f.0, inl f.1)) (λ m. ((λ e. n (subst M e m)), inr m)) k.1

only_in : (z x d : ℕ) (t : Term) → In x (only z t d) → ((d ≡ z) × In x t) ⊎ (x ≡ d)
unfolding only
only_in z x d t = if_by (λ u. In x u → ((d ≡ z) × In x t) ⊎ (x ≡ d)) (eqb d z) (λ p i. inl (eqb-true d z p, i)) (λ p i. inr i)

-- a term whose variables are all clear does not hold x
pub clear_outside : (s : Store) → Sound s → (x : ℕ) → Free x s → (M : ℕ → Type 0) → Closed s x M → (t : Term) → ((c : ℕ) → In c t → Clear s x M c) → ¬ In x (inst (value s) t)
unfolding value
clear_outside empty w x f M k t h i = let r = inst_in (value empty) x t i in (h r.0 r.1).0 (sym r.2)
clear_outside (bind z v s) w x f M k t h i =
    let r = inst_in (value (bind z v s)) x t i in
    let q = inst_in (only z (inst (value s) v)) x (value s r.0) r.2 in
    let there : In q.0 (inst (value s) t) = in_inst (value s) q.0 r.0 t r.1 q.1 in
    let out : (u : Term) → ((c : ℕ) → In c u → Clear (bind z v s) x M c) → ¬ In x (inst (value s) u) =
    λ u g. clear_outside s w.2 x f.1 M (λ y a b m c j. clear_older z v s x M c (k y a (before b) m c j)) u (λ c j. clear_older z v s x M c (g c j)) in
    ⊎_elim
    (λ e. let n : ¬ M z = λ m. out v (k z v newest m) e.1 in
    clear_outside s w.2 z w.0 M (λ y a b m c j. clear_of_bound z v s x M n c (k y a (before b) m c j)) t (λ c j. clear_of_bound z v s x M n c (h c j)) (subst (λ (d : ℕ). In d (inst (value s) t)) e.0 there))
    (λ e. out t h (subst (λ (d : ℕ). In d (inst (value s) t)) (sym e) there))
    (only_in z x q.0 (inst (value s) v) q.2)

-- a cell was bound once
binds_same : {s : Store} {y : ℕ} {u v : Term} → Sound s → Binds y u s → Binds y v s → u ≡ v
binds_same w a b = go w a b refl
  where
    go : {y : ℕ} {u : Term} {s : Store} → Sound s → Binds y u s → {z : ℕ} {v : Term} → Binds z v s → y ≡ z → u ≡ v
    go w newest newest e = refl
    go w (newest {s}) (before b) e = absurd (bound_not_free b (subst (λ (c : ℕ). Free c s) e w.0))
    go w (before {s = s} a) newest e = absurd (bound_not_free a (subst (λ (c : ℕ). Free c s) (sym e) w.0))
    go w (before a) (before b) e = go w.2 a b e

-- no more cells are bound than are taken
pub stored_few : {X : Setting} {w : List ℕ} {k n : ℕ} {s : Store} → Stored X w k n s → k ≤ n
stored_few {X} {w} {k} {n} {s} c =
    let a : k ≡ bindings s = store_bindings X w k s c.is in
    let b : bindings s ≤ n = bindings_few _ n s c.sound c.good in
    omega arith

-- ---- the regions
-- those of the cells, the trail, the marks and the list follow one another, behind the tables
pub record Laid (X : Setting) : Type 0 where
  pub cells : (lay X).cells ≡ 64 + 2 * length X.file
  pub trail : (lay X).trail ≡ (lay X).cells + X.limits.cells
  pub marks : (lay X).marks ≡ (lay X).trail + X.limits.cells
  pub list : (lay X).list ≡ (lay X).marks + X.limits.cells

pub laid : (X : Setting) → Laid X
unfolding layout_of
laid X = record { cells = refl; trail = refl; marks = omega arith; list = omega arith }

-- ---- tests and places
same_or_other : (a b : ℕ) → (a ≡ b) ⊎ (a ≢ b)
same_or_other a b = go (eqb a b) refl
  where
    go : (c : Bool) → eqb a b ≡ c → (a ≡ b) ⊎ (a ≢ b)
    go true p = inl (eqb-true a b p)
    go false p = inr (eqb-false a b p)

occurs_in_term : (x : ℕ) (t : Term) → In x t → occurs x t ≡ true
occurs_in_term x t i = go (occurs x t) refl
  where
    go : (b : Bool) → occurs x t ≡ b → b ≡ true
    go true e = refl
    go false e = absurd (occurs_false x t e i)

occurs_outside : (x : ℕ) (t : Term) → ¬ In x t → occurs x t ≡ false
occurs_outside x t n = go (occurs x t) refl
  where
    go : (b : Bool) → occurs x t ≡ b → b ≡ false
    go true e = absurd (n (occurs_true x t e))
    go false e = refl

true_false : {b : Bool} → b ≡ true → b ≡ false → ⊥
true_false e f = let o : ◌≡◌ {A = ℕ} 0 1 = cc in omega arith

plus_small : (a b : ℕ) → a + b < 2 ^ 32 → plus a b ≡ a + b
unfolding plus
plus_small a b h = omega arith

after_word : (w : List ℕ) (p : ℕ) (t : Term) → AfterTerm w p t → word w (64 + p) ≡ p + term_length t
unfolding term_length
after_word w p (var x) h = h
after_word w p (app f ts) h = h.0

term_some : (t : Term) → 0 < term_length t
unfolding term_length
term_some (var x) = omega arith
term_some (app f ts) = omega arith

-- ---- the walk
-- the variable x, which is free, is looked for under a stamp newer than every mark
pub record Looking (X : Setting) (w : List ℕ) (k n : ℕ) (s : Store) (x stamp : ℕ) : Type 0 where
  pub stored : Stored X w k n s
  pub base : Base X w
  pub free : Free x s
  pub room : n ≤ X.limits.cells
  pub marks : MarksAre X w n stamp

module _ (X : Setting) (w : List ℕ) (k n : ℕ) (s : Store) (x stamp : ℕ) (q : Looking X w k n s x stamp) (t₀ : Term) where
  -- what holds x inside holds it in the whole value too
  abbrev Leads : ℕ → Type 0
  Leads y = In x (value s y) → In x (inst (value s) t₀)

  -- the cell is marked with the stamp
  abbrev Marked : List ℕ → ℕ → Type 0
  Marked v y = (y < n) × (word v ((lay X).marks + y) ≡ stamp)

  abbrev Listed : List ℕ → ℕ → ℕ
  Listed v j = word v ((lay X).list + j)

  record Entry (v : List ℕ) (y : ℕ) : Type 0 where
    marked : Marked v y
    bound : ¬ Free y s
    leads : Leads y

  -- m cells are listed, all different, and they are those marked
  record Listing (m : ℕ) (v : List ℕ) : Type 0 where
    kept : Keeps (lay X).marks ((lay X).marks + 2 * X.limits.cells) w v
    marks : MarksAre X v n (suc stamp)
    entry : (j : ℕ) → j < m → Entry v (Listed v j)
    known : (y : ℕ) → Marked v y → (j : ℕ) × (j < m) × (Listed v j ≡ y)
    apart : (i j : ℕ) → i < m → j < m → Listed v i ≡ Listed v j → i ≡ j

  record Grows (m : ℕ) (v : List ℕ) (l : ℕ) (u : List ℕ) : Type 0 where
    more : m ≤ l
    listed : (j : ℕ) → j < m → Listed u j ≡ Listed v j
    marked : (y : ℕ) → Marked v y → Marked u y

  grows_none : (m : ℕ) (v : List ℕ) → Grows m v m v
  grows_none m v = record { more = omega arith; listed = λ j l. refl; marked = λ y h. h }

  grows_again : {m l r : ℕ} {v u z : List ℕ} → Grows m v l u → Grows l u r z → Grows m v r z
  grows_again {m} {l} {r} g h =
      let a : m ≤ l = g.more in
      let b : l ≤ r = h.more in
      record { more = omega arith; listed = λ j i. h.listed j (omega arith) ∙ g.listed j i; marked = λ y i. h.marked y (g.marked y i) }

  clear_grows : {m l : ℕ} {v u : List ℕ} (c : ℕ) → Grows m v l u → Clear s x (Marked v) c → Clear s x (Marked u) c
  clear_grows c g k = (k.0, ⊎_elim inl (λ m. inr (g.marked c m)) k.1)

  -- different cells, all bound, are no more than the trail says
  listing_few : (m : ℕ) (f : ℕ → ℕ) → ((j : ℕ) → j < m → ¬ Free (f j) s) → ((i j : ℕ) → i < m → j < m → f i ≡ f j → i ≡ j) → m ≤ k
  listing_few m f h d =
      let a : k ≡ bindings s = store_bindings X w k s q.stored.is in
      let b : m ≤ bindings s = bound_few s m f h d in
      omega arith

  -- a cell's word is what it was
  cell_kept : {m : ℕ} {v : List ℕ} → Listing m v → (y : ℕ) → y < n → word v ((lay X).cells + y) ≡ word w ((lay X).cells + y)
  cell_kept l y h = let a = laid X in let b : n ≤ X.limits.cells = q.room in l.kept.same ((lay X).cells + y) (inl (omega arith))

  -- a cell whose word is 0 is free
  zero_free : (y : ℕ) → word w ((lay X).cells + y) ≡ 0 → Free y s
  unfolding cell_at cell_of
  zero_free y z = go (free_or_bound s y)
    where
      go : Free y s ⊎ ((u : Term) × Binds y u s) → Free y s
      go (inl f) = f
      go (inr b) =
          let r = store_bound X w k s y b.0 q.stored.is b.1 in
          let e : cell_at w (lay X) y ≡ Unset = if_true _ _ _ (eq-eqb _ 0 z) in
          let o : ◌≡◌ {A = ℕ} 0 1 = cc in absurd (omega arith)

  -- ---- a cell is listed
  module _ (m : ℕ) (v : List ℕ) (l : Listing m v) (y : ℕ) (below : y < n) (bound : ¬ Free y s) (leads : Leads y) (unmarked : word v ((lay X).marks + y) ≢ stamp) where
    -- it is none of those listed, so there is room for it
    other : (j : ℕ) → j < m → Listed v j ≢ y
    other j h e = unmarked (subst (λ (z : ℕ). word v ((lay X).marks + z) ≡ stamp) e (l.entry j h).marked.1)

    one_more : m < k
    one_more = listing_few (suc m) f (λ j h. if_by (λ z. ¬ Free z s) (eqb j m) (λ p. bound) (λ p. let a = eqb-false j m p in (l.entry j (omega arith)).bound)) d
      where
        f : ℕ → ℕ
        f j = when eqb j m then y else Listed v j

        d : (i j : ℕ) → i < suc m → j < suc m → f i ≡ f j → i ≡ j
        d i j a b = if_by (λ z. z ≡ f j → i ≡ j) (eqb i m)
            (λ p. if_by (λ z. y ≡ z → i ≡ j) (eqb j m) (λ r e. eqb-true i m p ∙ sym (eqb-true j m r)) (λ r e. let c = eqb-false j m r in absurd (other j (omega arith) (sym e))))
            (λ p. if_by (λ z. Listed v i ≡ z → i ≡ j) (eqb j m) (λ r e. let c = eqb-false i m p in absurd (other i (omega arith) e))
            (λ r e. let c = eqb-false i m p in let o = eqb-false j m r in l.apart i j (omega arith) (omega arith) e))

    abbrev between : List ℕ
    between = set v ((lay X).marks + y) stamp

    abbrev after : List ℕ
    after = set between ((lay X).list + m) y

    -- where things stand: the mark before the list, and both within the words
    record Room : Type 0 where
      before_list : (lay X).marks + y < (lay X).list
      within_list : (lay X).list + m < (lay X).marks + 2 * X.limits.cells
      within : (lay X).marks + 2 * X.limits.cells ≤ length v

    room : Room
    unfolding needed layout_of
    room =
        let a : n ≤ X.limits.cells = q.room in
        let b : length v ≡ length w = l.kept.same_length in
        let c : needed (length X.file) X.limits ≤ length w = q.base.long in
        let d : k ≤ n = stored_few q.stored in
        let e : m < k = one_more in
        record { before_list = omega arith; within_list = omega arith; within = omega arith }

    mark_after : word after ((lay X).marks + y) ≡ stamp
    mark_after =
        let a = room in
        get_or-set_other between ((lay X).list + m) ((lay X).marks + y) y 0 (λ e. omega arith) ∙ get_or-set_same v ((lay X).marks + y) stamp 0 (omega arith)

    list_after : Listed after m ≡ y
    list_after = let a = room in get_or-set_same between ((lay X).list + m) y 0 (rw length-set (omega arith))

    elsewhere : (i : ℕ) → i ≢ (lay X).marks + y → i ≢ (lay X).list + m → word after i ≡ word v i
    elsewhere i a b = get_or-set_other between ((lay X).list + m) i y 0 b ∙ get_or-set_other v ((lay X).marks + y) i stamp 0 a

    grows_listed : Grows m v (suc m) after
    grows_listed = let a = room in record {
      more = omega arith;
      listed = λ j h. elsewhere ((lay X).list + j) (λ e. omega arith) (λ e. omega arith);
      marked = λ z h. let b : z < n = h.0 in let c = laid X in let d : n ≤ X.limits.cells = q.room in
          (h.0, ⊎_elim (λ e. rw e mark_after) (λ o. elsewhere ((lay X).marks + z) (λ e. o (omega arith)) (λ e. omega arith) ∙ h.1) (same_or_other z y));
    }

    listing_more : Listing (suc m) after
    listing_more = let a = room in let b = laid X in let g = grows_listed in record {
      kept = record { same_length = simp length-set l.kept.same_length; same = λ i o. elsewhere i (λ e. ⊎_elim (λ h. omega arith) (λ h. omega arith) o) (λ e. ⊎_elim (λ h. omega arith) (λ h. omega arith) o) ∙ l.kept.same i o };
      marks = λ z h. ⊎_elim (λ e. let c : word after ((lay X).marks + z) ≡ stamp = rw e mark_after in omega arith)
          (λ o. let c : n ≤ X.limits.cells = q.room in let d : word after ((lay X).marks + z) ≡ word v ((lay X).marks + z) = elsewhere ((lay X).marks + z) (λ e. o (omega arith)) (λ e. omega arith) in let f = l.marks z h in omega arith)
          (same_or_other z y);
      entry = λ j h. ⊎_elim
          (λ e. subst (Entry after) (sym list_after ∙ ap (Listed after) (sym e)) (record { marked = (below, mark_after); bound = bound; leads = leads }))
          (λ o. let c : j < m = omega arith in let e = l.entry j c in subst (Entry after) (sym (g.listed j c)) (record { marked = g.marked _ e.marked; bound = e.bound; leads = e.leads }))
          (same_or_other j m);
      known = λ z h. ⊎_elim (λ e. (m, omega arith, list_after ∙ sym e))
          (λ o. let c : n ≤ X.limits.cells = q.room in let d : z < n = h.0 in
          let f = l.known z (h.0, sym (elsewhere ((lay X).marks + z) (λ e. o (omega arith)) (λ e. omega arith)) ∙ h.1) in
          let i : f.0 < m = f.1 in (f.0, omega arith, g.listed f.0 i ∙ f.2))
          (same_or_other z y);
      apart = λ i j h c e. ⊎_elim
          (λ p. ⊎_elim (λ r. p ∙ sym r) (λ r. let d : j < m = omega arith in absurd (other j d (sym (g.listed j d) ∙ sym e ∙ ap (Listed after) p ∙ list_after))) (same_or_other j m))
          (λ p. let d : i < m = omega arith in ⊎_elim (λ r. absurd (other i d (sym (g.listed i d) ∙ e ∙ ap (Listed after) r ∙ list_after)))
          (λ r. let f : j < m = omega arith in l.apart i j d f (sym (g.listed i d) ∙ e ∙ g.listed j f)) (same_or_other j m))
          (same_or_other i m);
    }

  -- ---- a variable is met
  -- what is known once something was passed: x was found inside, with some cells listed, or P holds of the words
  abbrev Passed : (List ℕ → Type 0) → ℕ → List ℕ → Option ℕ → List ℕ → Type 0
  Passed P m v None u = (i : ℕ) × Listing i u × In x (inst (value s) t₀)
  Passed P m v (Some i) u = Listing i u × Grows m v i u × P u

  visited : {m y : ℕ} {v u : List ℕ} {r : Option ℕ} → Listing m v → y < n → Leads y → Visit (lay X) stamp x y m v r u → Passed (λ z. Clear s x (Marked z) y) m v r u
  visited {m} l b h (same e) = (m, l, h (subst (λ (z : ℕ). In x (value s z)) (sym e) (subst (In x) (sym (value_free s x q.free)) refl)))
  visited {m} {y} {v} l b h (free o z) = (l, grows_none m v, (o, inl (zero_free y (sym (cell_kept l y b) ∙ z))))
  visited {m} {y} {v} l b h (known o z e) = (l, grows_none m v, (o, inr (b, e)))
  visited {m} {y} {v} l b h (listed o z e) =
      let taken : ¬ Free y s = λ f. z (cell_kept l y b ∙ q.stored.free y b f) in
      let a : m < k = one_more m v l y b taken h e in
      let c : k ≤ n = stored_few q.stored in
      let f : n ≤ 60_000 = q.stored.few in
      let d : plus m 1 ≡ suc m = plus_small m 1 (omega arith) ∙ omega arith in
      let g : Grows m v (suc m) (after m v l y b taken h e) = grows_listed m v l y b taken h e in
      (rw d (listing_more m v l y b taken h e), rw d g, (o, inr (b, mark_after m v l y b taken h e)))

  -- ---- a term is passed, record by record
  module _ (b end : ℕ) where
    abbrev Scanned : ℕ → ℕ → List ℕ → Option ℕ → List ℕ → Type 0
    Scanned = Scan X.file (lay X) stamp x b end

    -- x was met, or the place p is come to with P
    abbrev Comes : (List ℕ → Type 0) → ℕ → ℕ → List ℕ → Option ℕ → List ℕ → Type 0
    Comes P p m v r u = ((r ≡ None) × (i : ℕ) × Listing i u × In x (inst (value s) t₀)) ⊎ ((i : ℕ) × (z : List ℕ) × Listing i z × Grows m v i z × P z × Scanned p i z r u)

    -- a record is met first, and it is the last one met or the scan goes on
    data First (p m : ℕ) (v : List ℕ) : Option ℕ → List ℕ → Type 0 where
      last : {u : List ℕ} → Meet X.file (lay X) stamp x b p m v None u → First p m v None u
      more : {i : ℕ} {z u : List ℕ} {r : Option ℕ} → Meet X.file (lay X) stamp x b p m v (Some i) z → Scanned (p + width_of X.file p) i z r u → First p m v r u

    scan_step : {p m : ℕ} {v u : List ℕ} {r : Option ℕ} → p < end → Scanned p m v r u → First p m v r u
    scan_step h (over l) = absurd (omega arith)
    scan_step h (met l j) = last j
    scan_step h (on l j g) = more j g

    scan_over : {p m : ℕ} {v u : List ℕ} {r : Option ℕ} → end ≤ p → Scanned p m v r u → (r ≡ Some m) × (u ≡ v)
    scan_over h (over l) = (refl, refl)
    scan_over h (met l j) = absurd (omega arith)
    scan_over h (on l j g) = absurd (omega arith)

    -- a variable over the cells from b on
    pass_variable : {p m y : ℕ} {v u : List ℕ} {r : Option ℕ} → p < end → byte X.file p ≡ a_variable → byte X.file (p + 1) ≡ y → b + y < n → Leads (b + y) → Listing m v → Scanned p m v r u
        → Comes (λ z. Clear s x (Marked z) (b + y)) (p + 2) m v r u
    unfolding width_of
    pass_variable {p} {m} {y} {v} {u} {r} c e f h d l g = go (scan_step c g)
      where
        P : List ℕ → Type 0
        P z = Clear s x (Marked z) (b + y)

        at : plus b (byte X.file (p + 1)) ≡ b + y
        at = let i : n ≤ 60_000 = q.stored.few in rw f (plus_small b y (omega arith))

        width : width_of X.file p ≡ 2
        width = if_true _ 2 3 (eq-eqb _ _ e)

        meets : {t : Option ℕ} {z : List ℕ} → Meet X.file (lay X) stamp x b p m v t z → Passed P m v t z
        meets {t} {z} (variable i j) = visited l h d (subst (λ (a : ℕ). Visit (lay X) stamp x a m v t z) at j)
        meets (function i) = absurd (i e)

        go : {u : List ℕ} {r : Option ℕ} → First p m v r u → Comes P (p + 2) m v r u
        go (last j) = let a = meets j in inl (refl, a.0, a.1, a.2)
        go (more {i = i} {z = z} j k) = let a = meets j in inr (i, z, a.0, a.1, a.2, rw width at k)

    -- the record of an applied function changes nothing
    pass_function : {p m : ℕ} {v u : List ℕ} {r : Option ℕ} → p < end → byte X.file p ≡ an_application → Scanned p m v r u → Scanned (p + 3) m v r u
    unfolding width_of
    pass_function {p} {m} {v} {u} {r} c e g = go (scan_step c g)
      where
        width : width_of X.file p ≡ 3
        width = if_false _ 2 3 (ne_eqb (byte X.file p) a_variable (λ i. omega arith))

        meets : {t : Option ℕ} {z : List ℕ} → Meet X.file (lay X) stamp x b p m v t z → (t ≡ Some m) × (z ≡ v)
        meets (variable i j) = absurd (omega arith)
        meets (function i) = (refl, refl)

        go : {u : List ℕ} {r : Option ℕ} → First p m v r u → Scanned (p + 3) m v r u
        go (last j) = cc (meets j).0
        go (more {i = i} j k) = let a = meets j in let o : i ≡ m = cc a.0 in rw (o, a.1, width) at k

    mutual
      unfolding inst insts from term_length terms_length

      pass_term : (t : Term) {p m : ℕ} {v u : List ℕ} {r : Option ℕ} → StandsTerm X.file p t → p + term_length t ≤ end → ((c : ℕ) → In c (inst (from b) t) → (c < n) × Leads c) → Listing m v → Scanned p m v r u
          → Comes (λ z. (c : ℕ) → In c (inst (from b) t) → Clear s x (Marked z) c) (p + term_length t) m v r u
      pass_term (var y) e h d l g =
          let a = d (b + y) refl in
          ⊎_elim inl (λ k. inr (k.0, k.1, k.2, k.3, (λ c i. rw i k.4), k.5)) (pass_variable (omega arith) e.0 e.1 a.0 a.1 l g)
      pass_term (app f ts) {p} e h d l g =
          let o : p + 3 + terms_length ts ≡ p + (3 + terms_length ts) = omega arith in
          rw o at (pass_terms ts e.2 (omega arith) d l (pass_function (omega arith) e.0 g))

      pass_terms : (ts : Terms) {p m : ℕ} {v u : List ℕ} {r : Option ℕ} → StandsTerms X.file p ts → p + terms_length ts ≤ end → ((c : ℕ) → Ins c (insts (from b) ts) → (c < n) × Leads c) → Listing m v → Scanned p m v r u
          → Comes (λ z. (c : ℕ) → Ins c (insts (from b) ts) → Clear s x (Marked z) c) (p + terms_length ts) m v r u
      pass_terms []ₜ {p} {m} {v} {u} {r} e h d l g = inr (m, v, l, grows_none m v, (λ c i. absurd i), subst (λ (i : ℕ). Scanned i m v r u) (omega arith) g)
      pass_terms (t ∷ₜ ts) {p} {u = u} {r = r} e h d l g =
          let o : p + term_length t + terms_length ts ≡ p + (term_length t + terms_length ts) = omega arith in
          ⊎_elim inl
          (λ k. ⊎_elim inl
          (λ j. inr (j.0, j.1, j.2, grows_again k.3 j.3, (λ c. ⊎_elim (λ i. clear_grows c j.3 (k.4 c i)) (λ i. j.4 c i)), subst (λ (i : ℕ). Scanned i j.0 j.1 r u) o j.5))
          (pass_terms ts {m = k.0} {v = k.1} e.1 (omega arith) (λ c i. d c (inr i)) k.2 k.5))
          (pass_term t e.0 (omega arith) (λ c i. d c (inl i)) l g)

  -- a term that is held stands up to the place that the tables say
  held_ends : {m : ℕ} {v : List ℕ} (h : Held) (t : Term) (i : IsHeld X.rules h t) → Listing m v → get_or v (ahead 64 h.place.0) 0 ≡ h.place.0 + term_length i.raw
  unfolding terms_length ahead
  held_ends {v = v} h t i l =
      let a : h.place.0 + (term_length i.raw + terms_length i.behind) ≤ length X.file = terms_end X i.stands in
      let b : 0 < term_length i.raw = term_some i.raw in
      let c : length X.file ≤ 60_000 = X.short in
      let d : ahead 64 h.place.0 ≡ 64 + h.place.0 = omega arith in
      let e = laid X in
      ap (word v) d ∙ l.kept.same (64 + h.place.0) (inl (omega arith)) ∙ after_word w h.place.0 i.raw (terms_after X w q.base.tabled i.stands).0

  -- what is held is passed
  scan_held : {m : ℕ} {v u : List ℕ} {r : Option ℕ} (h : Held) (t : Term) → IsHeld X.rules h t → Good X.rules.functions n t → ((c : ℕ) → In c t → Leads c) → Listing m v → ScanHeld X.file (lay X) stamp x h m v r u
      → Passed (λ z. (c : ℕ) → In c t → Clear s x (Marked z) c) m v r u
  scan_held {m} {v} {u} {r} h t i g d l e =
      let end : ℕ = get_or v (ahead 64 h.place.0) 0 in
      let ends : end ≡ h.place.0 + term_length i.raw = held_ends h t i l in
      rw i.is (⊎_elim
      (λ k. rw k.0 (k.1, k.2, k.3))
      (λ k. let o = scan_over h.base.0 end (omega arith) k.5 in rw (o.0, o.1) (k.2, k.3, k.4))
      (pass_term h.base.0 end i.raw (terms_stand X i.stands).0 (omega arith) (λ c j. (well_in _ _ c (inst (from h.base.0) i.raw) (rw i.is at g) j, d c (rw i.is j))) l e))

  -- ---- the listed cells are looked into
  -- the variables of the whole term, and of what the first i cells listed are bound to, are clear
  record Done (i m : ℕ) (v : List ℕ) : Type 0 where
    reached : i ≤ m
    whole : (c : ℕ) → In c t₀ → Clear s x (Marked v) c
    parts : (j : ℕ) → j < i → (u : Term) → Binds (Listed v j) u s → (c : ℕ) → In c u → Clear s x (Marked v) c

  -- x was found inside, or everything up to i is clear
  abbrev Looked : ℕ → Option ℕ → List ℕ → Type 0
  Looked i None v = (m : ℕ) × Listing m v × In x (inst (value s) t₀)
  Looked i (Some m) v = Listing m v × Done i m v

  -- when all cells listed were looked into, x is not inside
  done_outside : {i m : ℕ} {v : List ℕ} → Listing m v → Done i m v → m ≤ i → ¬ In x (inst (value s) t₀)
  done_outside {i} {m} {v} l d h = clear_outside s q.stored.sound x q.free (Marked v) closed t₀ d.whole
    where
      closed : Closed s x (Marked v)
      closed y u b k c = let e = l.known y k in let j : e.0 < m = e.1 in d.parts e.0 (omega arith) u (rw e.2 b) c

  -- no more are listed than there are bindings
  all_listed : {m : ℕ} {v : List ℕ} → Listing m v → m ≤ k
  all_listed {m} {v} l = listing_few m (Listed v) (λ j h. (l.entry j h).bound) l.apart

  -- the cell y, listed at i and bound to a, is looked into
  module _ (i m : ℕ) (v : List ℕ) (l : Listing m v) (d : Done i m v) (h : i < m) (a : Term) (b : Binds (Listed v i) a s) where
    abbrev y : ℕ
    y = Listed v i

    look_bound : {u : List ℕ} {r : Option ℕ} → LookInto X.file (lay X) stamp x i m v r u → Passed (λ z. (c : ℕ) → In c a → Clear s x (Marked z) c) m v r u
    unfolding cell_at
    look_bound {u} {r} g = go g
      where
        held : (o : Held) × (cell_at w (lay X) y ≡ Bound o) × IsHeld X.rules o a
        held = store_bound X w k s y a q.stored.is b

        same_cell : cell_at v (lay X) y ≡ Bound held.0
        same_cell = ap cell_of (cell_kept l y (l.entry i h).marked.0) ∙ held.1

        leads : (c : ℕ) → In c a → Leads c
        leads c j e = (l.entry i h).leads (rw (value_bound s y a q.stored.sound b) (in_inst (value s) x c a j e))

        go : {u : List ℕ} {r : Option ℕ} → LookInto X.file (lay X) stamp x i m v r u → Passed (λ z. (c : ℕ) → In c a → Clear s x (Marked z) c) m v r u
        go (was_free e) = let o : ◌≡◌ {A = ℕ} 0 1 = cc same_cell in absurd (omega arith)
        go {u} {r} (was_bound {t} e f) =
            let o : t ≡ held.0 = cc same_cell in
            scan_held held.0 a held.2 (bound_good _ n s y a q.stored.good b) leads l (subst (λ (z : Held). ScanHeld X.file (lay X) stamp x z m v r u) o f)

    look_done : (u : List ℕ) (r : Option ℕ) → Passed (λ z. (c : ℕ) → In c a → Clear s x (Marked z) c) m v r u → Looked (i + 1) r u
    look_done u None k = k
    look_done u (Some j) k = (k.0, done k.1 k.2)
      where
        done : Grows m v j u → ((c : ℕ) → In c a → Clear s x (Marked u) c) → Done (i + 1) j u
        done g f = let e : m ≤ j = g.more in record {
          reached = omega arith;
          whole = λ c j. clear_grows c g (d.whole c j);
          parts = λ j o t n. let p : j < m = omega arith in let bound : Binds (Listed v j) t s = rw (g.listed j p) at n in
              ⊎_elim
              (λ e c z. f c (subst (In c) (binds_same q.stored.sound (subst (λ (j : ℕ). Binds (Listed v j) t s) e bound) b) z))
              (λ e c z. clear_grows c g (d.parts j (omega arith) t bound c z))
              (same_or_other j i);
        }

  look_into : {i m : ℕ} {v u : List ℕ} {r : Option ℕ} → Listing m v → Done i m v → i < m → LookInto X.file (lay X) stamp x i m v r u → Looked (i + 1) r u
  look_into {i} {m} {v} {u} {r} l d h g =
      ⊎_elim (λ f. absurd ((l.entry i h).bound f)) (λ b. look_done i m v l d h b.0 b.1 u r (look_bound i m v l d h b.0 b.1 g)) (free_or_bound s (Listed v i))

  -- what it comes to
  abbrev Answered : Bool → List ℕ → Type 0
  Answered r u = (r ≡ occurs x (inst (value s) t₀)) × Keeps (lay X).marks ((lay X).marks + 2 * X.limits.cells) w u × MarksAre X u n (suc stamp)

  inside : {m : ℕ} {v : List ℕ} → Listing m v → In x (inst (value s) t₀) → Answered true v
  inside l i = (sym (occurs_in_term x _ i), l.kept, l.marks)

  outside : {i m : ℕ} {v : List ℕ} → Listing m v → Done i m v → m ≤ i → Answered false v
  outside l d h = (sym (occurs_outside x _ (done_outside l d h)), l.kept, l.marks)

  look_all : {i : ℕ} {t : Option ℕ} {v u : List ℕ} {r : Bool} → Looked i t v → Looks X.file (lay X) stamp k x i t v r u → Answered r u
  look_all g (all {n = m} h) = let b : m ≤ k = all_listed g.0 in outside g.0 g.1 (omega arith)
  look_all g found = inside g.1 g.2
  look_all g (none h) = outside g.0 g.1 h
  look_all g (next h j o z) = look_all (look_into g.0 g.1 j o) z

  start : Listing 0 w
  start = record {
    kept = record { same_length = refl; same = λ i o. refl };
    marks = λ y h. let a : word w ((lay X).marks + y) < stamp = q.marks y h in omega arith;
    entry = λ j h. absurd (omega arith);
    known = λ y h. let a : word w ((lay X).marks + y) < stamp = q.marks y h.0 in let b : word w ((lay X).marks + y) ≡ stamp = h.1 in absurd (omega arith);
    apart = λ i j h. absurd (omega arith);
  }

  walk_answers : {u : List ℕ} {r : Bool} (h : Held) → IsHeld X.rules h t₀ → Good X.rules.functions n t₀ → Inside X.file (lay X) stamp k x h w r u → Answered r u
  walk_answers h i g (looks {s = o} {v = z} a b) = look_all (first z o (scan_held h t₀ i g (λ c j e. in_inst (value s) x c t₀ j e) start a)) b
    where
      first : (v : List ℕ) (o : Option ℕ) → Passed (λ z. (c : ℕ) → In c t₀ → Clear s x (Marked z) c) 0 w o v → Looked 0 o v
      first v None c = c
      first v (Some m) c = (c.0, record { reached = omega arith; whole = c.2; parts = λ j l. absurd (omega arith) })

-- whether the variable is found inside a value is whether it occurs there, and only marks and list change
pub insides : {X : Setting} {w v : List ℕ} {k n : ℕ} {s : Store} {x stamp : ℕ} {r : Bool} → Looking X w k n s x stamp
    → (h : Held) (t : Term) → IsHeld X.rules h t → Good X.rules.functions n t → Inside X.file (lay X) stamp k x h w r v
    → (r ≡ occurs x (inst (value s) t)) × Keeps (lay X).marks ((lay X).marks + 2 * X.limits.cells) w v × MarksAre X v n (suc stamp)
insides {X} {w} {k = k} {n = n} {s = s} {x = x} {stamp = stamp} q h t i g d = walk_answers X w k n s x stamp q t h i g d

-- ---- what stays
-- a store is the same where the words of its cells and of its trail are
pub store_same : (X : Setting) (w v : List ℕ) (k n : ℕ) (s : Store) → ((y : ℕ) → y < n → word v ((lay X).cells + y) ≡ word w ((lay X).cells + y)) → ((j : ℕ) → j < k → word v ((lay X).trail + j) ≡ word w ((lay X).trail + j))
    → GoodStore X.rules.functions n s → StoreIs X w k s → StoreIs X v k s
unfolding cell_at
store_same X w v k n empty c e g h = h
store_same X w v k n (bind x t s) c e g h =
    let a : k ≡ suc h.0 = h.1 in
    (h.0, a, e h.0 (omega arith) ∙ h.2, (h.3.0, ap cell_of (c x g.0) ∙ h.3.1, h.3.2), store_same X w v h.0 n s c (λ j l. e j (omega arith)) g.2 h.4)

-- marks and list are no part of a store
pub stored_kept : {X : Setting} {w v : List ℕ} {k n : ℕ} {s : Store} → n ≤ X.limits.cells → Keeps (lay X).marks ((lay X).marks + 2 * X.limits.cells) w v → Stored X w k n s → Stored X v k n s
stored_kept {X} {w} {v} {k} {n} {s} room e c =
    let a = laid X in
    let b : k ≤ n = stored_few c in
    let cells : (y : ℕ) → y < n → word v ((lay X).cells + y) ≡ word w ((lay X).cells + y) = λ y l. e.same ((lay X).cells + y) (inl (omega arith)) in
    record {
      sound = c.sound;
      is = store_same X w v k n s cells (λ j l. e.same ((lay X).trail + j) (inl (omega arith))) c.good c.is;
      free = λ y l f. cells y l ∙ c.free y l f;
      good = c.good;
      few = c.few;
    }
