-- The free variables of an answer, numbered by first appearance.
-- Assumes nothing.
use Rattle.std.specs.Prelude.{ℕ, zero, suc, ◌+◌, ◌≤◌, ◌<◌, ◌≡◌, Bool, ◌||◌, length, get_or}
use Rattle.std.proofs.Math.Path.{refl, ap, sym}
use Rattle.std.proofs.Common.{◌∙◌, subst, inl, inr, arith, length-append}
use Rattle.std.proofs.Math.Bool.{true, false}
use mathlib.Core.List.{List, [], ◌∷◌, ◌++◌, map, append_assoc, append-nil}
use Rattle.std.proofs.Math.Dec.{eqb}
use Rattle.std.proofs.lemmas.List.{length-map}
use borrow.Author.Tests.{eqb-true, eqb-false, eq-eqb, ne_eqb}
use Rattle.meaning.specs.If.{when◌then◌else◌}
use Rattle.meaning.specs.Terms.{Term, var, app, Terms, []ₜ, ◌∷ₜ◌, inst, insts}
use Rattle.meaning.specs.Answers.{has, appear, appears, index, renumbered}
use Rattle.laws.specs.IfLaws.{if_by, if_true, if_false}
use Rattle.demands.specs.Proofs.{Each}
use Rattle.demands.specs.TermLaws.{In, Ins}
use Rattle.demands.specs.RenumberLaws.{Has, appears_in, index_has}

or_right : (b : Bool) {c : Bool} → c ≡ true → (b || c) ≡ true
or_right true e = refl
or_right false e = e

-- ---- a list with one more at its end
pub has_here : (xs zs : List ℕ) (y : ℕ) → has y (xs ++ y ∷ zs) ≡ true
unfolding has
has_here [] zs y = ap (◌|| has y zs) (eq-eqb y y refl)
has_here (x ∷ xs) zs y = or_right (eqb y x) (has_here xs zs y)

has_other : (xs : List ℕ) (y z : ℕ) → eqb z y ≡ false → has z (xs ++ y ∷ []) ≡ has z xs
unfolding has
has_other [] y z h = ap (◌|| false) h
has_other (x ∷ xs) y z h = ap (eqb z x ||◌) (has_other xs y z h)

pub has_is : (x : ℕ) (ys : List ℕ) → Has x ys → has x ys ≡ true
unfolding has
has_is x [] h = absurd h
has_is x (y ∷ ys) (inl e) = ap (◌|| has x ys) (eq-eqb x y e)
has_is x (y ∷ ys) (inr h) = or_right (eqb x y) (has_is x ys h)

-- the index of a variable that has appeared is the same in a longer list
pub index_in : (xs zs : List ℕ) (x : ℕ) → has x xs ≡ true → index (xs ++ zs) x ≡ index xs x
unfolding has index when◌then◌else◌
index_in [] zs x h = let z : ◌≡◌ {A = ℕ} 0 1 = cc in absurd (omega arith)
index_in (y ∷ xs) zs x h = go (eqb x y) h (index_in xs zs x)
  where
    go : (b : Bool) → (b || has x xs) ≡ true → (has x xs ≡ true → index (xs ++ zs) x ≡ index xs x) → (when b then 0 else suc (index (xs ++ zs) x)) ≡ (when b then 0 else suc (index xs x))
    go true k ih = refl
    go false k ih = ap suc (ih k)

pub index_below : (xs : List ℕ) (x : ℕ) → has x xs ≡ true → index xs x < length xs
unfolding has index when◌then◌else◌
index_below [] x h = let z : ◌≡◌ {A = ℕ} 0 1 = cc in absurd (omega arith)
index_below (y ∷ xs) x h = go (eqb x y) h (index_below xs x)
  where
    go : (b : Bool) → (b || has x xs) ≡ true → (has x xs ≡ true → index xs x < length xs) → (when b then 0 else suc (index xs x)) < suc (length xs)
    go true k ih = omega arith
    go false k ih = let l = ih k in omega arith

pub index_next : (xs zs : List ℕ) (x : ℕ) → has x xs ≡ false → index (xs ++ x ∷ zs) x ≡ length xs
unfolding has index when◌then◌else◌
index_next [] zs x h = if_true (eqb x x) 0 _ (eq-eqb x x refl)
index_next (y ∷ xs) zs x h = go (eqb x y) h (index_next xs zs x)
  where
    go : (b : Bool) → (b || has x xs) ≡ false → (has x xs ≡ false → index (xs ++ x ∷ zs) x ≡ length xs) → (when b then 0 else suc (index (xs ++ x ∷ zs) x)) ≡ suc (length xs)
    go true k ih = let z : ◌≡◌ {A = ℕ} 0 1 = cc in absurd (omega arith)
    go false k ih = ap suc (ih k)

-- ---- the word of a variable, where these have appeared: its number and 1, or 0
unfoldable pub numbered : List ℕ → ℕ → ℕ
numbered seen x = when has x seen then suc (index seen x) else 0

pub numbered_none : (x : ℕ) → numbered [] x ≡ 0
unfolding numbered has when◌then◌else◌
numbered_none x = refl

pub numbered_known : (seen : List ℕ) (x : ℕ) → (numbered seen x ≡ 0 → ⊥) → (has x seen ≡ true) × (numbered seen x ≡ suc (index seen x))
unfolding numbered
numbered_known seen x = if_by (λ n. (n ≡ 0 → ⊥) → (has x seen ≡ true) × (n ≡ suc (index seen x))) (has x seen) (λ p h. (p, refl)) (λ p h. absurd (h refl))

pub numbered_new : (seen : List ℕ) (x : ℕ) → numbered seen x ≡ 0 → has x seen ≡ false
unfolding numbered
numbered_new seen x = if_by (λ n. n ≡ 0 → has x seen ≡ false) (has x seen) (λ p h. absurd (omega arith)) (λ p h. p)

pub numbered_last : (seen : List ℕ) (x : ℕ) → has x seen ≡ false → numbered (seen ++ x ∷ []) x ≡ suc (length seen)
unfolding numbered
numbered_last seen x h = if_true _ _ _ (has_here seen [] x) ∙ ap suc (index_next seen [] x h)

pub numbered_other : (seen : List ℕ) (x y : ℕ) → eqb y x ≡ false → numbered (seen ++ x ∷ []) y ≡ numbered seen y
unfolding numbered
numbered_other seen x y h =
    if_by (λ n. (when has y (seen ++ x ∷ []) then suc (index (seen ++ x ∷ []) y) else 0) ≡ n) (has y seen)
    (λ p. if_true _ _ _ (has_other seen x y h ∙ p) ∙ ap suc (index_in seen (x ∷ []) y p))
    (λ p. if_false _ _ _ (has_other seen x y h ∙ p))

-- ---- what appears
-- those that have appeared stay in front
mutual
  unfolding appears

  appear_grows : (seen : List ℕ) (t : Term) → (more : List ℕ) × (appear seen t ≡ seen ++ more)
  appear_grows seen (var x) = if_by (λ l. (more : List ℕ) × (l ≡ seen ++ more)) (has x seen) (λ p. ([], sym (append-nil seen))) (λ p. (x ∷ [], refl))
  appear_grows seen (app f ts) = appears_grows seen ts

  pub appears_grows : (seen : List ℕ) (ts : Terms) → (more : List ℕ) × (appears seen ts ≡ seen ++ more)
  appears_grows seen []ₜ = ([], sym (append-nil seen))
  appears_grows seen (t ∷ₜ ts) =
      let a = appear_grows seen t in
      let b = appears_grows (appear seen t) ts in
      (a.0 ++ b.0, b.1 ∙ ap (◌++ b.0) a.1 ∙ append_assoc seen a.0 b.0)

-- where all have appeared nothing more does
mutual
  unfolding appears

  appear_known : (seen : List ℕ) (t : Term) → ((x : ℕ) → In x t → has x seen ≡ true) → appear seen t ≡ seen
  appear_known seen (var x) h = if_true _ _ _ (h x refl)
  appear_known seen (app f ts) h = appears_known seen ts h

  pub appears_known : (seen : List ℕ) (ts : Terms) → ((x : ℕ) → Ins x ts → has x seen ≡ true) → appears seen ts ≡ seen
  appears_known seen []ₜ h = refl
  appears_known seen (t ∷ₜ ts) h = ap (λ (l : List ℕ). appears l ts) (appear_known seen t (λ x i. h x (inl i))) ∙ appears_known seen ts (λ x i. h x (inr i))

pub appears_again : (ts : Terms) → appears (appears [] ts) ts ≡ appears [] ts
appears_again ts = appears_known (appears [] ts) ts (λ x i. has_is x (appears [] ts) (appears_in x ts [] i))

-- ---- no more appear than there are
-- how many below n are in the list
total : ℕ → List ℕ → ℕ
total zero xs = 0
total (suc n) xs = (when has n xs then 1 else 0) + total n xs

total_none : (n : ℕ) → total n [] ≡ 0
unfolding total has when◌then◌else◌
total_none zero = refl
total_none (suc n) = let h = total_none n in omega arith

total_few : (n : ℕ) (xs : List ℕ) → total n xs ≤ n
unfolding total
total_few zero xs = omega arith
total_few (suc n) xs = let h = total_few n xs in if_by (λ a. a + total n xs ≤ suc n) (has n xs) (λ p. omega arith) (λ p. omega arith)

total_out : (n y : ℕ) (xs : List ℕ) → n ≤ y → total n (xs ++ y ∷ []) ≡ total n xs
unfolding total
total_out zero y xs h = refl
total_out (suc n) y xs h = rw (has_other xs y n (ne_eqb n y (λ e. omega arith)), total_out n y xs (omega arith))

total_in : (n y : ℕ) (xs : List ℕ) → y < n → has y xs ≡ false → total n (xs ++ y ∷ []) ≡ suc (total n xs)
unfolding total when◌then◌else◌
total_in zero y xs h k = absurd (omega arith)
total_in (suc n) y xs h k = go (eqb n y) refl (λ l. total_in n y xs l k)
  where
    go : (b : Bool) → eqb n y ≡ b → (y < n → total n (xs ++ y ∷ []) ≡ suc (total n xs)) → total (suc n) (xs ++ y ∷ []) ≡ suc (total (suc n) xs)
    go true e ih =
        let q : n ≡ y = eqb-true n y e in
        rw (q, has_here xs [] y, k, total_out y y xs (omega arith)) (omega arith)
    go false e ih =
        let q = eqb-false n y e in
        let r = ih (omega arith) in
        rw (has_other xs y n e, r) (omega arith)

module _ (n : ℕ) where
  mutual
    unfolding appears

    appear_counts : (seen : List ℕ) (t : Term) → ((x : ℕ) → In x t → x < n) → length seen ≡ total n seen → length (appear seen t) ≡ total n (appear seen t)
    appear_counts seen (var x) h e =
        if_by (λ l. length l ≡ total n l) (has x seen) (λ p. e)
        (λ p. let a = length-append seen (x ∷ []) in let b = total_in n x seen (h x refl) p in omega arith)
    appear_counts seen (app f ts) h e = appears_count seen ts h e

    appears_count : (seen : List ℕ) (ts : Terms) → ((x : ℕ) → Ins x ts → x < n) → length seen ≡ total n seen → length (appears seen ts) ≡ total n (appears seen ts)
    appears_count seen []ₜ h e = e
    appears_count seen (t ∷ₜ ts) h e = appears_count (appear seen t) ts (λ x i. h x (inr i)) (appear_counts seen t (λ x i. h x (inl i)) e)

  pub appears_few : (ts : Terms) → ((x : ℕ) → Ins x ts → x < n) → length (appears [] ts) ≤ n
  appears_few ts h =
      let a = appears_count [] ts h (sym (total_none n)) in
      let b = total_few n (appears [] ts) in
      omega arith

-- ---- as many appear once they are numbered
module _ (g d : ℕ → ℕ) where
  -- d finds x again by its number
  abbrev Back : ℕ → Type 0
  Back x = d (g x) ≡ x

  has_map : (x : ℕ) (ys : List ℕ) → Back x → Each Back ys → has (g x) (map g ys) ≡ has x ys
  unfolding has
  has_map x [] h k = refl
  has_map x (y ∷ ys) h k = rw (same (eqb x y) refl, has_map x ys h k.1)
    where
      same : (b : Bool) → eqb x y ≡ b → eqb (g x) (g y) ≡ eqb x y
      same true e = eq-eqb (g x) (g y) (ap g (eqb-true x y e)) ∙ sym e
      same false e = ne_eqb (g x) (g y) (λ q. eqb-false x y e (sym h ∙ ap d q ∙ k.0)) ∙ sym e

  map_last : (xs : List ℕ) (y : ℕ) → map g (xs ++ y ∷ []) ≡ map g xs ++ g y ∷ []
  map_last [] y = refl
  map_last (x ∷ xs) y = ap (g x ∷◌) (map_last xs y)

  each_last : (xs : List ℕ) (y : ℕ) → Each Back xs → Back y → Each Back (xs ++ y ∷ [])
  each_last [] y h k = (k, tt)
  each_last (x ∷ xs) y h k = (h.0, each_last xs y h.1 k)

  -- the list for a term and that for the term numbered
  abbrev Mapped : List ℕ → List ℕ → Type 0
  Mapped xs ys = Each Back xs × (ys ≡ map g xs)

  mutual
    unfolding appears insts when◌then◌else◌

    appear_mapped : (seen ys : List ℕ) (t : Term) → ((x : ℕ) → In x t → Back x) → Mapped seen ys → Mapped (appear seen t) (appear ys (inst (λ x. var (g x)) t))
    appear_mapped seen ys (var x) h m =
        let e : has (g x) ys ≡ has x seen = ap (has (g x)) m.1 ∙ has_map x seen (h x refl) m.0 in
        subst (λ (b : Bool). Mapped (when has x seen then seen else seen ++ x ∷ []) (when b then ys else ys ++ g x ∷ [])) (sym e) (go (has x seen))
      where
        go : (b : Bool) → Mapped (when b then seen else seen ++ x ∷ []) (when b then ys else ys ++ g x ∷ [])
        go true = m
        go false = (each_last seen x m.0 (h x refl), ap (◌++ g x ∷ []) m.1 ∙ sym (map_last seen x))
    appear_mapped seen ys (app f ts) h m = appears_mapped seen ys ts h m

    appears_mapped : (seen ys : List ℕ) (ts : Terms) → ((x : ℕ) → Ins x ts → Back x) → Mapped seen ys → Mapped (appears seen ts) (appears ys (insts (λ x. var (g x)) ts))
    appears_mapped seen ys []ₜ h m = m
    appears_mapped seen ys (t ∷ₜ ts) h m = appears_mapped (appear seen t) (appear ys (inst (λ x. var (g x)) t)) ts (λ x i. h x (inr i)) (appear_mapped seen ys t (λ x i. h x (inl i)) m)

pub renumbered_appear : (ts : Terms) → length (appears [] (renumbered ts)) ≡ length (appears [] ts)
unfolding renumbered
renumbered_appear ts =
    let ys : List ℕ = appears [] ts in
    ap length (appears_mapped (index ys) (λ i. get_or ys i 0) [] [] ts (λ x i. index_has ys x (appears_in x ts [] i)) (tt, refl)).1 ∙ length-map ys (index ys)
