-- Taking a choice by its test, and tests that are made of two.
-- Assumes nothing.
use Rattle.std.specs.Prelude.{◌≡◌, refl, Bool, true, false, ◌&&◌}
use Rattle.meaning.specs.If.{when◌then◌else◌}

-- what holds of each branch where its test has come out so holds of the choice
pub if_by {ℓ κ} : {A : Type ℓ} (P : A → Type κ) (b : Bool) {x y : A} → (b ≡ true → P x) → (b ≡ false → P y) → P (when b then x else y)
unfolding when◌then◌else◌
if_by P true f g = f refl
if_by P false f g = g refl

-- and what holds of two branches side by side holds of two choices by one test
pub if_both : {A : Type 0} (P : A → A → Type 0) (b : Bool) {x y z w : A} → (b ≡ true → P x z) → (b ≡ false → P y w) → P (when b then x else y) (when b then z else w)
unfolding when◌then◌else◌
if_both P true f g = f refl
if_both P false f g = g refl

pub if_true {ℓ} : {A : Type ℓ} (b : Bool) (x y : A) → b ≡ true → (when b then x else y) ≡ x
if_true b x y e = if_by (λ z. z ≡ x) b (λ p. refl) (λ p. cc)

pub if_false {ℓ} : {A : Type ℓ} (b : Bool) (x y : A) → b ≡ false → (when b then x else y) ≡ y
if_false b x y e = if_by (λ z. z ≡ y) b (λ p. cc) (λ p. refl)

pub and_left : (a b : Bool) → (a && b) ≡ true → a ≡ true
and_left true b e = refl
and_left false b e = e

pub and_right : (a b : Bool) → (a && b) ≡ true → b ≡ true
and_right true b e = e
and_right false b e = cc

pub and_false_left : (a b : Bool) → a ≡ false → (a && b) ≡ false
and_false_left a b p = rw p

-- three tests, of which the last two are taken together
pub and_all : (a b c : Bool) → a ≡ true → (b && c) ≡ true → (a && b && c) ≡ true
and_all a b c p q = rw p q

pub and_last : (a b c : Bool) → (b && c) ≡ false → (a && b && c) ≡ false
and_last true b c q = q
and_last false b c q = refl
