-- Numbering the free variables of an answer changes none of its instances.
-- Assumes nothing.
use Rattle.std.specs.Prelude.{ℕ, ◌≡◌, ◌⊎◌, true, List, [], ◌∷◌, ◌++◌, eqb, get_or}
use Rattle.std.proofs.Common.{ap, sym, ◌∙◌, inl, inr, eqb-true, arith}
use Rattle.std.proofs.lemmas.Bool.{eqb-false}
use Rattle.meaning.specs.Terms.{Term, var, app, Terms, []ₜ, ◌∷ₜ◌, inst, insts}
use Rattle.meaning.specs.Rules.{Rules}
use Rattle.meaning.specs.Answers.{has, appear, appears, index, renumbered}
use Rattle.demands.specs.Proofs.{Some, Values}
use Rattle.laws.specs.IfLaws.{if_by}
use Rattle.demands.specs.TermLaws.{In, Ins, or_cases, insts_insts, insts_cong}

-- x is one of the variables
abbrev pub Has : ℕ → List ℕ → Type 0
Has x ys = Some (λ y. x ≡ y) ys

pub has_true : (x : ℕ) (ys : List ℕ) → has x ys ≡ true → Has x ys
unfolding has
has_true x [] e = let z : ◌≡◌ {A = ℕ} 0 1 = cc in absurd (omega arith)
has_true x (y ∷ ys) e = go (or_cases (eqb x y) (has x ys) e) (λ p. has_true x ys p)
  where
    go : (eqb x y ≡ true) ⊎ (has x ys ≡ true) → (has x ys ≡ true → Has x ys) → Has x (y ∷ ys)
    go (inl p) f = inl (eqb-true x y p)
    go (inr p) f = inr (f p)

pub has_left : (x : ℕ) (ys zs : List ℕ) → Has x ys → Has x (ys ++ zs)
has_left x [] zs h = absurd h
has_left x (y ∷ ys) zs (inl e) = inl e
has_left x (y ∷ ys) zs (inr h) = inr (has_left x ys zs h)

pub has_right : (x : ℕ) (ys zs : List ℕ) → Has x zs → Has x (ys ++ zs)
has_right x [] zs h = h
has_right x (y ∷ ys) zs h = inr (has_right x ys zs h)

-- what has appeared stays, and what stands in a term appears
mutual
  unfolding appear appears

  appear_keeps : (x : ℕ) (t : Term) (seen : List ℕ) → Has x seen → Has x (appear seen t)
  appear_keeps x (var y) seen h = if_by (Has x) (has y seen) (λ p. h) (λ p. has_left x seen (y ∷ []) h)
  appear_keeps x (app f ts) seen h = appears_keeps x ts seen h

  appears_keeps : (x : ℕ) (ts : Terms) (seen : List ℕ) → Has x seen → Has x (appears seen ts)
  appears_keeps x []ₜ seen h = h
  appears_keeps x (t ∷ₜ ts) seen h = appears_keeps x ts (appear seen t) (appear_keeps x t seen h)

mutual
  unfolding appear appears

  appear_in : (x : ℕ) (t : Term) (seen : List ℕ) → In x t → Has x (appear seen t)
  appear_in x (var y) seen i =
      if_by (Has x) (has y seen) (λ p. rw i (has_true y seen p)) (λ p. has_right x seen (y ∷ []) (inl i))
  appear_in x (app f ts) seen i = appears_in x ts seen i

  pub appears_in : (x : ℕ) (ts : Terms) (seen : List ℕ) → Ins x ts → Has x (appears seen ts)
  appears_in x []ₜ seen i = absurd i
  appears_in x (t ∷ₜ ts) seen (inl i) = appears_keeps x ts (appear seen t) (appear_in x t seen i)
  appears_in x (t ∷ₜ ts) seen (inr i) = appears_in x ts (appear seen t) i

-- at its index stands the variable
pub index_has : (ys : List ℕ) (x : ℕ) → Has x ys → get_or ys (index ys x) 0 ≡ x
unfolding index
index_has [] x h = absurd h
index_has (y ∷ ys) x h =
    if_by (λ (i : ℕ). get_or (y ∷ ys) i 0 ≡ x) (eqb x y) (λ p. sym (eqb-true x y p)) (λ p. index_has ys x (rest (eqb-false x y p) h))
  where
    rest : (x ≡ y → ⊥) → Has x (y ∷ ys) → Has x ys
    rest n (inl e) = absurd (n e)
    rest n (inr k) = k

-- ---- instances
-- some values for the variables of ts make it us
abbrev pub InstanceOf : Rules → Terms → Terms → Type 0
InstanceOf R us ts = (τ : ℕ → Term) × Values R τ × (us ≡ insts τ ts)

pub renumbered_in : (R : Rules) (us ts : Terms) → InstanceOf R us ts → InstanceOf R us (renumbered ts)
unfolding renumbered inst
renumbered_in R us ts (τ, o, e) =
    let ys : List ℕ = appears [] ts in (
      λ j. τ (get_or ys j 0),
      (λ j. o (get_or ys j 0)),
      e ∙ insts_cong τ (λ x. τ (get_or ys (index ys x) 0)) ts (λ x i. ap τ (sym (index_has ys x (appears_in x ts [] i))))
          ∙ sym (insts_insts (λ j. τ (get_or ys j 0)) (λ x. var (index ys x)) ts),
    )

pub renumbered_out : (R : Rules) (us ts : Terms) → InstanceOf R us (renumbered ts) → InstanceOf R us ts
unfolding renumbered inst
renumbered_out R us ts (τ, o, e) =
    let ys : List ℕ = appears [] ts in
    (λ x. τ (index ys x), (λ x. o (index ys x)), e ∙ insts_insts τ (λ x. var (index ys x)) ts)
