-- Laws of terms and their instances.
-- Assumes nothing.
use Rattle.std.specs.Prelude.{ℕ, suc, zero, ◌+◌, ◌≤◌, ◌<◌, ◌≡◌, refl, ◌⊎◌, Bool, true, false, ◌||◌, eqb}
use Rattle.std.proofs.Common.{ap, ap₂, inl, inr, eqb-true, arith}
use Rattle.std.proofs.Math.Path.{fun_ext}
use Rattle.std.proofs.lemmas.Bool.{eqb-false}
use Rattle.meaning.specs.Terms.{Term, var, app, Terms, []ₜ, ◌∷ₜ◌, count, inst, insts, occurs, occurs_in, values_from}

-- the variable x stands in the term
abbrev mutual
  pub In : ℕ → Term → Type 0
  In x (var y) = x ≡ y
  In x (app f ts) = Ins x ts

  pub Ins : ℕ → Terms → Type 0
  Ins x []ₜ = ⊥
  Ins x (t ∷ₜ ts) = In x t ⊎ Ins x ts

-- the size of a term
abbrev mutual
  pub size : Term → ℕ
  size (var x) = 1
  size (app f ts) = suc (sizes ts)

  pub sizes : Terms → ℕ
  sizes []ₜ = 0
  sizes (t ∷ₜ ts) = size t + sizes ts

-- ---- occurrence
pub or_cases : (a b : Bool) → (a || b) ≡ true → (a ≡ true) ⊎ (b ≡ true)
or_cases true b e = inl refl
or_cases false b e = inr e

or_left : (a b : Bool) → (a || b) ≡ false → a ≡ false
or_left true b e = e
or_left false b e = refl

or_right : (a b : Bool) → (a || b) ≡ false → b ≡ false
or_right true b e = cc
or_right false b e = e

mutual
  unfolding occurs occurs_in

  pub occurs_true : (x : ℕ) (t : Term) → occurs x t ≡ true → In x t
  occurs_true x (var y) e = eqb-true x y e
  occurs_true x (app f ts) e = occurs_in_true x ts e

  pub occurs_in_true : (x : ℕ) (ts : Terms) → occurs_in x ts ≡ true → Ins x ts
  occurs_in_true x []ₜ e = let z : ◌≡◌ {A = ℕ} 0 1 = cc in absurd (omega arith)
  occurs_in_true x (t ∷ₜ ts) e = go (or_cases (occurs x t) (occurs_in x ts) e) (λ p. occurs_true x t p) (λ p. occurs_in_true x ts p)
    where
      go : (occurs x t ≡ true) ⊎ (occurs_in x ts ≡ true) → (occurs x t ≡ true → In x t) → (occurs_in x ts ≡ true → Ins x ts) → In x t ⊎ Ins x ts
      go (inl p) f g = inl (f p)
      go (inr p) f g = inr (g p)

mutual
  unfolding occurs occurs_in

  pub occurs_false : (x : ℕ) (t : Term) → occurs x t ≡ false → In x t → ⊥
  occurs_false x (var y) e i = eqb-false x y e i
  occurs_false x (app f ts) e i = occurs_in_false x ts e i

  pub occurs_in_false : (x : ℕ) (ts : Terms) → occurs_in x ts ≡ false → Ins x ts → ⊥
  occurs_in_false x []ₜ e i = i
  occurs_in_false x (t ∷ₜ ts) e (inl i) = occurs_false x t (or_left (occurs x t) (occurs_in x ts) e) i
  occurs_in_false x (t ∷ₜ ts) e (inr i) = occurs_in_false x ts (or_right (occurs x t) (occurs_in x ts) e) i

-- ---- instances
mutual
  unfolding inst insts

  pub inst_inst : (μ ν : ℕ → Term) (t : Term) → inst μ (inst ν t) ≡ inst (λ x. inst μ (ν x)) t
  inst_inst μ ν (var x) = refl
  inst_inst μ ν (app f ts) = ap (app f) (insts_insts μ ν ts)

  pub insts_insts : (μ ν : ℕ → Term) (ts : Terms) → insts μ (insts ν ts) ≡ insts (λ x. inst μ (ν x)) ts
  insts_insts μ ν []ₜ = refl
  insts_insts μ ν (t ∷ₜ ts) = ap₂ ◌∷ₜ◌ (inst_inst μ ν t) (insts_insts μ ν ts)

mutual
  unfolding inst insts

  pub inst_var : (t : Term) → inst var t ≡ t
  inst_var (var x) = refl
  inst_var (app f ts) = ap (app f) (insts_var ts)

  pub insts_var : (ts : Terms) → insts var ts ≡ ts
  insts_var []ₜ = refl
  insts_var (t ∷ₜ ts) = ap₂ ◌∷ₜ◌ (inst_var t) (insts_var ts)

-- values for the variables that do not stand in a term do not matter
mutual
  unfolding inst insts

  pub inst_cong : (μ ν : ℕ → Term) (t : Term) → ((x : ℕ) → In x t → μ x ≡ ν x) → inst μ t ≡ inst ν t
  inst_cong μ ν (var x) h = h x refl
  inst_cong μ ν (app f ts) h = ap (app f) (insts_cong μ ν ts h)

  pub insts_cong : (μ ν : ℕ → Term) (ts : Terms) → ((x : ℕ) → Ins x ts → μ x ≡ ν x) → insts μ ts ≡ insts ν ts
  insts_cong μ ν []ₜ h = refl
  insts_cong μ ν (t ∷ₜ ts) h = ap₂ ◌∷ₜ◌ (inst_cong μ ν t (λ x i. h x (inl i))) (insts_cong μ ν ts (λ x i. h x (inr i)))

pub inst_ext : (μ ν : ℕ → Term) (t : Term) → ((x : ℕ) → μ x ≡ ν x) → inst μ t ≡ inst ν t
inst_ext μ ν t h = ap (λ (f : ℕ → Term). inst f t) (fun_ext h)

pub count_insts : (ν : ℕ → Term) (ts : Terms) → count (insts ν ts) ≡ count ts
unfolding count insts
count_insts ν []ₜ = refl
count_insts ν (t ∷ₜ ts) = ap suc (count_insts ν ts)

-- a variable's value is no larger than an instance of a term that holds the variable
mutual
  unfolding inst insts

  pub size_in : (ν : ℕ → Term) (x : ℕ) (t : Term) → In x t → size (ν x) ≤ size (inst ν t)
  size_in ν x (var y) e = rw e (omega arith)
  size_in ν x (app f ts) i = let h : size (ν x) ≤ sizes (insts ν ts) = sizes_in ν x ts i in omega arith

  pub sizes_in : (ν : ℕ → Term) (x : ℕ) (ts : Terms) → Ins x ts → size (ν x) ≤ sizes (insts ν ts)
  sizes_in ν x []ₜ i = absurd i
  sizes_in ν x (t ∷ₜ ts) (inl i) = let h : size (ν x) ≤ size (inst ν t) = size_in ν x t i in omega arith
  sizes_in ν x (t ∷ₜ ts) (inr i) = let h : size (ν x) ≤ sizes (insts ν ts) = sizes_in ν x ts i in omega arith

-- a finite value is no proper part of itself
pub no_loop : (ν : ℕ → Term) (x f : ℕ) (ts : Terms) → Ins x ts → ν x ≡ inst ν (app f ts) → ⊥
unfolding inst insts
no_loop ν x f ts i e =
    let h : size (ν x) ≤ sizes (insts ν ts) = sizes_in ν x ts i in
    let k : size (ν x) ≡ suc (sizes (insts ν ts)) = ap size e in
    omega arith

-- ---- rows of values
pub count_from : (i n : ℕ) (ν : ℕ → Term) → count (values_from i n ν) ≡ n
unfolding count values_from
count_from i zero ν = refl
count_from i (suc n) ν = ap suc (count_from (suc i) n ν)

pub insts_from : (τ ν : ℕ → Term) (i n : ℕ) → insts τ (values_from i n ν) ≡ values_from i n (λ x. inst τ (ν x))
unfolding insts values_from
insts_from τ ν i zero = refl
insts_from τ ν i (suc n) = ap (inst τ (ν i) ∷ₜ◌) (insts_from τ ν (suc i) n)

pub from_eq : (μ ν : ℕ → Term) (i n : ℕ) → ((x : ℕ) → x < i + n → μ x ≡ ν x) → values_from i n μ ≡ values_from i n ν
unfolding values_from
from_eq μ ν i zero h = refl
from_eq μ ν i (suc n) h = ap₂ ◌∷ₜ◌ (h i (omega arith)) (from_eq μ ν (suc i) n (λ x k. h x (omega arith)))

pub eq_from : (μ ν : ℕ → Term) (i n : ℕ) → values_from i n μ ≡ values_from i n ν → (x : ℕ) → i ≤ x → x < i + n → μ x ≡ ν x
unfolding values_from
eq_from μ ν i zero e x h k = absurd (omega arith)
eq_from μ ν i (suc n) e x h k = go (eqb i x) refl (eq_from μ ν (suc i) n (cc) x)
  where
    top : μ i ≡ ν i
    top = cc

    go : (b : Bool) → eqb i x ≡ b → (suc i ≤ x → x < suc i + n → μ x ≡ ν x) → μ x ≡ ν x
    go true p ih = rw (← eqb-true i x p) top
    go false p ih = let q = eqb-false i x p in ih (omega arith) (omega arith)
