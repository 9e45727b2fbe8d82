-- Laws of the store: what its bindings say of values for the cells, and that the values it gives are the most general ones.
-- Assumes nothing.
use Rattle.std.specs.Prelude.{ℕ, refl, ◌≢◌, eqb}
use Rattle.std.proofs.Math.Path.{◌≡◌, ap, sym, fun_ext}
use Rattle.std.proofs.Common.{◌∙◌, subst, arith}
use borrow.Author.Tests.{eqb-true, eqb-false, eq-eqb, ne_eqb}
use Rattle.meaning.specs.Terms.{Term, var, app, inst}
use Rattle.meaning.specs.Store.{Store, empty, bind, only, value, onward, follow}
use Rattle.laws.specs.IfLaws.{if_by, if_true, if_false}
use Rattle.demands.specs.TermLaws.{In, inst_inst, inst_var, inst_cong, inst_ext}

-- the cell is not bound
abbrev pub Free : ℕ → Store → Type 0
Free x empty = Unit {0}
Free x (bind y t s) = (x ≢ y) × Free x s

-- each cell was free when it was bound, and did not occur inside its new value
abbrev pub Sound : Store → Type 0
Sound empty = Unit {0}
Sound (bind x t s) = Free x s × (¬ In x (inst (value s) t)) × Sound s

-- values for all cells that satisfy every binding
abbrev pub Solves : (ℕ → Term) → Store → Type 0
Solves ν empty = Unit {0}
Solves ν (bind x t s) = (ν x ≡ inst ν t) × Solves ν s

-- ---- one variable replaced
pub only_same : (x : ℕ) (t : Term) → only x t x ≡ t
unfolding only
only_same x t = if_true (eqb x x) t (var x) (eq-eqb x x refl)

pub only_other : (x y : ℕ) (t : Term) → y ≢ x → only x t y ≡ var y
unfolding only
only_other x y t n = if_false (eqb y x) t (var y) (ne_eqb y x n)

only_absent : (x : ℕ) (t u : Term) → ¬ In x u → inst (only x t) u ≡ u
only_absent x t u n = inst_cong (only x t) var u (λ y i. only_other x y t (λ e. n (rw e at i))) ∙ inst_var u

inst_only : (ν : ℕ → Term) (x : ℕ) (t : Term) → ν x ≡ inst ν t → (y : ℕ) → inst ν (only x t y) ≡ ν y
unfolding only inst
inst_only ν x t e y = if_by (λ (u : Term). inst ν u ≡ ν y) (eqb y x) (λ p. sym e ∙ ap ν (sym (eqb-true y x p))) (λ p. refl)

-- ---- values
-- a free cell is its own value
pub value_free : (s : Store) (x : ℕ) → Free x s → value s x ≡ var x
unfolding value inst
value_free empty x f = refl
value_free (bind y u s) x f = ap (inst (only y (inst (value s) u))) (value_free s x f.1) ∙ only_other y x (inst (value s) u) f.0

-- a solution gives each cell an instance of its value
pub solves_value : (ν : ℕ → Term) (s : Store) → Solves ν s → (y : ℕ) → inst ν (value s y) ≡ ν y
unfolding value inst
solves_value ν empty h y = refl
solves_value ν (bind x t s) h y =
    let ih : (z : ℕ) → inst ν (value s z) ≡ ν z = solves_value ν s h.1 in
    let T : Term = inst (value s) t in
    let e : ν x ≡ inst ν T = h.0 ∙ sym (inst_inst ν (value s) t ∙ inst_ext (λ z. inst ν (value s z)) ν t ih) in
    inst_inst ν (only x T) (value s y) ∙ inst_ext (λ z. inst ν (only x T z)) ν (value s y) (inst_only ν x T e) ∙ ih y

pub solves_values : (ν : ℕ → Term) (s : Store) → Solves ν s → (t : Term) → inst ν (inst (value s) t) ≡ inst ν t
solves_values ν s h t = inst_inst ν (value s) t ∙ inst_ext (λ z. inst ν (value s z)) ν t (solves_value ν s h)

-- every instance of the values is a solution
pub value_solves : (s : Store) → Sound s → (μ : ℕ → Term) → Solves (λ y. inst μ (value s y)) s
unfolding value inst
value_solves empty w μ = tt
value_solves (bind x t s) w μ =
    let T : Term = inst (value s) t in
    let after : ℕ → Term = λ y. inst (only x T) (value s y) in
    let a : after x ≡ T = ap (inst (only x T)) (value_free s x w.0) ∙ only_same x T in
    let b : inst after t ≡ T = sym (inst_inst (only x T) (value s) t) ∙ only_absent x T T w.1 in
    let c : inst μ (after x) ≡ inst (λ y. inst μ (after y)) t = ap (inst μ) (a ∙ sym b) ∙ inst_inst μ after t in
    let d : Solves (λ y. inst (λ z. inst μ (only x T z)) (value s y)) s = value_solves s w.2 (λ z. inst μ (only x T z)) in
    (c, subst (λ (f : ℕ → Term). Solves f s) (sym (fun_ext (λ y. inst_inst μ (only x T) (value s y)))) d)

pub value_solves_itself : (s : Store) → Sound s → Solves (value s) s
value_solves_itself s w = subst (λ (f : ℕ → Term). Solves f s) (fun_ext (λ y. inst_var (value s y))) (value_solves s w var)

-- ---- following bound variables
solves_onward : (ν : ℕ → Term) (x : ℕ) (t u v : Term) → inst ν t ≡ ν x → inst ν u ≡ inst ν v → inst ν (onward x t u) ≡ inst ν v
unfolding onward inst
solves_onward ν x t (var y) v e h = if_by (λ (w : Term). inst ν w ≡ inst ν v) (eqb y x) (λ p. e ∙ ap ν (sym (eqb-true y x p)) ∙ h) (λ p. h)
solves_onward ν x t (app f ts) v e h = h

pub solves_follow : (ν : ℕ → Term) (s : Store) → Solves ν s → (u : Term) → inst ν (follow s u) ≡ inst ν u
unfolding follow
solves_follow ν empty h u = refl
solves_follow ν (bind x t s) h u = solves_onward ν x (follow s t) (follow s u) u (solves_follow ν s h.1 t ∙ sym h.0) (solves_follow ν s h.1 u)

-- what a term is followed to is no bound variable
module _ (x : ℕ) (t : Term) (s : Store) (w : Sound (bind x t s)) (ih : (u : Term) (y : ℕ) → follow s u ≡ var y → Free y s) where
  onward_free : (u v : Term) (y : ℕ) → follow s u ≡ v → onward x (follow s t) v ≡ var y → Free y (bind x t s)
  unfolding onward inst
  onward_free u (var z) y q r =
      if_by (λ (v : Term). v ≡ var y → Free y (bind x t s)) (eqb z x)
      (λ p k.
      let f : Free y s = ih t y k in
      let e : inst (value s) t ≡ var y = sym (solves_follow (value s) s (value_solves_itself s w.2) t) ∙ ap (inst (value s)) k ∙ value_free s y f in
      ((λ m. w.1 (rw e (sym m))), f))
      (λ p k. let e : z ≡ y = cc in ((λ m. eqb-false z x p (e ∙ m)), ih u y (q ∙ k)))
      r
  onward_free u (app f ts) y q r = let z : ◌≡◌ {A = ℕ} 0 1 = cc in absurd (omega arith)

pub follow_free : (s : Store) → Sound s → (u : Term) (y : ℕ) → follow s u ≡ var y → Free y s
unfolding follow
follow_free empty w u y e = tt
follow_free (bind x t s) w u y e = onward_free x t s w (follow_free s w.2) u (follow s u) y refl e
