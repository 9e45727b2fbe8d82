-- A bound cell's word holds its term.
-- Assumes nothing.
use Rattle.std.specs.Prelude.{ℕ, ◌+◌, ◌-◌, ◌*◌, ◌/◌, ◌%◌, ◌≤◌, ◌<◌, ◌≡◌, refl, ◌⊎◌}
use Rattle.std.proofs.Math.Path.{ap, ap₂}
use Rattle.std.proofs.Common.{sym, ◌∙◌, subst, inl, inr, mod-eq_of_lt, ne_eqb}
use native.Mathlib.Omega.{arith}
use Rattle.std.proofs.Math.Nat.{mod-lt}
use Rattle.std.proofs.Math.Dec.{eqb}
use Rattle.meaning.specs.If.{when◌then◌else◌}
use Rattle.meaning.specs.Terms.{Term, var, app, Terms, []ₜ, ◌∷ₜ◌, inst, insts, from}
use Rattle.laws.specs.IfLaws.{if_false}
use Rattle.demands.specs.TermLaws.{In, Ins, inst_cong}
use Rattle.demands.specs.WellLaws.{Good, well_in}
use Rattle.words.specs.Words.{plus}
use Rattle.cells.specs.Cells.{word_of, cell_of}
use Rattle.cells.specs.declared.Held.{Held}
use Rattle.cells.specs.declared.Cell.TheVariants.{Free, Bound}
use Rattle.simulation.specs.Places.{IsHeld}
use Rattle.simulation.specs.Rep.{Setting}
use Rattle.simulation.specs.Pushing.{plus_small, place_few}

split : (p r : ℕ) → r < 65536 → ((p * 65536 + r) / 65536 ≡ p) × ((p * 65536 + r) % 65536 ≡ r)
split p r h = (omega arith, omega arith)

-- a term has a variable, or none
mutual
  variable_or : (t : Term) → ((x : ℕ) × In x t) ⊎ ((x : ℕ) → In x t → ⊥)
  variable_or (var x) = inl (x, refl)
  variable_or (app f ts) = variables_or ts

  variables_or : (ts : Terms) → ((x : ℕ) × Ins x ts) ⊎ ((x : ℕ) → Ins x ts → ⊥)
  variables_or []ₜ = inr (λ x i. i)
  variables_or (t ∷ₜ ts) = join (variable_or t) (variables_or ts)
    where
      join : ((x : ℕ) × In x t) ⊎ ((x : ℕ) → In x t → ⊥) → ((x : ℕ) × Ins x ts) ⊎ ((x : ℕ) → Ins x ts → ⊥) → ((x : ℕ) × (In x t ⊎ Ins x ts)) ⊎ ((x : ℕ) → In x t ⊎ Ins x ts → ⊥)
      join (inl (x, i)) b = inl (x, inl i)
      join (inr n) (inl (x, i)) = inl (x, inr i)
      join (inr n) (inr m) = inr both
        where
          both : (x : ℕ) → In x t ⊎ Ins x ts → ⊥
          both x (inl i) = n x i
          both x (inr i) = m x i

-- the variables of an instance that counts from a cell
mutual
  unfolding inst insts from

  in_from : (b x : ℕ) (t : Term) → In x t → In (b + x) (inst (from b) t)
  in_from b x (var y) e = ap (b +◌) e
  in_from b x (app f ts) i = ins_from b x ts i

  ins_from : (b x : ℕ) (ts : Terms) → Ins x ts → Ins (b + x) (insts (from b) ts)
  ins_from b x []ₜ i = i
  ins_from b x (t ∷ₜ ts) (inl i) = inl (in_from b x t i)
  ins_from b x (t ∷ₜ ts) (inr i) = inr (ins_from b x ts i)

module _ (X : Setting) (n : ℕ) (few : n ≤ 60000) where
  -- what the word of a bound cell is read as
  packed_is : (p b : ℕ) → p ≤ 60000 → cell_of (word_of (record { place = record { 0 = p }; base = record { 0 = b } })) ≡ Bound (record { place = record { 0 = p }; base = record { 0 = b % 65536 } })
  unfolding cell_of word_of
  packed_is p b h =
      let q = mod-lt b {m = 65536} (omega arith) in
      let z : plus ((p % 65536) * 65536 + b % 65536) 1 ≡ p * 65536 + b % 65536 + 1 = plus_small _ 1 (omega arith) ∙ omega arith in
      let s = split p (b % 65536) q in
      let one : p * 65536 + b % 65536 + 1 - 1 ≡ p * 65536 + b % 65536 = omega arith in
      ap (λ (v : ℕ). when eqb v 0 then Free else Bound (record { place = record { 0 = (v - 1) / 65536 }; base = record { 0 = (v - 1) % 65536 } })) z
      ∙ if_false _ _ _ (ne_eqb (p * 65536 + b % 65536 + 1) 0 (λ e. omega arith))
      ∙ ap₂ (λ (x y : ℕ). Bound (record { place = record { 0 = x }; base = record { 0 = y } })) (ap (λ (v : ℕ). v / 65536) one ∙ s.0) (ap (λ (v : ℕ). v % 65536) one ∙ s.1)

  pub packed_held : (h : Held) (t : Term) → IsHeld X.rules h t → Good X.rules.functions n t → (k : Held) × (cell_of (word_of h) ≡ Bound k) × IsHeld X.rules k t
  packed_held h t i g = (
    record { place = h.place; base = record { 0 = h.base.0 % 65536 } },
    packed_is h.place.0 h.base.0 (place_few X h.place.0 i.raw i.behind i.stands),
    record { raw = i.raw; behind = i.behind; stands = i.stands; is = i.is ∙ same (variable_or i.raw) },
  )
    where
      same : ((x : ℕ) × In x i.raw) ⊎ ((x : ℕ) → In x i.raw → ⊥) → inst (from h.base.0) i.raw ≡ inst (from (h.base.0 % 65536)) i.raw
      same (inl (x, e)) =
          let l : h.base.0 + x < n = well_in X.rules.functions (λ y. y < n) (h.base.0 + x) t g (subst (In (h.base.0 + x)) (sym i.is) (in_from h.base.0 x i.raw e)) in
          ap (λ (b : ℕ). inst (from b) i.raw) (sym (mod-eq_of_lt (omega arith)))
      same (inr none) = inst_cong (from h.base.0) (from (h.base.0 % 65536)) i.raw (λ x e. absurd (none x e))
