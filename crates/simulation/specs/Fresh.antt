-- The record of a step, and fresh cells.
-- Assumes nothing.
use Prim.Native.Nat.{ℕ, zero, suc, ◌+◌, ◌*◌, ◌^◌, ◌≤◌, ◌<◌}
use Rattle.std.specs.Prelude.{◌≡◌, ◌≢◌, Bool, true, false, List, eqb, length, set}
use Rattle.std.proofs.Math.Path.{refl, subst}
use Rattle.std.proofs.Common.{ap, sym, ◌∙◌, inl, get_or-set_other, get_or-set_same, eqb-true}
use native.Mathlib.Omega.{arith}
use Rattle.std.proofs.Math.ListN.{length-set}
use Rattle.std.proofs.lemmas.Bool.{eqb-false}
use Rattle.meaning.specs.Call.{needed}
use Rattle.layout.specs.Regions.{word, Keeps}
use Rattle.words.specs.Words.{plus, put_four}
use Rattle.cells.specs.Cells.{freed, word_of_place}
use Rattle.search.specs.Search.{step_word, step_put}
use Rattle.search.specs.declared.Regs.{Regs}
use Rattle.search.specs.declared.Trial.{Trial}
use Rattle.simulation.specs.Rep.{Setting, lay, layout_of, Base}
use Rattle.simulation.specs.Ranges.{in_range_is}
use Rattle.simulation.specs.Frames.{keeps_then, keeps_wider}
use Rattle.simulation.specs.Pushing.{plus_small, words_small, four_keeps, four_0, four_1, four_2, four_3, place_word}

module _ (X : Setting) where
  abbrev C : ℕ
  C = X.limits.cells

  -- ---- fresh cells
  pub record Cleared (w : List ℕ) (start n : ℕ) (v : List ℕ) : Type 0 where
    pub as_long : length v ≡ length w
    pub cells : (x : ℕ) → start ≤ x → x < start + n → word v ((lay X).cells + x) ≡ 0
    pub marks : (x : ℕ) → start ≤ x → x < start + n → word v ((lay X).marks + x) ≡ 0
    pub same : (i : ℕ) → ((x : ℕ) → start ≤ x → x < start + n → (i ≢ (lay X).cells + x) × (i ≢ (lay X).marks + x)) → word v i ≡ word w i

  marks_room : (w : List ℕ) → Base X w → (lay X).marks + C ≤ length w
  unfolding layout_of needed
  marks_room w b = let l = b.long in omega arith

  apart : (x y : ℕ) → x < C → (lay X).cells + x ≢ (lay X).marks + y
  unfolding layout_of
  apart x y h e = omega arith

  -- one cell more
  module _ (w : List ℕ) (start n : ℕ) (h : start + suc n ≤ C) (l : (lay X).marks + C ≤ length w) where
    abbrev once : List ℕ
    once = set w ((lay X).cells + (start + n)) 0

    abbrev twice : List ℕ
    twice = set once ((lay X).marks + (start + n)) 0

    cells_inside : (lay X).cells + (start + n) < length w
    unfolding layout_of
    cells_inside = omega arith

    cleared_more : (v : List ℕ) → Cleared twice start n v → Cleared w start (suc n) v
    cleared_more v r = record {
      as_long = r.as_long ∙ simp length-set refl;
      cells = λ x a b. cell x a b (eqb x (start + n)) refl;
      marks = λ x a b. mark x a b (eqb x (start + n)) refl;
      same = λ i f. r.same i (λ x a b. f x a (omega arith)) ∙ get_or-set_other once ((lay X).marks + (start + n)) i 0 0 (f (start + n) (omega arith) (omega arith)).1 ∙ get_or-set_other w ((lay X).cells + (start + n)) i 0 0 (f (start + n) (omega arith) (omega arith)).0;
    }
      where
        cell : (x : ℕ) → start ≤ x → x < start + suc n → (b : Bool) → eqb x (start + n) ≡ b → word v ((lay X).cells + x) ≡ 0
        cell x a b true e =
            let z = eqb-true x (start + n) e in
            rw z (r.same ((lay X).cells + (start + n)) (λ y c d. ((λ q. omega arith), apart (start + n) y (omega arith))) ∙ get_or-set_other once ((lay X).marks + (start + n)) ((lay X).cells + (start + n)) 0 0 (apart (start + n) (start + n) (omega arith)) ∙ get_or-set_same w ((lay X).cells + (start + n)) 0 0 cells_inside)
        cell x a b false e = let m = eqb-false x (start + n) e in r.cells x a (omega arith)

        mark : (x : ℕ) → start ≤ x → x < start + suc n → (b : Bool) → eqb x (start + n) ≡ b → word v ((lay X).marks + x) ≡ 0
        mark x a b true e =
            let z = eqb-true x (start + n) e in
            rw z (r.same ((lay X).marks + (start + n)) (λ y c d. ((λ q. apart y (start + n) (omega arith) (sym q)), λ q. omega arith)) ∙ get_or-set_same once ((lay X).marks + (start + n)) 0 0 (simp length-set (omega arith)))
        mark x a b false e = let m = eqb-false x (start + n) e in r.marks x a (omega arith)

  pub freed_clears : (n start : ℕ) (w : List ℕ) → start + n ≤ C → (lay X).marks + C ≤ length w → Cleared w start n (freed n start (lay X) w)
  unfolding freed
  freed_clears zero start w h l = record { as_long = refl; cells = λ x a b. absurd (omega arith); marks = λ x a b. absurd (omega arith); same = λ i f. refl }
  freed_clears (suc n) start w h l =
      let r = in_range_is X.limits X.in_limits in
      let c = r.few_cells in
      let z : plus start n ≡ start + n = plus_small start n (omega arith) in
      subst (λ (k : ℕ). Cleared w start (suc n) (freed n start (lay X) (set (set w ((lay X).cells + k) 0) ((lay X).marks + k) 0))) (sym z)
      (cleared_more w start n h l _ (freed_clears n start (twice w start n h l) (omega arith) (simp length-set l)))

  -- ---- the record of a step
  module _ (w : List ℕ) (b : Base X w) (t : Trial) (m : Regs) (l : m.steps < X.limits.steps) (hg : t.goal.0 ≤ 60000) (hn : t.next.place.0 ≤ 60000) where
    abbrev at : ℕ
    at = (lay X).steps + 8 * m.steps

    abbrev half : List ℕ
    half = put_four w at t.clause.0 (word_of_place t.goal) t.caller.0 (word_of_place t.next.place)

    step_inside : at + 7 < length w
    unfolding layout_of needed
    step_inside = let e = b.long in omega arith

    low : at + 4 < 2 ^ 40
    unfolding layout_of
    low = let e = words_small X in let i = step_inside in omega arith

    half_keeps : Keeps at (at + 4) w half
    half_keeps = four_keeps w at _ _ _ _ (let i = step_inside in omega arith) (let i = low in omega arith)

    half_inside : at + 4 + 3 < length half
    half_inside = let e = half_keeps.same_length in let i = step_inside in omega arith

    pub put_is : step_put (lay X) t m w ≡ put_four half (at + 4) t.next.step m.cells m.trail m.choice
    unfolding step_put
    put_is = refl

    rest_keeps : Keeps (at + 4) (at + 4 + 4) half (step_put (lay X) t m w)
    rest_keeps = rw put_is (four_keeps half (at + 4) _ _ _ _ half_inside low)

    pub step_keeps : Keeps at (at + 8) w (step_put (lay X) t m w)
    step_keeps = keeps_then at (at + 8) w half _ (keeps_wider at (at + 4) at (at + 8) w half (omega arith) (omega arith) half_keeps) (keeps_wider (at + 4) (at + 4 + 4) at (at + 8) half _ (omega arith) (omega arith) rest_keeps)

    first_half : (j v : ℕ) → j < 4 → word half (at + j) ≡ v → word (step_put (lay X) t m w) (at + j) ≡ v
    first_half j v h e = rest_keeps.same (at + j) (inl (omega arith)) ∙ e

    pub wrote_0 : step_word (step_put (lay X) t m w) (lay X) (suc m.steps) 0 ≡ t.clause.0
    unfolding step_word
    wrote_0 = first_half 0 t.clause.0 (omega arith) (ap (λ (i : ℕ). word half i) (omega arith) ∙ four_0 w at _ _ _ _ (let i = step_inside in omega arith) (let i = low in omega arith))

    pub wrote_1 : step_word (step_put (lay X) t m w) (lay X) (suc m.steps) 1 ≡ t.goal.0
    unfolding step_word
    wrote_1 = first_half 1 t.goal.0 (omega arith) (four_1 w at _ _ _ _ (let i = step_inside in omega arith) (let i = low in omega arith) ∙ place_word X t.goal.0 hg)

    pub wrote_2 : step_word (step_put (lay X) t m w) (lay X) (suc m.steps) 2 ≡ t.caller.0
    unfolding step_word
    wrote_2 = first_half 2 t.caller.0 (omega arith) (four_2 w at _ _ _ _ (let i = step_inside in omega arith) (let i = low in omega arith))

    pub wrote_3 : step_word (step_put (lay X) t m w) (lay X) (suc m.steps) 3 ≡ t.next.place.0
    unfolding step_word
    wrote_3 = first_half 3 t.next.place.0 (omega arith) (four_3 w at _ _ _ _ (let i = step_inside in omega arith) (let i = low in omega arith) ∙ place_word X t.next.place.0 hn)

    second_half : (j v : ℕ) → word (put_four half (at + 4) t.next.step m.cells m.trail m.choice) (at + 4 + j) ≡ v → word (step_put (lay X) t m w) (at + (4 + j)) ≡ v
    second_half j v e = rw put_is (ap (λ (i : ℕ). word (put_four half (at + 4) t.next.step m.cells m.trail m.choice) i) (omega arith) ∙ e)

    pub wrote_4 : step_word (step_put (lay X) t m w) (lay X) (suc m.steps) 4 ≡ t.next.step
    unfolding step_word
    wrote_4 = second_half 0 t.next.step (ap (λ (i : ℕ). word (put_four half (at + 4) t.next.step m.cells m.trail m.choice) i) (omega arith) ∙ four_0 half (at + 4) _ _ _ _ half_inside low)

    pub wrote_5 : step_word (step_put (lay X) t m w) (lay X) (suc m.steps) 5 ≡ m.cells
    unfolding step_word
    wrote_5 = second_half 1 m.cells (four_1 half (at + 4) _ _ _ _ half_inside low)

    pub wrote_6 : step_word (step_put (lay X) t m w) (lay X) (suc m.steps) 6 ≡ m.trail
    unfolding step_word
    wrote_6 = second_half 2 m.trail (four_2 half (at + 4) _ _ _ _ half_inside low)

    pub wrote_7 : step_word (step_put (lay X) t m w) (lay X) (suc m.steps) 7 ≡ m.choice
    unfolding step_word
    wrote_7 = second_half 3 m.choice (four_3 half (at + 4) _ _ _ _ half_inside low)
