-- The pairs of arguments in the work region.
-- Assumes nothing.
use Prim.Native.Nat.{ℕ, suc, ◌+◌, ◌*◌, ◌^◌, ◌≤◌, ◌<◌}
use Rattle.std.specs.Prelude.{◌≡◌, ◌≢◌, set}
use Rattle.std.proofs.Math.Path.{refl, ap, subst}
use Rattle.std.proofs.Common.{sym, ◌∙◌, inl, inr, length-set, get_or-set_other, get_or-set_same}
use mathlib.Core.List.{List, [], ◌∷◌, ◌++◌}
use native.Mathlib.Omega.{arith}
use Rattle.std.proofs.Math.Nat.{mod-eq_of_lt}
use Rattle.std.proofs.Math.ListN.{length, get_or}
use Rattle.meaning.specs.Terms.{Term, Terms, []ₜ, ◌∷ₜ◌, count, inst, insts, from}
use Rattle.meaning.specs.Moves.{Pair, pairs}
use Rattle.meaning.specs.Call.{needed}
use Rattle.layout.specs.Lengths.{term_length, terms_length}
use Rattle.layout.specs.Regions.{word, Keeps, after_at}
use Rattle.layout.specs.Tables.{AfterTerm}
use Rattle.words.specs.Words.{plus, put_four}
use Rattle.cells.specs.declared.Held.{Held}
use Rattle.cells.specs.Cells.{word_of_place, held_at, place_after}
use Rattle.matching.specs.Matching.{pushed}
use Rattle.simulation.specs.Places.{TermsAt, rest, IsHeld}
use Rattle.simulation.specs.PlaceLaws.{terms_end, terms_after}
use Rattle.simulation.specs.Rep.{Setting, lay, layout_of, Base, PairsAre}
use Rattle.simulation.specs.Ranges.{in_range_is, needed_small}
use Rattle.simulation.specs.Frames.{keeps_none, keeps_then, keeps_wider, set_keeps, SameTables}
use Rattle.simulation.specs.TableFrames.{base_same}
use Rattle.simulation.specs.Going.{ahead_small}

pub plus_small : (a b : ℕ) → a + b < 2 ^ 32 → plus a b ≡ a + b
unfolding plus
plus_small a b h = mod-eq_of_lt h

-- ---- four words in a row
module _ (w : List ℕ) (at a b c d : ℕ) (h : at + 3 < length w) (s : at < 2 ^ 40) where
  abbrev w₁ : List ℕ
  w₁ = set w at a

  abbrev w₂ : List ℕ
  w₂ = set w₁ (at + 1) b

  abbrev w₃ : List ℕ
  w₃ = set w₂ (at + 2) c

  four_is : put_four w at a b c d ≡ set w₃ (at + 3) d
  unfolding put_four
  four_is = rw (ahead_small at 1 (omega arith), ahead_small at 2 (omega arith), ahead_small at 3 (omega arith)) refl

  pub four_keeps : Keeps at (at + 4) w (put_four w at a b c d)
  four_keeps =
      subst (Keeps at (at + 4) w) (sym four_is)
      (keeps_then at (at + 4) w w₁ _ (set_keeps at (at + 4) at a w (omega arith) (omega arith))
      (keeps_then at (at + 4) w₁ w₂ _ (set_keeps at (at + 4) (at + 1) b w₁ (omega arith) (omega arith))
      (keeps_then at (at + 4) w₂ w₃ _ (set_keeps at (at + 4) (at + 2) c w₂ (omega arith) (omega arith))
      (set_keeps at (at + 4) (at + 3) d w₃ (omega arith) (omega arith)))))

  at_3 : (i : ℕ) → i ≢ at + 3 → word (put_four w at a b c d) i ≡ word w₃ i
  at_3 i n = ap (λ (v : List ℕ). word v i) four_is ∙ get_or-set_other w₃ (at + 3) i d 0 n

  at_2 : (i : ℕ) → i ≢ at + 3 → i ≢ at + 2 → word (put_four w at a b c d) i ≡ word w₂ i
  at_2 i n m = at_3 i n ∙ get_or-set_other w₂ (at + 2) i c 0 m

  pub four_0 : word (put_four w at a b c d) at ≡ a
  four_0 = at_2 at (λ e. omega arith) (λ e. omega arith) ∙ get_or-set_other w₁ (at + 1) at b 0 (λ e. omega arith) ∙ get_or-set_same w at a 0 (omega arith)

  pub four_1 : word (put_four w at a b c d) (at + 1) ≡ b
  four_1 = at_2 (at + 1) (λ e. omega arith) (λ e. omega arith) ∙ get_or-set_same w₁ (at + 1) b 0 (simp length-set (omega arith))

  pub four_2 : word (put_four w at a b c d) (at + 2) ≡ c
  four_2 = at_3 (at + 2) (λ e. omega arith) ∙ get_or-set_same w₂ (at + 2) c 0 (simp length-set (omega arith))

  pub four_3 : word (put_four w at a b c d) (at + 3) ≡ d
  four_3 = ap (λ (v : List ℕ). word v (at + 3)) four_is ∙ get_or-set_same w₃ (at + 3) d 0 (simp length-set (omega arith))

-- ---- pairs
pub held_is : (w : List ℕ) (at p a : ℕ) → at < 2 ^ 40 → word w at ≡ p → word w (at + 1) ≡ a → ◌≡◌ {A = Held} (held_at w at) (record { place = record { 0 = p }; base = record { 0 = a } })
unfolding held_at
held_is w at p a s e f = rw (ahead_small at 1 (omega arith)) (rw (e, f) refl)

module _ (X : Setting) where
  abbrev C : ℕ
  C = X.limits.cells

  abbrev W : ℕ
  W = X.limits.work

  held_same : (w v : List ℕ) (at : ℕ) → at < 2 ^ 40 → word v at ≡ word w at → word v (at + 1) ≡ word w (at + 1) → held_at v at ≡ held_at w at
  unfolding held_at
  held_same w v at s e f = rw (ahead_small at 1 (omega arith)) (rw (e, f) refl)

  -- pairs stay where their words do
  pub pairs_same : (w v : List ℕ) (k : ℕ) (ps : List Pair) → (lay X).work + 4 * k < 2 ^ 40 → ((i : ℕ) → (lay X).work ≤ i → i < (lay X).work + 4 * k → word v i ≡ word w i) → PairsAre X w k ps → PairsAre X v k ps
  pairs_same w v k [] s e q = q
  pairs_same w v k (p ∷ ps) s e (j, z, g, h, r) = (
    j,
    z,
    subst (λ (x : Held). IsHeld X.rules x p.goal_side) (sym (held_same w v ((lay X).work + 4 * j) (omega arith) (e _ (omega arith) (omega arith)) (e _ (omega arith) (omega arith)))) g,
    subst (λ (x : Held). IsHeld X.rules x p.head_side) (sym (held_same w v ((lay X).work + 4 * j + 2) (omega arith) (e _ (omega arith) (omega arith)) (e _ (omega arith) (omega arith)))) h,
    pairs_same w v j ps (omega arith) (λ i a b. e i a (omega arith)) r,
  )

  -- ---- the pairs of arguments go in front
  pub after_term_word : (w : List ℕ) (p : ℕ) (t : Term) → AfterTerm w p t → word w (after_at p) ≡ p + term_length t
  unfolding term_length
  after_term_word w p (Term.var x) a = a
  after_term_word w p (Term.app f ts) a = a.0

  pub place_word : (p : ℕ) → p ≤ 60000 → word_of_place (record { 0 = p }) ≡ p
  unfolding word_of_place
  place_word p h = mod-eq_of_lt (omega arith)

  pub work_tables : (w v : List ℕ) (lo hi : ℕ) → (lay X).work ≤ lo → Keeps lo hi w v → SameTables X w v
  unfolding layout_of
  work_tables w v lo hi h k i a b = k.same i (inl (omega arith))

  -- the work region has room for W pairs
  pub work_room : (w : List ℕ) → Base X w → (lay X).work + 4 * W ≤ length w
  unfolding layout_of needed
  work_room w b = let l = b.long in omega arith

  pub words_small : (lay X).work + 4 * W < 2 ^ 32
  unfolding layout_of needed
  words_small = let k = needed_small X in omega arith

  -- one pair is written in front of the pairs below it
  module _ (w : List ℕ) (b : Base X w) (k p a q c : ℕ) (l : k < W) (hp : p ≤ 60000) (hq : q ≤ 60000) where
    abbrev at : ℕ
    at = (lay X).work + 4 * k

    abbrev after_pair : List ℕ
    after_pair = put_four w at (word_of_place (record { 0 = p })) a (word_of_place (record { 0 = q })) c

    pair_inside : at + 3 < length w
    pair_inside = let e = work_room w b in omega arith

    pair_low : at < 2 ^ 40
    pair_low = let e = words_small in let i = pair_inside in omega arith

    pub pair_keeps : Keeps at (at + 4) w after_pair
    pair_keeps = four_keeps w at _ a _ c pair_inside pair_low

    pub pair_goal : ◌≡◌ {A = Held} (held_at after_pair at) (record { place = record { 0 = p }; base = record { 0 = a } })
    pair_goal = held_is after_pair at p a pair_low (four_0 w at _ a _ c pair_inside pair_low ∙ place_word p hp) (four_1 w at _ a _ c pair_inside pair_low)

    pub pair_head : ◌≡◌ {A = Held} (held_at after_pair (at + 2)) (record { place = record { 0 = q }; base = record { 0 = c } })
    pair_head =
        let i = pair_low in
        held_is after_pair (at + 2) q c (let s = words_small in let j = pair_inside in omega arith) (four_2 w at _ a _ c pair_inside pair_low ∙ place_word q hq)
        (ap (λ (n : ℕ). word after_pair n) (omega arith) ∙ four_3 w at _ a _ c pair_inside pair_low)

  -- what pushing the pairs of the arguments ts and us leaves
  pub record Pushed (w : List ℕ) (work n : ℕ) (ps qs : List Pair) (v : List ℕ) : Type 0 where
    pub pairs : PairsAre X v (work + n) (qs ++ ps)
    pub keeps : Keeps ((lay X).work + 4 * work) ((lay X).work + 4 * (work + n)) w v

  -- the place after the front argument
  next_place : (v : List ℕ) (p : ℕ) (t : Term) (ts : Terms) → Base X v → TermsAt X.rules p (t ∷ₜ ts) → (place_after v (record { 0 = p })).0 ≡ p + term_length t
  unfolding place_after terms_length
  next_place v p t ts b s =
      let e : p + (term_length t + terms_length ts) ≤ length X.file = terms_end X s in
      let f = X.short in
      ap (λ (i : ℕ). get_or v i 0) (ahead_small 64 p (omega arith)) ∙ after_term_word v p t (terms_after X v b.tabled s).0

  pub place_few : (p : ℕ) (t : Term) (ts : Terms) → TermsAt X.rules p (t ∷ₜ ts) → p ≤ 60000
  unfolding terms_length
  place_few p t ts s = let e : p + (term_length t + terms_length ts) ≤ length X.file = terms_end X s in let f = X.short in omega arith

  -- the front pair is written at the index k
  abbrev pushed_at : ℕ → ℕ → ℕ → Held → Held → List ℕ → List ℕ
  pushed_at n work k g h w =
      let v : List ℕ = put_four w ((lay X).work + 4 * k) (word_of_place g.place) g.base.0 (word_of_place h.place) h.base.0 in
      pushed n work (lay X) (record { place = place_after v g.place; base = g.base }) (record { place = place_after v h.place; base = h.base }) v

  pushed_suc : (n work k : ℕ) (g h : Held) (w : List ℕ) → plus work n ≡ k → pushed (suc n) work (lay X) g h w ≡ pushed_at n work k g h w
  unfolding pushed
  pushed_suc n work k g h w e = ap (λ (j : ℕ). pushed_at n work j g h w) e

  -- the front pair, and those below it
  pushed_one : (x u : Term) (w v v' : List ℕ) (work n p a q c : ℕ) (ps qs : List Pair) (ts us : Terms) → TermsAt X.rules p (x ∷ₜ ts) → TermsAt X.rules q (u ∷ₜ us) → work + suc n ≤ W → (lay X).work + 4 * (work + n) + 4 < 2 ^ 40
      → Keeps ((lay X).work + 4 * (work + n)) ((lay X).work + 4 * (work + n) + 4) w v
      → ◌≡◌ {A = Held} (held_at v ((lay X).work + 4 * (work + n))) (record { place = record { 0 = p }; base = record { 0 = a } })
      → ◌≡◌ {A = Held} (held_at v ((lay X).work + 4 * (work + n) + 2)) (record { place = record { 0 = q }; base = record { 0 = c } })
      → Pushed v work n ps qs v' → Pushed w work (suc n) ps (record { goal_side = inst (from a) x; head_side = inst (from c) u } ∷ qs) v'
  pushed_one x u w v v' work n p a q c ps qs ts us s t l small k e f r =
      let same : (i : ℕ) → (lay X).work + 4 * (work + n) ≤ i → word v' i ≡ word v i = λ i h. r.keeps.same i (inr h) in
      record {
        pairs = (
          work + n,
          omega arith,
          subst (λ (y : Held). IsHeld X.rules y (inst (from a) x)) (sym (held_same v v' ((lay X).work + 4 * (work + n)) (omega arith) (same _ (omega arith)) (same _ (omega arith)) ∙ e)) (record { raw = x; behind = ts; stands = s; is = refl }),
          subst (λ (y : Held). IsHeld X.rules y (inst (from c) u)) (sym (held_same v v' ((lay X).work + 4 * (work + n) + 2) (omega arith) (same _ (omega arith)) (same _ (omega arith)) ∙ f)) (record { raw = u; behind = us; stands = t; is = refl }),
          r.pairs,
        );
        keeps = keeps_then _ _ w v v' (keeps_wider _ _ _ _ w v (omega arith) (omega arith) k) (keeps_wider _ _ _ _ v v' (omega arith) (omega arith) r.keeps);
      }

  pub pushed_pairs : (ts us : Terms) (w : List ℕ) (work : ℕ) (g h : Held) (ps : List Pair) → Base X w → TermsAt X.rules g.place.0 ts → TermsAt X.rules h.place.0 us → count ts ≡ count us → work + count ts ≤ W → PairsAre X w work ps
      → Pushed w work (count ts) ps (pairs (insts (from g.base.0) ts) (insts (from h.base.0) us)) (pushed (count ts) work (lay X) g h w)
  unfolding pushed count pairs insts
  pushed_pairs []ₜ []ₜ w work g h ps b s t e l q = record { pairs = let z : work + 0 ≡ work = omega arith in rw z q; keeps = keeps_none _ _ w }
  pushed_pairs []ₜ (u ∷ₜ us) w work g h ps b s t e l q = absurd (omega arith)
  pushed_pairs (x ∷ₜ ts) []ₜ w work g h ps b s t e l q = absurd (omega arith)
  pushed_pairs (x ∷ₜ ts) (u ∷ₜ us) w work g h ps b s t e l q =
      let n : ℕ = count ts in
      let z : plus work n ≡ work + n = plus_small work n (let r = in_range_is X.limits X.in_limits in let m = r.few_work in omega arith) in
      let hp = place_few g.place.0 x ts s in
      let hq = place_few h.place.0 u us t in
      let v : List ℕ = after_pair w b (work + n) g.place.0 g.base.0 h.place.0 h.base.0 (omega arith) hp hq in
      let k = pair_keeps w b (work + n) g.place.0 g.base.0 h.place.0 h.base.0 (omega arith) hp hq in
      let b' : Base X v = base_same X w v (work_tables w v _ _ (omega arith) k) k.same_length b in
      let gp = next_place v g.place.0 x ts b' s in
      let hp' = next_place v h.place.0 u us b' t in
      let r = pushed_pairs ts us v work (record { place = place_after v g.place; base = g.base }) (record { place = place_after v h.place; base = h.base }) ps b'
      (rw gp (rest s)) (rw hp' (rest t)) (omega arith) (omega arith)
      (pairs_same w v work ps (let a = words_small in let c = work_room w b in omega arith) (λ i a c. k.same i (inl (omega arith))) q) in
      subst (Pushed w work (suc n) ps (pairs (insts (from g.base.0) (x ∷ₜ ts)) (insts (from h.base.0) (u ∷ₜ us)))) (sym (pushed_suc n work (work + n) g h w z)) (pushed_one x u w v _ work n g.place.0 g.base.0 h.place.0 h.base.0 ps _ ts us s t (omega arith) (let a = words_small in let c = work_room w b in omega arith) k
      (pair_goal w b (work + n) g.place.0 g.base.0 h.place.0 h.base.0 (omega arith) hp hq) (pair_head w b (work + n) g.place.0 g.base.0 h.place.0 h.base.0 (omega arith) hp hq) r)
