-- The nodes of a value that are due, in the words of work: two words for each, the last one foremost.
-- Assumes nothing.
use Prim.Native.Nat.{ℕ, zero, suc, ◌+◌, ◌*◌, ◌%◌, ◌^◌, ◌≤◌, ◌<◌}
use Rattle.std.specs.Prelude.{◌≡◌}
use Rattle.std.proofs.Math.Path.{refl, ap, subst}
use Rattle.std.proofs.Common.{sym, ◌∙◌, inl, inr, get_or-set_other}
use mathlib.Core.List.{List}
use native.Mathlib.Omega.{arith}
use Rattle.std.proofs.Math.ListN.{length, set, length-set}
use Rattle.std.proofs.Math.Seq.{get_or-set_same}
use Rattle.meaning.specs.Terms.{var, app, Terms, []ₜ, ◌∷ₜ◌, count, inst, insts, from}
use Rattle.meaning.specs.Call.{needed}
use Rattle.demands.specs.TermLaws.{count_insts}
use Rattle.layout.specs.Lengths.{term_length, terms_length}
use Rattle.layout.specs.Regions.{word, Keeps}
use Rattle.words.specs.Words.{ahead}
use Rattle.cells.specs.declared.Held.{Held}
use Rattle.answers.specs.Values.{due_at, due_put, arguments_put}
use Rattle.simulation.specs.Places.{TermsAt, rest, IsHeld}
use Rattle.simulation.specs.Rep.{Setting, lay, layout_of, Base}
use Rattle.simulation.specs.Frames.{keeps_none, keeps_then, keeps_wider, set_keeps}
use Rattle.simulation.specs.PlaceLaws.{terms_end, terms_after}
use Rattle.simulation.specs.Asides.{aside_work, base_aside}
use Rattle.simulation.specs.Pieces.{joined, joined_count}
use Rattle.simulation.specs.Ranges.{in_range_is}
use Rattle.simulation.specs.Going.{ahead_small}
use Rattle.simulation.specs.Pushing.{plus_small, after_term_word}

-- there are no more terms than bytes
pub count_short : (ts : Terms) → count ts ≤ terms_length ts
unfolding count term_length
count_short []ₜ = omega arith
count_short (var x ∷ₜ ts) = let h = count_short ts in omega arith
count_short (app f us ∷ₜ ts) = let h = count_short ts in omega arith

module _ (X : Setting) where
  -- these terms are due, the first of them foremost
  abbrev pub DueAre : List ℕ → Terms → Type 0
  DueAre v []ₜ = Unit {0}
  DueAre v (t ∷ₜ ts) = IsHeld X.rules (due_at v (lay X) (count ts)) t × DueAre v ts

  due_words : (w v : List ℕ) (i : ℕ) → word v ((lay X).work + 2 * i) ≡ word w ((lay X).work + 2 * i) → word v ((lay X).work + 2 * i + 1) ≡ word w ((lay X).work + 2 * i + 1) → due_at v (lay X) i ≡ due_at w (lay X) i
  unfolding due_at
  due_words w v i a b = rw (a, b)

  pub due_same : (w v : List ℕ) (ts : Terms) → ((i : ℕ) → (lay X).work ≤ i → i < (lay X).work + 2 * count ts → word v i ≡ word w i) → DueAre w ts → DueAre v ts
  unfolding count
  due_same w v []ₜ e d = tt
  due_same w v (t ∷ₜ ts) e d =
      (subst (λ (h : Held). IsHeld X.rules h t) (sym (due_words w v (count ts) (e _ (omega arith) (omega arith)) (e _ (omega arith) (omega arith)))) d.0, due_same w v ts (λ i l h. e i l (omega arith)) d.1)

  due_keeps : (i p b : ℕ) (w : List ℕ) → Keeps ((lay X).work + 2 * i) ((lay X).work + 2 * i + 2) w (due_put (lay X) i p b w)
  unfolding due_put
  due_keeps i p b w = keeps_then _ _ w _ _ (set_keeps _ _ ((lay X).work + 2 * i) _ w (omega arith) (omega arith)) (set_keeps _ _ ((lay X).work + 2 * i + 1) b _ (omega arith) (omega arith))

  due_there : (i p b : ℕ) (w : List ℕ) → p < 2 ^ 32 → (lay X).work + 2 * i + 1 < length w → due_at (due_put (lay X) i p b w) (lay X) i ≡ record { place = record { 0 = p }; base = record { 0 = b } }
  unfolding due_at due_put
  due_there i p b w h l =
      let q : p % 4294967296 ≡ p = omega arith in
      let v : List ℕ = set w ((lay X).work + 2 * i) (p % 4294967296) in
      let m : length v ≡ length w = length-set w ((lay X).work + 2 * i) (p % 4294967296) in
      rw (get_or-set_other v ((lay X).work + 2 * i + 1) ((lay X).work + 2 * i) b 0 (λ e. omega arith), get_or-set_same v ((lay X).work + 2 * i + 1) b 0 (omega arith), get_or-set_same w ((lay X).work + 2 * i) (p % 4294967296) 0 (omega arith), q)

  arguments_more : (n due b p q : ℕ) (w : List ℕ) → due + n < 2 ^ 32 → word (due_put (lay X) (due + n) p b w) (ahead 64 p) ≡ q → arguments_put (suc n) due b p (lay X) w ≡ arguments_put n due b q (lay X) (due_put (lay X) (due + n) p b w)
  unfolding arguments_put
  arguments_more n due b p q w h e = rw (plus_small due n h, e)

  -- the words of arguments that come to be due
  pub arguments_keep : (n due b p : ℕ) (w : List ℕ) → due + n < 2 ^ 32 → Keeps ((lay X).work + 2 * due) ((lay X).work + 2 * (due + n)) w (arguments_put n due b p (lay X) w)
  unfolding arguments_put
  arguments_keep zero due b p w h = keeps_none _ _ w
  arguments_keep (suc n) due b p w h =
      rw (plus_small due n (omega arith)) (keeps_then _ _ w _ _
      (keeps_wider _ _ _ _ w _ (omega arith) (omega arith) (due_keeps (due + n) p b w))
      (keeps_wider _ _ _ _ _ _ (omega arith) (omega arith) (arguments_keep n due b _ _ (omega arith))))

  pub arguments_due : (us ts : Terms) (b p : ℕ) (w : List ℕ) → Base X w → TermsAt X.rules p us → count us + count ts ≤ X.limits.work → DueAre w ts
      → DueAre (arguments_put (count us) (count ts) b p (lay X) w) (joined (insts (from b) us) ts)
  unfolding arguments_put joined insts count needed layout_of
  arguments_due []ₜ ts b p w base a h d = d
  arguments_due (u ∷ₜ us) ts b p w base a h d =
      let lim = (in_range_is X.limits X.in_limits).few_work in
      let i : ℕ = count ts + count us in
      let v : List ℕ = due_put (lay X) i p b w in
      let short : p + terms_length (u ∷ₜ us) ≤ length X.file = terms_end X a in
      let file : length X.file ≤ 60_000 = X.short in
      let long : needed (length X.file) X.limits ≤ length w = base.long in
      let base' : Base X v = base_aside X (aside_work X ((lay X).work + 2 * i + 2) (keeps_wider _ _ (lay X).work _ w v (omega arith) (omega arith) (due_keeps i p b w))) base in
      let next : word v (ahead 64 p) ≡ p + term_length u = ap (word v) (ahead_small 64 p (omega arith)) ∙ after_term_word X v p u (terms_after X v base'.tabled a).0 in
      let u₁ : List ℕ = arguments_put (count us) (count ts) b (p + term_length u) (lay X) v in
      let k : Keeps ((lay X).work + 2 * count ts) ((lay X).work + 2 * i) v u₁ = arguments_keep (count us) (count ts) b (p + term_length u) v (omega arith) in
      let c : count (joined (insts (from b) us) ts) ≡ i = joined_count (insts (from b) us) ts ∙ (let z = count_insts (from b) us in omega arith) in
      let here : due_at u₁ (lay X) i ≡ record { place = record { 0 = p }; base = record { 0 = b } } = due_words v u₁ i (k.same _ (inr (omega arith))) (k.same _ (inr (omega arith))) ∙ due_there i p b w (omega arith) (omega arith) in
      subst (λ (l : List ℕ). DueAre l (joined (insts (from b) (u ∷ₜ us)) ts)) (sym (arguments_more (count us) (count ts) b p (p + term_length u) w (omega arith) next)) (
        subst (λ (h : Held). IsHeld X.rules h (inst (from b) u)) (sym (ap (due_at u₁ (lay X)) c ∙ here)) (record { raw = u; behind = us; stands = a; is = refl }),
        arguments_due us ts b (p + term_length u) v base' (rest a) (omega arith) (due_same w v ts (λ j l m. (due_keeps i p b w).same j (inl (omega arith))) d),
      )
