-- The bytes determine the list: two lists of answers for the same rules with the same bytes are the same list.
-- Assumes nothing.
use Rattle.std.specs.Prelude.{ℕ, ◌+◌, ◌*◌, ◌/◌, ◌%◌, ◌≡◌, refl, List, [], ◌∷◌, ◌++◌, map, length}
use Rattle.std.proofs.Common.{ap, ap₂, sym, ◌∙◌, append_assoc, div-add-mod', arith}
use Rattle.std.proofs.Math.Option.{some}
use Rattle.std.proofs.Math.ListN.{get_elem?}
use Rattle.meaning.specs.Terms.{Term, var, app, Terms, []ₜ, ◌∷ₜ◌, count}
use Rattle.meaning.specs.Rules.{Rules}
use Rattle.meaning.specs.Kinds.{an_answer, the_answer_end}
use Rattle.meaning.specs.Answers.{Answer, Piece, piece, two, write, writes, write_each, write_step, pieces, bytes_of, bytes, output, appears}
use Rattle.demands.specs.Proofs.{Each, Well, Wells}

-- an answer for these rules: a term for each query variable, over the file's functions
pub record OfRules (R : Rules) (a : Answer) : Type 0 where
  pub size : count a.values ≡ R.variables
  pub terms : Wells R.functions (λ x. Unit {0}) a.values

-- the first bytes are the same
first_same : {k l : ℕ} {b c : List ℕ} → k ∷ b ≡ l ∷ c → k ≡ l
first_same e = cc

-- the bytes of a number, which stand behind a first byte, determine it and what stands behind them
number_determines : (m n : ℕ) {k l : ℕ} {b c : List ℕ} → k ∷ two m ++ b ≡ l ∷ two n ++ c → (m ≡ n) × (b ≡ c)
unfolding two
number_determines m n e =
    let high : m / 256 ≡ n / 256 = cc in
    let low : m % 256 ≡ n % 256 = cc in
    (sym (div-add-mod' m 256) ∙ ap₂ (λ (h l : ℕ). h * 256 + l) high low ∙ div-add-mod' n 256, cc)

-- terms and their records in written order, whatever is due at each
data Written : Terms → List Piece → Type 0 where
  none : Written []ₜ []
  one : {t : Term} {ts : Terms} {ps : List Piece} (m : ℕ) → Written ts ps → Written (t ∷ₜ ts) (write t m ++ ps)

writes_written : (ts : Terms) (m : ℕ) → Written ts (writes ts m)
unfolding write
writes_written []ₜ m = none
writes_written (t ∷ₜ ts) m = one (count ts + m) (writes_written ts m)

each_written : (ts : Terms) → Written ts (write_each ts)
unfolding write_each
each_written []ₜ = none
each_written (t ∷ₜ ts) = one 0 (each_written ts)

-- the bytes of a term over these functions determine it, and what stands behind them; those of terms, if their number is known
module _ (fs : List ℕ) where
  abbrev Over : Term → Type 0
  Over t = Well fs (λ x. Unit {0}) t

  abbrev Overs : Terms → Type 0
  Overs ts = Wells fs (λ x. Unit {0}) ts

  -- a function has one arity
  arity_same : (f g : ℕ) (ts us : Terms) → Over (app f ts) → Over (app g us) → f ≡ g → count ts ≡ count us
  arity_same f g ts us v w e =
      let p : get_elem? fs f ≡ some (count ts) = v.0 in
      let q : get_elem? fs g ≡ some (count us) = w.0 in
      cc

  mutual
    unfolding two write bytes_of count

    term_determines : (t u : Term) (m n : ℕ) (ps qs : List Piece) (b c : List ℕ) → Over t → Over u
        → bytes_of (write t m ++ ps) ++ b ≡ bytes_of (write u n ++ qs) ++ c → (t ≡ u) × (bytes_of ps ++ b ≡ bytes_of qs ++ c)
    term_determines (var x) (var y) m n ps qs b c v w e = let (p, q) = number_determines x y e in (ap var p, q)
    term_determines (var x) (app g us) m n ps qs b c v w e = absurd (omega (arith, first_same e))
    term_determines (app f ts) (var y) m n ps qs b c v w e = absurd (omega (arith, first_same e))
    term_determines (app f ts) (app g us) m n ps qs b c v w e =
        let (p, q) = number_determines f g e in
        let (r, z) = terms_determine ts us (writes_written ts m) (writes_written us n) ps qs b c (arity_same f g ts us v w p) v.1 w.1 q in
        (ap₂ app p r, z)

    terms_determine : (ts us : Terms) {xs ys : List Piece} → Written ts xs → Written us ys → (ps qs : List Piece) (b c : List ℕ)
        → count ts ≡ count us → Overs ts → Overs us
        → bytes_of (xs ++ ps) ++ b ≡ bytes_of (ys ++ qs) ++ c → (ts ≡ us) × (bytes_of ps ++ b ≡ bytes_of qs ++ c)
    terms_determine []ₜ []ₜ none none ps qs b c k v w e = (refl, e)
    terms_determine []ₜ (u ∷ₜ us) x y ps qs b c k v w e = absurd (omega arith)
    terms_determine (t ∷ₜ ts) []ₜ x y ps qs b c k v w e = absurd (omega arith)
    terms_determine (t ∷ₜ ts) (u ∷ₜ us) (one {ps = xs} m x) (one {ps = ys} n y) ps qs b c k v w e =
        let (p, q) = term_determines t u m n (xs ++ ps) (ys ++ qs) b c v.0 w.0 (simp append_assoc at e) in
        let (r, z) = terms_determine ts us x y ps qs b c (omega arith) v.1 w.1 q in
        (ap₂ ◌∷ₜ◌ p r, z)

-- so do those of steps
steps_determine : (ks ls : List ℕ) (ps qs : List Piece) (b c : List ℕ) → length ks ≡ length ls
    → bytes_of (map write_step ks ++ ps) ++ b ≡ bytes_of (map write_step ls ++ qs) ++ c → (ks ≡ ls) × (bytes_of ps ++ b ≡ bytes_of qs ++ c)
unfolding two write_step bytes_of
steps_determine [] [] ps qs b c h e = (refl, e)
steps_determine [] (l ∷ ls) ps qs b c h e = absurd (omega arith)
steps_determine (k ∷ ks) [] ps qs b c h e = absurd (omega arith)
steps_determine (k ∷ ks) (l ∷ ls) ps qs b c h e =
    let (p, q) = number_determines k l e in
    let (r, z) = steps_determine ks ls ps qs b c (omega arith) q in
    (ap₂ ◌∷◌ p r, z)

close : List Piece
close = piece (the_answer_end ∷ []) 0 ∷ []

-- the bytes of an answer, with b behind them
answer_bytes : (a : Answer) (b : List ℕ) → bytes a ++ b ≡
    an_answer ∷ two (length (appears [] a.values)) ++ (two (length a.steps) ++ (bytes_of (write_each a.values ++ (map write_step a.steps ++ close)) ++ b))
unfolding bytes pieces bytes_of two close
answer_bytes a b =
    let head : List ℕ → List ℕ = λ rest. an_answer ∷ two (length (appears [] a.values)) ++ (two (length a.steps) ++ rest) in
    ap (λ (ps : List Piece). head (bytes_of ps ++ b)) (append_assoc (write_each a.values) (map write_step a.steps) close)

-- the bytes of an answer determine it, and what stands behind them
answer_determines : (R : Rules) (x y : Answer) (b c : List ℕ) → OfRules R x → OfRules R y → bytes x ++ b ≡ bytes y ++ c → (x ≡ y) × (b ≡ c)
unfolding bytes_of close
answer_determines R x y b c v w e =
    let (free, p) = number_determines (length (appears [] x.values)) (length (appears [] y.values)) (sym (answer_bytes x b) ∙ e ∙ answer_bytes y c) in
    let (many, q) = number_determines (length x.steps) (length y.steps) (ap (0 ∷◌) p) in
    let size : count x.values ≡ count y.values = v.size ∙ sym w.size in
    let behind : Answer → List Piece = λ a. map write_step a.steps ++ close in
    let (vs, r) = terms_determine R.functions x.values y.values (each_written x.values) (each_written y.values) (behind x) (behind y) b c size v.terms w.terms q in
    let (ks, z) = steps_determine x.steps y.steps close close b c many r in
    (ap₂ (λ (ts : Terms) (ls : List ℕ). record { values = ts; steps = ls }) vs ks, cc)

pub bytes_determine : (R : Rules) (xs ys : List Answer) → Each (OfRules R) xs → Each (OfRules R) ys → output xs ≡ output ys → xs ≡ ys
unfolding output bytes pieces bytes_of
bytes_determine R [] [] v w e = refl
bytes_determine R [] (y ∷ ys) v w e = cc
bytes_determine R (x ∷ xs) [] v w e = cc
bytes_determine R (x ∷ xs) (y ∷ ys) v w e =
    let (p, q) = answer_determines R x y (output xs) (output ys) v.0 w.0 e in
    ap₂ ◌∷◌ p (bytes_determine R xs ys v.1 w.1 q)
