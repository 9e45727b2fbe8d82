-- The predicates are cleared one after another, and the clauses linked from the last to the first.
-- Assumes nothing.
use Rattle.std.proofs.Common.{ℕ, zero, suc, ◌+◌, ◌-◌, ◌*◌, ◌≤◌, ◌<◌, ◌≡◌, sym, ap, ◌∙◌, List, length, get_or, set, replicate, length-set, get_or-set_other, add-one, arith}
use Rattle.std.proofs.Math.Seq.{paste}
use Rattle.std.proofs.lemmas.List.{length-replicate}
use Rattle.std.proofs.lemmas.List.Edits.{paste_none, fill_from_more}
use Rattle.std.proofs.lemmas.Slice.{put_mid-paste}
use borrow.Rule.Slice.PartMut.{put_mid}
use Rattle.tables.specs.Laid.{clear, link, links}
use Rattle.tables.specs.Here.{CanLink}

-- ---- clearing
clear_pastes : (first n : ℕ) (w : List ℕ) → first + n ≤ length w → clear first n w ≡ paste w first (replicate n 0) n
unfolding clear
clear_pastes first zero w h = paste_none w first (replicate 0 0)
clear_pastes first (suc n) w h = ap (λ v. set v (first + n) 0) (clear_pastes first n w (omega arith)) ∙ rw add-one at (fill_from_more w first n 0 (omega arith))

pub filled : (first k n m : ℕ) (w ys : List ℕ) → first + n ≤ length w → k ≡ n → m ≡ n → ys ≡ replicate m 0 → put_mid first k w ys ≡ clear first n w
filled first k n m w ys h e f z =
    put_mid-paste first k w ys (replicate n 0) n (z ∙ rw f) (omega arith) (sym (length-replicate n 0)) ∙ sym (clear_pastes first n w h)

-- ---- linking
pub record Linking (first table n : ℕ) (w₀ : List ℕ) (k : ℕ) (w : List ℕ) : Type 0 where
  pub can : CanLink first table k w
  pub long : length w ≡ length w₀
  pub is : links first table k w ≡ links first table n w₀

links_more : (first table k : ℕ) (w : List ℕ) → 0 < k → links first table k w ≡ links first table (k - 1) (link first table (k - 1) w)
unfolding links
links_more first table zero w h = absurd (omega arith)
links_more first table (suc k) w h = let e : suc k - 1 ≡ k = omega arith in rw e

module _ (first table n : ℕ) (w₀ : List ℕ) (k : ℕ) (w : List ℕ) (L : Linking first table n w₀ k w) where
  -- the clauses below are as they were
  link_kept : (j : ℕ) → 0 < k → j < k - 1 → get_or (link first table (k - 1) w) (table + 2 * j + 1) 0 ≡ get_or w (table + 2 * j + 1) 0
  unfolding link
  link_kept j h l =
      let b = L.can.behind (k - 1) (omega arith) in
      let here : ℕ = table + 2 * (k - 1) + 1 in
      let x : ℕ = get_or w (first + get_or w here 0) 0 in
      let before : table + 2 * j + 1 ≡ first + get_or w here 0 → ⊥ = λ e. omega arith in
      let other : table + 2 * j + 1 ≡ here → ⊥ = λ e. omega arith in
      get_or-set_other (set w here x) (first + get_or w here 0) (table + 2 * j + 1) (k - 1 + 1) 0 before ∙ get_or-set_other w here (table + 2 * j + 1) x 0 other

  link_length : length (link first table (k - 1) w) ≡ length w
  unfolding link
  link_length = simp length-set

  pub link_again : (q : ℕ) → q ≡ get_or w (table + 2 * (k - 1) + 1) 0 → 0 < k
      → Linking first table n w₀ (k - 1) (set (set w (table + 2 * (k - 1) + 1) (get_or w (first + q) 0)) (first + q) (k - 1 + 1))
  unfolding link
  link_again q d h =
      let f = L.can.fits in
      let s = L.can.small in
      let v : List ℕ = link first table (k - 1) w in
      let e : length v ≡ length w = link_length in
      let next : Linking first table n w₀ (k - 1) v = record {
        can = record { small = omega arith; start = L.can.start; fits = omega arith; behind = λ j l. rw (link_kept j h l) (L.can.behind j (omega arith)) };
        long = e ∙ L.long;
        is = sym (links_more first table k w h) ∙ L.is;
      } in rw d next

  pub link_end : k ≤ 0 → w ≡ links first table n w₀
  unfolding links
  link_end h = let e : k ≡ 0 = omega arith in rw e at L.is
