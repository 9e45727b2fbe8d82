-- The code's table is the definition's, and each of its lengths is small.
-- Assumes nothing.
use Prim.Native.Nat.{ℕ, zero, suc, ◌+◌, ◌≤◌}
use mathlib.Core.Path.{◌≡◌, refl, sym, ap, ap₂, ◌∙◌}
use mathlib.Core.Bool.{Bool, true, false, ◌&&◌}
use mathlib.Core.List.{List, [], ◌∷◌}
use native.Mathlib.Omega.{arith}
use lib.Dec.{leb}
use lib.ListN.{length, get_or}
use borrow.Author.Tests.{leb-true}
use denote.Enum.Declared.{tag_of}
use Rattle.meaning.specs.Kinds.{body_length, body_lengths}
use Rattle.records.specs.Numbers.{number}
use Rattle.records.specs.contracts.Kind.{the_type}
use Rattle.records.specs.declared.Kind.{Kind}
use Rattle.records.specs.declared.Kind.TheVariants.{Function, Predicate, Clause, Variable, Application, Goal, Cut, Query, End, Answer, AnswerVariable, Step, AnswerEnd}

-- a kind as a number is document 01's
pub kind_tag : (k : Kind) → tag_of the_type k + 1 ≡ number k
kind_tag Function = refl
kind_tag Predicate = refl
kind_tag Clause = refl
kind_tag Variable = refl
kind_tag Application = refl
kind_tag Goal = refl
kind_tag Cut = refl
kind_tag Query = refl
kind_tag End = refl
kind_tag Answer = refl
kind_tag AnswerVariable = refl
kind_tag Step = refl
kind_tag AnswerEnd = refl

all_small : List ℕ → Bool
all_small [] = true
all_small (n ∷ l) = leb n 4 && all_small l

and_left : (a b : Bool) → (a && b) ≡ true → a ≡ true
and_left true b e = refl
and_left false b e = e

and_right : (a b : Bool) → (a && b) ≡ true → b ≡ true
and_right true b e = e
and_right false b e = cc

small_at : (l : List ℕ) (k : ℕ) → all_small l ≡ true → get_or l k 0 ≤ 4
unfolding all_small
small_at [] k e = omega arith
small_at (n ∷ l) zero e = leb-true n 4 (and_left _ _ e)
small_at (n ∷ l) (suc k) e = small_at l k (and_right (leb n 4) _ e)

small : (kind : ℕ) → body_length kind ≤ 4
unfolding all_small body_length body_lengths
small kind = small_at body_lengths kind refl

past : (l : List ℕ) (k : ℕ) → length l ≤ k → get_or l k 0 ≡ 0
past [] k h = refl
past (n ∷ l) zero h = absurd (omega arith)
past (n ∷ l) (suc k) h = past l k (omega arith)

-- what stands in the code's table at a kind; past its end
module _ (kind k : ℕ) (e : k ≡ kind) where
  pub within : (table : List ℕ) → table ≡ body_lengths → (r : ℕ) → r ≡ get_or table k 0 → (r ≡ body_length kind) × (r ≤ 4)
  unfolding body_length
  within table same r q =
      let b : r ≡ body_length kind = q ∙ ap₂ (λ (l : List ℕ) (i : ℕ). get_or l i 0) same e in
      (b, rw b (small kind))

  pub beyond : length body_lengths ≤ k → (0 ≡ body_length kind) × (0 ≤ 4)
  unfolding body_length
  beyond h = (sym (past body_lengths k h) ∙ ap (λ (i : ℕ). get_or body_lengths i 0) e, omega arith)
