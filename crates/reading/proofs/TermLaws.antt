-- Arities by number, variables and terms.
-- Assumes nothing.
use Prim.Native.Nat.{ℕ, zero, suc, ◌+◌, ◌-◌, ◌*◌, ◌<◌}
use mathlib.Core.Path.{◌≡◌, refl, sym, ◌∙◌}
use mathlib.Core.Bool.{Bool, true, false}
use mathlib.Core.List.{List, [], ◌∷◌, ◌++◌}
use native.Mathlib.Numerals.{add-one}
use native.Mathlib.Omega.{arith}
use lib.Dec.{ltb, eqb}
use lib.ListN.{length, get_or, length-append}
use Rattle.std.specs.Prelude.{Some, None, Ok, Err}
use Rattle.meaning.specs.If.{when◌then◌else◌}
use Rattle.meaning.specs.Terms.{Term, app}
use Rattle.meaning.specs.Kinds.{a_variable, an_application, body_length, body_lengths}
use Rattle.meaning.specs.Reading.{Reader, after, ◌>>=◌, ◌>>◌, give, refuse, need, terms, term_due}
use Rattle.meaning.specs.Reading.{byte, two_bytes, next, variable, applied, term}
use Rattle.meaning.specs.declared.Refusal.{Refusal}
use Rattle.reading.specs.Verdict.{refusal}
use Rattle.reading.specs.Steps.{step, either}
use Rattle.reading.specs.Arities.{arities, functions_of, arity}
use Rattle.reading.specs.declared.step.Reached.{Reached}
use borrow.Author.Tests.{eqb-true}
use Rattle.laws.specs.Due.{application_left}
use Rattle.laws.specs.IfLaws.{if_true, if_false}
use Rattle.reading.proofs.StepLaws.{Step, after_refused, after_give, next_then, next_found, body_inside}

-- ---- arities
module _ (file : List ℕ) (start : ℕ) where
  pub arities_length : (n : ℕ) → length (arities file start n) ≡ n
  unfolding arities
  arities_length zero = refl
  arities_length (suc n) = let e = arities_length n in simp length-append (omega arith)

  pub arities_more : (n : ℕ) → arities file start (n + 1) ≡ arities file start n ++ byte file (start + 2 * n + 1) ∷ []
  unfolding arities
  arities_more n = rw add-one

  -- one more at the end
  more_at : (l : List ℕ) (n a i : ℕ) (f : ℕ → ℕ) → length l ≡ n → ((j : ℕ) → j < n → get_or l j 0 ≡ f j) → a ≡ f n → i < suc n → get_or (l ++ a ∷ []) i 0 ≡ f i
  more_at [] n a zero f e h q k = rw e q
  more_at [] n a (suc i) f e h q k = absurd (omega arith)
  more_at (b ∷ l) n a zero f e h q k = h 0 (omega arith)
  more_at (b ∷ l) zero a (suc i) f e h q k = absurd (omega arith)
  more_at (b ∷ l) (suc n) a (suc i) f e h q k = more_at l n a i (λ j. f (suc j)) (omega arith) (λ j m. h (suc j) (omega arith)) q (omega arith)

  pub arities_at : (n i : ℕ) → i < n → get_or (arities file start n) i 0 ≡ byte file (start + 2 * i + 1)
  unfolding arities
  arities_at zero i h = absurd (omega arith)
  arities_at (suc n) i h = more_at (arities file start n) n _ i (λ j. byte file (start + 2 * j + 1)) (arities_length n) (arities_at n) refl h

-- what is known of an arity that was looked up, and of a number that has none
pub record Known (file l : List ℕ) (p n : ℕ) : Type 0 where
  pub number : ltb (two_bytes file (p + 1)) (length l) ≡ true
  pub same : get_or l (two_bytes file (p + 1)) 0 ≡ n

module _ (file l : List ℕ) (p : ℕ) where
  pub arity_of : {n : ℕ} → Some n ≡ arity file l p → Known file l p n
  unfolding arity
  arity_of {n} h = go _ refl
    where
      go : (b : Bool) → ltb (two_bytes file (p + 1)) (length l) ≡ b → Known file l p n
      go true e = let k = h ∙ if_true _ _ _ e in record { number = e; same = cc }
      go false e = let k = h ∙ if_false _ _ _ e in cc

  pub arity_none : None ≡ arity file l p → ltb (two_bytes file (p + 1)) (length l) ≡ false
  unfolding arity
  arity_none h = go _ refl
    where
      go : (b : Bool) → ltb (two_bytes file (p + 1)) (length l) ≡ b → ltb (two_bytes file (p + 1)) (length l) ≡ false
      go true e = let k = h ∙ if_true _ _ _ e in cc
      go false e = e

-- ---- one term
-- an applied function: its number, then its arguments
module _ (file functions : List ℕ) (argument : Reader Term) (p s e : ℕ) where
  applied_unknown : None ≡ arity file functions p → Err (refusal 6 p) ≡ step (applied file functions argument p s e)
  unfolding applied ◌>>◌ need after step
  applied_unknown h = rw (arity_none file functions p h)

  applied_known : {n : ℕ} → Some n ≡ arity file functions p → step (terms argument n s e) ≡ step (applied file functions argument p s e)
  unfolding applied ◌>>◌ ◌>>=◌ need after give
  applied_known {n} h =
      let k = arity_of file functions p h in
      rw (k.number, k.same) (sym (after_give (terms argument n s e) (app (two_bytes file (p + 1)))))

-- the record of a term stands here, or not
module _ (file : List ℕ) (functions declared seen at : ℕ) where
  abbrev the_term : ℕ → Step
  the_term levels = step (term file (functions_of file functions) declared levels seen at)

  pub term_refused : (levels : ℕ) {e : Refusal} → Err e ≡ step (next file (either a_variable an_application) seen at) → Err e ≡ the_term levels
  unfolding term term_due either ◌>>=◌
  term_refused zero h = after_refused _ _ h
  term_refused (suc l) h = after_refused _ _ h

  module _ {t : Reached} (h : Ok t ≡ step (next file (either a_variable an_application) seen at)) where
    -- the bytes of the record are in the file
    pub variable_inside : eqb (byte file at) a_variable ≡ true → at + 1 < length file
    unfolding body_length body_lengths
    variable_inside k = body_inside file _ seen at h a_variable (eqb-true _ _ k)

    pub applied_inside : eqb (byte file at) a_variable ≡ false → at + 2 < length file
    unfolding term_due either body_length body_lengths
    applied_inside k = body_inside file _ seen at h an_application (application_left _ (next_found file _ seen at h).1.kind k)

    pub term_deep : (levels : ℕ) → levels ≡ 0 → Err (refusal 8 at) ≡ the_term levels
    unfolding term term_due either ◌>>=◌ refuse step
    term_deep levels z = rw (z, next_then file _ seen at h)

    module _ (levels : ℕ) (z : 0 < levels) where
      more : levels ≡ suc (levels - 1)
      more = omega arith

      pub term_variable : eqb (byte file at) a_variable ≡ true → step (variable file declared at t.seen t.at) ≡ the_term levels
      unfolding term term_due either ◌>>=◌ when◌then◌else◌
      term_variable k = rw (more, next_then file _ seen at h, k)

      module _ (k : eqb (byte file at) a_variable ≡ false) where
        pub term_unknown : None ≡ arity file (functions_of file functions) at → Err (refusal 6 at) ≡ the_term levels
        unfolding term term_due either ◌>>=◌ when◌then◌else◌
        term_unknown u = rw (more, next_then file _ seen at h, k) (applied_unknown file _ _ at _ _ u)

        pub term_applied : {n : ℕ} → Some n ≡ arity file (functions_of file functions) at → (x : Step)
            → x ≡ step (terms (term file (functions_of file functions) declared (levels - 1)) n t.seen t.at) → x ≡ the_term levels
        unfolding term term_due either ◌>>=◌ when◌then◌else◌
        term_applied u x q = rw (more, next_then file _ seen at h, k) (q ∙ applied_known file _ _ at _ _ u)
