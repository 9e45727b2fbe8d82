-- Readers in a row: the code's loop, and the definition's terms and goals.
-- Assumes nothing.
use Prim.Native.Nat.{ℕ, suc, ◌+◌, ◌-◌, ◌≤◌, ◌<◌}
use mathlib.Core.Path.{◌≡◌, refl, sym, ◌∙◌}
use mathlib.Core.List.{List, ◌∷◌}
use native.Mathlib.Omega.{arith}
use Rattle.std.specs.Prelude.{Ok, Err}
use Rattle.meaning.specs.Terms.{Term, Terms, ◌∷ₜ◌}
use Rattle.meaning.specs.Rules.{Goal}
use Rattle.meaning.specs.Reading.{Reader, ◌>>=◌, give, terms, goals}
use Rattle.meaning.specs.declared.Refusal.{Refusal}
use Rattle.reading.specs.Each.{Each, all_done, stopped, onward}
use Rattle.reading.specs.Steps.{step}
use Rattle.reading.specs.declared.step.Reached.{Reached}
use Rattle.reading.proofs.StepLaws.{Step, after_refused, after_next, after_give}

-- ---- the loop: what the calls to come give, all calls do
module _ (one : Reached → Step → Type 0) (n i : ℕ) (from here : Reached) (inv : (r : Step) → Each one (n - i) here r → Each one n from r) where
  pub each_end : n ≤ i → Each one n from (Ok here)
  each_end h = let z : n - i ≡ 0 = omega arith in inv (Ok here) (rw z all_done)

  module _ (h : i < n) where
    again : n - i ≡ suc (n - (i + 1))
    again = omega arith

    pub each_stopped : {e : Refusal} → one here (Err e) → Each one n from (Err e)
    each_stopped k = inv _ (rw again (stopped k))

    pub each_more : {t : Reached} → one here (Ok t) → (r : Step) → Each one (n - (i + 1)) t r → Each one n from r
    each_more k r d = inv r (rw again (onward k d))

-- ---- where each call answers what a reader of the definition does
module _ (one : Reached → Step → Type 0) where
  pub each_terms : (reader : Reader Term) → ((t : Reached) (x : Step) → one t x → x ≡ step (reader t.seen t.at)) → {n : ℕ} {t : Reached} {r : Step} → Each one n t r
      → r ≡ step (terms reader n t.seen t.at)
  unfolding terms step give ◌>>=◌
  each_terms reader k all_done = refl
  each_terms reader k (stopped h) = after_refused _ _ (k _ _ h)
  each_terms reader k (onward {n} {t} {u} h d) =
      after_next _ _ (k t (Ok u) h) (λ a. each_terms reader k d ∙ sym (after_give (terms reader n u.seen u.at) (λ (ts : Terms). a ∷ₜ ts)))

  pub each_goals : (reader : Reader Goal) → ((t : Reached) (x : Step) → one t x → x ≡ step (reader t.seen t.at)) → {n : ℕ} {t : Reached} {r : Step} → Each one n t r
      → r ≡ step (goals reader n t.seen t.at)
  unfolding goals step give ◌>>=◌
  each_goals reader k all_done = refl
  each_goals reader k (stopped h) = after_refused _ _ (k _ _ h)
  each_goals reader k (onward {n} {t} {u} h d) =
      after_next _ _ (k t (Ok u) h) (λ a. each_goals reader k d ∙ sym (after_give (goals reader n u.seen u.at) (λ (gs : List Goal). a ∷ gs)))
