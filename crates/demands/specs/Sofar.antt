-- What is known of the answers listed so far, given which step lists are still open: those listed are right and rise, and come before
-- all that are open; without cut every proof is listed or open.
-- Assumes nothing.
use Rattle.std.specs.Prelude.{ℕ, ◌≡◌, ◌⊎◌, List, [], ◌∷◌, ◌++◌}
use Rattle.std.proofs.Common.{sym, inl, inr}
use Rattle.meaning.specs.Rules.{Rules}
use Rattle.meaning.specs.Answers.{Answer}
use Rattle.demands.specs.Proofs.{Each, IsProof, Before, Uncut}
use Rattle.demands.specs.Demands.{Rises, Listed, Right, Correct, Complete}
use Rattle.demands.specs.GoodFiles.{each_last}
use Rattle.demands.specs.Order.{some_last}

module _ (R : Rules) where
  abbrev pub AllBefore : List Answer → List ℕ → Type 0
  AllBefore listed ks = Each (λ a. Before a.steps ks) listed

  pub record Sofar (Open : List ℕ → Type 0) (listed : List Answer) : Type 0 where
    pub right : Each (Right R) listed
    pub rises : Rises listed
    pub ahead : (ks : List ℕ) → Open ks → AllBefore listed ks
    pub cover : Uncut R → (ks : List ℕ) → IsProof R ks → Listed ks listed ⊎ Open ks

  pub sofar_none : (Open : List ℕ → Type 0) → ((ks : List ℕ) → IsProof R ks → Open ks) → Sofar Open []
  sofar_none Open h = record { right = tt; rises = tt; ahead = λ ks o. tt; cover = λ u ks p. inr (h ks p) }

  -- fewer are open, and no proof is lost
  pub sofar_less : (X Y : List ℕ → Type 0) (listed : List Answer) → ((ks : List ℕ) → Y ks → X ks) → (Uncut R → (ks : List ℕ) → IsProof R ks → X ks → Y ks) → Sofar X listed → Sofar Y listed
  sofar_less X Y listed f g s = record { right = s.right; rises = s.rises; ahead = λ ks y. s.ahead ks (f ks y); cover = λ u ks p. go u ks p (s.cover u ks p) }
    where
      go : Uncut R → (ks : List ℕ) → IsProof R ks → Listed ks listed ⊎ X ks → Listed ks listed ⊎ Y ks
      go u ks p (inl l) = inl l
      go u ks p (inr x) = inr (g u ks p x)

  rises_last : (listed : List Answer) (a : Answer) → Rises listed → AllBefore listed a.steps → Rises (listed ++ a ∷ [])
  rises_last [] a r h = (tt, tt)
  rises_last (b ∷ listed) a r h = (each_last (λ c. Before b.steps c.steps) listed a r.0 h.0, rises_last listed a r.1 h.1)

  -- an answer is listed, the first of those that were open
  pub sofar_answer : (X Y : List ℕ → Type 0) (listed : List Answer) (a : Answer) → Right R a → X a.steps → ((ks : List ℕ) → Y ks → X ks) → ((ks : List ℕ) → Y ks → Before a.steps ks)
      → (Uncut R → (ks : List ℕ) → IsProof R ks → X ks → (ks ≡ a.steps) ⊎ Y ks) → Sofar X listed → Sofar Y (listed ++ a ∷ [])
  sofar_answer X Y listed a r x f b g s = record {
    right = each_last (Right R) listed a s.right r;
    rises = rises_last listed a s.rises (s.ahead a.steps x);
    ahead = λ ks y. each_last (λ c. Before c.steps ks) listed a (s.ahead ks (f ks y)) (b ks y);
    cover = λ u ks p. go u ks p (s.cover u ks p);
  }
    where
      now : (ks : List ℕ) → (ks ≡ a.steps) ⊎ Y ks → Listed ks (listed ++ a ∷ []) ⊎ Y ks
      now ks (inl e) = inl (some_last (λ c. c.steps ≡ ks) listed a (inr (sym e)))
      now ks (inr y) = inr y

      go : Uncut R → (ks : List ℕ) → IsProof R ks → Listed ks listed ⊎ X ks → Listed ks (listed ++ a ∷ []) ⊎ Y ks
      go u ks p (inl l) = inl (some_last (λ c. c.steps ≡ ks) listed a (inl l))
      go u ks p (inr q) = now ks (g u ks p q)

  -- ---- what an end makes of it
  pub record Fine (e : ℕ) (listed : List Answer) : Type 0 where
    pub correct : Correct R listed
    pub complete : Uncut R → Complete R listed (e ≡ 20)

  pub sofar_fine : (e : ℕ) (X : List ℕ → Type 0) (listed : List Answer) → (e ≡ 20 → (ks : List ℕ) → X ks → ⊥) → Sofar X listed → Fine e listed
  sofar_fine e X listed h s = record { correct = c; complete = λ u. record { correct = c; all = λ q ks p. all q ks (s.cover u ks p); after = λ ks p n. after ks n (s.cover u ks p) } }
    where
      c : Correct R listed
      c = record { right = s.right; rises = s.rises }

      all : e ≡ 20 → (ks : List ℕ) → Listed ks listed ⊎ X ks → Listed ks listed
      all q ks (inl l) = l
      all q ks (inr x) = absurd (h q ks x)

      after : (ks : List ℕ) → ¬ Listed ks listed → Listed ks listed ⊎ X ks → AllBefore listed ks
      after ks n (inl l) = absurd (n l)
      after ks n (inr x) = s.ahead ks x
