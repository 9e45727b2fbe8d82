-- The third demand at case A, from its 70 bytes: app(X, Y, [a]) has these two proofs and no other.
-- Assumes nothing.
use Rattle.std.specs.Prelude.{ℕ, ◌≡◌, refl, ◌⊎◌, ◌↔◌, List, [], ◌∷◌, ◌++◌}
use Rattle.std.proofs.Common.{sym, ◌∙◌, subst, inl, inr}
use Rattle.meaning.specs.Terms.{Term, var, app, []ₜ, ◌∷ₜ◌}
use Rattle.meaning.specs.Rules.{Call, call, Rules}
use Rattle.meaning.specs.Answers.{Answer, output}
use Rattle.demands.specs.Proofs.{Each, Values, Allows, IsProof, Matches, Uncut}
use Rattle.demands.specs.Demands.{Says, Listed, Complete, Ends}
use Rattle.demands.specs.Computes.{computes}
use Rattle.demands.specs.Cases.{append, first_append, second_append}
use Rattle.demands.specs.Bytes.{OfRules, bytes_determine}
use Rattle.demands.specs.Theorems.{third_demand, right_of_rules}

abbrev nil : Term
nil = app 0 []ₜ

abbrev cons : Term → Term → Term
cons x y = app 1 (x ∷ₜ y ∷ₜ []ₜ)

abbrev a : Term
a = app 2 []ₜ

abbrev app3 : Term → Term → Term → Call
app3 x y z = record { predicate = 0; arguments = x ∷ₜ y ∷ₜ z ∷ₜ []ₜ }

-- app([], V, V). app([H|T], V, [H|W]) if app(T, V, W). Query app(X, Y, [a])
abbrev rules : Rules
rules = record {
  functions = 0 ∷ 2 ∷ 0 ∷ [];
  predicates = 3 ∷ [];
  clauses =
      record { variables = 1; head = app3 nil (var 0) (var 0); body = [] }
      ∷ record { variables = 4; head = app3 (cons (var 0) (var 1)) (var 2) (cons (var 0) (var 3)); body = call (app3 (var 1) (var 2) (var 3)) ∷ [] }
      ∷ [];
  variables = 2;
  query = call (app3 (var 0) (var 1) (cons a nil)) ∷ [];
}

-- the file says these rules
pub append_says : Says append rules
unfolding computes
append_says = (2, 70, refl)

append_uncut : Uncut rules
append_uncut = record { clauses = (tt, (tt, tt)); query = tt }

append_ends : Ends rules 20 2 18 (first_append ++ second_append)
unfolding computes
append_ends = record { file = append; limits = record { cells = 10; steps = 2; work = 8 }; budget = 18; wanted = 3; scratch = 1000; room = 45; says = append_says; gives = refl }

-- its answers: by the steps 0, and by the steps 1 0
abbrev pub answers : List Answer
answers =
    record { values = nil ∷ₜ cons a nil ∷ₜ []ₜ; steps = 0 ∷ [] }
    ∷ record { values = cons a nil ∷ₜ nil ∷ₜ []ₜ; steps = 1 ∷ 0 ∷ [] }
    ∷ []

answers_written : output answers ≡ first_append ++ second_append
unfolding computes
answers_written = refl

answers_of_rules : Each (OfRules rules) answers
unfolding computes
answers_of_rules = (record { size = refl; terms = ((refl, tt), ((refl, ((refl, tt), ((refl, tt), tt))), tt)) }, (record { size = refl; terms = ((refl, ((refl, tt), ((refl, tt), tt))), ((refl, tt), tt)) }, tt))

-- the call lists just these
append_complete : Complete rules answers (Unit {0})
append_complete =
    let (listed, bytes, number, c) = third_demand rules 20 2 18 (first_append ++ second_append) append_uncut append_ends in
    let same : listed ≡ answers = bytes_determine rules listed answers (right_of_rules rules listed c.correct.right) answers_of_rules (sym bytes ∙ sym answers_written) in
    subst (λ (xs : List Answer). Complete rules xs (Unit {0})) same (record { correct = c.correct; all = λ t. c.all refl; after = c.after })

-- exactly these two proofs
pub only_two : (ks : List ℕ) → IsProof rules ks ↔ ((ks ≡ 0 ∷ []) ⊎ (ks ≡ 1 ∷ 0 ∷ []))
only_two ks = ((λ p. named (append_complete.all tt ks p)), are)
  where
    named : Listed ks answers → (ks ≡ 0 ∷ []) ⊎ (ks ≡ 1 ∷ 0 ∷ [])
    named (inl e) = inl (sym e)
    named (inr (inl e)) = inr (sym e)
    named (inr (inr n)) = absurd n

    are : (ks ≡ 0 ∷ []) ⊎ (ks ≡ 1 ∷ 0 ∷ []) → IsProof rules ks
    are (inl e) = subst (IsProof rules) (sym e) append_complete.correct.right.0.proof
    are (inr e) = subst (IsProof rules) (sym e) append_complete.correct.right.1.0.proof

-- and the second allows one pair of values for X and Y alone
pub only_values : (θ : ℕ → Term) → Values rules θ → (Allows rules (1 ∷ 0 ∷ []) θ ↔ Matches rules θ (cons a nil ∷ₜ nil ∷ₜ []ₜ))
only_values θ o = append_complete.correct.right.1.0.values θ o
