-- The order of the dictionary; the clauses of a predicate; and where the untried clauses of a run stand in the order.
-- Assumes nothing.
use Rattle.std.specs.Prelude.{ℕ, suc, zero, ◌+◌, ◌-◌, ◌≤◌, ◌<◌, ◌≡◌, refl, ◌⊎◌, List, [], ◌∷◌, ◌++◌, eqb, drop, length}
use Rattle.std.proofs.Common.{ap, sym, ◌∙◌, subst, inl, inr, append_assoc, arith, eqb-true}
use Rattle.std.proofs.Math.Option.{some, some-injective}
use Rattle.std.proofs.Math.ListN.{get_elem?}
use Rattle.std.proofs.lemmas.Bool.{eqb-false}
use Rattle.meaning.specs.Rules.{Clause}
use Rattle.meaning.specs.Moves.{Numbered, Choice, choice, clauses_of, keep}
use Rattle.demands.specs.Proofs.{Each, Some, Before}
use Rattle.laws.specs.IfLaws.{if_by}
use Rattle.demands.specs.Ways.{Under}

-- ---- lists
pub each_map : {A : Type 0} (P Q : A → Type 0) → ((a : A) → P a → Q a) → (l : List A) → Each P l → Each Q l
each_map P Q h [] e = tt
each_map P Q h (a ∷ l) e = (h a e.0, each_map P Q h l e.1)

pub some_map : {A : Type 0} (P Q : A → Type 0) → ((a : A) → P a → Q a) → (l : List A) → Some P l → Some Q l
some_map P Q h [] s = s
some_map P Q h (a ∷ l) (inl p) = inl (h a p)
some_map P Q h (a ∷ l) (inr s) = inr (some_map P Q h l s)

-- what follows from each follows from some
pub some_gives : {A : Type 0} (P Q : A → Type 0) (G : Type 0) → ((a : A) → P a → Q a → G) → (l : List A) → Each P l → Some Q l → G
some_gives P Q G h [] e s = absurd s
some_gives P Q G h (a ∷ l) e (inl q) = h a e.0 q
some_gives P Q G h (a ∷ l) e (inr s) = some_gives P Q G h l e.1 s

pub each_drop : {A : Type 0} (P : A → Type 0) (m : ℕ) (l : List A) → Each P l → Each P (drop m l)
each_drop P zero l e = e
each_drop P (suc m) [] e = e
each_drop P (suc m) (a ∷ l) e = each_drop P m l e.1

pub some_drop : {A : Type 0} (P : A → Type 0) (m : ℕ) (l : List A) → Some P (drop m l) → Some P l
some_drop P zero l s = s
some_drop P (suc m) [] s = s
some_drop P (suc m) (a ∷ l) s = inr (some_drop P m l s)

pub some_last : {A : Type 0} (P : A → Type 0) (l : List A) (a : A) → Some P l ⊎ P a → Some P (l ++ a ∷ [])
some_last P [] a (inl s) = absurd s
some_last P [] a (inr p) = inl p
some_last P (b ∷ l) a (inl (inl p)) = inl p
some_last P (b ∷ l) a (inl (inr s)) = inr (some_last P l a (inl s))
some_last P (b ∷ l) a (inr p) = inr (some_last P l a (inr p))

pub each_at : {A : Type 0} (P : A → Type 0) (l : List A) (i : ℕ) (a : A) → Each P l → get_elem? l i ≡ some a → P a
each_at P [] i a e q = let z : ◌≡◌ {A = ℕ} 0 1 = cc in absurd (omega arith)
each_at P (b ∷ l) zero a e q = subst P (some-injective _ _ q) e.0
each_at P (b ∷ l) (suc i) a e q = each_at P l i a e.1 q

-- ---- the dictionary
pub before_irreflexive : (ks : List ℕ) → Before ks ks → ⊥
before_irreflexive [] b = b
before_irreflexive (k ∷ ks) (inl h) = omega arith
before_irreflexive (k ∷ ks) (inr h) = before_irreflexive ks h.1

-- where two step lists part, the smaller number comes first
pub before_fork : (p : List ℕ) (k l : ℕ) (r t : List ℕ) → k < l → Before (p ++ k ∷ r) (p ++ l ∷ t)
before_fork [] k l r t h = inl h
before_fork (x ∷ p) k l r t h = inr (refl, before_fork p k l r t h)

-- ---- the clauses of a predicate
-- a clause of this predicate, at its number counted from n
abbrev Found : ℕ → ℕ → List Clause → Numbered → Type 0
Found p n cs k = (i : ℕ) × (k.number ≡ n + i) × (get_elem? cs i ≡ some k.clause) × (p ≡ k.clause.head.predicate)

clauses_found : (p n : ℕ) (cs : List Clause) → Each (Found p n cs) (clauses_of p n cs)
unfolding clauses_of
clauses_found p n [] = tt
clauses_found p n (c ∷ cs) =
    let later : Each (Found p n (c ∷ cs)) (clauses_of p (suc n) cs) =
    each_map (Found p (suc n) cs) (Found p n (c ∷ cs)) (λ k f. let q = f.1 in (suc f.0, omega arith, f.2, f.3)) (clauses_of p (suc n) cs) (clauses_found p (suc n) cs) in
    if_by (Each (Found p n (c ∷ cs))) (eqb c.head.predicate p)
    (λ e. ((0, omega arith, refl, sym (eqb-true c.head.predicate p e)), later))
    (λ e. later)

-- it is one of the rules, by its number
pub clauses_known : (p : ℕ) (cs : List Clause) → Each (λ k. (get_elem? cs k.number ≡ some k.clause) × (p ≡ k.clause.head.predicate)) (clauses_of p 0 cs)
clauses_known p cs = each_map (Found p 0 cs) _ (λ k f. let e : k.number ≡ f.0 = (let q = f.1 in omega arith) in (rw e f.2, f.3)) (clauses_of p 0 cs) (clauses_found p 0 cs)

-- each number is below those after it
abbrev pub Ascends : List Numbered → Type 0
Ascends [] = Unit {0}
Ascends (k ∷ ks) = Each (λ l. k.number < l.number) ks × Ascends ks

pub clauses_ascend : (p n : ℕ) (cs : List Clause) → Ascends (clauses_of p n cs)
unfolding clauses_of
clauses_ascend p n [] = tt
clauses_ascend p n (c ∷ cs) =
    if_by Ascends (eqb c.head.predicate p)
    (λ e. (each_map (Found p (suc n) cs) (λ l. n < l.number) (λ k f. let q = f.1 in omega arith) (clauses_of p (suc n) cs) (clauses_found p (suc n) cs), clauses_ascend p (suc n) cs))
    (λ e. clauses_ascend p (suc n) cs)

-- none is left out
pub clauses_all : (p n : ℕ) (cs : List Clause) (i : ℕ) (c : Clause) → get_elem? cs i ≡ some c → p ≡ c.head.predicate → Some (λ k. k.number ≡ n + i) (clauses_of p n cs)
unfolding clauses_of
clauses_all p n [] i c e q = let z : ◌≡◌ {A = ℕ} 0 1 = cc in absurd (omega arith)
clauses_all p n (d ∷ cs) zero c e q =
    if_by (Some (λ k. k.number ≡ n + 0)) (eqb d.head.predicate p) (λ t. inl (omega arith))
    (λ t. absurd (eqb-false d.head.predicate p t (ap (λ (x : Clause). x.head.predicate) (some-injective _ _ e) ∙ sym q)))
clauses_all p n (d ∷ cs) (suc i) c e q =
    let same : suc n + i ≡ n + suc i = omega arith in
    let later : Some (λ k. k.number ≡ n + suc i) (clauses_of p (suc n) cs) =
    subst (λ (m : ℕ). Some (λ k. k.number ≡ m) (clauses_of p (suc n) cs)) same (clauses_all p (suc n) cs i c e q) in
    if_by (Some (λ k. k.number ≡ n + suc i)) (eqb d.head.predicate p) (λ t. inr later) (λ t. later)

-- ---- the untried clauses of a run
-- the step list goes on by an untried clause of the choice, of some choice
abbrev pub InChoice : Choice → List ℕ → Type 0
InChoice (choice ks g n) ls = Some (λ k. Under (n.steps ++ k.number ∷ []) ls) ks

abbrev pub InChoices : List Choice → List ℕ → Type 0
InChoices cs ls = Some (λ c. InChoice c ls) cs

-- the derivation p goes through the goal of the choice, by a clause before all untried ones
abbrev pub Past : List ℕ → Choice → Type 0
Past p (choice ks g n) = (j : ℕ) × (r : List ℕ) × (p ≡ n.steps ++ j ∷ r) × Each (λ k. j < k.number) ks

abbrev pub steps_of : Choice → List ℕ
steps_of (choice ks g n) = n.steps

-- each choice was met on the way to the one after it, and to p
abbrev pub Stacked : List ℕ → List Choice → Type 0
Stacked p [] = Unit {0}
Stacked p (c ∷ cs) = Past p c × Stacked (steps_of c) cs

abbrev pub StackedFrom : List Choice → Type 0
StackedFrom [] = Unit {0}
StackedFrom (c ∷ cs) = Stacked (steps_of c) cs

pub stacked_from : (p : List ℕ) (cs : List Choice) → Stacked p cs → StackedFrom cs
stacked_from p [] h = tt
stacked_from p (c ∷ cs) h = h.1

past_extend : (p q r : List ℕ) (c : Choice) → p ≡ q ++ r → Past q c → Past p c
past_extend p q r (choice ks g n) e (j, t, f, l) = (j, t ++ r, e ∙ ap (◌++ r) f ∙ append_assoc n.steps (j ∷ t) r, l)

stacked_extend : (p q r : List ℕ) (cs : List Choice) → p ≡ q ++ r → Stacked q cs → Stacked p cs
stacked_extend p q r [] e h = tt
stacked_extend p q r (c ∷ cs) e h = (past_extend p q r c e h.0, h.1)

-- further down the stack
stacked_below : (p : List ℕ) (c : Choice) (cs : List Choice) → Stacked p (c ∷ cs) → Stacked p cs
stacked_below p (choice ks g n) cs ((j, r, e, l), h) = stacked_extend p n.steps (j ∷ r) cs e h

pub stacked_drop : (m : ℕ) (p : List ℕ) (cs : List Choice) → Stacked p cs → Stacked p (drop m cs)
stacked_drop zero p cs h = h
stacked_drop (suc m) p [] h = h
stacked_drop (suc m) p (c ∷ cs) h = stacked_drop m p cs (stacked_below p c cs h)

-- a derivation comes before all that goes on by an untried clause
before_choice : (p : List ℕ) (c : Choice) → Past p c → (ls : List ℕ) → InChoice c ls → Before p ls
before_choice p (choice ks g n) (j, r, e, l) ls i =
    some_gives (λ (k : Numbered). j < k.number) (λ k. Under (n.steps ++ k.number ∷ []) ls) (Before p ls)
    (λ k h u. rw (e, u.1 ∙ append_assoc n.steps (k.number ∷ []) u.0) (before_fork n.steps j k.number r u.0 h)) ks l i

pub before_choices : (p : List ℕ) (cs : List Choice) → Stacked p cs → (ls : List ℕ) → InChoices cs ls → Before p ls
before_choices p [] h ls i = absurd i
before_choices p (c ∷ cs) h ls (inl i) = before_choice p c h.0 ls i
before_choices p (c ∷ cs) h ls (inr i) = before_choices p cs (stacked_below p c cs h) ls i

pub keep_all : (h : ℕ) (cs : List Choice) → length cs ≤ h → keep h cs ≡ cs
unfolding keep
keep_all h cs l = let e : length cs - h ≡ 0 = omega arith in ap (λ (m : ℕ). drop m cs) e
