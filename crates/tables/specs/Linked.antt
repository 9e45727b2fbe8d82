-- Linking the clauses, from the last to the first, chains the clauses of each predicate in number order.
-- Assumes nothing.
use Prim.Native.Nat.{ℕ, zero, suc, ◌+◌, ◌*◌, ◌≤◌, ◌<◌}
use Rattle.std.specs.Prelude.{◌≡◌, refl, ◌⊎◌, eqb, length, set, drop}
use Rattle.std.proofs.Common.{sym, ◌∙◌, inl, inr, length-set, get_or-set_other}
use Rattle.std.proofs.Math.Path.{ap, subst}
use mathlib.Core.List.{List, [], ◌∷◌}
use Rattle.std.proofs.Math.Option.{some}
use native.Mathlib.Omega.{arith}
use Rattle.std.proofs.Math.ListN.{get_elem?}
use borrow.Author.Tests.{eqb-true, eqb-false}
use Rattle.meaning.specs.Rules.{Clause, Rules}
use Rattle.meaning.specs.Moves.{clauses_of}
use Rattle.laws.specs.IfLaws.{if_by}
use Rattle.layout.specs.Lengths.{clause_place}
use Rattle.layout.specs.Regions.{word, Keeps}
use Rattle.layout.specs.Tables.{Chain}
use Rattle.tables.specs.Laid.{link, links}
use Rattle.tables.specs.Kept.{set_word}

-- the clause with a number, and those behind it
drop_index : (cs : List Clause) (k : ℕ) → k < length cs → (c : Clause) × (get_elem? cs k ≡ some c) × (drop k cs ≡ c ∷ drop (suc k) cs)
drop_index [] k h = absurd (omega arith)
drop_index (c ∷ cs) zero h = (c, refl, refl)
drop_index (c ∷ cs) (suc k) h = drop_index cs k (omega arith)

-- what a link sets: the clause k is the first of its predicate a, whose first clause so far comes next
record Links (first table k a : ℕ) (w v : List ℕ) : Type 0 where
  long : length v ≡ length w
  first_is : word v (first + a) ≡ k + 1
  next_is : word v (table + 2 * k + 1) ≡ word w (first + a)
  same : (i : ℕ) → (i ≡ first + a → ⊥) → (i ≡ table + 2 * k + 1 → ⊥) → word v i ≡ word w i

link_sets : (first table k a : ℕ) (w : List ℕ) → word w (table + 2 * k + 1) ≡ a → first + a < table → table + 2 * k + 1 < length w → Links first table k a w (link first table k w)
unfolding link
link_sets first table k a w e h l =
    let here : ℕ = table + 2 * k + 1 in
    let u : List ℕ = set w here (word w (first + a)) in
    let long : length u ≡ length w = length-set w here (word w (first + a)) in
    let v : List ℕ = set u (first + a) (k + 1) in
    let other : here ≡ first + a → ⊥ = λ x. omega arith in
    let set_there : Links first table k a w v = record {
      long = length-set u (first + a) (k + 1) ∙ long;
      first_is = set_word u (first + a) (k + 1) (omega arith);
      next_is = get_or-set_other u (first + a) here (k + 1) 0 other ∙ set_word w here (word w (first + a)) l;
      same = λ i m n. get_or-set_other u (first + a) i (k + 1) 0 m ∙ get_or-set_other w here i (word w (first + a)) 0 n;
    } in rw e set_there

module _ (F n : ℕ) (R : Rules) where
  -- a chain of clauses from m on depends on the words of these
  chain_kept : (w v : List ℕ) (m : ℕ) → ((i : ℕ) → 64 + F + n + 2 * m ≤ i → word v i ≡ word w i)
      → (q k : ℕ) (cs : List Clause) → m ≤ k → (x : ℕ) → Chain w F n R x (clauses_of q k cs) → Chain v F n R x (clauses_of q k cs)
  unfolding clauses_of
  chain_kept w v m same q k [] l = λ x h. h
  chain_kept w v m same q k (c ∷ cs) l =
      let later : (x : ℕ) → Chain w F n R x (clauses_of q (suc k) cs) → Chain v F n R x (clauses_of q (suc k) cs) = chain_kept w v m same q (suc k) cs (omega arith) in
      let place : word v (64 + F + n + 2 * k) ≡ word w (64 + F + n + 2 * k) = same _ (omega arith) in
      let next : word v (64 + F + n + 2 * k + 1) ≡ word w (64 + F + n + 2 * k + 1) = same _ (omega arith) in
      if_by (λ ks. (x : ℕ) → Chain w F n R x ks → Chain v F n R x ks) (eqb c.head.predicate q)
      (λ e x h. (h.0, place ∙ h.1, subst (λ (y : ℕ). Chain v F n R y (clauses_of q (suc k) cs)) (sym next) (later (word w (64 + F + n + 2 * k + 1)) h.2)))
      (λ e x h. later x h)

  -- the clauses from k on are linked, and the words of those before still hold their predicates
  pub record Linked (w₀ : List ℕ) (k : ℕ) (w : List ℕ) : Type 0 where
    pub keeps : Keeps (64 + F) (64 + F + n + 2 * length R.clauses) w₀ w
    pub places : (j : ℕ) → j < length R.clauses → word w (64 + F + n + 2 * j) ≡ clause_place R j
    pub predicates : (j : ℕ) (c : Clause) → j < k → get_elem? R.clauses j ≡ some c → word w (64 + F + n + 2 * j + 1) ≡ c.head.predicate
    pub chains : (q : ℕ) → q < n → Chain w F n R (word w (64 + F + q)) (clauses_of q k (drop k R.clauses))

  module _ (w₀ : List ℕ) (fits : 64 + F + n + 2 * length R.clauses ≤ length w₀) (known : (k : ℕ) (c : Clause) → get_elem? R.clauses k ≡ some c → c.head.predicate < n) where
    -- the clauses of one predicate, once the clause k is linked
    chain_linked : (k : ℕ) (w v : List ℕ) (c : Clause) → Links (64 + F) (64 + F + n) k c.head.predicate w v → c.head.predicate < n → word v (64 + F + n + 2 * k) ≡ clause_place R k
        → (cs : List Clause) (q : ℕ) → q < n → Chain w F n R (word w (64 + F + q)) (clauses_of q (suc k) cs) → Chain v F n R (word v (64 + F + q)) (clauses_of q k (c ∷ cs))
    unfolding clauses_of
    chain_linked k w v c L a place cs q l h =
        let p : ℕ = c.head.predicate in
        let same : (i : ℕ) → 64 + F + n + 2 * suc k ≤ i → word v i ≡ word w i = λ i m. L.same i (λ x. omega arith) (λ x. omega arith) in
        let kept : (x : ℕ) → Chain w F n R x (clauses_of q (suc k) cs) → Chain v F n R x (clauses_of q (suc k) cs) = chain_kept w v (suc k) same q (suc k) cs (omega arith) in
        if_by (λ ks. Chain v F n R (word v (64 + F + q)) ks) (eqb p q)
        (λ e. let is : p ≡ q = eqb-true p q e in
        let number : word v (64 + F + q) ≡ suc k = ap (λ (x : ℕ). word v (64 + F + x)) (sym is) ∙ L.first_is ∙ omega arith in
        let next : word v (64 + F + n + 2 * k + 1) ≡ word w (64 + F + q) = L.next_is ∙ ap (λ (x : ℕ). word w (64 + F + x)) is in
        (number, place, subst (λ (x : ℕ). Chain v F n R x (clauses_of q (suc k) cs)) (sym next) (kept _ h)))
        (λ e. let other : word v (64 + F + q) ≡ word w (64 + F + q) = L.same (64 + F + q) (λ x. eqb-false p q e (omega arith)) (λ x. omega arith) in
        subst (λ (x : ℕ). Chain v F n R x (clauses_of q (suc k) cs)) (sym other) (kept _ h))

    link_linked : (k : ℕ) (w : List ℕ) → k < length R.clauses → Linked w₀ (suc k) w → Linked w₀ k (link (64 + F) (64 + F + n) k w)
    link_linked k w h P =
        let (c, at, behind) = drop_index R.clauses k h in
        let a : c.head.predicate < n = known k c at in
        let long = P.keeps.same_length in
        let v : List ℕ = link (64 + F) (64 + F + n) k w in
        let L : Links (64 + F) (64 + F + n) k c.head.predicate w v = link_sets (64 + F) (64 + F + n) k c.head.predicate w (P.predicates k c (omega arith) at) (omega arith) (omega arith) in
        let places : (j : ℕ) → j < length R.clauses → word v (64 + F + n + 2 * j) ≡ clause_place R j = λ j l. L.same _ (λ x. omega arith) (λ x. omega arith) ∙ P.places j l in
        record {
          keeps = record { same_length = L.long ∙ long; same = λ i o. outside i o c v L a ∙ P.keeps.same i o };
          places = places;
          predicates = λ j d l e. L.same _ (λ x. omega arith) (λ x. omega arith) ∙ P.predicates j d (omega arith) e;
          chains = λ q l. subst (λ (cs : List Clause). Chain v F n R (word v (64 + F + q)) (clauses_of q k cs)) (sym behind)
              (chain_linked k w v c L a (places k h) (drop (suc k) R.clauses) q l (P.chains q l));
        }
      where
        outside : (i : ℕ) → (i < 64 + F) ⊎ (64 + F + n + 2 * length R.clauses ≤ i) → (c : Clause) (v : List ℕ) → Links (64 + F) (64 + F + n) k c.head.predicate w v → c.head.predicate < n → word v i ≡ word w i
        outside i (inl l) c v L a = L.same i (λ x. omega arith) (λ x. omega arith)
        outside i (inr l) c v L a = L.same i (λ x. omega arith) (λ x. omega arith)

    pub links_linked : (k : ℕ) (w : List ℕ) → k ≤ length R.clauses → Linked w₀ k w → Linked w₀ 0 (links (64 + F) (64 + F + n) k w)
    unfolding links
    links_linked zero w h P = P
    links_linked (suc k) w h P = links_linked k (link (64 + F) (64 + F + n) k w) (omega arith) (link_linked k w (omega arith) P)
