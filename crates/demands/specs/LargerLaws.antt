-- What a file comes to by larger limits of a rule set: the same, unless it was too large by the smaller ones.
-- Assumes nothing.
use Prim.Native.Nat.{ℕ, zero, suc, ◌+◌, ◌-◌, ◌≤◌, ◌<◌, min}
use Rattle.std.specs.Prelude.{◌≡◌, Bool, ◌&&◌, take}
use Rattle.std.proofs.Math.Path.{refl, ap}
use Rattle.std.proofs.Common.{sym, subst, ◌∙◌, length-take-le}
use Rattle.std.proofs.Math.Bool.{true, false, or-true}
use mathlib.Core.List.{List, [], ◌∷◌, ◌++◌}
use native.Mathlib.Omega.{arith}
use Rattle.std.proofs.Math.Dec.{leb, ltb}
use Rattle.std.proofs.Math.ListN.{length, get_or, length-append, get_or-append}
use Rattle.std.proofs.Math.Seq.{get_or-take, get_or-append-add}
use borrow.Author.Tests.{ltb-true, ltb-false, leb-true, leb-false, eqb-true, not-false, le-leb, lt-ltb, eq-eqb}
use Rattle.meaning.specs.If.{when◌then◌else◌}
use Rattle.meaning.specs.Kinds.{body_lengths, body_length, a_function, a_predicate, a_clause, a_query, the_end, arity_limit, function_limit, predicate_limit, goal_limit, RuleLimits, earlier_limits, todays_limits}
use Rattle.meaning.specs.Editions.{Edition, within}
use Rattle.meaning.specs.Rules.{Clause, Rules}
use Rattle.meaning.specs.Reading.{Read, refused, read, Reader, after, ◌>>=◌, ◌>>◌, give, need, none_seen, all_seen, goals, item_due, end_due}
use Rattle.meaning.specs.Reading.{byte, two_bytes, next, clause, query, no_more, items, parse_within, parse}
use Rattle.meaning.specs.Moves.{Limits}
use Rattle.meaning.specs.Call.{Result, refusal, ending, run_read, result_by}
use Rattle.meaning.specs.Embedded.{embedded_limits, embedded_scratch, room_limit, embedded_in, embedded_by}
use Rattle.laws.specs.IfLaws.{if_by, if_both}
use Rattle.laws.specs.Due.{query_left}
use Rattle.laws.specs.Onward.{Onward, onward_read, clause_on}
use Rattle.demands.specs.Demands.{SaysWithin}
use Rattle.demands.specs.Larger.{AcceptedBefore, SameCalls, SameEmbedded, closing, closed, TooLarge, by_clauses, by_variables, by_asked, RefusedBefore, RefusedLater, SameRefusals}
use Rattle.demands.specs.Faults.{Within, Inside, Any, Stays, fault_of, after_inside, need_inside, clause_inside, query_inside, close_inside, items_inside}
use Rattle.demands.specs.Begins.{next_is, same_read, clause_same}

and_middle : (x y : Bool) → (x && false && y) ≡ false
and_middle true y = refl
and_middle false y = refl

never : {A : Type 0} {n p : ℕ} {x : A} {s e : ℕ} → refused n p ≡ read x s e → ⊥
never q = let z : ◌≡◌ {A = ℕ} 0 1 = cc in omega arith

-- ---- a query of nothing, after what was read, and the end
nothing_asked : (file : List ℕ) (most : RuleLimits) (more latest : ℕ) (functions predicates : List ℕ) (clauses : List Clause) (s p q : ℕ) → next file (item_due latest) s p ≡ read p s q
    → byte file p ≡ a_query → byte file (p + 1) ≡ 0 → byte file (p + 2) ≡ 0 → next file end_due 0 q ≡ read q 0 (length file)
    → items file most (suc more) latest functions predicates clauses s p ≡ read (record { functions = functions; predicates = predicates; clauses = clauses; variables = 0; query = [] }) 0 (length file)
unfolding items query goals all_seen none_seen need no_more give ◌>>◌ ◌>>=◌ after when◌then◌else◌
nothing_asked file most more latest functions predicates clauses s p q n k v g e =
    rw (n, k, v, g, le-leb 0 most.variables (omega arith), e, eq-eqb (length file) (length file) refl) refl

-- the bytes before a place, closed
module _ (file : List ℕ) (p : ℕ) (inside : p ≤ length file) where
  before : length (take p file) ≡ p
  before = length-take-le p file inside

  closed_length : length (closed file p) ≡ p + 4
  closed_length = length-append (take p file) closing ∙ ap (λ (x : ℕ). x + 4) before

  closed_agrees : (i : ℕ) → i < p → byte (closed file p) i ≡ byte file i
  unfolding byte
  closed_agrees i h = let e = before in get_or-append (take p file) closing 0 i (omega arith) ∙ get_or-take p file i 0 h

  closed_ends : (i n : ℕ) → i ≡ p + n → byte (closed file p) i ≡ get_or closing n 0
  unfolding byte
  closed_ends i n e = let z = before in ap (λ (x : ℕ). get_or (closed file p) x 0) (omega arith) ∙ get_or-append-add (take p file) closing n 0

  -- a record of a kind that is known stands so many bytes after p
  closed_next : (due : ℕ → Bool) (s i n k e : ℕ) → i ≡ p + n → get_or closing n 0 ≡ k → due k ≡ true → e ≡ i + 1 + body_length k → e ≤ p + 4 → next (closed file p) due s i ≡ read i s e
  closed_next due s i n k e at stands d ends l =
      let kind : byte (closed file p) i ≡ k = closed_ends i n at ∙ stands in
      let long = closed_length in
      let same : i + 1 + body_length (byte (closed file p) i) ≡ e = ap (λ (x : ℕ). i + 1 + body_length x) kind ∙ sym ends in
      next_is (closed file p) due s i (omega arith) (ap due kind ∙ d) (omega arith) ∙ ap (λ (x : ℕ). read i s x) same

  -- it says what was read, and asks nothing
  closed_reads : (most : RuleLimits) (more latest : ℕ) (functions predicates : List ℕ) (clauses : List Clause) (s : ℕ)
      → items (closed file p) most (suc more) latest functions predicates clauses s p ≡ read (record { functions = functions; predicates = predicates; clauses = clauses; variables = 0; query = [] }) 0 (length (closed file p))
  unfolding item_due end_due body_length body_lengths
  closed_reads most more latest functions predicates clauses s =
      let l = closed_length in
      nothing_asked (closed file p) most more latest functions predicates clauses s p (p + 3)
      (closed_next (item_due latest) s p 0 a_query (p + 3) (omega arith) refl (or-true (leb latest a_query && leb a_query a_clause)) (omega arith) (omega arith))
      (closed_ends p 0 (omega arith)) (closed_ends (p + 1) 1 refl) (closed_ends (p + 2) 2 refl)
      (closed_next end_due 0 (p + 3) 3 the_end (length (closed file p)) refl refl refl (omega arith) (omega arith))

-- ---- the items of a file, one after another
module _ (file : List ℕ) (most : RuleLimits) (more latest : ℕ) (functions predicates : List ℕ) (clauses : List Clause) (s at e : ℕ) (found : next file (item_due latest) s at ≡ read at s e) where
  abbrev all : Read Rules
  all = items file most (suc more) latest functions predicates clauses s at

  function_item : byte file at ≡ a_function → (ltb (length functions) function_limit && leb (byte file (at + 1)) arity_limit) ≡ true → all ≡ items file most more a_function (functions ++ byte file (at + 1) ∷ []) predicates clauses s e
  unfolding items need ◌>>◌ ◌>>=◌ after when◌then◌else◌
  function_item k t = rw (found, k, t) refl

  predicate_item : byte file at ≡ a_predicate → (ltb (length predicates) predicate_limit && leb (byte file (at + 1)) arity_limit) ≡ true → all ≡ items file most more a_predicate functions (predicates ++ byte file (at + 1) ∷ []) clauses s e
  unfolding items need ◌>>◌ ◌>>=◌ after when◌then◌else◌
  predicate_item k t = rw (found, k, t) refl

  clause_item : (c : Clause) (s₁ e₁ : ℕ) → byte file at ≡ a_clause → ltb (length clauses) most.clauses ≡ true → clause file most functions predicates at s e ≡ read c s₁ e₁ → all ≡ items file most more a_clause functions predicates (clauses ++ c ∷ []) s₁ e₁
  unfolding items need ◌>>◌ ◌>>=◌ after when◌then◌else◌
  clause_item c s₁ e₁ k t r = rw (found, k, t, r) refl

-- ---- by larger limits
module _ (file : List ℕ) (a b : RuleLimits) (clauses_rise : a.clauses ≤ b.clauses) (variables_rise : a.variables ≤ b.variables) where
  -- both come to the same; or by the smaller limits the rule set is too large at a record, and by the larger ones reading goes on from there
  data Raised {A : Type 0} : Read A → Read A → Type 0 where
    same : (r : Read A) → Raised r r
    passed : {p : ℕ} {t : Read A} → TooLarge a file p → Inside file p (Any file p) t → Raised (refused 6 p) t

  after_same : {A B : Type 0} (r : Read A) {f g : A → Reader B} → ((x : A) (s e : ℕ) → r ≡ read x s e → Raised (f x s e) (g x s e)) → Raised (after r f) (after r g)
  unfolding after
  after_same (refused n q) k = same _
  after_same (read x s e) k = k x s e refl

  after_raised : {A B : Type 0} {r t : Read A} {f g : A → Reader B} → Raised r t → ((x : A) (s e : ℕ) → r ≡ read x s e → Raised (f x s e) (g x s e)) → ((p : ℕ) (x : A) → Stays file p (g x)) → Raised (after r f) (after t g)
  unfolding after
  after_raised (same r) k o = after_same r k
  after_raised (passed {p} h i) k o = passed h (after_inside file p i λ x u. o p x)

  -- the numbers of a clause or query, of which its variables are one
  numbers_raised : {B : Type 0} (x y : Bool) (declared p s at : ℕ) (f : Unit {0} → Reader B) → (a.variables < declared → TooLarge a file p) → Inside file p (Any file p) (after (need (x && leb declared b.variables && y) 6 p s at) f)
      → Raised (after (need (x && leb declared a.variables && y) 6 p s at) f) (after (need (x && leb declared b.variables && y) 6 p s at) f)
  unfolding need after
  numbers_raised x y declared p s at f h i = go (leb declared a.variables) refl
    where
      go : (d : Bool) → leb declared a.variables ≡ d → Raised (after (need (x && leb declared a.variables && y) 6 p s at) f) (after (need (x && leb declared b.variables && y) 6 p s at) f)
      go true e = let l : declared ≤ a.variables = leb-true _ _ e in rw (e, le-leb declared b.variables (omega arith)) (same _)
      go false e = rw (e, and_middle x y) (passed (h (leb-false _ _ e)) i)

  module _ (functions predicates : List ℕ) (p s at : ℕ) (l : p ≤ at) (h : at ≤ length file) where
    clause_raised : byte file p ≡ a_clause → Raised (clause file a functions predicates p s at) (clause file b functions predicates p s at)
    unfolding clause ◌>>◌
    clause_raised k =
        numbers_raised (ltb (two_bytes file (p + 1)) (length predicates)) (leb (byte file (p + 4)) goal_limit) (byte file (p + 3)) p s at _ (by_variables k)
        (clause_inside file p b functions predicates p (omega arith, omega arith) s at (l, h))

    query_raised : (clauses : List Clause) → byte file p ≡ a_query → Raised (query file a functions predicates clauses p s at) (query file b functions predicates clauses p s at)
    unfolding query ◌>>◌
    query_raised clauses k =
        numbers_raised true (leb (byte file (p + 2)) goal_limit) (byte file (p + 1)) p s at _ (by_asked k)
        (query_inside file p b functions predicates clauses p (omega arith, omega arith) s at (l, h))

  -- the record that stands here
  record Found (due : ℕ → Bool) (s at q t e : ℕ) : Type 0 where
    place : q ≡ at
    seen : t ≡ s
    kind : due (byte file q) ≡ true
    ends : e ≡ q + 1 + body_length (byte file q)
    within : e ≤ length file

  next_found : (due : ℕ → Bool) (s at q t e : ℕ) → next file due s at ≡ read q t e → Found due s at q t e
  unfolding next
  next_found due s at q t e =
      let G : Read ℕ → Type 0 = λ r. r ≡ read q t e → Found due s at q t e in
      if_by G _ (λ x r. absurd (never r)) λ u. if_by G _ (λ x r. absurd (never r)) λ d. if_by G _ (λ x r. absurd (never r)) λ h r.
      let place : q ≡ at = cc in
      let ends : e ≡ at + 1 + body_length (byte file at) = cc in
      let l : at + 1 + body_length (byte file at) ≤ length file = ltb-false _ _ h in
      record { place = place; seen = cc; kind = rw place (not-false _ d); ends = rw place ends; within = omega arith }

  -- ---- the beginning of the file, closed at a later place p, is read as far
  record Begins (p latest : ℕ) (functions predicates : List ℕ) (clauses : List Clause) (s at : ℕ) : Type 0 where
    more : ℕ
    enough : length (closed file p) ≤ at + more
    comes : parse_within (closed file p) a ≡ items (closed file p) a more latest functions predicates clauses s at

  record Begun (latest : ℕ) (functions predicates : List ℕ) (clauses : List Clause) (s at : ℕ) : Type 0 where
    started : a_function ≤ latest
    few : length clauses ≤ a.clauses
    begins : (p : ℕ) → at ≤ p → p ≤ length file → Begins p latest functions predicates clauses s at

  begun_start : Begun a_function [] [] [] 0 0
  unfolding parse_within
  begun_start = record { started = omega arith; few = omega arith; begins = λ p l h. record { more = length (closed file p); enough = omega arith; comes = refl } }

  -- the record that stands here stands there, and one item more is read
  module _ {p latest s at e : ℕ} {functions predicates : List ℕ} {clauses : List Clause} (B : Begins p latest functions predicates clauses s at) (f : Found (item_due latest) s at at s e) (l : e ≤ p) (h : p ≤ length file) where
    there : next (closed file p) (item_due latest) s at ≡ read at s e
    there =
        let d = f.ends in
        let k : byte (closed file p) at ≡ byte file at = closed_agrees file p h at (omega arith) in
        let long = closed_length file p h in
        let same : at + 1 + body_length (byte (closed file p) at) ≡ e = ap (λ (x : ℕ). at + 1 + body_length x) k ∙ sym d in
        next_is (closed file p) (item_due latest) s at (omega arith) (ap (item_due latest) k ∙ f.kind) (omega arith) ∙ ap (λ (x : ℕ). read at s x) same

    one_more : B.more ≡ suc (B.more - 1)
    one_more = let d = f.ends in let long = closed_length file p h in let m = B.enough in omega arith

    -- the file that is closed there
    abbrev short : List ℕ
    short = closed file p

    kind_there : (k : ℕ) → byte file at ≡ k → byte short at ≡ k
    kind_there k e = let d = f.ends in closed_agrees file p h at (omega arith) ∙ e

    module _ (latest₁ : ℕ) (functions₁ predicates₁ : List ℕ) (clauses₁ : List Clause) (s₁ e₁ : ℕ) where
      begins_on : e ≤ e₁ → ((more : ℕ) → items short a (suc more) latest functions predicates clauses s at ≡ items short a more latest₁ functions₁ predicates₁ clauses₁ s₁ e₁) → Begins p latest₁ functions₁ predicates₁ clauses₁ s₁ e₁
      begins_on i k =
          let d = f.ends in
          let m = B.enough in
          let o = one_more in
          record { more = B.more - 1; enough = omega arith; comes = B.comes ∙ ap (λ (n : ℕ). items short a n latest functions predicates clauses s at) o ∙ k (B.more - 1) }

    arity_there : at + 2 ≤ e → byte short (at + 1) ≡ byte file (at + 1)
    arity_there i = closed_agrees file p h (at + 1) (omega arith)

    begins_function : byte file at ≡ a_function → (ltb (length functions) function_limit && leb (byte file (at + 1)) arity_limit) ≡ true → at + 2 ≤ e → Begins p a_function (functions ++ byte file (at + 1) ∷ []) predicates clauses s e
    begins_function k t i = begins_on _ _ _ _ _ _ (omega arith) λ more. function_item short a more latest functions predicates clauses s at e there (kind_there _ k) (rw (arity_there i) t) ∙ rw (arity_there i) refl

    begins_predicate : byte file at ≡ a_predicate → (ltb (length predicates) predicate_limit && leb (byte file (at + 1)) arity_limit) ≡ true → at + 2 ≤ e → Begins p a_predicate functions (predicates ++ byte file (at + 1) ∷ []) clauses s e
    begins_predicate k t i = begins_on _ _ _ _ _ _ (omega arith) λ more. predicate_item short a more latest functions predicates clauses s at e there (kind_there _ k) (rw (arity_there i) t) ∙ rw (arity_there i) refl

    begins_clause : (c : Clause) (s₁ e₁ : ℕ) → byte file at ≡ a_clause → ltb (length clauses) a.clauses ≡ true → at + 5 ≤ e → e ≤ e₁ → e₁ ≤ p → clause file a functions predicates at s e ≡ read c s₁ e₁ → Begins p a_clause functions predicates (clauses ++ c ∷ []) s₁ e₁
    begins_clause c s₁ e₁ k t i j by r =
        let long = closed_length file p h in
        let same = clause_same file short p (omega arith) (closed_agrees file p h) functions predicates a at s e (omega arith) in
        begins_on _ _ _ _ _ _ j λ more. clause_item short a more latest functions predicates clauses s at e there c s₁ e₁ (kind_there _ k) t
        (same_read file short p (omega arith) (closed_agrees file p h) (rw r at same) by)

  -- ---- the items by both limits
  need_raised : {B : Type 0} (t : Bool) (n q s at : ℕ) (f g : Unit {0} → Reader B) → (t ≡ true → Raised (f tt s at) (g tt s at)) → Raised (after (need t n q s at) f) (after (need t n q s at) g)
  unfolding need after
  need_raised true n q s at f g h = h refl
  need_raised false n q s at f g h = same _

  module _ {latest s at e : ℕ} {functions predicates : List ℕ} {clauses : List Clause} (B : Begun latest functions predicates clauses s at) (f : Found (item_due latest) s at at s e) where
    -- the clause that stands here is one too many
    too_many : byte file at ≡ a_clause → a.clauses ≤ length clauses → TooLarge a file at
    too_many k l =
        let d = f.ends in
        let i = f.within in
        let inside : at ≤ length file = omega arith in
        let C = B.begins at (omega arith) inside in
        let m = C.enough in
        let long = closed_length file at inside in
        let one : C.more ≡ suc (C.more - 1) = omega arith in
        let few = B.few in
        by_clauses (record { functions = functions; predicates = predicates; clauses = clauses; variables = 0; query = [] })
        (0, length (closed file at), C.comes ∙ ap (λ (n : ℕ). items (closed file at) a n latest functions predicates clauses s at) one ∙ closed_reads file at inside a (C.more - 1) latest functions predicates clauses s)
        (omega arith) k

    record_ends : (k : ℕ) → byte file at ≡ k → e ≡ at + 1 + body_length k
    record_ends k h = f.ends ∙ ap (λ (x : ℕ). at + 1 + body_length x) h

    begun_function : byte file at ≡ a_function → (ltb (length functions) function_limit && leb (byte file (at + 1)) arity_limit) ≡ true → Begun a_function (functions ++ byte file (at + 1) ∷ []) predicates clauses s e
    unfolding body_length body_lengths
    begun_function k t =
        let d = record_ends a_function k in
        record { started = omega arith; few = B.few; begins = λ p l h. begins_function (B.begins p (omega arith) h) f l h k t (omega arith) }

    begun_predicate : byte file at ≡ a_predicate → (ltb (length predicates) predicate_limit && leb (byte file (at + 1)) arity_limit) ≡ true → Begun a_predicate functions (predicates ++ byte file (at + 1) ∷ []) clauses s e
    unfolding body_length body_lengths
    begun_predicate k t =
        let d = record_ends a_predicate k in
        record { started = omega arith; few = B.few; begins = λ p l h. begins_predicate (B.begins p (omega arith) h) f l h k t (omega arith) }

    begun_clause : (c : Clause) (s₁ e₁ : ℕ) → byte file at ≡ a_clause → ltb (length clauses) a.clauses ≡ true → clause file a functions predicates at s e ≡ read c s₁ e₁ → Begun a_clause functions predicates (clauses ++ c ∷ []) s₁ e₁
    unfolding body_length body_lengths
    begun_clause c s₁ e₁ k t r =
        let d = record_ends a_clause k in
        let j : e ≤ e₁ = onward_read (subst (Onward e) r (clause_on file functions predicates a at s e)) in
        let less : length clauses < a.clauses = ltb-true _ _ t in
        let more = length-append clauses (c ∷ []) in
        record { started = omega arith; few = omega arith; begins = λ p l h. begins_clause (B.begins p (omega arith) h) f (omega arith) h c s₁ e₁ k t (omega arith) j l r }

    places : Within file at at × Within file at e
    places = let d = f.ends in let w = f.within in ((omega arith, omega arith), (omega arith, w))

    -- a clause, and what follows it
    one_inside : (h : Clause → Reader Rules) → ((p : ℕ) (c : Clause) → Stays file p (h c))
        → Inside file at (Any file at) (after (need (ltb (length clauses) b.clauses) 6 at s e) (λ u. ◌>>=◌ (clause file b functions predicates at) h))
    unfolding ◌>>=◌
    one_inside h o =
        after_inside file at (need_inside file at _ 6 at (record { least = omega arith; most = omega arith; place = places.0 }) s e places.1) λ u v s₁ e₁ l₁.
        after_inside file at (clause_inside file at b functions predicates at places.0 s₁ e₁ l₁) λ c v. o at c

    one_raised : {g h : Clause → Reader Rules} → byte file at ≡ a_clause → ((c : Clause) (s₁ e₁ : ℕ) → ltb (length clauses) a.clauses ≡ true → clause file a functions predicates at s e ≡ read c s₁ e₁ → Raised (g c s₁ e₁) (h c s₁ e₁))
        → ((p : ℕ) (c : Clause) → Stays file p (h c))
        → Raised (after (need (ltb (length clauses) a.clauses) 6 at s e) (λ u. ◌>>=◌ (clause file a functions predicates at) g)) (after (need (ltb (length clauses) b.clauses) 6 at s e) (λ u. ◌>>=◌ (clause file b functions predicates at) h))
    unfolding need after ◌>>=◌
    one_raised {g} {h} k i o = go (ltb (length clauses) a.clauses) refl
      where
        go : (z : Bool) → ltb (length clauses) a.clauses ≡ z → Raised (after (need (ltb (length clauses) a.clauses) 6 at s e) (λ u. ◌>>=◌ (clause file a functions predicates at) g)) (after (need (ltb (length clauses) b.clauses) 6 at s e) (λ u. ◌>>=◌ (clause file b functions predicates at) h))
        go true z =
            let l : length clauses < a.clauses = ltb-true _ _ z in
            rw (z, lt-ltb (length clauses) b.clauses (omega arith)) (after_raised (clause_raised functions predicates at s e places.1.0 places.1.1 k) (λ c s₁ e₁ r. i c s₁ e₁ z r) o)
        go false z = rw z (passed (too_many k (ltb-false _ _ z)) (one_inside h o))

  items_raised : (more latest : ℕ) (functions predicates : List ℕ) (clauses : List Clause) (s at : ℕ) → Begun latest functions predicates clauses s at
      → Raised (items file a more latest functions predicates clauses s at) (items file b more latest functions predicates clauses s at)
  unfolding items ◌>>◌ ◌>>=◌
  items_raised zero latest functions predicates clauses s at B = same _
  items_raised (suc more) latest functions predicates clauses s at B =
      after_same (next file (item_due latest) s at) λ q t e r.
      let F = next_found (item_due latest) s at q t e r in
      let f : Found (item_due latest) s at at s e = rw (F.place, F.seen) at F in
      rw (F.place, F.seen)
      (if_both (λ (x y : Reader Rules). Raised (x s e) (y s e)) _
      (λ v. let k = eqb-true _ _ v in need_raised _ 6 at s e _ _ λ z. items_raised more _ _ _ _ s e (begun_function B f k z))
      λ v₁. if_both (λ (x y : Reader Rules). Raised (x s e) (y s e)) _
      (λ v. let k = eqb-true _ _ v in need_raised _ 6 at s e _ _ λ z. items_raised more _ _ _ _ s e (begun_predicate B f k z))
      λ v₂. if_both (λ (x y : Reader Rules). Raised (x s e) (y s e)) _
      (λ v. let k = eqb-true _ _ v in one_raised B f k (λ c s₁ e₁ z r. items_raised more _ _ _ _ s₁ e₁ (begun_clause B f c s₁ e₁ k z r)) λ p c. items_inside file p b more _ _ _ _)
      λ v₃. let d = f.ends in
      after_raised (query_raised functions predicates at s e (omega arith) f.within clauses (query_left latest (byte file at) B.started f.kind v₁ v₂ v₃)) (λ R s₁ e₁ r. same _) λ p R. close_inside file p R)

  parse_raised : Raised (parse_within file a) (parse_within file b)
  unfolding parse_within
  parse_raised = items_raised (length file) a_function [] [] [] 0 0 begun_start

  same_good : {r t : Read Rules} {R : Rules} {s e : ℕ} → Raised r t → r ≡ read R s e → t ≡ read R s e
  same_good (same r) q = q
  same_good (passed h i) q = absurd (never q)

  same_refusal : {r t : Read Rules} {n p : ℕ} → Raised r t → r ≡ refused n p → ¬ ((n ≡ 6) × TooLarge a file p) → t ≡ refused n p
  same_refusal (same r) q k = q
  same_refusal {n} {p} (passed {p = q₁} h i) q k = let m : n ≡ 6 = cc in let j : q₁ ≡ p = cc in absurd (k (m, subst (TooLarge a file) j h))

  later_refusal : {r t : Read Rules} {n p m q : ℕ} → Raised r t → r ≡ refused n p → t ≡ refused m q → p ≤ q
  later_refusal {p} {q} (same r) e h = let same : p ≡ q = cc in omega arith
  later_refusal {p} {q} (passed {p = i} k l) e h =
      let here : i ≡ p = cc in
      let from = (fault_of file i (subst (Inside file i (Any file i)) h l)).place.0 in
      omega arith

  -- what is good stays good, and says the same; what is refused for another reason stays refused
  pub larger_good : (R : Rules) (s e : ℕ) → parse_within file a ≡ read R s e → parse_within file b ≡ read R s e
  larger_good R s e = same_good parse_raised

  pub larger_refused : (n p : ℕ) → parse_within file a ≡ refused n p → ¬ ((n ≡ 6) × TooLarge a file p) → parse_within file b ≡ refused n p
  larger_refused n p = same_refusal parse_raised

  pub larger_later : (n p m q : ℕ) → parse_within file a ≡ refused n p → parse_within file b ≡ refused m q → p ≤ q
  larger_later n p m q = later_refusal parse_raised

-- ---- the earlier limits and today's
still_good : (file : List ℕ) (R : Rules) (s e : ℕ) → parse_within file earlier_limits ≡ read R s e → parse file ≡ read R s e
still_good file = larger_good file earlier_limits todays_limits (omega arith) (omega arith)

pub accepted_before : AcceptedBefore
accepted_before file R (s, e, q) = (s, e, still_good file R s e q)

pub refused_before : RefusedBefore
refused_before file = larger_refused file earlier_limits todays_limits (omega arith) (omega arith)

pub refused_later : RefusedLater
refused_later file = larger_later file earlier_limits todays_limits (omega arith) (omega arith)

pub same_result : (E : Edition) (file : List ℕ) (R : Rules) → SaysWithin earlier_limits file R → (L : Limits) (budget wanted scratch room : ℕ)
    → result_by (within earlier_limits E) file L budget wanted scratch room ≡ result_by (within todays_limits E) file L budget wanted scratch room
unfolding result_by run_read
same_result E file R (s, e, q) L budget wanted scratch room = rw (q, still_good file R s e q) refl

pub same_calls : SameCalls
same_calls E file R says L budget wanted scratch out r scratch_then out_then l =
    record { result_is = l.result_is ∙ same_result E file R says L budget wanted (length scratch) (length out); scratch_is = l.scratch_is; output_is = l.output_is }

pub same_refusals : SameRefusals
unfolding result_by run_read ending
same_refusals E file L budget wanted scratch room n p e k =
    let P : Result → Result → Type 0 = λ x y. x ≡ refusal n p → y ≡ refusal n p in
    if_both P _ (λ u q. q) (λ u. if_both P _ (λ u q. q) λ u. if_both P _ (λ u q. q) λ u. go (parse_within file earlier_limits) refl) e
  where
    go : (r : Read Rules) → parse_within file earlier_limits ≡ r → run_read (within earlier_limits E) r L budget wanted room ≡ refusal n p → run_read (within todays_limits E) (parse file) L budget wanted room ≡ refusal n p
    go (refused m q) f h =
        let number : m ≡ n = cc in
        let place : q ≡ p = cc in
        rw (refused_before file m q f λ (z, w). k (sym number ∙ z, subst (TooLarge earlier_limits file) place w)) h
    go (read R s at) f h = let z : ◌≡◌ {A = ℕ} 0 1 = cc in absurd (omega arith)

pub same_embedded : SameEmbedded
unfolding embedded_by embedded_in
same_embedded E file R says budget wanted room = rw (same_result E file R says embedded_limits budget wanted embedded_scratch (min room room_limit)) refl
