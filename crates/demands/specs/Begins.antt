-- What is read of a file up to a place is read in every file that begins with the same bytes, reader by reader.
-- Assumes nothing.
use Prim.Native.Nat.{ℕ, zero, suc, ◌+◌, ◌*◌, ◌≤◌, ◌<◌}
use Rattle.std.specs.Prelude.{◌≡◌, Bool, not, List, ltb, length}
use Rattle.std.proofs.Math.Path.{refl, ap, ap₂}
use Rattle.std.proofs.Common.{◌∙◌, arith, ltb-true, ltb-false, eqb-true, le-ltb}
use Rattle.std.proofs.Math.Bool.{true, false}
use Rattle.std.proofs.lemmas.Bool.{not-false, lt-leb}
use Rattle.meaning.specs.Terms.{Term}
use Rattle.meaning.specs.Kinds.{body_lengths, body_length, a_variable, an_application, a_goal, level_limit, RuleLimits}
use Rattle.meaning.specs.Rules.{Goal}
use Rattle.meaning.specs.Reading.{Read, refused, read, Reader, after, ◌>>=◌, ◌>>◌, give, refuse, need, terms, goals, none_seen, all_seen, term_due, goal_due}
use Rattle.meaning.specs.Reading.{byte, two_bytes, next, variable, applied, term, arguments, called, goal, clause}
use Rattle.laws.specs.IfLaws.{if_by, if_both, if_false}
use Rattle.laws.specs.Due.{application_left, goal_left}
use Rattle.laws.specs.Onward.{here, onto, Onward, stop, on, variable_on, applied_on, term_on, called_on}

-- a record that is due and whole is read
pub next_is : (file : List ℕ) (due : ℕ → Bool) (s at : ℕ) → at < length file → due (byte file at) ≡ true → at + 1 + body_length (byte file at) ≤ length file
    → next file due s at ≡ read at s (at + 1 + body_length (byte file at))
unfolding next
next_is file due s at l d h = if_false _ _ _ (lt-leb (length file) at l) ∙ if_false _ _ _ (ap not d) ∙ if_false _ _ _ (le-ltb (length file) _ h)

module _ (file other : List ℕ) (p : ℕ) (long : p ≤ length other) (agree : (i : ℕ) → i < p → byte other i ≡ byte file i) where
  -- what was read ends at or after a place and, if it ends by the place p, is read in the other file too
  pub data Same {A : Type 0} (at : ℕ) : Read A → Read A → Type 0 where
    stops : {n q : ℕ} {r : Read A} → Same at (refused n q) r
    reads : {a : A} {s e : ℕ} {r : Read A} → at ≤ e → (e ≤ p → r ≡ read a s e) → Same at (read a s e) r

  pub same_read : {A : Type 0} {at : ℕ} {a : A} {s e : ℕ} {r : Read A} → Same at (read a s e) r → e ≤ p → r ≡ read a s e
  same_read (reads u h) l = h l

  same_from : {A : Type 0} {at b : ℕ} {r t : Read A} → at ≤ b → Same b r t → Same at r t
  same_from l stops = stops
  same_from l (reads u h) = reads (onto l u) h

  this : {A : Type 0} (a : A) (s e : ℕ) → Same e (read a s e) (read a s e)
  this a s e = reads (here e) λ l. refl

  -- beyond the place p the other file says nothing
  beyond : {A : Type 0} {at : ℕ} {r : Read A} (t : Read A) → p < at → Onward at r → Same at r t
  beyond t h stop = stops
  beyond t h (on u) = reads u λ l. absurd (omega arith)

  after_same : {A B : Type 0} {at : ℕ} {r t : Read A} {f g : A → Reader B} → Same at r t → ((a : A) (s e : ℕ) → Same e (f a s e) (g a s e)) → Same at (after r f) (after t g)
  unfolding after
  after_same stops k = stops
  after_same {A} {B} {at} {t} {f} {g} (reads {a} {s} {e} u h) k = go (f a s e) (k a s e)
    where
      go : (x : Read B) → Same e x (g a s e) → Same at x (after t g)
      go (refused n q) w = stops
      go (read b s₁ e₁) (reads v w) = reads (onto u v) λ (l : e₁ ≤ p). ap (λ (y : Read A). after y g) (h (omega arith)) ∙ w l

  need_same : (b : Bool) (n q s at : ℕ) → Same at (need b n q s at) (need b n q s at)
  unfolding need
  need_same true n q s at = this tt s at
  need_same false n q s at = stops

  -- the record that stands here, where it ends by the place p
  record Record (due : ℕ → Bool) (at q e : ℕ) : Type 0 where
    place : q ≡ at
    kind : due (byte file q) ≡ true
    ends : e ≡ q + 1 + body_length (byte file q)
    by : e ≤ p

  next_same : {B : Type 0} (due : ℕ → Bool) (s at : ℕ) {f g : ℕ → Reader B} → ((q s e : ℕ) → Record due at q e → Same e (f q s e) (g q s e)) → ((q s e : ℕ) → Onward e (f q s e))
      → Same at (after (next file due s at) f) (after (next other due s at) g)
  unfolding next after
  next_same {B} due s at {f} {g} k o =
      let Q : Read ℕ → Type 0 = λ r. Same at (after r f) (after (next other due s at) g) in
      if_by Q _ (λ e. stops) λ u. if_by Q _ (λ e. stops) λ d. if_by Q _ (λ e. stops) λ h. go (not-false _ d) (ltb p end) refl
    where
      end : ℕ
      end = at + 1 + body_length (byte file at)

      go : due (byte file at) ≡ true → (b : Bool) → ltb p end ≡ b → Same at (f at s end) (after (next other due s at) g)
      go d true l = same_from (omega arith) (beyond (after (next other due s at) g) (ltb-true _ _ l) (o at s end))
      go d false l =
          let by : end ≤ p = ltb-false _ _ l in
          let kind : byte other at ≡ byte file at = agree at (omega arith) in
          let e : at + 1 + body_length (byte other at) ≡ end = ap (λ (x : ℕ). at + 1 + body_length x) kind in
          let there : next other due s at ≡ read at s end = next_is other due s at (omega arith) (ap due kind ∙ d) (omega arith) ∙ ap (λ (x : ℕ). read at s x) e in
          rw there (same_from (omega arith) (k at s end (record { place = refl; kind = d; ends = refl; by = by })))

  -- the bytes of that record
  kind_same : {due : ℕ → Bool} {at q e : ℕ} → Record due at q e → byte other q ≡ byte file q
  kind_same {q} r = let h = r.ends in let l = r.by in agree q (omega arith)

  record_ends : {due : ℕ → Bool} {at q e : ℕ} (k : ℕ) → Record due at q e → byte file q ≡ k → e ≡ q + 1 + body_length k
  record_ends {q} k r h = r.ends ∙ ap (λ (x : ℕ). q + 1 + body_length x) h

  two_same : (i : ℕ) → i + 1 < p → two_bytes other i ≡ two_bytes file i
  unfolding two_bytes
  two_same i h = ap₂ (λ (x y : ℕ). 256 * x + y) (agree i (omega arith)) (agree (i + 1) h)

  -- ---- terms
  terms_same : (one two : Reader Term) → ((s at : ℕ) → Same at (one s at) (two s at)) → (n s at : ℕ) → Same at (terms one n s at) (terms two n s at)
  unfolding terms ◌>>=◌ give
  terms_same one two h zero s at = this _ s at
  terms_same one two h (suc n) s at = after_same (h s at) λ t s₁ e₁. after_same (terms_same one two h n s₁ e₁) λ ts s₂ e₂. this _ s₂ e₂

  variable_same : (declared q s at : ℕ) → q + 1 < p → Same at (variable file declared q s at) (variable other declared q s at)
  unfolding variable
  variable_same declared q s at h =
      let P : Read Term → Read Term → Type 0 = Same at in
      rw (agree (q + 1) h) (if_both P _ (λ e. stops) λ e. if_both P _ (λ d. stops) λ d. if_both P _ (λ z. this _ _ at) λ z. this _ s at)

  applied_same : (functions : List ℕ) (one two : Reader Term) → ((s at : ℕ) → Same at (one s at) (two s at)) → (q s at : ℕ) → q + 2 < p
      → Same at (applied file functions one q s at) (applied other functions two q s at)
  unfolding applied ◌>>◌ ◌>>=◌ give
  applied_same functions one two h q s at l =
      rw (two_same (q + 1) (omega arith)) (after_same (need_same _ 6 q s at) λ u s₁ e₁. after_same (terms_same one two h _ s₁ e₁) λ ts s₂ e₂. this _ s₂ e₂)

  term_same : (functions : List ℕ) (declared levels s at : ℕ) → Same at (term file functions declared levels s at) (term other functions declared levels s at)
  unfolding term ◌>>=◌ refuse body_length body_lengths
  term_same functions declared zero s at = next_same term_due s at (λ q s₁ e₁ r. stops) λ q s₁ e₁. stop
  term_same functions declared (suc levels) s at =
      next_same term_due s at
      (λ q s₁ e₁ r.
      let l = r.by in
      rw (kind_same r)
      (if_both (λ (x y : Reader Term). Same e₁ (x s₁ e₁) (y s₁ e₁)) _
      (λ v. let h = record_ends a_variable r (eqb-true _ _ v) in variable_same declared q s₁ e₁ (omega arith))
      λ v. let h = record_ends an_application r (application_left _ r.kind v) in applied_same functions _ _ (term_same functions declared levels) q s₁ e₁ (omega arith)))
      λ q s₁ e₁. if_by (λ (x : Reader Term). Onward e₁ (x s₁ e₁)) _ (λ v. variable_on file functions declared q s₁ e₁) λ v. applied_on file functions declared _ (term_on file functions declared levels) q s₁ e₁

  arguments_same : (functions : List ℕ) (declared n s at : ℕ) → Same at (arguments file functions declared n s at) (arguments other functions declared n s at)
  unfolding arguments
  arguments_same functions declared n s at = terms_same _ _ (term_same functions declared level_limit) n s at

  -- ---- goals and clauses
  module _ (functions predicates : List ℕ) where
    called_same : (declared q s at : ℕ) → q + 2 < p → Same at (called file functions predicates declared q s at) (called other functions predicates declared q s at)
    unfolding called ◌>>◌ ◌>>=◌ give
    called_same declared q s at l =
        rw (two_same (q + 1) (omega arith)) (after_same (need_same _ 6 q s at) λ u s₁ e₁. after_same (arguments_same functions declared _ s₁ e₁) λ ts s₂ e₂. this _ s₂ e₂)

    goal_same : (declared s at : ℕ) → Same at (goal file functions predicates declared s at) (goal other functions predicates declared s at)
    unfolding goal ◌>>=◌ give body_length body_lengths
    goal_same declared s at =
        next_same goal_due s at
        (λ q s₁ e₁ r.
        let l = r.by in
        rw (kind_same r)
        (if_both (λ (x y : Reader Goal). Same e₁ (x s₁ e₁) (y s₁ e₁)) _ (λ v. this _ s₁ e₁)
        λ v. let h = record_ends a_goal r (goal_left _ r.kind v) in called_same declared q s₁ e₁ (omega arith)))
        λ q s₁ e₁. if_by (λ (x : Reader Goal). Onward e₁ (x s₁ e₁)) _ (λ v. on (here e₁)) λ v. called_on file functions predicates declared q s₁ e₁

    goals_same : (declared n s at : ℕ) → Same at (goals (goal file functions predicates declared) n s at) (goals (goal other functions predicates declared) n s at)
    unfolding goals ◌>>=◌ give
    goals_same declared zero s at = this _ s at
    goals_same declared (suc n) s at = after_same (goal_same declared s at) λ g s₁ e₁. after_same (goals_same declared n s₁ e₁) λ gs s₂ e₂. this _ s₂ e₂

    pub clause_same : (most : RuleLimits) (q s at : ℕ) → q + 4 < p → Same at (clause file most functions predicates q s at) (clause other most functions predicates q s at)
    unfolding clause none_seen all_seen ◌>>◌ ◌>>=◌ give
    clause_same most q s at l =
        rw (two_same (q + 1) (omega arith), agree (q + 3) (omega arith), agree (q + 4) l)
        (after_same (need_same _ 6 q s at) λ u s₁ e₁.
        after_same (this tt 0 e₁) λ u s₂ e₂.
        after_same (arguments_same functions _ _ s₂ e₂) λ ts s₃ e₃.
        after_same (goals_same _ _ s₃ e₃) λ gs s₄ e₄.
        after_same (need_same _ 7 q s₄ e₄) λ u s₅ e₅. this _ s₅ e₅)
