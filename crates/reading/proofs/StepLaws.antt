-- One reader after another, and one record: where the code's steps come to.
-- Assumes nothing.
use Prim.Native.Nat.{ℕ, zero, suc, ◌+◌, ◌≤◌, ◌<◌}
use mathlib.Core.Path.{◌≡◌, refl, sym, ap, ◌∙◌}
use mathlib.Core.Bool.{Bool, true, false, ◌||◌, not}
use mathlib.Core.List.{List, [], ◌∷◌}
use native.Mathlib.Omega.{arith}
use lib.Dec.{leb, ltb, eqb}
use lib.ListN.{length, get_or}
use borrow.Author.Tests.{lt-ltb, le-ltb, le-leb, lt-leb, leb-true, leb-false, ltb-true, ltb-false, eqb-true}
use Rattle.std.specs.Prelude.{Result, Ok, Err}
use Rattle.std.specs.Result.{IsErrAnd}
use Rattle.std.proofs.lemmas.Result.{err_from_is_err_and}
use Rattle.meaning.specs.Kinds.{body_length}
use Rattle.meaning.specs.Reading.{Read, refused, read, Reader, after, byte, next}
use Rattle.meaning.specs.declared.Refusal.{Refusal}
use Rattle.reading.specs.Steps.{step, either, only}
use Rattle.reading.specs.declared.step.Reached.{Reached}
use Rattle.laws.specs.IfLaws.{if_true, if_false}

-- ---- readers
-- what a reader of the code answers
abbrev pub Step : Type 0
Step = Result Reached Refusal

-- what a `?` passes on
pub passed_on : {A : Type 0} {x y : Result A Refusal} {e : Refusal} → IsErrAnd y (λ z. z ≡ e) → Err e ≡ x → y ≡ x
passed_on {y} h g = let p = err_from_is_err_and y h in p.1 ∙ ap Err p.2 ∙ g

-- where a step comes to, there the reader does
pub record Came {A : Type 0} (r : Read A) (t : Reached) : Type 0 where
  pub value : A
  pub same : r ≡ read value t.seen t.at

pub came : {A : Type 0} (r : Read A) {t : Reached} → Ok t ≡ step r → Came r t
unfolding step
came (refused n p) e = cc
came (read a s i) {t} e =
    let k : ◌≡◌ {A = Reached} (record { seen = s; at = i }) t = cc in
    record { value = a; same = ap (λ (t : Reached). read a t.seen t.at) k }

pub after_refused : {A B : Type 0} (r : Read A) (f : A → Reader B) {e : Refusal} → Err e ≡ step r → Err e ≡ step (after r f)
unfolding step after
after_refused (refused n p) f e = e
after_refused (read a s i) f e = cc

pub after_next : {A B : Type 0} (r : Read A) (f : A → Reader B) {t : Reached} {y : Step} → Ok t ≡ step r → ((a : A) → y ≡ step (f a t.seen t.at)) → y ≡ step (after r f)
unfolding step after
after_next (refused n p) f e k = cc
after_next (read a s i) f {t} e k =
    let p : ◌≡◌ {A = Reached} t (record { seen = s; at = i }) = cc in
    k a ∙ ap (λ (t : Reached). step (f a t.seen t.at)) p

-- a value that is only made over
pub after_give : {A B : Type 0} (r : Read A) (f : A → B) → step (after r (λ a s e. read (f a) s e)) ≡ step r
unfolding step after
after_give (refused n p) f = refl
after_give (read a s t) f = refl

-- readers that come to the same steps
pub after_same : {A B C : Type 0} (r : Read A) (f : A → Reader B) (g : A → Reader C) → ((a : A) (s e : ℕ) → step (f a s e) ≡ step (g a s e)) → step (after r f) ≡ step (after r g)
unfolding step after
after_same (refused n p) f g h = refl
after_same (read a s e) f g h = h a s e

-- ---- past its end the file has no kind
get_or_past : (l : List ℕ) (i : ℕ) → length l ≤ i → get_or l i 0 ≡ 0
get_or_past [] i h = refl
get_or_past (a ∷ l) zero h = absurd (omega arith)
get_or_past (a ∷ l) (suc i) h = get_or_past l i (omega arith)

pub byte_past : (file : List ℕ) (at : ℕ) → length file ≤ at → byte file at ≡ 0
unfolding byte
byte_past = get_or_past

-- ---- one record
module _ (file : List ℕ) (due : ℕ → Bool) (at : ℕ) where
  abbrev end : ℕ
  end = at + 1 + body_length (byte file at)

  pub next_missing : (seen : ℕ) → length file ≤ at → next file due seen at ≡ refused 4 at
  unfolding next
  next_missing seen h = if_true _ _ _ (le-leb _ _ h)

  module _ (seen : ℕ) (h : at < length file) where
    pub next_other : due (byte file at) ≡ false → next file due seen at ≡ refused 5 at
    unfolding next
    next_other d = if_false _ _ _ (lt-leb _ _ h) ∙ if_true _ _ _ (ap not d)

    pub next_short : due (byte file at) ≡ true → length file < end → next file due seen at ≡ refused 4 at
    unfolding next
    next_short d s = if_false _ _ _ (lt-leb _ _ h) ∙ if_false _ _ _ (ap not d) ∙ if_true _ _ _ (lt-ltb _ _ s)

    pub next_good : due (byte file at) ≡ true → end ≤ length file → next file due seen at ≡ read at seen end
    unfolding next
    next_good d s = if_false _ _ _ (lt-leb _ _ h) ∙ if_false _ _ _ (ap not d) ∙ if_false _ _ _ (le-ltb _ _ s)

-- where the record is good: its place, its kind and the place after it
pub record Found (file : List ℕ) (due : ℕ → Bool) (at e : ℕ) : Type 0 where
  pub gives : (t : ℕ) → next file due t at ≡ read at t e
  pub here : at < length file
  pub kind : due (byte file at) ≡ true
  pub end : e ≡ at + 1 + body_length (byte file at)
  pub inside : e ≤ length file

-- where it is not, whatever has appeared
pub record Lost (file : List ℕ) (due : ℕ → Bool) (at : ℕ) : Type 0 where
  pub number : ℕ
  pub place : ℕ
  pub gives : (t : ℕ) → next file due t at ≡ refused number place

pub data Looked (file : List ℕ) (due : ℕ → Bool) (at : ℕ) : Type 0 where
  lost : Lost file due at → Looked file due at
  found : (e : ℕ) → Found file due at e → Looked file due at

pub look : (file : List ℕ) (due : ℕ → Bool) (at : ℕ) → Looked file due at
look file due at = missing (leb (length file) at) refl
  where
    short : at < length file → due (byte file at) ≡ true → (b : Bool) → ltb (length file) (at + 1 + body_length (byte file at)) ≡ b → Looked file due at
    short h d true s = lost (record { number = 4; place = at; gives = λ t. next_short file due at t h d (ltb-true _ _ s) })
    short h d false s =
        let i = ltb-false _ _ s in
        found _ (record { gives = λ t. next_good file due at t h d i; here = h; kind = d; end = refl; inside = i })

    other : at < length file → (b : Bool) → due (byte file at) ≡ b → Looked file due at
    other h true d = short h d _ refl
    other h false d = lost (record { number = 5; place = at; gives = λ t. next_other file due at t h d })

    missing : (b : Bool) → leb (length file) at ≡ b → Looked file due at
    missing true e = lost (record { number = 4; place = at; gives = λ t. next_missing file due at t (leb-true _ _ e) })
    missing false e = other (leb-false _ _ e) _ refl

-- of one kind that is due
pub only_eqb : (kind k : ℕ) → only kind k ≡ eqb k kind
unfolding either
only_eqb kind k = go (eqb k kind)
  where
    go : (b : Bool) → (b || b) ≡ b
    go true = refl
    go false = refl

-- only the kind that stands here is asked for
pub next_due : (file : List ℕ) (due due' : ℕ → Bool) (seen at : ℕ) → due (byte file at) ≡ due' (byte file at) → next file due seen at ≡ next file due' seen at
unfolding next
next_due file due due' seen at e = rw e

-- the record is good: with what has appeared, its place and the place after it reading goes on
module _ (file : List ℕ) (due : ℕ → Bool) (seen at : ℕ) {t : Reached} (h : Ok t ≡ step (next file due seen at)) where
  pub next_found : (t.seen ≡ seen) × Found file due at t.at
  unfolding step
  next_found = go (look file due at)
    where
      go : Looked file due at → (t.seen ≡ seen) × Found file due at t.at
      go (lost l) = let k = h ∙ ap step (l.gives seen) in cc
      go (found e f) =
          let k : ◌≡◌ {A = Step} (Ok t) (Ok (record { seen = seen; at = e })) = h ∙ ap step (f.gives seen) in
          let p : ◌≡◌ {A = Reached} t (record { seen = seen; at = e }) = cc in
          let q : e ≡ t.at = sym (ap (λ (t : Reached). t.at) p) in
          (ap (λ (t : Reached). t.seen) p, rw q at f)

  pub next_then : {A : Type 0} (f : ℕ → Reader A) → after (next file due seen at) f ≡ f at t.seen t.at
  unfolding after
  next_then f = let (s, n) = next_found in rw (n.gives seen, s)

  -- so its body is in the file
  pub body_inside : (kind : ℕ) → byte file at ≡ kind → at + body_length kind < length file
  body_inside kind k = let f = next_found.1 in let b = ap body_length k in omega (arith, f.end, f.inside)

pub only_inside : (file : List ℕ) (kind seen at : ℕ) {t : Reached} → Ok t ≡ step (next file (only kind) seen at) → at + body_length kind < length file
only_inside file kind seen at h = body_inside file _ seen at h kind (eqb-true _ _ (sym (only_eqb kind (byte file at)) ∙ (next_found file _ seen at h).1.kind))
