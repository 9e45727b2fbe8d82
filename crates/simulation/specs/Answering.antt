-- The answer that is written is the definition's: where its writing stops, and its bytes.
-- Assumes nothing.
use Prim.Native.Nat.{ℕ, zero, suc, ◌+◌, ◌*◌, ◌^◌, ◌≤◌, ◌<◌}
use Rattle.std.proofs.Math.Path.{◌≡◌, refl, ap, sym, subst}
use Rattle.std.proofs.Common.{ap₂, ◌∙◌, inl, inr, eqb-true, length-append, get_or-set_same}
use Rattle.std.specs.Prelude.{Bool, Result, Ok, Err, eqb}
use Rattle.std.proofs.Math.Bool.{true, false}
use mathlib.Core.List.{List, [], ◌∷◌, ◌++◌, map, append_assoc, append-nil}
use Rattle.std.proofs.Math.Option.{some, some-injective}
use native.Mathlib.Omega.{arith}
use Rattle.std.proofs.lemmas.Bool.{eqb-false}
use Rattle.std.proofs.Math.ListN.{length, get_elem?, set, drop, length-set}
use Rattle.std.proofs.Math.Seq.{sets, length-sets, sets-eq}
use Rattle.meaning.specs.If.{when◌then◌else◌}
use Rattle.meaning.specs.Terms.{Term, var, Terms, []ₜ, count, insts, values_from, row}
use Rattle.meaning.specs.Kinds.{an_answer, the_answer_end}
use Rattle.meaning.specs.Store.{value}
use Rattle.meaning.specs.Answers.{Answer, appears, index, renumbered, Piece, piece, two, write_each, write_step, pieces, bytes_of, bytes, fits, stops, fitting}
use Rattle.meaning.specs.Moves.{Derivation, Choice, answer}
use Rattle.meaning.specs.Call.{needed}
use Rattle.meaning.specs.Outcome.{end_number}
use Rattle.meaning.specs.declared.End.{End}
use Rattle.meaning.specs.declared.End.TheVariants.{Output}
use Rattle.demands.specs.Proofs.{Each}
use Rattle.demands.specs.Order.{each_map}
use Rattle.demands.specs.TermLaws.{In, Ins}
use Rattle.demands.specs.Ways.{GoodAt}
use Rattle.demands.specs.WellLaws.{well_in, store_bindings_good, value_good}
use Rattle.layout.specs.Regions.{word, Keeps}
use Rattle.search.specs.Search.{step_word}
use Rattle.search.specs.declared.Regs.{Regs}
use Rattle.answers.specs.declared.Stopped.{Stopped}
use Rattle.answers.specs.declared.Tally.{Tally}
use Rattle.answers.specs.Written.{first_put, last_put}
use Rattle.answers.specs.Values.{forgotten, Values, none_yet}
use Rattle.answers.specs.Answering.{last_size, Measures, Writes, records, reached, Finishes, last_full, whole, Answers, first_full, values_stopped, measured, fit_of}
use Rattle.answers.specs.Leaving.{values_measured}
use Rattle.simulation.specs.Rep.{Setting, lay, layout_of, StepsAre}
use Rattle.simulation.specs.Frames.{keeps_none, keeps_then, keeps_wider, set_keeps}
use Rattle.simulation.specs.TableFrames.{tables_room}
use Rattle.simulation.specs.States.{Run}
use Rattle.simulation.specs.Ranges.{in_range_is}
use Rattle.simulation.specs.Asides.{Aside, aside_none, aside_list, stored_of, run_aside}
use Rattle.simulation.specs.Numbers.{numbered_none, appears_again, appears_few, renumbered_appear}
use Rattle.simulation.specs.Pieces.{put, bytes_join, sets_join, first_sets, tail, tail_length, FirstWords, last_sets, fitting_none, fitting_full, fitting_on, tail_fits, tail_full}
use Rattle.simulation.specs.Walks.{Ends, went, halts, Counts, NumbersAre, At, Ground, values_walk}

-- ---- the variables of values
values_in : (ν : ℕ → Term) (i n x : ℕ) → Ins x (values_from i n ν) → (y : ℕ) × (y < i + n) × In x (ν y)
unfolding values_from
values_in ν i zero x h = absurd h
values_in ν i (suc n) x (inl h) = (i, omega arith, h)
values_in ν i (suc n) x (inr h) = let (y, l, k) = values_in ν (suc i) n x h in (y, omega arith, k)

-- ---- the words before the values are measured
module _ (X : Setting) where
  forgotten_keeps : (n : ℕ) (w : List ℕ) → Keeps (lay X).list ((lay X).list + n) w (forgotten n (lay X) w)
  unfolding forgotten
  forgotten_keeps zero w = keeps_none _ _ w
  forgotten_keeps (suc n) w =
      keeps_then (lay X).list ((lay X).list + suc n) w (set w ((lay X).list + n) 0) _ (set_keeps (lay X).list ((lay X).list + suc n) ((lay X).list + n) 0 w (omega arith) (omega arith))
      (keeps_wider (lay X).list ((lay X).list + n) (lay X).list ((lay X).list + suc n) (set w ((lay X).list + n) 0) _ (omega arith) (omega arith) (forgotten_keeps n (set w ((lay X).list + n) 0)))

  forgotten_none : (n : ℕ) (w : List ℕ) → (lay X).list + n ≤ length w → (x : ℕ) → x < n → word (forgotten n (lay X) w) ((lay X).list + x) ≡ 0
  unfolding forgotten
  forgotten_none zero w l x h = absurd (omega arith)
  forgotten_none (suc n) w l x h = go (eqb x n) refl (forgotten_none n v (let e = length-set w ((lay X).list + n) 0 in omega arith) x)
    where
      v : List ℕ
      v = set w ((lay X).list + n) 0

      go : (b : Bool) → eqb x n ≡ b → (x < n → word (forgotten n (lay X) v) ((lay X).list + x) ≡ 0) → word (forgotten n (lay X) v) ((lay X).list + x) ≡ 0
      go true e ih = let q : x ≡ n = eqb-true x n e in rw q ((forgotten_keeps n v).same ((lay X).list + n) (inr (omega arith)) ∙ get_or-set_same w ((lay X).list + n) 0 0 (omega arith))
      go false e ih = let q = eqb-false x n e in ih (omega arith)

  -- the first words of the steps are their clause numbers
  first_words : (w ks : List ℕ) (i : ℕ) → ((j : ℕ) → j < length ks → get_elem? ks j ≡ some (word w ((lay X).steps + 8 * (i + j)))) → FirstWords (lay X) w i ks
  first_words w [] i h = tt
  first_words w (k ∷ ks) i h = (
    sym (some-injective _ _ (h 0 (omega arith)) ∙ ap (λ (j : ℕ). word w ((lay X).steps + 8 * j)) (omega arith)),
    first_words w ks (i + 1) (λ j l. h (suc j) (omega arith) ∙ ap (λ (j : ℕ). some (word w ((lay X).steps + 8 * j))) (omega arith)),
  )

  steps_words : (w ks : List ℕ) (n : ℕ) → StepsAre X w n ks → FirstWords (lay X) w 0 ks
  unfolding step_word
  steps_words w ks n (e, h) = first_words w ks 0 (λ j l. h j (omega arith) ∙ ap (λ (i : ℕ). some (word w i)) (omega arith))

-- the answer of a derivation
abbrev pub answer_of : Setting → Derivation → Answer
answer_of X n = record { values = renumbered (row X.rules.variables (value n.store)); steps = n.steps }

pub answer_is : (X : Setting) (wanted room : ℕ) (n : Derivation) → answer X.rules X.limits wanted room n ≡ answer_of X n
unfolding answer
answer_is X wanted room n = refl

-- what the answer that was written is: it fits or stops as the definition's, its bytes are in the output or none is, and the run is as it was
pub record Answered (X : Setting) (w : List ℕ) (m : Regs) (n : Derivation) (cs : List Choice) (o : List ℕ) (r : Result ℕ End) (v p : List ℕ) : Type 0 where
  pub fit : fit_of r ≡ fitting (length o) X.limits.work 0 (pieces (answer_of X n))
  pub wrote : (k : ℕ) → r ≡ Ok k → (k ≡ length (bytes (answer_of X n))) × (p ≡ bytes (answer_of X n) ++ drop (length (bytes (answer_of X n))) o)
  pub kept : (e : ℕ) → fit_of r ≡ stops e → p ≡ o
  pub aside : Aside X w v
  pub stands : Run X v m n cs

module _ (X : Setting) (w : List ℕ) (m : Regs) (n : Derivation) (cs : List Choice) (run : Run X w m n cs) (known : GoodAt X.rules n) where
  abbrev W : ℕ
  W = X.limits.work

  -- the values, and the variables that appear in them
  values : Terms
  values = row X.rules.variables (value n.store)

  all : List ℕ
  all = appears [] values

  -- the records of the values
  body : List Piece
  body = write_each (insts (λ x. var (index all x)) values)

  first : List ℕ
  first = an_answer ∷ two (length all) ++ two (length n.steps)

  pieces_are : pieces (answer_of X n) ≡ piece first 0 ∷ body ++ tail n.steps
  unfolding pieces values all body first renumbered tail
  pieces_are =
      append_assoc (piece (an_answer ∷ two (length (appears [] (renumbered values))) ++ two (length n.steps)) 0 ∷ body) (map write_step n.steps) (piece (the_answer_end ∷ []) 0 ∷ [])
      ∙ ap (λ (k : ℕ). piece (an_answer ∷ two k ++ two (length n.steps)) 0 ∷ body ++ tail n.steps) (renumbered_appear values)

  -- no more variables appear than there are cells
  values_below : (x : ℕ) → Ins x values → x < n.cells
  unfolding values row
  values_below x i =
      let (y, l, k) = values_in (value n.store) 0 X.rules.variables x i in
      let h = known.asks in
      well_in X.rules.functions (λ z. z < n.cells) x (value n.store y) (value_good X.rules.functions n.cells n.store (store_bindings_good X.rules.functions n.cells n.store known.store) y (omega arith)) k

  all_few : length all ≤ 60_000
  unfolding all
  all_few =
      let a = appears_few n.cells values values_below in
      let b = run.holds.few in
      let d = (in_range_is X.limits X.in_limits).few_cells in
      omega arith

  ground : Ground X n.store m.trail n.cells all w
  ground = record { stored = stored_of X w known.sound known.store run.holds; base = run.holds.base; few = run.holds.few; short = all_few }

  -- before the first value
  before_values : (b : Bool) (v seen : List ℕ) → Aside X w v → NumbersAre X n.cells v seen → Counts all b seen 0 → At X n.cells all b w none_yet v seen []ₜ
  unfolding count
  before_values b v seen a k c = record { aside = a; numbers = k; counts = c; due = refl; within = omega arith; goods = tt; nodes = tt }

  -- nothing has a number yet
  start : At X n.cells all false w none_yet (forgotten m.cells (lay X) w) [] []ₜ
  unfolding needed layout_of
  start =
      let c = run.cells in
      let f = run.holds.few in
      let l = run.holds.base.long in
      before_values false (forgotten m.cells (lay X) w) []
      (aside_list X (keeps_wider (lay X).list ((lay X).list + m.cells) (lay X).list (lay X).steps w _ (omega arith) (omega arith) (forgotten_keeps X m.cells w)))
      (λ x h. forgotten_none X m.cells w (omega arith) x (omega arith) ∙ sym (numbered_none x))
      refl

  -- the values measured, and written
  measured_walk : {r : Result Tally Stopped} {v o p : List ℕ} → 5 ≤ length o → length o < 2 ^ 63 → Measures X.file (lay X) W X.rules.variables m.cells m.trail w o r v p
      → Ends false W 5 body o r p (λ t. At X n.cells all false w t v all []ₜ) (Aside X w v)
  unfolding all values body row
  measured_walk l big d = values_walk X n.store m.trail n.cells all false w ground d [] 0 X.rules.variables refl (omega arith) known.asks start ([], sym (append-nil all)) l big

  written_walk : {t : Tally} {r : Result Tally Stopped} {v u o p : List ℕ} → 5 ≤ length o → length o < 2 ^ 63 → At X n.cells all false w t v all []ₜ → Values X.file (lay X) W true m.trail X.rules.variables 0 none_yet v o r u p
      → Ends true W 5 body o r p (λ z. At X n.cells all true w z u all []ₜ) (Aside X w u)
  unfolding all values body row
  written_walk {r = r} {v = v} {u = u} {o = o} {p = p} l big a d =
      let again : appears all values ≡ all = appears_again values in
      subst (λ (z : List ℕ). Ends true W 5 body o r p (λ y. At X n.cells all true w y u z []ₜ) (Aside X w u)) again
      (values_walk X n.store m.trail n.cells all true w ground d all 0 X.rules.variables refl (omega arith) known.asks (before_values true v all a.aside a.numbers refl) ([], sym (append-nil _ ∙ again)) l big)

  steps_small : Each (λ k. k < 65_536) n.steps
  steps_small =
      let l = tables_room X in
      let f : length X.file ≤ 60_000 = X.short in
      each_map _ _ (λ k h. omega arith) n.steps known.numbers

  first_length : length first ≡ 5
  unfolding first two
  first_length = refl

  bytes_are : bytes (answer_of X n) ≡ first ++ (bytes_of body ++ bytes_of (tail n.steps))
  unfolding bytes bytes_of
  bytes_are = ap bytes_of pieces_are ∙ ap (first ++◌) (bytes_join body (tail n.steps))

  bytes_length : length (bytes (answer_of X n)) ≡ 5 + length (bytes_of body) + (3 * length n.steps + 1)
  bytes_length =
      let a = length-append first (bytes_of body ++ bytes_of (tail n.steps)) in
      let b = length-append (bytes_of body) (bytes_of (tail n.steps)) in
      let d = tail_length n.steps in
      let e = first_length in
      ap length bytes_are ∙ omega arith

  -- the first record fits, and then come the others
  first_fits : (o : List ℕ) → 5 ≤ length o → fitting (length o) W 0 (pieces (answer_of X n)) ≡ fitting (length o) W 5 (body ++ tail n.steps)
  first_fits o l =
      let e = first_length in
      ap (fitting (length o) W 0) pieces_are ∙ fitting_on (length o) W 0 first 0 (body ++ tail n.steps) (omega arith) (omega arith)
      ∙ ap (λ (i : ℕ). fitting (length o) W i (body ++ tail n.steps)) (omega arith)

  -- the values of an answer that is measured and fits, behind its first record
  values_written : {t : Tally} {r : Result Tally Stopped} {v u p : List ℕ} (o : List ℕ) → At X n.cells all false w t v all []ₜ → 5 ≤ length o → length o < 2 ^ 63
      → Values X.file (lay X) W true m.trail X.rules.variables 0 none_yet v (first_put t.free m.steps o) r u p → Ends true W 5 body (sets o 0 first) r p (λ z. At X n.cells all true w z u all []ₜ) (Aside X w u)
  unfolding first two
  values_written {t} {r} {v} {u} {p} o a l big d =
      let b : t.free ≡ length all = a.counts in
      let c = all_few in
      let e = run.few_steps in
      let f = run.steps.0 in
      let y = (in_range_is X.limits X.in_limits).few_steps in
      let k = length-sets o 0 first in
      let before : first_put t.free m.steps o ≡ sets o 0 first = first_sets t.free m.steps o (omega arith) (omega arith) l big ∙ ap₂ (λ (i j : ℕ). sets o 0 (an_answer ∷ two i ++ two j)) b (sym f) in
      written_walk (omega arith) (omega arith) a (subst (λ (z : List ℕ). Values X.file (lay X) W true m.trail X.rules.variables 0 none_yet v z r u p) before d)

  -- an answer that is measured and fits is written
  writes_are : {t : Tally} {v o u q : List ℕ} → At X n.cells all false w t v all []ₜ → t.size ≡ 5 + length (bytes_of body) → fitting (length o) W 5 (body ++ []) ≡ fits
      → t.size + (3 * m.steps + 1) ≤ length o → length o < 2 ^ 63 → Writes X.file (lay X) W X.rules.variables m.steps m.trail t.free v o u q → (q ≡ sets o 0 (bytes (answer_of X n))) × Aside X w u
  unfolding first put when◌then◌else◌ two reached
  writes_are {o = o} {u} a e f l big (records {r} {p = p} d) = go (values_written o a (omega arith) big d)
    where
      go : Ends true W 5 body (sets o 0 first) r p (λ z. At X n.cells all true w z u all []ₜ) (Aside X w u) → (last_put m.steps (lay X) u (reached r).size p ≡ sets o 0 (bytes (answer_of X n))) × Aside X w u
      go (halts {e = y} b c g x) =
          let k : fitting (length o) W 5 (body ++ []) ≡ stops (end_number y.end) = subst (λ (i : ℕ). fitting i W 5 (body ++ []) ≡ stops (end_number y.end)) (length-sets o 0 first) (g []) in
          let z : ◌≡◌ {A = ℕ} 0 1 = cc in
          absurd (omega arith)
      go (went {t = s} k b c h g x) =
          let j : (reached r).size ≡ 5 + length (bytes_of body) = ap (λ (z : Result Tally Stopped). (reached z).size) k ∙ b in
          let i = ap length h ∙ length-sets (sets o 0 first) 5 (bytes_of body) ∙ length-sets o 0 first in
          let y = run.steps.0 in (
            ap (λ (j : ℕ). last_put j (lay X) u (reached r).size p) (sym y)
                ∙ last_sets n.steps (reached r).size (lay X) u p (steps_words X u n.steps m.steps (run_aside X x.aside known.sound known.store run).steps) steps_small (omega arith) (omega arith)
                ∙ ap₂ (λ (j : ℕ) (z : List ℕ). sets z j (bytes_of (tail n.steps))) j h
                ∙ sets_join (sets o 0 first) 5 (bytes_of body) (bytes_of (tail n.steps))
                ∙ sets_join o 0 first (bytes_of body ++ bytes_of (tail n.steps))
                ∙ ap (sets o 0) (sym bytes_are),
            x.aside,
          )

  -- an answer whose writing stops
  stopped : {o v : List ℕ} {e : ℕ} (r : Result ℕ End) → fit_of r ≡ stops e → fitting (length o) W 0 (pieces (answer_of X n)) ≡ stops e → Aside X w v → Answered X w m n cs o r v o
  unfolding fit_of
  stopped {e = e} r s f a = record {
    fit = s ∙ sym f;
    wrote = λ k b. let c : fits ≡ stops e = sym (ap fit_of b) ∙ s in let z : ◌≡◌ {A = ℕ} 0 1 = cc in absurd (omega arith);
    kept = λ i b. refl;
    aside = a;
    stands = run_aside X a known.sound known.store run;
  }

  -- the answer that is written is the definition's
  finishes_are : {t : Tally} {v u o q : List ℕ} {r : Result ℕ End} → Ends false W 5 body o (Ok t) o (λ z. At X n.cells all false w z v all []ₜ) (Aside X w v) → 5 ≤ length o → length o < 2 ^ 63
      → Finishes X.file (lay X) W X.rules.variables m.steps m.trail t v o r u q → Answered X w m n cs o r u q
  unfolding fit_of end_number
  finishes_are {t} {v} {u} {o} {q} {r} (went {t = s} k e l h f a) small big d = go r u q (subst (λ (z : Tally). Finishes X.file (lay X) W X.rules.variables m.steps m.trail z v o r u q) is d)
    where
      is : t ≡ s
      is = cc

      go : (r : Result ℕ End) (u q : List ℕ) → Finishes X.file (lay X) W X.rules.variables m.steps m.trail s v o r u q → Answered X w m n cs o r u q
      go r u q (last_full z) = let y = run.steps.0 in stopped (Err Output) refl (first_fits o small ∙ f (tail n.steps) ∙ tail_full (length o) W s.size n.steps l (omega arith)) a.aside
      go r u q (whole z d) =
          let y = run.steps.0 in
          let b = bytes_length in
          let x : (q ≡ sets o 0 (bytes (answer_of X n))) × Aside X w u = writes_are {o = o} a e (f [] ∙ fitting_none (length o) W s.size) z big d in
          let i : 0 + length (bytes (answer_of X n)) ≡ length (bytes (answer_of X n)) = omega arith in
          record {
            fit = sym (first_fits o small ∙ f (tail n.steps) ∙ tail_fits (length o) W s.size n.steps (omega arith));
            wrote = λ k g. let c : s.size + last_size m.steps ≡ k = cc in (omega arith, x.0 ∙ sets-eq (bytes (answer_of X n)) o 0 (omega arith) ∙ ap (λ (j : ℕ). bytes (answer_of X n) ++ drop j o) i);
            kept = λ i g. let z : ◌≡◌ {A = ℕ} 0 1 = cc in absurd (omega arith);
            aside = x.1;
            stands = run_aside X x.1 known.sound known.store run;
          }
  finishes_are (halts k e f a) small big d = let z : ◌≡◌ {A = ℕ} 0 1 = cc in absurd (omega arith)

  -- one that stops in its values does too
  halts_are : {v o : List ℕ} {e : Stopped} → Ends false W 5 body o (Err e) o (λ z. At X n.cells all false w z v all []ₜ) (Aside X w v) → 5 ≤ length o → Answered X w m n cs o (Err e.end) v o
  unfolding fit_of
  halts_are (went k e l h f a) small = let z : ◌≡◌ {A = ℕ} 0 1 = cc in absurd (omega arith)
  halts_are {o = o} {e} (halts {e = y} k b f a) small = let is : e ≡ y = cc in stopped (Err e.end) (ap (λ (z : Stopped). stops (end_number z.end)) is) (first_fits o small ∙ f (tail n.steps)) a

  pub answers_are : {v o p : List ℕ} {r : Result ℕ End} → length o < 2 ^ 63 → Answers X.file (lay X) W X.rules.variables m.cells m.steps m.trail w o r v p → Answered X w m n cs o r v p
  unfolding fit_of end_number
  answers_are {o = o} big (first_full h) =
      let e = first_length in stopped (Err Output) refl (ap (fitting (length o) W 0) pieces_are ∙ fitting_full (length o) W 0 first 0 (body ++ tail n.steps) (omega arith)) (aside_none X w)
  answers_are {v} {o} {p} big (values_stopped {e} h d) =
      let k : p ≡ o = values_measured d in
      subst (Answered X w m n cs o (Err e.end) v) (sym k) (halts_are (subst (λ (z : List ℕ). Ends false W 5 body o (Err e) z (λ t. At X n.cells all false w t v all []ₜ) (Aside X w v)) k (measured_walk h big d)) h)
  answers_are {v} {o} {p} {r} big (measured {t} {v = x} {p = y} h d f) =
      let e : y ≡ o = values_measured d in
      finishes_are (subst (λ (z : List ℕ). Ends false W 5 body o (Ok t) z (λ i. At X n.cells all false w i x all []ₜ) (Aside X w x)) e (measured_walk h big d)) h big
      (subst (λ (z : List ℕ). Finishes X.file (lay X) W X.rules.variables m.steps m.trail t x z r v p) e f)
