-- A run comes to what the definition says: its end, its answers, units and bytes, and what is in the output.
-- Assumes nothing.
use Prim.Native.Nat.{ℕ, zero, suc, ◌+◌, ◌-◌, ◌^◌, ◌≤◌, ◌<◌}
use mathlib.Core.Path.{◌≡◌, refl, ap, ap₂, sym, ◌∙◌, subst}
use mathlib.Core.Bool.{true, false, false≢true}
use mathlib.Core.List.{List, [], ◌∷◌, ◌++◌, append_assoc}
use native.Mathlib.Omega.{arith}
use lib.ListN.{length, take, drop, length-append, length-drop, take-append-drop}
use lib.Seq.{take_at, drop_at, drop-drop}
use borrow.Author.Tests.{eq-eqb, ne_eqb}
use Rattle.meaning.specs.Editions.{todays}
use Rattle.meaning.specs.Rules.{Rules}
use Rattle.meaning.specs.Store.{Store}
use Rattle.meaning.specs.Outcome.{end_number, ended_as, says}
use Rattle.meaning.specs.Answers.{Answer, pieces, bytes, output, Fit, stops, fitting}
use Rattle.meaning.specs.Moves.{Open, cut_to, Derivation, Choice, choice, Move, trying, taking, cutting, Done, State, ended, due, nothing, spend, list, with_goals, fail, answered, put_out, answering, move, start, run}
use Rattle.meaning.specs.declared.End.{End}
use Rattle.meaning.specs.declared.End.TheVariants.{Wanted, Budget}
use Rattle.meaning.specs.Outcome.{Outcome}
use Rattle.laws.specs.IfLaws.{if_true, if_false}
use Rattle.demands.specs.Proofs.{WellFormed}
use Rattle.demands.specs.GoodFiles.{good_files_are_well_formed}
use Rattle.demands.specs.Rooms.{output_last, fits_within}
use Rattle.demands.specs.Ways.{GoodAt}
use Rattle.demands.specs.Searches.{GoodChoices, Holds, start_holds, move_holds, spent as spent_holds}
use Rattle.words.specs.Words.{plus}
use Rattle.search.specs.Search.{Starts, none_wanted, few_cells, starts}
use Rattle.search.specs.declared.Regs.{Regs}
use Rattle.search.specs.declared.Due.{Due}
use Rattle.search.specs.declared.Due.TheVariants.{Over}
use Rattle.answers.specs.Answering.{Answers, fit_of}
use Rattle.std.specs.Prelude.{Result, Ok, Err}
use Rattle.simulation.specs.Rep.{Setting, lay, Base, ChoicesAre, no_choices, choices}
use Rattle.simulation.specs.PlaceLaws.{rules_stand}
use Rattle.simulation.specs.TableFrames.{tables_room}
use Rattle.simulation.specs.Undoes.{within_good}
use Rattle.simulation.specs.States.{SoundAll, none, more, Fair, Run, AtIs, DueIs, is_try, is_pair, is_cut, is_answer, is_over as is_over_due}
use Rattle.simulation.specs.Backing.{backs_fail}
use Rattle.simulation.specs.Going.{ahead_small}
use Rattle.simulation.specs.Cutting.{cut_moves}
use Rattle.simulation.specs.Pushing.{plus_small}
use Rattle.simulation.specs.Trying.{given_of, tries_head}
use Rattle.simulation.specs.Taking.{moves_pair}
use Rattle.simulation.specs.Answering.{answer_of, answer_is, Answered, answers_are}
use Rattle.simulation.specs.Spending.{later, later_at, later_try, later_marks}
use Rattle.simulation.specs.Starting.{start_comes}
use Rattle.machine.specs.declared.run.Written.{Written}
use Rattle.machine.specs.Running.{spent, behind_of, going_on, over_of, ended_of, WritesBehind, written_behind, Lists, no_output, last_wanted, goes_back, no_answer, Moves, try_late, pair_late, cut_late, tries_one, pairs_one, cuts_one, lists, is_over, RunsFrom, stops as stops_here, onward, nothing_yet, Runs, runs}

module _ (X : Setting) (wanted : ℕ) (o₀ : List ℕ) (small : length o₀ < 2 ^ 63) (most : wanted < 2 ^ 32) where
  -- what has been written is what was done: the answers stand in the output, one after another
  pub record WrittenIs (t : Written) (d : Done) (o : List ℕ) : Type 0 where
    pub answers : t.answers ≡ length d.listed
    pub bytes_long : t.bytes ≡ length (output d.listed)
    pub within : length (output d.listed) ≤ length o₀
    pub is : o ≡ output d.listed ++ drop (length (output d.listed)) o₀

  module _ (t : Written) (d : Done) (o : List ℕ) (i : WrittenIs t d o) where
    as_long : length o ≡ length o₀
    as_long =
        let k = i.within in
        let l = length-append (output d.listed) (drop (length (output d.listed)) o₀) in
        let m = length-drop (length (output d.listed)) o₀ in
        ap length i.is ∙ omega arith

    front_is : take t.bytes o ≡ output d.listed
    front_is = ap (take t.bytes) i.is ∙ take_at (output d.listed) _ t.bytes (sym i.bytes_long)

    rest_is : drop t.bytes o ≡ drop (length (output d.listed)) o₀
    rest_is = ap (drop t.bytes) i.is ∙ drop_at (output d.listed) _ t.bytes (sym i.bytes_long)

    rest_long : length (drop t.bytes o) ≡ length o₀ - length (output d.listed)
    rest_long = ap length rest_is ∙ length-drop (length (output d.listed)) o₀

    -- an answer more
    more_written : (a : Answer) (n : ℕ) (p : List ℕ) → length d.listed < wanted → n ≡ length (bytes a) → length (bytes a) ≤ length o₀ - length (output d.listed)
        → p ≡ bytes a ++ drop (length (bytes a)) (drop t.bytes o) → WrittenIs (behind_of t n) (list a d) (take t.bytes o ++ p)
    unfolding behind_of list
    more_written a n p few e room q =
        let w = i.within in
        let k = length-append (output d.listed) (bytes a) in
        let c : length (output (d.listed ++ a ∷ [])) ≡ length (output d.listed) + length (bytes a) = ap length (output_last d.listed a) ∙ k in
        let l = length-append d.listed (a ∷ []) in
        let x = i.answers in
        let y = i.bytes_long in
        record {
          answers = plus_small t.answers 1 (omega arith) ∙ omega arith;
          bytes_long = ahead_small t.bytes n (omega arith) ∙ omega arith;
          within = omega arith;
          is =
              ap₂ ◌++◌ front_is (q ∙ ap (λ (z : List ℕ). bytes a ++ drop (length (bytes a)) z) rest_is ∙ ap (bytes a ++◌) (drop-drop (length (bytes a)) (length (output d.listed)) o₀))
              ∙ sym (append_assoc (output d.listed) (bytes a) (drop (length (output d.listed) + length (bytes a)) o₀))
              ∙ ap₂ (λ (z : List ℕ) (j : ℕ). z ++ drop j o₀) (sym (output_last d.listed a)) (sym c);
        }

  abbrev R : Rules
  R = X.rules

  abbrev room : ℕ
  room = length o₀

  -- what is due, and what has been written, after an answer that was due: the state is the same, so many units having been spent
  pub record After (s : Written) (d : Due) (v p : List ℕ) (st : State) (units : ℕ) : Type 0 where
    pub done : Done
    pub due_is : DueIs X v wanted room done d st
    pub written : WrittenIs s done p
    pub units_are : done.units ≡ units
    pub few : going_on d ≡ true → length done.listed < wanted

  -- ---- an answer that is due
  module _ (m : Regs) (n : Derivation) (cs : List Choice) (w : List ℕ) (t : Written) (d : Done) (o : List ℕ) (at : AtIs X w m [] n cs) (fair : Fair X n cs) (units : m.units ≡ d.units) (i : WrittenIs t d o) (few : length d.listed < wanted) where
    abbrev rest : List ℕ
    rest = drop t.bytes o

    abbrev a : Answer
    a = answer_of X n

    -- the answer goes behind the bytes used
    goes_behind : {r : Result ℕ End} {v q : List ℕ} → WritesBehind X.file (given_of X) m t.bytes w o r v q → (p : List ℕ) × (q ≡ take t.bytes o ++ p) × Answered X w m n cs rest r v p
    unfolding given_of
    goes_behind {r} {v} (written_behind {p = p} b) =
        let l = rest_long t d o i in (
          p,
          refl,
          answers_are X w m n cs at.run fair.good (omega arith)
              (subst (λ (x : ℕ). Answers X.file (lay X) X.limits.work x m.cells m.steps m.trail w rest r v p) (rules_stand X).query_variables b),
        )

    -- it is the definition's
    answering_is : {r : Result ℕ End} {v p : List ℕ} → Answered X w m n cs rest r v p → answering R X.limits wanted room n cs d ≡ put_out R X.limits wanted room (fit_of r) a cs d
    unfolding answering
    answering_is b =
        ap₂ (λ (k : ℕ) (x : Answer). put_out R X.limits wanted room (fitting k X.limits.work 0 (pieces x)) x cs d) (sym (rest_long t d o i)) (answer_is X wanted room n)
        ∙ ap (λ (f : Fit). put_out R X.limits wanted room f a cs d) (sym b.fit)

    -- one that does not fit leaves no byte
    stopped : {v q : List ℕ} (e : End) (r : Result ℕ End) → fit_of r ≡ stops (end_number e) → WritesBehind X.file (given_of X) m t.bytes w o r v q → going_on (Over e m) ≡ false → After t (Over e m) v q (answering R X.limits wanted room n cs d) d.units
    unfolding put_out
    stopped {v} e r f b g =
        let (p, z, x) = goes_behind b in
        let same : _ ≡ o = z ∙ ap (take t.bytes o ++◌) (x.kept (end_number e) f) ∙ take-append-drop t.bytes o in
        record {
          done = d;
          due_is = subst (DueIs X v wanted room d (Over e m)) (sym (answering_is x ∙ ap (λ (y : Fit). put_out R X.limits wanted room y a cs d) f)) (is_over_due e units);
          written = subst (WrittenIs t d) (sym same) i;
          units_are = refl;
          few = λ h. few;
        }

    -- one that fits is listed
    module _ {k : ℕ} {v p : List ℕ} (b : Answered X w m n cs rest (Ok k) v p) where
      written_then : WrittenIs (behind_of t k) (list a d) (take t.bytes o ++ p)
      unfolding bytes fit_of
      written_then =
          let (e, q) = b.wrote k refl in
          let l = rest_long t d o i in
          let f = fits_within (length rest) X.limits.work 0 (pieces a) (omega arith) (sym b.fit) in
          more_written t d o i a k p few e (omega arith) q

      listed_is : answering R X.limits wanted room n cs d ≡ answered R X.limits wanted room cs (list a d)
      unfolding put_out fit_of
      listed_is = answering_is b

      counted : (behind_of t k).answers ≡ length (list a d).listed
      counted = written_then.answers

    last : length (list a d).listed ≡ wanted → answered R X.limits wanted room cs (list a d) ≡ ended 21 (list a d)
    unfolding answered
    last q = if_true _ _ _ (eq-eqb _ _ q)

    further : (length (list a d).listed ≡ wanted → ⊥) → answered R X.limits wanted room cs (list a d) ≡ fail cs (list a d)
    unfolding answered
    further q = if_false _ _ _ (ne_eqb _ _ q)

    lists_come : {e : Due} {s : Written} {v q : List ℕ} → Lists X.file (given_of X) wanted m t w o e s v q → After s e v q (answering R X.limits wanted room n cs d) d.units
    unfolding fit_of end_number going_on list given_of
    lists_come (no_output h) = let l = as_long t d o i in let b = i.bytes_long in let k = i.within in absurd (omega arith)
    lists_come (no_answer {e = e} h b) = stopped e (Err e) refl b refl
    lists_come (last_wanted {n = k} {v = v} h b e) =
        let (p, z, x) = goes_behind b in
        record {
          done = list a d;
          due_is = subst (DueIs X v wanted room (list a d) (Over Wanted m)) (sym (listed_is x ∙ last (sym (counted x) ∙ e))) (is_over_due Wanted units);
          written = subst (WrittenIs (behind_of t k) (list a d)) (sym z) (written_then x);
          units_are = refl;
          few = λ g. absurd (false≢true g);
        }
    lists_come (goes_back {n = k} {d = r} {v = v} {u = u} h b e back) =
        let (p, z, x) = goes_behind b in
        let c = counted x in
        let l = length-append d.listed (a ∷ []) in
        let y = at.run.choice in
        let f = at.run.few_steps in
        let other : length (list a d).listed ≡ wanted → ⊥ = λ q. e (c ∙ q) in
        record {
          done = list a d;
          due_is = subst (DueIs X u wanted room (list a d) r) (sym (listed_is x ∙ further other))
              (backs_fail X (tables_room X) wanted room m back n.store n.cells cs (list a d) x.stands.holds fair.good.sound fair.within x.stands.choices fair.choices (omega arith) units);
          written = subst (WrittenIs (behind_of t k) (list a d)) (sym z) (written_then x);
          units_are = refl;
          few = λ g. omega (arith, other);
        }

  -- ---- moves
  wf : WellFormed R
  wf = good_files_are_well_formed X.file R (X.seen, X.end, X.good)

  -- good choices over the cells of a run
  sound_all : {w : List ℕ} (cs : List Choice) {s : Store} {u c : ℕ} → GoodChoices R wf cs → ChoicesAre X w s u c cs → u ≤ X.limits.cells → SoundAll X cs
  unfolding with_goals
  sound_all _ good no_choices h = none
  sound_all _ good (choices i {n = n} {cs = cs} chain known numbers goal goals less links settled cells trail prior steps older fewer rest) h =
      more {n = n} good.0.good.sound (within_good X R.functions n.cells n.store (omega arith) good.0.good.store) (omega arith) (sound_all cs good.1 rest (omega arith))

  fair_of : (w : List ℕ) (m : Regs) (n : Derivation) (cs : List Choice) → GoodAt R n → GoodChoices R wf cs → Run X w m n cs → Fair X n cs
  fair_of w m n cs g c r = record { good = g; within = within_good X R.functions n.cells n.store r.holds.few g.store; choices = sound_all cs c r.choices r.holds.few }

  -- a run does not know its goals
  other_goals : {w : List ℕ} {m : Regs} {n : Derivation} {cs : List Choice} (os : List Open) → AtIs X w m [] (with_goals os n) cs → Run X w m n cs
  unfolding with_goals
  other_goals os a = record { holds = a.run.holds; cells = a.run.cells; steps = a.run.steps; few_steps = a.run.few_steps; choices = a.run.choices; choice = a.run.choice }

  module _ (budget : ℕ) (limit : budget < 2 ^ 32) where
    -- What came of a move: the budget was met, or the same run goes on from another state
    data Moved (r : Due) (s : Written) (v p : List ℕ) (x : ℕ × Done) : Type 0 where
      late : (m : Regs) (d : Done) → r ≡ Over Budget m → m.units ≡ d.units → WrittenIs s d p → x ≡ (22, d) → Moved r s v p x
      on : (left : ℕ) (st : State) (d : Done) → DueIs X v wanted room d r st → Holds R wf st → WrittenIs s d p → (going_on r ≡ true → length d.listed < wanted) → left + d.units ≡ budget
          → x ≡ run R X.limits wanted room left st → Moved r s v p x

    -- no unit is left
    is_late : (left : ℕ) (mv : Move) (d : Done) {m : Regs} {s : Written} {v p : List ℕ} → left + d.units ≡ budget → m.units ≡ d.units → budget ≤ m.units → WrittenIs s d p → Moved (Over Budget m) s v p (run R X.limits wanted room left (due mv d))
    unfolding run
    is_late zero mv d {m = m} e u h w = late m d refl u w refl
    is_late (suc left) mv d e u h w = absurd (omega arith)

    -- a unit is spent
    goes_on_by : (left : ℕ) (mv : Move) (d : Done) (m : Regs) {s : Written} {r : Due} {v p : List ℕ} → left + d.units ≡ budget → m.units ≡ d.units → m.units < budget → Holds R wf (due mv d) → WrittenIs s d p → length d.listed < wanted
        → DueIs X v wanted room (spend d) r (move R X.limits wanted room mv (spend d)) → Moved r s v p (run R X.limits wanted room left (due mv d))
    unfolding run spend
    goes_on_by zero mv d m e u h hd w f i = absurd (omega arith)
    goes_on_by (suc left) mv d m e u h hd w f i =
        on left (move R X.limits wanted room mv (spend d)) (spend d) i (move_holds R wf X.limits wanted room mv (spend d) (spent_holds R wf X.limits wanted room mv d hd))
        (record { answers = w.answers; bytes_long = w.bytes_long; within = w.within; is = w.is }) (λ g. f) (omega arith) refl

    -- the registers after a unit
    spent_later : (m : Regs) → m.units < budget → plus m.units 1 ≡ suc m.units
    spent_later m h = plus_small m.units 1 (omega arith) ∙ omega arith

    moves_come : {e r : Due} {t s : Written} {w o v p : List ℕ} → going_on e ≡ true → Moves X.file (given_of X) budget wanted e t w o r s v p → (left : ℕ) (d : Done) (st : State) → DueIs X w wanted room d e st → Holds R wf st
        → WrittenIs t d o → length d.listed < wanted → left + d.units ≡ budget → Moved r s v p (run R X.limits wanted room left st)
    unfolding move spent spend going_on given_of
    moves_come g (try_late h) left d _ (is_try t u) hd i few e = is_late left _ d e u h i
    moves_come g (pair_late h) left d _ (is_pair a f u) hd i few e = is_late left _ d e u h i
    moves_come g (cut_late h) left d _ (is_cut a u) hd i few e = is_late left _ d e u h i
    moves_come g (tries_one {x = x} {m = m} {w = w} h b) left d _ (is_try {k = k} {ks = ks} {g = c} {n = n} {cs = cs} t u) hd i few e =
        let z = spent_later m h in
        goes_on_by left (trying k (choice ks c n) cs) d m e u h hd i few
        (tries_head X wf wanted room w x (later m (plus m.units 1)) k ks c n cs (later_try X w m (plus m.units 1) z t) hd.choices.0 (sound_all cs hd.choices.1 t.run.choices t.run.holds.few) (spend d) b (omega arith))
    moves_come g (pairs_one {m = m} {w = w} h b) left d _ (is_pair {p = q} {ps = ps} {n = n} {cs = cs} a f u) hd i few e =
        let z = spent_later m h in
        goes_on_by left (taking q ps n cs) d m e u h hd i few
        (moves_pair X wanted room w (later m (plus m.units 1)) q ps n cs (spend d) (later_at X w m (plus m.units 1) z a) (later_marks X w m (plus m.units 1) z a.run) hd.pairs f (fair_of w m n cs hd.good hd.choices a.run) (omega arith) b)
    moves_come g (cuts_one {m = m} {w = w} h b) left d _ (is_cut {h = k} {n = n} {cs = cs} a u) hd i few e =
        let z = spent_later m h in
        goes_on_by left (cutting k n cs) d m e u h hd i few
        (cut_moves X wanted room w (later m (plus m.units 1)) k n cs (spend d) b (later_at X w m (plus m.units 1) z a) (fair_of w m n cs hd.0.good hd.0.choices (other_goals (cut_to k ∷ n.goals) a)) (omega arith))
    moves_come g (lists {m = m} {t = t} {w = w} {o = o} b) left d _ (is_answer n cs a f z u) hd i few e =
        let x = lists_come m n cs w t d o a f u i few b in
        on left _ x.done x.due_is hd x.written x.few (let y = x.units_are in omega arith) refl
    moves_come g is_over left d st i hd k few e = absurd (false≢true g)

    -- ---- the whole run
    -- what a run came to: its outcome, and the output
    pub record Came (r : Outcome) (q : List ℕ) (x : ℕ × Done) : Type 0 where
      pub outcome : says r ≡ ended_as x.0 (length x.1.listed) x.1.units (length (output x.1.listed))
      pub output_is : q ≡ output x.1.listed ++ drop (length (output x.1.listed)) o₀

    run_ended : (left e : ℕ) (d : Done) → run R X.limits wanted room left (ended e d) ≡ (e, d)
    unfolding run
    run_ended zero e d = refl
    run_ended (suc left) e d = refl

    came_over : (e : End) (m : Regs) (t : Written) (d : Done) (o : List ℕ) → m.units ≡ d.units → WrittenIs t d o → Came (over_of e m t) o (end_number e, d)
    unfolding over_of says
    came_over e m t d o u i = record { outcome = rw (i.answers, u, i.bytes_long) refl; output_is = i.is }

    -- once it is over, nothing follows
    over_rest : {e : End} {m : Regs} {t : Written} {w o v q : List ℕ} {r : Outcome} → RunsFrom X.file (given_of X) budget wanted (Over e m) t w o r v q → (r ≡ over_of e m t) × (q ≡ o)
    unfolding going_on ended_of
    over_rest (stops_here g) = (refl, refl)
    over_rest (onward g mv rest) = absurd (false≢true g)

    came_late : (e : Due) (m : Regs) (t : Written) (d : Done) {w o v q : List ℕ} {r : Outcome} → e ≡ Over Budget m → m.units ≡ d.units → WrittenIs t d o → RunsFrom X.file (given_of X) budget wanted e t w o r v q → Came r q (22, d)
    unfolding end_number
    came_late e m t d {w} {o} {v} {q} {r} z u i rest =
        let (a, b) = over_rest (rw z at rest) in
        rw (a, b) (came_over Budget m t d o u i)

    -- a run that moves comes to what it comes to from there
    came_on : (n : Due) (s : Written) (v p : List ℕ) (r : Outcome) (q : List ℕ) (x : ℕ × Done)
        → ((m : Regs) (d : Done) → n ≡ Over Budget m → m.units ≡ d.units → WrittenIs s d p → Came r q (22, d))
        → ((left : ℕ) (st : State) (d : Done) → DueIs X v wanted room d n st → Holds R wf st → WrittenIs s d p → (going_on n ≡ true → length d.listed < wanted) → left + d.units ≡ budget → Came r q (run R X.limits wanted room left st))
        → Moved n s v p x → Came r q x
    came_on n s v p r q x here there (late m c z u w e) = subst (Came r q) (sym e) (here m c z u w)
    came_on n s v p r q x here there (on k to c b h w f l e) = subst (Came r q) (sym e) (there k to c b h w f l)

    runs_come : {e : Due} {t : Written} {w o v q : List ℕ} {r : Outcome} → RunsFrom X.file (given_of X) budget wanted e t w o r v q → (left : ℕ) (d : Done) (st : State) → DueIs X w wanted room d e st → Holds R wf st
        → WrittenIs t d o → (going_on e ≡ true → length d.listed < wanted) → left + d.units ≡ budget → Came r q (run R X.limits wanted room left st)
    unfolding going_on ended_of
    runs_come (stops_here g) left d _ (is_try a u) hd i few e = absurd (false≢true (sym g))
    runs_come (stops_here g) left d _ (is_pair a f u) hd i few e = absurd (false≢true (sym g))
    runs_come (stops_here g) left d _ (is_cut a u) hd i few e = absurd (false≢true (sym g))
    runs_come (stops_here g) left d _ (is_answer n cs a f z u) hd i few e = absurd (false≢true (sym g))
    runs_come (stops_here {t = t} {o = o} g) left d _ (is_over_due n {m = m} u) hd i few e = subst (Came (over_of n m t) o) (sym (run_ended left (end_number n) d)) (came_over n m t d o u i)
    runs_come {q = q} {r = r} (onward {n = n} {s = s} {v = v} {p = p} g mv rest) left d st a hd i few e =
        came_on n s v p r q _ (λ m c z u w. came_late n m s c z u w rest) (λ k to c b h w f l. runs_come rest k c to b h w f l) (moves_come g mv left d st a hd i (few g) e)

    nothing_written : WrittenIs nothing_yet nothing o₀
    unfolding nothing output
    nothing_written = record { answers = refl; bytes_long = refl; within = omega arith; is = refl }

    some_wanted : {w u : List ℕ} {e : Due} → Starts X.file (given_of X) wanted w e u → going_on e ≡ true → length nothing.listed < wanted
    unfolding going_on nothing
    some_wanted (none_wanted z) g = absurd (false≢true g)
    some_wanted (few_cells z l) g = omega (arith, z)
    some_wanted (starts z l b) g = omega (arith, z)

    -- a run comes to what the definition says
    pub run_comes : {w v q : List ℕ} {r : Outcome} → Base X w → Runs X.file (given_of X) budget wanted w o₀ r v q → Came r q (run R X.limits wanted room budget (start R X.limits wanted room))
    unfolding nothing
    run_comes b (runs s f) = runs_come f budget nothing _ (start_comes X wanted room b s) (start_holds R wf X.limits wanted room todays.query_keeps) nothing_written (some_wanted s) (omega arith)
