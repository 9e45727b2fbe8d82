-- What stops a run: no more units are spent than the budget, and each end is one of document 01's table, given where the table says.
-- Assumes nothing.
use Prim.Native.Nat.{ℕ, zero, suc, ◌+◌, ◌-◌, ◌≤◌, ◌<◌}
use Rattle.std.specs.Prelude.{Bool, not, ◌≡◌, ltb, eqb}
use Rattle.std.proofs.Math.Bool.{true, false}
use Rattle.std.proofs.Math.Path.{refl}
use Rattle.std.proofs.Common.{ap, ap₂, sym, subst}
use mathlib.Core.List.{List, [], ◌∷◌, ◌++◌}
use Rattle.std.proofs.Math.Option.{Option, none, some}
use native.Mathlib.Omega.{arith}
use borrow.Author.Tests.{ltb-true, ltb-false, eqb-true, not-false}
use Rattle.std.proofs.Math.ListN.{length}
use Rattle.meaning.specs.If.{when◌then◌else◌}
use Rattle.meaning.specs.Terms.{Term, var, app, Terms, inst, occurs}
use Rattle.meaning.specs.Editions.{todays}
use Rattle.meaning.specs.Rules.{Call, Rules}
use Rattle.meaning.specs.Store.{value, follow}
use Rattle.meaning.specs.Answers.{Answer, Piece, piece, pieces, output, Fit, fits, stops, fitting}
use Rattle.meaning.specs.Moves.{Limits, Open, goal, cut_to, Derivation, Numbered, Choice, choice, Pair, Move, trying, taking, cutting, Done, State, ended, due}
use Rattle.meaning.specs.Moves.{nothing, spend, list, asked, over, pairs, with_binding, with_step, keep, fail}
use Rattle.meaning.specs.Moves.{answer, answered, put_out, answering, take_goal, go_on, matching, binding, compared, take_pair, try_head, move, start_keeping, start, run}

-- The records left to write, `size` bytes being written, stop with this end: "If at some record the answer's size passes the room
-- left, end 26; if then that value's nodes due exceed W, end 25; whichever comes first in written order"
pub data Unfit (room W : ℕ) : ℕ → List Piece → ℕ → Type 0 where
  full : {size nodes : ℕ} {b : List ℕ} {ps : List Piece} → room < size + length b → Unfit room W size (piece b nodes ∷ ps) 26
  crowded : {size nodes : ℕ} {b : List ℕ} {ps : List Piece} → size + length b ≤ room → W < nodes → Unfit room W size (piece b nodes ∷ ps) 25
  later : {size nodes e : ℕ} {b : List ℕ} {ps : List Piece} → size + length b ≤ room → nodes ≤ W → Unfit room W (size + length b) ps e
      → Unfit room W size (piece b nodes ∷ ps) e

-- what a move makes, as far as no limit stops it: the pairs left to match, and the derivation; none, if it is a mismatch
abbrev pub Made : Type 0
Made = Option (List Pair × Derivation)

unfoldable pub bound : ℕ → Term → List Pair → Derivation → Made
bound x t ps n = when occurs x (inst (value n.store) t) then none else some (ps, with_binding x t n)

unfoldable pub matched : Term → Term → List Pair → Derivation → Made
matched (var x) (var y) ps n = when eqb x y then some (ps, n) else bound y (var x) ps n
matched (app f ts) (var y) ps n = bound y (app f ts) ps n
matched (var x) (app g us) ps n = bound x (app g us) ps n
matched (app f ts) (app g us) ps n = when not (eqb f g) then none else some (pairs ts us ++ ps, n)

unfoldable pub made : Move → Made
made (trying k (choice ks g n) cs) = some (pairs g.arguments (over n.cells k.clause.head).arguments, with_step k (length cs) n)
made (taking p ps n cs) = matched (follow n.store p.goal_side) (follow n.store p.head_side) ps n
made (cutting h n cs) = some ([], n)

-- the units that are spent
unfoldable pub spent : State → ℕ
spent (ended e d) = d.units
spent (due m d) = d.units

-- ---- the laws of writing
-- what a fit says of the records
abbrev FitSays : (room W size : ℕ) → List Piece → Fit → Type 0
FitSays room W size ps fits = Unit {0}
FitSays room W size ps (stops e) = Unfit room W size ps e

fitting_says : (room W size : ℕ) (ps : List Piece) → FitSays room W size ps (fitting room W size ps)
unfolding fitting when◌then◌else◌
fitting_says room W size [] = tt
fitting_says room W size (piece b nodes ∷ ps) =
    go (ltb room (size + length b)) (ltb W nodes) refl refl (fitting room W (size + length b) ps) (fitting_says room W (size + length b) ps)
  where
    go : (x y : Bool) → ltb room (size + length b) ≡ x → ltb W nodes ≡ y → (f : Fit) → FitSays room W (size + length b) ps f
        → FitSays room W size (piece b nodes ∷ ps) (when x then stops 26 else when y then stops 25 else f)
    go true y p q f u = full (ltb-true _ _ p)
    go false true p q f u = crowded (ltb-false _ _ p) (ltb-true _ _ q)
    go false false p q fits u = tt
    go false false p q (stops e) u = later (ltb-false _ _ p) (ltb-false _ _ q) u

pub fitting_unfit : (room W size : ℕ) (ps : List Piece) {e : ℕ} → fitting room W size ps ≡ stops e → Unfit room W size ps e
fitting_unfit room W size ps q = subst (FitSays room W size ps) q (fitting_says room W size ps)

-- the writing stops with 25 or 26
pub unfit_range : {room W size e : ℕ} {ps : List Piece} → Unfit room W size ps e → (25 ≤ e) × (e ≤ 26)
unfit_range (full h) = (omega arith, omega arith)
unfit_range (crowded h k) = (omega arith, omega arith)
unfit_range (later h k u) = unfit_range u

module _ (R : Rules) (L : Limits) (wanted room : ℕ) where
  -- the derivation has no open goal, and its answer does not fit behind those listed
  pub record Overflows (n : Derivation) (d : Done) (e : ℕ) : Type 0 where
    pub closed : n.goals ≡ []
    pub unfit : Unfit (room - length (output d.listed)) L.work 0 (pieces (answer R L wanted room n)) e

  -- A move, its unit being spent, passes the limit of this end. 23: "the clause's variables need fresh cells (end 23 if over C)".
  -- 24: "the derivation would gain one step (end 24 if over S)". 25: "the argument pairs go in front; end 25 if the list would then
  -- exceed W". 25 and 26: the answer that the move comes to does not fit
  pub data Passes : Move → Done → ℕ → Type 0 where
    over_cells : {k : Numbered} {ks : List Numbered} {g : Call} {n : Derivation} {cs : List Choice} {d : Done}
        → L.cells < n.cells + k.clause.variables → Passes (trying k (choice ks g n) cs) d 23
    over_steps : {k : Numbered} {ks : List Numbered} {g : Call} {n : Derivation} {cs : List Choice} {d : Done}
        → n.cells + k.clause.variables ≤ L.cells → L.steps < length n.steps + 1 → Passes (trying k (choice ks g n) cs) d 24
    over_work : {p : Pair} {ps : List Pair} {n : Derivation} {cs : List Choice} {d : Done} {f : ℕ} {ts us : Terms}
        → follow n.store p.goal_side ≡ app f ts → follow n.store p.head_side ≡ app f us
        → L.work < length (pairs ts us ++ ps) → Passes (taking p ps n cs) d 25
    over_answer : {m : Move} {n : Derivation} {d : Done} {e : ℕ} → made m ≡ some ([], n) → Overflows n d e → Passes m d e

  -- a state of the run from s: s itself, and what comes of a move that is due while a unit is left
  pub data ReachedFrom (s : State) (budget : ℕ) : State → Type 0 where
    started : ReachedFrom s budget s
    moved : {m : Move} {d : Done} → ReachedFrom s budget (due m d) → d.units < budget → ReachedFrom s budget (move R L wanted room m (spend d))

  -- from the start
  abbrev pub Reached : ℕ → State → Type 0
  Reached = ReachedFrom (start R L wanted room)

  -- An end of the table, with what was done. 20: no more answers. 21: the wanted number is reached. 22: a move is due, and the budget is
  -- spent. 23 to 26: the start, or a move that is due while a unit is left, passes the limit
  pub data End (budget : ℕ) : ℕ → Done → Type 0 where
    no_more : {d : Done} → End budget 20 d
    enough : {d : Done} → length d.listed ≡ wanted → End budget 21 d
    no_unit : {m : Move} {d : Done} → Reached budget (due m d) → d.units ≡ budget → End budget 22 d
    start_cells : L.cells < R.variables → End budget 23 nothing
    start_answer : {e : ℕ} → Overflows (asked R todays.query_keeps) nothing e → End budget e nothing
    move_passes : {m : Move} {d : Done} {e : ℕ} → Reached budget (due m d) → d.units < budget → Passes m (spend d) e → End budget e (spend d)

  -- every end is one of 20 to 26
  passes_range : {m : Move} {d : Done} {e : ℕ} → Passes m d e → (20 ≤ e) × (e ≤ 26)
  passes_range (over_cells h) = (omega arith, omega arith)
  passes_range (over_steps h k) = (omega arith, omega arith)
  passes_range (over_work p q h) = (omega arith, omega arith)
  passes_range (over_answer p o) = let r = unfit_range o.unfit in (omega arith, omega arith)

  pub end_range : {budget e : ℕ} {d : Done} → End budget e d → (20 ≤ e) × (e ≤ 26)
  end_range no_more = (omega arith, omega arith)
  end_range (enough h) = (omega arith, omega arith)
  end_range (no_unit r h) = (omega arith, omega arith)
  end_range (start_cells h) = (omega arith, omega arith)
  end_range (start_answer o) = let r = unfit_range o.unfit in (omega arith, omega arith)
  end_range (move_passes r h p) = passes_range p

  -- What comes of d without spending a unit: a move that is due, or an end, which is 20, or 21, or one that E allows
  data Comes (E : ℕ → Type 0) (d : Done) : State → Type 0 where
    to_move : {m : Move} {c : Done} → c.units ≡ d.units → Comes E d (due m c)
    to_20 : {c : Done} → c.units ≡ d.units → Comes E d (ended 20 c)
    to_21 : {c : Done} → c.units ≡ d.units → length c.listed ≡ wanted → Comes E d (ended 21 c)
    to_limit : {e : ℕ} → E e → Comes E d (ended e d)

  module _ {E : ℕ → Type 0} {d : Done} where
    if_comes : (b : Bool) {x y : State} → (b ≡ true → Comes E d x) → (b ≡ false → Comes E d y) → Comes E d (when b then x else y)
    unfolding when◌then◌else◌
    if_comes true f g = f refl
    if_comes false f g = g refl

    fail_comes : (cs : List Choice) (c : Done) → c.units ≡ d.units → Comes E d (fail cs c)
    unfolding fail
    fail_comes [] c h = to_20 h
    fail_comes (choice [] g n ∷ cs) c h = fail_comes cs c h
    fail_comes (choice (k ∷ ks) g n ∷ cs) c h = to_move h

    answered_comes : (cs : List Choice) (c : Done) → c.units ≡ d.units → Comes E d (answered R L wanted room cs c)
    unfolding answered
    answered_comes cs c h = if_comes (eqb (length c.listed) wanted) (λ q. to_21 h (eqb-true _ _ q)) (λ q. fail_comes cs c h)

  module _ {E : ℕ → Type 0} (d : Done) where
    answering_comes : (n : Derivation) (cs : List Choice) → n.goals ≡ [] → ((e : ℕ) → Overflows n d e → E e)
        → Comes E d (answering R L wanted room n cs d)
    unfolding answering put_out list
    answering_comes n cs closed o = go (fitting left L.work 0 (pieces a)) (fitting_says left L.work 0 (pieces a))
      where
        left : ℕ
        left = room - length (output d.listed)

        a : Answer
        a = answer R L wanted room n

        go : (f : Fit) → FitSays left L.work 0 (pieces a) f → Comes E d (put_out R L wanted room f a cs d)
        go fits u = answered_comes cs (list a d) refl
        go (stops e) u = to_limit (o e (record { closed = closed; unfit = u }))

    goal_comes : (gs : List Open) (n : Derivation) (cs : List Choice) → n.goals ≡ gs → ((e : ℕ) → Overflows n d e → E e)
        → Comes E d (take_goal R L wanted room gs n cs d)
    unfolding take_goal
    goal_comes [] n cs q o = answering_comes n cs q o
    goal_comes (goal g ∷ gs) n cs q o = fail_comes _ d refl
    goal_comes (cut_to h ∷ gs) n cs q o = to_move refl

    -- where a move makes r
    module _ (cs : List Choice) (r : Made) (o : (n : Derivation) (e : ℕ) → r ≡ some ([], n) → Overflows n d e → E e) where
      both_come : (b : Bool) {x y : State} {v w : Made} → r ≡ (when b then v else w)
          → (b ≡ true → r ≡ v → Comes E d x) → (b ≡ false → r ≡ w → Comes E d y) → Comes E d (when b then x else y)
      unfolding when◌then◌else◌
      both_come true q f g = f refl q
      both_come false q f g = g refl q

      matching_comes : (ps : List Pair) (n : Derivation) → r ≡ some (ps, n) → Comes E d (matching R L wanted room ps n cs d)
      unfolding matching go_on
      matching_comes [] n q = goal_comes n.goals n cs refl (λ e. o n e q)
      matching_comes (p ∷ ps) n q = to_move refl

      binding_comes : (x : ℕ) (t : Term) (ps : List Pair) (n : Derivation) → r ≡ bound x t ps n → Comes E d (binding R L wanted room x t ps n cs d)
      unfolding binding bound
      binding_comes x t ps n q =
          both_come (occurs x (inst (value n.store) t)) q (λ h p. fail_comes cs d refl) (λ h p. matching_comes ps (with_binding x t n) p)

      compared_comes : (t u : Term) (ps : List Pair) (n : Derivation) → r ≡ matched t u ps n
          → ((f : ℕ) (ts us : Terms) → t ≡ app f ts → u ≡ app f us → L.work < length (pairs ts us ++ ps) → E 25)
          → Comes E d (compared R L wanted room t u ps n cs d)
      unfolding compared matched
      compared_comes (var x) (var y) ps n q w =
          both_come (eqb x y) q (λ h p. matching_comes ps n p) (λ h p. binding_comes y (var x) ps n p)
      compared_comes (app f ts) (var y) ps n q w = binding_comes y (app f ts) ps n q
      compared_comes (var x) (app g us) ps n q w = binding_comes x (app g us) ps n q
      compared_comes (app f ts) (app g us) ps n q w =
          both_come (not (eqb f g)) q (λ h p. fail_comes cs d refl) (λ h p.
          let same : f ≡ g = eqb-true f g (not-false (eqb f g) h) in
          if_comes (ltb L.work (length (pairs ts us ++ ps)))
          (λ k. to_limit (w f ts us refl (ap (λ (i : ℕ). app i us) (sym same)) (ltb-true _ _ k)))
          (λ k. matching_comes (pairs ts us ++ ps) n p))

  -- what comes of a move, and of the start
  move_comes : (m : Move) (d : Done) → Comes (Passes m d) d (move R L wanted room m d)
  unfolding move try_head take_pair go_on made
  move_comes (trying k (choice ks g n) cs) d =
      if_comes (ltb L.cells (n.cells + k.clause.variables)) (λ q. to_limit (over_cells (ltb-true _ _ q))) (λ q.
      if_comes (ltb L.steps (length n.steps + 1)) (λ h. to_limit (over_steps (ltb-false _ _ q) (ltb-true _ _ h))) (λ h.
      matching_comes d _ (made (trying k (choice ks g n) cs)) (λ i e made o. over_answer made o) _ _ refl))
  move_comes (taking p ps n cs) d =
      compared_comes d cs (made (taking p ps n cs)) (λ i e made o. over_answer made o) _ _ ps n refl (λ f ts us left right h. over_work left right h)
  move_comes (cutting h n cs) d = goal_comes d n.goals n (keep h cs) refl (λ e o. over_answer refl o)

  start_comes : (budget : ℕ) → Comes (λ e. End budget e nothing) nothing (start R L wanted room)
  unfolding start_keeping nothing go_on
  start_comes budget =
      if_comes (eqb wanted 0) (λ q. to_21 refl (sym (eqb-true _ _ q))) (λ q.
      if_comes (ltb L.cells R.variables) (λ h. to_limit (start_cells (ltb-true _ _ h))) (λ h.
      goal_comes nothing _ (asked R todays.query_keeps) [] refl (λ e o. start_answer o)))

  -- ---- units
  comes_spent : {E : ℕ → Type 0} {d : Done} {s : State} → Comes E d s → spent s ≡ d.units
  unfolding spent
  comes_spent (to_move h) = h
  comes_spent (to_20 h) = h
  comes_spent (to_21 h k) = h
  comes_spent (to_limit x) = refl

  -- a move spends one unit
  pub move_spends : (m : Move) (d : Done) → spent (move R L wanted room m (spend d)) ≡ spent (due m d) + 1
  unfolding spent spend
  move_spends m d = comes_spent (move_comes m (spend d))

  -- so from one state no other is reached with the same units
  reached_spent : {s : State} {budget : ℕ} {t : State} → ReachedFrom s budget t → spent s ≤ spent t
  reached_spent started = omega arith
  reached_spent (moved {m = m} {d = d} i l) = let h = reached_spent i in let k = move_spends m d in omega arith

  pub reached_once : {s : State} {budget : ℕ} {t u : State} → ReachedFrom s budget t → ReachedFrom s budget u → spent t ≡ spent u → t ≡ u
  reached_once started started e = refl
  reached_once started (moved {m = m} {d = d} j l) e = let h = reached_spent j in let k = move_spends m d in absurd (omega arith)
  reached_once (moved {m = m} {d = d} i l) started e = let h = reached_spent i in let k = move_spends m d in absurd (omega arith)
  reached_once (moved {m = m} {d = d} i l) (moved {m = n} {d = c} j k) e =
      let g = move_spends m d in
      let h = move_spends n c in
      let same : due m d ≡ due n c = reached_once i j (omega arith) in
      let moves : m ≡ n = cc in
      let done : d ≡ c = cc in
      ap₂ (λ (x : Move) (y : Done). move R L wanted room x (spend y)) moves done

  pub start_spends : spent (start R L wanted room) ≡ 0
  unfolding nothing
  start_spends = comes_spent (start_comes 0)

  -- from any state, with so many units left, a run spends no more than those
  pub run_spends : (left : ℕ) (s : State) → (run R L wanted room left s).1.units ≤ spent s + left
  unfolding run spent
  run_spends zero (ended e d) = omega arith
  run_spends zero (due m d) = omega arith
  run_spends (suc left) (ended e d) = omega arith
  run_spends (suc left) (due m d) = omega (arith, run_spends left (move R L wanted room m (spend d)), move_spends m d)

  -- no more units are spent than the budget
  pub run_units : (budget e : ℕ) (d : Done) → run R L wanted room budget (start R L wanted room) ≡ (e, d) → d.units ≤ budget
  run_units budget e d q =
      subst (λ (r : ℕ × Done). r.1.units ≤ budget) q (omega (arith, run_spends budget (start R L wanted room), start_spends))

  -- ---- ends
  module _ (budget : ℕ) where
    -- an end that was come to is of the table
    abbrev Sound : State → Type 0
    Sound (ended e d) = End budget e d
    Sound (due m d) = Unit {0}

    comes_sound : {E : ℕ → Type 0} {d : Done} {s : State} → ((e : ℕ) → E e → End budget e d) → Comes E d s → Sound s
    comes_sound f (to_move h) = tt
    comes_sound f (to_20 h) = no_more
    comes_sound f (to_21 h k) = enough k
    comes_sound f (to_limit {e} x) = f e x

    run_sound : (left : ℕ) (s : State) → Reached budget s → Sound s → spent s + left ≡ budget
        → End budget (run R L wanted room left s).0 (run R L wanted room left s).1
    unfolding run spent
    run_sound zero (ended e d) r x q = x
    run_sound zero (due m d) r x q = no_unit r (omega arith)
    run_sound (suc left) (ended e d) r x q = x
    run_sound (suc left) (due m d) r x q =
        let h : d.units < budget = omega arith in
        let sound = comes_sound (λ e p. move_passes r h p) (move_comes m (spend d)) in
        run_sound left (move R L wanted room m (spend d)) (moved r h) sound (omega (arith, move_spends m d))

    -- every run comes to an end of the table
    pub run_end : (e : ℕ) (d : Done) → run R L wanted room budget (start R L wanted room) ≡ (e, d) → End budget e d
    run_end e d q =
        let sound = comes_sound (λ i x. x) (start_comes budget) in
        subst (λ (r : ℕ × Done). End budget r.0 r.1) q (run_sound budget (start R L wanted room) started sound (omega (arith, start_spends)))

    pub run_range : (e : ℕ) (d : Done) → run R L wanted room budget (start R L wanted room) ≡ (e, d) → (20 ≤ e) × (e ≤ 26)
    run_range e d q = end_range (run_end e d q)
