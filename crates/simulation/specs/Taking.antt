-- Taking the front pair comes to what the definition says.
-- Assumes nothing.
use Prim.Native.Nat.{ℕ, zero, suc, ◌+◌, ◌-◌, ◌*◌, ◌≤◌, ◌<◌}
use Rattle.std.proofs.Math.Path.{◌≡◌, refl, ap, sym, subst}
use Rattle.std.proofs.Common.{◌∙◌, inl, inr, mod-lt, length-append, eq-eqb, ne_eqb, lt-ltb, le-ltb}
use Rattle.std.specs.Prelude.{◌≢◌, false, length, Err}
use Rattle.std.proofs.Math.Bool.{not}
use mathlib.Core.List.{List, [], ◌∷◌, ◌++◌}
use Rattle.std.proofs.Math.Option.{some-injective}
use native.Mathlib.Omega.{arith}
use Rattle.std.proofs.Math.ListN.{set, length-set}
use Rattle.std.proofs.Math.Seq.{get_or-set_other, get_or-set_same}
use Rattle.meaning.specs.Terms.{Term, var, app, Terms, []ₜ, ◌∷ₜ◌, count, inst, insts, from, occurs}
use Rattle.meaning.specs.Reading.{byte}
use Rattle.meaning.specs.Store.{Store, bind, value, follow}
use Rattle.meaning.specs.Outcome.{end_number}
use Rattle.meaning.specs.declared.End.TheVariants.{Work}
use Rattle.meaning.specs.Moves.{Derivation, Choice, Pair, pairs, Done, State, ended, with_binding, fail, matching, binding, compared, take_pair}
use Rattle.meaning.specs.Call.{needed}
use Rattle.laws.specs.IfLaws.{if_true, if_false}
use Rattle.demands.specs.TermLaws.{occurs_false, count_insts}
use Rattle.demands.specs.StoreLaws.{Free, Sound, follow_free}
use Rattle.demands.specs.WellLaws.{Good, GoodStore, GoodPairs, follow_good, followed_good}
use Rattle.demands.specs.Ways.{GoodAt}
use Rattle.layout.specs.Regions.{word, Keeps}
use Rattle.words.specs.Words.{plus, ahead}
use Rattle.cells.specs.Cells.{cell_at, cell_of, word_of, followed, held_at}
use Rattle.cells.specs.declared.Held.{Held}
use Rattle.cells.specs.declared.Found.{Found}
use Rattle.matching.specs.Matching.{Pairing, going, past_kind, pushed, bound_to, one_bound, BindChecked, is_inside, binds, BindHead, unmentioned, mentioned, Functions, unequal, crowded, equal, front_of, Compares, one_variable, head_variable, head_free, goal_free, both_applied, TakesPair, no_pair, front}
use Rattle.matching.specs.declared.Clash.TheVariants.{Differ, Over}
use Rattle.search.specs.Search.{step_word, Backs, MatchesOn, MovesPair, same, differ, over_work}
use Rattle.search.specs.declared.Regs.{Regs}
use Rattle.search.specs.declared.Due.{Due}
use Rattle.search.specs.declared.Due.TheVariants.{Over as OverDue}
use Rattle.simulation.specs.Places.{TermsAt, of_term, IsHeld}
use Rattle.simulation.specs.PlaceLaws.{arity_stands}
use Rattle.simulation.specs.Rep.{Setting, lay, layout_of, Base, MarksAre, PairsAre, Older, now, since, bindings}
use Rattle.simulation.specs.Ranges.{few_functions, in_range_is}
use Rattle.simulation.specs.Frames.{SameSteps, SameTables, steps_same, goals_same, links_same, choices_same, choices_later}
use Rattle.simulation.specs.TableFrames.{tables_room, base_same}
use Rattle.simulation.specs.Undoes.{store_bindings, store_set}
use Rattle.simulation.specs.Follows.{Stored, FoundIs, follows, bindings_few}
use Rattle.simulation.specs.Insides.{insides, store_same, stored_kept}
use Rattle.simulation.specs.Unmentioned.{Unmentioned, arguments_good, sides_append, all_mentioned, outside, free_apart}
use Rattle.simulation.specs.States.{Fair, StoreRep, Run, Onward, AtIs, DueIs, is_over}
use Rattle.simulation.specs.Backing.{backs_fail}
use Rattle.simulation.specs.Going.{ahead_small}
use Rattle.simulation.specs.Cutting.{matches_on}
use Rattle.simulation.specs.Pushing.{plus_small, pairs_same, work_room, words_small, Pushed, pushed_pairs, place_few, work_tables}
use Rattle.simulation.specs.Packing.{packed_held}
use Rattle.simulation.specs.Trying.{given_of}

module _ (X : Setting) where
  abbrev C : ℕ
  C = X.limits.cells

  -- ---- one binding more
  -- words that differ in cells, trail, marks and list alone
  pub record Inner (w v : List ℕ) : Type 0 where
    pub as_long : length v ≡ length w
    pub tables : SameTables X w v
    pub above : (i : ℕ) → (lay X).steps ≤ i → word v i ≡ word w i

  pub inner_steps : (w v : List ℕ) (k : ℕ) → Inner w v → SameSteps X k w v
  unfolding step_word
  inner_steps w v k i zero j l = refl
  inner_steps w v k i (suc s) j l = i.above _ (omega arith)

  pub inner_then : (u v w : List ℕ) → Inner u v → Inner v w → Inner u w
  inner_then u v w a b = record { as_long = b.as_long ∙ a.as_long; tables = λ i h k. b.tables i h k ∙ a.tables i h k; above = λ i h. b.above i h ∙ a.above i h }

  module _ (w : List ℕ) (s : Store) (u k units x : ℕ) (h : Held) (t : Term) (rep : StoreRep X w s u k units) (sound : Sound (bind x t s)) (good : GoodStore X.rules.functions u (bind x t s)) (held : IsHeld X.rules h t) where
    abbrev w₁ : List ℕ
    w₁ = set w ((lay X).cells + x) (word_of h)

    abbrev w₂ : List ℕ
    w₂ = set w₁ ((lay X).trail + k) x

    k_less : k < u
    unfolding bindings
    k_less = let b = store_bindings X w k s rep.store in let f = bindings_few X.rules.functions u (bind x t s) sound good in omega arith

    few_60000 : u ≤ 60000
    few_60000 = let r = in_range_is X.limits X.in_limits in let c = r.few_cells in let f = rep.few in omega arith

    cells_in : (lay X).cells + x < length w
    unfolding layout_of needed
    cells_in = let l = rep.base.long in let f = rep.few in let g = good.0 in omega arith

    trail_in : (lay X).trail + k < length w
    unfolding layout_of needed
    trail_in = let l = rep.base.long in let f = rep.few in let g = k_less in omega arith

    pub bound_inner : Inner w w₂
    unfolding layout_of
    bound_inner =
        let a = good.0 in let b = k_less in let f = rep.few in
        record {
          as_long = simp length-set refl;
          tables = λ i c d. get_or-set_other w₁ _ i x 0 (λ e. omega arith) ∙ get_or-set_other w _ i (word_of h) 0 (λ e. omega arith);
          above = λ i c. get_or-set_other w₁ _ i x 0 (λ e. omega arith) ∙ get_or-set_other w _ i (word_of h) 0 (λ e. omega arith);
        }

    cell_word : word w₂ ((lay X).cells + x) ≡ word_of h
    unfolding layout_of
    cell_word = let a = good.0 in let f = rep.few in get_or-set_other w₁ _ _ x 0 (λ e. omega arith) ∙ get_or-set_same w _ (word_of h) 0 cells_in

    other_cell : (y : ℕ) → y < u → y ≢ x → word w₂ ((lay X).cells + y) ≡ word w ((lay X).cells + y)
    unfolding layout_of
    other_cell y l n = let f = rep.few in get_or-set_other w₁ _ _ x 0 (λ e. omega arith) ∙ get_or-set_other w _ _ (word_of h) 0 (λ e. n (omega arith))

    mark_word : (y : ℕ) → word w₂ ((lay X).marks + y) ≡ word w ((lay X).marks + y)
    unfolding layout_of
    mark_word y = let a = good.0 in let b = k_less in let f = rep.few in get_or-set_other w₁ _ _ x 0 (λ e. omega arith) ∙ get_or-set_other w _ _ (word_of h) 0 (λ e. omega arith)

    trail_word : (j : ℕ) → j < k → word w₂ ((lay X).trail + j) ≡ word w₁ ((lay X).trail + j)
    trail_word j l = get_or-set_other w₁ _ _ x 0 (λ e. omega arith)

    cell_word_1 : (y : ℕ) → y < u → word w₂ ((lay X).cells + y) ≡ word w₁ ((lay X).cells + y)
    unfolding layout_of
    cell_word_1 y l = let f = rep.few in get_or-set_other w₁ _ _ x 0 (λ e. omega arith)

    pub bound_rep : StoreRep X w₂ (bind x t s) u (suc k) units
    unfolding cell_at
    bound_rep =
        let (r, e, i) = packed_held X u few_60000 h t held good.1 in
        record {
          base = base_same X w w₂ bound_inner.tables bound_inner.as_long rep.base;
          store = (
            k,
            refl,
            get_or-set_same w₁ ((lay X).trail + k) x 0 (let q = trail_in in simp length-set (omega arith)),
            (r, ap cell_of cell_word ∙ e, i),
            store_same X w₁ w₂ k u s cell_word_1 trail_word good.2 (store_set X w k s x (word_of h) (let f = rep.few in let g = good.0 in omega arith) sound.0 rep.store),
          );
          free = λ y l f. other_cell y l f.0 ∙ rep.free y l f.1;
          few = rep.few;
          marks = λ y l. subst (λ (z : ℕ). z < suc units) (sym (mark_word y)) (rep.marks y l);
        }

  -- ---- the same derivation over other inner words
  inner_run : (w v : List ℕ) (m : Regs) (n : Derivation) (cs : List Choice) (s : Store) (trail work fresh : ℕ) → Inner w v → Run X w m n cs → Older n.store s → StoreRep X v s n.cells trail m.units
      → Run X v (record { cells = m.cells; trail = trail; steps = m.steps; choice = m.choice; work = work; fresh = fresh; next = m.next; units = m.units }) (record { goals = n.goals; store = s; cells = n.cells; steps = n.steps }) cs
  inner_run w v m n cs s trail work fresh i r o rep = record {
    holds = rep;
    cells = r.cells;
    steps = steps_same X m.steps w v (inner_steps w v m.steps i) m.steps n.steps (omega arith) r.steps;
    few_steps = r.few_steps;
    choices = choices_later X v o (omega arith) (choices_same X w v i.tables (tables_room X) m.steps (inner_steps w v m.steps i) r.choice r.choices);
    choice = r.choice;
  }

  inner_onward : (w v : List ℕ) (m : Regs) (n : Derivation) (trail work fresh : ℕ) (c : m.choice ≤ m.steps) → Inner w v → Onward X w m m.next n.goals
      → Onward X v (record { cells = m.cells; trail = trail; steps = m.steps; choice = m.choice; work = work; fresh = fresh; next = m.next; units = m.units }) m.next n.goals
  inner_onward w v m n trail work fresh c i o = record {
    goals = goals_same X m.steps w v (inner_steps w v m.steps i) o.step o.goals;
    step = o.step;
    links = links_same X m.steps w v (inner_steps w v m.steps i) m.choice m.next.step c o.step o.links;
    settled = o.settled;
  }

  inner_pairs : (w v : List ℕ) (j : ℕ) (ps : List Pair) → Base X w → j ≤ X.limits.work → Inner w v → PairsAre X w j ps → PairsAre X v j ps
  unfolding layout_of
  inner_pairs w v j ps b l i q = pairs_same X w v j ps (let a = words_small X in let c = work_room X w b in omega arith) (λ k h z. i.above k (omega arith)) q

  pairs_few : (w : List ℕ) (j : ℕ) (ps : List Pair) → PairsAre X w j ps → j ≡ length ps
  pairs_few w j [] e = e
  pairs_few w j (p ∷ ps) (i, e, a, b, r) = e ∙ ap suc (pairs_few w i ps r)

  marks_inner : (w v : List ℕ) → Keeps (lay X).marks ((lay X).marks + 2 * C) w v → Inner w v
  unfolding layout_of
  marks_inner w v k = record { as_long = k.same_length; tables = λ i a b. k.same i (inl (omega arith)); above = λ i a. k.same i (inr (omega arith)) }

  module _ (wanted room : ℕ) (w : List ℕ) (m : Regs) (p : Pair) (ps : List Pair) (n : Derivation) (cs : List Choice) (d : Done)
      (at : AtIs X w m (p ∷ ps) n cs) (marks : MarksAre X w n.cells m.units) (well : GoodPairs X.rules.functions n.cells (p ∷ ps)) (fresh : Unmentioned X.rules.functions m.fresh n.store (p ∷ ps)) (fair : Fair X n cs) (units : m.units ≡ d.units) where
    abbrev s : Store
    s = n.store

    abbrev j : ℕ
    j = at.pairs.0

    rest_is : m.work - 1 ≡ j
    rest_is = let e = at.pairs.1 in omega arith

    cells_few : n.cells ≤ 60000
    cells_few = let r = in_range_is X.limits X.in_limits in let c = r.few_cells in let f = at.run.holds.few in omega arith

    good : GoodAt X.rules n
    good = fair.good

    stored : Stored X w m.trail n.cells s
    stored = record { sound = good.sound; is = at.run.holds.store; free = at.run.holds.free; good = good.store; few = cells_few }

    -- what the pair comes to
    pub data Comes (v : List ℕ) : Pairing → State → Type 0 where
      goes : (trail work fresh : ℕ) (qs : List Pair) (o : Derivation)
          → AtIs X v (record { cells = m.cells; trail = trail; steps = m.steps; choice = m.choice; work = work; fresh = fresh; next = m.next; units = m.units }) qs o cs → Unmentioned X.rules.functions fresh o.store qs → Fair X o cs → Comes v (going trail work fresh) (matching X.rules X.limits wanted room qs o cs d)
      fails : Inner w v → StoreRep X v s n.cells m.trail m.units → Comes v (Err Differ) (fail cs d)
      fills : Comes v (Err Over) (ended 25 d)

    unchanged : Inner w w
    unchanged = record { as_long = refl; tables = λ i a b. refl; above = λ i a. refl }

    -- a variable takes the goal's side, and its pair is gone
    taken : (x : ℕ) (t : Term) → Good X.rules.functions m.fresh t → Unmentioned X.rules.functions m.fresh (bind x t s) ps
    taken x t g = record { bindings = (g, fresh.bindings); goals = fresh.goals.1 }

    -- matching goes on with the other pairs, nothing being changed
    goes_same : Comes w (going m.trail j m.fresh) (matching X.rules X.limits wanted room ps n cs d)
    goes_same =
        goes m.trail j m.fresh ps n (record {
          run = inner_run w w m n cs s m.trail j m.fresh unchanged at.run now at.run.holds;
          pairs = at.pairs.4;
          few = let e = at.pairs.1 in let f = at.few in omega arith;
          next = inner_onward w w m n m.trail j m.fresh at.run.choice unchanged at.next;
        }) (record { bindings = fresh.bindings; goals = fresh.goals.1 }) fair

    -- nothing but marks and lists has changed
    kept : (v : List ℕ) → Keeps (lay X).marks ((lay X).marks + 2 * C) w v → MarksAre X v n.cells (suc m.units) → StoreRep X v s n.cells m.trail m.units
    kept v k mk =
        let st = stored_kept at.run.holds.few k stored in
        record { base = base_same X w v (marks_inner w v k).tables k.same_length at.run.holds.base; store = st.is; free = st.free; few = at.run.holds.few; marks = mk }

    -- the variable is bound
    bound : (x : ℕ) (h : Held) (t : Term) (v : List ℕ) (fresh : ℕ) → Unmentioned X.rules.functions fresh (bind x t s) ps → Inner w v → StoreRep X v s n.cells m.trail m.units → Sound (bind x t s) → GoodStore X.rules.functions n.cells (bind x t s) → IsHeld X.rules h t
        → Comes (bound_to (lay X) m.trail (record { 0 = x }) h v) (one_bound m.trail j fresh) (matching X.rules X.limits wanted room ps (with_binding x t n) cs d)
    unfolding with_binding bound_to one_bound
    bound x h t v fresh un i rep sound_then good_then held =
        let u : List ℕ = set (set v ((lay X).cells + x) (word_of h)) ((lay X).trail + m.trail) x in
        let b : Inner w u = inner_then w v u i (bound_inner v s n.cells m.trail m.units x h t rep sound_then good_then held) in
        let r : StoreRep X u (bind x t s) n.cells (suc m.trail) m.units = bound_rep v s n.cells m.trail m.units x h t rep sound_then good_then held in
        let z : plus m.trail 1 ≡ suc m.trail = (let k = k_less v s n.cells m.trail m.units x h t rep sound_then good_then held in let c = cells_few in plus_small m.trail 1 (omega arith) ∙ omega arith) in
        subst (λ (k : ℕ). Comes u (going k j fresh) (matching X.rules X.limits wanted room ps (record { goals = n.goals; store = bind x t s; cells = n.cells; steps = n.steps }) cs d)) (sym z)
        (goes (suc m.trail) j fresh ps (record { goals = n.goals; store = bind x t s; cells = n.cells; steps = n.steps }) (record {
          run = inner_run w u m n cs (bind x t s) (suc m.trail) j fresh b at.run (since now) r;
          pairs = inner_pairs w u j ps at.run.holds.base (let e = at.pairs.1 in let f = at.few in omega arith) b at.pairs.4;
          few = let e = at.pairs.1 in let f = at.few in omega arith;
          next = inner_onward w u m n (suc m.trail) j fresh at.run.choice b at.next;
        }) un (record { good = record { sound = sound_then; store = good_then; goals = good.goals; asks = good.asks; numbers = good.numbers }; within = (let f = at.run.holds.few in let g = good_then.0 in omega arith, fair.within); choices = fair.choices }))

    -- a free variable is bound, or stands inside its new value
    binds_or : (x : ℕ) (h : Held) (t : Term) (fresh : ℕ) → Unmentioned X.rules.functions fresh (bind x t s) ps → {c : Pairing} {v : List ℕ} → BindChecked X.file (lay X) m.units m.trail j fresh (record { 0 = x }) h w c v → x < n.cells → Free x s → IsHeld X.rules h t → Good X.rules.functions n.cells t
        → Comes v c (binding X.rules X.limits wanted room x t ps n cs d)
    unfolding binding with_binding
    binds_or x h t fresh un (is_inside {v = v} i) l f held g =
        let (e, k, mk) = insides (record { stored = stored; base = at.run.holds.base; free = f; room = at.run.holds.few; marks = marks }) h t held g i in
        subst (Comes v (Err Differ)) (sym (if_true _ _ _ (sym e))) (fails (marks_inner w v k) (kept v k mk))
    binds_or x h t fresh un (binds {v = v} i) l f held g =
        let (e, k, mk) = insides (record { stored = stored; base = at.run.holds.base; free = f; room = at.run.holds.few; marks = marks }) h t held g i in
        subst (Comes _ (one_bound m.trail j fresh)) (sym (if_false _ _ _ (sym e)))
        (bound x h t v fresh un (marks_inner w v k) (kept v k mk) (f, occurs_false x _ (sym e), good.sound) (l, g, good.store) held)

    -- a free variable that does not stand inside its new value is bound
    binds_unchecked : (x : ℕ) (h : Held) (t : Term) (fresh : ℕ) → Unmentioned X.rules.functions fresh (bind x t s) ps → occurs x (inst (value s) t) ≡ false → x < n.cells → Free x s → IsHeld X.rules h t → Good X.rules.functions n.cells t
        → Comes (bound_to (lay X) m.trail (record { 0 = x }) h w) (one_bound m.trail j fresh) (binding X.rules X.limits wanted room x t ps n cs d)
    unfolding binding
    binds_unchecked x h t fresh un e l f held g =
        subst (Comes _ (one_bound m.trail j fresh)) (sym (if_false _ _ _ e))
        (bound x h t w fresh un unchanged at.run.holds (f, occurs_false x _ e, good.sound) (l, g, good.store) held)

    -- a variable of the head side takes a function applied
    binds_head : (y : ℕ) (h : Held) (t : Term) → Good X.rules.functions m.fresh t → {c : Pairing} {v : List ℕ} → BindHead X.file (lay X) m.units m.trail j m.fresh (record { 0 = y }) h w c v → y < n.cells → Free y s → IsHeld X.rules h t → Good X.rules.functions n.cells t
        → Comes v c (binding X.rules X.limits wanted room y t ps n cs d)
    binds_head y h t b (unmentioned l) = binds_unchecked y h t m.fresh (taken y t b) (outside X.rules.functions m.fresh s t y fresh.bindings b l)
    binds_head y h t b (mentioned l c) = binds_or y h t m.fresh (taken y t b) c

    -- ---- two functions applied
    -- a function applied that is held stands as one in the rules
    held_app : (h : Held) (f : ℕ) (ts : Terms) → IsHeld X.rules h (app f ts) → (us : Terms) × (bs : Terms) × TermsAt X.rules h.place.0 (app f us ∷ₜ bs) × (ts ≡ insts (from h.base.0) us)
    unfolding inst from
    held_app h f ts i = go i.raw i.stands i.is
      where
        go : (r : Term) → TermsAt X.rules h.place.0 (r ∷ₜ i.behind) → app f ts ≡ inst (from h.base.0) r → (us : Terms) × (bs : Terms) × TermsAt X.rules h.place.0 (app f us ∷ₜ bs) × (ts ≡ insts (from h.base.0) us)
        go (var y) t e = let z : ◌≡◌ {A = ℕ} 0 1 = cc in absurd (omega arith)
        go (app g us) t e = let q : f ≡ g = cc in (us, i.behind, rw q t, cc)

    -- the words of the work region do not matter to the rest
    work_run : (v : List ℕ) (lo hi work : ℕ) → (lay X).work ≤ lo → Keeps lo hi w v → Run X v (record { cells = m.cells; trail = m.trail; steps = m.steps; choice = m.choice; work = work; fresh = m.fresh; next = m.next; units = m.units }) n cs
        × Onward X v (record { cells = m.cells; trail = m.trail; steps = m.steps; choice = m.choice; work = work; fresh = m.fresh; next = m.next; units = m.units }) m.next n.goals
    unfolding layout_of step_word
    work_run v lo hi work l k =
        let low : (i : ℕ) → i < (lay X).work → word v i ≡ word w i = λ i h. k.same i (inl (omega arith)) in
        let tables : SameTables X w v = work_tables X w v lo hi l k in
        let st : SameSteps X m.steps w v = steps_low v low in (
          record {
            holds = record {
              base = base_same X w v tables k.same_length at.run.holds.base;
              store = store_same X w v m.trail n.cells s (λ y h. low _ (cells_low y h)) (λ i h. low _ (trail_low i h)) good.store at.run.holds.store;
              free = λ x h f. low _ (cells_low x h) ∙ at.run.holds.free x h f;
              few = at.run.holds.few;
              marks = λ x h. subst (λ (z : ℕ). z < suc m.units) (sym (low _ (marks_low x h))) (at.run.holds.marks x h);
            };
            cells = at.run.cells;
            steps = steps_same X m.steps w v st m.steps n.steps (omega arith) at.run.steps;
            few_steps = at.run.few_steps;
            choices = choices_same X w v tables (tables_room X) m.steps st at.run.choice at.run.choices;
            choice = at.run.choice;
          },
          record {
            goals = goals_same X m.steps w v st at.next.step at.next.goals;
            step = at.next.step;
            links = links_same X m.steps w v st m.choice m.next.step at.run.choice at.next.step at.next.links;
            settled = at.next.settled;
          },
        )
      where
        trail_few : m.trail ≤ C
        trail_few = let b = store_bindings X w m.trail s at.run.holds.store in let c = bindings_few X.rules.functions n.cells s good.sound good.store in let f = at.run.holds.few in omega arith

        cells_low : (y : ℕ) → y < n.cells → (lay X).cells + y < (lay X).work
        cells_low y h = let f = at.run.holds.few in omega arith

        marks_low : (y : ℕ) → y < n.cells → (lay X).marks + y < (lay X).work
        marks_low y h = let f = at.run.holds.few in omega arith

        trail_low : (i : ℕ) → i < m.trail → (lay X).trail + i < (lay X).work
        trail_low i h = let f = trail_few in omega arith

        steps_low : (v : List ℕ) → ((i : ℕ) → i < (lay X).work → word v i ≡ word w i) → SameSteps X m.steps w v
        steps_low v low zero q h = refl
        steps_low v low (suc i) q h = let r = mod-lt q {m = 8} (omega arith) in let f = at.run.few_steps in low _ (omega arith)

    unchanged_fails : Comes w (Err Differ) (fail cs d)
    unchanged_fails = fails unchanged at.run.holds

    pairs_length : (ts us : Terms) → count ts ≡ count us → length (pairs ts us) ≡ count ts
    unfolding pairs count
    pairs_length []ₜ us e = refl
    pairs_length (t ∷ₜ ts) []ₜ e = absurd (omega arith)
    pairs_length (t ∷ₜ ts) (u ∷ₜ us) e = ap suc (pairs_length ts us (omega arith))

    -- the arguments of an equal function go in front
    module _ (f : ℕ) (ts us : Terms) (a b : Held) (ia : IsHeld X.rules a (app f ts)) (ib : IsHeld X.rules b (app f us)) (ga : Good X.rules.functions n.cells (app f ts)) (gb : Good X.rules.functions n.cells (app f us)) (gf : Good X.rules.functions m.fresh (app f ts)) where
      counts : count ts ≡ count us
      counts = some-injective _ _ (sym ga.0 ∙ gb.0)

      arity_is : byte X.file (2 * f + 1) ≡ count ts
      arity_is = let (xs, bs, st, e) = held_app a f ts ia in arity_stands X st ∙ sym (count_insts (from a.base.0) xs) ∙ ap count (sym e)

      longer_is : plus j (byte X.file (2 * f + 1)) ≡ length (pairs ts us ++ ps)
      longer_is =
          let c = few_functions X f (count ts) ga.0 in let l = at.few in let e = at.pairs.1 in let r = in_range_is X.limits X.in_limits in let q = r.few_work in
          ap (plus j) arity_is ∙ plus_small j (count ts) (omega arith)
          ∙ (let x = pairs_length ts us counts in let y = pairs_few w j ps at.pairs.4 in omega (arith, length-append (pairs ts us) ps))

      pushes : (xs ys : Terms) → byte X.file (2 * f + 1) ≡ count xs → plus j (byte X.file (2 * f + 1)) ≡ j + count xs → ts ≡ insts (from a.base.0) xs → us ≡ insts (from b.base.0) ys
          → Pushed X w j (count xs) ps (pairs (insts (from a.base.0) xs) (insts (from b.base.0) ys)) (pushed (count xs) j (lay X) (past_kind a 3) (past_kind b 3) w) → j + count xs ≤ X.limits.work
          → Comes (pushed (byte X.file (2 * f + 1)) j (lay X) (past_kind a 3) (past_kind b 3) w) (going m.trail (plus j (byte X.file (2 * f + 1))) m.fresh) (matching X.rules X.limits wanted room (pairs ts us ++ ps) n cs d)
      pushes xs ys z t e g p₁ l =
          let (run, next) = work_run (pushed (count xs) j (lay X) (past_kind a 3) (past_kind b 3) w) _ _ (j + count xs) (omega arith) p₁.keeps in
          rw (t, z, e, g) (goes m.trail (j + count xs) m.fresh (pairs (insts (from a.base.0) xs) (insts (from b.base.0) ys) ++ ps) n (record { run = run; pairs = p₁.pairs; few = l; next = next }) (record { bindings = fresh.bindings; goals = sides_append X.rules.functions m.fresh (pairs (insts (from a.base.0) xs) (insts (from b.base.0) ys)) ps (arguments_good X.rules.functions m.fresh (insts (from a.base.0) xs) (insts (from b.base.0) ys) (rw e at gf.1)) fresh.goals.1 }) fair)

      pushed_come : plus j (byte X.file (2 * f + 1)) ≤ X.limits.work
          → Comes (pushed (byte X.file (2 * f + 1)) j (lay X) (past_kind a 3) (past_kind b 3) w) (going m.trail (plus j (byte X.file (2 * f + 1))) m.fresh) (matching X.rules X.limits wanted room (pairs ts us ++ ps) n cs d)
      unfolding past_kind
      pushed_come l =
          let (xs, bs, st, e) = held_app a f ts ia in
          let (ys, cs', su, g) = held_app b f us ib in
          let c = few_functions X f (count ts) ga.0 in
          let q = at.few in let k = at.pairs.1 in
          let r = in_range_is X.limits X.in_limits in let s = r.few_work in
          let nx : count xs ≡ count ts = sym (ap count e ∙ count_insts (from a.base.0) xs) in
          let ny : count ys ≡ count us = sym (ap count g ∙ count_insts (from b.base.0) ys) in
          let z : byte X.file (2 * f + 1) ≡ count xs = arity_is ∙ sym nx in
          let t : plus j (byte X.file (2 * f + 1)) ≡ j + count xs = ap (plus j) z ∙ plus_small j (count xs) (omega arith) in
          let pa = place_few X a.place.0 (app f xs) bs st in
          let pb = place_few X b.place.0 (app f ys) cs' su in
          let ha : ahead a.place.0 3 ≡ a.place.0 + 3 = ahead_small a.place.0 3 (omega arith) in
          let hb : ahead b.place.0 3 ≡ b.place.0 + 3 = ahead_small b.place.0 3 (omega arith) in
          let p₁ = pushed_pairs X xs ys w j (past_kind a 3) (past_kind b 3) ps at.run.holds.base (rw ha (of_term st)) (rw hb (of_term su)) (nx ∙ counts ∙ sym ny) (omega arith) at.pairs.4 in
          pushes xs ys z t e g p₁ (omega arith)

    functions_come : (f e : ℕ) (ts us : Terms) (a b : Held) → IsHeld X.rules a (app f ts) → IsHeld X.rules b (app e us) → Good X.rules.functions n.cells (app f ts) → Good X.rules.functions n.cells (app e us) → Good X.rules.functions m.fresh (app f ts) → {c : Pairing} {v : List ℕ}
        → Functions X.file (lay X) X.limits.work m.trail j m.fresh f e a b w c v → Comes v c (compared X.rules X.limits wanted room (app f ts) (app e us) ps n cs d)
    unfolding compared
    functions_come f e ts us a b ia ib ga gb gf (unequal q) = subst (Comes w (Err Differ)) (sym (if_true _ _ _ (ap not (ne_eqb f e q)))) unchanged_fails
    functions_come f e ts us a b ia ib ga gb gf (crowded q l) =
        let z = longer_is f ts us a b ia (rw (← q) at ib) ga (rw (← q) at gb) gf in
        subst (Comes w (Err Over)) (sym (if_false _ _ _ (ap not (eq-eqb f e q)) ∙ if_true _ _ _ (lt-ltb X.limits.work (length (pairs ts us ++ ps)) (omega arith)))) fills
    functions_come f e ts us a b ia ib ga gb gf (equal q l) =
        let z = longer_is f ts us a b ia (rw (← q) at ib) ga (rw (← q) at gb) gf in
        subst (Comes (pushed (byte X.file (2 * f + 1)) j (lay X) (past_kind a 3) (past_kind b 3) w) (going m.trail (plus j (byte X.file (2 * f + 1))) m.fresh)) (sym (if_false _ _ _ (ap not (eq-eqb f e q)) ∙ if_false _ _ _ (le-ltb X.limits.work (length (pairs ts us ++ ps)) (omega arith))))
        (pushed_come f ts us a b ia (rw (← q) at ib) ga (rw (← q) at gb) gf l)

    -- ---- the pair in all its cases
    -- a side, once it is followed
    record Side (g : Found) (t : Term) : Type 0 where
      found : FoundIs X.rules g t
      well_formed : Good X.rules.functions n.cells t
      frees : (x : ℕ) → t ≡ var x → Free x s

    side : (h : Held) (t : Term) → IsHeld X.rules h t → Good X.rules.functions n.cells t → Side (followed m.trail X.file w (lay X) h) (follow s t)
    side h t i g = record { found = follows X w m.trail n.cells s stored h t i g; well_formed = follow_good X.rules.functions n.cells s good.store t g; frees = λ x e. follow_free s good.sound t x e }

    compares_come : (g h : Found) (t u : Term) → Side g t → Side h u → Good X.rules.functions m.fresh t → {c : Pairing} {v : List ℕ} → Compares X.file (lay X) X.limits.work m.units m.cells m.trail j m.fresh g h w c v
        → Comes v c (compared X.rules X.limits wanted room t u ps n cs d)
    unfolding compared
    compares_come g h t u a b z (one_variable {x = x} {y = y} e f q) =
        let (k, i) = subst (λ (z : Found). FoundIs X.rules z t) e a.found in
        let (l, o) = subst (λ (z : Found). FoundIs X.rules z u) f b.found in
        rw (k, l) (subst (Comes w (going m.trail j m.fresh)) (sym (if_true _ _ _ (eq-eqb x.0 y.0 q))) goes_same)
    compares_come g h t u a b z (head_variable {x = x} {y = y} {s = p₁} e f q) =
        let (k, i) = subst (λ (z : Found). FoundIs X.rules z t) e a.found in
        let (l, o) = subst (λ (z : Found). FoundIs X.rules z u) f b.found in
        rw (k, l) (subst (Comes _ _) (sym (if_false _ _ _ (ne_eqb x.0 y.0 q)))
        (binds_unchecked y.0 p₁ (var x.0) m.fresh (taken y.0 (var x.0) (rw k at z)) (free_apart s x.0 y.0 (a.frees x.0 k) q) (rw l at b.well_formed) (b.frees y.0 l) (rw k at i) (rw k at a.well_formed)))
    compares_come g h t u a b z (head_free {f = f₁} {y = y} {s = p₁} e f c) =
        let (ts, k, i) = subst (λ (z : Found). FoundIs X.rules z t) e a.found in
        let (l, o) = subst (λ (z : Found). FoundIs X.rules z u) f b.found in
        rw (k, l) (binds_head y.0 p₁ (app f₁ ts) (rw k at z) c (rw l at b.well_formed) (b.frees y.0 l) (rw k at i) (rw k at a.well_formed))
    compares_come g h t u a b z (goal_free {e = e₁} {x = x} {t = p₁} e f c) =
        let (k, i) = subst (λ (z : Found). FoundIs X.rules z t) e a.found in
        let (us, l, o) = subst (λ (z : Found). FoundIs X.rules z u) f b.found in
        rw (k, l) (binds_or x.0 p₁ (app e₁ us) m.cells
        (rw at.run.cells (all_mentioned X.rules.functions n.cells (bind x.0 (app e₁ us) s) ps (rw k at a.well_formed, rw l at b.well_formed, good.store) well.2))
        c (rw k at a.well_formed) (a.frees x.0 k) (rw l at o) (rw l at b.well_formed))
    compares_come g h t u a b z (both_applied {e = e₁} {f = f₁} {s = p₁} {t = p₂} e f c) =
        let (ts, k, i) = subst (λ (z : Found). FoundIs X.rules z t) e a.found in
        let (us, l, o) = subst (λ (z : Found). FoundIs X.rules z u) f b.found in
        rw (k, l) (functions_come f₁ e₁ ts us p₁ p₂ (rw k at i) (rw l at o) (rw k at a.well_formed) (rw l at b.well_formed) (rw k at z) c)

    -- taking the front pair
    takes_come : {c : Pairing} {v : List ℕ} → TakesPair X.file (lay X) X.limits.work m.units m.cells m.trail m.work m.fresh w c v → Comes v c (take_pair X.rules X.limits wanted room p ps n cs d)
    unfolding take_pair front_of
    takes_come (no_pair e) = let f = at.pairs.1 in absurd (omega arith)
    takes_come (front {k = k} z e c) =
        compares_come k.goal k.head (follow s p.goal_side) (follow s p.head_side)
        (rw (e, rest_is) (side (held_at w ((lay X).work + 4 * j)) p.goal_side at.pairs.2 well.0))
        (rw (e, rest_is) (side (held_at w ((lay X).work + 4 * j + 2)) p.head_side at.pairs.3 well.1))
        (followed_good X.rules.functions m.fresh s fresh.bindings p.goal_side fresh.goals.0)
        (rw rest_is at c)

    -- ---- the move
    on_same : {trail work fresh : ℕ} {v u : List ℕ} {st : State} {r : Due} → Comes v (going trail work fresh) st
        → MatchesOn X.file (lay X) (record { cells = m.cells; trail = trail; steps = m.steps; choice = m.choice; work = work; fresh = fresh; next = m.next; units = m.units }) v r u → DueIs X u wanted room d r st
    on_same (goes trail work new qs o a k f) mo = matches_on X wanted room _ _ qs o cs d mo a k f units

    on_differ : {v u : List ℕ} {st : State} {r : Due} → Comes v (Err Differ) st → Backs (lay X) m m.trail m.choice v r u → DueIs X u wanted room d r st
    on_differ {v} (fails i rep) b =
        backs_fail X (tables_room X) wanted room m b s n.cells cs d rep good.sound fair.within
        (choices_same X w v i.tables (tables_room X) m.steps (inner_steps w v m.steps i) at.run.choice at.run.choices) fair.choices (let a = at.run.choice in let f = at.run.few_steps in omega arith) units

    on_over : {v : List ℕ} {st : State} → Comes v (Err Over) st → DueIs X v wanted room d (OverDue Work m) st
    unfolding end_number
    on_over fills = is_over Work units

    pub moves_pair : {r : Due} {v : List ℕ} → MovesPair X.file (given_of X) m w r v → DueIs X v wanted room d r (take_pair X.rules X.limits wanted room p ps n cs d)
    unfolding given_of
    moves_pair (same t mo) = on_same (takes_come t) mo
    moves_pair (differ t b) = on_differ (takes_come t) b
    moves_pair (over_work t) = on_over (takes_come t)
