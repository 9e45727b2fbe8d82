-- The nodes of the values of an answer, measured or written one after another, come to the records that the definition writes.
-- Assumes nothing.
use Prim.Native.Nat.{ℕ, zero, suc, ◌+◌, ◌-◌, ◌*◌, ◌^◌, ◌≤◌, ◌<◌}
use Rattle.std.specs.Prelude.{◌≡◌, ◌⊎◌, Bool, Result, Ok, Err, set}
use Rattle.std.proofs.Math.Path.{refl, ap, sym, subst}
use Rattle.std.proofs.Common.{ap₂, ◌∙◌, inl, inr, get_or-set_same}
use Rattle.std.proofs.Math.Bool.{true, false}
use mathlib.Core.List.{List, [], ◌∷◌, ◌++◌, append_assoc, append-nil}
use native.Mathlib.Omega.{arith}
use Rattle.std.proofs.Math.Dec.{eqb}
use Rattle.std.proofs.Math.Option.{some}
use Rattle.std.proofs.Math.ListN.{length, get_elem?, length-append}
use Rattle.std.proofs.Math.Seq.{get_or-set_other}
use borrow.Author.Tests.{eq-eqb, eqb-true, eqb-false, lt-ltb, le-ltb}
use Rattle.meaning.specs.Terms.{Term, var, app, Terms, []ₜ, ◌∷ₜ◌, count, inst, insts, from, values_from}
use Rattle.meaning.specs.Kinds.{an_application, an_answer_variable}
use Rattle.meaning.specs.Store.{Store, value, follow}
use Rattle.meaning.specs.Answers.{has, appear, appears, index, Piece, piece, two, write, writes, write_each, bytes_of, stops, fitting}
use Rattle.meaning.specs.Call.{needed}
use Rattle.meaning.specs.Outcome.{end_number}
use Rattle.meaning.specs.declared.End.TheVariants.{Work, Output}
use Rattle.laws.specs.IfLaws.{if_true, if_false}
use Rattle.demands.specs.GoodFiles.{index_less}
use Rattle.demands.specs.TermLaws.{count_insts}
use Rattle.demands.specs.StoreLaws.{Free, value_free, value_solves_itself, solves_follow, follow_free}
use Rattle.demands.specs.WellLaws.{Good, Goods, follow_good}
use Rattle.layout.specs.Lengths.{clause_place, query_place, terms_length}
use Rattle.layout.specs.Regions.{word, Keeps}
use Rattle.words.specs.Words.{plus, ahead}
use Rattle.cells.specs.Cells.{cell_at, cell_of, followed}
use Rattle.cells.specs.declared.Cell.{Cell}
use Rattle.cells.specs.declared.Cell.TheVariants.{Free as Unset}
use Rattle.cells.specs.declared.Held.{Held}
use Rattle.cells.specs.declared.Found.{Found}
use Rattle.cells.specs.declared.Found.TheVariants.{Unbound, Function}
use Rattle.answers.specs.declared.Stopped.{Stopped}
use Rattle.answers.specs.declared.Tally.{Tally}
use Rattle.answers.specs.Values.{Number, known, fresh, appeared_of, due_at, arguments_put, arity_of, with_due, FreeNode, variable_full, variable, FunctionNode, function_full, crowded, function, Node, is_free, is_function}
use Rattle.answers.specs.Values.{NextNode, Nodes, none_due, node_stopped, next_due, value_of, cell_value, Value, first_stopped, whole_value, Values, no_more, value_stopped, next_value}
use Rattle.simulation.specs.Places.{TermsAt, of_term, IsHeld}
use Rattle.simulation.specs.Rep.{Setting, lay, layout_of, Base}
use Rattle.simulation.specs.Frames.{keeps_none, keeps_wider, set_keeps}
use Rattle.simulation.specs.PlaceLaws.{rules_stand, terms_end, arity_stands}
use Rattle.simulation.specs.Follows.{FoundIs, Stored, follows, Binds, free_or_bound, follow_free_variable, follow_bound, store_bound, bound_good}
use Rattle.simulation.specs.Ranges.{in_range_is}
use Rattle.simulation.specs.Going.{ahead_small}
use Rattle.simulation.specs.Pushing.{plus_small}
use Rattle.simulation.specs.Asides.{Aside, aside_then, aside_list, aside_work, base_aside, stored_aside}
use Rattle.simulation.specs.Numbers.{index_in, index_below, index_next, numbered, numbered_known, numbered_new, numbered_last, numbered_other, appears_grows}
use Rattle.simulation.specs.Pieces.{joined, joined_count, joined_insts, joined_writes, joined_appears, bytes_join, put, put_none, put_join, put_length, recorded_put, fitting_full, fitting_crowded, fitting_on}
use Rattle.simulation.specs.Dues.{DueAre, due_same, arguments_keep, arguments_due, count_short}

-- ---- what comes of some records
pub halts_stop : {n : ℕ} → (n ≡ 25) ⊎ (n ≡ 26) → n ≡ 0 → ⊥
halts_stop (inl e) z = omega arith
halts_stop (inr e) z = omega arith

module _ (writing : Bool) (W : ℕ) where
  -- the records ps fit, and are in the output where it is written, and A holds of the tally; or the writing stops in them with an end, and B holds
  pub data Ends (i : ℕ) (ps : List Piece) (o : List ℕ) (r : Result Tally Stopped) (p : List ℕ) (A : Tally → Type 0) (B : Type 0) : Type 0 where
    went : {t : Tally} → r ≡ Ok t → t.size ≡ i + length (bytes_of ps) → t.size ≤ length o → p ≡ put writing i (bytes_of ps) o
        → ((rest : List Piece) → fitting (length o) W i (ps ++ rest) ≡ fitting (length o) W t.size rest) → A t → Ends i ps o r p A B
    halts : {e : Stopped} → r ≡ Err e → (e.end ≡ Work) ⊎ (e.end ≡ Output) → ((rest : List Piece) → fitting (length o) W i (ps ++ rest) ≡ stops (end_number e.end)) → B → Ends i ps o r p A B

  ends_none : {t : Tally} {o : List ℕ} {A : Tally → Type 0} {B : Type 0} → t.size ≤ length o → A t → Ends t.size [] o (Ok t) o A B
  unfolding bytes_of
  ends_none {t} {o} l a = went refl (omega arith) l (sym (put_none writing t.size o)) (λ rest. refl) a

  -- records that fit, and then others
  ends_then : {i : ℕ} {s : Tally} {r : Result Tally Stopped} {ps qs : List Piece} {o p q : List ℕ} {A C : Tally → Type 0} {B D : Type 0} → Ends i ps o (Ok s) p A B
      → (s.size ≤ length o → length p ≡ length o → A s → Ends s.size qs p r q C D) → Ends i (ps ++ qs) o r q C D
  ends_then {i} {s} {r} {ps} {qs} {o} {p} {q} {A} {C} {D = D} (went {t} n e l m f a) k = go (k (omega (arith, same_size)) same (subst A (sym is) a))
    where
      is : s ≡ t
      is = cc

      same_size : s.size ≡ t.size
      same_size = ap (λ (x : Tally). x.size) is

      same : length p ≡ length o
      same = ap length m ∙ put_length writing i (bytes_of ps) o

      on : (rest : List Piece) → fitting (length o) W i ((ps ++ qs) ++ rest) ≡ fitting (length p) W s.size (qs ++ rest)
      on rest = ap (fitting (length o) W i) (append_assoc ps qs rest) ∙ f (qs ++ rest) ∙ ap₂ (λ (n m : ℕ). fitting n W m (qs ++ rest)) (sym same) (sym same_size)

      go : Ends s.size qs p r q C D → Ends i (ps ++ qs) o r q C D
      go (went {t = u} n₁ e₁ l₁ m₁ f₁ c) =
          let n : length (bytes_of (ps ++ qs)) ≡ length (bytes_of ps) + length (bytes_of qs) = ap length (bytes_join ps qs) ∙ length-append (bytes_of ps) (bytes_of qs) in
          let z : s.size ≡ i + length (bytes_of ps) = same_size ∙ e in
          went n₁ (omega arith) (omega (arith, same))
          (m₁ ∙ ap₂ (λ (j : ℕ) (x : List ℕ). put writing j (bytes_of qs) x) z m ∙ put_join writing i (bytes_of ps) (bytes_of qs) o ∙ ap (λ (x : List ℕ). put writing i x o) (sym (bytes_join ps qs)))
          (λ rest. on rest ∙ f₁ rest ∙ ap (λ (n : ℕ). fitting n W u.size rest) same) c
      go (halts n₁ e₁ f₁ d) = halts n₁ e₁ (λ rest. on rest ∙ f₁ rest) d
  ends_then (halts n e f b) k = let z : ◌≡◌ {A = ℕ} 0 1 = cc in absurd (omega arith)

  -- records in which the writing stops, whatever others follow
  ends_halt : {i : ℕ} {e : Stopped} {ps : List Piece} {o p : List ℕ} {A C : Tally → Type 0} {B : Type 0} (qs : List Piece) → Ends i ps o (Err e) p A B → Ends i (ps ++ qs) o (Err e) p C B
  ends_halt qs (went n e l m f a) = let z : ◌≡◌ {A = ℕ} 0 1 = cc in absurd (omega arith)
  ends_halt {i} {ps = ps} {o} qs (halts n e f b) = halts n e (λ rest. ap (fitting (length o) W i) (append_assoc ps qs rest) ∙ f (qs ++ rest)) b

-- ---- what has appeared
-- of all that appear, ys
module _ (ys : List ℕ) where
  -- while an answer is measured so many have appeared, and all have when it is written
  abbrev pub Counts : Bool → List ℕ → ℕ → Type 0
  Counts true seen free = seen ≡ ys
  Counts false seen free = free ≡ length seen

  -- those seen are the first of them
  abbrev pub Leads : List ℕ → Type 0
  Leads seen = (more : List ℕ) × (ys ≡ seen ++ more)

  leads_first : (seen : List ℕ) (ts : Terms) → Leads (appears seen ts) → Leads seen
  leads_first seen ts (more, e) = let m = appears_grows seen ts in (m.0 ++ more, e ∙ ap (◌++ more) m.1 ∙ append_assoc seen m.0 more)

  counts_known : (b : Bool) (seen : List ℕ) (x free : ℕ) → has x seen ≡ true → Counts b seen free → Counts b seen (appeared_of free (index seen x))
  unfolding appeared_of
  counts_known true seen x free h e = e
  counts_known false seen x free h e = let l = index_below seen x h in if_true _ _ _ (lt-ltb (index seen x) free (omega arith)) ∙ e

  -- a variable that is new has the next number, which happens only while the answer is measured
  counts_new : (b : Bool) (seen : List ℕ) (x free : ℕ) → Leads (seen ++ x ∷ []) → length ys ≤ 60_000 → Counts b seen free
      → (free ≡ length seen) × (plus free 1 ≡ suc (length seen)) × Counts b (seen ++ x ∷ []) (appeared_of free free)
  unfolding appeared_of
  counts_new b seen x free (more, e) h c = go b c (ap length e ∙ length-append (seen ++ x ∷ []) more) (length-append seen (x ∷ []))
    where
      go : (b : Bool) → Counts b seen free → length ys ≡ length (seen ++ x ∷ []) + length more → length (seen ++ x ∷ []) ≡ length seen + 1 → (free ≡ length seen) × (plus free 1 ≡ suc (length seen)) × Counts b (seen ++ x ∷ []) (appeared_of free free)
      go true c k l = let d = ap length c in absurd (omega arith)
      go false c k l =
          let d : plus free 1 ≡ suc (length seen) = plus_small free 1 (omega arith) ∙ omega arith in
          (c, d, if_false _ _ _ (le-ltb free free (omega arith)) ∙ d ∙ omega arith)

-- the words number what has appeared, below u cells
abbrev pub NumbersAre : Setting → ℕ → List ℕ → List ℕ → Type 0
NumbersAre X u w seen = (x : ℕ) → x < u → word w ((lay X).list + x) ≡ numbered seen x

module _ (X : Setting) (u : ℕ) (ys : List ℕ) (writing : Bool) where
  -- the free variable x has its number, and has appeared
  record NumberIs (x free : ℕ) (seen w : List ℕ) (n : ℕ) (v : List ℕ) : Type 0 where
    keeps : Keeps (lay X).list (lay X).steps w v
    number : n ≡ index ys x
    small : n < length ys
    numbers : NumbersAre X u v (appear seen (var x))
    counts : Counts ys writing (appear seen (var x)) (appeared_of free n)

  number_is : {x free : ℕ} {w : List ℕ} {n : ℕ} {v : List ℕ} (seen : List ℕ) → x < u → u ≤ X.limits.cells → needed (length X.file) X.limits ≤ length w → length ys ≤ 60_000
      → NumbersAre X u w seen → Counts ys writing seen free → Leads ys (appear seen (var x)) → Number (lay X) x free w n v → NumberIs x free seen w n v
  unfolding appear layout_of needed
  number_is {x} {free} {w = w} seen l m long short numbers counts leads (known h) =
      let q = numbered_known seen x (λ z. h (numbers x l ∙ z)) in
      let e : appear seen (var x) ≡ seen = if_true _ _ _ q.0 in
      let p : ys ≡ seen ++ leads.0 = leads.1 ∙ ap (◌++ leads.0) e in
      let i : word w ((lay X).list + x) - 1 ≡ index seen x = ap (◌- 1) (numbers x l ∙ q.1) ∙ omega arith in
      let j : index ys x ≡ index seen x = ap (λ (z : List ℕ). index z x) p ∙ index_in seen leads.0 x q.0 in
      let a = index_below seen x q.0 in
      let b = ap length p ∙ length-append seen leads.0 in
      record {
        keeps = keeps_none _ _ w;
        number = i ∙ sym j;
        small = omega arith;
        numbers = subst (NumbersAre X u w) (sym e) numbers;
        counts = subst (λ (z : List ℕ). Counts ys writing z (appeared_of free (word w ((lay X).list + x) - 1))) (sym e) (subst (λ (z : ℕ). Counts ys writing seen (appeared_of free z)) (sym i) (counts_known ys writing seen x free q.0 counts));
      }
  number_is {x} {free} {w = w} seen l m long short numbers counts leads (fresh h) =
      let q = numbered_new seen x (sym (numbers x l) ∙ h) in
      let e : appear seen (var x) ≡ seen ++ x ∷ [] = if_false _ _ _ q in
      let p : ys ≡ (seen ++ x ∷ []) ++ leads.0 = leads.1 ∙ ap (◌++ leads.0) e in
      let c = counts_new ys writing seen x free (leads.0, p) short counts in
      let j : index ys x ≡ length seen = ap (λ (z : List ℕ). index z x) (p ∙ append_assoc seen (x ∷ []) leads.0) ∙ index_next seen leads.0 x q in
      let f = c.0 in
      let a = ap length p ∙ length-append (seen ++ x ∷ []) leads.0 in
      let b = length-append seen (x ∷ []) in
      record {
        keeps = set_keeps _ _ ((lay X).list + x) _ w (omega arith) (omega arith);
        number = omega arith;
        small = omega arith;
        numbers = subst (NumbersAre X u (set w ((lay X).list + x) (plus free 1))) (sym e) (λ y k. at y (eqb y x) refl c.1 q (numbers y k));
        counts = subst (λ (z : List ℕ). Counts ys writing z (appeared_of free free)) (sym e) c.2;
      }
    where
      at : (y : ℕ) (b : Bool) → eqb y x ≡ b → plus free 1 ≡ suc (length seen) → has x seen ≡ false → word w ((lay X).list + y) ≡ numbered seen y → word (set w ((lay X).list + x) (plus free 1)) ((lay X).list + y) ≡ numbered (seen ++ x ∷ []) y
      at y true e d q k = let z : y ≡ x = eqb-true y x e in rw z (get_or-set_same w ((lay X).list + x) (plus free 1) 0 (omega arith) ∙ d ∙ sym (numbered_last seen x q))
      at y false e d q k = get_or-set_other w ((lay X).list + x) ((lay X).list + y) (plus free 1) 0 (λ z. eqb-false y x e (omega arith)) ∙ k ∙ sym (numbered_other seen x y e)

  -- the words w, which were w₀, with the terms ts due
  pub record At (w₀ : List ℕ) (t : Tally) (w seen : List ℕ) (ts : Terms) : Type 0 where
    pub aside : Aside X w₀ w
    pub numbers : NumbersAre X u w seen
    pub counts : Counts ys writing seen t.free
    pub due : t.due ≡ count ts
    pub within : t.due ≤ X.limits.work
    pub goods : Goods X.rules.functions u ts
    pub nodes : DueAre X w ts

-- a held function applied is one of the rules
held_applied : (X : Setting) (h : Held) (f : ℕ) (us : Terms) → IsHeld X.rules h (app f us) → (raws : Terms) × (behind : Terms) × TermsAt X.rules h.place.0 (app f raws ∷ₜ behind) × (us ≡ insts (from h.base.0) raws)
unfolding insts from
held_applied X h f us i = go i.raw i.stands i.is
  where
    go : (r : Term) → TermsAt X.rules h.place.0 (r ∷ₜ i.behind) → app f us ≡ inst (from h.base.0) r → (raws : Terms) × (behind : Terms) × TermsAt X.rules h.place.0 (app f raws ∷ₜ behind) × (us ≡ insts (from h.base.0) raws)
    go (var x) a e = let z : ◌≡◌ {A = ℕ} 0 1 = cc in absurd (omega arith)
    go (app g raws) a e =
        let q : f ≡ g = cc in
        (raws, i.behind, subst (λ (z : ℕ). TermsAt X.rules h.place.0 (app z raws ∷ₜ i.behind)) (sym q) a, cc)

-- numbers of functions take two bytes
function_small : (X : Setting) (f a : ℕ) → get_elem? X.rules.functions f ≡ some a → f < 65_536
unfolding query_place clause_place
function_small X f a e =
    let l = index_less X.rules.functions f a e in
    let h = (rules_stand X).ends in
    let k : length X.file ≤ 60_000 = X.short in
    omega arith

joined_goods : (fs : List ℕ) (n : ℕ) (us ts : Terms) → Goods fs n us → Goods fs n ts → Goods fs n (joined us ts)
unfolding joined
joined_goods fs n []ₜ ts g h = h
joined_goods fs n (u ∷ₜ us) ts g h = (g.0, joined_goods fs n us ts g.1 h)

-- what following comes to, its place aside where it is a free variable
abbrev Comes : Setting → Found → Term → Type 0
Comes X (Unbound x h) t = t ≡ var x.0
Comes X (Function f h) t = (us : Terms) × (t ≡ app f us) × IsHeld X.rules h t

found_comes : (X : Setting) (g : Found) (t : Term) → FoundIs X.rules g t → Comes X g t
found_comes X (Unbound x h) t f = f.0
found_comes X (Function f h) t g = g

-- what a walk over the words w₀ stands on
pub record Ground (X : Setting) (s : Store) (k u : ℕ) (ys w₀ : List ℕ) : Type 0 where
  pub stored : Stored X w₀ k u s
  pub base : Base X w₀
  pub few : u ≤ X.limits.cells
  pub short : length ys ≤ 60_000

module _ (X : Setting) (s : Store) (k u : ℕ) (ys : List ℕ) (writing : Bool) (w₀ : List ℕ) (c : Ground X s k u ys w₀) where
  abbrev W : ℕ
  W = X.limits.work

  abbrev vals : Terms → Terms
  vals ts = insts (value s) ts

  -- the variables by number
  abbrev ρ : ℕ → Term
  ρ x = var (index ys x)

  -- the records of values
  abbrev records : Terms → List Piece
  records vs = writes (insts ρ vs) 0

  -- the words of this walk
  abbrev Here : Tally → List ℕ → List ℕ → Terms → Type 0
  Here t w seen ts = At X u ys writing w₀ t w seen ts

  -- other terms due
  here_due : {t : Tally} {w seen : List ℕ} {ts : Terms} → Here t w seen ts → (n : ℕ) (us : Terms) → n ≡ count us → n ≤ W → Goods X.rules.functions u us → DueAre X w us → Here (with_due n t) w seen us
  here_due a n us e l g d = record { aside = a.aside; numbers = a.numbers; counts = a.counts; due = e; within = l; goods = g; nodes = d }

  -- the front node with the value a, and what is left then
  record Stepped (t : Tally) (seen : List ℕ) (a : Term) (ts : Terms) (o : List ℕ) (r : Result Tally Stopped) (v p : List ℕ) : Type 0 where
    seen' : List ℕ
    ts' : Terms
    front : Piece
    pieces : records (a ∷ₜ vals ts) ≡ front ∷ records (vals ts')
    appear' : appears seen (a ∷ₜ vals ts) ≡ appears seen' (vals ts')
    ends : Ends writing W t.size (front ∷ []) o r p (λ z. Here z v seen' ts') (Aside X w₀ v)

  out_count : (ts : Terms) → count (insts ρ (vals ts)) ≡ count ts
  out_count ts = count_insts _ (vals ts) ∙ count_insts (value s) ts

  base_at : {t : Tally} {w seen : List ℕ} {ts : Terms} → Here t w seen ts → Base X w
  base_at a = base_aside X a.aside c.base

  -- a free variable
  free_ends : {t : Tally} {r : Result Tally Stopped} {x : ℕ} {w o v p : List ℕ} (seen : List ℕ) (ts : Terms) → x < u → length o < 2 ^ 63 → Here t w seen ts → Leads ys (appear seen (var x)) → (d : ℕ) → d ≡ count ts
      → FreeNode (lay X) writing t x w o r v p → Ends writing W t.size (piece (an_answer_variable ∷ two (index ys x)) d ∷ []) o r p (λ z. Here z v (appear seen (var x)) ts) (Aside X w₀ v)
  unfolding two bytes_of layout_of end_number
  free_ends {t} {x = x} {o = o} seen ts l big a leads d m (variable_full h) = halts refl (inr refl) (λ rest. fitting_full (length o) W t.size (an_answer_variable ∷ two (index ys x)) d rest (omega arith)) a.aside
  free_ends {t} {x = x} {w = w} {o = o} {v = v} seen ts l big a leads d m (variable {n} h e) =
      let q = number_is X u ys writing seen l c.few (base_at a).long c.short a.numbers a.counts leads e in
      let f = a.due in
      let g = a.within in
      let j : n < length ys = q.small in
      let k = c.short in
      went refl (omega arith) h
      (recorded_put writing t.size an_answer_variable n o (omega arith) (omega arith) h big ∙ ap (λ (z : ℕ). put writing t.size (an_answer_variable ∷ two z) o) q.number)
      (λ rest. fitting_on (length o) W t.size (an_answer_variable ∷ two (index ys x)) d rest (omega arith) (omega arith))
      (record {
        aside = aside_then X a.aside (aside_list X q.keeps);
        numbers = q.numbers;
        counts = q.counts;
        due = a.due;
        within = a.within;
        goods = a.goods;
        nodes = due_same X w v ts (λ y b z. q.keeps.same y (inr (omega arith))) a.nodes;
      })

  free_step : {t : Tally} {r : Result Tally Stopped} {x : ℕ} {w o v p : List ℕ} (seen : List ℕ) (ts : Terms) → x < u → length o < 2 ^ 63 → Here t w seen ts → Leads ys (appear seen (var x))
      → FreeNode (lay X) writing t x w o r v p → Stepped t seen (var x) ts o r v p
  unfolding insts writes appears
  free_step {x = x} seen ts l big a leads node =
      let d = out_count ts in
      record {
        seen' = appear seen (var x);
        ts' = ts;
        front = piece (an_answer_variable ∷ two (index ys x)) (count (insts ρ (vals ts)) + 0);
        pieces = refl;
        appear' = refl;
        ends = free_ends seen ts l big a leads (count (insts ρ (vals ts)) + 0) (omega arith) node;
      }

  -- the function f applied to us stands where h says, with the terms ts due behind it
  record Applied (t : Tally) (f : ℕ) (h : Held) (us ts : Terms) : Type 0 where
    arity : arity_of X.file f ≡ count us
    start : ahead h.place.0 3 ≡ h.place.0 + 3
    sum : plus t.due (arity_of X.file f) ≡ count us + count ts
    few : t.due + arity_of X.file f < 2 ^ 32
    raws : Terms
    stands : TermsAt X.rules (h.place.0 + 3) raws
    is : us ≡ insts (from h.base.0) raws

  applied : {t : Tally} {f : ℕ} {h : Held} {w : List ℕ} (seen : List ℕ) (us ts : Terms) → IsHeld X.rules h (app f us) → Here t w seen ts → Applied t f h us ts
  unfolding terms_length
  applied {t} {f} {h} seen us ts i a =
      let q = held_applied X h f us i in
      let b = count_short q.0 in
      let k = ap count q.3 ∙ count_insts (from h.base.0) q.0 in
      let n = arity_stands X q.2 in
      let d = terms_end X q.2 in
      let m : length X.file ≤ 60_000 = X.short in
      let l = (in_range_is X.limits X.in_limits).few_work in
      let x = a.due in
      let y = a.within in
      let few : t.due + arity_of X.file f < 2 ^ 32 = omega arith in
      record {
        arity = omega arith;
        start = ahead_small h.place.0 3 (omega arith);
        sum = plus_small t.due (arity_of X.file f) few ∙ omega arith;
        few = few;
        raws = q.0;
        stands = of_term q.2;
        is = q.3;
      }

  applied_due : {t : Tally} {f : ℕ} {h : Held} {w : List ℕ} (seen : List ℕ) (us ts : Terms) → Applied t f h us ts → Here t w seen ts → count us + count ts ≤ W
      → DueAre X (arguments_put (arity_of X.file f) t.due h.base.0 (ahead h.place.0 3) (lay X) w) (joined us ts)
  applied_due {t} {f} {h} {w} seen us ts b a l =
      let e = ap count b.is ∙ count_insts (from h.base.0) b.raws in
      rw (b.start, a.due, b.arity ∙ e)
      (subst (λ (z : Terms). DueAre X (arguments_put (count b.raws) (count ts) h.base.0 (h.place.0 + 3) (lay X) w) (joined z ts)) (sym b.is)
      (arguments_due X b.raws ts h.base.0 (h.place.0 + 3) w (base_at a) b.stands (omega arith) a.nodes))

  -- a function applied
  function_ends : {t : Tally} {f : ℕ} {h : Held} {w o : List ℕ} {r : Result Tally Stopped} {v p : List ℕ} (seen : List ℕ) (us ts : Terms) → Good X.rules.functions u (app f us) → Applied t f h us ts → length o < 2 ^ 63 → Here t w seen ts → (d : ℕ) → d ≡ count us + count ts
      → FunctionNode X.file (lay X) W writing t f h w o r v p → Ends writing W t.size (piece (an_application ∷ two f) d ∷ []) o r p (λ z. Here z v seen (joined us ts)) (Aside X w₀ v)
  unfolding two bytes_of layout_of end_number
  function_ends {t} {f = f} {o = o} seen us ts g b big a d m (function_full l) = halts refl (inr refl) (λ rest. fitting_full (length o) W t.size (an_application ∷ two f) d rest (omega arith)) a.aside
  function_ends {t} {f = f} {o = o} seen us ts g b big a d m (crowded l k) =
      let e = b.sum in
      halts refl (inl refl) (λ rest. fitting_crowded (length o) W t.size (an_application ∷ two f) d rest (omega arith) (omega arith)) a.aside
  function_ends {t} {f = f} {h = h} {w = w} {o = o} {v = v} seen us ts g b big a d m (function l k) =
      let e = b.sum in
      let hi : ℕ = (lay X).work + 2 * (t.due + arity_of X.file f) in
      let keeps = arguments_keep X (arity_of X.file f) t.due h.base.0 (ahead h.place.0 3) w b.few in
      went refl (omega arith) l
      (recorded_put writing t.size an_application f o (omega arith) (function_small X f (count us) g.0) l big)
      (λ rest. fitting_on (length o) W t.size (an_application ∷ two f) d rest (omega arith) (omega arith))
      (record {
        aside = aside_then X a.aside (aside_work X hi (keeps_wider ((lay X).work + 2 * t.due) hi (lay X).work hi w _ (omega arith) (omega arith) keeps));
        numbers = λ x l. keeps.same _ (inl (let q = c.few in omega arith)) ∙ a.numbers x l;
        counts = a.counts;
        due = e ∙ sym (joined_count us ts);
        within = k;
        goods = joined_goods X.rules.functions u us ts g.1 a.goods;
        nodes = applied_due seen us ts b a (omega arith);
      })

  function_step : {t : Tally} {r : Result Tally Stopped} {f : ℕ} {h : Held} {w o v p : List ℕ} (seen : List ℕ) (us ts : Terms) → Good X.rules.functions u (app f us) → IsHeld X.rules h (app f us) → length o < 2 ^ 63 → Here t w seen ts
      → FunctionNode X.file (lay X) W writing t f h w o r v p → Stepped t seen (app f (vals us)) ts o r v p
  unfolding insts writes appears
  function_step {f = f} seen us ts g i big a node =
      let due : ℕ = count (insts ρ (vals us)) + (count (insts ρ (vals ts)) + 0) in
      let front : Piece = piece (an_application ∷ two f) due in
      let d = out_count us in
      let e = out_count ts in
      record {
        seen' = seen;
        ts' = joined us ts;
        front = front;
        pieces = ap (front ∷◌) (sym (ap (λ (z : Terms). writes z 0) (ap (insts ρ) (joined_insts (value s) us ts) ∙ joined_insts ρ (vals us) (vals ts)) ∙ joined_writes (insts ρ (vals us)) (insts ρ (vals ts)) 0));
        appear' = sym (ap (appears seen) (joined_insts (value s) us ts) ∙ joined_appears seen (vals us) (vals ts));
        ends = function_ends seen us ts g (applied seen us ts i a) big a due (omega arith) node;
      }

  -- a node, by what following comes to
  node_step : {t : Tally} {r : Result Tally Stopped} {g : Found} {w o v p : List ℕ} (seen : List ℕ) (b : Term) (ts : Terms) → Comes X g b → Good X.rules.functions u b → ((x : ℕ) → b ≡ var x → Free x s) → length o < 2 ^ 63
      → Here t w seen ts → Leads ys (appears seen (inst (value s) b ∷ₜ vals ts)) → Node X.file (lay X) W writing t g w o r v p → Stepped t seen (inst (value s) b) ts o r v p
  unfolding insts appears
  node_step {t} {r} {w = w} {o} {v} {p} seen b ts e g free big a leads (is_free {x} d) =
      let q : inst (value s) b ≡ var x.0 = ap (inst (value s)) e ∙ value_free s x.0 (free x.0 e) in
      subst (λ (z : Term). Stepped t seen z ts o r v p) (sym q)
      (free_step seen ts (subst (Good X.rules.functions u) e g) big a
      (leads_first ys (appear seen (var x.0)) (vals ts) (subst (λ (z : Term). Leads ys (appears seen (z ∷ₜ vals ts))) q leads)) d)
  node_step {t} {r} {w = w} {o} {v} {p} seen b ts e g free big a leads (is_function {f} {h} d) =
      let us = e.0 in
      let q : inst (value s) b ≡ app f (vals us) = ap (inst (value s)) e.1 in
      subst (λ (z : Term). Stepped t seen z ts o r v p) (sym q) (function_step seen us ts (subst (Good X.rules.functions u) e.1 g) (subst (IsHeld X.rules h) e.1 e.2) big a d)

  -- what comes of the nodes with these values
  abbrev Walked : ℕ → List ℕ → Terms → List ℕ → Result Tally Stopped → List ℕ → List ℕ → Type 0
  Walked i seen vs o r v p = Ends writing W i (records vs) o r p (λ z. Here z v (appears seen vs) []ₜ) (Aside X w₀ v)

  -- a node, and then those due
  node_then : {t z : Tally} {r : Result Tally Stopped} {o v p x q : List ℕ} (seen : List ℕ) (b : Term) (ts : Terms) → Stepped t seen b ts o (Ok z) v p → length o < 2 ^ 63 → Leads ys (appears seen (b ∷ₜ vals ts))
      → ((seen : List ℕ) (ts : Terms) → Here z v seen ts → Leads ys (appears seen (vals ts)) → z.size ≤ length p → length p < 2 ^ 63 → Walked z.size seen (vals ts) p r x q)
      → Walked t.size seen (b ∷ₜ vals ts) o r x q
  node_then seen b ts st big leads on =
      rw (st.pieces, st.appear')
      (ends_then writing W st.ends (λ l e a. on st.seen' st.ts' a (subst (Leads ys) st.appear' leads) (omega arith) (omega arith)))

  -- a node in which the writing stops
  node_halts : {t : Tally} {e : Stopped} {o v p : List ℕ} (seen : List ℕ) (b : Term) (ts : Terms) → Stepped t seen b ts o (Err e) v p → Walked t.size seen (b ∷ₜ vals ts) o (Err e) v p
  node_halts seen b ts st = rw (st.pieces, st.appear') (ends_halt writing W (records (vals st.ts')) st.ends)

  -- the value of a term is that of what it is followed to
  follow_value : (b : Term) → inst (value s) (follow s b) ≡ inst (value s) b
  follow_value b = solves_follow (value s) s (value_solves_itself s c.stored.sound) b

  -- a node that is followed
  followed_step : {t : Tally} {r : Result Tally Stopped} {g : Found} {w o v p : List ℕ} (seen : List ℕ) (b : Term) (ts : Terms) → Comes X g (follow s b) → Good X.rules.functions u b → length o < 2 ^ 63
      → Here t w seen ts → Leads ys (appears seen (inst (value s) b ∷ₜ vals ts)) → Node X.file (lay X) W writing t g w o r v p → Stepped t seen (inst (value s) b) ts o r v p
  followed_step {t} {r} {o = o} {v} {p} seen b ts comes g big a leads d =
      let e = follow_value b in
      subst (λ (z : Term). Stepped t seen z ts o r v p) e
      (node_step seen (follow s b) ts comes (follow_good X.rules.functions u s c.stored.good b g) (follow_free s c.stored.sound b) big a
      (subst (λ (z : Term). Leads ys (appears seen (z ∷ₜ vals ts))) (sym e) leads) d)

  -- the foremost node due
  due_step : {t : Tally} {r : Result Tally Stopped} {w o v p : List ℕ} (seen : List ℕ) (b : Term) (ts : Terms) → Here t w seen (b ∷ₜ ts) → Leads ys (appears seen (vals (b ∷ₜ ts))) → length o < 2 ^ 63
      → NextNode X.file (lay X) W writing k (with_due (t.due - 1) t) w o r v p → Stepped (with_due (t.due - 1) t) seen (inst (value s) b) ts o r v p
  unfolding insts count
  due_step {t} {w = w} seen b ts a leads big d =
      let q = a.due in
      let m : t.due - 1 ≡ count ts = omega arith in
      let g = a.goods.0 in
      let y = a.within in
      let held : Held = due_at w (lay X) (t.due - 1) in
      let comes = found_comes X (followed k X.file w (lay X) held) (follow s b) (follows X w k u s (stored_aside X a.aside c.few c.stored) held b (subst (λ (i : ℕ). IsHeld X.rules (due_at w (lay X) i) b) (sym m) a.nodes.0) g) in
      followed_step seen b ts comes g big (here_due a (t.due - 1) ts m (omega arith) a.goods.1 a.nodes.1) leads d

  -- the nodes due
  nodes_walk : {t : Tally} {r : Result Tally Stopped} {w o v p : List ℕ} → Nodes X.file (lay X) W writing k t w o r v p → (seen : List ℕ) (ts : Terms) → Here t w seen ts → Leads ys (appears seen (vals ts))
      → t.size ≤ length o → length o < 2 ^ 63 → Walked t.size seen (vals ts) o r v p
  unfolding insts writes appears count
  nodes_walk (none_due h) seen []ₜ a leads l big = ends_none writing W l a
  nodes_walk (none_due h) seen (b ∷ₜ ts) a leads l big = let d = a.due in absurd (omega arith)
  nodes_walk (node_stopped h d) seen []ₜ a leads l big = absurd (h a.due)
  nodes_walk (node_stopped h d) seen (b ∷ₜ ts) a leads l big = node_halts seen (inst (value s) b) ts (due_step seen b ts a leads big d)
  nodes_walk (next_due h d n) seen []ₜ a leads l big = absurd (h a.due)
  nodes_walk (next_due h d n) seen (b ∷ₜ ts) a leads l big = node_then seen (inst (value s) b) ts (due_step seen b ts a leads big d) big leads (nodes_walk n)

  -- the value of a query variable
  value_comes : {w : List ℕ} → Aside X w₀ w → (x : ℕ) → x < u → Comes X (value_of k X.file w (lay X) x) (follow s (var x))
  unfolding value_of cell_value cell_at cell_of
  value_comes {w} a x l = go (free_or_bound s x)
    where
      stored : Stored X w k u s
      stored = stored_aside X a c.few c.stored

      go : Free x s ⊎ ((y : Term) × Binds x y s) → Comes X (cell_value k X.file w (lay X) x (cell_at w (lay X) x)) (follow s (var x))
      go (inl f) =
          let e : cell_at w (lay X) x ≡ Unset = if_true _ _ _ (eq-eqb _ 0 (stored.free x l f)) in
          subst (λ (z : Cell). Comes X (cell_value k X.file w (lay X) x z) (follow s (var x))) (sym e) (follow_free_variable s x f)
      go (inr (y, b)) =
          let r = store_bound X w k s x y stored.is b in
          subst (λ (z : Cell). Comes X (cell_value k X.file w (lay X) x z) (follow s (var x))) (sym r.1)
          (subst (Comes X (followed k X.file w (lay X) r.0)) (sym (follow_bound s x y stored.sound b))
          (found_comes X (followed k X.file w (lay X) r.0) (follow s y) (follows X w k u s stored r.0 y r.2 (bound_good X.rules.functions u s x y stored.good b))))

  value_step : {t : Tally} {r : Result Tally Stopped} {x : ℕ} {w o v p : List ℕ} → Node X.file (lay X) W writing (with_due 0 t) (value_of k X.file w (lay X) x) w o r v p → (seen : List ℕ) → x < u → Here t w seen []ₜ
      → Leads ys (appears seen (value s x ∷ₜ []ₜ)) → length o < 2 ^ 63 → Stepped (with_due 0 t) seen (value s x) []ₜ o r v p
  unfolding insts count
  value_step {x = x} d seen l a leads big = followed_step seen (var x) []ₜ (value_comes a.aside x l) l big (here_due a 0 []ₜ refl (omega arith) tt tt) leads d

  value_walk : {t : Tally} {r : Result Tally Stopped} {x : ℕ} {w o v p : List ℕ} → Value X.file (lay X) W writing k t x w o r v p → (seen : List ℕ) → x < u → Here t w seen []ₜ → Leads ys (appears seen (value s x ∷ₜ []ₜ))
      → length o < 2 ^ 63 → Walked t.size seen (value s x ∷ₜ []ₜ) o r v p
  unfolding insts count
  value_walk {x = x} (first_stopped d) seen l a leads big = node_halts seen (value s x) []ₜ (value_step d seen l a leads big)
  value_walk {x = x} (whole_value d n) seen l a leads big = node_then seen (value s x) []ₜ (value_step d seen l a leads big) big leads (nodes_walk n)

  -- the values of the variables from y on
  pub values_walk : {n : ℕ} {t : Tally} {r : Result Tally Stopped} {x : ℕ} {w o v p : List ℕ} → Values X.file (lay X) W writing k n x t w o r v p → (seen : List ℕ) (y m : ℕ) → x ≡ y → y + m ≡ n → n ≤ u → Here t w seen []ₜ
      → Leads ys (appears seen (values_from y m (value s))) → t.size ≤ length o → length o < 2 ^ 63
      → Ends writing W t.size (write_each (insts ρ (values_from y m (value s)))) o r p (λ z. Here z v (appears seen (values_from y m (value s))) []ₜ) (Aside X w₀ v)
  unfolding values_from insts write_each writes appears count
  values_walk (no_more h) seen y zero e f g a leads l big = ends_none writing W l a
  values_walk (no_more h) seen y (suc m) e f g a leads l big = absurd (omega arith)
  values_walk (value_stopped h d) seen y zero e f g a leads l big = absurd (omega arith)
  values_walk {t} {o = o} {v} {p} (value_stopped {e = x} h d) seen y (suc m) e f g a leads l big =
      let vs : Terms = insts ρ (values_from (suc y) m (value s)) in
      let one : Term = inst ρ (value s y) in
      let d' : Value X.file (lay X) W writing k t y _ o _ _ _ = rw e at d in
      let first = value_walk d' seen (omega arith) a (leads_first ys (appear seen (value s y)) (values_from (suc y) m (value s)) leads) big in
      subst (λ (ps : List Piece). Ends writing W t.size (ps ++ write_each vs) o (Err x) p (λ z. Here z v (appears (appear seen (value s y)) (values_from (suc y) m (value s))) []ₜ) (Aside X w₀ v)) (append-nil (write one 0))
      (ends_halt writing W (write_each vs) first)
  values_walk (next_value h d rest) seen y zero e f g a leads l big = absurd (omega arith)
  values_walk {t} {r} {o = o} {v} {p} (next_value h d rest) seen y (suc m) e f g a leads l big =
      let vs : Terms = insts ρ (values_from (suc y) m (value s)) in
      let one : Term = inst ρ (value s y) in
      let d' : Value X.file (lay X) W writing k t y _ o _ _ _ = rw e at d in
      let first = value_walk d' seen (omega arith) a (leads_first ys (appear seen (value s y)) (values_from (suc y) m (value s)) leads) big in
      subst (λ (ps : List Piece). Ends writing W t.size (ps ++ write_each vs) o r p (λ z. Here z v (appears (appear seen (value s y)) (values_from (suc y) m (value s))) []ₜ) (Aside X w₀ v)) (append-nil (write one 0))
      (ends_then writing W first (λ i j b. values_walk rest (appear seen (value s y)) (suc y) m (omega arith) (omega arith) g b leads (omega arith) (omega arith)))
