-- What the whole call's tests and parts say.
-- Assumes nothing.
use Prim.Native.Nat.{ℕ, ◌+◌, ◌*◌, ◌^◌, ◌≤◌, ◌<◌}
use mathlib.Core.Path.{◌≡◌, refl, sym, ap, ap₂, ◌∙◌, subst}
use mathlib.Core.Bool.{Bool, true, false, not}
use mathlib.Core.List.{List, ◌++◌}
use native.Mathlib.Omega.{arith}
use lib.Dec.{ltb}
use lib.ListN.{length, take, drop, replicate}
use lib.Seq.{length-take-le}
use borrow.Author.Tests.{lt-ltb, le-ltb}
use Rattle.laws.specs.IfLaws.{if_true, if_false}
use Rattle.meaning.specs.If.{when◌then◌else◌}
use Rattle.meaning.specs.Kinds.{file_limit}
use Rattle.meaning.specs.Editions.{todays}
use Rattle.meaning.specs.Rules.{Rules}
use Rattle.meaning.specs.Reading.{Read, refused, read, parse}
use Rattle.meaning.specs.Moves.{Done, run, start}
use Rattle.meaning.specs.Call.{Result, refusal, result_by, ending, run_read, in_range, needed, output_after, scratch_after}
use Rattle.meaning.specs.Outcome.{Outcome, says, to_say, fault_number}
use Rattle.meaning.specs.declared.Place.{Place}
use Rattle.meaning.specs.declared.Fault.TheVariants.{Limits as LimitsFault, Length, Scratch}
use Rattle.meaning.specs.declared.Refusal.{Refusal}
use Rattle.search.specs.declared.Limits.{Limits}
use Rattle.search.specs.declared.Given.{Given}
use Rattle.reading.specs.declared.Counts.{Counts}
use Rattle.std.specs.Prelude.{Result as ResultOf, Ok, Err}
use Rattle.reading.specs.Verdict.{verdict, refusal as refusal_of}
use Rattle.reading.specs.Told.{numbers_are_told}
use Rattle.layout.specs.Stood.{good_files_stand, good_files_fit}
use Rattle.tables.specs.Stood.{tables_fit}
use Rattle.tables.specs.Here.{CanLay, HasLaid}
use Rattle.tables.specs.Tabling.{laid_tabled}
use Rattle.layout.specs.Tables.{Tabled}
use Rattle.layout.specs.Lengths.{query_place}
use Rattle.simulation.specs.Rep.{Setting, Base, layout_of}
use Rattle.simulation.specs.Trying.{given_of as given_for}
use Rattle.simulation.specs.Ranges.{in_range_is}
use Rattle.machine.specs.Running.{Runs}
use Rattle.machine.specs.Calling.{limits_of, allowed, given_of, Tested, Can, RunsGood, result_of, Called}
use Rattle.machine.proofs.RunLaws.{Came, run_comes}

pub needed_is : (F : ℕ) (l : Limits) → 64 + 2 * F + 4 * l.cells + 8 * l.steps + 4 * l.work ≡ needed F (limits_of l)
unfolding needed
needed_is F l = refl

pub given_is : (F : ℕ) (l : Limits) (functions predicates : ℕ) (query : Place)
    → ◌≡◌ {A = Given} (record { lay = record { firsts = 64 + F; clauses = 64 + F + predicates; cells = 64 + 2 * F; trail = 64 + 2 * F + l.cells; marks = 64 + 2 * F + 2 * l.cells; list = 64 + 2 * F + 3 * l.cells; steps = 64 + 2 * F + 4 * l.cells; work = 64 + 2 * F + 4 * l.cells + 8 * l.steps }; limits = l; functions = functions; query = query }) (given_of F l functions predicates query)
unfolding given_of layout_of
given_is F l functions predicates query = refl

-- ---- a good file
counts_of : ResultOf Counts Refusal → Counts
counts_of (Err r) = record { functions = 0; predicates = 0; clauses = 0 }
counts_of (Ok c) = c

good_number : ResultOf Counts Refusal → ℕ
good_number (Err r) = 0
good_number (Ok c) = 1

pub refused_good : {r : Refusal} {c : Counts} → ◌≡◌ {A = ResultOf Counts Refusal} (Err r) (Ok c) → ⊥
unfolding good_number
refused_good e = let o : ◌≡◌ {A = ℕ} 0 1 = ap good_number e in omega arith

limit_is : file_limit ≡ 60_000
limit_is = refl

module _ (file : List ℕ) (l : Limits) (c : Counts) (w : List ℕ) (a : Can file l c w) where
  room : 64 + 2 * length file ≤ length w
  unfolding needed
  room = let e = a.tested.enough in omega arith

  lay_read : (r : Read Rules) → parse file ≡ r → verdict r ≡ Ok c → CanLay file w c.functions c.predicates c.clauses
  unfolding verdict counts_of
  lay_read (refused n p) e f = absurd (refused_good f)
  lay_read (read R seen at) e f = record {
    room = record { small = a.tested.short; room = room };
    rules = R;
    seen = seen;
    end = at;
    good = e;
    functions_are = ap (λ (x : ResultOf Counts Refusal). (counts_of x).functions) f;
    predicates_are = ap (λ (x : ResultOf Counts Refusal). (counts_of x).predicates) f;
    clauses_are = ap (λ (x : ResultOf Counts Refusal). (counts_of x).clauses) f;
  }

  pub can_lay : CanLay file w c.functions c.predicates c.clauses
  can_lay = lay_read (parse file) refl a.good

  pub few_predicates : c.predicates ≤ 60_000
  few_predicates =
      let y = can_lay in
      let t = tables_fit file y.rules (good_files_stand file y.rules y.seen y.end y.good) (good_files_fit file y.rules y.seen y.end y.good) in
      let e = y.predicates_are in let s = a.tested.short in let z = limit_is in omega arith

  pub short_file : length file ≤ 60_000
  short_file = let s = a.tested.short in let z = limit_is in omega arith

  in_limits_are : (l.cells ≤ 60_000) × (l.steps ≤ 60_000)
  in_limits_are = let r = in_range_is (limits_of l) a.tested.in_limits in (r.few_cells, r.few_steps)

  pub few_cells : l.cells ≤ 60_000
  few_cells = in_limits_are.0

  pub few_steps : l.steps ≤ 60_000
  few_steps = in_limits_are.1

-- ---- a run of a good file
given_at : (F : ℕ) (l : Limits) (f p f' p' x : ℕ) (query : Place) → f' ≡ f → p' ≡ p → query.0 ≡ x → given_of F l f p query ≡ given_of F l f' p' (record { 0 = x })
given_at F l f p f' p' x query d e g = rw (d, e, ← g) refl

module _ (file : List ℕ) (l : Limits) (c : Counts) (w : List ℕ) (a : Can file l c w) where
  -- what the run stands on
  setting : Setting
  setting = let y = can_lay file l c w a in
      record { file = file; rules = y.rules; limits = limits_of l; seen = y.seen; end = y.end; good = y.good; short = a.tested.short; in_limits = a.tested.in_limits }

  given_same : (query : Place) → query.0 ≡ query_place setting.rules → given_of (length file) l c.functions c.predicates query ≡ given_for setting
  unfolding given_of given_for setting
  given_same query e = let y = can_lay file l c w a in given_at (length file) l c.functions c.predicates _ _ _ query y.functions_are y.predicates_are e

  tables_are : (query : Place) (v : List ℕ) → HasLaid file w query v → length v ≡ length w → Base setting v
  unfolding setting
  tables_are query v h e =
      let y = can_lay file l c w a in
      let t = a.tested.enough in
      record { long = omega arith; tabled = subst (Tabled (length file) y.rules) (sym (h.words y.rules y.seen y.end y.good)) (laid_tabled file y.rules y.seen y.end y.good w (room file l c w a)) }

  module _ (budget wanted : ℕ) (o : List ℕ) where
    abbrev ran : ℕ × Done
    ran = run setting.rules (limits_of l) wanted (length o) budget (start setting.rules (limits_of l) wanted (length o))

    run_is : run_read todays (parse file) (limits_of l) budget wanted (length o) ≡ ending ran
    unfolding run_read setting
    run_is = let y = can_lay file l c w a in ap (λ (x : Read Rules). run_read todays x (limits_of l) budget wanted (length o)) y.good

    pub run_is_good : (query : Place) (g : Given) (v u q : List ℕ) (r : Outcome) → wanted < 2 ^ 32 → budget < 2 ^ 32 → length o * 1 < 2 ^ 63 → HasLaid file w query v → length v ≡ length w
        → g ≡ given_of (length file) l c.functions c.predicates query → Runs file g budget wanted v o r u q → RunsGood file l budget wanted o r q
    unfolding setting ending to_say output_after
    run_is_good query g v u q r most limit small h d f t =
        let p : query.0 ≡ query_place setting.rules = (let y = can_lay file l c w a in h.place y.rules y.seen y.end y.good) in
        let k : Came setting wanted o (omega arith) most budget limit r q ran = run_comes setting wanted o (omega arith) most budget limit (tables_are query v h d) (rw (f, given_same query p) at t) in
        record {
          outcome = k.outcome ∙ ap to_say (sym run_is);
          bytes = k.output_is ∙ ap (λ (s : Result). output_after s o) (sym run_is);
        }

-- the words that were lent are all zero
pub wiped_all : (w u v : List ℕ) → length u ≡ length w → v ≡ replicate (length u) 0 → v ≡ replicate (length w) 0
wiped_all w u v e z = z ∙ ap (λ (n : ℕ). replicate n 0) e

-- ---- the whole call
module _ (file : List ℕ) (l : Limits) (budget wanted : ℕ) (w o : List ℕ) where
  abbrev good : Result
  good = run_read todays (parse file) (limits_of l) budget wanted (length o)

  -- a refusal leaves everything as it was
  refuses : (r : Refusal) → result_of file l budget wanted w o ≡ refusal (fault_number r.fault) r.place.0 → Called file l budget wanted w o (Err r) w o
  unfolding says to_say scratch_after output_after
  refuses r e = record {
    outcome = ap to_say (sym e);
    words = ap (λ (x : Result). scratch_after x (needed (length file) (limits_of l)) w) (sym e);
    bytes = ap (λ (x : Result). output_after x o) (sym e);
  }

  -- one that is tested before the file is read has place 0
  refuses_call : (r : Refusal) (n : ℕ) → fault_number r.fault ≡ n → r.place.0 ≡ 0 → result_of file l budget wanted w o ≡ refusal n 0 → Called file l budget wanted w o (Err r) w o
  refuses_call r n f p e = refuses r (rw (f, p) e)

  module _ (b : Bool) (e : b ≡ allowed l) (r : Refusal) (p : r.place.0 ≡ 0) where
    pub call_limits : r.fault ≡ LimitsFault → b ≡ false → Called file l budget wanted w o (Err r) w o
    unfolding result_by fault_number
    call_limits k f = refuses_call r 1 (ap fault_number k) p (if_true (not (in_range (limits_of l))) (refusal 1 0) _ (sym (ap not e) ∙ ap not f))

    module _ (f : b ≡ true) where
      no_limits : {r : Result} (s : Result) → s ≡ r → (when not (in_range (limits_of l)) then refusal 1 0 else s) ≡ r
      no_limits s g = if_false (not (in_range (limits_of l))) (refusal 1 0) s (sym (ap not e) ∙ ap not f) ∙ g

      pub call_long : r.fault ≡ Length → 60_000 < length file → Called file l budget wanted w o (Err r) w o
      unfolding result_by fault_number
      call_long k h = let z = limit_is in refuses_call r 2 (ap fault_number k) p (no_limits _ (if_true (ltb file_limit (length file)) (refusal 2 0) _ (lt-ltb file_limit (length file) (omega arith))))

      module _ (h : length file ≤ 60_000) (n : ℕ) (k : n ≡ needed (length file) (limits_of l)) where
        not_long : {r : Result} (s : Result) → s ≡ r → (when ltb file_limit (length file) then refusal 2 0 else s) ≡ r
        not_long s g = let z = limit_is in if_false (ltb file_limit (length file)) (refusal 2 0) s (le-ltb file_limit (length file) (omega arith)) ∙ g

        pub call_scratch : r.fault ≡ Scratch → length w < n → Called file l budget wanted w o (Err r) w o
        unfolding result_by fault_number
        call_scratch s q = refuses_call r 3 (ap fault_number s) p (no_limits _ (not_long _ (if_true (ltb (length w) (needed (length file) (limits_of l))) (refusal 3 0) _ (lt-ltb (length w) (needed (length file) (limits_of l)) (omega arith)))))

        pub call_tested : n ≤ length w → Tested file l w
        call_tested q = let z = limit_is in record { in_limits = sym e ∙ f; short = omega arith; enough = omega arith }

  -- a file whose tests have passed
  module _ (a : Tested file l w) where
    read_result : result_of file l budget wanted w o ≡ good
    unfolding result_by
    read_result =
        let t = a.in_limits in
        no_limits (in_range (limits_of l)) refl (record { fault = LimitsFault; place = record { 0 = 0 } }) refl t _
        (not_long (in_range (limits_of l)) refl (record { fault = LimitsFault; place = record { 0 = 0 } }) refl t a.short (needed (length file) (limits_of l)) refl _
        (if_false (ltb (length w) (needed (length file) (limits_of l))) (refusal 3 0) good (le-ltb (length w) (needed (length file) (limits_of l)) a.enough)))

    module _ (x : ResultOf Counts Refusal) (y : x ≡ verdict (parse file)) where
      pub read_can : (c : Counts) → x ≡ Ok c → Can file l c w
      read_can c g = record { tested = a; good = sym y ∙ g }

      refused_read : (e : Refusal) (r : Read Rules) → parse file ≡ r → verdict r ≡ Err e → run_read todays r (limits_of l) budget wanted (length o) ≡ refusal (fault_number e.fault) e.place.0
      unfolding verdict run_read
      refused_read e (refused n k) f g =
          let z : refusal_of n k ≡ e = cc in
          let q = numbers_are_told file n k f in
          rw (← z, q) refl
      refused_read e (read R seen at) f g = absurd (refused_good (sym g))

      pub read_refuses : (e : Refusal) → x ≡ Err e → Called file l budget wanted w o (Err e) w o
      read_refuses e g = refuses e (read_result ∙ refused_read e (parse file) refl (sym y ∙ g))

  -- a good file has been run in the words that it needs
  module _ (c : Counts) (a : Can file l c w) (n : ℕ) (k : n ≡ needed (length file) (limits_of l)) where
    pub part_within : n ≤ length w
    part_within = let h = a.tested.enough in omega arith

    pub part_long : n ≡ length (take n w)
    part_long = sym (length-take-le n w part_within)

    pub part_can : Can file l c (take n w)
    part_can = let p = part_long in record { tested = record { in_limits = a.tested.in_limits; short = a.tested.short; enough = omega arith }; good = a.good }

    run_ends : (r : Read Rules) → verdict r ≡ Ok c → (b : ℕ × Done) → run_read todays r (limits_of l) budget wanted (length o) ≡ ending b → scratch_after (run_read todays r (limits_of l) budget wanted (length o)) n w ≡ replicate n 0 ++ drop n w
    unfolding ending scratch_after
    run_ends r g b e = rw e refl

    pub part_run : (r : Outcome) (v q : List ℕ) → RunsGood file l budget wanted o r q → v ≡ replicate (length (take n w)) 0 → Called file l budget wanted w o r (v ++ drop n w) q
    part_run r v q b z =
        let e = read_result a.tested in
        let p = part_long in
        record {
          outcome = b.outcome ∙ ap to_say (sym e);
          words =
              ap (◌++ drop n w) (z ∙ ap (λ (i : ℕ). replicate i 0) (sym p))
              ∙ sym (run_ends (parse file) a.good _ (run_is file l c w a budget wanted o))
              ∙ ap₂ (λ (x : Result) (i : ℕ). scratch_after x i w) (sym e) k;
          bytes = b.bytes ∙ ap (λ (x : Result). output_after x o) (sym e);
        }
