-- The demands hold.
-- Assumes nothing.
use Rattle.std.specs.Prelude.{ℕ, ◌≡◌, refl, false, not, List, ltb, length}
use Rattle.std.proofs.Common.{ap, sym, ◌∙◌, subst, arith}
use Rattle.meaning.specs.Kinds.{file_limit}
use Rattle.meaning.specs.Editions.{Edition, todays}
use Rattle.meaning.specs.Rules.{Rules}
use Rattle.meaning.specs.Reading.{Read, parse_within}
use Rattle.meaning.specs.Answers.{Answer, output}
use Rattle.meaning.specs.Moves.{Limits, Done, run, start}
use Rattle.meaning.specs.Call.{Result, refusal, end, in_range, needed, ending, run_read, result_by, result, output_after, scratch_after}
use Rattle.meaning.specs.Terms.{count, row}
use Rattle.demands.specs.Proofs.{Each, Wells}
use Rattle.demands.specs.Demands.{Says, Ends, Right, Complete, ThirdDemand, ThirdDemandWithCut, OneOutcome}
use Rattle.laws.specs.IfLaws.{if_by}
use Rattle.demands.specs.GoodFiles.{good_files_are_well_formed}
use Rattle.demands.specs.TermLaws.{count_insts, count_from}
use Rattle.demands.specs.WellLaws.{Any, wells_of, wells_from}
use Rattle.demands.specs.Order.{each_map}
use Rattle.demands.specs.Bytes.{OfRules}
use Rattle.demands.specs.Sofar.{Fine}
use Rattle.demands.specs.Searches.{start_holds, run_fine}

-- the run that a call which is not refused comes to
abbrev pub ran : Rules → Limits → ℕ → ℕ → ℕ → ℕ × Done
ran R L budget wanted room = run R L wanted room budget (start R L wanted room)

pub not_refused : (n p e k u : ℕ) (b : List ℕ) → refusal n p ≡ end e k u b → ⊥
not_refused n p e k u b q = let z : ◌≡◌ {A = ℕ} 0 1 = cc in omega arith

-- a call that comes to an end, by the rules of an edition: its file is not too long, and is run as it was read
pub record Accepted (E : Edition) (file : List ℕ) (L : Limits) (budget wanted room : ℕ) (r : Result) : Type 0 where
  pub short : ltb file_limit (length file) ≡ false
  pub runs : run_read E (parse_within file E.limits) L budget wanted room ≡ r

pub result_read : (E : Edition) (file : List ℕ) (L : Limits) (budget wanted scratch room e n u : ℕ) (b : List ℕ) → result_by E file L budget wanted scratch room ≡ end e n u b
    → Accepted E file L budget wanted room (end e n u b)
unfolding result_by
result_read E file L budget wanted scratch room e n u b q =
    let G : Result → Type 0 = λ r. r ≡ end e n u b → Accepted E file L budget wanted room (end e n u b) in
    if_by G (not (in_range L)) (λ t p. absurd (not_refused 1 0 e n u b p))
    (λ t. if_by G (ltb file_limit (length file)) (λ v p. absurd (not_refused 2 0 e n u b p))
    (λ v. if_by G (ltb scratch (needed (length file) L)) (λ w p. absurd (not_refused 3 0 e n u b p))
    (λ w p. record { short = v; runs = p }))) q

-- so it is the run of the rules that its file says
pub result_ran : (file : List ℕ) (L : Limits) (budget wanted scratch room e n u : ℕ) (b : List ℕ) (R : Rules) → Says file R → result file L budget wanted scratch room ≡ end e n u b
    → ending (ran R L budget wanted room) ≡ end e n u b
unfolding run_read
result_ran file L budget wanted scratch room e n u b R (seen, at, says) q =
    subst (λ (r : Read Rules). run_read todays r L budget wanted room ≡ end e n u b) says (result_read todays file L budget wanted scratch room e n u b q).runs

module _ (R : Rules) (e n u : ℕ) (b : List ℕ) (c : Ends R e n u b) where
  abbrev done : ℕ × Done
  done = ran R c.limits c.budget c.wanted c.room

  same : ending done ≡ end e n u b
  same = result_ran c.file c.limits c.budget c.wanted c.scratch c.room e n u b R c.says c.gives

  fine : Fine R done.0 done.1.listed
  fine = run_fine R (good_files_are_well_formed c.file R c.says) c.limits c.wanted c.room c.budget _ (start_holds R (good_files_are_well_formed c.file R c.says) c.limits c.wanted c.room todays.query_keeps)

  number : done.0 ≡ e
  unfolding ending
  number = let q = same in cc

  answers : n ≡ length done.1.listed
  unfolding ending
  answers = let q = same in cc

  bytes : b ≡ output done.1.listed
  unfolding ending
  bytes = let q = same in cc

pub third_demand : ThirdDemand
third_demand R e n u b uncut c = (
  (done R e n u b c).1.listed,
  bytes R e n u b c,
  answers R e n u b c,
  subst (λ (k : ℕ). Complete R (done R e n u b c).1.listed (k ≡ 20)) (number R e n u b c) ((fine R e n u b c).complete uncut),
)

pub third_demand_with_cut : ThirdDemandWithCut
third_demand_with_cut R e n u b c = ((done R e n u b c).1.listed, bytes R e n u b c, answers R e n u b c, (fine R e n u b c).correct)

pub one_outcome : (file : List ℕ) (L : Limits) (budget wanted : ℕ) (scratch out : List ℕ) → OneOutcome file L budget wanted scratch out
one_outcome file L budget wanted scratch out = record {
  some =
      let r : Result = result file L budget wanted (length scratch) (length out) in
      (r, scratch_after r (needed (length file) L) scratch, output_after r out, record { result_is = refl; scratch_is = refl; output_is = refl });
  one = λ r q s t o p l m.
      let e : r ≡ q = l.result_is ∙ sym m.result_is in
      (e, l.scratch_is ∙ ap (λ (x : Result). scratch_after x (needed (length file) L) scratch) e ∙ sym m.scratch_is, l.output_is ∙ ap (λ (x : Result). output_after x out) e ∙ sym m.output_is);
}

-- a right answer has a term for each query variable, over the file's functions: its bytes determine it
pub right_of_rules : (R : Rules) (listed : List Answer) → Each (Right R) listed → Each (OfRules R) listed
unfolding row
right_of_rules R listed r = each_map (Right R) (OfRules R) one listed r
  where
    one : (a : Answer) → Right R a → OfRules R a
    one a t =
        let (θ, allows) = t.proof in
        let (τ, v, e) = (t.values θ allows.0).0 allows in
        record { size = sym (count_insts τ a.values) ∙ ap count (sym e) ∙ count_from 0 R.variables θ; terms = wells_of R.functions τ a.values (subst (Wells R.functions Any) e (wells_from R.functions Any θ allows.0 0 R.variables)) }
