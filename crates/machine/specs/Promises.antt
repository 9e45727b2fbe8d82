-- What follows from the promise of the whole call: there is one outcome and one content of each buffer; a refusal leaves everything as
-- it was; an end leaves the needed scratch zero and the rest of it and of the output unchanged; what the function wrote is complete;
-- where a request of document 02 changed nothing for a file, it leaves what it left before; and where it is given no less and does not
-- refuse, it writes what it wrote and goes on from there.
-- Assumes nothing.
use Rattle.std.specs.Prelude.{ℕ, ◌≤◌, ◌≡◌, List, [], ◌∷◌, ◌++◌, eqb, length, take, drop, replicate, Ok, Err}
use Rattle.std.proofs.Math.Path.{refl, sym, ap, subst}
use Rattle.std.proofs.Common.{ap₂, ◌∙◌}
use Rattle.std.proofs.Math.Seq.{take-append_seam}
use Rattle.meaning.specs.If.{when◌then◌else◌}
use Rattle.meaning.specs.Kinds.{earlier_limits}
use Rattle.meaning.specs.Editions.{Edition, document_01, todays, within, keeping}
use Rattle.meaning.specs.Rules.{Goal, cut, Rules}
use Rattle.meaning.specs.Answers.{Answer, output}
use Rattle.meaning.specs.Call.{Result, refusal, end, result_by, needed, output_after, scratch_after}
use Rattle.meaning.specs.Outcome.{Outcome, fault_number, fault_of, refused_with, ended_with, end_number, Said, refused_as, ended_as, says, to_say}
use Rattle.meaning.specs.declared.Place.{Place}
use Rattle.meaning.specs.declared.Totals.{Totals}
use Rattle.meaning.specs.declared.End.{End}
use Rattle.meaning.specs.declared.End.TheVariants.{NoMore, Wanted, Budget, Cells, Steps, Work, Output}
use Rattle.meaning.specs.declared.Fault.{Fault}
use Rattle.meaning.specs.declared.Fault.TheVariants.{Limits as LimitsFault, Length, Scratch, Short, Kind, Number, Variable, Level, AfterEnd}
use Rattle.demands.specs.Proofs.{NoCut, Uncut}
use Rattle.demands.specs.Demands.{SaysWithin, Says, LeavesBy, Ends, Correct, Complete}
use Rattle.demands.specs.Theorems.{third_demand, third_demand_with_cut}
use Rattle.demands.specs.LargerLaws.{same_result as larger_result}
use Rattle.demands.specs.QueryCutLaws.{same_result as cut_result, settled_result, at_most_one}
use Rattle.demands.specs.Rooms.{Small, result_small}
use Rattle.demands.specs.MoreRoom.{Given, Raised, Continued}
use Rattle.demands.proofs.MoreRoomLaws.{more_room}
use Rattle.search.specs.declared.Limits.{Limits}
use Rattle.machine.specs.Calling.{limits_of, result_of, Called}

-- ---- an outcome is what it says
-- the end with a number
end_of : ℕ → End
end_of n =
    when eqb n 20 then NoMore else
    when eqb n 21 then Wanted else
    when eqb n 22 then Budget else
    when eqb n 23 then Cells else
    when eqb n 24 then Steps else
    when eqb n 25 then Work else
    Output

end_back : (e : End) → end_of (end_number e) ≡ e
unfolding end_of end_number when◌then◌else◌
end_back NoMore = refl
end_back Wanted = refl
end_back Budget = refl
end_back Cells = refl
end_back Steps = refl
end_back Work = refl
end_back Output = refl

-- and the fault
fault_back : (f : Fault) → fault_of (fault_number f) ≡ f
unfolding fault_number
fault_back LimitsFault = refl
fault_back Length = refl
fault_back Scratch = refl
fault_back Short = refl
fault_back Kind = refl
fault_back Number = refl
fault_back Variable = refl
fault_back Level = refl
fault_back AfterEnd = refl

-- the outcome that says it
outcome_of : Said → Outcome
outcome_of (refused_as n p) = Err (record { fault = fault_of n; place = record { 0 = p } })
outcome_of (ended_as e answers units bytes) = Ok (record { end = end_of e; totals = record { answers = answers; units = units; bytes = bytes } })

outcome_back : (r : Outcome) → outcome_of (says r) ≡ r
unfolding outcome_of says
outcome_back (Err r) = ap (λ (x : Fault). Err (record { fault = x; place = r.place })) (fault_back r.fault)
outcome_back (Ok e) = ap (λ (x : End). Ok (record { end = x; totals = e.totals })) (end_back e.end)

module _ (file : List ℕ) (l : Limits) (budget wanted : ℕ) (w o : List ℕ) where
  -- one outcome, one content of scratch and of the output
  pub called_once : (r s : Outcome) (u v p q : List ℕ) → Called file l budget wanted w o r u p → Called file l budget wanted w o s v q → (r ≡ s) × (u ≡ v) × (p ≡ q)
  called_once r s u v p q a b = (sym (outcome_back r) ∙ ap outcome_of (a.outcome ∙ sym b.outcome) ∙ outcome_back s, a.words ∙ sym b.words, a.bytes ∙ sym b.bytes)

  -- the result that the definition gives, and what is in scratch and in the output after it
  abbrev x : Result
  x = result_of file l budget wanted w o

  abbrev words_then : List ℕ
  words_then = scratch_after x (needed (length file) (limits_of l)) w

  abbrev bytes_then : List ℕ
  bytes_then = output_after x o

  -- ---- a refusal leaves everything as it was
  abbrev Kept : Said → List ℕ → List ℕ → Type 0
  Kept (refused_as n p) v q = (v ≡ w) × (q ≡ o)
  Kept (ended_as e n u b) v q = Unit {0}

  kept : (y : Result) → Kept (to_say y) (scratch_after y (needed (length file) (limits_of l)) w) (output_after y o)
  unfolding to_say scratch_after output_after
  kept (refusal n p) = (refl, refl)
  kept (end e n u b) = tt

  pub called_refused : (f : Fault) (p : Place) (v q : List ℕ) → Called file l budget wanted w o (refused_with f p) v q → (v ≡ w) × (q ≡ o)
  unfolding says
  called_refused f p v q a =
      let k : Kept (refused_as (fault_number f) p.0) words_then bytes_then = subst (λ (s : Said). Kept s words_then bytes_then) (sym a.outcome) (kept x) in
      (a.words ∙ k.0, a.bytes ∙ k.1)

  -- ---- an end: the needed words are zero, the bytes of the answers stand in the output, and nothing else is changed
  pub record Left (answers units size : ℕ) (e : ℕ) (v q : List ℕ) : Type 0 where
    pub written : List ℕ
    pub gives : x ≡ end e answers units written
    pub long : length written ≡ size
    pub within : size ≤ length o
    pub scratch : v ≡ replicate (needed (length file) (limits_of l)) 0 ++ drop (needed (length file) (limits_of l)) w
    pub output_is : q ≡ written ++ drop size o

  abbrev pub Came : Said → List ℕ → List ℕ → Type 0
  Came (refused_as n p) v q = Unit {0}
  Came (ended_as e n u b) v q = Left n u b e v q

  pub came : (y : Result) → x ≡ y → Small file (length o) y → Came (to_say y) (scratch_after y (needed (length file) (limits_of l)) w) (output_after y o)
  unfolding to_say scratch_after output_after
  came (refusal n p) g s = tt
  came (end e n u b) g s = record { written = b; gives = g; long = refl; within = s.2; scratch = refl; output_is = refl }

  pub called_ended : (e : End) (t : Totals) (v q : List ℕ) → Called file l budget wanted w o (ended_with e t) v q → Left t.answers t.units t.bytes (end_number e) v q
  unfolding says
  called_ended e t v q a =
      rw (a.words, a.bytes) (subst (λ (s : Said). Came s words_then bytes_then) (sym a.outcome) (came x refl (result_small file (limits_of l) budget wanted (length w) (length o))))

  -- ---- an edition that gives the same result: the function leaves what that edition says
  abbrev pub LeftBy : Edition → Outcome → List ℕ → List ℕ → Type 0
  LeftBy E r v q = (y : Result) × (says r ≡ to_say y) × LeavesBy E file (limits_of l) budget wanted w o y v q

  left_by : (E : Edition) → result_by E file (limits_of l) budget wanted (length w) (length o) ≡ x → (r : Outcome) (v q : List ℕ) → Called file l budget wanted w o r v q → LeftBy E r v q
  left_by E same r v q a = (x, a.outcome, record { result_is = sym same; scratch_is = a.words; output_is = a.bytes })

  module _ (R : Rules) (r : Outcome) (v q : List ℕ) (a : Called file l budget wanted w o r v q) where
    -- 2026-01: a file that was good by the earlier limits
    pub called_before : SaysWithin earlier_limits file R → LeftBy (within earlier_limits todays) r v q
    called_before good = left_by _ (larger_result todays file R good (limits_of l) budget wanted (length w) (length o)) r v q a

    -- 2026-02: a file whose query holds no cut
    pub called_uncut : Says file R → NoCut R.query → (h : ℕ) → LeftBy (keeping h todays) r v q
    called_uncut good n h = left_by _ (cut_result todays h file R good n (limits_of l) budget wanted (length w) (length o)) r v q a

    -- by both: what document 01 says of such a file
    pub called_settled : SaysWithin earlier_limits file R → NoCut R.query → LeftBy document_01 r v q
    called_settled good n = left_by _ (settled_result file R good n (limits_of l) budget wanted (length w) (length o)) r v q a

  -- ---- the third demand, for what the function wrote
  module _ (R : Rules) (says_so : Says file R) (e : End) (t : Totals) (v q : List ℕ) (a : Called file l budget wanted w o (ended_with e t) v q) where
    -- the answers that stand in the output
    pub record Wrote (listed : List Answer) : Type 0 where
      pub answers : t.answers ≡ length listed
      pub bytes : t.bytes ≡ length (output listed)
      pub output_is : q ≡ output listed ++ drop (length (output listed)) o

    wrote : (listed : List Answer) (b : List ℕ) → b ≡ output listed → t.answers ≡ length listed → length b ≡ t.bytes → q ≡ b ++ drop t.bytes o → Wrote listed
    wrote listed b f n s z = record { answers = n; bytes = sym s ∙ ap length f; output_is = z ∙ ap₂ (λ (x : List ℕ) (k : ℕ). x ++ drop k o) f (sym s ∙ ap length f) }

    ends : Ends R (end_number e) t.answers t.units (called_ended e t v q a).written
    ends = record { file = file; limits = limits_of l; budget = budget; wanted = wanted; scratch = length w; room = length o; says = says_so; gives = (called_ended e t v q a).gives }

    -- without cut, the answers that it wrote are complete
    pub called_complete : Uncut R → (listed : List Answer) × Wrote listed × Complete R listed (end_number e ≡ 20)
    called_complete uncut =
        let k = called_ended e t v q a in
        let (listed, b, n, c) = third_demand R (end_number e) t.answers t.units k.written uncut ends in
        (listed, wrote listed k.written b n k.long k.output_is, c)

    -- where the query's last goal is a cut, there is at most one
    pub called_at_most_one : (gs : List Goal) → R.query ≡ gs ++ cut ∷ [] → t.answers ≤ 1
    called_at_most_one gs last = at_most_one R gs last (end_number e) t.answers t.units (called_ended e t v q a).written ends

    -- with cut or without, they are right, and rise in dictionary order
    pub called_correct : (listed : List Answer) × Wrote listed × Correct R listed
    called_correct =
        let k = called_ended e t v q a in
        let (listed, b, n, c) = third_demand_with_cut R (end_number e) t.answers t.units k.written ends in
        (listed, wrote listed k.written b n k.long k.output_is, c)

-- ---- 2026-14: two calls with the same file, of which the second is given no less, and neither is refused
abbrev pub given_by : Limits → ℕ → ℕ → List ℕ → List ℕ → Given
given_by l budget wanted w o = record { limits = limits_of l; budget = budget; wanted = wanted; scratch = length w; room = length o }

-- the bytes that stand first in the output
pub taken : (b o q : List ℕ) (k : ℕ) → length b ≡ k → q ≡ b ++ drop k o → b ≡ take k q
taken b o q k long is = rw (is, ← long) (sym (take-append_seam b (drop (length b) o)))

module _ (file : List ℕ) (l m : Limits) (budget budget' wanted wanted' : ℕ) (w w' o o' : List ℕ) (raised : Raised (given_by l budget wanted w o) (given_by m budget' wanted' w' o')) where
  -- by what both calls left
  module _ {e n u k e' n' u' k' : ℕ} {v q v' q' : List ℕ} (x : Left file l budget wanted w o n u k e v q) (y : Left file m budget' wanted' w' o' n' u' k' e' v' q') where
    continued : Continued e n u x.written e' n' u' y.written
    continued = more_room todays file _ _ raised e n u x.written x.gives e' n' u' y.written y.gives

    pub left_continued : Continued e n u (take k q) e' n' u' (take k' q')
    left_continued = rw (← taken x.written o q k x.long x.output_is, ← taken y.written o' q' k' y.long y.output_is) continued

    pub left_same : e ≡ 20 → result_of file l budget wanted w o ≡ result_of file m budget' wanted' w' o'
    left_same h = x.gives ∙ continued.no_more h ∙ sym y.gives

  module _ (e e' : End) (t t' : Totals) (v v' q q' : List ℕ) (a : Called file l budget wanted w o (ended_with e t) v q) (b : Called file m budget' wanted' w' o' (ended_with e' t') v' q') where
    -- what the first wrote is the beginning of what the second wrote
    pub called_continued : Continued (end_number e) t.answers t.units (take t.bytes q) (end_number e') t'.answers t'.units (take t'.bytes q')
    called_continued = left_continued (called_ended file l budget wanted w o e t v q a) (called_ended file m budget' wanted' w' o' e' t' v' q' b)

    -- and where the first came to no more, so did the second, with the same totals and the same bytes
    pub called_no_more : e ≡ NoMore → (ended_with e t ≡ ended_with e' t') × (take t.bytes q ≡ take t'.bytes q')
    unfolding end_number
    called_no_more n =
        let same = left_same (called_ended file l budget wanted w o e t v q a) (called_ended file m budget' wanted' w' o' e' t' v' q' b) (ap end_number n) in
        let bytes = called_continued.no_more (ap end_number n) in
        (sym (outcome_back (ended_with e t)) ∙ ap outcome_of (a.outcome ∙ ap to_say same ∙ sym b.outcome) ∙ outcome_back (ended_with e' t'), cc)
