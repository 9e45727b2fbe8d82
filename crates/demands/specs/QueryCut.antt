-- 2026-02, cut in a query: it drops all choices, where by document 01 it did nothing; and for a file whose query holds no cut nothing
-- moved. A reader needs document 01's definitions, and no proof: that each statement holds is in `QueryCutLaws`.
-- Assumes nothing.
use Rattle.std.specs.Prelude.{ℕ, ◌≤◌, ◌≡◌, List, [], ◌∷◌, ◌++◌}
use Rattle.meaning.specs.Editions.{Edition, document_01, todays, keeping}
use Rattle.meaning.specs.Rules.{Goal, cut, Rules}
use Rattle.meaning.specs.Moves.{Limits, Derivation, Choice, cutting, Done, due, spend, go_on, move, start_keeping}
use Rattle.meaning.specs.Call.{Result}
use Rattle.meaning.specs.Embedded.{embedded_by, embedded}
use Rattle.demands.specs.Proofs.{NoCut}
use Rattle.demands.specs.Demands.{SaysWithin, LeavesBy, Leaves, Ends}
use Rattle.demands.specs.Stops.{ReachedFrom}

-- "it drops all untried clauses of every goal called since the query began. It still costs one unit": its unit being spent, the search goes
-- on with no choice
abbrev pub DropsAll : Type 0
DropsAll = (R : Rules) (L : Limits) (wanted room : ℕ) (n : Derivation) (cs : List Choice) (d : Done)
    → move R L wanted room (cutting todays.query_keeps n cs) d ≡ go_on R L wanted room n [] d

-- "A cut in the query costs its unit and does nothing else", by document 01: wherever one is due in a run with S in its range, the search
-- goes on with all the choices there are
abbrev pub DoesNothingElse : Type 0
DoesNothingElse = (R : Rules) (L : Limits) (wanted room budget : ℕ) → L.steps ≤ 60_000 → (n : Derivation) (cs : List Choice) (d : Done)
    → ReachedFrom R L wanted room (start_keeping R L wanted room document_01.query_keeps) budget (due (cutting document_01.query_keeps n cs) d)
    → move R L wanted room (cutting document_01.query_keeps n cs) (spend d) ≡ go_on R L wanted room n cs (spend d)

-- A query whose last goal is a cut has at most one answer
abbrev pub AtMostOne : Type 0
AtMostOne = (R : Rules) (gs : List Goal) → R.query ≡ gs ++ cut ∷ [] → (e answers units : ℕ) (bytes : List ℕ) → Ends R e answers units bytes → answers ≤ 1

-- A file whose query holds no cut: every call with it leaves the same result, scratch and output, however many choices a cut in a query
-- keeps, and the embedded form has the same result
abbrev pub SameCalls : Type 0
SameCalls = (E : Edition) (h : ℕ) (file : List ℕ) (R : Rules) → SaysWithin E.limits file R → NoCut R.query
    → (L : Limits) (budget wanted : ℕ) (scratch out : List ℕ) (r : Result) (scratch_then out_then : List ℕ)
    → LeavesBy (keeping h E) file L budget wanted scratch out r scratch_then out_then → LeavesBy E file L budget wanted scratch out r scratch_then out_then

abbrev pub SameEmbedded : Type 0
SameEmbedded = (E : Edition) (h : ℕ) (file : List ℕ) (R : Rules) → SaysWithin E.limits file R → NoCut R.query
    → (budget wanted room : ℕ) → embedded_by E file budget wanted room ≡ embedded_by (keeping h E) file budget wanted room

-- With 2026-01: what document 01 says of a good file whose query holds no cut, holds today
abbrev pub Settled : Type 0
Settled = (file : List ℕ) (R : Rules) → SaysWithin document_01.limits file R → NoCut R.query
    → (L : Limits) (budget wanted : ℕ) (scratch out : List ℕ) (r : Result) (scratch_then out_then : List ℕ)
    → LeavesBy document_01 file L budget wanted scratch out r scratch_then out_then → Leaves file L budget wanted scratch out r scratch_then out_then

abbrev pub SettledEmbedded : Type 0
SettledEmbedded = (file : List ℕ) (R : Rules) → SaysWithin document_01.limits file R → NoCut R.query → (budget wanted room : ℕ)
    → embedded file budget wanted room ≡ embedded_by document_01 file budget wanted room
