-- Laying out the whole: what each of its four parts is asked, and what they come to.
-- Assumes nothing.
use Rattle.std.proofs.Common.{ℕ, ◌+◌, ◌*◌, ◌≤◌, ◌<◌, ◌≡◌, sym, ap, ◌∙◌, List, length, get_or, arith}
use Rattle.meaning.specs.Rules.{Rules}
use Rattle.meaning.specs.Reading.{read, byte, parse}
use Rattle.meaning.specs.declared.Place.{Place}
use Rattle.layout.specs.Lengths.{clauses_length, query_place}
use Rattle.layout.specs.Regions.{word}
use Rattle.layout.specs.Standing.{StandsRules}
use Rattle.layout.specs.Fitting.{FitsRules}
use Rattle.layout.specs.Stood.{good_files_stand, good_files_fit}
use Rattle.tables.specs.Laid.{lay_goals, lay_clauses, clear, links, clauses_start, laid_out, laid}
use Rattle.tables.specs.Here.{HereClauses, CanClauses, HasClauses, CanGoals, HasGoals, CanLink, CanLay, HasLaid}
use Rattle.tables.specs.Stood.{index_there, query_after, query_within, tables_fit, clauses_here, query_here}
use Rattle.tables.specs.Tabling.{good_files_sized, laid_out_keeps, clause_out}

-- the file says one set of rules
says_one : (file : List ℕ) (R T : Rules) (seen end seen₂ end₂ : ℕ) → parse file ≡ read R seen end → parse file ≡ read T seen₂ end₂ → R ≡ T
says_one file R T seen end seen₂ end₂ e f = cc

module _ (file w : List ℕ) (functions predicates clauses : ℕ) (C : CanLay file w functions predicates clauses) where
  stands : StandsRules file C.rules
  stands = good_files_stand file C.rules C.seen C.end C.good

  fits : FitsRules C.rules
  fits = good_files_fit file C.rules C.seen C.end C.good

  -- the numbers that are handed over
  numbers : clauses_start C.rules ≡ 2 * functions + 2 * predicates
  numbers = let f = C.functions_are in let p = C.predicates_are in omega arith

  pub lay_clear : 64 + length file + predicates ≤ length w
  lay_clear = let r = C.room.room in let t = tables_fit file C.rules stands fits in let p = C.predicates_are in omega arith

  here : HereClauses file (2 * functions) (2 * functions + 2 * predicates) C.rules.clauses
  here = rw (← numbers, ← C.functions_are) (clauses_here file C.rules stands fits)

  pub lay_can_clauses : (v : List ℕ) → length v ≡ length w → CanClauses file v (2 * functions) (2 * functions + 2 * predicates) (64 + length file + predicates) clauses
  lay_can_clauses v e =
      let r = C.room.room in
      let l = query_within file C.rules stands fits in
      let t = tables_fit file C.rules stands fits in
      let p = C.predicates_are in
      let c = C.clauses_are in
      let n = numbers in
      record {
        room = record { small = C.room.small; room = omega arith };
        start = omega arith;
        which = C.rules.clauses;
        counted = C.clauses_are;
        here = here;
        words = omega arith;
      }

  module _ (v : List ℕ) (r : ℕ) (u : List ℕ) (H : HasClauses file v (2 * functions) (2 * functions + 2 * predicates) (64 + length file + predicates) clauses r u) where
    query_there : r ≡ query_place C.rules
    query_there = (H.is C.rules.clauses C.clauses_are here).1 ∙ ap (◌+ clauses_length C.rules.clauses) (sym numbers) ∙ sym (query_after C.rules)

    query_inside : r + 3 < length file
    query_inside = let l = query_within file C.rules stands fits in let q = query_after C.rules in let e = query_there in omega arith

    pub lay_query : r + 2 < length file
    lay_query = let l = query_inside in omega arith

    pub lay_can_goals : length v ≡ length w → length u ≡ length v → CanGoals file u (2 * functions) (r + 3) (get_or file (r + 2) 0)
    unfolding byte
    lay_can_goals e f =
        let room = C.room.room in
        let l = query_inside in
        record {
          room = record { small = C.room.small; room = omega arith };
          start = omega arith;
          which = C.rules.query;
          counted = rw query_there (sym stands.query_goals);
          here = rw (query_there, ← C.functions_are) (query_here file C.rules stands fits);
        }

    module _ (a : ℕ) (x : List ℕ) (K : HasGoals file u (2 * functions) (r + 3) (get_or file (r + 2) 0) a x) (is : v ≡ clear (64 + length file) predicates w) where
      -- before the clauses are linked
      out_is : x ≡ laid_out (length file) C.rules w
      unfolding byte laid_out
      out_is =
          let goals : x ≡ lay_goals C.rules.query (r + 3) u =
          (K.is C.rules.query (rw query_there (sym stands.query_goals)) (rw (query_there, ← C.functions_are) (query_here file C.rules stands fits))).0 in
          let clauses : u ≡ lay_clauses (64 + length file + predicates) 0 C.rules.clauses (2 * functions + 2 * predicates) v = (H.is C.rules.clauses C.clauses_are here).0 in
          rw (goals, clauses, is, query_there, ← numbers, ← C.predicates_are)

      pub lay_can_link : CanLink (64 + length file) (64 + length file + predicates) clauses x
      lay_can_link =
          let s = C.room.small in
          let room = C.room.room in
          let t = tables_fit file C.rules stands fits in
          let p = C.predicates_are in
          let c = C.clauses_are in
          let Z = good_files_sized file C.rules C.seen C.end C.good w room in
          let long : length x ≡ length w = ap length out_is ∙ (laid_out_keeps (length file) C.rules w Z).same_length in
          record {
            small = omega arith;
            start = omega arith;
            fits = omega arith;
            behind = λ k h. (let (d, e) = index_there C.rules.clauses k (omega arith) in
                let one : word (laid_out (length file) C.rules w) (64 + length file + length C.rules.predicates + 2 * k + 1) ≡ d.head.predicate = (clause_out (length file) C.rules w Z k d e).predicate in
                let known : d.head.predicate < length C.rules.predicates = Z.known k d e in
                let is : word x (64 + length file + predicates + 2 * k + 1) ≡ d.head.predicate =
                ap (λ (l : List ℕ). word l (64 + length file + predicates + 2 * k + 1)) out_is ∙ ap (λ (m : ℕ). word (laid_out (length file) C.rules w) (64 + length file + m + 2 * k + 1)) (sym p) ∙ one in
                omega arith);
          }

      pub lay_end : (P : Place) (y : List ℕ) → P.0 ≡ r → y ≡ links (64 + length file) (64 + length file + predicates) clauses x → HasLaid file w P y
      unfolding laid
      lay_end P y p e =
          let all : y ≡ laid (length file) C.rules w = e ∙ rw (out_is, ← C.predicates_are, ← C.clauses_are) in
          record {
            words = λ R seen end g. all ∙ ap (λ (T : Rules). laid (length file) T w) (says_one file C.rules R C.seen C.end seen end C.good g);
            place = λ R seen end g. p ∙ query_there ∙ ap query_place (says_one file C.rules R C.seen C.end seen end C.good g);
          }
