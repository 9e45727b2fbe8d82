-- The tables of a good file, as they are laid out, are tables of its rules, and nothing else of scratch is changed.
-- Assumes nothing.
use Rattle.std.specs.Prelude.{ℕ, zero, suc, ◌+◌, ◌*◌, ◌≤◌, ◌<◌, ◌≡◌, List, [], ◌∷◌, take}
use Rattle.std.proofs.Math.Path.{refl, subst}
use Rattle.std.proofs.Common.{ap, sym, ◌∙◌, inl, inr, ⊎_elim}
use Rattle.std.proofs.Math.Option.{some, some-injective}
use native.Mathlib.Omega.{arith}
use Rattle.std.proofs.Math.ListN.{length, get_elem?}
use Rattle.std.proofs.Math.Seq.{drop-length}
use Rattle.meaning.specs.Rules.{Clause, Rules}
use Rattle.meaning.specs.Reading.{read, parse}
use Rattle.meaning.specs.Moves.{clauses_of}
use Rattle.meaning.specs.declared.Place.{Place}
use Rattle.layout.specs.Lengths.{goals_length, clause_length, clauses_length, clause_place, query_place}
use Rattle.layout.specs.Regions.{word, Keeps}
use Rattle.layout.specs.Tables.{AfterGoals, Tabled}
use Rattle.layout.specs.Stood.{good_files_stand, good_files_fit}
use Rattle.tables.specs.Laid.{lay_clauses, clear, clauses_start, laid_out, laid}
use Rattle.tables.specs.Here.{HasLaid}
use Rattle.tables.specs.Stood.{index_below, index_there, query_after, query_within, tables_fit}
use Rattle.tables.specs.Kept.{goals_keep, KeepsBoth, clauses_keep, clear_keeps, clear_word}
use Rattle.tables.specs.After.{goals_same, clause_same, goals_laid, ClauseLaid, clauses_laid}
use Rattle.tables.specs.Linked.{Linked, links_linked}

-- a clause ends among its clauses
clause_among : (cs : List Clause) (k : ℕ) (c : Clause) → get_elem? cs k ≡ some c → clauses_length (take k cs) + clause_length c ≤ clauses_length cs
unfolding clauses_length
clause_among [] k c e = let z : ◌≡◌ {A = ℕ} 0 1 = cc in absurd (omega arith)
clause_among (d ∷ cs) zero c e = let same : clause_length d ≡ clause_length c = ap clause_length (some-injective _ _ e) in omega arith
clause_among (d ∷ cs) (suc k) c e = let h = clause_among cs k c e in omega arith

-- the rules are in a file of F bytes, each predicate of a clause is one of theirs, and the words have room
pub record Sized (F : ℕ) (R : Rules) (w : List ℕ) : Type 0 where
  pub within : clauses_start R + clauses_length R.clauses + 3 + goals_length R.query < F
  pub fits : length R.predicates + 2 * length R.clauses ≤ F
  pub room : 64 + 2 * F ≤ length w
  pub known : (k : ℕ) (c : Clause) → get_elem? R.clauses k ≡ some c → c.head.predicate < length R.predicates

pub good_files_sized : (file : List ℕ) (R : Rules) (seen end : ℕ) → parse file ≡ read R seen end → (w : List ℕ) → 64 + 2 * length file ≤ length w → Sized (length file) R w
good_files_sized file R seen end e w h =
    let S = good_files_stand file R seen end e in
    let T = good_files_fit file R seen end e in
    record {
      within = query_within file R S T;
      fits = tables_fit file R S T;
      room = h;
      known = λ k c g. index_below R.predicates c.head.predicate _ (T.clauses k c g).head.arity;
    }

-- the words as they are, step by step
abbrev cleared : ℕ → Rules → List ℕ → List ℕ
cleared F R w = clear (64 + F) (length R.predicates) w

abbrev entered : ℕ → Rules → List ℕ → List ℕ
entered F R w = lay_clauses (64 + F + length R.predicates) 0 R.clauses (clauses_start R) (cleared F R w)

module _ (F : ℕ) (R : Rules) (w : List ℕ) (Z : Sized F R w) where
  entered_keep : KeepsBoth (64 + clauses_start R) (64 + clauses_start R + clauses_length R.clauses) (64 + F + length R.predicates) (64 + F + length R.predicates + 2 * length R.clauses) (cleared F R w) (entered F R w)
  entered_keep =
      let K = clauses_keep (64 + F + length R.predicates) 0 R.clauses (clauses_start R) (cleared F R w) in
      record { same_length = K.same_length; same = λ i h o. K.same i h (⊎_elim (λ x. inl (omega arith)) (λ x. inr (omega arith)) o) }

  out_keeps : Keeps (64 + (query_place R + 3)) (64 + (query_place R + 3) + goals_length R.query) (entered F R w) (laid_out F R w)
  unfolding laid_out
  out_keeps = goals_keep R.query (query_place R + 3) (entered F R w)

  cleared_keeps : Keeps (64 + F) (64 + F + length R.predicates) w (cleared F R w)
  cleared_keeps = clear_keeps (64 + F) (length R.predicates) w

  out_length : length (laid_out F R w) ≡ length w
  out_length = out_keeps.same_length ∙ entered_keep.same_length ∙ cleared_keeps.same_length

  -- nothing is changed but the tables
  pub laid_out_keeps : Keeps 64 (64 + 2 * F) w (laid_out F R w)
  laid_out_keeps =
      let b = Z.within in
      let f = Z.fits in
      let q = query_after R in
      record {
        same_length = out_length;
        same = λ i o.
            out_keeps.same i (⊎_elim (λ x. inl (omega arith)) (λ x. inr (omega arith)) o)
            ∙ entered_keep.same i (⊎_elim (λ x. inl (omega arith)) (λ x. inr (omega arith)) o) (⊎_elim (λ x. inl (omega arith)) (λ x. inr (omega arith)) o)
            ∙ cleared_keeps.same i (⊎_elim (λ x. inl (omega arith)) (λ x. inr (omega arith)) o);
      }

  -- the clauses, the query, and predicates with no clause yet
  pub clause_out : (k : ℕ) (c : Clause) → get_elem? R.clauses k ≡ some c → ClauseLaid (laid_out F R w) (64 + F + length R.predicates) k (clause_place R k) c
  unfolding clause_place
  clause_out k c e =
      let b = Z.within in
      let f = Z.fits in
      let r = Z.room in
      let q = query_after R in
      let l = index_below R.clauses k c e in
      let m = clause_among R.clauses k c e in
      let long = cleared_keeps.same_length in
      let number : 0 + k ≡ k = omega arith in
      let C : ClauseLaid (entered F R w) (64 + F + length R.predicates) k (clauses_start R + clauses_length (take k R.clauses)) c =
      subst (λ (x : ℕ). ClauseLaid (entered F R w) (64 + F + length R.predicates) x (clauses_start R + clauses_length (take k R.clauses)) c) number
      (clauses_laid (64 + F + length R.predicates) 0 R.clauses (clauses_start R) (cleared F R w) (omega arith) (omega arith) k c e) in
      record {
        after = clause_same (entered F R w) (laid_out F R w) (clauses_start R + clauses_length (take k R.clauses)) c (λ i x y. out_keeps.same i (inl (omega arith))) C.after;
        place = out_keeps.same _ (inr (omega arith)) ∙ C.place;
        predicate = out_keeps.same _ (inr (omega arith)) ∙ C.predicate;
      }

  query_out : AfterGoals (laid_out F R w) (query_place R + 3) R.query
  unfolding laid_out
  query_out =
      let b = Z.within in
      let r = Z.room in
      let q = query_after R in
      let long : length (entered F R w) ≡ length w = entered_keep.same_length ∙ cleared_keeps.same_length in
      goals_laid R.query (query_place R + 3) (entered F R w) (omega arith)

  first_out : (q : ℕ) → q < length R.predicates → word (laid_out F R w) (64 + F + q) ≡ 0
  first_out q h =
      let b = Z.within in
      let f = Z.fits in
      let r = Z.room in
      let e = query_after R in
      out_keeps.same (64 + F + q) (inr (omega arith)) ∙ entered_keep.same (64 + F + q) (inr (omega arith)) (inl (omega arith)) ∙ clear_word (64 + F) (length R.predicates) w q (omega arith) h

  -- no clause is linked
  out_linked : Linked F (length R.predicates) R (laid_out F R w) (length R.clauses) (laid_out F R w)
  unfolding clauses_of
  out_linked = record {
    keeps = record { same_length = refl; same = λ i o. refl };
    places = λ j l. (let (c, e) = index_there R.clauses j l in (clause_out j c e).place);
    predicates = λ j c l e. (clause_out j c e).predicate;
    chains = λ q l. rw (drop-length R.clauses) (first_out q l);
  }

  -- all are
  all_linked : Linked F (length R.predicates) R (laid_out F R w) 0 (laid F R w)
  unfolding laid
  all_linked =
      let f = Z.fits in
      let r = Z.room in
      let long = out_length in
      links_linked F (length R.predicates) R (laid_out F R w) (omega arith) Z.known (length R.clauses) (laid_out F R w) (omega arith) out_linked

  pub sized_tabled : Tabled F R (laid F R w)
  unfolding clause_place
  sized_tabled =
      let L = all_linked in
      let b = Z.within in
      let s = query_after R in
      record {
        clauses = λ k c e. (let m = clause_among R.clauses k c e in
            clause_same (laid_out F R w) (laid F R w) (clauses_start R + clauses_length (take k R.clauses)) c (λ i x y. L.keeps.same i (inl (omega arith))) (clause_out k c e).after);
        query = goals_same (laid_out F R w) (laid F R w) (query_place R + 3) R.query (λ i x y. L.keeps.same i (inl (omega arith))) query_out;
        chains = λ q a e. L.chains q (index_below R.predicates q a e);
      }

  pub sized_keeps : Keeps 64 (64 + 2 * F) w (laid F R w)
  sized_keeps =
      let L = all_linked in
      let K = laid_out_keeps in
      let f = Z.fits in
      record { same_length = L.keeps.same_length ∙ K.same_length; same = λ i o. L.keeps.same i (⊎_elim (λ x. inl (omega arith)) (λ x. inr (omega arith)) o) ∙ K.same i o }

-- ---- the theorems
module _ (file : List ℕ) (R : Rules) (seen end : ℕ) (good : parse file ≡ read R seen end) (w : List ℕ) (room : 64 + 2 * length file ≤ length w) where
  pub laid_tabled : Tabled (length file) R (laid (length file) R w)
  laid_tabled = sized_tabled (length file) R w (good_files_sized file R seen end good w room)

  pub laid_keeps : Keeps 64 (64 + 2 * length file) w (laid (length file) R w)
  laid_keeps = sized_keeps (length file) R w (good_files_sized file R seen end good w room)

-- one result: what is promised of the words and of the place determines them
pub laid_once : (file w : List ℕ) (R : Rules) (seen end : ℕ) → parse file ≡ read R seen end → (r s : Place) (u v : List ℕ) → HasLaid file w r u → HasLaid file w s v → (u ≡ v) × (r.0 ≡ s.0)
laid_once file w R seen end good r s u v H K =
    (H.words R seen end good ∙ sym (K.words R seen end good), H.place R seen end good ∙ sym (K.place R seen end good))
