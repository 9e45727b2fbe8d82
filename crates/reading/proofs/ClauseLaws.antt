-- Goals, clauses and the query: one law for each place where the code returns or goes on.
-- Assumes nothing.
use Prim.Native.Nat.{ℕ, ◌+◌, ◌≤◌, ◌<◌}
use mathlib.Core.Path.{◌≡◌, refl, sym, ap, ap₂, ◌∙◌}
use mathlib.Core.Bool.{Bool, true, false, ◌&&◌}
use mathlib.Core.List.{List, []}
use lib.Dec.{leb, ltb, eqb}
use lib.ListN.{length}
use borrow.Author.Tests.{lt-ltb, le-ltb, eq-eqb, ne_eqb}
use Rattle.std.specs.Prelude.{Some, None, Ok, Err}
use Rattle.meaning.specs.If.{when◌then◌else◌}
use Rattle.meaning.specs.Terms.{Terms}
use Rattle.meaning.specs.Kinds.{a_clause, a_goal, a_cut, a_query, the_end, level_limit, variable_limit, goal_limit, clause_limit, body_length, body_lengths, todays_limits}
use Rattle.meaning.specs.Rules.{Goal, call, Clause, Rules}
use Rattle.meaning.specs.Reading.{Read, Reader, after, ◌>>=◌, ◌>>◌, give, need, goals, none_seen, all_seen, goal_due, end_due, terms}
use Rattle.meaning.specs.Reading.{byte, two_bytes, next, term, arguments, called, goal, clause, query, no_more}
use Rattle.meaning.specs.declared.Refusal.{Refusal}
use Rattle.reading.specs.Verdict.{refusal}
use Rattle.reading.specs.Steps.{step, either, only, in_range, body, clause_after, ending, last}
use Rattle.reading.specs.Arities.{functions_of, predicates_of, arity}
use Rattle.reading.specs.declared.step.Reached.{Reached}
use Rattle.laws.specs.Due.{goal_left}
use Rattle.laws.specs.IfLaws.{and_all, and_last, and_false_left}
use Rattle.reading.proofs.StepLaws.{Step, after_refused, after_next, after_give, after_same, next_found, next_then, next_due, only_eqb, body_inside, only_inside}
use Rattle.reading.proofs.TermLaws.{arity_of, arity_none}

-- ---- one goal
module _ (file functions predicates : List ℕ) (declared p s e : ℕ) where
  called_unknown : None ≡ arity file predicates p → Err (refusal 6 p) ≡ step (called file functions predicates declared p s e)
  unfolding called ◌>>◌ need after step
  called_unknown h = rw (arity_none file predicates p h)

  called_known : {n : ℕ} → Some n ≡ arity file predicates p → step (terms (term file functions declared level_limit) n s e) ≡ step (called file functions predicates declared p s e)
  unfolding called arguments ◌>>◌ ◌>>=◌ need after give
  called_known {n} h =
      let k = arity_of file predicates p h in
      rw (k.number, k.same)
      (sym (after_give (terms (term file functions declared level_limit) n s e) (λ (ts : Terms). call (record { predicate = two_bytes file (p + 1); arguments = ts }))))

-- the record of a goal stands here, or not
module _ (file : List ℕ) (functions predicates declared seen at : ℕ) where
  abbrev the_goal : Step
  the_goal = step (goal file (functions_of file functions) (predicates_of file functions predicates) declared seen at)

  pub goal_refused : {e : Refusal} → Err e ≡ step (next file (either a_goal a_cut) seen at) → Err e ≡ the_goal
  unfolding goal goal_due either ◌>>=◌
  goal_refused h = after_refused _ _ h

  module _ {t : Reached} (h : Ok t ≡ step (next file (either a_goal a_cut) seen at)) where
    pub called_inside : eqb (byte file at) a_cut ≡ false → at + 2 < length file
    unfolding goal_due either body_length body_lengths
    called_inside k = body_inside file _ seen at h a_goal (goal_left _ (next_found file _ seen at h).1.kind k)

    pub goal_cut : eqb (byte file at) a_cut ≡ true → Ok t ≡ the_goal
    unfolding goal goal_due either ◌>>=◌ when◌then◌else◌ give step
    goal_cut k = rw (next_then file _ seen at h, k)

    module _ (k : eqb (byte file at) a_cut ≡ false) where
      pub goal_unknown : None ≡ arity file (predicates_of file functions predicates) at → Err (refusal 6 at) ≡ the_goal
      unfolding goal goal_due either ◌>>=◌ when◌then◌else◌
      goal_unknown u = rw (next_then file _ seen at h, k) (called_unknown file _ _ declared at _ _ u)

      pub goal_called : {n : ℕ} → Some n ≡ arity file (predicates_of file functions predicates) at
          → step (terms (term file (functions_of file functions) declared level_limit) n t.seen t.at) ≡ the_goal
      unfolding goal goal_due either ◌>>=◌ when◌then◌else◌
      goal_called u = rw (next_then file _ seen at h, k) (called_known file _ _ declared at _ _ u)

-- ---- the body of a clause or query
-- what is given after all variables have appeared does not matter
abbrev finish : {A : Type 0} → ℕ → ℕ → A → Reader A
finish declared p a = do
  all_seen declared p
  give a

module _ {A : Type 0} (declared p s e : ℕ) (a : A) where
  finish_unused : (s ≡ declared → ⊥) → Err (refusal 7 p) ≡ step (finish declared p a s e)
  unfolding ◌>>◌ all_seen need after step
  finish_unused d = rw (ne_eqb s declared d)

  finish_good : s ≡ declared → Ok (record { seen = s; at = e }) ≡ step (finish declared p a s e)
  unfolding ◌>>◌ all_seen need after give step
  finish_good d = rw (eq-eqb s declared d)

module _ (file functions predicates : List ℕ) (declared n p seen at : ℕ) where
  abbrev the_body : Step
  the_body = step (body file functions predicates declared n p seen at)

  abbrev the_goals : Step
  the_goals = step (goals (goal file functions predicates declared) n seen at)

  -- with a value made over from the goals
  body_give : {A : Type 0} (f : List Goal → A) → the_body ≡ step (after (goals (goal file functions predicates declared) n seen at) (λ gs. finish declared p (f gs)))
  unfolding body ◌>>=◌ ◌>>◌ give step
  body_give f = after_same _ _ _ (λ gs s e. after_same _ _ _ (λ u s e. refl))

  pub body_refused : {e : Refusal} → Err e ≡ the_goals → Err e ≡ the_body
  unfolding body ◌>>=◌
  body_refused h = after_refused _ _ h

  module _ {t : Reached} (h : Ok t ≡ the_goals) where
    pub body_unused : (t.seen ≡ declared → ⊥) → Err (refusal 7 p) ≡ the_body
    unfolding body ◌>>=◌
    body_unused d = after_next _ (finish declared p) h (λ gs. finish_unused declared p t.seen t.at gs d)

    pub body_good : t.seen ≡ declared → Ok t ≡ the_body
    unfolding body ◌>>=◌
    body_good d = after_next _ (finish declared p) h (λ gs. finish_good declared p t.seen t.at gs d)

-- ---- one clause
module _ (file functions predicates : List ℕ) (p at : ℕ) where
  abbrev the_clause : Step
  the_clause = step (clause file todays_limits functions predicates p 0 at)

  abbrev numbers : Bool
  numbers = ltb (two_bytes file (p + 1)) (length predicates) && leb (byte file (p + 3)) variable_limit && leb (byte file (p + 4)) goal_limit

  numbers_bad : numbers ≡ false → Err (refusal 6 p) ≡ the_clause
  unfolding clause ◌>>◌ need after step
  numbers_bad h = rw h

  -- the head's arguments, then the body
  abbrev head : ℕ → ℕ → Read Terms
  head declared n = terms (term file functions declared level_limit) n 0 at

  abbrev rest : ℕ → ℕ → Terms → Reader Clause
  rest declared n ts s e =
      after (goals (goal file functions predicates declared) n s e)
      (λ gs. finish declared p (record { variables = declared; head = record { predicate = two_bytes file (p + 1); arguments = ts }; body = gs }))

  module _ (declared n : ℕ) (d : declared ≡ byte file (p + 3)) (m : n ≡ byte file (p + 4)) where
    in_file : in_range declared n ≡ (leb (byte file (p + 3)) variable_limit && leb (byte file (p + 4)) goal_limit)
    unfolding in_range
    in_file = ap₂ in_range d m

    pub clause_over : in_range declared n ≡ false → Err (refusal 6 p) ≡ the_clause
    clause_over r = numbers_bad (and_last (ltb (two_bytes file (p + 1)) (length predicates)) _ _ (sym in_file ∙ r))

    pub clause_unknown : None ≡ arity file predicates p → Err (refusal 6 p) ≡ the_clause
    clause_unknown u = numbers_bad (and_false_left _ _ (and_false_left _ _ (arity_none file predicates p u)))

    module _ (r : in_range declared n ≡ true) {arity' : ℕ} (u : Some arity' ≡ arity file predicates p) where
      good : numbers ≡ true
      good = and_all _ _ _ (arity_of file predicates p u).number (sym in_file ∙ r)

      clause_head : the_clause ≡ step (after (head declared arity') (rest declared n))
      unfolding clause arguments none_seen ◌>>◌ ◌>>=◌ need after step
      clause_head = rw (good, d, m, (arity_of file predicates p u).same)

      pub clause_refused : {e : Refusal} → Err e ≡ step (head declared arity') → Err e ≡ the_clause
      clause_refused h = after_refused _ (rest declared n) h ∙ sym clause_head

      pub clause_body : {t : Reached} → Ok t ≡ step (head declared arity') → step (body file functions predicates declared n p t.seen t.at) ≡ the_clause
      clause_body {t} h = after_next _ (rest declared n) h (λ ts. body_give file functions predicates declared n p t.seen t.at _) ∙ sym clause_head

-- ---- a clause after so many
module _ (file functions predicates : List ℕ) (before at : ℕ) where
  abbrev the_next : Step
  the_next = step (clause_after file functions predicates before 0 at)

  pub clause_lost : {e : Refusal} → Err e ≡ step (next file (either a_clause a_clause) 0 at) → Err e ≡ the_next
  unfolding clause_after ◌>>=◌
  clause_lost h = after_refused _ _ h

  module _ {t : Reached} (h : Ok t ≡ step (next file (either a_clause a_clause) 0 at)) where
    pub clause_inside : at + 4 < length file
    unfolding body_length body_lengths
    clause_inside = only_inside file a_clause 0 at h

    pub clause_many : clause_limit ≤ before → Err (refusal 6 at) ≡ the_next
    unfolding clause_after ◌>>=◌ ◌>>◌ need after step
    clause_many m = rw ((next_found file _ 0 at h).1.gives 0, le-ltb before clause_limit m)

    pub clause_here : before < clause_limit → step (clause file todays_limits functions predicates at 0 t.at) ≡ the_next
    unfolding clause_after ◌>>=◌ ◌>>◌ need after
    clause_here m = rw ((next_found file _ 0 at h).1.gives 0, lt-ltb before clause_limit m)

-- ---- the end
module _ (file : List ℕ) (seen at : ℕ) where
  abbrev the_ending : Step
  the_ending = step (ending file seen at)

  end_looked : step (next file (either the_end the_end) seen at) ≡ step (next file end_due seen at)
  unfolding end_due
  end_looked = ap step (next_due file (only the_end) end_due seen at (only_eqb the_end (byte file at)))

  pub ending_refused : {e : Refusal} → Err e ≡ step (next file (either the_end the_end) seen at) → Err e ≡ the_ending
  unfolding ending ◌>>◌
  ending_refused h = after_refused _ _ (h ∙ end_looked)

  module _ {t : Reached} (h : Ok t ≡ step (next file (either the_end the_end) seen at)) where
    pub ending_more : (t.at ≡ length file → ⊥) → Err (refusal 9 t.at) ≡ the_ending
    unfolding ending ◌>>◌ no_more need after step
    ending_more k = rw ((next_found file end_due seen at (h ∙ end_looked)).1.gives seen, ne_eqb t.at (length file) k)

    pub ending_good : t.at ≡ length file → Ok t ≡ the_ending
    unfolding ending ◌>>◌ no_more need after step
    ending_good k =
        let (s, f) = next_found file end_due seen at (h ∙ end_looked) in
        rw (f.gives seen, eq-eqb t.at (length file) k, ← s)

-- ---- the query
module _ (file functions predicates : List ℕ) (p at : ℕ) where
  abbrev the_query : Step
  the_query = step (query file todays_limits functions predicates [] p 0 at)

  module _ (declared n : ℕ) (d : declared ≡ byte file (p + 1)) (m : n ≡ byte file (p + 2)) where
    asked_in_file : in_range declared n ≡ (leb (byte file (p + 1)) variable_limit && leb (byte file (p + 2)) goal_limit)
    unfolding in_range
    asked_in_file = ap₂ in_range d m

    pub query_over : in_range declared n ≡ false → Err (refusal 6 p) ≡ the_query
    unfolding query ◌>>◌ need after step
    query_over r = rw (sym asked_in_file ∙ r)

    pub query_body : in_range declared n ≡ true → step (body file functions predicates declared n p 0 at) ≡ the_query
    unfolding query none_seen ◌>>◌ ◌>>=◌ need after
    query_body r = rw (sym asked_in_file ∙ r, d, m) (body_give file functions predicates (byte file (p + 1)) (byte file (p + 2)) p 0 at _)

module _ (file functions predicates : List ℕ) (at : ℕ) where
  abbrev the_last : Step
  the_last = step (last file functions predicates [] 0 at)

  -- after the query
  abbrev close : Rules → Reader Rules
  close R = do
    next file end_due
    no_more file
    give R

  close_same : (R : Rules) (t i : ℕ) → step (ending file t i) ≡ step (close R t i)
  unfolding ending ◌>>◌ give
  close_same R t i = after_same _ _ _ (λ q s e. sym (after_give (no_more file s e) (λ (u : Unit {0}). R)))

  pub last_refused : {e : Refusal} → Err e ≡ step (next file (either a_query a_query) 0 at) → Err e ≡ the_last
  unfolding last ◌>>=◌
  last_refused h = after_refused _ _ h

  module _ {t : Reached} (h : Ok t ≡ step (next file (either a_query a_query) 0 at)) where
    pub query_inside : at + 2 < length file
    unfolding body_length body_lengths
    query_inside = only_inside file a_query 0 at h

    last_query : step (after (query file todays_limits functions predicates [] at 0 t.at) close) ≡ the_last
    unfolding last ◌>>=◌ after
    last_query = rw ((next_found file _ 0 at h).1.gives 0)

    pub query_refused : {e : Refusal} → Err e ≡ step (query file todays_limits functions predicates [] at 0 t.at) → Err e ≡ the_last
    query_refused g = after_refused _ close g ∙ last_query

    pub query_ending : {u : Reached} → Ok u ≡ step (query file todays_limits functions predicates [] at 0 t.at) → step (ending file u.seen u.at) ≡ the_last
    query_ending {u} g = after_next _ close g (λ R. close_same R u.seen u.at) ∙ last_query
