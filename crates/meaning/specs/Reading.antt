-- Reading a rule file: "the file is read forward and the first fault counts". A reader starts at a place of the file and comes to
-- a refusal, by number and place, or to what it read and the place after it. Below, `do` lists readers that follow one another.
-- Assumes nothing.
use Rattle.std.specs.Prelude.{ℕ, zero, suc, ◌+◌, ◌*◌, Bool, true, false, ◌&&◌, ◌||◌, not, List, [], ◌∷◌, ◌++◌, leb, ltb, eqb, length, get_or}
use Rattle.meaning.specs.If.{when◌then◌else◌}
use Rattle.meaning.specs.Terms.{Term, var, app, Terms, []ₜ, ◌∷ₜ◌}
use Rattle.meaning.specs.Kinds.{body_length, a_function, a_predicate, a_clause, a_variable, an_application, a_goal, a_cut, a_query, the_end}
use Rattle.meaning.specs.Kinds.{function_limit, predicate_limit, arity_limit, goal_limit, level_limit, RuleLimits, todays_limits}
use Rattle.meaning.specs.Rules.{Goal, call, cut, Clause, Rules}

-- a refusal by number and place, or what was read, with the variables of the clause or query that have appeared, and the next place
pub data Read (A : Type 0) : Type 0 where
  refused : ℕ → ℕ → Read A
  read : A → ℕ → ℕ → Read A

-- `seen` variables have appeared when the place `at` is reached
abbrev pub Reader : Type 0 → Type 0
Reader A = (seen at : ℕ) → Read A

-- one reader after another
unfoldable pub after : {A B : Type 0} → Read A → (A → Reader B) → Read B
after (refused n p) f = refused n p
after (read a seen at) f = f a seen at

unfoldable pub ◌>>=◌ : {A B : Type 0} → Reader A → (A → Reader B) → Reader B
◌>>=◌ m f seen at = after (m seen at) f

unfoldable pub ◌>>◌ : {A B : Type 0} → Reader A → Reader B → Reader B
◌>>◌ m f seen at = after (m seen at) (λ a. f)

unfoldable pub give : {A : Type 0} → A → Reader A
give a seen at = read a seen at

unfoldable pub refuse : {A : Type 0} → ℕ → ℕ → Reader A
refuse number place seen at = refused number place

-- a refusal, unless the test passes
unfoldable pub need : Bool → ℕ → ℕ → Reader (Unit {0})
need true number place seen at = read tt seen at
need false number place seen at = refused number place

-- so many terms, goals
unfoldable pub terms : Reader Term → ℕ → Reader Terms
terms one zero = give []ₜ
terms one (suc n) = do
  t ← one
  ts ← terms one n
  give (t ∷ₜ ts)

unfoldable pub goals : Reader Goal → ℕ → Reader (List Goal)
goals one zero = give []
goals one (suc n) = do
  g ← one
  gs ← goals one n
  give (g ∷ gs)

-- no variable of the clause or query has appeared
unfoldable pub none_seen : Reader (Unit {0})
none_seen seen at = read tt 0 at

-- 7: "a declared one that never appears (place: its clause or query record)"
unfoldable pub all_seen : ℕ → ℕ → Reader (Unit {0})
all_seen declared place seen at = need (eqb seen declared) 7 place seen at

-- which kinds are due: where a term is, where a goal is, after the query
unfoldable pub term_due : ℕ → Bool
term_due kind = eqb kind a_variable || eqb kind an_application

unfoldable pub goal_due : ℕ → Bool
goal_due kind = eqb kind a_goal || eqb kind a_cut

unfoldable pub end_due : ℕ → Bool
end_due kind = eqb kind the_end

-- "Order: functions, predicates, clauses, exactly one query": none may go back to a kind before the latest
unfoldable pub item_due : ℕ → ℕ → Bool
item_due latest kind = (leb latest kind && leb kind a_clause) || eqb kind a_query

module _ (file : List ℕ) where
  unfoldable pub byte : ℕ → ℕ
  byte place = get_or file place 0

  -- "Two-byte numbers have the high byte first"
  unfoldable pub two_bytes : ℕ → ℕ
  two_bytes place = 256 * byte place + byte (place + 1)

  -- The record that stands here, if its kind is due: kind missing (4), kind (5), body short (4). It gives the record's place
  unfoldable pub next : (ℕ → Bool) → Reader ℕ
  next due seen at =
      let end : ℕ = at + 1 + body_length (byte at) in
      when leb (length file) at then refused 4 at else
      when not (due (byte at)) then refused 5 at else
      when ltb (length file) end then refused 4 at else
      read at seen end

  -- The variable whose record stands at the place p: declared, and no further than the next to appear (7)
  unfoldable pub variable : ℕ → ℕ → Reader Term
  variable declared p seen at =
      let x : ℕ = byte (p + 1) in
      when leb declared x then refused 7 p else
      when ltb seen x then refused 7 p else
      when eqb x seen then read (var x) (seen + 1) at else
      read (var x) seen at

  -- The applied function whose record stands at p: its number (6), then its arguments
  unfoldable pub applied : List ℕ → Reader Term → ℕ → Reader Term
  applied functions argument p = do
    let f : ℕ = two_bytes (p + 1)
    need (ltb f (length functions)) 6 p
    ts ← terms argument (get_or functions f 0)
    give (app f ts)

  -- A term, where so many levels are left. "A term at level 33" (8) is found before its numbers are looked at
  unfoldable pub term : List ℕ → ℕ → ℕ → Reader Term
  term functions declared zero = do
    p ← next term_due
    refuse 8 p
  term functions declared (suc levels) = do
    p ← next term_due
    when eqb (byte p) a_variable then variable declared p else applied functions (term functions declared levels) p

  -- The arguments of a head or goal: "an argument itself being level 1"
  unfoldable pub arguments : List ℕ → ℕ → ℕ → Reader Terms
  arguments functions declared n = terms (term functions declared level_limit) n

  -- The predicate goal whose record stands at p: its number (6), then its arguments
  unfoldable pub called : List ℕ → List ℕ → ℕ → ℕ → Reader Goal
  called functions predicates declared p = do
    let q : ℕ = two_bytes (p + 1)
    need (ltb q (length predicates)) 6 p
    ts ← arguments functions declared (get_or predicates q 0)
    give (call (record { predicate = q; arguments = ts }))

  unfoldable pub goal : List ℕ → List ℕ → ℕ → Reader Goal
  goal functions predicates declared = do
    p ← next goal_due
    when eqb (byte p) a_cut then give cut else called functions predicates declared p

  -- 9: "bytes after the end record", the first of them
  unfoldable pub no_more : Reader (Unit {0})
  no_more seen at = need (eqb at (length file)) 9 at seen at

  -- From here on the reader goes by the limits of a rule set
  module _ (most : RuleLimits) where
    -- The clause whose record stands at p: its numbers (6), head arguments, goals
    unfoldable pub clause : List ℕ → List ℕ → ℕ → Reader Clause
    clause functions predicates p = do
      let q : ℕ = two_bytes (p + 1)
      let declared : ℕ = byte (p + 3)
      let n : ℕ = byte (p + 4)
      need (ltb q (length predicates) && leb declared most.variables && leb n goal_limit) 6 p
      none_seen
      ts ← arguments functions declared (get_or predicates q 0)
      gs ← goals (goal functions predicates declared) n
      all_seen declared p
      give (record { variables = declared; head = record { predicate = q; arguments = ts }; body = gs })

    -- The query whose record stands at p, with the rules before it: its numbers (6), its goals
    unfoldable pub query : List ℕ → List ℕ → List Clause → ℕ → Reader Rules
    query functions predicates clauses p = do
      let declared : ℕ = byte (p + 1)
      let n : ℕ = byte (p + 2)
      need (leb declared most.variables && leb n goal_limit) 6 p
      none_seen
      gs ← goals (goal functions predicates declared) n
      all_seen declared p
      give (record { functions = functions; predicates = predicates; clauses = clauses; variables = declared; query = gs })

    -- The records of the top level, after those read, of which the latest was of this kind. One record too many of a kind is a 6.
    -- Every record takes a byte, so the file's length counts them
    unfoldable pub items : ℕ → ℕ → List ℕ → List ℕ → List Clause → Reader Rules
    items zero latest functions predicates clauses = λ seen at. refused 4 at
    items (suc more) latest functions predicates clauses = do
      p ← next (item_due latest)
      let arity : ℕ = byte (p + 1)
      when eqb (byte p) a_function then (do
        need (ltb (length functions) function_limit && leb arity arity_limit) 6 p
        items more a_function (functions ++ arity ∷ []) predicates clauses) else
          when eqb (byte p) a_predicate then (do
            need (ltb (length predicates) predicate_limit && leb arity arity_limit) 6 p
            items more a_predicate functions (predicates ++ arity ∷ []) clauses) else
          when eqb (byte p) a_clause then (do
            need (ltb (length clauses) most.clauses) 6 p
            c ← clause functions predicates p
            items more a_clause functions predicates (clauses ++ c ∷ [])) else do
              R ← query functions predicates clauses p
              next end_due
              no_more
              give R

    -- the whole file
    unfoldable pub parse_within : Read Rules
    parse_within = items (length file) a_function [] [] [] 0 0

  -- the whole file, by today's limits
  abbrev pub parse : Read Rules
  parse = parse_within todays_limits
