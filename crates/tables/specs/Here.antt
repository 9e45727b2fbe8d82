-- What the code that lays out the tables asks and promises. Rules that stand in a file are walked from place to place: here it is said
-- what must stand at a place, so that every byte on the way is in the file.
-- Assumes nothing.
use Rattle.std.specs.Prelude.{ℕ, ◌+◌, ◌-◌, ◌*◌, ◌≤◌, ◌<◌, ◌≡◌, List, [], ◌∷◌, length}
use Rattle.meaning.specs.Terms.{Term, var, app, Terms, []ₜ, ◌∷ₜ◌, count}
use Rattle.meaning.specs.Kinds.{a_variable, an_application, a_goal, a_cut, file_limit, level_limit}
use Rattle.meaning.specs.Rules.{Goal, call, cut, Clause, Rules}
use Rattle.meaning.specs.Reading.{read, byte, two_bytes, parse}
use Rattle.meaning.specs.declared.Place.{Place}
use Rattle.layout.specs.Lengths.{term_length, terms_length, goal_length, goals_length, head_length, clause_length, clauses_length, query_place}
use Rattle.layout.specs.Regions.{word}
use Rattle.tables.specs.Laid.{lay_term, lay_terms, lay_arguments, lay_goal, lay_goals, lay_clause, lay_clauses, laid}

-- the file is no longer than a good one, and its tables fit the words
pub record Room (file w : List ℕ) : Type 0 where
  pub small : length file ≤ file_limit
  pub room : 64 + 2 * length file ≤ length w

module _ (file : List ℕ) where
  -- the record at p has a number whose arity, n, stands in the file, where arities stand from `base` on
  pub record Arity (base p n : ℕ) : Type 0 where
    pub within : p + 3 ≤ length file
    pub known : base + 2 * two_bytes file (p + 1) + 1 < length file
    pub many : byte file (base + 2 * two_bytes file (p + 1) + 1) ≡ n

  -- the term is here, at p, within some levels
  abbrev mutual
    pub HereTerm : ℕ → ℕ → Term → Type 0
    HereTerm levels p (var x) = (byte file p ≡ a_variable) × (p + 2 ≤ length file)
    HereTerm levels p (app f ts) = (byte file p ≡ an_application) × (0 < levels) × Arity 0 p (count ts) × HereTerms (levels - 1) (p + 3) ts

    pub HereTerms : ℕ → ℕ → Terms → Type 0
    HereTerms levels p []ₜ = p ≤ length file
    HereTerms levels p (t ∷ₜ ts) = HereTerm levels p t × HereTerms levels (p + term_length t) ts

  pub record HereArguments (base levels p s : ℕ) (ts : Terms) : Type 0 where
    pub arity : Arity base p (count ts)
    pub terms : HereTerms levels s ts

  abbrev pub HereGoal : ℕ → ℕ → Goal → Type 0
  HereGoal base p (call g) = (byte file p ≡ a_goal) × HereArguments base level_limit p (p + 3) g.arguments
  HereGoal base p cut = (byte file p ≡ a_cut) × (p + 1 ≤ length file)

  abbrev pub HereGoals : ℕ → ℕ → List Goal → Type 0
  HereGoals base p [] = p ≤ length file
  HereGoals base p (g ∷ gs) = HereGoal base p g × HereGoals base (p + goal_length g) gs

  pub record HereClause (base p : ℕ) (c : Clause) : Type 0 where
    pub within : p + 5 ≤ length file
    pub number : two_bytes file (p + 1) ≡ c.head.predicate
    pub head : HereArguments base level_limit p (p + 5) c.head.arguments
    pub many : byte file (p + 4) ≡ length c.body
    pub body : HereGoals base (p + head_length c) c.body

  abbrev pub HereClauses : ℕ → ℕ → List Clause → Type 0
  HereClauses base p [] = p ≤ length file
  HereClauses base p (c ∷ cs) = HereClause base p c × HereClauses base (p + clause_length c) cs

-- ---- what each function asks, and promises of its result r and the words v, of whatever is there
module _ (file w : List ℕ) where
  pub record CanTerm (p levels : ℕ) : Type 0 where
    pub room : Room file w
    pub start : p + 2 ≤ length file
    pub which : Term
    pub here : HereTerm file levels p which

  pub record HasTerm (p levels r : ℕ) (v : List ℕ) : Type 0 where
    pub within : r ≤ length file
    pub is : (t : Term) → HereTerm file levels p t → (v ≡ lay_term t p w) × (r ≡ p + term_length t)

  pub record CanTerms (p n levels : ℕ) : Type 0 where
    pub room : Room file w
    pub start : p ≤ length file
    pub which : Terms
    pub counted : count which ≡ n
    pub here : HereTerms file levels p which

  pub record HasTerms (p n levels r : ℕ) (v : List ℕ) : Type 0 where
    pub within : r ≤ length file
    pub is : (ts : Terms) → count ts ≡ n → HereTerms file levels p ts → (v ≡ lay_terms ts p w) × (r ≡ p + terms_length ts)

  pub record CanArguments (base p s levels : ℕ) : Type 0 where
    pub room : Room file w
    pub start : p + 3 ≤ length file
    pub known : base + 2 * two_bytes file (p + 1) + 1 < length file
    pub which : Terms
    pub here : HereArguments file base levels p s which

  pub record HasArguments (base p s levels r : ℕ) (v : List ℕ) : Type 0 where
    pub within : r ≤ length file
    pub is : (ts : Terms) → HereArguments file base levels p s ts → (v ≡ lay_arguments ts p s w) × (r ≡ s + terms_length ts)

  pub record CanGoal (base p : ℕ) : Type 0 where
    pub room : Room file w
    pub start : p < length file
    pub which : Goal
    pub here : HereGoal file base p which

  pub record HasGoal (base p r : ℕ) (v : List ℕ) : Type 0 where
    pub within : r ≤ length file
    pub is : (g : Goal) → HereGoal file base p g → (v ≡ lay_goal g p w) × (r ≡ p + goal_length g)

  pub record CanGoals (base p n : ℕ) : Type 0 where
    pub room : Room file w
    pub start : p ≤ length file
    pub which : List Goal
    pub counted : length which ≡ n
    pub here : HereGoals file base p which

  pub record HasGoals (base p n r : ℕ) (v : List ℕ) : Type 0 where
    pub within : r ≤ length file
    pub is : (gs : List Goal) → length gs ≡ n → HereGoals file base p gs → (v ≡ lay_goals gs p w) × (r ≡ p + goals_length gs)

  pub record CanClause (base p : ℕ) : Type 0 where
    pub room : Room file w
    pub start : p + 5 ≤ length file
    pub which : Clause
    pub here : HereClause file base p which

  pub record HasClause (base p r : ℕ) (v : List ℕ) : Type 0 where
    pub within : r ≤ length file
    pub is : (c : Clause) → HereClause file base p c → (v ≡ lay_clause c p w) × (r ≡ p + clause_length c)

  pub record CanClauses (base p table n : ℕ) : Type 0 where
    pub room : Room file w
    pub start : p ≤ length file
    pub which : List Clause
    pub counted : length which ≡ n
    pub here : HereClauses file base p which
    pub words : table + 2 * n ≤ length w

  pub record HasClauses (base p table n r : ℕ) (v : List ℕ) : Type 0 where
    pub within : r ≤ length file
    pub is : (cs : List Clause) → length cs ≡ n → HereClauses file base p cs → (v ≡ lay_clauses table 0 cs p w) × (r ≡ p + clauses_length cs)

  -- the file is good, and says so many functions, predicates and clauses
  pub record CanLay (functions predicates clauses : ℕ) : Type 0 where
    pub room : Room file w
    pub rules : Rules
    pub seen : ℕ
    pub end : ℕ
    pub good : parse file ≡ read rules seen end
    pub functions_are : length rules.functions ≡ functions
    pub predicates_are : length rules.predicates ≡ predicates
    pub clauses_are : length rules.clauses ≡ clauses

  -- whatever rules the file says, the words are their tables, laid out over w, and r is the place of their query
  pub record HasLaid (r : Place) (v : List ℕ) : Type 0 where
    pub words : (R : Rules) (seen end : ℕ) → parse file ≡ read R seen end → v ≡ laid (length file) R w
    pub place : (R : Rules) (seen end : ℕ) → parse file ≡ read R seen end → r.0 ≡ query_place R

-- the clauses below n can be linked: the words of the predicates stand before those of the clauses, and each clause's predicate has one
pub record CanLink (first table n : ℕ) (w : List ℕ) : Type 0 where
  pub small : table + 2 * n < 1_000_000_000
  pub start : first ≤ table
  pub fits : table + 2 * n ≤ length w
  pub behind : (k : ℕ) → k < n → first + word w (table + 2 * k + 1) < table
