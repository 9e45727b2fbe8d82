-- What the words of scratch stand for.
-- Assumes nothing.
use Rattle.std.specs.Prelude.{ℕ, zero, suc, ◌+◌, ◌*◌, ◌≤◌, ◌<◌, ◌≡◌, true, List, [], ◌∷◌, ◌++◌, map, length}
use Rattle.std.proofs.Math.Option.{some}
use Rattle.std.proofs.Math.ListN.{get_elem?}
use Rattle.meaning.specs.Terms.{Term}
use Rattle.meaning.specs.Kinds.{file_limit}
use Rattle.meaning.specs.Editions.{todays}
use Rattle.meaning.specs.Rules.{Call, Goal, Rules}
use Rattle.meaning.specs.Reading.{read, parse, byte, two_bytes, goal_due}
use Rattle.meaning.specs.Store.{Store, empty, bind}
use Rattle.meaning.specs.Moves.{Limits, Open, Derivation, Numbered, Choice, choice, Pair, body_goal, query_goal, over}
use Rattle.meaning.specs.Call.{in_range, needed}
use Rattle.demands.specs.Proofs.{Each}
use Rattle.layout.specs.Regions.{word}
use Rattle.layout.specs.Tables.{Tabled, Chain}
use Rattle.cells.specs.Cells.{cell_at, held_at}
use Rattle.cells.specs.declared.Held.{Held}
use Rattle.cells.specs.declared.Cell.TheVariants.{Bound}
use Rattle.cells.specs.declared.Layout.{Layout}
use Rattle.search.specs.Search.{step_word, clause_next_word}
use Rattle.simulation.specs.Places.{BodyAt, QueryAt, TermsAt, IsHeld}

-- what a run stands on: a good file and the rules it says, the run limits
pub record Setting : Type 0 where
  pub file : List ℕ
  pub rules : Rules
  pub limits : Limits
  pub seen : ℕ
  pub end : ℕ
  pub good : parse file ≡ read rules seen end
  pub short : length file ≤ file_limit
  pub in_limits : in_range limits ≡ true

-- the layout of scratch: F bytes of file, q predicates, C cells, S steps
unfoldable pub layout_of : ℕ → ℕ → ℕ → ℕ → Layout
layout_of F q C S = record {
  firsts = 64 + F;
  clauses = 64 + F + q;
  cells = 64 + 2 * F;
  trail = 64 + 2 * F + C;
  marks = 64 + 2 * F + 2 * C;
  list = 64 + 2 * F + 3 * C;
  steps = 64 + 2 * F + 4 * C;
  work = 64 + 2 * F + 4 * C + 8 * S;
}

module _ (X : Setting) where
  abbrev pub lay : Layout
  lay = layout_of (length X.file) (length X.rules.predicates) X.limits.cells X.limits.steps

  -- there are as many words as needed, and they hold the tables
  pub record Base (w : List ℕ) : Type 0 where
    pub long : needed (length X.file) X.limits ≤ length w
    pub tabled : Tabled (length X.file) X.rules w

  -- a goal stands at p, or p is of the query
  abbrev pub Settled : ℕ → ℕ → Type 0
  Settled p zero = Unit {0}
  Settled p (suc i) = goal_due (byte X.file p) ≡ true

  module _ (w : List ℕ) where
    -- the first k words of the trail are the cells bound, the oldest first, and each holds what it was bound to
    abbrev pub StoreIs : ℕ → Store → Type 0
    StoreIs k empty = k ≡ 0
    StoreIs k (bind x t s) = (j : ℕ) × (k ≡ suc j) × (word w (lay.trail + j) ≡ x) × ((h : Held) × (cell_at w lay x ≡ Bound h) × IsHeld X.rules h t) × StoreIs j s

    -- a cell that is taken and not bound is free
    abbrev pub FreeIs : ℕ → (ℕ → Type 0) → Type 0
    FreeIs n F = (x : ℕ) → x < n → F x → word w (lay.cells + x) ≡ 0

    -- the marks of the cells taken are older than the unit u
    abbrev pub MarksAre : ℕ → ℕ → Type 0
    MarksAre n u = (x : ℕ) → x < n → word w (lay.marks + x) < u

    -- the first k pairs of the work region, the last one foremost
    abbrev pub PairsAre : ℕ → List Pair → Type 0
    PairsAre k [] = k ≡ 0
    PairsAre k (p ∷ ps) = (j : ℕ) × (k ≡ suc j) × IsHeld X.rules (held_at w (lay.work + 4 * j)) p.goal_side × IsHeld X.rules (held_at w (lay.work + 4 * j + 2)) p.head_side × PairsAre j ps

    -- the clause numbers of the first i steps
    abbrev pub StepsAre : ℕ → List ℕ → Type 0
    StepsAre i ks = (length ks ≡ i) × ((j : ℕ) → j < i → get_elem? ks j ≡ some (step_word w lay (suc j) 0))

    -- how many choices there are from the choice c on
    pub data HeightIs : ℕ → ℕ → Type 0 where
      no_height : HeightIs 0 0
      height : (i : ℕ) {h : ℕ} → step_word w lay (suc i) 7 ≤ i → HeightIs (step_word w lay (suc i) 7) h → HeightIs (suc i) (suc h)

    -- the choice c is met when going back from the choice b
    pub data OnChain : ℕ → ℕ → Type 0 where
      here : {c : ℕ} → OnChain c c
      up : (i : ℕ) {c : ℕ} → step_word w lay (suc i) 7 ≤ i → OnChain (step_word w lay (suc i) 7) c → OnChain (suc i) c

    -- the choices that a cut of the step f keeps are among those from b on
    abbrev pub Links : ℕ → ℕ → Type 0
    Links b zero = Unit {0}
    Links b (suc i) = OnChain b (step_word w lay (suc i) 7)

    -- the open goals from the place p on, in the clause of the step f
    pub data GoalsAre : ℕ → ℕ → List Open → Type 0 where
      in_query : {p : ℕ} {gs : List Goal} → QueryAt X.rules p gs → GoalsAre p 0 (map (query_goal todays.query_keeps) gs)
      in_body : {p : ℕ} (i : ℕ) {b h : ℕ} {gs : List Goal} {os : List Open} → BodyAt X.rules (step_word w lay (suc i) 0) p gs → step_word w lay (suc i) 5 ≡ b → HeightIs (step_word w lay (suc i) 7) h
          → step_word w lay (suc i) 7 ≤ i → step_word w lay (suc i) 4 ≤ i → Links (step_word w lay (suc i) 7) (step_word w lay (suc i) 4) → Settled (step_word w lay (suc i) 3) (step_word w lay (suc i) 4)
          → GoalsAre (step_word w lay (suc i) 3) (step_word w lay (suc i) 4) os → GoalsAre p (suc i) (map (body_goal b h) gs ++ os)

-- how many bindings
unfoldable pub bindings : Store → ℕ
bindings empty = 0
bindings (bind x t s) = suc (bindings s)

-- s is what the store u was once
pub data Older (s : Store) : Store → Type 0 where
  now : Older s s
  since : {x : ℕ} {t : Term} {u : Store} → Older s u → Older s (bind x t u)

module _ (X : Setting) (w : List ℕ) where
  -- a predicate goal of the rules stands at p, and over the cells from b on it is g
  pub record GoalIs (p b : ℕ) (g : Call) : Type 0 where
    pub raw : Call
    pub stands : TermsAt X.rules (p + 3) raw.arguments
    pub number : byte X.file p ≡ 6
    pub predicate : two_bytes X.file (p + 1) ≡ raw.predicate
    pub is : g ≡ over b raw

  -- the choices from the choice c on, in a run whose store is s and which has taken u cells
  pub data ChoicesAre : Store → ℕ → ℕ → List Choice → Type 0 where
    no_choices : {s : Store} {u : ℕ} → ChoicesAre s u 0 []
    choices : {s : Store} {u : ℕ} (i : ℕ) {ks : List Numbered} {g : Call} {n : Derivation} {cs : List Choice}
        → Chain w (length X.file) (length X.rules.predicates) X.rules (clause_next_word w (lay X) (step_word w (lay X) (suc i) 0)) ks
        → step_word w (lay X) (suc i) 0 < length X.rules.clauses
        → Each (λ k. k.number < length X.rules.clauses) ks
        → GoalIs (step_word w (lay X) (suc i) 1) (step_word w (lay X) (suc i) 2) g
        → GoalsAre X w (step_word w (lay X) (suc i) 3) (step_word w (lay X) (suc i) 4) n.goals
        → step_word w (lay X) (suc i) 4 ≤ i
        → Links X w (step_word w (lay X) (suc i) 7) (step_word w (lay X) (suc i) 4)
        → Settled X (step_word w (lay X) (suc i) 3) (step_word w (lay X) (suc i) 4)
        → step_word w (lay X) (suc i) 5 ≡ n.cells
        → step_word w (lay X) (suc i) 6 ≡ bindings n.store
        → step_word w (lay X) (suc i) 7 ≤ i
        → StepsAre X w i n.steps
        → Older n.store s
        → n.cells ≤ u
        → ChoicesAre n.store n.cells (step_word w (lay X) (suc i) 7) cs
        → ChoicesAre s u (suc i) (choice ks g n ∷ cs)
