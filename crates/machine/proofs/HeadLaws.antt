-- What each return and each turn of the loop over heads says.
-- Assumes nothing.
use Prim.Native.Nat.{ℕ, ◌^◌, ◌≤◌, ◌<◌}
use mathlib.Core.Path.{◌≡◌, refl, sym, ◌∙◌}
use mathlib.Core.List.{List}
use lib.ListN.{length}
use Rattle.meaning.specs.declared.End.TheVariants.{Budget, Work}
use Rattle.matching.specs.Matching.{MatchesPairs, late, clashed, matched_all, next_pair as next_one}
use Rattle.matching.specs.declared.Came.{Came}
use Rattle.matching.specs.declared.Came.TheVariants.{Matched, Clashed, Late}
use Rattle.matching.specs.declared.Clash.TheVariants.{Differ, Over as Overfull}
use Rattle.matching.specs.declared.Matched.{Matched as MatchedPairs}
use Rattle.search.specs.Search.{Backs, GoesOn, matched, more, room_of, Enters, no_room, tries, same, differ, over_work}
use Rattle.search.specs.declared.Given.{Given}
use Rattle.search.specs.declared.Regs.{Regs}
use Rattle.std.specs.Prelude.{Result, Ok, Err}
use Rattle.meaning.specs.declared.End.{End}
use Rattle.search.specs.declared.Fits.{Fits}
use Rattle.search.specs.declared.Trial.{Trial}
use Rattle.search.specs.declared.Due.{Due}
use Rattle.search.specs.declared.Due.TheVariants.{Try, Over}
use Rattle.machine.specs.Running.{spent, matched_regs, Leads, leads_on, leads_back, leads_over, leads_late, MovesPairs, too_late, last_pair, next_pair, MatchesHead, none_to_match, some_to_match, TriesPairs, no_pairs, then_pairs, TriesHeads, head_late, last_head, next_head}
use Rattle.machine.proofs.Laws.{backs_apart, goes_apart, units_left, next_fewer}

-- ---- the pairs of a head
-- where a run is between two pairs of a head
abbrev between : Regs → ℕ → ℕ → ℕ → ℕ → Regs
between m trail work fresh units = record { cells = m.cells; trail = trail; steps = m.steps; choice = m.choice; work = work; fresh = fresh; next = m.next; units = units }

module _ (file : List ℕ) (g : Given) (budget : ℕ) (m : Regs) where
  -- what comes of a head, by how its pairs came out
  abbrev Leading : Came → Regs → List ℕ → Due → List ℕ → Type 0
  Leading Matched n v d u = GoesOn file g.lay n v d u
  Leading (Clashed Differ) n v d u = Backs g.lay n n.trail n.choice v d u
  Leading (Clashed Overfull) n v d u = (d ≡ Over Work n) × (u ≡ v)
  Leading Late n v d u = (d ≡ Over Budget n) × (u ≡ v)

  leading : {r : MatchedPairs} {v u : List ℕ} {d : Due} → Leads file g.lay m r v d u → Leading r.came (matched_regs m r) v d u
  leading (leads_on e b) = rw e b
  leading (leads_back e b) = rw e b
  leading (leads_over e) = rw e (refl, refl)
  leading (leads_late e) = rw e (refl, refl)

  leads : {trail work fresh units : ℕ} {w v u : List ℕ} {r : MatchedPairs} {d : Due} → MatchesPairs file g.lay g.limits.work budget m.cells trail work fresh units w r v → Leading r.came (matched_regs m r) v d u
      → MovesPairs file g budget (between m trail work fresh units) w d u
  unfolding spent
  leads (late h) (e, f) = rw (e, f) (too_late h)
  leads (clashed {c = Differ} h a) b = last_pair h (backs_apart b) (differ a b)
  leads (clashed {c = Overfull} h a) (e, f) = rw (e, f) (last_pair h tt (over_work a))
  leads (matched_all h a z) b = last_pair h (goes_apart b) (same a (matched z b))
  leads (next_one h a z c) b = next_pair h (same a (more z)) (leads c b)

  module _ (w v u : List ℕ) (r : MatchedPairs) (d : Due) (a : MatchesPairs file g.lay g.limits.work budget m.cells m.trail m.work m.fresh m.units w r v) (b : Leads file g.lay m r v d u) where
    pub head_leads : (m.work ≡ 0 → ⊥) → MatchesHead file g budget m w d u
    head_leads z = some_to_match z (leads a (leading b))

  pub head_whole : (w v : List ℕ) (d : Due) → m.work ≡ 0 → GoesOn file g.lay m w d v → MatchesHead file g budget m w d v
  head_whole w v d z b = none_to_match z b

-- ---- trying a head
module _ (file : List ℕ) (g : Given) (budget : ℕ) (t : Trial) (m : Regs) (w : List ℕ) (x : Result Fits End) (e : x ≡ room_of file w g t.clause m) where
  pub try_over : (z : End) → x ≡ Err z → TriesPairs file g budget t m w (Over z m) w
  try_over z f = no_pairs tt (no_room (sym e ∙ f))

  pub try_fits : (fit : Fits) (n : Regs) (d : Due) (v u : List ℕ) → x ≡ Ok fit → Enters file g t m fit.place fit.variables w n v → MatchesHead file g budget n v d u → TriesPairs file g budget t m w d u
  try_fits fit n d v u f a (none_to_match z b) = no_pairs (goes_apart b) (tries (sym e ∙ f) a (matched z b))
  try_fits fit n d v u f a (some_to_match z b) = then_pairs (tries (sym e ∙ f) a (more z)) b

-- ---- heads: what is left to try comes to the same
pub record Trying (file : List ℕ) (g : Given) (budget : ℕ) (m₀ : Regs) (x₀ : Trial) (w₀ : List ℕ) (m : Regs) (x : Trial) (w : List ℕ) : Type 0 where
  pub rest : (d : Due) (u : List ℕ) → TriesHeads file g budget m x w d u → TriesHeads file g budget m₀ x₀ w₀ d u
  pub as_long : length w ≡ length w₀
  pub most : budget < 2 ^ 32

pub heads_start : (file : List ℕ) (g : Given) (budget : ℕ) (m : Regs) (x : Trial) (w : List ℕ) → budget < 2 ^ 32 → Trying file g budget m x w m x w
heads_start file g budget m x w b = record { rest = λ d u a. a; as_long = refl; most = b }

module _ (file : List ℕ) (g : Given) (budget : ℕ) (m₀ : Regs) (x₀ : Trial) (w₀ : List ℕ) (m : Regs) (x : Trial) (w : List ℕ) (i : Trying file g budget m₀ x₀ w₀ m x w) where
  pub heads_late : budget ≤ m.units → TriesHeads file g budget m₀ x₀ w₀ (Over Budget m) w
  heads_late h = i.rest _ _ (head_late h)

  module _ (h : m.units < budget) (s : Regs) (e : s ≡ spent m) (d : Due) (v : List ℕ) (a : TriesPairs file g budget x s w d v) where
    pub heads_end : (n : Due) → d ≡ n → TriesHeads file g budget m₀ x₀ w₀ n v
    heads_end n q = i.rest _ _ (last_head h (rw (e, q) at a))

    module _ (n : Regs) (y : Trial) (q : d ≡ Try n y) where
      pub heads_again : length v ≡ length w → Trying file g budget m₀ x₀ w₀ n y v
      heads_again l = record { rest = λ r u b. i.rest r u (next_head h (rw (e, q) at a) b); as_long = l ∙ i.as_long; most = i.most }

      pub heads_less : units_left budget n < units_left budget m
      heads_less = next_fewer m budget i.most h (rw (e, q) at a)
