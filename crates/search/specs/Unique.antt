-- What going back, going on, a cut and the start come to is one: one result, one content of scratch.
-- Assumes nothing.
use Rattle.std.specs.Prelude.{ℕ, ◌≡◌, refl, List, Some, None}
use Rattle.std.proofs.Common.{sym, ap, ◌∙◌, arith}
use Rattle.cells.specs.declared.Layout.{Layout}
use Rattle.cells.specs.Unique.{Once}
use Rattle.search.specs.declared.Regs.{Regs}
use Rattle.search.specs.declared.Next.{Next}
use Rattle.search.specs.declared.Due.{Due}
use Rattle.search.specs.declared.Due.TheVariants.{Try}
use Rattle.search.specs.declared.Given.{Given}
use Rattle.search.specs.Search.{rest_word, Backs, no_choice, retries, pops, trial_of, Calls, no_clause, first_clause, GoesOn, a_cut, no_goal, a_goal, MovesCut, cuts, Starts, none_wanted, few_cells, starts}

pub backs_once : {lay : Layout} {m : Regs} {trail c : ℕ} {w u v : List ℕ} {r s : Due} → Backs lay m trail c w r u → Backs lay m trail c w s v → Once r s u v
backs_once (no_choice a) (no_choice b) = (refl, refl)
backs_once (no_choice a) (retries b e f) = absurd (omega arith)
backs_once (no_choice a) (pops b e f g) = absurd (omega arith)
backs_once (retries a b d) (no_choice e) = absurd (omega arith)
backs_once {lay} {m} {c = c} {w} (retries {k = k} a b d) (retries {k = l} e f g) =
    let z = b ∙ sym f in
    let y = rw z at d in
    let x : k ≡ l = cc in
    (rw (z, x) refl, z)
backs_once {lay} {c = c} (retries {k = k} a b d) (pops e f g h) = let z = ap (λ (x : List ℕ). (rest_word x lay c).clause) (b ∙ sym f) in let e : Some k ≡ None = cc in cc
backs_once (pops a b d e) (no_choice f) = absurd (omega arith)
backs_once {lay} {c = c} (pops a b d e) (retries {k = k} f g h) = let z = ap (λ (x : List ℕ). (rest_word x lay c).clause) (b ∙ sym g) in let e : Some k ≡ None = cc in cc
backs_once (pops a b d e) (pops f g h i) = let z = b ∙ sym g in backs_once e (rw (← z) at i)

calls_once : {file : List ℕ} {lay : Layout} {m : Regs} {n : Next} {w u v : List ℕ} {r s : Due} → Calls file lay m n w r u → Calls file lay m n w s v → Once r s u v
calls_once (no_clause a b) (no_clause c d) = backs_once b d
calls_once (no_clause a b) (first_clause c) = absurd (omega arith)
calls_once (first_clause a) (no_clause c d) = absurd (omega arith)
calls_once {file} {lay} {m} {n} {w} (first_clause {k = k} a) (first_clause {k = j} b) = let e : k ≡ j = omega arith in (ap (λ (i : ℕ). Try m (trial_of file w lay n i)) e, refl)

pub goes_on_once : {file : List ℕ} {lay : Layout} {m : Regs} {w u v : List ℕ} {r s : Due} → GoesOn file lay m w r u → GoesOn file lay m w s v → Once r s u v
goes_on_once (a_cut a) (a_cut b) = (refl, refl)
goes_on_once (a_cut a) (no_goal b c) = absurd (b a)
goes_on_once (a_cut a) (a_goal b c) = absurd (omega arith)
goes_on_once (no_goal a b) (a_cut c) = absurd (a c)
goes_on_once (no_goal a b) (no_goal c d) = (refl, refl)
goes_on_once (no_goal a b) (a_goal c d) = absurd (b c)
goes_on_once (a_goal a b) (a_cut c) = absurd (omega arith)
goes_on_once (a_goal a b) (no_goal c d) = absurd (d a)
goes_on_once (a_goal a b) (a_goal c d) = calls_once b d

pub cuts_once : {file : List ℕ} {lay : Layout} {m : Regs} {w u v : List ℕ} {r s : Due} → MovesCut file lay m w r u → MovesCut file lay m w s v → Once r s u v
cuts_once (cuts a) (cuts b) = goes_on_once a b

pub starts_once : {file : List ℕ} {g : Given} {wanted : ℕ} {w u v : List ℕ} {r s : Due} → Starts file g wanted w r u → Starts file g wanted w s v → Once r s u v
starts_once (none_wanted a) (none_wanted b) = (refl, refl)
starts_once (none_wanted a) (few_cells b c) = absurd (b a)
starts_once (none_wanted a) (starts b c d) = absurd (b a)
starts_once (few_cells a b) (none_wanted c) = absurd (a c)
starts_once (few_cells a b) (few_cells c d) = (refl, refl)
starts_once (few_cells a b) (starts c d e) = absurd (omega arith)
starts_once (starts a b c) (none_wanted d) = absurd (a d)
starts_once (starts a b c) (few_cells d e) = absurd (omega arith)
starts_once (starts a b c) (starts d e f) = goes_on_once c f
