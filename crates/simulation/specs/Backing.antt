-- Going back comes to what the definition's failure comes to.
-- Assumes nothing.
use Prim.Native.Nat.{ℕ, zero, suc, ◌+◌, ◌-◌, ◌*◌, ◌≤◌, ◌<◌}
use Rattle.std.specs.Prelude.{◌≡◌, ltb, length, Some, None}
use Rattle.std.proofs.Math.Path.{refl, subst}
use Rattle.std.proofs.Common.{ap₂, sym, ◌∙◌, inl, inr, lt-ltb}
use mathlib.Core.List.{List, [], ◌∷◌}
use native.Mathlib.Omega.{arith}
use Rattle.meaning.specs.Rules.{Call}
use Rattle.meaning.specs.Store.{Store}
use Rattle.meaning.specs.Outcome.{end_number}
use Rattle.meaning.specs.declared.End.TheVariants.{NoMore}
use Rattle.meaning.specs.Moves.{Derivation, Numbered, Choice, choice, Done, fail}
use Rattle.meaning.specs.Call.{needed}
use Rattle.laws.specs.IfLaws.{if_true}
use Rattle.demands.specs.StoreLaws.{Sound}
use Rattle.layout.specs.Regions.{word, Keeps, next_at}
use Rattle.layout.specs.Tables.{Chain}
use Rattle.cells.specs.Cells.{undone}
use Rattle.search.specs.Search.{step_word, step_next, clause_next_word, below_of, rest_word, retried, Backs, no_choice, retries, pops}
use Rattle.search.specs.declared.Regs.{Regs}
use Rattle.search.proofs.Laws.{numbered_none, numbered_some}
use Rattle.meaning.specs.declared.ClauseNumber.{ClauseNumber}
use Rattle.search.specs.declared.Due.{Due}
use Rattle.simulation.specs.Rep.{Setting, lay, layout_of, Base, StoreIs, ChoicesAre, no_choices, choices, bindings, Older}
use Rattle.simulation.specs.Frames.{SameSteps, SameTables, choices_same}
use Rattle.simulation.specs.TableFrames.{base_same}
use Rattle.simulation.specs.Undoes.{Within, Restored, undo_restores, store_bindings}
use Rattle.simulation.specs.States.{SoundAll, more, StoreRep, DueIs, is_try, is_over}

module _ (X : Setting) (fits : length X.rules.predicates + 2 * length X.rules.clauses ≤ length X.file) (wanted room : ℕ) where
  abbrev C : ℕ
  C = X.limits.cells

  -- words of cells do not matter to steps and tables
  cells_steps : (w v : List ℕ) (k : ℕ) → Keeps (lay X).cells ((lay X).cells + C) w v → SameSteps X k w v
  unfolding step_word layout_of
  cells_steps w v k e zero j l = refl
  cells_steps w v k e (suc s) j l = e.same _ (inr (omega arith))

  cells_tables : (w v : List ℕ) → Keeps (lay X).cells ((lay X).cells + C) w v → SameTables X w v
  unfolding layout_of
  cells_tables w v e i l h = e.same i (inl (omega arith))

  pub cells_long : (w : List ℕ) → Base X w → (lay X).cells + C ≤ length w
  unfolding layout_of needed
  cells_long w b = let l = b.long in omega arith

  pub marks_same : (w v : List ℕ) → Keeps (lay X).cells ((lay X).cells + C) w v → (x : ℕ) → word v ((lay X).marks + x) ≡ word w ((lay X).marks + x)
  unfolding layout_of
  marks_same w v k x = k.same _ (inr (omega arith))

  -- ---- the goal of the latest choice, once everything since is undone
  pub record Gone (w : List ℕ) (units i : ℕ) (s : Store) (u : ℕ) (ks : List Numbered) (g : Call) (n : Derivation) (cs : List Choice) (v : List ℕ) : Type 0 where
    pub same : SameSteps X (suc i) w v
    pub holds : StoreRep X v n.store n.cells (step_word w (lay X) (suc i) 6) units
    pub all : ChoicesAre X v s u (suc i) (choice ks g n ∷ cs)

  gone : (w v : List ℕ) (units trail i : ℕ) (s : Store) (u : ℕ) (ks : List Numbered) (g : Call) (n : Derivation) (cs : List Choice) → StoreRep X w s u trail units → Sound s → Within X s
      → ChoicesAre X w s u (suc i) (choice ks g n ∷ cs) → n.cells ≤ u → step_word w (lay X) (suc i) 6 ≡ bindings n.store → Older n.store s → v ≡ undone trail (step_word w (lay X) (suc i) 6) (lay X) w → Gone w units i s u ks g n cs v
  gone w v units trail i s u ks g n cs rep sound within all fewer mark older e =
      let b : trail ≡ bindings s = store_bindings X w trail s rep.store in
      let long : (lay X).cells + C ≤ length w = cells_long w rep.base in
      let r : Restored X w s n.store v = subst (Restored X w s n.store) (sym (e ∙ ap₂ (λ (t m : ℕ). undone t m (lay X) w) b mark)) (undo_restores X n.store s w older sound within long (subst (λ (k : ℕ). StoreIs X w k s) b rep.store)) in
      record {
        same = cells_steps w v (suc i) r.keeps;
        holds = record {
          base = base_same X w v (cells_tables w v r.keeps) r.keeps.same_length rep.base;
          store = subst (λ (k : ℕ). StoreIs X v k n.store) (sym mark) r.store;
          free = λ x l f. r.free x (omega (arith, rep.few)) f (λ k. rep.free x (omega arith) k);
          few = omega (arith, rep.few);
          marks = λ x l. subst (λ (y : ℕ). y < suc units) (sym (marks_same w v r.keeps x)) (rep.marks x (omega arith));
        };
        all = choices_same X w v (cells_tables w v r.keeps) fits (suc i) (cells_steps w v (suc i) r.keeps) (omega arith) all;
      }

  next_word : (v : List ℕ) (k : ℕ) → word v (next_at (length X.file) (length X.rules.predicates) k) ≡ clause_next_word v (lay X) k
  unfolding clause_next_word layout_of
  next_word v k = refl

  -- a choice before another is what the code takes it for
  prior_is : (p i : ℕ) → p ≤ i → below_of p (suc i) ≡ p
  unfolding below_of
  prior_is p i h = if_true (ltb p (suc i)) p 0 (lt-ltb p (suc i) (omega arith))

  -- its next clause is tried
  retry_is : (w v : List ℕ) (m : Regs) (i : ℕ) (s : Store) (u : ℕ) (ks : List Numbered) (g : Call) (n : Derivation) (cs : List Choice) (d : Done) → i < X.limits.steps → m.units ≡ d.units
      → Gone w m.units i s u ks g n cs v → ChoicesAre X v s u (suc i) (choice ks g n ∷ cs) → (j : ClauseNumber) → (rest_word v (lay X) (suc i)).clause ≡ Some j
      → DueIs X v wanted room d (retried v (lay X) m (step_word w (lay X) (suc i) 6) (suc i) i (rest_word v (lay X) (suc i)).prior j.0) (fail (choice ks g n ∷ cs) d)
  unfolding rest_word retried fail step_next
  retry_is w v m i s u [] g n cs d l units gone (choices _ chain known numbers goal goals less links settled cells trail prior steps older fewer rest) j h = let e = numbered_some _ j h in absurd (omega arith)
  retry_is w v m i s u (k ∷ ks) g n cs d l units gone (choices _ chain known numbers goal goals less links settled cells trail prior steps older fewer rest) j h =
      let p : below_of (step_word v (lay X) (suc i) 7) (suc i) ≡ step_word v (lay X) (suc i) 7 = prior_is _ i prior in
      is_try (record {
        run = record {
          holds = gone.holds;
          cells = cells;
          steps = steps;
          few_steps = omega arith;
          choices = subst (λ (c : ℕ). ChoicesAre X v n.store n.cells c cs) (sym p) rest;
          choice = rw p prior;
        };
        clause = number_is chain.0 (numbered_some _ j h);
        place = chain.1;
        number = numbers.0;
        chain = chain_is chain.0 chain.2;
        numbers = numbers.1;
        goal = goal;
        next = record { goals = goals; step = less; links = rw p links; settled = settled };
      }) units
    where
      number_is : clause_next_word v (lay X) (step_word v (lay X) (suc i) 0) ≡ suc k.number → clause_next_word v (lay X) (step_word v (lay X) (suc i) 0) ≡ suc j.0 → j.0 ≡ k.number
      number_is e f = omega arith

      chain_is : clause_next_word v (lay X) (step_word v (lay X) (suc i) 0) ≡ suc k.number → Chain v (length X.file) (length X.rules.predicates) X.rules (word v (next_at (length X.file) (length X.rules.predicates) k.number)) ks
          → Chain v (length X.file) (length X.rules.predicates) X.rules (clause_next_word v (lay X) k.number) ks
      chain_is e c = subst (λ (x : ℕ). Chain v (length X.file) (length X.rules.predicates) X.rules x ks) (next_word v k.number) c

  -- it has no clause left
  popped : (v : List ℕ) (i : ℕ) (s : Store) (u : ℕ) (ks : List Numbered) (g : Call) (n : Derivation) (cs : List Choice) → ChoicesAre X v s u (suc i) (choice ks g n ∷ cs) → (rest_word v (lay X) (suc i)).clause ≡ None
      → (ks ≡ []) × ChoicesAre X v n.store n.cells (rest_word v (lay X) (suc i)).prior cs × ((rest_word v (lay X) (suc i)).prior ≤ i)
  unfolding rest_word
  popped v i s u [] g n cs (choices _ chain known numbers goal goals less links settled cells trail prior steps older fewer rest) h =
      let p : below_of (step_word v (lay X) (suc i) 7) (suc i) ≡ step_word v (lay X) (suc i) 7 = prior_is _ i prior in
      (refl, subst (λ (c : ℕ). ChoicesAre X v n.store n.cells c cs) (sym p) rest, rw p prior)
  popped v i s u (k ∷ ks) g n cs (choices _ chain known numbers goal goals less links settled cells trail prior steps older fewer rest) h = let e = chain.0 in let z = numbered_none _ h in absurd (omega arith)

  pub backs_fail : (m : Regs) {trail c : ℕ} {w v : List ℕ} {r : Due} → Backs (lay X) m trail c w r v → (s : Store) (u : ℕ) (cs : List Choice) (d : Done) → StoreRep X w s u trail m.units → Sound s → Within X s
      → ChoicesAre X w s u c cs → SoundAll X cs → c ≤ X.limits.steps → m.units ≡ d.units → DueIs X v wanted room d r (fail cs d)
  unfolding fail end_number
  backs_fail m (no_choice h) s u _ d rep so wi no_choices al l un = is_over NoMore un
  backs_fail m (no_choice h) s u _ d rep so wi (choices i chain known numbers goal goals less links settled cells trail prior steps older fewer rest) al l un = absurd (omega arith)
  backs_fail m (retries h e k) s u _ d rep so wi no_choices al l un = absurd (omega arith)
  backs_fail m (retries {trail = trail} {w = w} {v = v} {k = j} h e k) s u _ d rep so wi (choices i {ks} {g} {n} {cs} chain known numbers goal goals less links settled cells mark prior steps older fewer rest) al l un =
      let G = gone w v m.units trail i s u ks g n cs rep so wi (choices i chain known numbers goal goals less links settled cells mark prior steps older fewer rest) fewer mark older e in
      let z : suc i - 1 ≡ i = omega arith in
      rw z (retry_is w v m i s u ks g n cs d (omega arith) un G G.all j k)
  backs_fail m (pops h e k b) s u _ d rep so wi no_choices al l un = absurd (omega arith)
  backs_fail m (pops {trail = trail} {w = w} {v = v} {u = x} {d = r} h e k b) s u _ d rep so wi (choices i {ks} {g} {n} {cs} chain known numbers goal goals less links settled cells mark prior steps older fewer rest) (more so' wi' few al) l un =
      let G = gone w v m.units trail i s u ks g n cs rep so wi (choices i chain known numbers goal goals less links settled cells mark prior steps older fewer rest) fewer mark older e in
      let (none_left, below, less') = popped v i s u ks g n cs G.all k in
      let after = backs_fail m b n.store n.cells cs d G.holds so' wi' below al (omega arith) un in
      subst (λ (ls : List Numbered). DueIs X x wanted room d r (fail (choice ls g n ∷ cs) d)) (sym none_left) after
