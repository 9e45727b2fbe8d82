-- Going back restores the store: no binding is kept.
-- Assumes nothing.
use Prim.Native.Nat.{ℕ, zero, suc, ◌+◌, ◌≤◌, ◌<◌}
use Rattle.std.specs.Prelude.{◌≡◌, ◌≢◌, Bool, List, leb, length, set}
use Rattle.std.proofs.Math.Path.{refl, ap, subst}
use Rattle.std.proofs.Common.{sym, ◌∙◌, length-set, get_or-set_same}
use Rattle.std.proofs.Math.Bool.{true, false}
use native.Mathlib.Omega.{arith}
use Rattle.std.proofs.Math.Dec.{eqb}
use Rattle.std.proofs.Math.Seq.{get_or-set_other}
use borrow.Author.Tests.{le-leb, lt-leb, eqb-true, eqb-false}
use Rattle.meaning.specs.Terms.{Term}
use Rattle.meaning.specs.Store.{Store, empty, bind}
use Rattle.laws.specs.IfLaws.{if_true, if_false}
use Rattle.demands.specs.StoreLaws.{Free, Sound}
use Rattle.demands.specs.WellLaws.{GoodStore}
use Rattle.layout.specs.Regions.{word, Keeps}
use Rattle.cells.specs.Cells.{cell_at, cell_of, undone}
use Rattle.simulation.specs.Rep.{Setting, lay, layout_of, StoreIs, bindings, Older, now, since}
use Rattle.simulation.specs.Frames.{keeps_none, keeps_then, set_keeps}

module _ (X : Setting) where
  abbrev C : ℕ
  C = X.limits.cells

  -- every bound cell is one of the C cells
  abbrev pub Within : Store → Type 0
  Within empty = Unit {0}
  Within (bind x t s) = (x < C) × Within s

  pub within_good : (fs : List ℕ) (n : ℕ) (s : Store) → n ≤ C → GoodStore fs n s → Within s
  within_good fs n empty h g = tt
  within_good fs n (bind x t s) h g = (omega (arith, g.0), within_good fs n s h g.2)

  pub store_bindings : (w : List ℕ) (k : ℕ) (s : Store) → StoreIs X w k s → k ≡ bindings s
  unfolding bindings
  store_bindings w k empty e = e
  store_bindings w k (bind x t s) (j, e, f, g, r) = e ∙ ap suc (store_bindings w j s r)

  cell_other : (w : List ℕ) (x y v : ℕ) → y ≢ x → cell_at (set w ((lay X).cells + x) v) (lay X) y ≡ cell_at w (lay X) y
  unfolding cell_at
  cell_other w x y v n = ap cell_of (get_or-set_other w ((lay X).cells + x) ((lay X).cells + y) v 0 (λ e. n (omega arith)))

  -- another cell and its word make no difference to the bindings
  pub store_set : (w : List ℕ) (k : ℕ) (s : Store) (x v : ℕ) → x < C → Free x s → StoreIs X w k s → StoreIs X (set w ((lay X).cells + x) v) k s
  unfolding layout_of
  store_set w k empty x v h f e = e
  store_set w k (bind y t s) x v h f (j, e, a, (b, c, d), r) = (
    j,
    e,
    get_or-set_other w ((lay X).cells + x) ((lay X).trail + j) v 0 (λ z. omega arith) ∙ a,
    (b, cell_other w x y v (λ z. f.0 (sym z)) ∙ c, d),
    store_set w j s x v h f.1 r,
  )

  undone_none : (k : ℕ) (w : List ℕ) → undone k k (lay X) w ≡ w
  unfolding undone
  undone_none zero w = refl
  undone_none (suc t) w = if_false (leb (suc t) t) _ w (lt-leb (suc t) t (omega arith))

  undone_one : (t mark : ℕ) (w : List ℕ) → mark ≤ t → undone (suc t) mark (lay X) w ≡ undone t mark (lay X) (set w ((lay X).cells + word w ((lay X).trail + t)) 0)
  unfolding undone
  undone_one t mark w h = if_true (leb mark t) _ w (le-leb mark t h)

  bindings_older : (s u : Store) → Older s u → bindings s ≤ bindings u
  unfolding bindings
  bindings_older s u now = omega arith
  bindings_older s (bind x t u) (since o) = let h = bindings_older s u o in omega arith

  -- what going back from the store u to the older store s leaves
  pub record Restored (w : List ℕ) (u s : Store) (v : List ℕ) : Type 0 where
    pub store : StoreIs X v (bindings s) s
    pub keeps : Keeps (lay X).cells ((lay X).cells + C) w v
    pub free : (y : ℕ) → y < C → Free y s → (Free y u → word w ((lay X).cells + y) ≡ 0) → word v ((lay X).cells + y) ≡ 0

  -- the latest binding is undone, and then the others
  restored_more : (s u : Store) (x : ℕ) (t : Term) (w : List ℕ) → Within (bind x t u) → (lay X).cells + C ≤ length w → word w ((lay X).trail + bindings u) ≡ x → bindings s ≤ bindings u
      → Restored (set w ((lay X).cells + x) 0) u s (undone (bindings u) (bindings s) (lay X) (set w ((lay X).cells + x) 0)) → Restored w (bind x t u) s (undone (bindings (bind x t u)) (bindings s) (lay X) w)
  unfolding bindings
  restored_more s u x t w within long a h r =
      subst (Restored w (bind x t u) s) (sym (undone_one (bindings u) (bindings s) w h ∙ ap (λ (y : ℕ). undone (bindings u) (bindings s) (lay X) (set w ((lay X).cells + y) 0)) a)) (record {
        store = r.store;
        keeps = keeps_then _ _ w _ _ (set_keeps (lay X).cells ((lay X).cells + C) ((lay X).cells + x) 0 w (omega arith) (omega (arith, within.0))) r.keeps;
        free = λ y l f g. r.free y l f (λ k. now_free y (eqb y x) refl k g);
      })
    where
      now_free : (y : ℕ) (b : Bool) → eqb y x ≡ b → Free y u → ((y ≢ x) × Free y u → word w ((lay X).cells + y) ≡ 0) → word (set w ((lay X).cells + x) 0) ((lay X).cells + y) ≡ 0
      now_free y true e k g = rw (eqb-true y x e) (get_or-set_same w ((lay X).cells + x) 0 0 (omega (arith, within.0)))
      now_free y false e k g = get_or-set_other w ((lay X).cells + x) ((lay X).cells + y) 0 0 (λ z. eqb-false y x e (omega arith)) ∙ g (eqb-false y x e, k)

  pub undo_restores : (s u : Store) (w : List ℕ) → Older s u → Sound u → Within u → (lay X).cells + C ≤ length w → StoreIs X w (bindings u) u → Restored w u s (undone (bindings u) (bindings s) (lay X) w)
  unfolding bindings
  undo_restores s u w now sound within long is =
      subst (Restored w s s) (sym (undone_none (bindings s) w)) (record { store = is; keeps = keeps_none _ _ w; free = λ y l f g. g f })
  undo_restores s (bind x t u) w (since o) sound within long (j, e, a, b, r) =
      restored_more s u x t w within long (subst (λ (k : ℕ). word w ((lay X).trail + k) ≡ x) (same e) a) (bindings_older s u o)
      (undo_restores s u (set w ((lay X).cells + x) 0) o sound.2 within.1 (rw (length-set w ((lay X).cells + x) 0) long)
      (store_set w (bindings u) u x 0 within.0 sound.0 (subst (λ (k : ℕ). StoreIs X w k u) (same e) r)))
    where
      same : bindings (bind x t u) ≡ suc j → j ≡ bindings u
      same q = omega arith
