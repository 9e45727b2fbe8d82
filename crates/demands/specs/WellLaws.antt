-- Laws of terms over the file's functions: their instances, and stores and pairs of such terms.
-- Assumes nothing.
use Prim.Native.Nat.{ℕ, suc, zero, ◌+◌, ◌-◌, ◌≤◌, ◌<◌}
use Rattle.std.specs.Prelude.{◌≡◌, refl, ◌↔◌, List, [], ◌∷◌, ◌++◌, ltb, eqb}
use Rattle.std.proofs.Common.{ap, ap₂, sym, ◌∙◌, inl, inr, lt-ltb, le-ltb, arith}
use Rattle.std.proofs.Math.Option.{some}
use Rattle.meaning.specs.If.{when◌then◌else◌}
use Rattle.meaning.specs.Terms.{Term, var, app, Terms, []ₜ, ◌∷ₜ◌, count, inst, insts, from, values_from}
use Rattle.meaning.specs.Store.{Store, empty, bind, only, value, onward, follow}
use Rattle.meaning.specs.Moves.{Pair, pairs}
use Rattle.demands.specs.Proofs.{Well, Wells}
use Rattle.laws.specs.IfLaws.{if_by, if_true, if_false}
use Rattle.demands.specs.TermLaws.{In, Ins, inst_cong, insts_cong, count_insts}
use Rattle.demands.specs.StoreLaws.{Solves}

-- any variable will do
abbrev pub Any : ℕ → Type 0
Any x = Unit {0}

module _ (fs : List ℕ) where
  -- the variables of a term satisfy what it says of them
  mutual
    pub well_in : (P : ℕ → Type 0) (x : ℕ) (t : Term) → Well fs P t → In x t → P x
    well_in P x (var y) w i = rw i w
    well_in P x (app f ts) w i = wells_in P x ts w.1 i

    pub wells_in : (P : ℕ → Type 0) (x : ℕ) (ts : Terms) → Wells fs P ts → Ins x ts → P x
    wells_in P x []ₜ w i = absurd i
    wells_in P x (t ∷ₜ ts) w (inl i) = well_in P x t w.0 i
    wells_in P x (t ∷ₜ ts) w (inr i) = wells_in P x ts w.1 i

  -- instances
  mutual
    unfolding inst insts

    pub well_inst : (P Q : ℕ → Type 0) (ν : ℕ → Term) → ((x : ℕ) → P x → Well fs Q (ν x)) → (t : Term) → Well fs P t → Well fs Q (inst ν t)
    well_inst P Q ν h (var y) w = h y w
    well_inst P Q ν h (app f ts) w = (w.0 ∙ ap some (sym (count_insts ν ts)), wells_inst P Q ν h ts w.1)

    pub wells_inst : (P Q : ℕ → Type 0) (ν : ℕ → Term) → ((x : ℕ) → P x → Well fs Q (ν x)) → (ts : Terms) → Wells fs P ts → Wells fs Q (insts ν ts)
    wells_inst P Q ν h []ₜ w = tt
    wells_inst P Q ν h (t ∷ₜ ts) w = (well_inst P Q ν h t w.0, wells_inst P Q ν h ts w.1)

  -- less asked of the variables
  mutual
    pub well_less : (P Q : ℕ → Type 0) → ((x : ℕ) → P x → Q x) → (t : Term) → Well fs P t → Well fs Q t
    well_less P Q h (var y) w = h y w
    well_less P Q h (app f ts) w = (w.0, wells_less P Q h ts w.1)

    pub wells_less : (P Q : ℕ → Type 0) → ((x : ℕ) → P x → Q x) → (ts : Terms) → Wells fs P ts → Wells fs Q ts
    wells_less P Q h []ₜ w = tt
    wells_less P Q h (t ∷ₜ ts) w = (well_less P Q h t w.0, wells_less P Q h ts w.1)

  -- the terms of which something is an instance are over the same functions
  mutual
    unfolding inst insts

    pub well_of : (τ : ℕ → Term) (t : Term) → Well fs Any (inst τ t) → Well fs Any t
    well_of τ (var x) w = tt
    well_of τ (app f ts) w = (w.0 ∙ ap some (count_insts τ ts), wells_of τ ts w.1)

    pub wells_of : (τ : ℕ → Term) (ts : Terms) → Wells fs Any (insts τ ts) → Wells fs Any ts
    wells_of τ []ₜ w = tt
    wells_of τ (t ∷ₜ ts) w = (well_of τ t w.0, wells_of τ ts w.1)

  pub wells_from : (P : ℕ → Type 0) (ν : ℕ → Term) → ((x : ℕ) → Well fs P (ν x)) → (i n : ℕ) → Wells fs P (values_from i n ν)
  unfolding values_from
  wells_from P ν h i zero = tt
  wells_from P ν h i (suc n) = (h i, wells_from P ν h (suc i) n)

  -- ---- terms over the first n cells
  abbrev pub Good : ℕ → Term → Type 0
  Good n t = Well fs (λ x. x < n) t

  abbrev pub Goods : ℕ → Terms → Type 0
  Goods n ts = Wells fs (λ x. x < n) ts

  abbrev pub GoodStore : ℕ → Store → Type 0
  GoodStore n empty = Unit {0}
  GoodStore n (bind x t s) = (x < n) × Good n t × GoodStore n s

  -- the terms that cells were bound to, whichever cells these are
  abbrev pub GoodBindings : ℕ → Store → Type 0
  GoodBindings n empty = Unit {0}
  GoodBindings n (bind x t s) = Good n t × GoodBindings n s

  pub store_bindings_good : (n : ℕ) (s : Store) → GoodStore n s → GoodBindings n s
  store_bindings_good n empty w = tt
  store_bindings_good n (bind x t s) w = (w.1, store_bindings_good n s w.2)

  abbrev pub GoodPairs : ℕ → List Pair → Type 0
  GoodPairs n [] = Unit {0}
  GoodPairs n (p ∷ ps) = Good n p.goal_side × Good n p.head_side × GoodPairs n ps

  pub goods_more : (n m : ℕ) → n ≤ m → (ts : Terms) → Goods n ts → Goods m ts
  goods_more n m h ts g = wells_less (λ x. x < n) (λ x. x < m) (λ x k. omega arith) ts g

  pub store_more : (n m : ℕ) → n ≤ m → (s : Store) → GoodStore n s → GoodStore m s
  store_more n m h empty w = tt
  store_more n m h (bind x t s) w = (omega arith, well_less (λ x. x < n) (λ x. x < m) (λ x k. omega arith) t w.1, store_more n m h s w.2)

  -- a clause's terms, its variables counted from the cell b
  pub goods_from : (b v : ℕ) (ts : Terms) → Goods v ts → Goods (b + v) (insts (from b) ts)
  unfolding from
  goods_from b v ts g = wells_inst (λ x. x < v) (λ x. x < b + v) (from b) (λ x h. omega arith) ts g

  -- values of a good store are over the file's functions
  only_well : (x y : ℕ) (t : Term) → Well fs Any t → Well fs Any (only x t y)
  unfolding only
  only_well x y t w = if_by (Well fs Any) (eqb y x) (λ p. w) (λ p. tt)

  pub value_well : (n : ℕ) (s : Store) → GoodStore n s → (y : ℕ) → Well fs Any (value s y)
  unfolding value
  value_well n empty w y = tt
  value_well n (bind x t s) w y =
      let T : Well fs Any (inst (value s) t) = well_inst (λ z. z < n) Any (value s) (λ z k. value_well n s w.2 z) t w.1 in
      well_inst Any Any (only x (inst (value s) t)) (λ z k. only_well x z (inst (value s) t) T) (value s y) (value_well n s w.2 y)

  -- the value of a cell is over the cells that bindings are over
  pub value_good : (n : ℕ) (s : Store) → GoodBindings n s → (y : ℕ) → y < n → Good n (value s y)
  unfolding value only
  value_good n empty g y h = h
  value_good n (bind x t s) g y h =
      let T : Good n (inst (value s) t) = well_inst (λ z. z < n) (λ z. z < n) (value s) (value_good n s g.1) t g.0 in
      well_inst (λ z. z < n) (λ z. z < n) (only x (inst (value s) t)) (λ z k. if_by (Good n) (eqb z x) (λ p. T) (λ p. k)) (value s y) (value_good n s g.1 y h)

  -- followed terms of a good store are good
  onward_good : (n x : ℕ) (t u : Term) → Good n t → Good n u → Good n (onward x t u)
  unfolding onward
  onward_good n x t (var y) g h = if_by (Good n) (eqb y x) (λ p. g) (λ p. h)
  onward_good n x t (app f ts) g h = h

  pub followed_good : (n : ℕ) (s : Store) → GoodBindings n s → (u : Term) → Good n u → Good n (follow s u)
  unfolding follow
  followed_good n empty w u g = g
  followed_good n (bind x t s) w u g = onward_good n x (follow s t) (follow s u) (followed_good n s w.1 t w.0) (followed_good n s w.1 u g)

  pub follow_good : (n : ℕ) (s : Store) → GoodStore n s → (u : Term) → Good n u → Good n (follow s u)
  follow_good n s w u g = followed_good n s (store_bindings_good n s w) u g

  -- ---- pairs
  pub pairs_good : (n : ℕ) (ts us : Terms) → Goods n ts → Goods n us → GoodPairs n (pairs ts us)
  unfolding pairs
  pairs_good n []ₜ us g h = tt
  pairs_good n (t ∷ₜ ts) []ₜ g h = tt
  pairs_good n (t ∷ₜ ts) (u ∷ₜ us) g h = (g.0, h.0, pairs_good n ts us g.1 h.1)

  pub append_good : (n : ℕ) (ps qs : List Pair) → GoodPairs n ps → GoodPairs n qs → GoodPairs n (ps ++ qs)
  append_good n [] qs g h = h
  append_good n (p ∷ ps) qs g h = (g.0, g.1, append_good n ps qs g.2 h)

  -- ---- values outside the first n cells do not matter
  pub insts_under : (n : ℕ) (μ ν : ℕ → Term) → ((x : ℕ) → x < n → μ x ≡ ν x) → (ts : Terms) → Goods n ts → insts μ ts ≡ insts ν ts
  insts_under n μ ν h ts g = insts_cong μ ν ts (λ x i. h x (wells_in (λ z. z < n) x ts g i))

  pub solves_under : (n : ℕ) (μ ν : ℕ → Term) → ((x : ℕ) → x < n → μ x ≡ ν x) → (s : Store) → GoodStore n s → Solves ν s → Solves μ s
  solves_under n μ ν h empty g k = tt
  solves_under n μ ν h (bind x t s) g k =
      (h x g.0 ∙ k.0 ∙ sym (inst_cong μ ν t (λ y i. h y (well_in (λ z. z < n) y t g.1 i))), solves_under n μ ν h s g.2 k.1)

-- ---- values below n by ν, and from there on by θ
unfoldable pub joined : ℕ → (ℕ → Term) → (ℕ → Term) → ℕ → Term
joined n ν θ x = when ltb x n then ν x else θ (x - n)

pub joined_below : (n : ℕ) (ν θ : ℕ → Term) (x : ℕ) → x < n → joined n ν θ x ≡ ν x
unfolding joined
joined_below n ν θ x h = if_true (ltb x n) (ν x) (θ (x - n)) (lt-ltb x n h)

pub joined_above : (n : ℕ) (ν θ : ℕ → Term) (i : ℕ) → joined n ν θ (n + i) ≡ θ i
unfolding joined
joined_above n ν θ i = if_false (ltb (n + i) n) (ν (n + i)) (θ (n + i - n)) (le-ltb (n + i) n (omega arith)) ∙ ap θ (omega arith)

pub joined_all : (P : Term → Type 0) (n : ℕ) (ν θ : ℕ → Term) → ((x : ℕ) → P (ν x)) → ((x : ℕ) → P (θ x)) → (x : ℕ) → P (joined n ν θ x)
unfolding joined
joined_all P n ν θ h k x = if_by P (ltb x n) (λ p. h x) (λ p. k (x - n))

-- ---- pairs agree
-- both sides of each pair have one value
abbrev pub Agree : (ℕ → Term) → List Pair → Type 0
Agree ν [] = Unit {0}
Agree ν (p ∷ ps) = (inst ν p.goal_side ≡ inst ν p.head_side) × Agree ν ps

pub agree_append : (ν : ℕ → Term) (ps qs : List Pair) → (Agree ν ps × Agree ν qs) ↔ Agree ν (ps ++ qs)
agree_append ν [] qs = (λ h. h.1, λ h. (tt, h))
agree_append ν (p ∷ ps) qs =
    (λ h. (h.0.0, (agree_append ν ps qs).0 (h.0.1, h.1)), λ h. let k = (agree_append ν ps qs).1 h.1 in ((h.0, k.0), k.1))

-- arguments are equal where their pairs agree
pub pairs_agree : (ν : ℕ → Term) (ts us : Terms) → count ts ≡ count us → (insts ν ts ≡ insts ν us) ↔ Agree ν (pairs ts us)
unfolding pairs insts count
pairs_agree ν []ₜ []ₜ e = (λ p. tt, λ p. refl)
pairs_agree ν []ₜ (u ∷ₜ us) e = absurd (omega arith)
pairs_agree ν (t ∷ₜ ts) []ₜ e = absurd (omega arith)
pairs_agree ν (t ∷ₜ ts) (u ∷ₜ us) e =
    let rest = pairs_agree ν ts us (omega arith) in
    ((λ p. (cc, rest.0 (cc))), λ p. ap₂ ◌∷ₜ◌ p.0 (rest.1 p.1))
