-- The cells of a derivation. "A bound cell holds a file place with the cells its variables are counted from": here the term that
-- stands at that place, over those cells. Every other cell is free. Going back is taking the older store.
-- Assumes nothing.
use Rattle.std.specs.Prelude.{ℕ, eqb}
use Rattle.meaning.specs.If.{when◌then◌else◌}
use Rattle.meaning.specs.Terms.{Term, var, app, inst}

-- the bindings, the newest first: the cell, what it was bound to, and the store before
pub data Store : Type 0 where
  empty : Store
  bind : ℕ → Term → Store → Store

-- v for the variable x, each other variable for itself
unfoldable pub only : ℕ → Term → ℕ → Term
only x v y = when eqb y x then v else var y

-- The value of a cell, through all bindings: a term over free cells. When x is bound to t, the value of t stands wherever x stood
unfoldable pub value : Store → ℕ → Term
value empty y = var y
value (bind x t s) y = inst (only x (inst (value s) t)) (value s y)

-- "Bound variables are followed": a term, and where x is bound to what is followed to u
unfoldable pub onward : ℕ → Term → Term → Term
onward x u (var y) = when eqb y x then u else var y
onward x u (app f ts) = app f ts

-- a free variable or an applied function, its arguments as they stand
unfoldable pub follow : Store → Term → Term
follow empty t = t
follow (bind x u s) t = onward x (follow s u) (follow s t)
