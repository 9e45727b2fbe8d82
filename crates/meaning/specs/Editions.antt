-- Document 01 by itself, and with the requests of document 02 that changed one of its rules: each such rule is a field, so that a single
-- definition speaks of the rule as it was and as it is.
-- Assumes nothing.
use Rattle.std.specs.Prelude.{ℕ}
use Rattle.meaning.specs.Kinds.{RuleLimits, earlier_limits, todays_limits}

-- 2026-01: how large a rule set may be. 2026-02: how many choices a cut in the query keeps
pub record Edition : Type 0 where
  pub limits : RuleLimits
  pub query_keeps : ℕ

-- "A cut in the query costs its unit and does nothing else": there are never more choices than S, which is at most 60,000
abbrev pub document_01 : Edition
document_01 = record { limits = earlier_limits; query_keeps = 60_000 }

-- "it drops all untried clauses of every goal called since the query began"
abbrev pub todays : Edition
todays = record { limits = todays_limits; query_keeps = 0 }

-- an edition with other limits; one whose query's cuts keep another number of choices
abbrev pub within : RuleLimits → Edition → Edition
within most E = record { limits = most; query_keeps = E.query_keeps }

abbrev pub keeping : ℕ → Edition → Edition
keeping h E = record { limits = E.limits; query_keeps = h }
