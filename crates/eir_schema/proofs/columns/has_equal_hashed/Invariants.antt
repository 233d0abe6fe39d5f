use Rattle.std.proofs.Common.{◌≡◌, map, take}
use Rattle.eir_term.specs.Lists.{IsDistinct}
use Rattle.eir_schema.proofs.columns.has_equal_hashed.Given as goal

-- the names so far are seen, and distinct
abbrev pub invariant-names : goal.invariant-names
invariant-names l = record { seen : map (λ k. k.now) l.seen.keys ≡ take l.name-index l.names; apart : IsDistinct (take l.name-index l.names) }
