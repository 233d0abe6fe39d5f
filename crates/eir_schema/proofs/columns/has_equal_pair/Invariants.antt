use Rattle.std.proofs.Common.{◌≡◌, drop}
use Rattle.eir_schema.specs.Declarations.{has_repeat}
use Rattle.eir_schema.proofs.columns.has_equal_pair.Given as goal

-- none of the names before the place stands twice
abbrev pub invariant-names : goal.invariant-names
invariant-names l = has_repeat l.names ≡ has_repeat (drop l.place l.names)
