use Rattle.std.proofs.Common.{◌≡◌, take}
use Rattle.eir_schema.proofs.relation.copies.Given as goal

-- the first texts are copied
abbrev pub invariant-texts : goal.invariant-texts
invariant-texts l = l.copied.items ≡ take l.text-index l.texts
