use Rattle.std.proofs.Common.{◌≡◌, take}
use Rattle.eir_schema.proofs.stamp.Stamp.is_same.Given as goal

-- the two agree before the place
abbrev pub invariant-places : goal.invariant-places
invariant-places l = take l.place l.self ≡ take l.place l.other
