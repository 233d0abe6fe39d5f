use Rattle.std.proofs.Common.{◌≡◌, map, take, option_map}
use Rattle.eir_term.specs.Instances.{values}
use Rattle.eir_term.specs.Maps.{get}
use Rattle.eir_hom.specs.Levels.{number}
use Rattle.eir_hom.proofs.starts.set_given.Given as goal

abbrev pub invariant-loop-i : goal.invariant-loop-i
invariant-loop-i l = l.images ≡ map (λ v. option_map (number l.b.facts) (get (take l.i l.start) v)) (values l.a.facts)
