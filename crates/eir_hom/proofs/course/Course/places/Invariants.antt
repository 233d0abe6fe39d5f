use Rattle.std.proofs.Common.{◌≡◌, map, take}
use Rattle.eir_hom.proofs.course.Course.places.Given as goal

abbrev pub invariant-loop-shape : goal.invariant-loop-shape
invariant-loop-shape l = l.places.items ≡ map (λ s. s.place) (take l.shape-index l.shape-items)
