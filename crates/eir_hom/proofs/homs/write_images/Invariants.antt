use Rattle.std.proofs.Common.{◌≡◌, ℕ, ◌<◌, Some, slice_get}
use Rattle.eir_term.specs.Instances.{values}
use Rattle.eir_term.specs.Maps.{domain_of, image_at}
use Rattle.eir_hom.specs.Matching.{Bindings, bound_to, matched}
use Rattle.eir_hom.proofs.homs.write_images.Given as goal

abbrev pub invariant-loop-slot : goal.invariant-loop-slot
invariant-loop-slot l =
    (domain_of l.map ≡ domain_of l.fn.map)
    × ((m : Bindings) → matched l.search.problem.levels l.search.problem.start l.search.choices ≡ Some m → (k : ℕ) → k < l.slot → (w : ℕ) → bound_to m k ≡ Some w →
    image_at l.map k ≡ slice_get (values l.target.facts) w)
