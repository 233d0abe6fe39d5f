use Rattle.std.proofs.Common.{◌≡◌, ◌≤◌, ◌<◌, ℕ, None, slice_get, slice_index_or}
use Rattle.eir_hom.specs.Compiling.{with_fixed}
use Rattle.eir_hom.proofs.starts.set_fixed.Given as goal

abbrev pub invariant-loop-i : goal.invariant-loop-i
invariant-loop-i l =
    ((n : ℕ) → n < l.i → slice_index_or l.images n None ≡ with_fixed l.b.facts (slice_index_or l.initial.images n None) (slice_get l.values n)) × ((n : ℕ) → l.i ≤ n → slice_index_or l.images n None ≡ slice_index_or l.initial.images n None)
