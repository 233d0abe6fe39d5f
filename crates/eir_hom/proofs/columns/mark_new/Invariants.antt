use Rattle.std.proofs.Common.{◌≡◌, ℕ, false, List, length, get_or, take}
use Rattle.eir_hom.specs.Columns.{is_among, seen_after, slots_of, AreColumns}
use Rattle.eir_hom.proofs.columns.mark_new.Given as goal

abbrev pub invariant-loop-i : goal.invariant-loop-i
invariant-loop-i l = record {
  slots : slots_of l.columns ≡ slots_of l.fn.columns;
  cells : length l.is_bound ≡ length l.fn.is_bound;
  marked : (seen : List ℕ) → ((s : ℕ) → get_or l.fn.is_bound s false ≡ is_among s seen) → AreColumns seen (take l.i l.columns);
  bound : (seen : List ℕ) → ((s : ℕ) → get_or l.fn.is_bound s false ≡ is_among s seen) → (s : ℕ) → get_or l.is_bound s false ≡ is_among s (seen_after seen (take l.i (slots_of l.fn.columns)));
}
