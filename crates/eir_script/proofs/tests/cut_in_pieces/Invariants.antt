use Rattle.std.proofs.Common.{◌≡◌, false}
use Rattle.eir_script.proofs.tests.cut_in_pieces.Given as goal

abbrev pub invariant-parts : goal.invariant-parts
invariant-parts l = l.cutter.ended ≡ false

abbrev pub invariant-rest : goal.invariant-rest
invariant-rest l = l.cutter.ended ≡ false
