use Rattle.std.proofs.Common.{arith}
use Rattle.std.proofs.lemmas.Grind.{common_steps}
use Rattle.eir_io.proofs.PieceLaws.{drop-piece}
use Rattle.eir_io.proofs.pieces.copy_piece.Goals as goal

pub returns-clause-left : goal.returns-clause-left
returns-clause-left c =
    drop-piece c.args.bytes.now c.copy_from_slice.new.self _ c.args.at c.min-count.result
    (grind (arith, common_steps)) (grind (arith, common_steps))
