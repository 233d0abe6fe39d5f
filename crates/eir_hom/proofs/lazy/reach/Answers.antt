use Rattle.std.proofs.Common.{arith}
use Rattle.eir_hom.proofs.LazyLaws.{cut-next}
use Rattle.eir_hom.proofs.lazy.reach.Goals as goal

pub returns-then-depth-len-2-clause-cut : goal.returns-then-depth-len-2-clause-cut
returns-then-depth-len-2-clause-cut c =
    (cut-next c.args.source.now.facts c.args.matcher.now c.push_next.new.matcher c.requires (omega (arith, c.depth-depth.ensures, c.len.ensures, c.len-then-depth-len.ensures, c.if-depth-len.true, c.if-depth-len-2.true))
    (omega (arith, c.depth-depth.ensures, c.len.ensures, c.if-depth-len.true)) c.push_next.ensures).0

pub returns-then-depth-len-2-clause-reached : goal.returns-then-depth-len-2-clause-reached
returns-then-depth-len-2-clause-reached c =
    (cut-next c.args.source.now.facts c.args.matcher.now c.push_next.new.matcher c.requires (omega (arith, c.depth-depth.ensures, c.len.ensures, c.len-then-depth-len.ensures, c.if-depth-len.true, c.if-depth-len-2.true))
    (omega (arith, c.depth-depth.ensures, c.len.ensures, c.if-depth-len.true)) c.push_next.ensures).1
