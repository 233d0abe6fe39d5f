use Rattle.eir_term.specs.Maps.{domain_of, image}
use Rattle.eir_ext.proofs.StartLaws.{Follows}
use Rattle.eir_ext.proofs.start.follow.Given as goal

abbrev pub invariant-loop-place : goal.invariant-loop-place
invariant-loop-place l = Follows (image l.hom) (domain_of l.fn.start) l.place l.start
