use Rattle.std.proofs.Common.{◌≡◌, take, filter}
use Rattle.eir_term.specs.Instances.{is_ground}
use Rattle.eir_inst.proofs.instance.ground_facts.Given as goal

abbrev pub invariant-loop-fact : goal.invariant-loop-fact
invariant-loop-fact l = record { facts : l.part.facts ≡ filter is_ground (take l.fact-index l.facts); limit : l.part.limit ≡ l.fn.limit }
