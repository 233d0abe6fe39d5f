use Rattle.std.proofs.Common.{◌≡◌, ◌++◌, filter, map, take}
use Rattle.eir_term.specs.Instances.{is_ground}
use Rattle.eir_term.specs.Canonical.{atom_of}
use Rattle.eir_canon.specs.Parts.{implies}
use Rattle.eir_canon.proofs.gav.push_implied.Given as goal

abbrev pub invariant-loop-fact : goal.invariant-loop-fact
invariant-loop-fact l = l.mapping ≡ l.initial.mapping ++ map (λ f. implies l.premise (atom_of l.variables f))
    (filter is_ground (take l.fact-index l.facts))
