use Rattle.std.proofs.Common.{ap}
use Rattle.eir_term.specs.Facts.{fact_eq, fact_eq-decides}
use Rattle.eir_inst.proofs.IndexLaws.{position-iff, position-some}
use Rattle.eir_inst.proofs.indexed.Indexed.place_of.Goals as goal

pub returns-clause-there : goal.returns-clause-there
returns-clause-there c = position-iff fact_eq fact_eq-decides c.get_index_of.result c.args.fact.now c.self.inside.facts.keys c.args.self.now.facts (ap (λ b. b.facts) c.self.view_is) c.self.invariant.0 c.get_index_of.ensures.index

pub returns-clause-absent : goal.returns-clause-absent
returns-clause-absent c = position-some fact_eq fact_eq-decides c.get_index_of.result c.args.fact.now c.self.inside.facts.keys c.args.self.now.facts (ap (λ b. b.facts) c.self.view_is) c.get_index_of.ensures.found
