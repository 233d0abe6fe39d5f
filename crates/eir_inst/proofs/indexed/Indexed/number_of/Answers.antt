use Rattle.std.proofs.Common.{ap, sym, subst}
use Rattle.eir_term.specs.Lists.{IsDistinct}
use Rattle.eir_term.specs.Values.{val_eq, val_eq-decides}
use Rattle.eir_term.specs.Instances as instances
use Rattle.eir_term.proofs.HomLaws.{IsDistinct-values}
use Rattle.eir_inst.proofs.IndexLaws.{values-seen, position-iff, position-some}
use Rattle.eir_inst.proofs.indexed.Indexed.number_of.Goals as goal

pub returns-clause-there : goal.returns-clause-there
returns-clause-there c =
    position-iff val_eq val_eq-decides c.get_index_of.result c.args.val c.self.inside.index.numbering.values.keys (instances.values c.args.self.now.facts) (values-seen c.self.inside.facts.keys c.args.self.now.facts c.self.inside.index (ap (λ b. b.facts) c.self.view_is) c.self.invariant.1)
    (subst (λ vs. IsDistinct vs) (sym (c.self.invariant.1).values) (IsDistinct-values c.self.inside.facts.keys)) c.get_index_of.ensures.index

pub returns-clause-absent : goal.returns-clause-absent
returns-clause-absent c =
    position-some val_eq val_eq-decides c.get_index_of.result c.args.val c.self.inside.index.numbering.values.keys (instances.values c.args.self.now.facts) (values-seen c.self.inside.facts.keys c.args.self.now.facts c.self.inside.index (ap (λ b. b.facts) c.self.view_is) c.self.invariant.1) c.get_index_of.ensures.found
