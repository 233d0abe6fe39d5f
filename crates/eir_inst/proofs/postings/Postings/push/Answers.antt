use Rattle.eir_inst.specs.declared.key.Key.TheVariants.{Relation}
use Rattle.eir_inst.specs.Postings.{listed}
use Rattle.eir_inst.proofs.PostingLaws.{undo-added}
use Rattle.eir_inst.proofs.postings.Postings.push.Goals as goal

pub returns-then-is_err-clause-err : goal.returns-then-is_err-clause-err
returns-then-is_err-clause-err c =
    undo-added c.add_columns-added.result (Relation c.args.fact.now.rel) c.args.place (listed c.args.self.now.lists) (listed c.add.new.self.lists) (listed c.add_columns-added.new.self.lists) (listed c.drop_last.new.self.lists) c.in_ok-add.ensures.ok c.add_columns-added.ensures.err c.drop_last.ensures
