use Rattle.eir_inst.specs.declared.key.Key.TheVariants.{Column}
use Rattle.eir_inst.specs.Postings.{listed}
use Rattle.eir_inst.proofs.PostingLaws.{undo-added}
use Rattle.eir_inst.proofs.postings.Postings.+add_columns.Goals as goal

pub returns-then-is_err-clause-err : goal.returns-then-is_err-clause-err
returns-then-is_err-clause-err t c =
    undo-added c.add_columns-added.result (Column c.args.rel c.args.column c.in-Some.val.now) c.args.place (listed c.args.self.now.lists) (listed c.add.new.self.lists) (listed c.add_columns-added.new.self.lists) (listed c.drop_last.new.self.lists) c.in_ok-add.ensures.ok c.add_columns-added.ensures.err c.drop_last.ensures
