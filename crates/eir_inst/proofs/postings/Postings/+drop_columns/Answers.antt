use Rattle.std.proofs.Common.{◌∙◌, ◌++◌, ◌+◌, ap, List}
use Rattle.eir_term.specs.declared.val.Val.{Val}
use Rattle.eir_inst.specs.declared.key.Key.TheVariants.{Column}
use Rattle.eir_inst.specs.Postings.{listed, in_columns}
use Rattle.eir_inst.proofs.PostingLaws.{undo-first}
use Rattle.eir_inst.proofs.postings.Postings.+drop_columns.Goals as goal

pub returns-in-Some : goal.returns-in-Some
returns-in-Some t c = λ before was.
    undo-first (Column c.args.rel c.args.column c.in-Some.val.now) c.args.place before (listed c.args.self.now.lists) (listed c.drop_columns.new.self.lists) (listed c.drop_last.new.self.lists)
    (in_columns c.args.place c.args.rel (c.args.column + 1) c.in-Some.others.now) (λ k. was k ∙ ap (λ (vs : List Val). before k ++ in_columns c.args.place c.args.rel c.args.column vs k) c.in-Some.ensures.cases.0) c.drop_columns.ensures c.drop_last.ensures
