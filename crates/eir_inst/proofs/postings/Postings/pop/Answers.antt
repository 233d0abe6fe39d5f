use Rattle.std.proofs.Common.{◌∙◌, ◌++◌, ap, sym, List}
use Rattle.eir_term.specs.declared.val.Val.{Val}
use Rattle.eir_inst.specs.declared.key.Key.TheVariants.{Relation}
use Rattle.eir_inst.specs.Postings.{listed, in_columns}
use Rattle.eir_inst.proofs.PostingLaws.{undo-first}
use Rattle.eir_inst.proofs.postings.Postings.pop.Goals as goal

pub returns : goal.returns
returns c = λ before was.
    undo-first (Relation c.args.fact.now.rel) c.args.place before (listed c.args.self.now.lists) (listed c.drop_columns.new.self.lists) (listed c.drop_last.new.self.lists)
    (in_columns c.args.place c.args.fact.now.rel 0 c.args.fact.now.args) was
    (λ first is. c.drop_columns.ensures first (λ k. is k ∙ ap (λ (vs : List Val). first k ++ in_columns c.args.place c.args.fact.now.rel 0 vs k) (sym c.as_slice.ensures.values))) c.drop_last.ensures
