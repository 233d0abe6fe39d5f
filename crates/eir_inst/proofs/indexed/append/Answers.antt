use Rattle.std.proofs.Common.{sym, subst}
use Rattle.eir_inst.specs.Indexes.{IsIndex}
use Rattle.eir_inst.proofs.IndexLaws.{from-err, from-ok, on-ok, appended, cut-back}
use Rattle.eir_inst.proofs.indexed.append.Goals as goal

pub returns-then-is_err-clause-index : goal.returns-then-is_err-clause-index
returns-then-is_err-clause-index c = λ i.
    subst (λ fs. IsIndex fs c.index_at-pushed.new.index)
    (sym (cut-back c.args.facts.now.keys c.insert.new.self.keys c.truncate.new.self.keys c.args.fact c.len-place.result (appended c.args.facts.now.keys c.insert.new.self.keys c.args.fact c.requires c.in_ok-insert.ensures.keys) c.len-place.ensures.len c.truncate.ensures.keys))
    (from-err c.index_at-pushed.result c.is_err.result c.is_err.ensures.value c.if-is_err.true c.index_at-pushed.ensures.err c.args.facts.now.keys i)

pub returns-else-is_err-clause-ok : goal.returns-else-is_err-clause-ok
returns-else-is_err-clause-ok c = on-ok c.index_at-pushed.result (appended c.args.facts.now.keys c.insert.new.self.keys c.args.fact c.requires c.in_ok-insert.ensures.keys)

pub returns-else-is_err-clause-index : goal.returns-else-is_err-clause-index
returns-else-is_err-clause-index c = λ i.
    from-ok c.index_at-pushed.result c.is_err.result c.is_err.ensures.value c.if-is_err.false c.index_at-pushed.ensures.ok c.args.facts.now.keys c.args.fact (appended c.args.facts.now.keys c.insert.new.self.keys c.args.fact c.requires c.in_ok-insert.ensures.keys) (sym c.len-place.ensures.len) i
