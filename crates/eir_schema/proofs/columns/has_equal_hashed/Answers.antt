use Rattle.std.proofs.Common.{sym, ◌∙◌, take_all, subst}
use Rattle.eir_term.specs.Lists.{IsDistinct}
use Rattle.eir_schema.proofs.ColumnLaws.{repeat-found, seen-more, distinct-more, no_repeat-from_distinct}
use Rattle.eir_schema.proofs.columns.has_equal_hashed.Goals as goal

pub returns-then-not-branch : goal.returns-then-not-branch
returns-then-not-branch c =
    repeat-found c.names.seen.keys c.args.names.now c.names.name-index c.name-item.result c.names.invariant.seen c.names-test.true c.name-item.is c.bytes.result c.bytes.ensures (sym c.in_ok-insert.ensures.added ∙ c.if-not-branch.true)

pub names-preserved : goal.names-preserved
names-preserved c =
    let fresh = sym c.in_ok-insert.ensures.added ∙ c.if-not-branch.false in
    record {
      seen = seen-more c.names.seen.keys c.args.names.now c.names.name-index c.name-item.result c.names.invariant.seen c.names-test.true c.name-item.is c.bytes.result c.bytes.ensures _ c.in_ok-insert.ensures.keys fresh;
      apart = distinct-more c.names.seen.keys c.args.names.now c.names.name-index c.name-item.result c.names.invariant.seen c.names-test.true c.name-item.is c.bytes.result c.bytes.ensures _ c.in_ok-insert.ensures.keys fresh c.names.invariant.apart;
    }

pub returns : goal.returns
returns c = sym (no_repeat-from_distinct c.args.names.now (subst (λ ns. IsDistinct ns) (take_all _ _ c.names-test.false) c.names.invariant.apart))
