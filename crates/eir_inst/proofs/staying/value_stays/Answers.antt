use Rattle.std.proofs.Common.{◌≡◌, is_some, sym, ◌∙◌, ap, arith}
use Rattle.std.specs.List.{list_any}
use Rattle.eir_term.specs.Values.{val_eq}
use Rattle.eir_term.specs.Instances.{occurrences}
use Rattle.eir_inst.proofs.OccurLaws.{occurs-numbered}
use Rattle.eir_inst.proofs.StayingLaws.{staying-full}
use Rattle.eir_inst.proofs.staying.value_stays.Goals as goal

pub returns-then-count-len : goal.returns-then-count-len
returns-then-count-len c =
    let found : c.is_some.result ≡ is_some c.number_of.result = (let e = c.is_some.ensures in cc) in
    let n = c.requires in
    let m = c.len.ensures in
    let s = c.if-count-len.true in
    let full = staying-full c.args.base.now.facts c.args.gone.now (omega arith) in
    found ∙ occurs-numbered c.number_of.result c.args.val c.args.base.now.facts c.number_of.ensures.absent ∙ ap (λ fs. list_any (val_eq c.args.val) (occurrences fs)) (sym full)
