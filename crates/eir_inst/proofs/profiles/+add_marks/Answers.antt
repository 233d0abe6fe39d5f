use Rattle.std.proofs.Common.{arith, length, rules}
use Rattle.eir_inst.proofs.AddLaws.{below-head, below-tail, marks-undone, marks-added}
use Rattle.eir_inst.proofs.profiles.+add_marks.Goals as goal

pub add_at-requires : goal.add_at-requires
add_at-requires t c = below-head c.args.numbers.now c.in-Some.others.now c.in-Some.number.now (length c.args.profiles.now) c.in-Some.ensures.cases.0 c.requires.numbered

pub add_marks-added-requires : goal.add_marks-added-requires
add_marks-added-requires t c =
    let e = c.in-Some.ensures.cases.1 in
    let n = c.requires.narrow in
    (search rules, (omega arith, below-tail c.args.numbers.now c.in-Some.others.now c.in-Some.number.now (length c.args.profiles.now) (length c.add_at.new.profiles) c.in-Some.ensures.cases.0 c.add_at.auto.profiles c.requires.numbered))

pub undo_at-requires-clause-number : goal.undo_at-requires-clause-number
undo_at-requires-clause-number t c =
    let a = c.add_at.auto.profiles in
    let b = c.add_marks-added.auto.profiles in
    let l = below-head c.args.numbers.now c.in-Some.others.now c.in-Some.number.now (length c.args.profiles.now) c.in-Some.ensures.cases.0 c.requires.numbered in
    omega arith

pub returns-then-is_err-clause-err : goal.returns-then-is_err-clause-err
returns-then-is_err-clause-err t c =
    marks-undone c.add_marks-added.result c.args.profiles.now c.add_at.new.profiles c.add_marks-added.new.profiles c.undo_at.new.profiles c.in-Some.number.now _ c.in_ok-put.put c.in_ok-put.ensures.ok c.in_ok-put.ensures.undone c.add_marks-added.ensures.err c.undo_at.ensures

pub returns-else-is_err-clause-ok : goal.returns-else-is_err-clause-ok
returns-else-is_err-clause-ok t c =
    marks-added c.add_marks-added.result c.args.rel c.args.column c.in-Some.number.now c.args.numbers.now c.in-Some.others.now c.args.profiles.now c.add_at.new.profiles c.add_marks-added.new.profiles c.in-Some.ensures.cases.0 c.in_ok-put.ensures.ok c.add_marks-added.ensures.ok
