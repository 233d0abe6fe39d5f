use Rattle.std.proofs.Common.{None, inl, refl, sym, ◌∙◌}
use Rattle.eir_script.specs.Reading.{read_by, said_by}
use Rattle.eir_script.proofs.GrammarLaws.{reading-blank}
use Rattle.eir_script.proofs.ReaderLaws.{reading-gaps, reading-form, bad-unsaid, bad-unblank, said-says}
use Rattle.eir_script.proofs.reader.read_line.Goals as goal

pub returns-then-is_blank-clause-said : goal.returns-then-is_blank-clause-said
returns-then-is_blank-clause-said c =
    let line = c.args.line.now in inl (refl, reading-blank line (reading-gaps line c.if-line-gt-LINE_LIMIT.false (sym c.is_blank.ensures ∙ c.if-is_blank.true)))

pub returns-clause-said : goal.returns-clause-said
returns-clause-said c =
    let line = c.args.line.now in
    let o = read_by said_by line in
    said-says line o (reading-form line o c.if-line-gt-LINE_LIMIT.false (sym c.is_blank.ensures ∙ c.if-is_blank.false) refl) c.read_command.result c.args.names.now c.read_command.new.names
    c.read_command.ensures.read

pub returns-clause-unsaid : goal.returns-clause-unsaid
returns-clause-unsaid c k =
    let line = c.args.line.now in
    let e = reading-form line None c.if-line-gt-LINE_LIMIT.false (sym c.is_blank.ensures ∙ c.if-is_blank.false) (sym (c.read_command.ensures.bad.0 k)) in
    (bad-unsaid line e, bad-unblank line e, c.read_command.ensures.unnamed k)
