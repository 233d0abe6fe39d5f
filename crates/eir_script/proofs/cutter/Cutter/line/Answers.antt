use Rattle.std.proofs.Common.{◌≡◌, ◌≤◌, ◌<◌, ℕ, List, length, take, ◌∙◌, ap, subst}
use Rattle.eir_script.specs.Lines.{trimmed}
use Rattle.eir_script.specs.Pieces.{Taking}
use Rattle.eir_script.proofs.CutterLaws.{long-held, short-held}
use Rattle.eir_script.proofs.cutter.Cutter.line.Goals as goal

pub returns-then-line-gt-LINE_LIMIT : goal.returns-then-line-gt-LINE_LIMIT
returns-then-line-gt-LINE_LIMIT c line h =
    let held : c.deref.result.now ≡ take 4098 line = c.deref.ensures.value ∙ ap (λ (t : Taking). t.bytes) c.self.view_is ∙ h in
    long-held c.deref.result.now line held (subst (λ (xs : List ℕ). 4096 < length xs) c.without_return-line.ensures c.if-line-gt-LINE_LIMIT.true)

pub returns-else-line-gt-LINE_LIMIT : goal.returns-else-line-gt-LINE_LIMIT
returns-else-line-gt-LINE_LIMIT c line h =
    let held : c.deref.result.now ≡ take 4098 line = c.deref.ensures.value ∙ ap (λ (t : Taking). t.bytes) c.self.view_is ∙ h in
    let short : length (trimmed c.deref.result.now) ≤ 4096 = subst (λ (xs : List ℕ). length xs ≤ 4096) c.without_return-line.ensures c.if-line-gt-LINE_LIMIT.false in
    let same = short-held c.deref.result.now line held short in
    (c.without_return-line.ensures ∙ same, subst (λ (xs : List ℕ). length xs ≤ 4096) same short)
