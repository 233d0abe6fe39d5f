use Rattle.std.proofs.Common.{◌≡◌, ◌≤◌, ◌+◌, ap, ◌∙◌, sym, subst, true, false, ℕ, List, [], ◌∷◌, ◌++◌, take, drop, length, take-append-drop, arith}
use Rattle.eir_script.specs.Lines.{cut_at, trimmed}
use Rattle.eir_script.specs.Pieces.{Holds, IsTaken}
use Rattle.eirene.specs.Workspaces.{Workspace}
use Rattle.eirene.specs.Steps.{cut_on}
use Rattle.eirene.proofs.KnownLaws.{if_err}
use Rattle.eirene.proofs.StepLaws.{piece-none, piece-line, piece-stops, piece-some, take-some, next-drawn, not-true, not-false}
use Rattle.eirene.proofs.script.Script.take_line.Goals as goal

pub returns-then-not-fed-clause-ok : goal.returns-then-not-fed-clause-ok
returns-then-not-fed-clause-ok g c tail held =
    piece-none c.args.self.now c.feed-fed.new.self _ tail (take c.feed-fed.result.taken c.args.bytes.now)
    (subst (λ b. IsTaken c.feed-fed.new.self [] (cut_on tail (take c.feed-fed.result.taken c.args.bytes.now)) b) (not-true c.feed-fed.result.line c.if-not-fed.true) (c.feed-fed.ensures.cut (cut_at [] tail) held))

pub returns-in_err-answer-clause-err : goal.returns-in_err-answer-clause-err
returns-in_err-answer-clause-err g c tail held =
    let (line, holds, cuts) = subst (λ b. IsTaken c.feed-fed.new.self [] (cut_on tail (take c.feed-fed.result.taken c.args.bytes.now)) b) (not-false c.feed-fed.result.line c.if-not-fed.false) (c.feed-fed.ensures.cut (cut_at [] tail) held) in
    if_err _ c.from_residual.result
    (piece-stops c.args.self.now _ _ tail (take c.feed-fed.result.taken c.args.bytes.now) (drop c.feed-fed.result.taken c.args.bytes.now) c.args.bytes.now line cuts
    (take-append-drop c.feed-fed.result.taken c.args.bytes.now) (c.in_err-answer.ensures.err line holds))

pub returns-clause-some : goal.returns-clause-some
returns-clause-some g c =
    let (tail, held) = c.requires.held in
    let (line, holds, cuts) = subst (λ b. IsTaken c.feed-fed.new.self [] (cut_on tail (take c.feed-fed.result.taken c.args.bytes.now)) b) (not-false c.feed-fed.result.line c.if-not-fed.false) (c.feed-fed.ensures.cut (cut_at [] tail) held) in
    (take-some c.feed-fed.result.taken c.args.bytes.now (piece-some tail (take c.feed-fed.result.taken c.args.bytes.now) line cuts), c.feed-fed.ensures.within)

pub returns-clause-versions : goal.returns-clause-versions
returns-clause-versions g c =
    let (tail, held) = c.requires.held in
    let (line, holds, cuts) = subst (λ b. IsTaken c.feed-fed.new.self [] (cut_on tail (take c.feed-fed.result.taken c.args.bytes.now)) b) (not-false c.feed-fed.result.line c.if-not-fed.false) (c.feed-fed.ensures.cut (cut_at [] tail) held) in
    let e = ap (λ (w : Workspace). w.work.drawn) (c.in_ok-answer.ensures.next line holds) in
    let l = next-drawn (trimmed line) c.args.self.now.workspace in
    omega arith

pub returns-clause-ok : goal.returns-clause-ok
returns-clause-ok g c tail held =
    let (line, holds, cuts) = subst (λ b. IsTaken c.feed-fed.new.self [] (cut_on tail (take c.feed-fed.result.taken c.args.bytes.now)) b) (not-false c.feed-fed.result.line c.if-not-fed.false) (c.feed-fed.ensures.cut (cut_at [] tail) held) in
    piece-line c.args.self.now c.answer.new.self _ _ tail (take c.feed-fed.result.taken c.args.bytes.now) line cuts (c.in_ok-answer.ensures.ok line holds) (c.in_ok-answer.ensures.next line holds) c.in_ok-answer.ensures.begun
