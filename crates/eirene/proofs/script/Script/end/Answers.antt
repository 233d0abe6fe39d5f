use Rattle.eirene.proofs.KnownLaws.{on_ok, on_err, if_err}
use Rattle.eirene.proofs.StepLaws.{end-appends, end-stops, end-flush_stops, end-none, not-so}
use Rattle.eirene.proofs.script.Script.end.Goals as goal

pub returns-in_err-answer-clause-err : goal.returns-in_err-answer-clause-err
returns-in_err-answer-clause-err g c tail held =
    if_err _ c.from_residual.result
    (end-stops c.args.self.now.workspace c.args.self.now.cutter _ _ c.args.self.now.pending tail held c.requires.idle.unended (not-so _ _ c.empty.ensures c.if-empty.false) c.requires.idle.written (c.in_err-answer.ensures.err tail held))

pub returns-clause-ok : goal.returns-clause-ok
returns-clause-ok g c tail held =
    on_ok _ _ c.flush.result
    (λ h. end-appends c.args.self.now.workspace c.args.self.now.cutter _ _ _ c.args.self.now.pending _ tail held c.requires.idle.unended (not-so _ _ c.empty.ensures c.if-empty.false) c.requires.idle.written (c.in_ok-answer.ensures.ok tail held) h.0)
    c.flush.ensures.ok

pub returns-clause-err : goal.returns-clause-err
returns-clause-err g c tail held =
    on_err _ _ c.flush.result
    (end-flush_stops c.args.self.now.workspace c.args.self.now.cutter _ _ _ c.args.self.now.pending _ tail held c.requires.idle.unended (not-so _ _ c.empty.ensures c.if-empty.false) c.requires.idle.written (c.in_ok-answer.ensures.ok tail held))
    c.flush.ensures.err

pub returns-then-empty-clause-ok : goal.returns-then-empty-clause-ok
returns-then-empty-clause-ok g c tail held = end-none c.args.self.now.workspace c.args.self.now.cutter _ tail held (c.empty.ensures.0 c.if-empty.true)
