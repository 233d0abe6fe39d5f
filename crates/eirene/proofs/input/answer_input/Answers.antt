use Rattle.std.proofs.Common.{◌≡◌, ◌≤◌, ◌<◌, ◌+◌, ◌++◌, subst, ℕ, List, [], take, length, arith}
use Rattle.std.proofs.lemmas.List.{length-append}
use Rattle.eir_script.specs.Lines.{cut}
use Rattle.eirene.specs.Scripts.{replies}
use Rattle.eirene.specs.Outcomes.{AppendsPrefix}
use Rattle.eirene.specs.Steps.{AnswersLines, cut_on}
use Rattle.eirene.proofs.InputLaws.{HasRead, HasRead-start, HasRead-more, HasVersions-read, AnswersAll-end, StopsWithin-start, StopsWithin-end, StopsWithin-piece, AnswersWithin-stop, eaten-none, take-short, length-taken, within-take}
use Rattle.eirene.proofs.input.answer_input.Goals as goal

pub returns-in_err-script-clause-stops : goal.returns-in_err-script-clause-stops
returns-in_err-script-clause-stops g c stop e = StopsWithin-start _ _ _

pub loop-turn-init : goal.loop-turn-init
loop-turn-init g c = ([], HasRead-start _ _ _ c.in_ok-script.ensures.workspace c.in_ok-script.ensures.cutter c.in_ok-script.ensures.pending, omega arith, omega arith, omega arith, omega arith)

pub end-requires-clause-versions : goal.end-requires-clause-versions
end-requires-clause-versions g c =
    let (bytes, read, joined, turns, later, faults) = c.loop-turn.invariant in HasVersions-read c.loop-turn.script.workspace bytes 1 read.left (omega arith)

pub returns-in_err-end-clause-stops : goal.returns-in_err-end-clause-stops
returns-in_err-end-clause-stops g c stop e =
    let (bytes, read, joined, turns, later, faults) = c.loop-turn.invariant in
    StopsWithin-end _ _ _ _ _ _ c.loop-turn.script bytes 16777216 read (eaten-none _ _ c.in_ok-count.count _ c.if-count-eq0.true c.in_ok-count.ensures.bytes.0) (c.in_ok-count.ensures.bytes.1 c.if-count-eq0.true (omega arith)) (omega arith)
    (c.in_err-end.ensures.err _ read.held)

pub returns-then-count-eq0-clause-ok : goal.returns-then-count-eq0-clause-ok
returns-then-count-eq0-clause-ok g c =
    let (bytes, read, joined, turns, later, faults) = c.loop-turn.invariant in
    AnswersAll-end _ _ _ _ _ _ c.loop-turn.script bytes 16777216 read (eaten-none _ _ c.in_ok-count.count _ c.if-count-eq0.true c.in_ok-count.ensures.bytes.0) (c.in_ok-count.ensures.bytes.1 c.if-count-eq0.true (omega arith)) (omega arith)
    (c.in_ok-end.ensures.ok _ read.held)

pub take-requires-clause-versions : goal.take-requires-clause-versions
take-requires-clause-versions g c =
    let (bytes, read, joined, turns, later, faults) = c.loop-turn.invariant in
    HasVersions-read c.loop-turn.script.workspace bytes _ read.left (let l = take-short c.min-within.result c.read.new.buf in let m = c.min-within.ensures in omega arith)

pub take-requires-clause-held : goal.take-requires-clause-held
take-requires-clause-held g c =
    let (bytes, read, joined, turns, later, faults) = c.loop-turn.invariant in (_, read.held)

pub returns-in_err-take-clause-stops : goal.returns-in_err-take-clause-stops
returns-in_err-take-clause-stops g c stop e =
    let (bytes, read, joined, turns, later, faults) = c.loop-turn.invariant in
    StopsWithin-piece _ _ _ _ _ _ c.loop-turn.script bytes (take c.in_ok-count.count c.read.new.buf) 16777216 c.loop-turn.room read c.in_ok-count.ensures.bytes.0 joined
    (subst (λ xs. AppendsPrefix (g.K.Sink.written c.loop-turn.out) (g.K.Sink.written c.take.new.out) (replies c.loop-turn.script.workspace (cut_on (cut bytes).tail xs).whole))
    (within-take c.min-within.result c.in_ok-count.count c.loop-turn.room c.read.new.buf c.min-within.ensures) (c.in_err-take.ensures.err (cut bytes).tail read.held))

pub returns-then-within-count-clause-too_long : goal.returns-then-within-count-clause-too_long
returns-then-within-count-clause-too_long g c e =
    let (bytes, read, joined, turns, later, faults) = c.loop-turn.invariant in
    let m = c.min-within.ensures in
    let l = length-taken c.in_ok-count.count c.read.new.buf c.in_ok-count.ensures.bound.0 in
    let past : c.loop-turn.room < length (take c.in_ok-count.count c.read.new.buf) = omega arith in
    AnswersWithin-stop _ _ _ _ _ _ c.loop-turn.script c.take.new.self bytes (take c.in_ok-count.count c.read.new.buf) 16777216 c.loop-turn.room read c.in_ok-count.ensures.bytes.0 joined past
    (subst (λ xs. AnswersLines c.loop-turn.script c.take.new.self (g.K.Sink.written c.loop-turn.out) (g.K.Sink.written c.take.new.out) (cut bytes).tail xs)
    (within-take c.min-within.result c.in_ok-count.count c.loop-turn.room c.read.new.buf m) (c.in_ok-take.ensures.ok (cut bytes).tail read.held))

pub loop-turn-preserved : goal.loop-turn-preserved
loop-turn-preserved g c =
    let (bytes, read, joined, turns, later, faults) = c.loop-turn.invariant in
    let piece : List ℕ = take c.in_ok-count.count c.read.new.buf in
    let m = c.min-within.ensures in
    let l = length-taken c.in_ok-count.count c.read.new.buf c.in_ok-count.ensures.bound.0 in
    let k : length (bytes ++ piece) ≡ length bytes + length piece = length-append bytes piece in
    let q : c.min-within.result ≡ c.in_ok-count.count = omega arith in
    let s = c.in_ok-count.ensures.cause.later in
    let t = c.in_ok-take.ensures.cause.later in (
      bytes ++ piece,
      HasRead-more _ _ _ _ _ _ c.loop-turn.script c.take.new.self bytes piece read c.in_ok-count.ensures.bytes.0
          (subst (λ n. AnswersLines c.loop-turn.script c.take.new.self (g.K.Sink.written c.loop-turn.out) (g.K.Sink.written c.take.new.out) (cut bytes).tail (take n c.read.new.buf)) q
          (c.in_ok-take.ensures.ok (cut bytes).tail read.held)),
      omega arith,
      omega arith,
      omega arith,
      omega arith,
    )
