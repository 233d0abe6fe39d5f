use Rattle.std.proofs.Common.{◌≡◌, ◌≤◌, ◌+◌, ◌++◌, ◌∙◌, ap, sym, ℕ, take, append_assoc, arith}
use Rattle.std.proofs.lemmas.Bool.{eqb-true}
use Rattle.std.specs.Prelude.{length}
use Rattle.eirene.specs.Steps.{AnswersPiece, cut_on}
use Rattle.eirene.proofs.KnownLaws.{on_ok, on_err, if_err}
use Rattle.eirene.proofs.StepLaws.{piece-start, piece-join, lines-stops, lines-flushed, lines-flush_stops, front-all, rest-length, rest-joined}
use Rattle.eirene.proofs.script.Script.take.Goals as goal

pub returns-in_err-taken-clause-err : goal.returns-in_err-taken-clause-err
returns-in_err-taken-clause-err g c tail held =
    let (front, joined, piece, unended, versions, faults) = c.loop-rest.invariant in
    let m = piece tail held in
    if_err _ c.from_residual.result
    (lines-stops c.args.self.now c.loop-rest.self _ _ _ tail front c.loop-rest.rest.now c.args.bytes.now c.requires.idle.written m joined (c.in_err-taken.ensures.err (cut_on tail front).tail m.held))

pub loop-rest-preserved : goal.loop-rest-preserved
loop-rest-preserved g c =
    let (front, joined, piece, unended, versions, faults) = c.loop-rest.invariant in
    let n : ℕ = c.in_ok-taken.taken in
    let some = c.in_ok-taken.ensures.some in
    let drawn = c.in_ok-taken.ensures.versions in
    let left = rest-length n c.loop-rest.rest.now some.1 in (
      front ++ take n c.loop-rest.rest.now,
      append_assoc front (take n c.loop-rest.rest.now) _ ∙ ap (λ s. front ++ s) (rest-joined n c.loop-rest.rest.now) ∙ joined,
      λ tail held. (let m = piece tail held in piece-join c.args.self.now c.loop-rest.self c.take_line.new.self _ _ _ tail front (take n c.loop-rest.rest.now) m (c.in_ok-taken.ensures.ok (cut_on tail front).tail m.held)),
      c.in_ok-taken.ensures.unended,
      omega arith,
      omega arith,
    )

pub take_line-requires-clause-held : goal.take_line-requires-clause-held
take_line-requires-clause-held g c =
    let (front, joined, piece, unended, versions, faults) = c.loop-rest.invariant in
    let (tail, held) = c.requires.held in
    (_, (piece tail held).held)
