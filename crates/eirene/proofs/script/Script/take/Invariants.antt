use Rattle.std.proofs.Common.{◌≡◌, ◌≤◌, ◌++◌, false, List, ℕ, length}
use Rattle.eir_script.specs.Pieces.{Holds}
use Rattle.eirene.specs.Steps.{AnswersPiece}
use Rattle.eirene.specs.Versions.{HasVersions}
use Rattle.eirene.proofs.script.Script.take.Given as goal

-- some of the bytes were taken, the lines that they end are answered, and there are versions for the others
abbrev pub invariant-loop-rest : goal.invariant-loop-rest
invariant-loop-rest g l = (front : List ℕ) × (front ++ l.rest ≡ l.bytes)
    × ((tail : List ℕ) → Holds l.initial.self.cutter tail → AnswersPiece l.initial.self l.self (g.K.Sink.written l.initial.out) (g.K.Sink.written l.out) tail front)
    × (l.self.cutter.ended ≡ false) × HasVersions l.self.workspace (length l.rest)
    × (g.K.Sink.faults l.initial.out ≤ g.K.Sink.faults l.out)

abbrev pub decreases-loop-rest : goal.decreases-loop-rest
decreases-loop-rest g l = length l.rest
