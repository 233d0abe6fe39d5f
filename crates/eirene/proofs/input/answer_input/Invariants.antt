use Rattle.std.proofs.Common.{◌≡◌, ◌+◌, ◌≤◌, List, ℕ, length}
use Rattle.eirene.proofs.InputLaws.{HasRead}
use Rattle.eirene.proofs.input.answer_input.Given as goal

-- some bytes within the limit were read, at least one a turn, and the whole lines among them are answered
abbrev pub invariant-loop-turn : goal.invariant-loop-turn
invariant-loop-turn g l = (bytes : List ℕ)
    × HasRead (g.S.Source.left l.initial.input) (g.S.Source.left l.input) (g.K.Sink.written l.initial.out) (g.K.Sink.written l.out) l.script bytes
    × (length bytes + l.room ≡ 16777216) × (l._turn ≤ length bytes)
    × (g.S.Source.faults l.initial.input ≤ g.S.Source.faults l.input) × (g.K.Sink.faults l.initial.out ≤ g.K.Sink.faults l.out)
