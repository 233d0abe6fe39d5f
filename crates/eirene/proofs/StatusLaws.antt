-- The stop that a status tells.
use Rattle.std.proofs.Common.{◌≡◌, refl}
use Rattle.eir_io.specs.declared.stop.Stop.TheVariants as stop
use Rattle.eirene.specs.declared.input.InputStop.{InputStop}
use Rattle.eirene.specs.declared.input.InputStop.TheVariants as input
use Rattle.eirene.specs.declared.status.Status.TheVariants.{InputTooLong}
use Rattle.eirene.specs.Statuses.{status_of}

-- the status of a long input comes of a long input alone
pub stop-too_long : (s : InputStop) → status_of s ≡ InputTooLong → s ≡ input.TooLong
stop-too_long input.Fault e = cc
stop-too_long input.TooLong e = refl
stop-too_long (input.Reply stop.Failed) e = cc
stop-too_long (input.Reply stop.Memory) e = cc
