-- Exit statuses: their numbers and the texts on standard error (this project's own).
--   status_number s  == the exit status
--   status_text s    == what is printed on standard error, if anything
--   status_of stop   == the status of a run that stops so
use Rattle.std.specs.Prelude.{ℕ, List, Option, Some, None, codes}
use Rattle.eir_io.specs.declared.stop.Stop.{Stop}
use Rattle.eir_io.specs.declared.stop.Stop.TheVariants as stop
use Rattle.eirene.specs.declared.input.InputStop.{InputStop}
use Rattle.eirene.specs.declared.input.InputStop.TheVariants as input
use Rattle.eirene.specs.declared.status.Status.{Status}
use Rattle.eirene.specs.declared.status.Status.TheVariants.{Done, CheckNo, BadWords, ReadFault, WriteFault, Memory, InputTooLong, ShelfFault}

-- the exit status
abbrev pub status_number : Status → ℕ
status_number Done = 0
status_number CheckNo = 1
status_number BadWords = 2
status_number ReadFault = 3
status_number WriteFault = 4
status_number Memory = 5
status_number InputTooLong = 6
status_number ShelfFault = 7

-- what is printed on standard error, if anything
abbrev pub status_text : Status → Option (List ℕ)
status_text Done = None
status_text CheckNo = None
status_text BadWords = Some (codes "eirene: bad words")
status_text ReadFault = Some (codes "eirene: read fault")
status_text WriteFault = Some (codes "eirene: write fault")
status_text Memory = Some (codes "eirene: out of memory")
status_text InputTooLong = Some (codes "eirene: input too long")
status_text ShelfFault = Some (codes "eirene: shelf fault")

-- the status of a run that stops so
abbrev pub status_of : InputStop → Status
status_of input.Fault = ReadFault
status_of input.TooLong = InputTooLong
status_of (input.Reply stop.Failed) = WriteFault
status_of (input.Reply stop.Memory) = Memory
