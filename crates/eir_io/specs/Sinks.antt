-- A sink in memory, and what a write makes of it (this project's own).
--   MemorySink                  == what was written, the most that a write takes, which writes fail, both counts
--   sink_after_write s n bytes  == the sink that took n of the bytes
--   sink_after_fault s          == the sink whose write failed
use Rattle.std.specs.Prelude.{ℕ, List, take, ◌++◌}
use Rattle.eir_io.specs.Causes.{raised}

-- what was written, the most bytes of a write, the numbers of the writes that fail, counts of writes and of faults
pub record MemorySink : Type 0 where
  pub written : List ℕ
  pub piece : ℕ
  pub fails : List ℕ
  pub calls : ℕ
  pub faults : ℕ

-- the sink that took n of the bytes
abbrev pub sink_after_write : MemorySink → ℕ → List ℕ → MemorySink
sink_after_write s n bytes = record s { written = s.written ++ take n bytes; calls = raised s.calls }

-- the sink whose write failed
abbrev pub sink_after_fault : MemorySink → MemorySink
sink_after_fault s = record s { calls = raised s.calls; faults = raised s.faults }
