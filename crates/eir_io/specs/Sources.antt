-- A source in memory, and what a read makes of it (this project's own).
--   MemorySource           == the bytes left, the most that a read gives, which reads fail, both counts
--   read_count s room      == how many bytes a read into a buffer of this length gives
--   source_after_read s n  == the source that gave n bytes
--   source_after_fault s   == the source whose read failed
use Rattle.std.specs.Prelude.{ℕ, List, min, length, drop}
use Rattle.eir_io.specs.Causes.{raised}

-- the bytes left, the most bytes of a read, the numbers of the reads that fail, counts of reads and of faults
pub record MemorySource : Type 0 where
  pub left : List ℕ
  pub piece : ℕ
  pub fails : List ℕ
  pub calls : ℕ
  pub faults : ℕ

-- how many bytes a read into a buffer of this length gives: the least of this, a piece, and what is left
abbrev pub read_count : MemorySource → ℕ → ℕ
read_count s room = min (min room s.piece) (length s.left)

-- the source that gave n bytes
abbrev pub source_after_read : MemorySource → ℕ → MemorySource
source_after_read s n = record s { left = drop n s.left; calls = raised s.calls }

-- the source whose read failed
abbrev pub source_after_fault : MemorySource → MemorySource
source_after_fault s = record s { calls = raised s.calls; faults = raised s.faults }
