-- Counts of faults, and what a call says of the count of what it was given (this project's own).
--   raised n                   == one more than n, up to the last value of a 64-bit counter
--   Rose before now            == the count rose, or stands at its last value
--   HasCause before now r      == the count has not fallen, and rose where the call failed
--   HasStopCause before now r  == the count has not fallen, and rose where the call answered Failed
use Rattle.std.specs.Prelude.{ℕ, ◌+◌, ◌-◌, ◌^◌, ◌≤◌, min, Result, OnErr, IsErrOf}
use Rattle.eir_io.specs.declared.stop.Stop.{Stop}
use Rattle.eir_io.specs.declared.stop.Stop.TheVariants.{Failed}

-- one more than n, up to the last value of a 64-bit counter
abbrev pub raised : ℕ → ℕ
raised n = min (n + 1) (2 ^ 64 - 1)

-- the count rose, or stands at its last value
abbrev pub Rose : ℕ → ℕ → Type 0
Rose before now = raised before ≤ now

-- the count has not fallen, and rose where the call failed
pub record HasCause {T E : Type 0} (before now : ℕ) (result : Result T E) : Type 0 where
  pub later : before ≤ now
  pub failed : OnErr result (Rose before now)

-- the count has not fallen, and rose where the call answered Failed
pub record HasStopCause {T : Type 0} (before now : ℕ) (result : Result T Stop) : Type 0 where
  pub later : before ≤ now
  pub failed : IsErrOf result Failed → Rose before now
