-- An adapter over a reader or a writer of std (this project's own).
--   Counted S                  == what is adapted, and how often it failed
--   CountsFault before now r   == a failure was counted, and nothing else
use Rattle.std.specs.Prelude.{◌≡◌, ℕ, Result, is_err, if◌then◌else◌}
use Rattle.eir_io.specs.Causes.{raised}

-- what is adapted, and how often it failed
pub record Counted (S : Type 0) : Type 0 where
  pub inner : S
  pub faults : ℕ

-- the count is one higher where the call failed, and else as before
abbrev pub CountsFault : {T E : Type 0} → ℕ → ℕ → Result T E → Type 0
CountsFault before now result = now ≡ (if is_err result then raised before else before)
