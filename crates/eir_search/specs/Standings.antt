-- What a contract sees of a search and of a limit of tries (this project's own).
--   Standing P  == where a search stands: the problem, the choices that are placed, and the choice to try next
--   Allowance   == a limit of tries, and how many of them were made
use Rattle.std.specs.Prelude.{ℕ, List}

-- where a search stands: the problem, the choices that are placed, and the choice to try next
pub record Standing (P : Type 0) : Type 0 where
  pub problem : P
  pub choices : List ℕ
  pub next : ℕ

-- a limit of tries, and how many of them were made
pub record Allowance : Type 0 where
  pub limit : ℕ
  pub used : ℕ
