-- A shelf in memory (this project's own).
--   file_in files name  == the bytes of the file of that name
use Rattle.std.specs.Prelude.{ℕ, List, find, option_map, bytes_eq}
use Rattle.eir_io.specs.Files.{Files}

-- the bytes of the first pair of that name
abbrev pub file_in : List (List ℕ × List ℕ) → Files
file_in files name = option_map (λ file. file.1) (find (λ file. bytes_eq file.0 name) files)
