-- Named files, and what a call does to them where they are told (this project's own).
--   Files                       == from a name, which is a list of bytes, to the bytes of its file
--   with_file files name bytes  == the files with these bytes under that name
--   SameFiles a b               == both have the same file at each name, or none
--   KeepsFiles old new          == told files stay
--   Stores old new name bytes   == told files get these bytes under that name, and keep the others
use Rattle.std.specs.Prelude.{◌≡◌, ℕ, List, Option, Some, None, bytes_eq, if◌then◌else◌, ⊤}

-- from a name to the bytes of its file
abbrev pub Files : Type 0
Files = List ℕ → Option (List ℕ)

-- the files with these bytes under that name
abbrev pub with_file : Files → List ℕ → List ℕ → Files
with_file files name bytes n = if bytes_eq name n then Some bytes else files n

-- both have the same file at each name, or none
abbrev pub SameFiles : Files → Files → Type 0
SameFiles a b = (n : List ℕ) → a n ≡ b n

-- told files stay
abbrev pub KeepsFiles : Option Files → Option Files → Type 0
KeepsFiles None new = ⊤
KeepsFiles (Some a) None = ⊥
KeepsFiles (Some a) (Some b) = SameFiles b a

-- told files get these bytes under that name, and keep the others
abbrev pub Stores : Option Files → Option Files → List ℕ → List ℕ → Type 0
Stores None new name bytes = ⊤
Stores (Some a) None name bytes = ⊥
Stores (Some a) (Some b) name bytes = SameFiles b (with_file a name bytes)
