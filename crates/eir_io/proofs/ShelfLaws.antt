-- The files of a shelf in memory after one of its pairs was found, replaced or appended.
use Rattle.std.proofs.Common.{◌≡◌, ◌≤◌, ℕ, List, [], ◌∷◌, ◌++◌, length, get_or, Bool, true, false, cond}
use Rattle.std.proofs.Common.{◌∙◌, sym, ap, subst, refl, arith}
use Rattle.std.specs.Prelude.{Option, Some, None, option_map, position, find, bytes_eq, slice_get, slice_set}
use Rattle.std.specs.Option.{option_or}
use Rattle.std.specs.List.{position_or_len}
use Rattle.std.proofs.lemmas.Grind.{common_steps}
use Rattle.std.proofs.lemmas.List.Folds.{find_at, find-set, find_past, find-append}
use Rattle.std.proofs.lemmas.List.Quantifiers.{position-Some}
use Rattle.std.proofs.lemmas.Option.{slice_get-get_or, slice_get_past}
use Rattle.std.proofs.lemmas.Slice.Eq.{bytes_eq-Decides}
use Rattle.eir_io.specs.Files.{Files, with_file}
use Rattle.eir_io.specs.Shelves.{file_in}

-- a pair of a name and bytes
abbrev Pair : Type 0
Pair = List ℕ × List ℕ

-- whether the pair has that name
abbrev has_name : List ℕ → Pair → Bool
has_name name file = bytes_eq file.0 name

-- the first place that passes is the one that is told
position_or_len-Some : (p : Pair → Bool) (files : List Pair) (i : ℕ) → position p files ≡ Some i
    → i ≡ position_or_len p files
position_or_len-Some p files i at = grind (arith, common_steps)

-- where no place is told, none passes
position_or_len-None : (p : Pair → Bool) (files : List Pair) → position p files ≡ None
    → length files ≤ position_or_len p files
position_or_len-None p files none = grind (arith, common_steps)

-- where the place is known, the first that passes is the one there
find-place : (p : Pair → Bool) (files : List Pair) (i : ℕ) (d : Pair) → position p files ≡ Some i
    → find p files ≡ Some (get_or files i d)
find-place p files i d at =
    find_at p files
    ∙ ap (slice_get files) (sym (position_or_len-Some p files i at))
    ∙ slice_get-get_or files i d (position-Some p files i d at).0

-- where no place is told, none is found
find-none : (p : Pair → Bool) (files : List Pair) → position p files ≡ None → find p files ≡ None
find-none p files none =
    find_at p files ∙ slice_get_past files (position_or_len p files) (position_or_len-None p files none)

-- where the place is known, the file is the one there
pub file_in-place : (files : List Pair) (name : List ℕ) (i : ℕ) (d : Pair)
    → position (has_name name) files ≡ Some i → file_in files name ≡ Some (get_or files i d).1
file_in-place files name i d at = ap (option_map (λ (file : Pair). file.1)) (find-place (has_name name) files i d at)

-- where there is no place, there is no file
pub file_in-none : (files : List Pair) (name : List ℕ) → position (has_name name) files ≡ None
    → file_in files name ≡ None
file_in-none files name none = ap (option_map (λ (file : Pair). file.1)) (find-none (has_name name) files none)

-- what has one name does not have another
other_name : (a name n : List ℕ) → bytes_eq a name ≡ true → bytes_eq name n ≡ false → bytes_eq a n ≡ false
other_name a name n same other = rw ((bytes_eq-Decides a name).0 same) other

-- the file of the name under which a pair was put in
with_file-same : (files : Files) (name bytes n : List ℕ) (found : Option (List ℕ))
    → bytes_eq name n ≡ true → found ≡ Some bytes
    → found ≡ with_file files name bytes n
with_file-same files name bytes n found same e = grind (arith, common_steps)

-- the files of other names
with_file-other : (files : Files) (name bytes n : List ℕ) (found : Option (List ℕ))
    → bytes_eq name n ≡ false → found ≡ files n
    → found ≡ with_file files name bytes n
with_file-other files name bytes n found other e = grind (arith, common_steps)

-- a claim that holds at each answer of a test
by_answer : (P : Type 0) (b : Bool) → (b ≡ true → P) → (b ≡ false → P) → P
by_answer P true at_true at_false = at_true refl
by_answer P false at_true at_false = at_false refl

-- the first of two options, where the second is none
option_or-none : (found : Option Pair) → option_or found None ≡ found
option_or-none None = refl
option_or-none (Some file) = refl

-- a pair that replaces the one of its name
pub file_in-set : (files : List Pair) (name bytes : List ℕ) (i : ℕ) → position (has_name name) files ≡ Some i
    → (n : List ℕ) → file_in (slice_set files i (name, bytes)) n ≡ with_file (file_in files) name bytes n
file_in-set files name bytes i at n =
    let d : Pair = (name, bytes) in
    let bytes_of : Option Pair → Option (List ℕ) = option_map (λ (file : Pair). file.1) in
    by_answer _ (bytes_eq name n)
    (λ same.
    let at_n : position (has_name n) files ≡ Some i =
    subst (λ (m : List ℕ). position (has_name m) files ≡ Some i) ((bytes_eq-Decides name n).0 same) at in
    with_file-same (file_in files) name bytes n _ same
    (ap bytes_of (find-set (has_name n) files i d
    (position_or_len-Some (has_name n) files i at_n) (position-Some (has_name name) files i d at).0 same)))
    (λ other. with_file-other (file_in files) name bytes n _ other
    (ap bytes_of (find_past (has_name n) files i d d
    (other_name (get_or files i d).0 name n (position-Some (has_name name) files i d at).1 other) other)))

-- a pair of a new name behind the others
pub file_in-append : (files : List Pair) (name bytes : List ℕ) → position (has_name name) files ≡ None
    → (n : List ℕ) → file_in (files ++ (name, bytes) ∷ []) n ≡ with_file (file_in files) name bytes n
file_in-append files name bytes none n =
    let d : Pair = (name, bytes) in
    let bytes_of : Option Pair → Option (List ℕ) = option_map (λ (file : Pair). file.1) in
    let last : Bool → Option Pair = λ b. cond b (Some d) None in
    by_answer _ (bytes_eq name n)
    (λ same.
    let none_n : position (has_name n) files ≡ None =
    subst (λ (m : List ℕ). position (has_name m) files ≡ None) ((bytes_eq-Decides name n).0 same) none in
    with_file-same (file_in files) name bytes n _ same
    (ap bytes_of (find-append (has_name n) files (d ∷ [])
    ∙ ap (λ (found : Option Pair). option_or found (last (bytes_eq name n))) (find-none (has_name n) files none_n)
    ∙ ap last same)))
    (λ other. with_file-other (file_in files) name bytes n _ other
    (ap bytes_of (find-append (has_name n) files (d ∷ [])
    ∙ ap (λ (b : Bool). option_or (find (has_name n) files) (last b)) other
    ∙ option_or-none (find (has_name n) files))))
