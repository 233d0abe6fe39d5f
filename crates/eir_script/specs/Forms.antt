-- Parts of a line that are lent from it, seen as what they are (this project's own).
--   SkipsGaps b rest   == the rest is what stands behind the gaps that come first
--   StartsWord bytes   == a byte that may begin a word comes first
--   IsWordFirst b r    == r is the bytes of words that come first and what stands behind them, or they are too many
--   IsSignByte b       == the byte begins no word, null or arrow, and is no gap
--   lexeme_in t        == the lexeme
--   IsNext bytes r     == r is the first lexeme of the bytes and what comes behind it, their end, or that they have none
--   IsFirstRun bytes r == r is the word that comes first and what stands behind it, or nothing comes first that is one
--   has_no_lexeme o    == there are lexemes, and none is among them
--   pair_in p          == the two byte strings
--   IsShorter bytes r  == fewer bytes stand behind the token
--   bytes_left o       == the number of bytes that are left
--   argument_in a      == the argument
--   arguments_left o   == the arguments that follow a comma, or none
--   IsLeft bytes o     == what is left of the arguments behind the first one, or that they are no list
--   arguments_first r  == the arguments that begin with this one
--   written_in a       == the fact of an atom
--   IsAtom a           == its arguments can be read, and it is known whether one of them is a null
--   fact_in f p        == what is said of an example and a fact
--   said_in f          == what the form says
use Rattle.std.specs.Prelude.{◌≡◌, ℕ, ◌<◌, ◌≤◌, ◌==◌, Bool, true, false, List, [], ◌∷◌, ◌++◌, length, IsFalse, Option, Some, None, option_map, option_and_then}
use Rattle.std.specs.Borrow.{Bor}
use Rattle.std.specs.List.{list_any}
use Rattle.eir_script.specs.declared.token.Token.{Token as RustToken}
use Rattle.eir_script.specs.declared.token.Token.TheVariants.{Run, Label, Mark}
use Rattle.eir_script.specs.declared.token.Scanned.{Scanned}
use Rattle.eir_script.specs.declared.token.Scanned.TheVariants.{Next, End, Unknown}
use Rattle.eir_script.specs.declared.arguments.Argument.{Argument as RustArgument}
use Rattle.eir_script.specs.declared.arguments.Argument.TheVariants.{Constant, Labelled}
use Rattle.eir_script.specs.declared.form.Atom.{Atom}
use Rattle.eir_script.specs.declared.form.Form.{Form}
use Rattle.eir_script.specs.declared.form.Form.TheVariants as form
use Rattle.eir_script.specs.Grammar as said
use Rattle.eir_script.specs.Grammar.{AreGaps, AreWordBytes, StartsApart, is_gap, is_word_start, Argument, constant, labelled, WrittenFact, Said}
use Rattle.eir_script.specs.Reading.{Lexeme, run, label, mark, lexemes, and_lexeme, first_run, read_by, argument_of, arguments_of, is_labelled, written, declared_as}

-- no gap comes first
abbrev pub StartsUngapped : List ℕ → Type 0
StartsUngapped [] = Unit {0}
StartsUngapped (b ∷ bytes) = IsFalse (is_gap b)

-- the rest is what stands behind the gaps that come first
abbrev pub SkipsGaps : List ℕ → List ℕ → Type 0
SkipsGaps bytes rest = (gap : List ℕ) × AreGaps gap × (bytes ≡ gap ++ rest) × StartsUngapped rest

-- a byte that may begin a word comes first
abbrev pub StartsWord : List ℕ → Type 0
StartsWord [] = ⊥
StartsWord (b ∷ bytes) = is_word_start b ≡ true

-- the bytes of words that come first and what stands behind them; nothing where they are more than a word may have
abbrev pub IsWordFirst : List ℕ → Option (Bor (List ℕ) × Bor (List ℕ)) → Type 0
IsWordFirst bytes (Some p) = (bytes ≡ p.0.now ++ p.1.now) × AreWordBytes p.0.now × StartsApart p.1.now × (length p.0.now ≤ 64)
IsWordFirst bytes None = (w : List ℕ) × (rest : List ℕ) × (bytes ≡ w ++ rest) × AreWordBytes w × StartsApart rest × (64 < length w)

-- the byte begins no word, null or arrow, and is no gap
abbrev pub IsSignByte : ℕ → Type 0
IsSignByte b = (is_gap b ≡ false) × (is_word_start b ≡ false) × ((b == 63) ≡ false) × ((b == 45) ≡ false)

-- the lexeme
abbrev pub lexeme_in : RustToken → Lexeme
lexeme_in (Run w) = run w.now
lexeme_in (Label w) = label w.now
lexeme_in (Mark s) = mark s

-- the first lexeme of the bytes and what comes behind it, their end, or that they have none
abbrev pub IsNext : List ℕ → Scanned → Type 0
IsNext bytes (Next t rest) = lexemes bytes ≡ and_lexeme (lexeme_in t) (lexemes rest.now)
IsNext bytes End = lexemes bytes ≡ Some []
IsNext bytes Unknown = lexemes bytes ≡ None

-- the word that comes first and what stands behind it, or nothing comes first that is one
abbrev pub IsFirstRun : List ℕ → Option (Bor (List ℕ) × Bor (List ℕ)) → Type 0
IsFirstRun bytes (Some p) = lexemes bytes ≡ and_lexeme (run p.0.now) (lexemes p.1.now)
IsFirstRun bytes None = read_by first_run bytes ≡ None

-- there are lexemes, and none is among them
abbrev pub has_no_lexeme : Option (List Lexeme) → Bool
has_no_lexeme None = false
has_no_lexeme (Some []) = true
has_no_lexeme (Some (t ∷ ts)) = false

-- the two byte strings
abbrev pub pair_in : Bor (List ℕ) × Bor (List ℕ) → List ℕ × List ℕ
pair_in p = (p.0.now, p.1.now)

-- fewer bytes stand behind the token
abbrev pub IsShorter : List ℕ → Scanned → Type 0
IsShorter bytes (Next t rest) = length rest.now < length bytes
IsShorter bytes End = Unit {0}
IsShorter bytes Unknown = Unit {0}

-- the number of bytes that are left
abbrev pub bytes_left : Option (Bor (List ℕ)) → ℕ
bytes_left None = 0
bytes_left (Some rest) = length rest.now

-- the argument
abbrev pub argument_in : RustArgument → Argument
argument_in (Constant w) = constant w.now
argument_in (Labelled w) = labelled w.now

-- the arguments that follow a comma, or none behind the closing bracket
abbrev pub arguments_left : Option (Bor (List ℕ)) → Option (List Argument)
arguments_left None = Some []
arguments_left (Some rest) = read_by arguments_of rest.now

-- whatever argument comes first, the bytes behind it are read so: what is left comes behind a comma, or nothing does
-- behind the closing bracket; or the list is none
abbrev pub IsLeft : List ℕ → Option (Option (Bor (List ℕ))) → Type 0
IsLeft bytes (Some left) = (t : Lexeme) → option_and_then (λ ts. arguments_of (t ∷ ts)) (lexemes bytes) ≡ option_and_then (λ a. option_map (λ more. a ∷ more) (arguments_left left)) (argument_of t)
IsLeft bytes None = (t : Lexeme) → option_and_then (λ ts. arguments_of (t ∷ ts)) (lexemes bytes) ≡ None

-- the arguments that begin with this one
abbrev pub arguments_first : RustArgument × Option (Bor (List ℕ)) → Option (List Argument)
arguments_first p = option_map (λ more. argument_in p.0 ∷ more) (arguments_left p.1)

-- the fact of an atom
abbrev pub written_in : Atom → Option WrittenFact
written_in a = option_map (written a.relation.now) (read_by arguments_of a.arguments.now)

-- its arguments can be read, and it is known whether one of them is a null
abbrev pub IsAtom : Atom → Type 0
IsAtom a = (all : List Argument) × (read_by arguments_of a.arguments.now ≡ Some all) × (a.has_null ≡ list_any is_labelled all)

-- what is said of an example and a fact
abbrev pub fact_in : (List ℕ → WrittenFact → Said) → Bor (List ℕ) × Atom → Option Said
fact_in f p = option_map (f p.0.now) (written_in p.1)

-- what the form says
abbrev pub said_in : Form → Option Said
said_in (form.Declare side a) = option_and_then (declared_as side) (written_in a)
said_in (form.New e) = Some (said.new e.now)
said_in (form.Put e a) = option_map (said.put e.now) (written_in a)
said_in (form.Cut e a) = option_map (said.cut e.now) (written_in a)
said_in (form.Drop e) = Some (said.drop e.now)
said_in form.Undo = Some said.undo
said_in (form.Take d e) = Some (said.take d.now e.now)
said_in (form.Kind k) = Some (said.kind k)
said_in (form.Budget n) = Some (said.budget n)
said_in form.Fit = Some said.fit
said_in form.Tries = Some said.tries
said_in form.Reduce = Some said.reduce
said_in (form.Chase e) = Some (said.chase e.now)
said_in (form.Cert file) = Some (said.cert file.now)
said_in (form.Table r file) = Some (said.table r.now file.now)
said_in form.Exchange = Some said.exchange
