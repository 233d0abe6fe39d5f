-- What a line of a script says, by how it is spelled; no reader enters here (this project's own).
--   Token             == a word, a name, a labelled null or a sign
--   IsWord bytes      == 1 to 64 letters, digits, underscores and dots, no dot first
--   token_bytes t     == the spelling of a token
--   Spells ts bytes   == the bytes are these tokens in order, with gaps before, between and behind them
--   Argument          == a constant or a labelled null, by its name
--   WrittenFact       == a relation and arguments, by their names
--   Said              == what a line says, its names as they are written
--   tokens_of s       == the tokens of what is said
--   IsWhole s         == it has at least one column or argument, and its budget is within the range
--   IsSpelled s bytes == the bytes spell s
--   Says line s       == the line has at most 4,096 bytes and spells s
--   IsBlank line      == the line has at most 4,096 bytes: gaps alone, or gaps and a comment
use Rattle.std.specs.Prelude.{◌≡◌, ℕ, ◌≤◌, ◌⊎◌, Bool, not, ◌&&◌, ◌||◌, ◌==◌, List, [], ◌∷◌, ◌++◌, map, length, nat_le, IsTrue, IsFalse, codes, decimal}
use Rattle.std.specs.List.{AllByRecursion}
use Rattle.eir_term.specs.declared.val.Side.{Side}
use Rattle.eir_term.specs.declared.val.Side.TheVariants.{Source, Target}
use Rattle.eir_term.specs.declared.val.Kind.{Kind}
use Rattle.eir_term.specs.declared.val.Kind.TheVariants.{Glav, Gav}
use Rattle.eir_script.specs.declared.token.Sign.{Sign}
use Rattle.eir_script.specs.declared.token.Sign.TheVariants.{OpenBracket, CloseBracket, Comma, Ampersand, Dot, Arrow}

-- Words are keywords, numbers and the names of files and designers; names are those of relations, columns, examples
-- and constants. The two are spelled alike.
pub data Token : Type 0 where
  word : List ℕ → Token
  name : List ℕ → Token
  labelled_null : List ℕ → Token
  sign : Sign → Token

-- a space or a tab
abbrev pub is_gap : ℕ → Bool
is_gap b = (b == 32) || (b == 9)

-- low to high, both with
abbrev pub between : ℕ → ℕ → ℕ → Bool
between low high b = nat_le low b && nat_le b high

-- a letter, a digit, the underscore or the dot
abbrev pub is_word_byte : ℕ → Bool
is_word_byte b = between 65 90 b || between 97 122 b || between 48 57 b || (b == 95) || (b == 46)

-- one of these but the dot
abbrev pub is_word_start : ℕ → Bool
is_word_start b = is_word_byte b && not (b == 46)

-- each of the bytes may stand in a word
abbrev pub AreWordBytes : List ℕ → Type 0
AreWordBytes bytes = AllByRecursion (λ b. IsTrue (is_word_byte b)) bytes

-- a first byte that may begin a word, and others that may stand in it
abbrev pub IsRun : List ℕ → Type 0
IsRun [] = ⊥
IsRun (b ∷ bytes) = IsTrue (is_word_start b) × AreWordBytes bytes

-- such a run of at most 64 bytes
abbrev pub IsWord : List ℕ → Type 0
IsWord bytes = IsRun bytes × (length bytes ≤ 64)

-- the bytes of a sign
abbrev pub sign_bytes : Sign → List ℕ
sign_bytes OpenBracket = codes "("
sign_bytes CloseBracket = codes ")"
sign_bytes Comma = codes ","
sign_bytes Ampersand = codes "&"
sign_bytes Dot = codes "."
sign_bytes Arrow = codes "->"

-- a null has a question mark directly before its name
abbrev pub token_bytes : Token → List ℕ
token_bytes (word w) = w
token_bytes (name w) = w
token_bytes (labelled_null w) = codes "?" ++ w
token_bytes (sign s) = sign_bytes s

-- what is spelled as a word is one
abbrev pub IsToken : Token → Type 0
IsToken (word w) = IsWord w
IsToken (name w) = IsWord w
IsToken (labelled_null w) = IsWord w
IsToken (sign s) = Unit {0}

-- no byte of a word comes first
abbrev pub StartsApart : List ℕ → Type 0
StartsApart [] = Unit {0}
StartsApart (b ∷ bytes) = IsFalse (is_word_byte b)

-- a word goes on as long as bytes of words follow
abbrev pub EndsBefore : Token → List ℕ → Type 0
EndsBefore (word w) rest = StartsApart rest
EndsBefore (name w) rest = StartsApart rest
EndsBefore (labelled_null w) rest = StartsApart rest
EndsBefore (sign s) rest = Unit {0}

-- spaces and tabs alone
abbrev pub AreGaps : List ℕ → Type 0
AreGaps bytes = AllByRecursion (λ b. IsTrue (is_gap b)) bytes

-- the bytes are these tokens in order, with gaps before, between and behind them
abbrev pub Spells : List Token → List ℕ → Type 0
Spells [] bytes = AreGaps bytes
Spells (t ∷ ts) bytes = (gap : List ℕ) × (rest : List ℕ) × AreGaps gap × (bytes ≡ gap ++ (token_bytes t ++ rest)) × IsToken t × EndsBefore t rest × Spells ts rest

-- an argument of a fact: a constant or a labelled null, by its name
pub data Argument : Type 0 where
  constant : List ℕ → Argument
  labelled : List ℕ → Argument

-- a fact as it is written
pub record WrittenFact : Type 0 where
  pub relation : List ℕ
  pub arguments : List Argument

-- what a line says, its names as they are written
pub data Said : Type 0 where
  declare : Side → List ℕ → List (List ℕ) → Said
  new : List ℕ → Said
  put : List ℕ → WrittenFact → Said
  cut : List ℕ → WrittenFact → Said
  drop : List ℕ → Said
  undo : Said
  take : List ℕ → List ℕ → Said
  kind : Kind → Said
  budget : ℕ → Said
  fit : Said
  tries : Said
  reduce : Said
  chase : List ℕ → Said
  cert : List ℕ → Said
  table : List ℕ → List ℕ → Said
  exchange : Said

-- the word that begins a declaration
abbrev pub side_word : Side → List ℕ
side_word Source = codes "source"
side_word Target = codes "target"

-- the word for a kind
abbrev pub kind_word : Kind → List ℕ
kind_word Glav = codes "glav"
kind_word Gav = codes "gav"

-- the token of an argument
abbrev pub argument_token : Argument → Token
argument_token (constant w) = name w
argument_token (labelled w) = labelled_null w

-- these tokens with commas between them
abbrev pub listed : List Token → List Token
listed [] = []
listed (t ∷ []) = t ∷ []
listed (t ∷ u ∷ ts) = t ∷ sign Comma ∷ listed (u ∷ ts)

-- a name, and these tokens between brackets
abbrev pub applied : List ℕ → List Token → List Token
applied r ts = name r ∷ sign OpenBracket ∷ listed ts ++ sign CloseBracket ∷ []

-- the tokens of a fact
abbrev pub fact_tokens : WrittenFact → List Token
fact_tokens f = applied f.relation (map argument_token f.arguments)

-- the tokens of what is said; a number has its one decimal spelling
abbrev pub tokens_of : Said → List Token
tokens_of (declare side r columns) = word (side_word side) ∷ applied r (map name columns)
tokens_of (new e) = word (codes "new") ∷ name e ∷ []
tokens_of (put e f) = word (codes "put") ∷ name e ∷ fact_tokens f
tokens_of (cut e f) = word (codes "cut") ∷ name e ∷ fact_tokens f
tokens_of (drop e) = word (codes "drop") ∷ name e ∷ []
tokens_of undo = word (codes "undo") ∷ []
tokens_of (take d e) = word (codes "take") ∷ word d ∷ name e ∷ []
tokens_of (kind k) = word (codes "kind") ∷ word (kind_word k) ∷ []
tokens_of (budget n) = word (codes "budget") ∷ word (decimal n) ∷ []
tokens_of fit = word (codes "fit") ∷ []
tokens_of tries = word (codes "tries") ∷ []
tokens_of reduce = word (codes "reduce") ∷ []
tokens_of (chase e) = word (codes "chase") ∷ name e ∷ []
tokens_of (cert file) = word (codes "cert") ∷ word file ∷ []
tokens_of (table r file) = word (codes "table") ∷ name r ∷ word file ∷ []
tokens_of exchange = word (codes "exchange") ∷ []

-- there is at least one
abbrev pub IsFilled : {X : Type 0} → List X → Type 0
IsFilled [] = ⊥
IsFilled (x ∷ xs) = Unit {0}

-- at least one column or argument, and a budget of 1 to 1,000,000,000,000
abbrev pub IsWhole : Said → Type 0
IsWhole (declare side r columns) = IsFilled columns
IsWhole (put e f) = IsFilled f.arguments
IsWhole (cut e f) = IsFilled f.arguments
IsWhole (budget n) = (1 ≤ n) × (n ≤ 1000000000000)
IsWhole s = Unit {0}

-- the bytes spell s, whatever their number
pub record IsSpelled (s : Said) (bytes : List ℕ) : Type 0 where
  pub whole : IsWhole s
  pub spelled : Spells (tokens_of s) bytes

-- a line of a script says this
pub record Says (line : List ℕ) (s : Said) : Type 0 where
  pub short : length line ≤ 4096
  pub spelled : IsSpelled s line

-- gaps, and behind them nothing or a comment, which begins with '#'
pub record IsBlank (line : List ℕ) : Type 0 where
  pub short : length line ≤ 4096
  pub gap : List ℕ
  pub rest : List ℕ
  pub gaps : AreGaps gap
  pub split : line ≡ gap ++ rest
  pub comment : (rest ≡ []) ⊎ ((more : List ℕ) × (rest ≡ codes "#" ++ more))
