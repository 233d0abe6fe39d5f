-- How a line is read, as functions that compute (this project's own). By the laws of the grammar a line is read as s
-- exactly where it says s, and as blank exactly where it is blank.
--   Lexeme               == what a scanner tells apart: a run of a word, which may be a word or a name, a null, a sign
--   lexemes bytes        == the lexemes of the bytes, or nothing where a byte stands outside them
--   keywords             == a row for each word that a line may begin with
--   said_after k ts      == what a line with this keyword says, by the lexemes behind it
--   said_by ts           == what a line with these lexemes says, or nothing
--   read_by f bytes      == f of the lexemes of the bytes
--   Reading, reading     == a line is bad, blank or says s
use Rattle.std.specs.Prelude.{ℕ, ◌^◌, Bool, true, false, cond, ◌&&◌, ◌||◌, ◌==◌, List, [], ◌∷◌, ◌++◌, map, length, nat_le, nat_lt, codes, decimal, Option, Some, None, option_and_then, option_map, find}
use Rattle.std.specs.List.{list_any}
use Rattle.std.specs.Str.{bytes_eq}
use Rattle.std.specs.Str.Parse.{digits_value}
use Rattle.eir_term.specs.declared.val.Side.{Side}
use Rattle.eir_term.specs.declared.val.Side.TheVariants.{Source, Target}
use Rattle.eir_term.specs.declared.val.Kind.{Kind}
use Rattle.eir_term.specs.declared.val.Kind.TheVariants.{Glav, Gav}
use Rattle.eir_script.specs.declared.token.Sign.{Sign}
use Rattle.eir_script.specs.declared.token.Sign.TheVariants.{OpenBracket, CloseBracket, Comma, Ampersand, Dot, Arrow}
use Rattle.eir_script.specs.declared.keyword.Keyword.{Keyword}
use Rattle.eir_script.specs.declared.keyword.Keyword.TheVariants as keyword
use Rattle.eir_script.specs.Grammar.{is_gap, is_word_byte, is_word_start, Argument, constant, labelled, WrittenFact, Said, declare, new, put, cut, drop, undo, take, kind, budget, fit, tries, reduce, chase, cert, table, exchange}

-- ---- lexemes

-- what a scanner tells apart
pub data Lexeme : Type 0 where
  run : List ℕ → Lexeme
  label : List ℕ → Lexeme
  mark : Sign → Lexeme

-- what is begun and not ended: nothing, a run so far, a question mark, the name of a null so far, or a dash
pub data Begun : Type 0 where
  nothing : Begun
  in_run : List ℕ → Begun
  asked : Begun
  in_label : List ℕ → Begun
  dashed : Begun

-- one lexeme more, in front
abbrev pub and_lexeme : Lexeme → Option (List Lexeme) → Option (List Lexeme)
and_lexeme t more = option_map (λ ts. t ∷ ts) more

-- a lexeme of a run of at most 64 bytes
abbrev pub run_ended : List ℕ → Lexeme → Option (List Lexeme) → Option (List Lexeme)
run_ended w t more = cond (nat_le (length w) 64) (and_lexeme t more) None

-- the sign that is this byte
abbrev pub sign_at : ℕ → Option Sign
sign_at b =
    cond (b == 40) (Some OpenBracket)
    (cond (b == 41) (Some CloseBracket)
    (cond (b == 44) (Some Comma)
    (cond (b == 38) (Some Ampersand)
    (cond (b == 46) (Some Dot) None))))

-- a byte where nothing is begun; behind reads the bytes behind it
abbrev pub first_byte : ℕ → (Begun → Option (List Lexeme)) → Option (List Lexeme)
first_byte b behind =
    cond (is_gap b) (behind nothing)
    (cond (is_word_start b) (behind (in_run (b ∷ [])))
    (cond (b == 63) (behind asked)
    (cond (b == 45) (behind dashed)
    (option_and_then (λ s. and_lexeme (mark s) (behind nothing)) (sign_at b)))))

-- a byte, by what is begun
abbrev pub next_byte : ℕ → Begun → (Begun → Option (List Lexeme)) → Option (List Lexeme)
next_byte b nothing behind = first_byte b behind
next_byte b (in_run w) behind = cond (is_word_byte b) (behind (in_run (w ++ b ∷ []))) (run_ended w (run w) (first_byte b behind))
next_byte b asked behind = cond (is_word_start b) (behind (in_label (b ∷ []))) None
next_byte b (in_label w) behind = cond (is_word_byte b) (behind (in_label (w ++ b ∷ []))) (run_ended w (label w) (first_byte b behind))
next_byte b dashed behind = cond (b == 62) (and_lexeme (mark Arrow) (behind nothing)) None

-- the end, by what is begun
abbrev pub at_end : Begun → Option (List Lexeme)
at_end nothing = Some []
at_end (in_run w) = run_ended w (run w) (Some [])
at_end asked = None
at_end (in_label w) = run_ended w (label w) (Some [])
at_end dashed = None

-- the lexemes of the bytes behind what is begun
abbrev pub lexemes_from : List ℕ → Begun → Option (List Lexeme)
lexemes_from [] o = at_end o
lexemes_from (b ∷ bytes) o = next_byte b o (lexemes_from bytes)

-- the lexemes of the bytes
abbrev pub lexemes : List ℕ → Option (List Lexeme)
lexemes bytes = lexemes_from bytes nothing

-- f of the lexemes of the bytes
abbrev pub read_by : {X : Type 0} → (List Lexeme → Option X) → List ℕ → Option X
read_by f bytes = option_and_then f (lexemes bytes)

-- ---- what stands behind a keyword

-- the first lexeme, where it is a run
abbrev pub first_run : List Lexeme → Option (List ℕ)
first_run (run w ∷ ts) = Some w
first_run other = None

-- nothing
abbrev pub alone : {X : Type 0} → X → List Lexeme → Option X
alone x [] = Some x
alone x (t ∷ ts) = None

-- one word or name
abbrev pub one_word : List Lexeme → Option (List ℕ)
one_word (run w ∷ []) = Some w
one_word other = None

-- two of them
abbrev pub two_words : List Lexeme → Option (List ℕ × List ℕ)
two_words (run v ∷ run w ∷ []) = Some (v, w)
two_words other = None

-- a constant or a null
abbrev pub argument_of : Lexeme → Option Argument
argument_of (run w) = Some (constant w)
argument_of (label w) = Some (labelled w)
argument_of (mark s) = None

-- one or more arguments with commas between them, then a closing bracket, and nothing behind it
abbrev pub arguments_of : List Lexeme → Option (List Argument)
arguments_of (t ∷ mark CloseBracket ∷ []) = option_map (λ a. a ∷ []) (argument_of t)
arguments_of (t ∷ mark Comma ∷ ts) = option_and_then (λ a. option_map (λ more. a ∷ more) (arguments_of ts)) (argument_of t)
arguments_of other = None

-- the fact of this relation
abbrev pub written : List ℕ → List Argument → WrittenFact
written r arguments = record { relation = r; arguments = arguments }

-- a name, an opening bracket and arguments
abbrev pub fact_of : List Lexeme → Option WrittenFact
fact_of (run r ∷ mark OpenBracket ∷ ts) = option_map (written r) (arguments_of ts)
fact_of other = None

-- the argument is a null
abbrev pub is_labelled : Argument → Bool
is_labelled (constant w) = false
is_labelled (labelled w) = true

-- the name of an argument
abbrev pub argument_name : Argument → List ℕ
argument_name (constant w) = w
argument_name (labelled w) = w

-- a relation with its columns, of which none is a null
abbrev pub declared_as : Side → WrittenFact → Option Said
declared_as side f = cond (list_any is_labelled f.arguments) None (Some (declare side f.relation (map argument_name f.arguments)))

-- the declaration for this side
abbrev pub declaration_of : Side → List Lexeme → Option Said
declaration_of side ts = option_and_then (declared_as side) (fact_of ts)

-- an example and a fact
abbrev pub example_and_fact : (List ℕ → WrittenFact → Said) → List Lexeme → Option Said
example_and_fact f (run e ∷ ts) = option_map (f e) (fact_of ts)
example_and_fact f other = None

-- the kind of this word
abbrev pub kind_of : List ℕ → Option Kind
kind_of w = cond (bytes_eq w (codes "glav")) (Some Glav) (cond (bytes_eq w (codes "gav")) (Some Gav) None)

-- the number below 2^64 of which the word is the decimal spelling
abbrev pub number_of : List ℕ → Option ℕ
number_of w = let n = digits_value 10 w in cond (nat_lt n (2 ^ 64) && bytes_eq (decimal n) w) (Some n) None

-- the budget of this word
abbrev pub budget_of : List ℕ → Option ℕ
budget_of w = option_and_then (λ n. cond (nat_le 1 n && nat_le n 1000000000000) (Some n) None) (number_of w)

-- ---- lines

-- each word that a line may begin with
abbrev pub keywords : List (List ℕ × Keyword)
keywords =
    (codes "source", keyword.Source) ∷ (codes "target", keyword.Target) ∷ (codes "new", keyword.New)
    ∷ (codes "put", keyword.Put) ∷ (codes "cut", keyword.Cut) ∷ (codes "drop", keyword.Drop)
    ∷ (codes "undo", keyword.Undo) ∷ (codes "take", keyword.Take) ∷ (codes "kind", keyword.Kind)
    ∷ (codes "budget", keyword.Budget) ∷ (codes "fit", keyword.Fit) ∷ (codes "tries", keyword.Tries)
    ∷ (codes "reduce", keyword.Reduce) ∷ (codes "chase", keyword.Chase) ∷ (codes "cert", keyword.Cert)
    ∷ (codes "table", keyword.Table) ∷ (codes "exchange", keyword.Exchange) ∷ []

-- the keyword of this word
abbrev pub keyword_of : List ℕ → Option Keyword
keyword_of w = option_map (λ row. row.1) (find (λ row. bytes_eq w row.0) keywords)

-- what a line with this keyword says, by the lexemes behind it
abbrev pub said_after : Keyword → List Lexeme → Option Said
said_after keyword.Source ts = declaration_of Source ts
said_after keyword.Target ts = declaration_of Target ts
said_after keyword.New ts = option_map new (one_word ts)
said_after keyword.Put ts = example_and_fact put ts
said_after keyword.Cut ts = example_and_fact cut ts
said_after keyword.Drop ts = option_map drop (one_word ts)
said_after keyword.Undo ts = alone undo ts
said_after keyword.Take ts = option_map (λ p. take p.0 p.1) (two_words ts)
said_after keyword.Kind ts = option_map kind (option_and_then kind_of (one_word ts))
said_after keyword.Budget ts = option_map budget (option_and_then budget_of (one_word ts))
said_after keyword.Fit ts = alone fit ts
said_after keyword.Tries ts = alone tries ts
said_after keyword.Reduce ts = alone reduce ts
said_after keyword.Chase ts = option_map chase (one_word ts)
said_after keyword.Cert ts = option_map cert (one_word ts)
said_after keyword.Table ts = option_map (λ p. table p.0 p.1) (two_words ts)
said_after keyword.Exchange ts = alone exchange ts

-- what a line with these lexemes says
abbrev pub said_by : List Lexeme → Option Said
said_by (run w ∷ ts) = option_and_then (λ k. said_after k ts) (keyword_of w)
said_by other = None

-- a line is bad, blank or says s
pub data Reading : Type 0 where
  bad : Reading
  blank : Reading
  says : Said → Reading

-- gaps alone, or gaps and a comment
abbrev pub is_blank : List ℕ → Bool
is_blank [] = true
is_blank (b ∷ bytes) = (b == 35) || (is_gap b && is_blank bytes)

-- says s, or bad
abbrev pub says_or_bad : Option Said → Reading
says_or_bad None = bad
says_or_bad (Some s) = says s

-- how a line is read that may have any number of bytes
abbrev pub reading_of_any : List ℕ → Reading
reading_of_any line = cond (is_blank line) blank (says_or_bad (read_by said_by line))

-- how a line of a script is read
abbrev pub reading : List ℕ → Reading
reading line = cond (nat_le (length line) 4096) (reading_of_any line) bad
