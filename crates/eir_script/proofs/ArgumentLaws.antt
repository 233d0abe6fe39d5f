-- Laws of reading the arguments of a fact one after another.
use Rattle.std.proofs.Common.{◌≡◌, ℕ, Bool, true, false, ◌||◌, List, [], ◌∷◌, ◌++◌, Option, Some, None, Bor, refl, sym, ◌∙◌, ap, append-nil, append_assoc}
use Rattle.std.specs.Prelude.{option_map, option_and_then}
use Rattle.std.specs.List.{list_any}
use Rattle.std.proofs.lemmas.List.Folds.{list_any-append}
use Rattle.eir_script.specs.declared.arguments.Argument.{Argument as RustArgument}
use Rattle.eir_script.specs.Grammar.{Argument}
use Rattle.eir_script.specs.Reading.{Lexeme, lexemes, and_lexeme, read_by, arguments_of, is_labelled}
use Rattle.eir_script.specs.Forms.{argument_in, arguments_first, arguments_left}

-- a function of lexemes by the first of them
pub then-first : {X : Type 0} (f : List Lexeme → Option X) (l : Lexeme) (o : Option (List Lexeme)) → option_and_then f (and_lexeme l o) ≡ option_and_then (λ ls. f (l ∷ ls)) o
then-first f l None = refl
then-first f l (Some ls) = refl

-- what stands behind the first argument decides
pub read-first : {X : Type 0} (f : List Lexeme → Option X) (bytes rest : List ℕ) (l : Lexeme) → lexemes bytes ≡ and_lexeme l (lexemes rest) → read_by f bytes ≡ option_and_then (λ ls. f (l ∷ ls)) (lexemes rest)
read-first f bytes rest l e = ap (option_and_then f) e ∙ then-first f l (lexemes rest)

-- the arguments that are read so far, and those that are left, are those of the bytes
pub record IsReadTo (bytes : List ℕ) (left : Option (Bor (List ℕ))) (done : List Argument) : Type 0 where
  pub read : read_by arguments_of bytes ≡ option_map (λ more. done ++ more) (arguments_left left)

map-same : {X : Type 0} (o : Option (List X)) → o ≡ option_map (λ more. [] ++ more) o
map-same None = refl
map-same (Some xs) = refl

pub read-none : (bytes : Bor (List ℕ)) → IsReadTo bytes.now (Some bytes) []
read-none bytes = record { read = map-same (read_by arguments_of bytes.now) }

-- one argument more
pub read-more : (bytes : List ℕ) (rest : Bor (List ℕ)) (done : List Argument) (a : RustArgument) (behind : Option (Bor (List ℕ))) → IsReadTo bytes (Some rest) done →
    read_by arguments_of rest.now ≡ arguments_first (a, behind) → IsReadTo bytes behind (done ++ argument_in a ∷ [])
read-more bytes rest done a behind so_far e = record { read = so_far.read ∙ ap (option_map (λ more. done ++ more)) e ∙ more (arguments_left behind) }
  where
    more : (o : Option (List Argument)) → option_map (λ more. done ++ more) (option_map (λ more. argument_in a ∷ more) o) ≡ option_map (λ more. (done ++ argument_in a ∷ []) ++ more) o
    more None = refl
    more (Some xs) = ap Some (sym (append_assoc done (argument_in a ∷ []) xs))

-- no argument is left
pub read-all : (bytes : List ℕ) (done : List Argument) → IsReadTo bytes None done → read_by arguments_of bytes ≡ Some done
read-all bytes done so_far = so_far.read ∙ ap Some (append-nil done)

-- the next is no argument
pub read-bad : (bytes : List ℕ) (rest : Bor (List ℕ)) (done : List Argument) → IsReadTo bytes (Some rest) done → read_by arguments_of rest.now ≡ None → read_by arguments_of bytes ≡ None
read-bad bytes rest done so_far e = so_far.read ∙ ap (option_map (λ more. done ++ more)) e

-- whether one of them is a null, with one argument more
pub any-push : (done : List Argument) (a : Argument) → list_any is_labelled (done ++ a ∷ []) ≡ (list_any is_labelled done || is_labelled a)
any-push done a = list_any-append is_labelled done (a ∷ []) ∙ ap (λ t. list_any is_labelled done || t) (or_false (is_labelled a))
  where
    or_false : (t : Bool) → (t || false) ≡ t
    or_false true = refl
    or_false false = refl
