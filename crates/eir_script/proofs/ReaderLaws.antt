-- Laws of reading a line.
use Rattle.std.proofs.Common.{◌≡◌, ◌<◌, ◌≤◌, ◌⊎◌, inl, inr, ℕ, true, false, List, map, length, Option, Some, None, Result, IfOk, refl, sym, ◌∙◌, ap}
use Rattle.std.specs.Prelude.{IsSome}
use Rattle.std.specs.List.{list_any}
use Rattle.std.proofs.lemmas.Bool.{cases_Bool, false≢true, lt-leb, le-leb}
use Rattle.std.proofs.lemmas.Result.{IfOk-weaker}
use Rattle.eir_script.specs.declared.command.Command.{Command}
use Rattle.eir_script.specs.declared.command.Command.TheVariants.{Blank}
use Rattle.eir_script.specs.declared.reader.LineRefused.{LineRefused}
use Rattle.eir_term.specs.declared.val.Side.{Side}
use Rattle.eir_script.specs.Grammar.{WrittenFact, Said, declare, Says, IsBlank}
use Rattle.eir_script.specs.Naming.{named, names_in, numbered}
use Rattle.eir_script.specs.Reading.{argument_name, is_labelled, declared_as, bad, blank, says, says_or_bad, read_by, said_by, is_blank, reading}
use Rattle.eir_script.proofs.GrammarLaws.{reading-says, says-reading, blank-reading}

-- ---- how a line is read, by the tests in their order

pub reading-long : (line : List ℕ) → 4096 < length line → reading line ≡ bad
reading-long line long = rw (lt-leb (length line) 4096 long) refl

pub reading-gaps : (line : List ℕ) → length line ≤ 4096 → is_blank line ≡ true → reading line ≡ blank
reading-gaps line short b = rw (le-leb (length line) 4096 short, b) refl

pub reading-form : (line : List ℕ) (o : Option Said) → length line ≤ 4096 → is_blank line ≡ false → o ≡ read_by said_by line → reading line ≡ says_or_bad o
reading-form line o short b e = rw (le-leb (length line) 4096 short, b) (ap says_or_bad (sym e))

-- ---- a bad line

pub bad-unsaid : (line : List ℕ) → reading line ≡ bad → (s : Said) → Says line s → ⊥
bad-unsaid line e s is = let z : bad ≡ says s = sym e ∙ says-reading line s is in cc

pub bad-unblank : (line : List ℕ) → reading line ≡ bad → IsBlank line → ⊥
bad-unblank line e is = let z : bad ≡ blank = sym e ∙ blank-reading line is in cc

-- ---- a line that says something

module _ (line : List ℕ) (o : Option Said) (e : reading line ≡ says_or_bad o) where
  read-as : (s : Said) → o ≡ Some s → reading line ≡ says s
  read-as s k = e ∙ ap says_or_bad k

  pub said-says : (r : Result Command LineRefused) (old new : List (List ℕ)) → IfOk r (λ c. (s : Said) × (o ≡ Some s) × (new ≡ named old (names_in s)) × (c ≡ numbered new s)) →
      IfOk r (λ c. ((c ≡ Blank) × IsBlank line) ⊎ ((s : Said) × Says line s × (c ≡ numbered new s)))
  said-says r old new h =
      IfOk-weaker r (λ c. (s : Said) × (o ≡ Some s) × (new ≡ named old (names_in s)) × (c ≡ numbered new s)) (λ c. ((c ≡ Blank) × IsBlank line) ⊎ ((s : Said) × Says line s × (c ≡ numbered new s)))
      (λ c p. inr (p.0, reading-says line p.0 (read-as p.0 p.1), p.3)) h

-- ---- a declaration

-- arguments that declare something are columns
pub declared-is : (side : Side) (f : WrittenFact) (o : Option Said) → o ≡ declared_as side f → IsSome o → o ≡ Some (declare side f.relation (map argument_name f.arguments))
declared-is side f o e some = elim (cases_Bool (list_any is_labelled f.arguments)) [
  | inl t ↦ absurd (none o (e ∙ rw t refl) some)
  | inr t ↦ e ∙ rw t refl
]
  where
    none : (o : Option Said) → o ≡ None → IsSome o → ⊥
    none None e some = false≢true some
    none (Some s) e some = cc
