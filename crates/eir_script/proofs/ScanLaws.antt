-- Laws of taking tokens from the front of a line's bytes.
use Rattle.std.proofs.Common.{◌≡◌, ℕ, ◌+◌, ◌-◌, ◌≤◌, ◌<◌, Bool, true, false, ◌==◌, ◌||◌, inl, inr, List, [], ◌∷◌, ◌++◌, length, take, drop, get_or, Some, None, refl, sym, ◌∙◌, ap, subst, arith, length-append, append-nil}
use Rattle.std.specs.List.{AllByRecursion}
use Rattle.std.proofs.lemmas.List.{take_more, take_rest, drop_more, take-append-drop}
use Rattle.std.proofs.lemmas.Bool.{or_cases, false≢true, eqb-true}
use Rattle.eir_script.specs.declared.token.Sign.{Sign}
use Rattle.eir_script.specs.declared.token.Scanned.{Scanned}
use Rattle.eir_script.specs.declared.token.Scanned.TheVariants.{Next, End, Unknown}
use Rattle.eir_script.specs.Grammar.{is_gap, is_word_byte, is_word_start, AreGaps, AreWordBytes, IsRun, StartsApart}
use Rattle.eir_script.specs.Reading.{run, label, mark, and_lexeme, lexemes, sign_at, is_blank}
use Rattle.eir_script.specs.Forms.{SkipsGaps, StartsUngapped, StartsWord, IsWordFirst, IsSignByte, IsNext, IsShorter}
use Rattle.eir_script.proofs.LexemeLaws.{start-byte, lexemes-gaps, lexemes-run, lexemes-label, run_ended-short, run_ended-long}

-- ---- places in bytes

module _ (P : ℕ → Type 0) where
  push : (xs : List ℕ) (y : ℕ) → AllByRecursion P xs → P y → AllByRecursion P (xs ++ y ∷ [])
  push [] y all p = (p, tt)
  push (x ∷ xs) y all p = (all.0, push xs y all.1 p)

  -- what holds of the bytes before a place and of the byte there holds of those before the next place
  pub all_more : (bytes : List ℕ) (i : ℕ) → i < length bytes → AllByRecursion P (take i bytes) → P (get_or bytes i 0) → AllByRecursion P (take (i + 1) bytes)
  all_more bytes i l all p = subst (AllByRecursion P) (sym (take_more bytes i 0 l)) (push (take i bytes) (get_or bytes i 0) all p)

-- the byte at a place comes first in what stands from there
pub StartsUngapped-drop : (bytes : List ℕ) (i : ℕ) → i < length bytes → is_gap (get_or bytes i 0) ≡ false → StartsUngapped (drop i bytes)
StartsUngapped-drop bytes i l t = subst StartsUngapped (sym (drop_more bytes i 0 l)) t

pub StartsApart-drop : (bytes : List ℕ) (i : ℕ) → i < length bytes → is_word_byte (get_or bytes i 0) ≡ false → StartsApart (take (length bytes - i) (drop i bytes))
StartsApart-drop bytes i l t = subst StartsApart (sym (take_rest bytes i)) (subst StartsApart (sym (drop_more bytes i 0 l)) t)

-- ---- gaps

pub SkipsGaps-at : (bytes : List ℕ) (i : ℕ) → i < length bytes → AreGaps (take i bytes) → is_gap (get_or bytes i 0) ≡ false → SkipsGaps bytes (take (length bytes - i) (drop i bytes))
SkipsGaps-at bytes i l gaps t = subst (SkipsGaps bytes) (sym (take_rest bytes i)) (take i bytes, gaps, sym (take-append-drop i bytes), StartsUngapped-drop bytes i l t)

pub SkipsGaps-all : (bytes : List ℕ) → AreGaps bytes → SkipsGaps bytes []
SkipsGaps-all bytes gaps = (bytes, gaps, sym (append-nil bytes), tt)

-- behind gaps a line is blank where it is blank
pub is_blank-gaps : (bytes rest : List ℕ) → SkipsGaps bytes rest → is_blank bytes ≡ is_blank rest
is_blank-gaps bytes rest s = ap is_blank s.2 ∙ skip s.0 s.1
  where
    skip : (gap : List ℕ) → AreGaps gap → is_blank (gap ++ rest) ≡ is_blank rest
    skip [] g = refl
    skip (b ∷ gap) g = let k : is_gap b ≡ true = g.0 in rw (no_hash b k, k) (skip gap g.1)
      where
        no_hash : (b : ℕ) → is_gap b ≡ true → (b == 35) ≡ false
        no_hash b t = elim (or_cases (b == 32) (b == 9) t) [
          | inl e ↦ subst (λ n. (n == 35) ≡ false) (sym (eqb-true b 32 e)) refl
          | inr e ↦ subst (λ n. (n == 35) ≡ false) (sym (eqb-true b 9 e)) refl
        ]

-- the line by what stands behind its gaps
pub is_blank-empty : (bytes rest : List ℕ) → SkipsGaps bytes rest → length rest < 1 → true ≡ is_blank bytes
is_blank-empty bytes [] s short = sym (is_blank-gaps bytes [] s)
is_blank-empty bytes (b ∷ rest) s short = absurd (omega arith)

pub is_blank-first : (bytes rest : List ℕ) → SkipsGaps bytes rest → 1 ≤ length rest → (get_or rest 0 0 == 35) ≡ is_blank bytes
is_blank-first bytes [] s long = absurd (omega arith)
is_blank-first bytes (b ∷ rest) s long = let k : is_gap b ≡ false = s.3 in sym (is_blank-gaps bytes (b ∷ rest) s ∙ rw k (or_false (b == 35)))
  where
    or_false : (t : Bool) → (t || false) ≡ t
    or_false true = refl
    or_false false = refl

-- behind gaps the first token is the first one
pub IsNext-gaps : (bytes rest : List ℕ) (r : Scanned) → SkipsGaps bytes rest → IsNext rest r → IsNext bytes r
IsNext-gaps bytes rest (Next t more) s n = ap lexemes s.2 ∙ lexemes-gaps s.0 rest s.1 ∙ n
IsNext-gaps bytes rest End s n = ap lexemes s.2 ∙ lexemes-gaps s.0 rest s.1 ∙ n
IsNext-gaps bytes rest Unknown s n = ap lexemes s.2 ∙ lexemes-gaps s.0 rest s.1 ∙ n

pub IsShorter-gaps : (bytes rest : List ℕ) (r : Scanned) → SkipsGaps bytes rest → IsShorter rest r → IsShorter bytes r
IsShorter-gaps bytes rest (Next t more) s n = omega (arith, ap length s.2, length-append s.0 rest)
IsShorter-gaps bytes rest End s n = tt
IsShorter-gaps bytes rest Unknown s n = tt

-- ---- runs

-- bytes of words that begin with a byte that may begin a word
IsRun-first : (w rest bytes : List ℕ) → bytes ≡ w ++ rest → StartsWord bytes → StartsApart rest → AreWordBytes w → IsRun w
IsRun-first [] [] bytes e start apart all = subst StartsWord e start
IsRun-first [] (b ∷ rest) bytes e start apart all = let k : is_word_start b ≡ true = subst StartsWord e start in absurd (false≢true (sym apart ∙ start-byte b k))
IsRun-first (b ∷ w) rest bytes e start apart all = let s : StartsWord (b ∷ w ++ rest) = subst StartsWord e start in (s, all.1)

module _ (bytes : List ℕ) (start : StartsWord bytes) where
  pub run-first : (w rest : List ℕ) → (bytes ≡ w ++ rest) × AreWordBytes w × StartsApart rest × (length w ≤ 64) → lexemes bytes ≡ and_lexeme (run w) (lexemes rest)
  run-first w rest s = ap lexemes s.0 ∙ lexemes-run w rest (IsRun-first w rest bytes s.0 start s.2 s.1) s.2 ∙ run_ended-short w (run w) (lexemes rest) s.3

  pub run-too_long : IsWordFirst bytes None → lexemes bytes ≡ None
  run-too_long s = ap lexemes s.2 ∙ lexemes-run s.0 s.1 (IsRun-first s.0 s.1 bytes s.2 start s.4 s.3) s.4 ∙ run_ended-long s.0 (run s.0) (lexemes s.1) s.5

  pub label-first : (w rest : List ℕ) → (bytes ≡ w ++ rest) × AreWordBytes w × StartsApart rest × (length w ≤ 64) → lexemes (63 ∷ bytes) ≡ and_lexeme (label w) (lexemes rest)
  label-first w rest s = ap (λ bs. lexemes (63 ∷ bs)) s.0 ∙ lexemes-label w rest (IsRun-first w rest bytes s.0 start s.2 s.1) s.2 ∙ run_ended-short w (label w) (lexemes rest) s.3

  pub label-too_long : IsWordFirst bytes None → lexemes (63 ∷ bytes) ≡ None
  label-too_long s = ap (λ bs. lexemes (63 ∷ bs)) s.2 ∙ lexemes-label s.0 s.1 (IsRun-first s.0 s.1 bytes s.2 start s.4 s.3) s.4 ∙ run_ended-long s.0 (label s.0) (lexemes s.1) s.5

  -- fewer bytes stand behind it
  pub run-shorter : (w rest : List ℕ) → (bytes ≡ w ++ rest) × AreWordBytes w × StartsApart rest × (length w ≤ 64) → length rest < length bytes
  run-shorter w rest s = omega (arith, ap length s.0, length-append w rest, filled w (IsRun-first w rest bytes s.0 start s.2 s.1))
    where
      filled : (w : List ℕ) → IsRun w → 1 ≤ length w
      filled [] is = absurd is
      filled (b ∷ w) is = omega arith

-- ---- signs

module _ (b : ℕ) (rest : List ℕ) (is : IsSignByte b) where
  pub sign-first : (s : Sign) → sign_at b ≡ Some s → lexemes (b ∷ rest) ≡ and_lexeme (mark s) (lexemes rest)
  sign-first s e = rw (is.0, is.1, is.2, is.3, e) refl

  pub sign-none : sign_at b ≡ None → lexemes (b ∷ rest) ≡ None
  sign-none e = rw (is.0, is.1, is.2, is.3, e) refl
