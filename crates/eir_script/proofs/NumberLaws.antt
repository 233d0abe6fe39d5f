-- Laws of reading numbers.
use Rattle.std.proofs.Common.{◌≡◌, ◌<◌, ◌^◌, ℕ, List, Option, Some, None, Result, Ok, Err, Bor, MatchResult, refl, sym, ◌∙◌, ap, subst}
use Rattle.std.specs.Prelude.{decimal}
use Rattle.std.specs.Result.{result_ok}
use Rattle.std.specs.Str.{IsUtf8}
use Rattle.std.specs.Str.Parse.{ParsesUnsigned}
use Rattle.std.proofs.lemmas.Fmt.{IsAscii-decimal, parse-decimal}
use Rattle.std.proofs.lemmas.Str.{IsUtf8-from_ascii}
use Rattle.eir_script.specs.Reading.{number_of}
use Rattle.eir_script.proofs.GrammarLaws.{number_of-is, number_of-back}

-- nothing, where there is no number
none-unless : (o : Option ℕ) → ((n : ℕ) → o ≡ Some n → ⊥) → o ≡ None
none-unless None h = refl
none-unless (Some n) h = absurd (h n refl)

-- bytes that are no text are no number
pub no_text : {E : Type 0} (Q : E → Type 0) (w : List ℕ) (r : Result (Bor (List ℕ)) E) → MatchResult r (λ s. (s.now ≡ w) × IsUtf8 w) (λ e. ¬ (IsUtf8 w) × Q e) → result_ok r ≡ None → number_of w ≡ None
no_text Q w (Ok s) m e = absurd cc
no_text Q w (Err x) m e = none-unless (number_of w) (λ n k. let is = number_of-is w n k in m.0 (subst IsUtf8 is.1 (IsUtf8-from_ascii (decimal n) (IsAscii-decimal n is.0))))

-- what is parsed of the decimal spelling of a number
parsed : {E : Type 0} (w : List ℕ) (r : Result ℕ E) (n : ℕ) → ParsesUnsigned 64 10 w r → number_of w ≡ Some n → result_ok r ≡ Some n
parsed w r n p e = let is = number_of-is w n e in ap result_ok (parse-decimal 64 n w r is.0 is.0 (sym is.1) p)

pub no_number : {E : Type 0} (w : List ℕ) (r : Result ℕ E) → ParsesUnsigned 64 10 w r → result_ok r ≡ None → number_of w ≡ None
no_number w r p e = none-unless (number_of w) (λ n k. let z : None ≡ Some n = sym e ∙ parsed w r n p k in cc)

-- another spelling than the decimal one
pub other_spelling : {E : Type 0} (w : List ℕ) (r : Result ℕ E) (m : ℕ) → ParsesUnsigned 64 10 w r → result_ok r ≡ Some m → (decimal m ≡ w → ⊥) → number_of w ≡ None
other_spelling w r m p e h = none-unless (number_of w) (λ n k. (
    let z : Some m ≡ Some n = sym e ∙ parsed w r n p k in
    let q : m ≡ n = cc in
    h (ap decimal q ∙ (number_of-is w n k).1)
    ))

-- the decimal spelling
pub own_spelling : {E : Type 0} (w : List ℕ) (r : Result ℕ E) (m : ℕ) → ParsesUnsigned 64 10 w r → result_ok r ≡ Some m → decimal m ≡ w → number_of w ≡ Some m
own_spelling w r m p e h = ap number_of (sym h) ∙ number_of-back m (small r p e)
  where
    small : {E : Type 0} (r : Result ℕ E) → ParsesUnsigned 64 10 w r → result_ok r ≡ Some m → m < 2 ^ 64
    small (Ok x) p e = let q : x ≡ m = cc in subst (λ n. n < 2 ^ 64) (sym p.1 ∙ q) p.0.1
    small (Err x) p e = absurd cc
