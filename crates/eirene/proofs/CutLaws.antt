-- Lines that are cut piece by piece.
use Rattle.std.proofs.Common.{◌≡◌, ℕ, suc, ◌+◌, ◌≤◌, List, [], ◌∷◌, ◌++◌, true, false, cond, length, take, drop, refl, sym, ap, ◌∙◌, append_assoc, append-nil, arith}
use Rattle.std.specs.Prelude.{◌==◌}
use Rattle.std.proofs.lemmas.List.{length-append}
use Rattle.eir_script.specs.Lines.{Cut, cut, cut_after, cut_at, cut_more, trimmed}

-- the cut of two pieces is that of the second after that of the first
pub cut_after-append : (c : Cut) (xs ys : List ℕ) → cut_after c (xs ++ ys) ≡ cut_after (cut_after c xs) ys
cut_after-append c [] ys = refl
cut_after-append c (x ∷ xs) ys = cut_after-append (cut_more c x) xs ys

-- the lines that stand before stay, and the others do not rest on them
pub cut_after-shifted : (whole : List (List ℕ)) (tail bytes : List ℕ) →
    cut_after (cut_at whole tail) bytes ≡ cut_at (whole ++ (cut_after (cut_at [] tail) bytes).whole) (cut_after (cut_at [] tail) bytes).tail
cut_after-shifted whole tail [] = ap (λ w. cut_at w tail) (sym (append-nil whole))
cut_after-shifted whole tail (b ∷ bytes) = elim (b == 10) as (λ t. cut_after (cond t (cut_at (whole ++ trimmed tail ∷ []) []) (cut_at whole (tail ++ b ∷ []))) bytes
    ≡ cut_at (whole ++ (cut_after (cond t (cut_at (trimmed tail ∷ []) []) (cut_at [] (tail ++ b ∷ []))) bytes).whole) (cut_after (cond t (cut_at (trimmed tail ∷ []) []) (cut_at [] (tail ++ b ∷ []))) bytes).tail) [
      | true ↦
          let next : Cut = cut_after (cut_at [] []) bytes in
          cut_after-shifted (whole ++ trimmed tail ∷ []) [] bytes
          ∙ ap (λ w. cut_at w next.tail) (append_assoc whole (trimmed tail ∷ []) next.whole)
          ∙ ap (λ (c : Cut). cut_at (whole ++ c.whole) c.tail) (sym (cut_after-shifted (trimmed tail ∷ []) [] bytes))
      | false ↦ cut_after-shifted whole (tail ++ b ∷ []) bytes
    ]

-- there are at most as many whole lines as bytes
pub length-whole-le : (whole : List (List ℕ)) (tail bytes : List ℕ) → length (cut_after (cut_at whole tail) bytes).whole ≤ length whole + length bytes
length-whole-le whole tail [] = omega arith
length-whole-le whole tail (b ∷ bytes) = elim (b == 10) as (λ t. length (cut_after (cond t (cut_at (whole ++ trimmed tail ∷ []) []) (cut_at whole (tail ++ b ∷ []))) bytes).whole ≤ length whole + suc (length bytes)) [
  | true ↦ (let l = length-whole-le (whole ++ trimmed tail ∷ []) [] bytes in let e : length (whole ++ trimmed tail ∷ []) ≡ length whole + 1 = length-append whole (trimmed tail ∷ []) in omega arith)
  | false ↦ (let l = length-whole-le whole (tail ++ b ∷ []) bytes in omega arith)
]
