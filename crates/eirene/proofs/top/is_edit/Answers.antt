use Rattle.std.proofs.Common.{arith, ◌≡◌, ◌≤◌, ◌<◌, ◌∙◌, ap, sym, List, ℕ, [], ◌∷◌, length, get_or, map, string_bytes}
use Rattle.std.proofs.lemmas.Slice.Eq.{bytes_eq-Decides}
use Rattle.eirene.proofs.top.is_edit.Goals as goal

one : {X : Type 0} (f : X → List ℕ) (xs : List X) (w : X) → 1 ≤ length xs → length xs < 2 → w ≡ get_or xs 0 w → map f xs ≡ f w ∷ []
one f [] w a b e = absurd (omega arith)
one f (x ∷ []) w a b e = ap (λ v. f v ∷ []) (sym e)
one f (x ∷ (y ∷ zs)) w a b e = absurd (omega arith)

head : (x y : List ℕ) → x ∷ [] ≡ y ∷ [] → x ≡ y
head x y e = cc

pub returns-in-len1 : goal.returns-in-len1
returns-in-len1 c =
    let all : map string_bytes c.args.words.now ≡ string_bytes c.word-item.result ∷ [] =
    one string_bytes c.args.words.now c.word-item.result c.in-len1.len_at_least c.in-len1.len_below c.word-item.is in
    let same = bytes_eq-Decides c.as_str.result.now (101 ∷ 100 ∷ 105 ∷ 116 ∷ []) in (
      λ t. all ∙ ap (λ w. w ∷ []) (sym c.as_str.ensures.value ∙ same.0 (sym c.eq.ensures ∙ t)),
      λ e. c.eq.ensures ∙ same.1 (c.as_str.ensures.value ∙ head _ _ (sym all ∙ e)),
    )
