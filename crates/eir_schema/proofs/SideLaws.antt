-- Laws of the relations of a side.
use Rattle.std.proofs.Common.{◌≡◌, ◌+◌, true, false, not, cond, List, [], ◌∷◌, ◌++◌, length, append-nil, refl, ◌∙◌, ap}
use Rattle.std.proofs.lemmas.Bool.{false≢true}
use Rattle.std.proofs.lemmas.List.Elements.{filter-append}
use Rattle.std.proofs.lemmas.List.Filters.{length-filter_both}
use Rattle.eir_term.specs.declared.val.Side.{Side}
use Rattle.eir_term.specs.declared.val.Side.TheVariants.{Source, Target}
use Rattle.eir_schema.specs.Schemas.{Relation, same_side, is_of, relations_of}

pub same_side-true : (a b : Side) → same_side a b ≡ true → a ≡ b
same_side-true Source Source t = refl
same_side-true Source Target t = absurd (false≢true t)
same_side-true Target Source t = absurd (false≢true t)
same_side-true Target Target t = refl

-- the relations of both sides are all
pub length-relations_of : (s : List Relation) → length (relations_of Source s) + length (relations_of Target s) ≡ length s
length-relations_of s = length-filter_both (is_of Source) (is_of Target) (λ r. other r.side) s
  where
    other : (side : Side) → same_side Target side ≡ not (same_side Source side)
    other Source = refl
    other Target = refl

module _ (side : Side) (s : List Relation) (d : Relation) where
  -- a relation of the side goes last, one of the other side is passed over
  pub relations_of-own : is_of side d ≡ true → relations_of side (s ++ d ∷ []) ≡ relations_of side s ++ d ∷ []
  relations_of-own t = filter-append (is_of side) s (d ∷ []) ∙ ap (λ b. relations_of side s ++ cond b (d ∷ []) []) t

  pub relations_of-other : is_of side d ≡ false → relations_of side (s ++ d ∷ []) ≡ relations_of side s
  relations_of-other t = filter-append (is_of side) s (d ∷ []) ∙ ap (λ b. relations_of side s ++ cond b (d ∷ []) []) t ∙ append-nil (relations_of side s)
