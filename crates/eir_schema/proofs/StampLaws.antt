-- Laws of stamps, and of what is kept of each side.
use Rattle.std.proofs.Common.{◌≡◌, ℕ, suc, ◌+◌, ◌<◌, inl, inr, true, false, cond, List, [], ◌∷◌, ◌++◌, map, length, append_assoc, append-nil, get_or, take, Some, slice_get, refl, sym, ◌∙◌, ap, ap₂, subst, arith}
use Rattle.std.specs.Prelude.{codes, decimal, nat_lt}
use Rattle.std.specs.List.{join_with_byte}
use Rattle.std.proofs.lemmas.Bool.{cases_Bool, ltb-false}
use Rattle.std.proofs.lemmas.List.{length-map, map-append, take_more_same}
use Rattle.std.proofs.lemmas.Option.{slice_get-get_or}
use Rattle.eir_term.specs.declared.val.Side.{Side}
use Rattle.eir_term.specs.declared.val.Side.TheVariants.{Source, Target}
use Rattle.eir_term.specs.Lists.{places}
use Rattle.eir_schema.specs.declared.summary.SideSummary.{SideSummary}
use Rattle.eir_schema.specs.declared.summary.Summary.{Summary}
use Rattle.eir_schema.specs.Schemas.{Relation, same_side, is_of, relations_of}
use Rattle.eir_schema.specs.Stamps.{comma, relation_stamp, side_stamp}
use Rattle.eir_schema.specs.Tables.{separator, places_on, AddsStamp, AddsTo, IsSame, IsSummary, SumsUp}
use Rattle.eir_schema.proofs.PlaceLaws.{places-last, length-places}
use Rattle.eir_schema.proofs.SideLaws.{relations_of-own, relations_of-other}

-- ---- one piece more

some-before : (n : ℕ) → nat_lt 0 (suc n) ≡ true
some-before n = elim (cases_Bool (nat_lt 0 (suc n))) [ inl t ↦ t | inr t ↦ (let l = ltb-false 0 (suc n) t in absurd (omega arith)) ]

join-push : (xs : List (List ℕ)) (x : List ℕ) → join_with_byte comma (xs ++ x ∷ []) ≡ join_with_byte comma xs ++ (separator (nat_lt 0 (length xs)) ++ x)
join-push [] x = refl
join-push (y ∷ []) x = ap (λ b. y ++ (separator b ++ x)) (sym (some-before 0))
join-push (y ∷ z ∷ zs) x =
    ap (λ r. y ++ (comma ∷ r)) (join-push (z ∷ zs) x)
    ∙ sym (append_assoc y (comma ∷ join_with_byte comma (z ∷ zs)) (separator (nat_lt 0 (length (z ∷ zs))) ++ x))
    ∙ ap (λ b. (y ++ (comma ∷ join_with_byte comma (z ∷ zs))) ++ (separator b ++ x)) (some-before (length zs) ∙ sym (some-before (length (z ∷ zs))))

module _ (side : Side) (s : List Relation) (d : Relation) where
  pub side_stamp-own : is_of side d ≡ true → side_stamp side (s ++ d ∷ []) ≡ side_stamp side s ++ (separator (nat_lt 0 (length (relations_of side s))) ++ relation_stamp d)
  side_stamp-own t =
      ap (λ rs. join_with_byte comma (map relation_stamp rs)) (relations_of-own side s d t)
      ∙ ap (join_with_byte comma) (map-append relation_stamp (relations_of side s) (d ∷ []))
      ∙ join-push (map relation_stamp (relations_of side s)) (relation_stamp d)
      ∙ ap (λ n. side_stamp side s ++ (separator (nat_lt 0 n) ++ relation_stamp d)) (length-map (relations_of side s) relation_stamp)

  pub side_stamp-other : is_of side d ≡ false → side_stamp side (s ++ d ∷ []) ≡ side_stamp side s
  side_stamp-other t = ap (λ rs. join_with_byte comma (map relation_stamp rs)) (relations_of-other side s d t)

  -- ---- what is kept of a side

  -- a relation of the side was added
  pub IsSummary-own : (old new : SideSummary) (arity place : ℕ) → is_of side d ≡ true → length d.columns ≡ arity → place ≡ length s → AddsStamp old new d.name arity place → IsSummary side s old → IsSummary side (s ++ d ∷ []) new
  IsSummary-own old new arity place t wide at adds was =
      let count : length old.places.items ≡ length (relations_of side s) = ap length was.placed ∙ length-places (is_of side) 0 s in
      let from_start : 0 + length s ≡ length s = omega arith in
      record {
        placed =
            adds.placed
            ∙ ap₂ (λ ps k. ps ++ k ∷ []) was.placed (at ∙ sym from_start)
            ∙ sym (places-last (is_of side) 0 s d ∙ ap (λ b. places (is_of side) 0 s ++ cond b ((0 + length s) ∷ []) []) t);
        stamped =
            adds.stamped
            ∙ ap₂ (λ xs n. xs ++ (separator (nat_lt 0 n) ++ (d.name ++ codes "/" ++ decimal arity))) was.stamped count
            ∙ ap (λ n. side_stamp side s ++ (separator (nat_lt 0 (length (relations_of side s))) ++ (d.name ++ codes "/" ++ decimal n))) (sym wide)
            ∙ sym (side_stamp-own t);
      }

  -- one of the other side was added
  pub IsSummary-other : (y : SideSummary) → is_of side d ≡ false → IsSummary side s y → IsSummary side (s ++ d ∷ []) y
  IsSummary-other y t was = record {
    placed = was.placed ∙ sym (places-last (is_of side) 0 s d ∙ ap (λ b. places (is_of side) 0 s ++ cond b ((0 + length s) ∷ []) []) t ∙ append-nil (places (is_of side) 0 s));
    stamped = was.stamped ∙ sym (side_stamp-other t);
  }

-- all stays
pub IsSummary-same : (side : Side) (s : List Relation) (old new : SideSummary) → IsSame old new → IsSummary side s old → IsSummary side s new
IsSummary-same side s old new e was = record { placed = e.0 ∙ was.placed; stamped = e.1 ∙ was.stamped }

-- ---- what is kept of both sides

pub SumsUp-same : (s : List Relation) (old new : Summary) → IsSame old.source new.source × IsSame old.target new.target → SumsUp s old → SumsUp s new
SumsUp-same s old new e was = record { source = IsSummary-same Source s _ _ e.0 was.source; target = IsSummary-same Target s _ _ e.1 was.target }

pub SumsUp-push : (s : List Relation) (d : Relation) (old new : Summary) (arity place : ℕ) → length d.columns ≡ arity → place ≡ length s → AddsTo d.side old new d.name arity place → SumsUp s old → SumsUp (s ++ d ∷ []) new
SumsUp-push s d old new arity place wide at adds was = by d.side refl adds
  where
    by : (side : Side) → d.side ≡ side → AddsTo side old new d.name arity place → SumsUp (s ++ d ∷ []) new
    by Source e adds = record {
      source = IsSummary-own Source s d old.source new.source arity place (ap (same_side Source) e) wide at adds.0 was.source;
      target = IsSummary-other Target s d new.target (ap (same_side Target) e) (subst (λ y. IsSummary Target s y) (sym adds.1) was.target);
    }
    by Target e adds = record {
      source = IsSummary-other Source s d new.source (ap (same_side Source) e) (subst (λ y. IsSummary Source s y) (sym adds.1) was.source);
      target = IsSummary-own Target s d old.target new.target arity place (ap (same_side Target) e) wide at adds.0 was.target;
    }

-- the places that are kept are those of the side
pub places_on-is : (side : Side) (s : List Relation) (y : Summary) → SumsUp s y → places_on side y ≡ places (is_of side) 0 s
places_on-is Source s y sums = sums.source.placed
places_on-is Target s y sums = sums.target.placed

pub count-is : (side : Side) (s : List Relation) (y : Summary) → SumsUp s y → length (places_on side y) ≡ length (relations_of side s)
count-is side s y sums = ap length (places_on-is side s y sums) ∙ length-places (is_of side) 0 s

-- ---- the same text

pub same-more : (xs ys : List ℕ) (i : ℕ) → i < length xs → length xs ≡ length ys → slice_get xs i ≡ slice_get ys i → take i xs ≡ take i ys → take (i + 1) xs ≡ take (i + 1) ys
same-more xs ys i within long e so_far =
    let also : i < length ys = subst (λ n. i < n) long within in
    let some : Some (get_or xs i 0) ≡ Some (get_or ys i 0) = sym (slice_get-get_or xs i 0 within) ∙ e ∙ slice_get-get_or ys i 0 also in
    let here : get_or xs i 0 ≡ get_or ys i 0 = cc in
    take_more_same xs ys i 0 within also so_far here
