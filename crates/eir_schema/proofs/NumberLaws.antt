-- Laws of the numbers of relations.
use Rattle.std.proofs.Common.{◌≡◌, ℕ, suc, ◌+◌, ◌*◌, ◌<◌, ◌≤◌, Bool, true, false, List, [], ◌∷◌, ◌++◌, map, length, refl, sym, ◌∙◌, ap, ap₂, inl, inr, arith}
use Rattle.std.specs.List.{list_any}
use Rattle.std.specs.Str.{bytes_eq}
use Rattle.std.proofs.lemmas.Bool.{cases_Bool, false≢true}
use Rattle.std.proofs.lemmas.List.{length-map, map-append}
use Rattle.std.proofs.lemmas.Slice.Eq.{bytes_eq-Decides}
use Rattle.eir_term.specs.declared.val.Side.{Side}
use Rattle.eir_term.specs.declared.val.Side.TheVariants.{Source, Target}
use Rattle.eir_term.specs.Lists.{◌∈◌, place_of}
use Rattle.eir_term.proofs.ListLaws.{∈-map, ∈-filter, ∈-filter_from, ∈-map_from, ∈-list_any, place_of-append_right, eq-refl}
use Rattle.eir_schema.specs.Schemas.{Relation, same_side, is_of, relations_of, relation_names, side_number, next_number, number_in}
use Rattle.eir_schema.proofs.SideLaws.{relations_of-own, relations_of-other}

same_side-own : (side : Side) → same_side side side ≡ true
same_side-own Source = refl
same_side-own Target = refl

-- the place of an element is its place in a longer list
place_of-longer : (name : List ℕ) (xs ys : List (List ℕ)) → name ∈ xs → place_of bytes_eq name (xs ++ ys) ≡ place_of bytes_eq name xs
place_of-longer name [] ys h = absurd h
place_of-longer name (x ∷ xs) ys h = elim (cases_Bool (bytes_eq name x)) [
  | inl t ↦ rw t refl
  | inr t ↦ elim h [
    | inl e ↦ absurd (false≢true (sym t ∙ (bytes_eq-Decides name x).1 e))
    | inr k ↦ rw t (ap suc (place_of-longer name xs ys k))
  ]
]

module _ (s : List Relation) (d : Relation) where
  names-own : (side : Side) → is_of side d ≡ true → relation_names (relations_of side (s ++ d ∷ [])) ≡ relation_names (relations_of side s) ++ d.name ∷ []
  names-own side t = ap relation_names (relations_of-own side s d t) ∙ map-append (λ r. r.name) (relations_of side s) (d ∷ [])

  -- the relation that was declared last, under a new name
  pub number_in-last : list_any (bytes_eq d.name) (relation_names s) ≡ false → number_in (s ++ d ∷ []) d ≡ next_number d.side s
  number_in-last new = ap (λ n. 2 * n + side_number d.side) (
      ap (place_of bytes_eq d.name) (names-own d.side (same_side-own d.side))
      ∙ place_of-append_right bytes_eq bytes_eq-Decides d.name (relation_names (relations_of d.side s)) (d.name ∷ []) absent
      ∙ at_end
      )
    where
      absent : d.name ∈ relation_names (relations_of d.side s) → ⊥
      absent h =
          let r = ∈-map_from (λ (q : Relation). q.name) d.name (relations_of d.side s) h in
          let k = (∈-filter_from (is_of d.side) r.0 s r.1).0 in
          let there : d.name ∈ relation_names s = rw r.2 (∈-map (λ (q : Relation). q.name) r.0 s k) in
          false≢true (sym new ∙ ∈-list_any bytes_eq bytes_eq-Decides d.name (relation_names s) there)

      at_end : length (relation_names (relations_of d.side s)) + place_of bytes_eq d.name (d.name ∷ []) ≡ length (relations_of d.side s)
      at_end =
          let own : place_of bytes_eq d.name (d.name ∷ []) ≡ 0 = rw (eq-refl bytes_eq bytes_eq-Decides d.name) refl in
          let all : length (relation_names (relations_of d.side s)) ≡ length (relations_of d.side s) = length-map (relations_of d.side s) (λ r. r.name) in
          omega (arith, own, all)

  -- those before keep their numbers
  pub number_in-before : (r : Relation) → r ∈ s → number_in (s ++ d ∷ []) r ≡ number_in s r
  number_in-before r h = ap (λ n. 2 * n + side_number r.side) (elim (cases_Bool (is_of r.side d)) [
    | inl t ↦ ap (place_of bytes_eq r.name) (names-own r.side t) ∙ place_of-longer r.name (relation_names (relations_of r.side s)) (d.name ∷ []) (
        ∈-map (λ (q : Relation). q.name) r (relations_of r.side s) (∈-filter (is_of r.side) r s (same_side-own r.side) h)
        )
    | inr t ↦ ap (λ rs. place_of bytes_eq r.name (relation_names rs)) (relations_of-other r.side s d t)
  ])

-- one image more, where the others stay
map-agree : {Y : Type 0} (f g : Relation → Y) (s : List Relation) → ((r : Relation) → r ∈ s → f r ≡ g r) → map f s ≡ map g s
map-agree f g [] same = refl
map-agree f g (r ∷ rs) same = ap₂ (λ y ys. y ∷ ys) (same r (inl refl)) (map-agree f g rs (λ q h. same q (inr h)))

-- the numbers of all relations, with one more
pub numbers-last : (s : List Relation) (d : Relation) → list_any (bytes_eq d.name) (relation_names s) ≡ false → map (number_in (s ++ d ∷ [])) (s ++ d ∷ []) ≡ map (number_in s) s ++ next_number d.side s ∷ []
numbers-last s d new =
    map-append (number_in (s ++ d ∷ [])) s (d ∷ [])
    ∙ ap₂ (λ ns n. ns ++ n ∷ []) (map-agree (number_in (s ++ d ∷ [])) (number_in s) s (number_in-before s d)) (number_in-last s d new)
