-- Laws of the table in which a schema is kept.
use Rattle.std.proofs.Common.{◌≡◌, ◌≤◌, ◌+◌, ◌/◌, ℕ, zero, suc, Bool, true, false, List, [], ◌∷◌, ◌++◌, map, length, Option, Some, None, Result, Ok, Err, OnOk, option_map, slice_get, refl, sym, ◌∙◌, ap, ap₂, subst, inl, inr, arith}
use Rattle.std.specs.Global.{Vec}
use Rattle.std.specs.Prelude.{nat_eq, IsOk}
use Rattle.std.specs.List.{list_any}
use Rattle.std.specs.Map.{lookup}
use Rattle.std.specs.Str.{bytes_eq}
use Rattle.std.specs.Cmp.Lexicographic.{pointwise}
use Rattle.std.proofs.lemmas.Bool.{cases_Bool, false≢true, or_parts}
use Rattle.std.proofs.lemmas.List.{map-append}
use Rattle.std.proofs.lemmas.Option.{none-some, same_Some, slice_get-map}
use Rattle.indexmap.specs.IndexMap.{IndexMap, insert_entry}
use Rattle.indexmap.proofs.CallerLemmas.{insert_entry-new}
use Rattle.eir_term.specs.declared.val.Side.{Side}
use Rattle.eir_term.specs.Lists.{◌∈◌}
use Rattle.eir_schema.specs.declared.relation.RelInfo.{RelInfo}
use Rattle.eir_schema.specs.declared.summary.Summary.{Summary}
use Rattle.eir_schema.specs.Schemas.{Relation, IsSchema, is_of, relations_of, relation_names, next_number, number_in, relation_info, relation_named, find_relation, side_with, relation_at}
use Rattle.eir_schema.specs.Declarations.{refusal}
use Rattle.eir_schema.specs.Tables.{Numbered, declared, places_on, AddsTo, IsSame, SumsUp, IsTable}
use Rattle.eir_schema.proofs.NumberLaws.{numbers-last}
use Rattle.eir_schema.proofs.PlaceLaws.{none-at, passes-at}
use Rattle.eir_schema.proofs.SchemaLaws.{IsAdmitted, IsAdmitted-from_none, IsSchema-push}
use Rattle.eir_schema.proofs.StampLaws.{SumsUp-same, SumsUp-push, places_on-is, count-is}

-- the bytes by which a table finds its relations
abbrev pub key_names : List (Vec ℕ × Numbered) → List (List ℕ)
key_names es = map (λ e. e.0.items) es

-- ---- look-ups

-- what is told of a relation with its number
abbrev pub info_of : Numbered → RelInfo
info_of d = record { number = d.number; side = d.relation.side; arity = length d.relation.columns }

-- the number that is kept with a relation is its number
pub number-at : (es : List (Vec ℕ × Numbered)) (y : Summary) (place : ℕ) (k : Vec ℕ) (d : Numbered) → IsTable es y → slice_get es place ≡ Some (k, d) → d.number ≡ number_in (declared es) d.relation
number-at es y place k d table at = same_Some _ _ (
    ap (option_map (λ e. e.1.number)) (sym at)
    ∙ sym (slice_get-map (λ (e : Vec ℕ × Numbered). e.1.number) es place)
    ∙ ap (λ ns. slice_get ns place) table.numbered
    ∙ slice_get-map (number_in (declared es)) (declared es) place
    ∙ ap (option_map (number_in (declared es))) (slice_get-map (λ (e : Vec ℕ × Numbered). e.1.relation) es place ∙ ap (option_map (λ e. e.1.relation)) at)
    )

-- the relation of a number stands at the place that is kept for it
pub relation_at-place : (es : List (Vec ℕ × Numbered)) (y : Summary) (n place : ℕ) → IsTable es y → Some place ≡ slice_get (places_on (side_with n) y) (n / 2) → relation_at (declared es) n ≡ option_map (λ e. e.1.relation) (slice_get es place)
relation_at-place es y n place table at =
    let side = side_with n in
    let r = passes-at (is_of side) 0 (declared es) (n / 2) place (sym (at ∙ ap (λ ps. slice_get ps (n / 2)) (places_on-is side (declared es) y table.summed_up))) in
    let c = r.1 in
    let e : r.0 ≡ place = omega arith in
    r.2 ∙ slice_get-map (λ (x : Vec ℕ × Numbered). x.1.relation) es r.0 ∙ ap (λ k. option_map (λ x. x.1.relation) (slice_get es k)) e

-- a number of which no place is kept
pub relation_at-none : (es : List (Vec ℕ × Numbered)) (y : Summary) (n : ℕ) → IsTable es y → None ≡ slice_get (places_on (side_with n) y) (n / 2) → relation_at (declared es) n ≡ None
relation_at-none es y n table at =
    let side = side_with n in
    none-at (is_of side) 0 (declared es) (n / 2) (sym (at ∙ ap (λ ps. slice_get ps (n / 2)) (places_on-is side (declared es) y table.summed_up)))

module _ (name : List ℕ) where
  -- the test by which a name is looked up
  abbrev pub is_key : Vec ℕ → Bool
  is_key k = bytes_eq name k.items

  -- the relation of a name is the one that is looked up
  named-lookup : (es : List (Vec ℕ × Numbered)) → key_names es ≡ relation_names (declared es) → relation_named (declared es) name ≡ option_map (λ d. d.relation) (lookup is_key es)
  named-lookup [] k = refl
  named-lookup (e ∷ es) k =
      let head : e.0.items ≡ e.1.relation.name = cc in
      let tail : key_names es ≡ relation_names (declared es) = cc in
      elim (cases_Bool (bytes_eq name e.0.items)) [
        | inl t ↦ (let u : bytes_eq name e.1.relation.name ≡ true = ap (bytes_eq name) (sym head) ∙ t in rw (t, u) refl)
        | inr t ↦ (let u : bytes_eq name e.1.relation.name ≡ false = ap (bytes_eq name) (sym head) ∙ t in rw (t, u) (named-lookup es tail))
      ]

  -- a name in the table
  pub find-some : (es : List (Vec ℕ × Numbered)) (y : Summary) (place : ℕ) (k : Vec ℕ) (d : Numbered) → IsTable es y → slice_get es place ≡ Some (k, d) → Some d ≡ lookup is_key es → Some (info_of d) ≡ find_relation (declared es) name
  find-some es y place k d table at l =
      sym (ap (option_map (relation_info (declared es))) (named-lookup es table.keyed ∙ ap (option_map (λ x. x.relation)) (sym l))
      ∙ ap (λ n. let i : RelInfo = record { number = n; side = d.relation.side; arity = length d.relation.columns } in Some i) (sym (number-at es y place k d table at)))

  -- a name that the table lacks
  pub find-none : (es : List (Vec ℕ × Numbered)) → key_names es ≡ relation_names (declared es) → None ≡ lookup is_key es → None ≡ find_relation (declared es) name
  find-none es k l = sym (ap (option_map (relation_info (declared es))) (named-lookup es k ∙ ap (option_map (λ x. x.relation)) (sym l)))

  -- what is no key is not looked up
  lookup-absent : (es : List (Vec ℕ × Numbered)) → list_any (bytes_eq name) (key_names es) ≡ false → lookup is_key es ≡ None
  lookup-absent [] h = refl
  lookup-absent (e ∷ es) h = let p = or_parts (bytes_eq name e.0.items) (list_any (bytes_eq name) (key_names es)) h in rw p.0 (lookup-absent es p.1)

-- what stands in the table is one of its relations
pub ∈-declared : (es : List (Vec ℕ × Numbered)) (place : ℕ) (k : Vec ℕ) (d : Numbered) → slice_get es place ≡ Some (k, d) → d.relation ∈ declared es
∈-declared [] place k d h = absurd (none-some _ h)
∈-declared (e ∷ es) zero k d h = inl (let q : e ≡ (k, d) = cc in sym (ap (λ (x : Vec ℕ × Numbered). x.1.relation) q))
∈-declared (e ∷ es) (suc place) k d h = inr (∈-declared es place k d h)

-- ---- one relation more

-- an admitted relation, put into the table, goes last
module _
    {S : Type 0} (m : IndexMap (Vec ℕ) Numbered S) (es new : List (Vec ℕ × Numbered)) (key : Vec ℕ) (d : Numbered) (given : Relation) (s : List Relation)
    (unchanged : m.entries ≡ es) (same : key.items ≡ given.name) (is : d.relation ≡ given) (counts : d.number ≡ next_number given.side s)
    (old : Summary) (table : IsTable es old) (seen : declared es ≡ s) (none : refusal s given ≡ None)
    (e : new ≡ insert_entry (λ a b. pointwise nat_eq a.items b.items) m.entries key d) where
  admitted : IsAdmitted (declared es) d.relation
  admitted = IsAdmitted-from_none (declared es) d.relation (ap₂ refusal seen is ∙ none)

  last : new ≡ es ++ (key, d) ∷ []
  last =
      let names : key_names m.entries ≡ relation_names (declared es) = ap key_names unchanged ∙ table.keyed in
      let absent : list_any (bytes_eq key.items) (key_names m.entries) ≡ false =
      ap₂ (λ w ns. list_any (bytes_eq w) ns) (same ∙ sym (ap (λ (r : Relation). r.name) is)) names ∙ admitted.new in
      e ∙ insert_entry-new (λ a b. pointwise nat_eq a.items b.items) m key d (lookup-absent key.items m.entries absent) ∙ ap (λ xs. xs ++ (key, d) ∷ []) unchanged

  declared-last : declared new ≡ declared es ++ d.relation ∷ []
  declared-last = ap declared last ∙ map-append (λ (x : Vec ℕ × Numbered). x.1.relation) es ((key, d) ∷ [])

  pub appended : declared new ≡ s ++ given ∷ []
  appended = declared-last ∙ ap₂ (λ rs r. rs ++ r ∷ []) seen is

  -- and the table is one again
  pub appended-table : (now : Summary) (arity place : ℕ) → length given.columns ≡ arity → 1 ≤ arity → place ≡ length s → AddsTo given.side old now given.name arity place → IsTable new now
  appended-table now arity place wide some at adds =
      let columns : length d.relation.columns ≡ arity = ap (λ (r : Relation). length r.columns) is ∙ wide in
      let added : AddsTo d.relation.side old now d.relation.name arity place = subst (λ (r : Relation). AddsTo r.side old now r.name arity place) (sym is) adds in
      let one : 1 ≤ length d.relation.columns = subst (λ n. 1 ≤ n) (sym columns) some in
      let number : d.number ≡ next_number d.relation.side (declared es) = counts ∙ ap₂ (λ (r : Relation) rs. next_number r.side rs) (sym is) (sym seen) in
      record {
        keyed =
            ap key_names last
            ∙ map-append (λ (x : Vec ℕ × Numbered). x.0.items) es ((key, d) ∷ [])
            ∙ ap₂ (λ ns n. ns ++ n ∷ []) table.keyed (same ∙ sym (ap (λ (r : Relation). r.name) is))
            ∙ sym (ap relation_names declared-last ∙ map-append (λ (r : Relation). r.name) (declared es) (d.relation ∷ []));
        numbered =
            ap (map (λ x. x.1.number)) last
            ∙ map-append (λ (x : Vec ℕ × Numbered). x.1.number) es ((key, d) ∷ [])
            ∙ ap₂ (λ ns n. ns ++ n ∷ []) table.numbered number
            ∙ sym (ap (λ rs. map (number_in rs) rs) declared-last ∙ numbers-last (declared es) d.relation admitted.new);
        lawful = subst (λ rs. IsSchema rs) (sym declared-last) (IsSchema-push (declared es) d.relation table.lawful admitted one);
        summed_up = subst (λ rs. SumsUp rs now) (sym declared-last) (SumsUp-push (declared es) d.relation old now arity place columns (at ∙ ap length (sym seen)) added table.summed_up);
      }

-- a table whose entries stay, and what is kept of them
pub IsTable-same : (es new : List (Vec ℕ × Numbered)) (old now : Summary) → new ≡ es → IsSame old.source now.source × IsSame old.target now.target → IsTable es old → IsTable new now
IsTable-same es new old now e stays table =
    subst (λ xs. IsTable xs now) (sym e) (record { keyed = table.keyed; numbered = table.numbered; lawful = table.lawful; summed_up = SumsUp-same (declared es) old now stays table.summed_up })

-- the relations of a side are at most 64
pub count-few : (es : List (Vec ℕ × Numbered)) (y : Summary) (side : Side) → IsTable es y → length (places_on side y) ≤ 64
count-few es y side table =
    let counted : length (places_on side y) ≡ length (relations_of side (declared es)) = count-is side (declared es) y table.summed_up in
    let few = table.lawful.few_on_side side in
    omega arith

-- an outcome that is known to be Ok
pub from_ok : {T E P : Type 0} (r : Result T E) → IsOk r → OnOk r P → P
from_ok (Ok x) t p = p
from_ok (Err x) t p = absurd (false≢true t)
