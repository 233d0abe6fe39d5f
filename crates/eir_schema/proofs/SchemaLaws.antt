-- Laws of schemas: what a look-up finds, and when one relation more may be declared.
use Rattle.std.proofs.Common.{◌≡◌, ◌≤◌, ◌<◌, ◌+◌, ℕ, Bool, true, false, ◌||◌, cond, List, [], ◌∷◌, ◌++◌, length, Option, Some, None, is_some, option_map, refl, sym, ◌∙◌, ap, subst, inl, inr, arith}
use Rattle.std.specs.Prelude.{nat_lt, nat_le}
use Rattle.std.specs.List.{list_any}
use Rattle.std.specs.Str.{bytes_eq}
use Rattle.std.proofs.lemmas.Bool.{cases_Bool, leb-false, ltb-false, false≢true, or_parts}
use Rattle.std.proofs.lemmas.List.{length-append, map-append}
use Rattle.std.proofs.lemmas.Option.{none-some}
use Rattle.std.proofs.lemmas.Slice.Eq.{bytes_eq-Decides}
use Rattle.eir_term.specs.declared.val.Side.{Side}
use Rattle.eir_term.specs.declared.val.Side.TheVariants.{Source, Target}
use Rattle.eir_term.specs.Lists.{IsDistinct}
use Rattle.eir_term.proofs.ListLaws.{∈-append_cases, ∈-list_any, IsDistinct-push}
use Rattle.eir_schema.specs.declared.refused.DeclareRefused.{DeclareRefused}
use Rattle.eir_schema.specs.declared.refused.DeclareRefused.TheVariants.{Taken, Full, Memory}
use Rattle.eir_schema.specs.Schemas.{Relation, IsSchema, is_of, relations_of, relation_names, relation_info, relation_named, find_relation}
use Rattle.eir_schema.specs.Declarations.{has_repeat, refusal, told}
use Rattle.eir_schema.proofs.ColumnLaws.{IsDistinct-from_no_repeat}
use Rattle.eir_schema.proofs.SideLaws.{same_side-true, length-relations_of, relations_of-own, relations_of-other}

-- ---- look-ups

-- a name is found exactly where it is one of the names
pub is_some-find_relation : (s : List Relation) (name : List ℕ) → is_some (find_relation s name) ≡ list_any (bytes_eq name) (relation_names s)
is_some-find_relation s name = some-info (relation_named s name) ∙ is_some-named s
  where
    some-info : (found : Option Relation) → is_some (option_map (relation_info s) found) ≡ is_some found
    some-info None = refl
    some-info (Some r) = refl

    is_some-named : (rs : List Relation) → is_some (relation_named rs name) ≡ list_any (bytes_eq name) (relation_names rs)
    is_some-named [] = refl
    is_some-named (r ∷ rs) = elim (cases_Bool (bytes_eq name r.name)) [ inl t ↦ rw t refl | inr t ↦ rw t (is_some-named rs) ]

-- there are at most 128 relations
pub length-within : (s : List Relation) → IsSchema s → length s ≤ 128
length-within s good =
    let a = length-relations_of s in
    let b = good.few_on_side Source in
    let c = good.few_on_side Target in
    omega arith

-- ---- one relation more

first_none : (b : Bool) (x : DeclareRefused) (rest : Option DeclareRefused) → cond b (Some x) rest ≡ None → (b ≡ false) × (rest ≡ None)
first_none true x rest e = absurd (none-some x (sym e))
first_none false x rest e = (refl, e)

-- what is told by a declaration that no test refuses
pub record IsAdmitted (s : List Relation) (d : Relation) : Type 0 where
  pub new : list_any (bytes_eq d.name) (relation_names s) ≡ false
  pub apart : IsDistinct d.columns
  pub narrow : length d.columns ≤ 16
  pub room : length (relations_of d.side s) < 64

pub IsAdmitted-from_none : (s : List Relation) (d : Relation) → refusal s d ≡ None → IsAdmitted s d
IsAdmitted-from_none s d none =
    let taken = first_none (is_some (find_relation s d.name) || has_repeat d.columns) Taken _ none in
    let wide = first_none (nat_lt 16 (length d.columns)) (Full 16) _ taken.1 in
    let full = first_none (nat_le 64 (length (relations_of d.side s))) (Full 64) None wide.1 in
    let p = or_parts (is_some (find_relation s d.name)) (has_repeat d.columns) taken.0 in
    record {
      new = sym (is_some-find_relation s d.name) ∙ p.0;
      apart = IsDistinct-from_no_repeat d.columns p.1;
      narrow = ltb-false 16 (length d.columns) wide.0;
      room = leb-false 64 (length (relations_of d.side s)) full.0;
    }

-- the schema with it is lawful again
pub IsSchema-push : (s : List Relation) (d : Relation) → IsSchema s → IsAdmitted s d → 1 ≤ length d.columns → IsSchema (s ++ d ∷ [])
IsSchema-push s d good admitted some = record {
  named_apart = subst (λ ns. IsDistinct ns) (sym (map-append (λ r. r.name) s (d ∷ []))) (
      IsDistinct-push (relation_names s) d.name good.named_apart (λ h. false≢true (sym admitted.new ∙ ∈-list_any bytes_eq bytes_eq-Decides d.name (relation_names s) h))
      );
  few_on_side = few;
  columns_apart = λ r h. elim (∈-append_cases r s (d ∷ []) h) [
    | inl k ↦ good.columns_apart r k
    | inr k ↦ elim k [ inl e ↦ subst (λ (x : Relation). IsDistinct x.columns) (sym e) admitted.apart | inr k ↦ absurd k ]
  ];
  columns_within = λ r h. elim (∈-append_cases r s (d ∷ []) h) [
    | inl k ↦ good.columns_within r k
    | inr k ↦ elim k [ inl e ↦ subst (λ (x : Relation). (1 ≤ length x.columns) × (length x.columns ≤ 16)) (sym e) (some, admitted.narrow) | inr k ↦ absurd k ]
  ];
}
  where
    few : (side : Side) → length (relations_of side (s ++ d ∷ [])) ≤ 64
    few side = elim (cases_Bool (is_of side d)) [
      | inl t ↦ (
          let e : length (relations_of side (s ++ d ∷ [])) ≡ length (relations_of side s) + 1 = ap length (relations_of-own side s d t) ∙ length-append (relations_of side s) (d ∷ []) in
          let room : length (relations_of side s) < 64 = subst (λ x. length (relations_of x s) < 64) (sym (same_side-true side d.side t)) admitted.room in
          omega arith
          )
      | inr t ↦ subst (λ rs. length rs ≤ 64) (sym (relations_of-other side s d t)) (good.few_on_side side)
    ]

-- ---- what an error tells

-- no cause is want of memory
pub told-refusal : (s : List Relation) (d : Relation) (e : DeclareRefused) → Some e ≡ refusal s d → told e ≡ refusal s d
told-refusal s d Taken h = h
told-refusal s d (Full n) h = h
told-refusal s d Memory h = elim (cases_Bool (is_some (find_relation s d.name) || has_repeat d.columns)) [
  | inl t ↦ (let k : Some Memory ≡ Some Taken = h ∙ rw t refl in absurd (memory-taken k))
  | inr t ↦ elim (cases_Bool (nat_lt 16 (length d.columns))) [
    | inl u ↦ (let k : Some Memory ≡ Some (Full 16) = h ∙ rw (t, u) refl in absurd (memory-full 16 k))
    | inr u ↦ elim (cases_Bool (nat_le 64 (length (relations_of d.side s)))) [
      | inl v ↦ (let k : Some Memory ≡ Some (Full 64) = h ∙ rw (t, u, v) refl in absurd (memory-full 64 k))
      | inr v ↦ (let k : Some Memory ≡ None = h ∙ rw (t, u, v) refl in absurd (none-some Memory (sym k)))
    ]
  ]
]
  where
    memory-taken : Some Memory ≡ Some Taken → ⊥
    memory-taken e = cc

    memory-full : (n : ℕ) → Some Memory ≡ Some (Full n) → ⊥
    memory-full n e = cc
