-- What the calls on a schema and on examples tell, joined to the answers to acts.
use Rattle.std.proofs.Common.{◌≡◌, ◌⊎◌, ℕ, suc, ◌+◌, ◌≤◌, ◌<◌, Bool, true, false, cond, List, [], ◌∷◌, ◌++◌, map, Option, Some, None, option_map, find, refl, sym, ap, ◌∙◌, subst, inl, inr, arith}
use Rattle.std.specs.Prelude.{◌==◌}
use Rattle.std.proofs.lemmas.Bool.{cases_Bool}
use Rattle.std.proofs.lemmas.Option.{none-some, same_Some}
use Rattle.eir_schema.specs.declared.refused.DeclareRefused.{DeclareRefused}
use Rattle.eir_schema.specs.declared.refused.DeclareRefused.TheVariants as declaring
use Rattle.eir_schema.specs.Declarations as schema
use Rattle.eir_schema.specs.declared.relation.RelInfo.{RelInfo}
use Rattle.eir_schema.specs.Schemas.{Relation, IsSchema, find_relation, relation_named, relation_info}
use Rattle.eir_term.specs.Lists.{◌∈◌}
use Rattle.eir_edit.specs.declared.refused.EditRefused.{EditRefused}
use Rattle.eir_edit.specs.declared.refused.EditRefused.TheVariants as editing
use Rattle.eir_edit.specs.Causes.{Cause, first_cause, told, declared_cause}
use Rattle.eir_edit.specs.Edits.{versioned, last_version}
use Rattle.eir_edit.specs.Histories.{History}
use Rattle.eir_edit.specs.State.{Act, Desk, Work, refusal, done, draws, after as desk_after, drawn_after, unless, work_after}
use Rattle.eir_edit.proofs.CauseLaws.{first_cause-append, first_cause-before, first_cause-front}
use Rattle.eir_print.specs.declared.refusal.Refusal.{Refusal}
use Rattle.eir_print.specs.Causes.{IsCaused, refusal_of, refusal_of_edit, refusal_of_declaration}
use Rattle.eirene.specs.Workspaces.{Workspace}
use Rattle.eirene.specs.Replies.{Request, act, answer, done as accepted, refused, refused_by, after}
use Rattle.eirene.specs.Answers.{IsRefused}

-- the workspace with this work
abbrev pub with_work : Workspace → Work → Workspace
with_work w k = record w { work = k }

-- ---- an act that no test refuses

pub act-done : (w v : Workspace) (a : Act) → refusal a w.work.desk ≡ None → v ≡ with_work w (record { drawn = cond (draws a) (suc w.work.drawn) w.work.drawn; desk = done w.work.drawn a w.work.desk }) →
    (answer (Some (act a)) w ≡ accepted) × (v ≡ after (Some (act a)) w)
act-done w v a none e = (
  ap refused_by none,
  e ∙ ap (λ (r : Option Cause). with_work w (record { drawn = unless r w.work.drawn (cond (draws a) (suc w.work.drawn) w.work.drawn); desk = unless r w.work.desk (done w.work.drawn a w.work.desk) })) (sym none),
)

-- the same, where a clause says it of a version that is counted up
pub drawn-more : (w v : Workspace) (n : ℕ) (d : Desk) → n ≡ w.work.drawn + 1 → v ≡ with_work w (record { drawn = n; desk = d }) → v ≡ with_work w (record { drawn = suc w.work.drawn; desk = d })
drawn-more w v n d e k = k ∙ ap (λ (m : ℕ). with_work w (record { drawn = m; desk = d })) (e ∙ (let q : w.work.drawn + 1 ≡ suc w.work.drawn = omega arith in q))

-- ---- an act that a test refuses

pub act-refused : (w : Workspace) (a : Act) (e : Refusal) → IsCaused e (refusal a w.work.desk) → IsRefused e (Some (act a)) w
act-refused w a e (inl m) = inl m
act-refused w a e (inr h) = inr (by (refusal a w.work.desk) refl h)
  where
    by : (r : Option Cause) → refusal a w.work.desk ≡ r → option_map refusal_of r ≡ Some e → (answer (Some (act a)) w ≡ refused e) × (after (Some (act a)) w ≡ w)
    by None k h = absurd (none-some e h)
    by (Some c) k h = (
      ap refused_by k ∙ ap refused (same_Some (refusal_of c) e h),
      ap (λ (r : Option Cause). with_work w (record { drawn = unless r w.work.drawn (cond (draws a) (suc w.work.drawn) w.work.drawn); desk = unless r w.work.desk (done w.work.drawn a w.work.desk) })) k,
    )

-- ---- the version that is never drawn

spare : (n : ℕ) → n < last_version → (n == last_version) ≡ false
spare n l = grind arith

-- where a version is left its test changes nothing
pub versioned-spare : (n : ℕ) (ts : List (Bool × Cause)) → n < last_version → first_cause (versioned n ts) ≡ first_cause ts
versioned-spare n [] l = rw (spare n l) refl
versioned-spare n (t ∷ ts) l = elim (cases_Bool t.0) [ inl s ↦ rw s refl | inr s ↦ rw s (versioned-spare n ts l) ]

-- ---- refusals of the crates below

pub edit-caused : (e : EditRefused) (cause : Option Cause) → told e ≡ cause → IsCaused (refusal_of_edit e) cause
edit-caused editing.Taken cause h = inr (ap (option_map refusal_of) (sym h))
edit-caused editing.NoExample cause h = inr (ap (option_map refusal_of) (sym h))
edit-caused editing.There cause h = inr (ap (option_map refusal_of) (sym h))
edit-caused editing.Missing cause h = inr (ap (option_map refusal_of) (sym h))
edit-caused (editing.Full n) cause h = inr (ap (option_map refusal_of) (sym h))
edit-caused editing.Nothing cause h = inr (ap (option_map refusal_of) (sym h))
edit-caused (editing.Foreign mine theirs) cause h = inr (ap (option_map refusal_of) (sym h))
edit-caused editing.Memory cause h = inl refl

-- ---- tests of a schema, as tests of an act

pub declared-first : (ts : List (Bool × DeclareRefused)) → first_cause (map (λ t. (t.0, declared_cause t.1)) ts) ≡ option_map declared_cause (schema.first_cause ts)
declared-first [] = refl
declared-first (t ∷ ts) = elim (cases_Bool t.0) [ inl s ↦ rw s refl | inr s ↦ rw s (declared-first ts) ]

pub declaration-caused : (e : DeclareRefused) (r : Option DeclareRefused) → schema.told e ≡ r → IsCaused (refusal_of_declaration e) (option_map declared_cause r)
declaration-caused declaring.Taken r h = inr (ap (λ x. option_map refusal_of (option_map declared_cause x)) (sym h))
declaration-caused (declaring.Full n) r h = inr (ap (λ x. option_map refusal_of (option_map declared_cause x)) (sym h))
declaration-caused declaring.Memory r h = inl refl

-- ---- a relation that is found has 1 to 16 columns

∈-found : (p : Relation → Bool) (s : List Relation) (r : Relation) → find p s ≡ Some r → r ∈ s
∈-found p [] r e = absurd (none-some r e)
∈-found p (q ∷ qs) r e = elim (cases_Bool (p q)) [
  | inl t ↦ (let k : Some q ≡ Some r = sym (rw t refl) ∙ e in inl (sym (same_Some q r k)))
  | inr t ↦ inr (∈-found p qs r (sym (rw t refl) ∙ e))
]

pub found-narrow : (s : List Relation) (w : List ℕ) (r : RelInfo) → IsSchema s → find_relation s w ≡ Some r → (1 ≤ r.arity) × (r.arity ≤ 16)
found-narrow s w r lawful e = by (relation_named s w) refl
  where
    by : (o : Option Relation) → relation_named s w ≡ o → (1 ≤ r.arity) × (r.arity ≤ 16)
    by None f = absurd (none-some r (sym (ap (option_map (relation_info s)) f) ∙ e))
    by (Some q) f =
        let k : relation_info s q ≡ r = same_Some (relation_info s q) r (sym (ap (option_map (relation_info s)) f) ∙ e) in
        subst (λ (i : RelInfo). (1 ≤ i.arity) × (i.arity ≤ 16)) k (lawful.columns_within q (∈-found _ s q f))
