-- Laws of putting the names of a line into the table.
use Rattle.std.proofs.Common.{◌≡◌, ℕ, List, [], ◌∷◌, ◌++◌, map, Result, Ok, Err, OnErr, append_assoc, append-nil, inl, inr, refl, sym, ◌∙◌, ap, subst}
use Rattle.std.specs.List.{list_any}
use Rattle.std.specs.Str.{bytes_eq}
use Rattle.std.proofs.lemmas.Bool.{cases_Bool}
use Rattle.std.proofs.lemmas.List.{map-append}
use Rattle.std.proofs.lemmas.List.Folds.{list_any-append}
use Rattle.eir_term.specs.declared.val.Val.TheVariants.{Const, Null}
use Rattle.eir_term.specs.Lists.{◌∈◌}
use Rattle.eir_term.proofs.ListLaws.{∈-map}
use Rattle.eir_term.proofs.HomLaws.{map-agree}
use Rattle.eir_schema.specs.Names.{with_name}
use Rattle.eir_schema.proofs.NameLaws.{IsNamed, IsNamed-with_name, number_of-kept}
use Rattle.eir_script.specs.Grammar.{Argument, constant, labelled}
use Rattle.eir_script.specs.Reading.{argument_name}
use Rattle.eir_script.specs.Naming.{named, value_of}

-- a table grows at its end
with_name-grows : (names : List (List ℕ)) (w : List ℕ) → (more : List (List ℕ)) × (with_name names w ≡ names ++ more)
with_name-grows names w = elim (cases_Bool (list_any (bytes_eq w) names)) [
  | inl t ↦ ([], rw t (sym (append-nil names)))
  | inr t ↦ (w ∷ [], rw t refl)
]

pub named-grows : (names ws : List (List ℕ)) → (more : List (List ℕ)) × (named names ws ≡ names ++ more)
named-grows names [] = ([], sym (append-nil names))
named-grows names (w ∷ ws) =
    let one = with_name-grows names w in
    let rest = named-grows (with_name names w) ws in
    (one.0 ++ rest.0, rest.1 ∙ ap (λ ns. ns ++ rest.0) one.1 ∙ append_assoc names one.0 rest.0)

named-push : (names ws : List (List ℕ)) (w : List ℕ) → named names (ws ++ w ∷ []) ≡ with_name (named names ws) w
named-push names [] w = refl
named-push names (u ∷ ws) w = named-push (with_name names u) ws w

-- each name that was put into a table is in it
IsNamed-named : (names ws : List (List ℕ)) (w : List ℕ) → IsNamed names w → IsNamed (named names ws) w
IsNamed-named names ws w t = let g = named-grows names ws in subst (λ ns. IsNamed ns w) (sym g.1) (list_any-append (bytes_eq w) names g.0 ∙ rw t refl)

∈-IsNamed : (names ws : List (List ℕ)) (w : List ℕ) → w ∈ ws → IsNamed (named names ws) w
∈-IsNamed names [] w h = absurd h
∈-IsNamed names (u ∷ ws) w (inl e) = IsNamed-named (with_name names u) ws w (subst (λ v. IsNamed (with_name names v) w) e (IsNamed-with_name names w))
∈-IsNamed names (u ∷ ws) w (inr h) = ∈-IsNamed (with_name names u) ws w h

-- so the values of arguments whose names are in a table stay
value_of-kept : (names : List (List ℕ)) (u : List ℕ) (a : Argument) → IsNamed names (argument_name a) → value_of names a ≡ value_of (with_name names u) a
value_of-kept names u (constant w) t = ap Const (sym (number_of-kept names u w t))
value_of-kept names u (labelled w) t = ap Null (sym (number_of-kept names u w t))

-- the names of one argument more
pub names-push : (old names new : List (List ℕ)) (done : List Argument) (a : Argument) → names ≡ named old (map argument_name done) → new ≡ with_name names (argument_name a) →
    new ≡ named old (map argument_name (done ++ a ∷ []))
names-push old names new done a e k =
    k ∙ ap (λ ns. with_name ns (argument_name a)) e ∙ sym (named-push old (map argument_name done) (argument_name a)) ∙ ap (named old) (sym (map-append argument_name done (a ∷ [])))

-- the values of one argument more
pub values-push : (old names new : List (List ℕ)) (done : List Argument) (a : Argument) → names ≡ named old (map argument_name done) → new ≡ with_name names (argument_name a) →
    map (value_of names) done ++ value_of new a ∷ [] ≡ map (value_of new) (done ++ a ∷ [])
values-push old names new done a e k = ap (λ vs. vs ++ value_of new a ∷ []) (map-agree (value_of names) (value_of new) done kept) ∙ sym (map-append (value_of new) done (a ∷ []))
  where
    kept : (b : Argument) → b ∈ done → value_of names b ≡ value_of new b
    kept b h =
        value_of-kept names (argument_name a) b (subst (λ ns. IsNamed ns (argument_name b)) (sym e) (∈-IsNamed old (map argument_name done) (argument_name b) (∈-map argument_name b done h)))
        ∙ ap (λ ns. value_of ns b) (sym k)

-- the table has grown after some names, and after one more
pub grown-named : {A E : Type 0} (r : Result A E) (old ws new : List (List ℕ)) → new ≡ named old ws → OnErr r ((more : List (List ℕ)) × (new ≡ old ++ more))
grown-named r old ws new e = let g = named-grows old ws in on_err r (g.0, e ∙ g.1)
  where
    on_err : {T E P : Type 0} (r : Result T E) → P → OnErr r P
    on_err (Ok x) h = tt
    on_err (Err x) h = h
