-- The profiles after one fact more. The point is `profiles-push`.
use Rattle.std.proofs.Common.{◌≡◌, ℕ, zero, suc, ◌+◌, ◌-◌, ◌≤◌, ◌==◌, inl, inr, Bool, true, false, cond, List, [], ◌∷◌, ◌++◌, map, length, Option, Some, None, option_map, slice_get, refl, sym, ◌∙◌, ap, ap₂, subst, arith, append-nil, append_assoc, length-append}
use Rattle.std.proofs.lemmas.Bool.{cases_Bool, false≢true}
use Rattle.std.proofs.lemmas.Bool.Decides.{Decides-eqb}
use Rattle.std.proofs.lemmas.List.{map-append, length-map}
use Rattle.std.proofs.lemmas.Option.{slice_get-map, same_Some, none-some}
use Rattle.indexmap.specs.IndexSet.{insert_all}
use Rattle.eir_term.specs.declared.val.Val.{Val}
use Rattle.eir_term.specs.declared.fact.Fact.{Fact}
use Rattle.eir_term.specs.Lists.{◌∈◌, IsDistinct, places, place_of}
use Rattle.eir_term.specs.Values.{val_eq, val_eq-decides}
use Rattle.eir_term.specs.Instances.{values}
use Rattle.eir_term.specs.Profiles.{Mark, marks, with_mark, in_order, profile}
use Rattle.eir_term.proofs.ListLaws.{slice_get-place_of}
use Rattle.eir_term.proofs.HomLaws.{∈-values, IsDistinct-values}
use Rattle.eir_term.proofs.OrderLaws.{∈-slice_get_from, place_of-slice_get}
use Rattle.eir_term.proofs.ProfileLaws.{in_order-push, marks-append, ∈-marks_from}
use Rattle.eir_inst.specs.Numbers.{numbers_of}
use Rattle.eir_inst.specs.Grown.{grown, blank}
use Rattle.eir_inst.proofs.ValueLaws.{values-push, insert_all-grows}

-- lists with the same element at each place are the same
pub same_places : {X : Type 0} (xs ys : List X) → ((n : ℕ) → slice_get xs n ≡ slice_get ys n) → xs ≡ ys
same_places [] [] e = refl
same_places [] (y ∷ ys) e = absurd (none-some y (e zero))
same_places (x ∷ xs) [] e = absurd (none-some x (sym (e zero)))
same_places {X} (x ∷ xs) (y ∷ ys) e = ap₂ (λ (z : X) zs. z ∷ zs) (same_Some x y (e zero)) (same_places xs ys (λ n. e (suc n)))

-- one blank profile more
pub blank-push : (k : ℕ) → blank (suc k) ≡ blank k ++ [] ∷ []
blank-push zero = refl
blank-push (suc k) = ap (λ ps. [] ∷ ps) (blank-push k)

-- one turn of the loop that puts them behind
pub widen-step : (old items new : List (List Mark)) (p : List Mark) (i n : ℕ) → n ≤ i → items ≡ old ++ blank (i - n) → new ≡ items ++ p ∷ [] → p ≡ [] → new ≡ old ++ blank (i + 1 - n)
widen-step old items new p i n l e g q =
    let c : suc (i - n) ≡ i + 1 - n = omega arith in
    g ∙ ap₂ (λ ps z. ps ++ z ∷ []) e q ∙ append_assoc old (blank (i - n)) ([] ∷ []) ∙ ap (λ ps. old ++ ps) (sym (blank-push (i - n)) ∙ ap blank c)

-- the tests of two values and of their numbers agree, where both are among the values
pub number-test : (ws : List Val) (u v : Val) → u ∈ ws → v ∈ ws → (place_of val_eq u ws == place_of val_eq v ws) ≡ val_eq v u
number-test ws u v i j = elim (cases_Bool (val_eq v u)) [
  | inl t ↦ (Decides-eqb (place_of val_eq u ws) (place_of val_eq v ws)).1 (ap (λ x. place_of val_eq x ws) (sym ((val_eq-decides v u).0 t))) ∙ sym t
  | inr t ↦ elim (cases_Bool (place_of val_eq u ws == place_of val_eq v ws)) [
    | inl s ↦ (let e = (Decides-eqb (place_of val_eq u ws) (place_of val_eq v ws)).0 s in
        let same : v ≡ u = same_Some v u (sym (slice_get-place_of val_eq val_eq-decides v ws j) ∙ ap (slice_get ws) (sym e) ∙ slice_get-place_of val_eq val_eq-decides u ws i) in
        absurd (false≢true (sym t ∙ (val_eq-decides v u).1 same)))
    | inr s ↦ s ∙ sym t
  ]
]

-- a column at which the value stands is inserted, another is not
grown-step : (r i n : ℕ) (ns : List ℕ) (is : List ℕ) (ms : List Mark) (b : Bool) → ((ks : List Mark) → in_order (ks ++ map (λ j. let m : Mark = (r, j) in m) is) ≡ grown r (i + 1) ns n (in_order ks)) →
    in_order (ms ++ map (λ j. let m : Mark = (r, j) in m) (cond b (i ∷ is) is)) ≡ grown r (i + 1) ns n (cond b (with_mark (r, i) (in_order ms)) (in_order ms))
grown-step r i n ns is ms false rest = rest ms
grown-step r i n ns is ms true rest =
    let m : Mark = (r, i) in
    ap in_order (sym (append_assoc ms (m ∷ []) (map (λ j. let m : Mark = (r, j) in m) is))) ∙ rest (ms ++ m ∷ []) ∙ ap (grown r (i + 1) ns n) (in_order-push ms m)

-- the columns at which a value stands are inserted in turn
grown-is : (r i : ℕ) (ws vs : List Val) (v : Val) (ms : List Mark) → ((u : Val) → u ∈ vs → u ∈ ws) → v ∈ ws →
    in_order (ms ++ map (λ j. let m : Mark = (r, j) in m) (places (val_eq v) i vs)) ≡ grown r i (numbers_of ws vs) (place_of val_eq v ws) (in_order ms)
grown-is r i ws [] v ms there j = ap in_order (append-nil ms)
grown-is r i ws (u ∷ vs) v ms there j =
    let n = place_of val_eq v ws in
    let e : suc i ≡ i + 1 = omega arith in
    grown-step r i n (numbers_of ws vs) (places (val_eq v) (suc i) vs) ms (val_eq v u)
    (λ ks. ap (λ q. in_order (ks ++ map (λ j. let m : Mark = (r, j) in m) (places (val_eq v) q vs))) e ∙ grown-is r (i + 1) ws vs v ks (λ x h. there x (inr h)) j)
    ∙ ap (λ b. grown r (i + 1) (numbers_of ws vs) n (cond b (with_mark (r, i) (in_order ms)) (in_order ms))) (sym (number-test ws u v (there u (inl refl)) j))

-- so is a value's profile after one fact more
pub profile-grown : (K : List Fact) (f : Fact) (ws : List Val) (v : Val) → ((u : Val) → u ∈ f.args → u ∈ ws) → v ∈ ws → profile (K ++ f ∷ []) v ≡ grown f.rel 0 (numbers_of ws f.args) (place_of val_eq v ws) (profile K v)
profile-grown K f ws v there j =
    ap in_order (marks-append K (f ∷ []) v ∙ ap (λ ns. marks K v ++ ns) (append-nil (map (λ j. let m : Mark = (f.rel, j) in m) (places (val_eq v) 0 f.args)))) ∙ grown-is f.rel 0 ws f.args v (marks K v) there j

-- a value that does not occur has no mark
pub profile-absent : (K : List Fact) (v : Val) → (v ∈ values K → ⊥) → profile K v ≡ []
profile-absent K v absent = ap in_order (none (marks K v) (λ m h. let r = ∈-marks_from K v m h in absent (∈-values v r.0 K r.1 (∈-slice_get_from v (r.0).args m.1 r.3))))
  where
    none : (ms : List Mark) → ((m : Mark) → m ∈ ms → ⊥) → ms ≡ []
    none [] free = refl
    none (m ∷ ms) free = absurd (free m (inl refl))

-- an element of the second of two lists is not in the first, where both together have no repeats
second-only : (xs ys : List Val) (y : Val) → IsDistinct (xs ++ ys) → y ∈ ys → y ∈ xs → ⊥
second-only [] ys y d h i = i
second-only (x ∷ xs) ys y d h (inl e) = d.0 (subst (λ z. z ∈ (xs ++ ys)) e (right xs h))
  where
    right : (xs : List Val) → y ∈ ys → y ∈ (xs ++ ys)
    right [] h = h
    right (x ∷ xs) h = inr (right xs h)
second-only (x ∷ xs) ys y d h (inr i) = second-only xs ys y d.1 h i

-- the new values have blank profiles before the fact
blank-profiles : (K : List Fact) (more : List Val) → ((v : Val) → v ∈ more → v ∈ values K → ⊥) → map (profile K) more ≡ blank (length more)
blank-profiles K [] absent = refl
blank-profiles K (v ∷ more) absent = ap₂ (λ p ps. p ∷ ps) (profile-absent K v (absent v (inl refl))) (blank-profiles K more (λ u h. absent u (inr h)))

-- the profiles after one fact more, value by value
pub profiles-push : (K : List Fact) (f : Fact) (ws : List Val) (old new : List (List Mark)) → ws ≡ values (K ++ f ∷ []) → old ≡ map (profile K) (values K) →
    ((n : ℕ) → slice_get new n ≡ option_map (grown f.rel 0 (numbers_of ws f.args) n) (slice_get (old ++ blank (length ws - length old)) n)) → new ≡ map (profile (K ++ f ∷ [])) (values (K ++ f ∷ []))
profiles-push K f ws old new e was grew = same_places new (map (profile (K ++ f ∷ [])) (values (K ++ f ∷ []))) (λ n. at n (slice_get ws n) refl)
  where
    g : (more : List Val) × (insert_all val_eq (values K) f.args ≡ values K ++ more)
    g = insert_all-grows val_eq val_eq-decides (values K) f.args

    split : ws ≡ values K ++ g.0
    split = e ∙ sym (values-push K f) ∙ g.1

    distinct_ws : IsDistinct ws
    distinct_ws = subst (λ vs. IsDistinct vs) (sym e) (IsDistinct-values (K ++ f ∷ []))

    apart : (v : Val) → v ∈ g.0 → v ∈ values K → ⊥
    apart v h i = second-only (values K) g.0 v (subst (λ vs. IsDistinct vs) split distinct_ws) h i

    count : length ws - length old ≡ length g.0
    count =
        let a = length-map (values K) (profile K) in
        let b : length old ≡ length (map (profile K) (values K)) = ap length was in
        let c : length ws ≡ length (values K ++ g.0) = ap length split in
        let d = length-append (values K) g.0 in
        omega arith

    before : old ++ blank (length ws - length old) ≡ map (profile K) ws
    before =
        ap₂ (λ ps k. ps ++ blank k) was count ∙ ap (λ ps. map (profile K) (values K) ++ ps) (sym (blank-profiles K g.0 apart)) ∙ sym (map-append (profile K) (values K) g.0) ∙ ap (map (profile K)) (sym split)

    left : (n : ℕ) → slice_get new n ≡ option_map (grown f.rel 0 (numbers_of ws f.args) n) (option_map (profile K) (slice_get ws n))
    left n = grew n ∙ ap (λ ps. option_map (grown f.rel 0 (numbers_of ws f.args) n) (slice_get ps n)) before ∙ ap (option_map (grown f.rel 0 (numbers_of ws f.args) n)) (slice_get-map (profile K) ws n)

    right : (n : ℕ) → slice_get (map (profile (K ++ f ∷ [])) (values (K ++ f ∷ []))) n ≡ option_map (profile (K ++ f ∷ [])) (slice_get ws n)
    right n = slice_get-map (profile (K ++ f ∷ [])) (values (K ++ f ∷ [])) n ∙ ap (λ vs. option_map (profile (K ++ f ∷ [])) (slice_get vs n)) (sym e)

    there : (u : Val) → u ∈ f.args → u ∈ ws
    there u h = subst (λ vs. u ∈ vs) (sym e) (∈-values u f (K ++ f ∷ []) (last K) h)
      where
        last : (K : List Fact) → f ∈ (K ++ f ∷ [])
        last [] = inl refl
        last (x ∷ K) = inr (last K)

    at : (n : ℕ) (o : Option Val) → slice_get ws n ≡ o → slice_get new n ≡ slice_get (map (profile (K ++ f ∷ [])) (values (K ++ f ∷ []))) n
    at n None q = left n ∙ ap (λ o. option_map (grown f.rel 0 (numbers_of ws f.args) n) (option_map (profile K) o)) q ∙ sym (right n ∙ ap (option_map (profile (K ++ f ∷ []))) q)
    at n (Some v) q =
        let i = ∈-slice_get_from v ws n q in
        let p : place_of val_eq v ws ≡ n = place_of-slice_get val_eq val_eq-decides v ws n distinct_ws q in
        left n ∙ ap (λ o. option_map (grown f.rel 0 (numbers_of ws f.args) n) (option_map (profile K) o)) q
        ∙ ap Some (ap (λ k. grown f.rel 0 (numbers_of ws f.args) k (profile K v)) (sym p) ∙ sym (profile-grown K f ws v there i))
        ∙ sym (right n ∙ ap (option_map (profile (K ++ f ∷ []))) q)
