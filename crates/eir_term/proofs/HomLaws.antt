-- Maps and homomorphisms: graphs, agreement, composition.
use Rattle.std.proofs.Common.{◌≡◌, ℕ, inl, inr, true, List, [], ◌∷◌, map, Some, None, unwrap_or, refl, sym, ◌∙◌, ap, ap₂, subst}
use Rattle.std.specs.List.{list_any}
use Rattle.std.proofs.lemmas.Bool.{cases_Bool, false≢true}
use Rattle.std.proofs.lemmas.List.{map-id}
use Rattle.eir_term.specs.declared.val.Val.{Val}
use Rattle.eir_term.specs.declared.val.Val.TheVariants.{Const, Fixed, Null}
use Rattle.eir_term.specs.declared.fact.Fact.{Fact}
use Rattle.eir_term.specs.Lists.{◌∈◌, IsDistinct}
use Rattle.eir_term.specs.Values.{val_eq, val_eq-decides, is_const, is_null}
use Rattle.eir_term.specs.Instances.{occurrences, values, consts, nulls, IsSource}
use Rattle.eir_term.specs.Maps.{domain_of, get, image, graph, fact_image}
use Rattle.eir_term.specs.Homs.{IsMorphism, Hom}
use Rattle.eir_term.specs.Extension.{Extends}
use Rattle.eir_term.proofs.ListLaws.{∈-append_left, ∈-append_right, ∈-append_cases, ∈-filter, ∈-filter_from, ∈-map, ∈-distinct, ∈-distinct_from, IsDistinct-distinct, ∈-list_any, ∈-list_any_from, apart-false}

-- two functions that agree on a list have the same images there
pub map-agree : {X Y : Type 0} (g h : X → Y) (xs : List X) → ((x : X) → x ∈ xs → g x ≡ h x) → map g xs ≡ map h xs
map-agree g h [] e = refl
map-agree g h (x ∷ xs) e = ap₂ (λ y ys. y ∷ ys) (e x (inl refl)) (map-agree g h xs (λ y k. e y (inr k)))

-- and two functions with the same images on a list agree on its elements
pub map-agree_from : {X Y : Type 0} (f g : X → Y) (x : X) (xs : List X) → map f xs ≡ map g xs → x ∈ xs → f x ≡ g x
map-agree_from f g x [] e h = elim h [ ]
map-agree_from f g x (y ∷ xs) e (inl p) = let head : f y ≡ g y = cc in ap f p ∙ head ∙ sym (ap g p)
map-agree_from f g x (y ∷ xs) e (inr h) = let tail : map f xs ≡ map g xs = cc in map-agree_from f g x xs tail h

pub map-compose : {X Y Z : Type 0} (g : Y → Z) (h : X → Y) (xs : List X) → map g (map h xs) ≡ map (λ x. g (h x)) xs
map-compose g h [] = refl
map-compose g h (x ∷ xs) = ap (λ ys. g (h x) ∷ ys) (map-compose g h xs)

pub fact_image-agree : (g h : Val → Val) (f : Fact) → ((v : Val) → v ∈ f.args → g v ≡ h v) → fact_image g f ≡ fact_image h f
fact_image-agree g h f e = ap (λ vs. let x : Fact = record { rel = f.rel; args = vs } in x) (map-agree g h f.args e)

pub fact_image-compose : (g h : Val → Val) (f : Fact) → fact_image g (fact_image h f) ≡ fact_image (λ v. g (h v)) f
fact_image-compose g h f = ap (λ vs. let x : Fact = record { rel = f.rel; args = vs } in x) (map-compose g h f.args)

-- occurrences, values and constants
pub ∈-occurrences : (v : Val) (f : Fact) (K : List Fact) → f ∈ K → v ∈ f.args → v ∈ occurrences K
∈-occurrences v f [] h k = elim h [ ]
∈-occurrences v f (e ∷ K) (inl p) k = ∈-append_left v e.args (occurrences K) (subst (λ (x : Fact). v ∈ x.args) p k)
∈-occurrences v f (e ∷ K) (inr h) k = ∈-append_right v e.args (occurrences K) (∈-occurrences v f K h k)

pub ∈-occurrences_from : (v : Val) (K : List Fact) → v ∈ occurrences K → (f : Fact) × (f ∈ K) × (v ∈ f.args)
∈-occurrences_from v [] h = elim h [ ]
∈-occurrences_from v (e ∷ K) h = elim (∈-append_cases v e.args (occurrences K) h)
    [ inl k ↦ (e, inl refl, k) | inr k ↦ (let r = ∈-occurrences_from v K k in (r.0, inr r.1, r.2)) ]

pub ∈-values : (v : Val) (f : Fact) (K : List Fact) → f ∈ K → v ∈ f.args → v ∈ values K
∈-values v f K h k = ∈-distinct val_eq val_eq-decides v (occurrences K) (∈-occurrences v f K h k)

pub ∈-values_from : (v : Val) (K : List Fact) → v ∈ values K → (f : Fact) × (f ∈ K) × (v ∈ f.args)
∈-values_from v K h = ∈-occurrences_from v K (∈-distinct_from val_eq val_eq-decides v (occurrences K) h)

pub IsDistinct-values : (K : List Fact) → IsDistinct (values K)
IsDistinct-values K = IsDistinct-distinct val_eq val_eq-decides (occurrences K)

pub ∈-consts : (c : ℕ) (K : List Fact) → Const c ∈ values K → Const c ∈ consts K
∈-consts c K h = ∈-filter is_const (Const c) (values K) refl h

pub consts-values : (v : Val) (K : List Fact) → v ∈ consts K → v ∈ values K
consts-values v K h = (∈-filter_from is_const v (values K) h).0

-- a constant of an instance is a constant
pub consts-const : (v : Val) (K : List Fact) → v ∈ consts K → (c : ℕ) × (v ≡ Const c)
consts-const v K h = by v (∈-filter_from is_const v (values K) h).1
  where
    by : (v : Val) → is_const v ≡ true → (c : ℕ) × (v ≡ Const c)
    by (Const c) t = (c, refl)
    by (Fixed n) t = absurd (false≢true t)
    by (Null n) t = absurd (false≢true t)

pub ∈-nulls : (n : ℕ) (K : List Fact) → Null n ∈ values K → Null n ∈ nulls K
∈-nulls n K h = ∈-filter is_null (Null n) (values K) refl h

pub nulls-values : (v : Val) (K : List Fact) → v ∈ nulls K → v ∈ values K
nulls-values v K h = (∈-filter_from is_null v (values K) h).0

-- a null of an instance is a null
pub nulls-null : (v : Val) (K : List Fact) → v ∈ nulls K → (n : ℕ) × (v ≡ Null n)
nulls-null v K h = by v (∈-filter_from is_null v (values K) h).1
  where
    by : (v : Val) → is_null v ≡ true → (n : ℕ) × (v ≡ Null n)
    by (Const c) t = absurd (false≢true t)
    by (Fixed n) t = absurd (false≢true t)
    by (Null n) t = (n, refl)

-- no value of a source is a null
pub source-no_null : (K : List Fact) (n : ℕ) → IsSource K → Null n ∈ values K → ⊥
source-no_null K n clean h = clean n (∈-distinct_from val_eq val_eq-decides (Null n) (occurrences K) h)

-- graphs
pub get-graph : (g : Val → Val) (v : Val) (vs : List Val) → v ∈ vs → get (graph g vs) v ≡ Some (g v)
get-graph g v [] h = elim h [ ]
get-graph g v (w ∷ vs) (inl e) = rw ((val_eq-decides w v).1 (sym e)) (ap (λ u. Some (g u)) (sym e))
get-graph g v (w ∷ vs) (inr h) = elim (cases_Bool (val_eq w v))
    [ inl t ↦ rw t (ap (λ u. Some (g u)) ((val_eq-decides w v).0 t)) | inr t ↦ rw t (get-graph g v vs h) ]

pub get-graph_none : (g : Val → Val) (v : Val) (vs : List Val) → (v ∈ vs → ⊥) → get (graph g vs) v ≡ None
get-graph_none g v [] h = refl
get-graph_none g v (w ∷ vs) h =
    rw (apart-false val_eq val_eq-decides w v (λ e. h (inl (sym e)))) (get-graph_none g v vs (λ k. h (inr k)))

pub image-graph : (g : Val → Val) (v : Val) (vs : List Val) → v ∈ vs → image (graph g vs) v ≡ g v
image-graph g v vs h = ap (λ o. unwrap_or o v) (get-graph g v vs h)

pub image-graph_none : (g : Val → Val) (v : Val) (vs : List Val) → (v ∈ vs → ⊥) → image (graph g vs) v ≡ v
image-graph_none g v vs h = ap (λ o. unwrap_or o v) (get-graph_none g v vs h)

pub domain_of-graph : (g : Val → Val) (vs : List Val) → domain_of (graph g vs) ≡ vs
domain_of-graph g [] = refl
domain_of-graph g (v ∷ vs) = ap (λ ws. v ∷ ws) (domain_of-graph g vs)

pub image-graph_fixed : (g : Val → Val) (n : ℕ) (vs : List Val) → g (Fixed n) ≡ Fixed n → image (graph g vs) (Fixed n) ≡ Fixed n
image-graph_fixed g n vs e = elim (cases_Bool (list_any (val_eq (Fixed n)) vs)) [
  | inl t ↦ image-graph g (Fixed n) vs (∈-list_any_from val_eq val_eq-decides (Fixed n) vs t) ∙ e
  | inr t ↦ image-graph_none g (Fixed n) vs (λ h. let s : list_any (val_eq (Fixed n)) vs ≡ true = ∈-list_any val_eq val_eq-decides (Fixed n) vs h in cc)
]

-- homomorphisms
pub IsMorphism-agree : (g h : Val → Val) (K L : List Fact) → ((v : Val) → v ∈ values K → g v ≡ h v) → ((n : ℕ) → h (Fixed n) ≡ Fixed n) → IsMorphism g K L → IsMorphism h K L
IsMorphism-agree g h K L e k m = record {
  sends = λ f i. subst (λ x. x ∈ L) (fact_image-agree g h f (λ v j. e v (∈-values v f K i j))) (m.sends f i);
  fixed = k;
}

pub IsMorphism-compose : (g h : Val → Val) (K L N : List Fact) → IsMorphism g K L → IsMorphism h L N → IsMorphism (λ v. h (g v)) K N
IsMorphism-compose g h K L N m k = record {
  sends = λ f i. subst (λ x. x ∈ N) (fact_image-compose h g f) (k.sends (fact_image g f) (m.sends f i));
  fixed = λ n. ap h (m.fixed n) ∙ k.fixed n;
}

-- the function that changes nothing is a morphism
pub IsMorphism-identity : (K : List Fact) → IsMorphism (λ v. v) K K
IsMorphism-identity K = record { sends = λ f i. subst (λ x. x ∈ K) (sym (same f)) i; fixed = λ n. refl }
  where
    same : (f : Fact) → fact_image (λ v. v) f ≡ f
    same f = ap (λ vs. let x : Fact = record { rel = f.rel; args = vs } in x) (map-id f.args)

-- a morphism is one from fewer facts too
pub IsMorphism-within : (g : Val → Val) (J K L : List Fact) → ((f : Fact) → f ∈ J → f ∈ K) →
    IsMorphism g K L → IsMorphism g J L
IsMorphism-within g J K L within m = record { sends = λ f h. m.sends f (within f h); fixed = m.fixed }

-- a morphism sends values to values
pub IsMorphism-values : (g : Val → Val) (K L : List Fact) (v : Val) → IsMorphism g K L → v ∈ values K → g v ∈ values L
IsMorphism-values g K L v m h = let r = ∈-values_from v K h in ∈-values (g v) (fact_image g r.0) L (m.sends r.0 r.1) (∈-map g v (r.0).args r.2)

-- each morphism is a homomorphism, as the list of its pairs
pub Hom-graph : (g : Val → Val) (K L : List Fact) → IsMorphism g K L → Hom (graph g (values K)) K L
Hom-graph g K L m = record {
  single = subst (λ vs. IsDistinct vs) (sym (domain_of-graph g (values K))) (IsDistinct-values K);
  total = λ v h. subst (λ vs. v ∈ vs) (sym (domain_of-graph g (values K))) h;
  morphism = IsMorphism-agree g (image (graph g (values K))) K L (λ v h. sym (image-graph g v (values K) h)) (λ n. image-graph_fixed g n (values K) (m.fixed n)) m;
}

-- homomorphisms compose
pub Hom-compose : (h k : List (Val × Val)) (K L N : List Fact) → Hom h K L → Hom k L N → Hom (graph (λ v. image k (image h v)) (values K)) K N
Hom-compose h k K L N a b = Hom-graph (λ v. image k (image h v)) K N (IsMorphism-compose (image h) (image k) K L N a.morphism b.morphism)

-- a morphism that agrees with h on the constants extends it
pub Extends-from : (h : List (Val × Val)) (g : Val → Val) (J J' : List Fact) → IsMorphism g J J' → ((v : Val) → v ∈ consts J → g v ≡ image h v) → Extends h J J'
Extends-from h g J J' m e = (graph g (values J), Hom-graph g J J' m, λ v i. image-graph g v (values J) (consts-values v J i) ∙ e v i)
