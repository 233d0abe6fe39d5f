-- The constants of a target, and the start of the searches from it. The points are what a homomorphism has at the number
-- of a constant (`image-placed`), that constants are numbered one by one (`Numbered-more`), and that images are set in
-- place one by one (`Follows-more`).
use Rattle.std.proofs.Common.{◌≡◌, ◌↔◌, IsSome, is_some, ℕ, zero, suc, ◌+◌, ◌<◌, ◌≤◌, inl, inr, Bool, true, false, cond, List, [], ◌∷◌, ◌++◌, filter, length, get_or, take, slice_get, Option, Some, None, option_map, refl, sym, ◌∙◌, ap, ap₂, subst, arith}
use Rattle.std.proofs.lemmas.Bool.{false≢true}
use Rattle.std.proofs.lemmas.List.{append-nil, map-append, length-map, take_more, take_all}
use Rattle.std.proofs.lemmas.List.Elements.{filter_more}
use Rattle.std.proofs.lemmas.Option.{none-some, same_Some, slice_get_within}
use Rattle.eir_term.specs.declared.val.Val.{Val}
use Rattle.eir_term.specs.declared.fact.Fact.{Fact}
use Rattle.eir_term.specs.Lists.{◌∈◌, IsDistinct}
use Rattle.eir_term.specs.Values.{val_eq, val_eq-decides, is_const}
use Rattle.eir_term.specs.Instances.{values}
use Rattle.eir_term.specs.Maps.{domain_of, image, with_image_at, graph}
use Rattle.eir_term.specs.Fitting.{DataExample}
use Rattle.eir_term.specs.Verdicts.{first_foreign}
use Rattle.eir_term.proofs.ListLaws.{∈-filter, ∈-filter_from, apart-false}
use Rattle.eir_term.proofs.HomLaws.{IsDistinct-values, domain_of-graph, consts-values}
use Rattle.eir_term.proofs.MapLaws.{domain_of-with_image_at}
use Rattle.eir_term.proofs.OrderLaws.{∈-slice_get_from}
use Rattle.eir_term.proofs.VerdictLaws.{first_foreign-none}
use Rattle.eir_ext.specs.Searching.{AreNumbers}

-- ---- the image of a constant

-- a value that a map names at a place goes where the pair at that place has it
pub image-placed : (h : List (Val × Val)) (n : ℕ) (v w : Val) → IsDistinct (domain_of h) → slice_get (domain_of h) n ≡ Some v → option_map (λ p. p.1) (slice_get h n) ≡ Some w → w ≡ image h v
image-placed [] n v w d here at = absurd (none-some v here)
image-placed (p ∷ h) zero v w d here at = rw ((val_eq-decides p.0 v).1 (same_Some p.0 v here)) (sym (same_Some p.1 w at))
image-placed (p ∷ h) (suc n) v w d here at =
    let later : v ∈ domain_of h = ∈-slice_get_from v (domain_of h) n here in
    rw (apart-false val_eq val_eq-decides p.0 v (λ e. d.0 (subst (λ u. u ∈ domain_of h) (sym e) later))) (image-placed h n v w d.1 here at)

-- so the place is below the number of pairs
pub named-below : (h : List (Val × Val)) (n : ℕ) (v : Val) → slice_get (domain_of h) n ≡ Some v → n < length h
named-below h n v e = let l = slice_get_within (domain_of h) n v e in omega (arith, length-map h (λ p. p.0))

-- a map that names the values of an instance names each once
pub named-distinct : (h : List (Val × Val)) (K : List Fact) → domain_of h ≡ values K → IsDistinct (domain_of h)
named-distinct h K e = subst (λ (vs : List Val). IsDistinct vs) (sym e) (IsDistinct-values K)

-- ---- numbers

-- there are as many numbers as values
pub AreNumbers-length : (vs us : List Val) (ns : List ℕ) → AreNumbers vs us ns → length ns ≡ length us
AreNumbers-length vs us ns e = sym (length-map ns (slice_get vs)) ∙ ap length e ∙ length-map us Some

-- one value more
pub AreNumbers-more : (vs us : List Val) (ns : List ℕ) (n : ℕ) (v : Val) → AreNumbers vs us ns → slice_get vs n ≡ Some v → AreNumbers vs (us ++ v ∷ []) (ns ++ n ∷ [])
AreNumbers-more vs us ns n v old at = map-append (slice_get vs) ns (n ∷ []) ∙ ap₂ (λ xs o. xs ++ o ∷ []) old at ∙ sym (map-append Some us (v ∷ []))

-- the value at a number
pub AreNumbers-at : (vs us : List Val) (ns : List ℕ) (i k : ℕ) (d : Val) → AreNumbers vs us ns → i < length ns → slice_get vs (get_or ns i k) ≡ Some (get_or us i d)
AreNumbers-at vs us [] i k d e l = absurd (omega arith)
AreNumbers-at vs [] (n ∷ ns) i k d e l = cc
AreNumbers-at vs (u ∷ us) (n ∷ ns) zero k d e l = cc
AreNumbers-at vs (u ∷ us) (n ∷ ns) (suc i) k d e l = let q : AreNumbers vs us ns = cc in AreNumbers-at vs us ns i k d q (omega arith)

-- ---- the loop over the values of the target

-- a constant is one more of those that pass
filter-more_true : (us : List Val) (i : ℕ) (d : Val) → i < length us → is_const (get_or us i d) ≡ true → filter is_const (take i us) ++ get_or us i d ∷ [] ≡ filter is_const (take (i + 1) us)
filter-more_true us i d l t = ap (λ (b : Bool). filter is_const (take i us) ++ cond b (get_or us i d ∷ []) []) (sym t) ∙ sym (filter_more is_const us i d l)

-- another value changes nothing
filter-more_false : (us : List Val) (i : ℕ) (d : Val) → i < length us → is_const (get_or us i d) ≡ false → filter is_const (take i us) ≡ filter is_const (take (i + 1) us)
filter-more_false us i d l t = sym (append-nil (filter is_const (take i us))) ∙ ap (λ (b : Bool). filter is_const (take i us) ++ cond b (get_or us i d ∷ []) []) (sym t) ∙ sym (filter_more is_const us i d l)

-- a value whose turn it is is one of them
pub ∈-turn : (us : List Val) (i : ℕ) (d : Val) → i < length us → get_or us i d ∈ us
∈-turn [] i d l = absurd (omega arith)
∈-turn (u ∷ us) zero d l = inl refl
∈-turn (u ∷ us) (suc i) d l = inr (∈-turn us i d (omega arith))

-- and does not stand before its place
before-apart : (us : List Val) (i : ℕ) (d : Val) → IsDistinct us → i < length us → get_or us i d ∈ take i us → ⊥
before-apart [] i d apart l h = absurd (omega arith)
before-apart (u ∷ us) zero d apart l h = h
before-apart (u ∷ us) (suc i) d apart l (inl q) = apart.0 (subst (λ v. v ∈ us) q (∈-turn us i d (omega arith)))
before-apart (u ∷ us) (suc i) d apart l (inr h) = before-apart us i d apart.1 (omega arith) h

-- the constants among the values before a place are named, each with itself, and numbered
pub record Numbered (vs us : List Val) (i : ℕ) (m : List (Val × Val)) (ns : List ℕ) : Type 0 where
  pub start : m ≡ graph (λ v. v) (filter is_const (take i us))
  pub numbers : AreNumbers vs (filter is_const (take i us)) ns

module _ (vs us : List Val) (i : ℕ) (d : Val) (m : List (Val × Val)) (ns : List ℕ) (l : i < length us) (old : Numbered vs us i m ns) where
  -- the value whose turn it is is not named yet
  pub unnamed-next : IsDistinct us → get_or us i d ∈ domain_of m → ⊥
  unnamed-next apart h = before-apart us i d apart l (∈-filter_from is_const (get_or us i d) (take i us) (subst (λ ws. get_or us i d ∈ ws) (ap domain_of old.start ∙ domain_of-graph (λ v. v) (filter is_const (take i us))) h)).0

  -- a constant is named and numbered
  pub Numbered-more : (n : ℕ) (k : List (Val × Val)) (ks : List ℕ) → is_const (get_or us i d) ≡ true → slice_get vs n ≡ Some (get_or us i d) → k ≡ m ++ (get_or us i d, get_or us i d) ∷ [] → ks ≡ ns ++ n ∷ [] → Numbered vs us (i + 1) k ks
  Numbered-more n k ks t at e f = record {
    start = e ∙ ap (λ h. h ++ (get_or us i d, get_or us i d) ∷ []) old.start ∙ sym (map-append (λ v. (v, v)) (filter is_const (take i us)) (get_or us i d ∷ [])) ∙ ap (graph (λ v. v)) (filter-more_true us i d l t);
    numbers = subst (AreNumbers vs (filter is_const (take (i + 1) us))) (sym f) (subst (λ ws. AreNumbers vs ws (ns ++ n ∷ [])) (filter-more_true us i d l t) (AreNumbers-more vs (filter is_const (take i us)) ns n (get_or us i d) old.numbers at));
  }

  -- another value is passed over
  pub Numbered-other : is_const (get_or us i d) ≡ false → Numbered vs us (i + 1) m ns
  Numbered-other t = record {
    start = old.start ∙ ap (graph (λ v. v)) (filter-more_false us i d l t);
    numbers = subst (λ ws. AreNumbers vs ws ns) (filter-more_false us i d l t) old.numbers;
  }

-- at the end all constants are
pub Numbered-all : (vs us : List Val) (i : ℕ) (m : List (Val × Val)) (ns : List ℕ) → length us ≤ i → Numbered vs us i m ns → (m ≡ graph (λ v. v) (filter is_const us)) × AreNumbers vs (filter is_const us) ns
Numbered-all vs us i m ns l all = (
  all.start ∙ ap (λ ws. graph (λ v. v) (filter is_const ws)) (take_all i us l),
  subst (λ ws. AreNumbers vs (filter is_const ws) ns) (take_all i us l) all.numbers,
)

-- a constant of the target is a value of the source, where none is foreign
pub constant-there : (e : DataExample) (v : Val) → first_foreign e ≡ None → v ∈ values e.target → is_const v ≡ true → v ∈ values e.source
constant-there e v none i t = consts-values v e.source (first_foreign-none e v none (∈-filter is_const v (values e.target) t i))

-- so it has a number there
pub none-missing : (e : DataExample) (us vs : List Val) (i : ℕ) (d : Val) (o : Option ℕ) → first_foreign e ≡ None → us ≡ values e.target → vs ≡ values e.source → i < length us → is_const (get_or us i d) ≡ true →
    IsSome o ↔ (get_or us i d ∈ vs) → o ≡ None → ⊥
none-missing e us vs n d o none u v l t there is =
    let i : get_or us n d ∈ values e.target = subst (λ ws. get_or us n d ∈ ws) u (∈-turn us n d l) in
    let j : get_or us n d ∈ vs = subst (λ ws. get_or us n d ∈ ws) (sym v) (constant-there e (get_or us n d) none i t) in
    false≢true (sym (ap is_some is) ∙ there.1 j)

-- ---- the loop that sets the images

module _ (g : Val → Val) where
  -- the map names the values, and sends those before a place where it is to
  pub record Follows (us : List Val) (i : ℕ) (m : List (Val × Val)) : Type 0 where
    pub names : domain_of m ≡ us
    pub done : take i m ≡ graph g (take i us)

  graph-more : (us : List Val) (i : ℕ) (d : Val) → i < length us → graph g (take (i + 1) us) ≡ graph g (take i us) ++ (get_or us i d, g (get_or us i d)) ∷ []
  graph-more us i d l = ap (graph g) (take_more us i d l) ∙ map-append (λ v. (v, g v)) (take i us) (get_or us i d ∷ [])

  take-set : (m : List (Val × Val)) (us : List Val) (i : ℕ) (d w : Val) → i < length us → domain_of m ≡ us → take (suc i) (with_image_at m i w) ≡ take i m ++ (get_or us i d, w) ∷ []
  take-set m [] i d w l e = absurd (omega arith)
  take-set [] (u ∷ us) i d w l e = cc
  take-set (p ∷ m) (u ∷ us) zero d w l e = let q : p.0 ≡ u = cc in ap (λ v. (v, w) ∷ []) q
  take-set (p ∷ m) (u ∷ us) (suc i) d w l e = let q : domain_of m ≡ us = cc in ap (λ qs. p ∷ qs) (take-set m us i d w (omega arith) q)

  -- before the first none has to be
  pub Follows-none : (us : List Val) (m : List (Val × Val)) → domain_of m ≡ us → Follows us 0 m
  Follows-none us m e = record { names = e; done = refl }

  -- the image of one value more is set
  pub Follows-more : (us : List Val) (i : ℕ) (d w : Val) (m : List (Val × Val)) → i < length us → w ≡ g (get_or us i d) → Follows us i m → Follows us (i + 1) (with_image_at m i w)
  Follows-more us i d w m l f old = record {
    names = domain_of-with_image_at m i w ∙ old.names;
    done =
        ap (λ k. take k (with_image_at m i w)) (let q : i + 1 ≡ suc i = omega arith in q) ∙ take-set m us i d w l old.names
        ∙ ap₂ (λ qs u. qs ++ (get_or us i d, u) ∷ []) old.done f ∙ sym (graph-more us i d l);
  }

  -- all are set
  pub Follows-all : (us : List Val) (i : ℕ) (m : List (Val × Val)) → length us ≤ i → Follows us i m → m ≡ graph g us
  Follows-all us i m l f =
      let e : length m ≡ length us = sym (length-map m (λ p. p.0)) ∙ ap length f.names in
      sym (take_all i m (omega arith)) ∙ f.done ∙ ap (graph g) (take_all i us l)
