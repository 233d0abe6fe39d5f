-- Where the searches of a test stand after a turn of one of them. The points are that all that is true of them stays so
-- (`AreSearches-next`), what the first homomorphism to come says of the pair (`passed`, `stuck_first`), and that
-- a homomorphism that is found is the next to be extended (`AreSearches-found`).
use Rattle.std.proofs.Common.{◌≡◌, ℕ, ◌+◌, Bool, true, false, List, [], ◌∷◌, Option, Some, None, find, inl, inr, refl, sym, ap, ap₂, ◌∙◌, subst, arith}
use Rattle.std.proofs.lemmas.Option.{same_Some}
use Rattle.eir_term.specs.declared.val.Val.{Val}
use Rattle.eir_term.specs.declared.val.Val.TheVariants.{Fixed}
use Rattle.eir_term.specs.declared.fact.Fact.{Fact}
use Rattle.eir_term.specs.Lists.{◌∈◌}
use Rattle.eir_term.specs.Instances.{values, consts}
use Rattle.eir_term.specs.Maps.{domain_of, image, graph}
use Rattle.eir_term.specs.Order.{KeepsFixed}
use Rattle.eir_term.specs.Fitting.{DataExample}
use Rattle.eir_term.specs.Search.{homs, need, start_of, constants_fixed}
use Rattle.eir_term.specs.Verdicts.{is_none_of, is_stuck}
use Rattle.eir_term.proofs.HomLaws.{domain_of-graph, image-graph_none, consts-const}
use Rattle.eir_term.proofs.SearchLaws.{homs-sound}
use Rattle.eir_hom.specs.Progress.{Progress}
use Rattle.eir_ext.specs.Trials.{Trial}
use Rattle.eir_ext.specs.Searching.{AreNumbers, AreSearches, IsAt, IsExtending, first_of, second_of, extension_need, refuting_at, tries_at, trial_of}
use Rattle.eir_ext.specs.declared.searches.Stage.{Stage}
use Rattle.eir_ext.specs.declared.searches.Stage.TheVariants.{Sources, Targets}
use Rattle.eir_ext.specs.declared.searches.Searches.{Searches}

-- ---- pairs

-- a pair is its two instances
pub pair-same : {K L M N : List Fact} → K ≡ L → M ≡ N → (let e : DataExample = record { source = K; target = M } in e) ≡ (let f : DataExample = record { source = L; target = N } in f)
pair-same k m = ap₂ (λ K M. let e : DataExample = record { source = K; target = M } in e) k m

-- ---- the start

-- the start of a homomorphism names the constants of the target
pub start-named : (e : DataExample) (h : List (Val × Val)) → domain_of (start_of e h) ≡ consts e.target
start-named e h = domain_of-graph (image h) (consts e.target)

-- a map of constants moves no fixed constant
pub constants-keep_fixed : (g : Val → Val) (K : List Fact) → KeepsFixed (graph g (consts K))
constants-keep_fixed g K n = image-graph_none g (Fixed n) (consts K) (λ i. let c = consts-const (Fixed n) K i in cc)

-- ---- a homomorphism

-- each homomorphism names the values of the source
pub all-named : (K L : List Fact) (h : List (Val × Val)) → h ∈ homs K L [] → domain_of h ≡ values K
all-named K L h i = (homs-sound K L [] h (λ n. refl) i).1

-- so does the first one, where it is found
pub first-named : (e f : DataExample) (hs : Progress) → ((m : List (Val × Val)) × (hs.found ≡ Some m) × (homs e.source f.source [] ≡ m ∷ hs.to_come)) → (hom : List (Val × Val)) → Some hom ≡ hs.found → domain_of hom ≡ values e.source
first-named e f hs told hom at =
    let first : homs e.source f.source [] ≡ hom ∷ hs.to_come = told.2 ∙ ap (λ m. m ∷ hs.to_come) (sym (same_Some hom told.0 (at ∙ told.1))) in
    all-named e.source f.source hom (subst (λ ms. hom ∈ ms) (sym first) (inl refl))

-- the constants follow it
pub start-followed : (e : DataExample) (hom old new : List (Val × Val)) → old ≡ constants_fixed e.target → new ≡ graph (image hom) (domain_of old) → new ≡ start_of e hom
start-followed e hom old new o n = n ∙ ap (graph (image hom)) (ap domain_of o ∙ domain_of-graph (λ v. v) (consts e.target))

module _ (e f : DataExample) (h : List (Val × Val)) (hs : List (List (Val × Val))) where
  -- one that extends is passed over
  pub passed : (k : List (Val × Val)) (ks : List (List (Val × Val))) → homs e.target f.target (start_of e h) ≡ k ∷ ks → find (is_stuck e f) (h ∷ hs) ≡ find (is_stuck e f) hs
  passed k ks at = by (is_stuck e f h) refl
    where
      by : (b : Bool) → is_stuck e f h ≡ b → find (is_stuck e f) (h ∷ hs) ≡ find (is_stuck e f) hs
      by false t = rw t
      by true t = absurd (let z = ap is_none_of at in cc)

  -- one that does not is the first that refutes
  pub stuck_first : homs e.target f.target (start_of e h) ≡ [] → find (is_stuck e f) (h ∷ hs) ≡ Some h
  stuck_first at = let t : is_stuck e f h ≡ true = ap is_none_of at in rw t

-- ---- the searches

module _ (s : Searches) (hs xs : Progress) (old : AreSearches s) (a : hs.source ≡ s.sources.source) (b : hs.target ≡ s.sources.target) (c : xs.source ≡ s.targets.source) (d : xs.target ≡ s.targets.target) where
  pub first-same : (let e : DataExample = record { source = hs.source; target = xs.source } in e) ≡ first_of s
  first-same = pair-same a c

  pub second-same : (let e : DataExample = record { source = hs.target; target = xs.target } in e) ≡ second_of s
  second-same = pair-same b d

  -- what is true of the searches stays so
  pub AreSearches-next : (m : List (Val × Val)) (stage : Stage) → domain_of m ≡ domain_of s.start → xs.start ≡ m → ((h : List (Val × Val)) → h ∈ hs.to_come → h ∈ s.sources.to_come) →
      IsAt stage (first_of s) (second_of s) hs xs → AreSearches (record { sources = hs; targets = xs; start = m; numbers = s.numbers; stage = stage })
  AreSearches-next m stage names begun fewer at = record {
    numbers = rw (a, c) old.numbers;
    names = names ∙ old.names ∙ sym (ap consts c);
    begun = begun;
    named = λ h i. old.named h (fewer h i) ∙ sym (ap values a);
    stage = subst (λ e. IsAt stage e (second_of (record { sources = hs; targets = xs; start = m; numbers = s.numbers; stage = stage })) hs xs) (sym first-same) (subst (λ f. IsAt stage (first_of s) f hs xs) (sym second-same) at);
  }

-- ---- a homomorphism between the sources is found

module _ (s : Searches) (hs : Progress) (hom : List (Val × Val)) (old : AreSearches s) (told : (m : List (Val × Val)) × (hs.found ≡ Some m) × (s.sources.to_come ≡ m ∷ hs.to_come)) (at : Some hom ≡ hs.found) where
  -- it was the first to come
  pub found-first : s.sources.to_come ≡ hom ∷ hs.to_come
  found-first = told.2 ∙ ap (λ m. m ∷ hs.to_come) (sym (same_Some hom told.0 (at ∙ told.1)))

  -- and names the values of the source
  pub found-named : domain_of hom ≡ values s.sources.source
  found-named = old.named hom (subst (λ ms. hom ∈ ms) (sym found-first) (inl refl))

  module _ (start : List (Val × Val)) (follows : start ≡ graph (image hom) (domain_of s.start)) where
    -- the start is that of the homomorphism
    pub start-of : start ≡ start_of (first_of s) hom
    start-of = follows ∙ ap (graph (image hom)) old.names

    pub start-fixed : KeepsFixed start
    start-fixed = subst KeepsFixed (sym start-of) (constants-keep_fixed (image hom) s.targets.source)

    -- it names what the one before names
    pub start-names : domain_of start ≡ domain_of s.start
    start-names = ap domain_of follows ∙ domain_of-graph (image hom) (domain_of s.start)

    -- the search between the targets begins anew
    pub AreSearches-found : (xs : Progress) → s.stage ≡ Sources → hs.source ≡ s.sources.source → hs.target ≡ s.sources.target → xs.source ≡ s.targets.source → xs.target ≡ s.targets.target → xs.start ≡ start →
        xs.to_come ≡ homs s.targets.source s.targets.target start → AreSearches (record { sources = hs; targets = xs; start = start; numbers = s.numbers; stage = Targets })
    AreSearches-found xs stage a b c d begun to_come =
        AreSearches-next s hs xs old a b c d start Targets start-names begun (λ h i. subst (λ ms. h ∈ ms) (sym found-first) (inr i)) (record {
          hom = hom;
          found = sym at;
          to_come = to_come ∙ ap (homs s.targets.source s.targets.target) start-of;
          same = ap (find (is_stuck (first_of s) (second_of s))) (sym found-first) ∙ (let z : IsAt Sources (first_of s) (second_of s) s.sources s.targets = subst (λ t. IsAt t (first_of s) (second_of s) s.sources s.targets) stage old.stage in z);
        })

-- ---- the searches are begun

-- a trial is its parts
trial-same : {e e' f f' : DataExample} {o o' : Option (List (Val × Val))} {n n' m : ℕ} → e ≡ e' → f ≡ f' → o ≡ o' → n ≡ n' →
    (let t : Trial = record { first = e; second = f; refuting = o; tries = n; source_tries = m } in t) ≡ (let u : Trial = record { first = e'; second = f'; refuting = o'; tries = n'; source_tries = m } in u)
trial-same p q r t = rw (p, q, r, t)

module _ (s : Searches) (e f : DataExample) (a : s.sources.source ≡ e.source) (b : s.sources.target ≡ f.source) (c : s.targets.source ≡ e.target) (d : s.targets.target ≡ f.target)
    (begun : s.targets.start ≡ s.start) (numbers : AreNumbers (values e.source) (consts e.target) s.numbers.items) where
  -- at their stage all else is known
  AreSearches-from : domain_of s.start ≡ consts e.target → ((h : List (Val × Val)) → h ∈ s.sources.to_come → h ∈ homs e.source f.source []) → IsAt s.stage (first_of s) (second_of s) s.sources s.targets → AreSearches s
  AreSearches-from names listed at = record {
    numbers = rw (a, c) numbers;
    names = names ∙ sym (ap consts c);
    begun = begun;
    named = λ h i. all-named e.source f.source h (listed h i) ∙ sym (ap values a);
    stage = at;
  }

  -- before the first homomorphism is sought
  pub AreSearches-begun : s.start ≡ constants_fixed e.target → s.stage ≡ Sources → s.sources.to_come ≡ homs e.source f.source [] → AreSearches s
  AreSearches-begun start stage to_come = AreSearches-from (ap domain_of start ∙ domain_of-graph (λ v. v) (consts e.target)) (λ h i. subst (λ hs. h ∈ hs) to_come i)
      (subst (λ t. IsAt t (first_of s) (second_of s) s.sources s.targets) (sym stage) (ap (find (is_stuck (first_of s) (second_of s))) (to_come ∙ sym (ap₂ (λ K L. homs K L []) a b))))

  module _ (told : (m : List (Val × Val)) × (s.sources.found ≡ Some m) × (homs e.source f.source [] ≡ m ∷ s.sources.to_come)) (hom : List (Val × Val)) (at : Some hom ≡ s.sources.found) where
    -- where the first homomorphism was found
    pub AreSearches-after_first : s.start ≡ start_of e hom → s.stage ≡ Targets → s.targets.to_come ≡ homs s.targets.source s.targets.target s.start → AreSearches s
    AreSearches-after_first start stage to_come =
        let first : homs e.source f.source [] ≡ hom ∷ s.sources.to_come = told.2 ∙ ap (λ m. m ∷ s.sources.to_come) (sym (same_Some hom told.0 (at ∙ told.1))) in
        let here : start_of e hom ≡ start_of (first_of s) hom = ap (λ K. graph (image hom) (consts K)) (sym c) in
        let extending : IsExtending (first_of s) (second_of s) s.sources s.targets = record {
          hom = hom;
          found = sym at;
          to_come = to_come ∙ ap (homs s.targets.source s.targets.target) (start ∙ here);
          same = ap (find (is_stuck (first_of s) (second_of s))) (sym first ∙ sym (ap₂ (λ K L. homs K L []) a b));
        } in
        AreSearches-from (ap domain_of start ∙ start-named e hom) (λ h i. subst (λ hs. h ∈ hs) (sym first) (inr i)) (subst (λ t. IsAt t (first_of s) (second_of s) s.sources s.targets) (sym stage) extending)

    -- what a contract sees then
    pub trial-after_first : s.start ≡ start_of e hom → s.stage ≡ Targets → s.targets.tries ≡ need s.targets.source s.targets.target s.start →
        trial_of s ≡ record { first = e; second = f; refuting = None; tries = s.sources.tries + extension_need e f (homs e.source f.source []); source_tries = s.sources.tries }
    trial-after_first start stage tries =
        let first : homs e.source f.source [] ≡ hom ∷ s.sources.to_come = told.2 ∙ ap (λ m. m ∷ s.sources.to_come) (sym (same_Some hom told.0 (at ∙ told.1))) in
        let p : first_of s ≡ e = pair-same a c in
        let q : second_of s ≡ f = pair-same b d in
        let here : s.targets.tries ≡ need e.target f.target (start_of e hom) = tries ∙ ap₂ (λ K L. need K L s.start) c d ∙ ap (need e.target f.target) start in
        let later : extension_need (first_of s) (second_of s) s.sources.to_come ≡ extension_need e f s.sources.to_come = ap₂ (λ x y. extension_need x y s.sources.to_come) p q in
        let all : extension_need e f (homs e.source f.source []) ≡ need e.target f.target (start_of e hom) + extension_need e f s.sources.to_come = ap (extension_need e f) first in
        trial-same p q (ap (λ t. refuting_at t s.sources.found) stage)
        (ap (λ t. tries_at t (first_of s) (second_of s) s.sources s.targets) stage ∙ (let z : s.sources.tries + s.targets.tries + extension_need (first_of s) (second_of s) s.sources.to_come ≡ s.sources.tries + extension_need e f (homs e.source f.source []) = omega arith in z))
