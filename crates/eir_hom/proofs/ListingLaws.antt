-- What a listing has told and has still to tell. The points are `begun-homs` and `begun-tries`: at the beginning these are
-- all homomorphisms, and as many tries as they need; `listing-next`: what is true of a listing stays so; and `found-hom`:
-- the images that were written are the homomorphism at the list that was told.
use Rattle.std.proofs.Common.{◌≡◌, ℕ, zero, suc, ◌+◌, ◌<◌, ◌≤◌, ◌⊎◌, true, List, [], ◌∷◌, ◌++◌, Option, Some, None, IsSome, map, length, get_or, slice_get, unwrap_or, inl, inr, arith, refl, sym, ap, ap₂, subst, ◌∙◌, length-append, take, replicate, eq-or-lt_of_le}
use Rattle.std.specs.Prelude.{Result, IfOk}
use Rattle.std.proofs.lemmas.List.{map-append, length-map}
use Rattle.std.specs.List.{range_with_len}
use Rattle.std.proofs.lemmas.Option.{none-some, same_Some, slice_get-get_or, slice_get_within}
use Rattle.eir_term.specs.declared.val.Val.{Val}
use Rattle.eir_term.specs.declared.val.Val.TheVariants.{Const}
use Rattle.eir_term.specs.declared.fact.Fact.{Fact}
use Rattle.eir_term.specs.Lists.{◌∈◌, IsDistinct}
use Rattle.eir_term.specs.Instances.{values}
use Rattle.eir_term.specs.Maps.{domain_of, image_at, with_image_at}
use Rattle.eir_term.specs.Order.{KeepsFixed}
use Rattle.eir_term.specs.Search.{homs}
use Rattle.eir_term.specs.Search.{need as tries_needed}
use Rattle.eir_term.proofs.ListLaws.{∈-filter_from, ∈-flat_map_from}
use Rattle.eir_term.proofs.MapLaws.{image_at-with_image_at, image_at-with_image_at_other}
use Rattle.eir_term.proofs.OrderLaws.{∈-slice_get_from, take-slice_get}
use Rattle.eir_search.specs.Spaces.{Space, good_choices, full_lists}
use Rattle.eir_search.specs.Standings.{Standing}
use Rattle.eir_search.specs.Tries.{coming, told}
use Rattle.eir_search.proofs.CountLaws.{told-all, tries-all}
use Rattle.eir_search.proofs.TakenLaws.{told-quiet, told-tells}
use Rattle.eir_hom.specs.declared.given.Given.{Given}
use Rattle.eir_hom.specs.Matching.{Bindings, Match, bound_to, matched, match_space}
use Rattle.eir_hom.specs.Levels.{number, levels_of, bindings_of, value_of, hom_of, matched_hom}
use Rattle.eir_hom.specs.Progress.{Progress}
use Rattle.eir_hom.specs.Listings.{lists_to_come, tries_to_come, homs_to_come, AreEntries, AreMatches, IsListing}
use Rattle.eir_hom.proofs.NumberLaws.{need-numbers, homs-numbers, matched-bound}
use Rattle.eir_hom.proofs.RestartLaws.{number-at}

-- ---- full lists

full-good : (s : Space) (t : ℕ) (p cs : List ℕ) → s.good p ≡ true → cs ∈ full_lists s t p → (length cs ≡ t + length p) × (s.good cs ≡ true)
unfolding full_lists
full-good s zero p cs g (inl e) = (let l = ap length e in omega arith, subst (λ xs. s.good xs ≡ true) (sym e) g)
full-good s zero p cs g (inr i) = absurd i
full-good s (suc t) p cs g i =
    let from = ∈-flat_map_from (λ c. full_lists s t (p ++ c ∷ [])) cs (good_choices s p) i in
    let good = (∈-filter_from (λ c. s.good (p ++ c ∷ [])) from.0 (range_with_len 0 (s.width p)) from.1).1 in
    let r = full-good s t (p ++ from.0 ∷ []) cs good from.2 in
    let l = length-append p (from.0 ∷ []) in
    let n = r.0 in
    (omega arith, r.1)

full-matches : (A B : List Fact) (start : List (Val × Val)) → AreMatches A B start (full_lists (match_space (levels_of A B start) (bindings_of A B start)) (length (levels_of A B start)) [])
full-matches A B start cs i =
    let r = full-good (match_space (levels_of A B start) (bindings_of A B start)) (length (levels_of A B start)) [] cs refl i in
    let n = r.0 in
    (omega arith, r.1)

-- ---- a listing begins

module _ (A B : List Fact) (start : List (Val × Val)) (m : Match) (levels : m.levels ≡ levels_of A B start) (numbers : m.start ≡ bindings_of A B start) where
  begun-lists : lists_to_come (Some (record { problem = m; choices = []; next = 0 })) ≡ full_lists (match_space (levels_of A B start) (bindings_of A B start)) (length (levels_of A B start)) []
  begun-lists = rw (levels, numbers) (told-all (match_space (levels_of A B start) (bindings_of A B start)))

  pub begun-homs : IsDistinct B → KeepsFixed start → homs_to_come A B start (Some (record { problem = m; choices = []; next = 0 })) ≡ homs A B start
  begun-homs distinct fixed = ap (map (matched_hom A B start)) begun-lists ∙ homs-numbers A B start distinct fixed

  pub begun-tries : IsDistinct B → KeepsFixed start → tries_to_come (Some (record { problem = m; choices = []; next = 0 })) ≡ tries_needed A B start
  begun-tries distinct fixed = rw (levels, numbers) (tries-all (match_space (levels_of A B start) (bindings_of A B start))) ∙ need-numbers A B start distinct fixed

  pub begun-listing : (given : List Given) (hom : List (Val × Val)) → IsDistinct B → KeepsFixed start → IsDistinct (domain_of start) → AreEntries A start given → domain_of hom ≡ values A →
      IsListing A B start given hom (Some (record { problem = m; choices = []; next = 0 }))
  begun-listing given hom distinct fixed names entries domain = record {
    distinct = distinct;
    fixed = fixed;
    names = names;
    entries = entries;
    domain = domain;
    numbers = (levels, numbers);
    matches = subst (λ css. AreMatches A B start css) (sym begun-lists) (full-matches A B start);
  }

-- what a contract sees of a listing that begins
abbrev pub begun : List Fact → List Fact → List (Val × Val) → Progress
begun A B start = record { source = A; target = B; start = start; found = None; to_come = homs A B start; tries = tries_needed A B start }

-- what is seen of its parts is that
pub begun-progress : (A B K L : List Fact) (start given : List (Val × Val)) (m : Match) (o : Option (Standing Match)) → K ≡ A → L ≡ B → given ≡ start → o ≡ Some (record { problem = m; choices = []; next = 0 }) →
    m.levels ≡ levels_of A B start → m.start ≡ bindings_of A B start → IsDistinct B → KeepsFixed start →
    (let p : Progress = record { source = K; target = L; start = given; found = None; to_come = homs_to_come K L given o; tries = tries_to_come o } in p) ≡ begun A B start
begun-progress A B K L start given m o k l g e levels numbers distinct fixed =
    rw (k, l, g, e)
    (ap₂ (λ hs n. let p : Progress = record { source = A; target = B; start = start; found = None; to_come = hs; tries = n } in p) (begun-homs A B start m levels numbers distinct fixed)
    (begun-tries A B start m levels numbers distinct fixed))

-- ---- a listing goes on

pub listing-next : (A B : List Fact) (start : List (Val × Val)) (given : List Given) (hom new : List (Val × Val)) (s t : Standing Match) → IsListing A B start given hom (Some s) →
    t.problem.levels ≡ s.problem.levels → t.problem.start ≡ s.problem.start → domain_of new ≡ domain_of hom → ((cs : List ℕ) → cs ∈ lists_to_come (Some t) → cs ∈ lists_to_come (Some s)) →
    IsListing A B start given new (Some t)
listing-next A B start given hom new s t is levels numbers domain fewer = record {
  distinct = is.distinct;
  fixed = is.fixed;
  names = is.names;
  entries = is.entries;
  domain = domain ∙ is.domain;
  numbers = (levels ∙ is.numbers.0, numbers ∙ is.numbers.1);
  matches = λ cs i. is.matches cs (fewer cs i);
}

-- a turn that tells nothing leaves all lists to come
pub turn-quiet : (s t : Standing Match) (n : ℕ) →
    coming (match_space s.problem.levels s.problem.start) s.choices s.next ≡ replicate n None ++ coming (match_space t.problem.levels t.problem.start) t.choices t.next →
    lists_to_come (Some s) ≡ lists_to_come (Some t)
turn-quiet s t n e = ap told e ∙ told-quiet n (coming (match_space t.problem.levels t.problem.start) t.choices t.next)

-- one that tells a list takes it off
pub turn-tells : (s t : Standing Match) (n : ℕ) (cs : List ℕ) →
    coming (match_space s.problem.levels s.problem.start) s.choices s.next ≡ replicate n None ++ Some cs ∷ coming (match_space t.problem.levels t.problem.start) t.choices t.next →
    lists_to_come (Some s) ≡ cs ∷ lists_to_come (Some t)
turn-tells s t n cs e = ap told e ∙ told-tells n cs (coming (match_space t.problem.levels t.problem.start) t.choices t.next)

-- ---- what was found

-- a map is the pairs of what it names with the images at their places
pairs-at : (h : List (Val × Val)) (f : Val → Val) → ((n : ℕ) (v : Val) → slice_get (domain_of h) n ≡ Some v → image_at h n ≡ Some (f v)) → h ≡ map (λ v. (v, f v)) (domain_of h)
pairs-at [] f at = refl
pairs-at (p ∷ h) f at = ap₂ (λ w qs. (p.0, w) ∷ qs) (same_Some p.1 (f p.0) (at 0 p.0 refl)) (pairs-at h f (λ n v e. at (suc n) v e))

-- a list that matches binds the slots of the source's values to numbers of the target's
pub bound-slots : (A B : List Fact) (start : List (Val × Val)) (cs : List ℕ) (hom : List (Val × Val)) (m : Bindings) (n : ℕ) → IsDistinct B → KeepsFixed start →
    length cs ≡ length (levels_of A B start) → domain_of hom ≡ values A → matched (levels_of A B start) (bindings_of A B start) cs ≡ Some m → n < length (domain_of hom) →
    (w : ℕ) × (bound_to m n ≡ Some w) × (w < length (values B))
bound-slots A B start cs hom m n distinct fixed long domain e l =
    let below : n < length (values A) = subst (λ vs. n < length vs) domain l in
    let v : Val = get_or (values A) n (Const 0) in
    let at : slice_get (values A) n ≡ Some v = slice_get-get_or (values A) n (Const 0) below in
    let r = matched-bound A B start distinct fixed cs m long e v (∈-slice_get_from v (values A) n at) in
    (r.0, subst (λ k. bound_to m k ≡ Some r.0) (number-at A n v at) r.1, r.2)

-- the images that were written make the homomorphism
pub found-hom : (A B : List Fact) (start : List (Val × Val)) (cs : List ℕ) (hom : List (Val × Val)) → IsDistinct B → KeepsFixed start →
    length cs ≡ length (levels_of A B start) → IsSome (matched (levels_of A B start) (bindings_of A B start) cs) → domain_of hom ≡ values A →
    ((m : Bindings) → matched (levels_of A B start) (bindings_of A B start) cs ≡ Some m → (n : ℕ) → n < length (values A) → (w : ℕ) → bound_to m n ≡ Some w → image_at hom n ≡ slice_get (values B) w) →
    hom ≡ matched_hom A B start cs
found-hom A B start cs hom distinct fixed long some domain images = by (matched (levels_of A B start) (bindings_of A B start) cs) refl some
  where
    by : (o : Option Bindings) → matched (levels_of A B start) (bindings_of A B start) cs ≡ o → IsSome o → hom ≡ matched_hom A B start cs
    by None e s = cc
    by (Some m) e s = pairs-at hom (value_of A B m) at ∙ ap (map (λ v. (v, value_of A B m v))) domain ∙ ap (λ o. hom_of A B (unwrap_or o [])) (sym e)
      where
        at : (n : ℕ) (v : Val) → slice_get (domain_of hom) n ≡ Some v → image_at hom n ≡ Some (value_of A B m v)
        at n v named =
            let there : slice_get (values A) n ≡ Some v = subst (λ vs. slice_get vs n ≡ Some v) domain named in
            let r = matched-bound A B start distinct fixed cs m long e v (∈-slice_get_from v (values A) n there) in
            let own : number A v ≡ n = number-at A n v there in
            let bound : bound_to m n ≡ Some r.0 = subst (λ k. bound_to m k ≡ Some r.0) own r.1 in
            images m e n (slice_get_within (values A) n v there) r.0 bound
            ∙ slice_get-get_or (values B) r.0 v r.2
            ∙ ap (λ o. Some (get_or (values B) (unwrap_or o 0) v)) (sym r.1)

-- ---- a turn that found a list

module _ (A B : List Fact) (start : List (Val × Val)) (given : List Given) (hom : List (Val × Val)) (s t : Standing Match) (is : IsListing A B start given hom (Some s))
    (levels : t.problem.levels ≡ s.problem.levels) (numbers : t.problem.start ≡ s.problem.start) (tells : lists_to_come (Some s) ≡ t.choices ∷ lists_to_come (Some t)) where
  told-matches : (length t.choices ≡ length (levels_of A B start)) × IsSome (matched (levels_of A B start) (bindings_of A B start) t.choices)
  told-matches = is.matches t.choices (subst (λ css. t.choices ∈ css) (sym tells) (inl refl))

  same-match : matched t.problem.levels t.problem.start t.choices ≡ matched (levels_of A B start) (bindings_of A B start) t.choices
  same-match = ap₂ (λ ls m. matched ls m t.choices) (levels ∙ is.numbers.0) (numbers ∙ is.numbers.1)

  pub told-there : IsSome (matched t.problem.levels t.problem.start t.choices)
  told-there = subst (λ o. IsSome o) (sym same-match) told-matches.1

  pub told-bound : (m : Bindings) → matched t.problem.levels t.problem.start t.choices ≡ Some m → (n : ℕ) → n < length hom → (w : ℕ) × (bound_to m n ≡ Some w) × (w < length (values B))
  told-bound m e n l =
      bound-slots A B start t.choices hom m n is.distinct is.fixed told-matches.0 is.domain (sym same-match ∙ e) (subst (λ k. n < k) (sym (length-map hom (λ (p : Val × Val). p.0))) l)

  pub told-hom : (new : List (Val × Val)) → domain_of new ≡ domain_of hom →
      ((m : Bindings) → matched t.problem.levels t.problem.start t.choices ≡ Some m → (n : ℕ) → n < length hom → (w : ℕ) → bound_to m n ≡ Some w → image_at new n ≡ slice_get (values B) w) →
      new ≡ matched_hom A B start t.choices
  told-hom new domain images =
      let long : length (values A) ≡ length hom = ap length (sym is.domain) ∙ length-map hom (λ (p : Val × Val). p.0) in
      found-hom A B start t.choices new is.distinct is.fixed told-matches.0 told-matches.1 (domain ∙ is.domain) (λ m e n l w b. images m (same-match ∙ e) n (subst (λ k. n < k) long l) w b)

  pub told-next : (new : List (Val × Val)) → domain_of new ≡ domain_of hom → IsListing A B start given new (Some t)
  told-next new domain = listing-next A B start given hom new s t is levels numbers domain (λ cs i. subst (λ css. cs ∈ css) (sym tells) (inr i))

-- one that found none
pub quiet-next : (A B : List Fact) (start : List (Val × Val)) (given : List Given) (hom : List (Val × Val)) (s t : Standing Match) → IsListing A B start given hom (Some s) →
    t.problem.levels ≡ s.problem.levels → t.problem.start ≡ s.problem.start → lists_to_come (Some s) ≡ lists_to_come (Some t) → IsListing A B start given hom (Some t)
quiet-next A B start given hom s t is levels numbers quiet = listing-next A B start given hom hom s t is levels numbers refl (λ cs i. subst (λ css. cs ∈ css) (sym quiet) i)

-- ---- the map

pub some-from : {X : Type 0} (o : Option X) → IsSome o → (x : X) × (o ≡ Some x)
some-from None s = cc
some-from (Some x) s = (x, refl)

-- maps of the same first members are as long
pub same-length : (h k : List (Val × Val)) → domain_of h ≡ domain_of k → length h ≡ length k
same-length h k e = sym (length-map h (λ (p : Val × Val). p.0)) ∙ ap length e ∙ length-map k (λ (p : Val × Val). p.0)

-- a matcher that has placed these choices matches them
pub placed-match : (q p : Match) (lent choices : List ℕ) (m : Bindings) → q ≡ p → lent ≡ choices → lent ≡ p.placed → matched p.levels p.start choices ≡ Some m → matched q.levels q.start q.placed ≡ Some m
placed-match q p lent choices m same is placed e =
    subst (λ r. matched r.levels r.start r.placed ≡ Some m) (sym same) (subst (λ cs. matched p.levels p.start cs ≡ Some m) (sym is ∙ placed) e)

-- one image more was written
pub images-next : (h : List (Val × Val)) (vs : List Val) (slot k r w : ℕ) (d : Val) → slot < length h → r < length vs → (k ≡ slot → r ≡ w) → (k < slot → image_at h k ≡ slice_get vs w) → k < slot + 1 →
    image_at (with_image_at h slot (get_or vs r d)) k ≡ slice_get vs w
images-next h vs slot k r w d l b here before below = elim (eq-or-lt k slot below) [
  | inl e ↦ subst (λ i. image_at (with_image_at h slot (get_or vs r d)) i ≡ slice_get vs w) (sym e)
      (image_at-with_image_at h slot (get_or vs r d) l ∙ sym (slice_get-get_or vs r d b) ∙ ap (slice_get vs) (here e))
  | inr f ↦ image_at-with_image_at_other h slot k (get_or vs r d) (λ e. omega arith) ∙ before f
]
  where
    eq-or-lt : (i j : ℕ) → i < j + 1 → (i ≡ j) ⊎ (i < j)
    eq-or-lt i j l = let m : i ≤ j = omega arith in eq-or-lt_of_le m

-- in a list without repeats an element does not stand before its place
pub take-fresh : {X : Type 0} (xs : List X) (n : ℕ) (x : X) → IsDistinct xs → slice_get xs n ≡ Some x → x ∈ take n xs → ⊥
take-fresh [] n x d at i = none-some x at
take-fresh (y ∷ xs) zero x d at i = i
take-fresh (y ∷ xs) (suc n) x d at (inl e) = d.0 (subst (λ z. z ∈ xs) e (∈-slice_get_from x xs n at))
take-fresh (y ∷ xs) (suc n) x d at (inr i) = take-fresh xs n x d.1 at i

-- a pair of the next value was put
pub domain-next : (h : List (Val × Val)) (vs : List Val) (n : ℕ) (v w : Val) → domain_of h ≡ take n vs → slice_get vs n ≡ Some v → domain_of (h ++ (v, w) ∷ []) ≡ take (suc n) vs
domain-next h vs n v w e at = map-append (λ (p : Val × Val). p.0) h ((v, w) ∷ []) ∙ ap (λ us. us ++ v ∷ []) e ∙ sym (take-slice_get vs n v at)

-- a listing that begins between these facts begins between equal ones
pub begun-same : (A K B L : List Fact) {E : Type 0} (start : List (Val × Val)) (r : Result Progress E) → A ≡ K → B ≡ L →
    IfOk r (λ h. h ≡ begun A B start) → IfOk r (λ h. h ≡ begun K L start)
begun-same A K B L start r e f h = subst (λ F. IfOk r (λ h. h ≡ begun F L start)) e (subst (λ F. IfOk r (λ h. h ≡ begun A F start)) f h)
