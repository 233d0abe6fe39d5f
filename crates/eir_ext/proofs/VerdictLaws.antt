-- The test of a pair at once: first a turn of the search between the sources alone, then the turns of the whole test.
use Rattle.std.proofs.Common.{◌≡◌, ℕ, ◌+◌, ◌-◌, ◌<◌, ◌≤◌, List, [], ◌∷◌, None, Some, find, sym, ap, ap₂, ◌∙◌, subst, arith}
use Rattle.eir_term.specs.declared.val.Val.{Val}
use Rattle.eir_term.specs.declared.fact.Fact.{Fact}
use Rattle.eir_term.specs.Fitting.{DataExample}
use Rattle.eir_term.specs.Search.{homs, need, pairneed}
use Rattle.eir_term.specs.Verdicts.{is_stuck, first_refuting}
use Rattle.eir_search.specs.Standings.{Allowance}
use Rattle.eir_hom.specs.Progress.{Progress}
use Rattle.eir_ext.specs.Trials.{Trial}
use Rattle.eir_ext.specs.Searching.{extension_need, first_trial}

-- ---- numbers: f0 tries were made before, f1 after the first turn, f2 at the end; n are needed between the sources, of
-- which t are left after the first turn, and x for the extensions

at_most-first : (n t f0 f1 x : ℕ) → n ≡ (f1 - f0) + t → f0 ≤ f1 → f1 ≤ f0 + (n + x)
at_most-first n t f0 f1 x tries rises = omega arith

short-first : (n t f0 f1 x l : ℕ) → n ≡ (f1 - f0) + t → f0 ≤ f1 → f1 ≡ l → 0 < t → l - f0 < n + x
short-first n t f0 f1 x l tries rises all some = omega arith

all-first : (n t f0 f1 : ℕ) → n ≡ (f1 - f0) + t → f0 ≤ f1 → t ≡ 0 → f0 + n ≤ f1
all-first n t f0 f1 tries rises none = omega arith

at_most-both : (n t f0 f1 f2 x : ℕ) → n ≡ (f1 - f0) + t → f0 ≤ f1 → f2 ≤ f1 + (t + x) → f2 ≤ f0 + (n + x)
at_most-both n t f0 f1 f2 x tries rises most = omega arith

short-both : (n t f0 f1 x l : ℕ) → n ≡ (f1 - f0) + t → f0 ≤ f1 → l - f1 < t + x → l - f0 < n + x
short-both n t f0 f1 x l tries rises short = omega arith

all-both : (n t f0 f1 f2 : ℕ) → n ≡ (f1 - f0) + t → f0 ≤ f1 → f1 + t ≤ f2 → f0 + n ≤ f2
all-both n t f0 f1 f2 tries rises all = omega arith

-- the steps are counted alike
pub steps-both : (s0 s1 s2 f0 f1 f2 : ℕ) → s1 + f0 ≡ s0 + f1 → s2 + f1 ≡ s1 + f2 → s2 + f0 ≡ s0 + f2
steps-both s0 s1 s2 f0 f1 f2 a b = omega arith

pub rises-both : (f0 f1 f2 : ℕ) → f0 ≤ f1 → f1 ≤ f2 → f0 ≤ f2
rises-both f0 f1 f2 a b = omega arith

-- where no try was made
pub same : (f : ℕ) → f ≤ f
same f = omega arith

pub at_most-none : (f n : ℕ) → f ≤ f + n
at_most-none f n = omega arith

-- a limit is not reached by as many tries as there are below it
pub not-going : (f0 f1 l l0 l1 : ℕ) → l ≡ l0 → l1 ≡ l0 → f1 ≡ f0 + l → f1 < l1 → ⊥
not-going f0 f1 l l0 l1 a b c d = omega arith

-- ---- the search between the sources

-- the listing of all homomorphisms from K to L is begun
pub record IsBegun (s : Progress) (K L : List Fact) : Type 0 where
  pub source : s.source ≡ K
  pub target : s.target ≡ L
  pub to_come : s.to_come ≡ homs K L []
  pub tries : s.tries ≡ need K L []

pub begun-from : (s : Progress) (K L K' L' : List Fact) (m : List (Val × Val)) → K' ≡ K → L' ≡ L → m ≡ [] → s.source ≡ K' → s.target ≡ L' → s.to_come ≡ homs K' L' m → s.tries ≡ need K' L' m → IsBegun s K L
begun-from s K L K' L' m k l none source target to_come tries = record {
  source = source ∙ k;
  target = target ∙ l;
  to_come = to_come ∙ ap (homs K' L') none ∙ ap₂ (λ K L. homs K L []) k l;
  tries = tries ∙ ap (need K' L') none ∙ ap₂ (λ K L. need K L []) k l;
}

module _ (e f : DataExample) (s s1 : Progress) (begun : IsBegun s e.source f.source) where
  -- the first homomorphism
  pub found-begun : (m : List (Val × Val)) × (s1.found ≡ Some m) × (s.to_come ≡ m ∷ s1.to_come) → (m : List (Val × Val)) × (s1.found ≡ Some m) × (homs e.source f.source [] ≡ m ∷ s1.to_come)
  found-begun told = (told.0, told.1, sym begun.to_come ∙ told.2)

  -- where there is none, none refutes
  pub none-begun : s1.to_come ≡ s.to_come → s1.to_come ≡ [] → None ≡ first_refuting e f
  none-begun same none = sym (ap (find (is_stuck e f)) (sym begun.to_come ∙ sym same ∙ none))

  module _ (g0 g1 : Allowance) (tries : s.tries ≡ (g1.used - g0.used) + s1.tries) (rises : g0.used ≤ g1.used) where
    needed : need e.source f.source [] ≡ (g1.used - g0.used) + s1.tries
    needed = sym begun.tries ∙ tries

    pub first-at_most : g1.used ≤ g0.used + pairneed e f
    first-at_most = at_most-first (need e.source f.source []) s1.tries g0.used g1.used (extension_need e f (homs e.source f.source [])) needed rises

    pub first-spent : g1.limit ≡ g0.limit → (g1.used ≡ g1.limit) × (0 < s1.tries) → (g1.used ≡ g0.limit) × (g0.limit - g0.used < pairneed e f)
    first-spent limit spent = (
      spent.0 ∙ limit,
      short-first (need e.source f.source []) s1.tries g0.used g1.used (extension_need e f (homs e.source f.source [])) g0.limit needed rises (spent.0 ∙ limit) spent.1,
    )

    pub first-extends : s1.tries ≡ 0 → g0.used + need e.source f.source [] ≤ g1.used
    first-extends none = all-first (need e.source f.source []) s1.tries g0.used g1.used needed rises none

    -- ---- the whole test

    module _ (t : Trial) (is : t ≡ first_trial e f s1) (g2 : Allowance) where
      pub both-at_most : g2.used ≤ g1.used + t.tries → g2.used ≤ g0.used + pairneed e f
      both-at_most most =
          at_most-both (need e.source f.source []) s1.tries g0.used g1.used g2.used (extension_need e f (homs e.source f.source [])) needed rises (subst (λ n. g2.used ≤ g1.used + n) (ap (λ x. x.tries) is) most)

      pub both-spent : g1.limit ≡ g0.limit → (g2.used ≡ g1.limit) × (g1.limit - g1.used < t.tries) → (g2.used ≡ g0.limit) × (g0.limit - g0.used < pairneed e f)
      both-spent limit spent = (
        spent.0 ∙ limit,
        short-both (need e.source f.source []) s1.tries g0.used g1.used (extension_need e f (homs e.source f.source [])) g0.limit needed rises
            (subst (λ l. l - g1.used < s1.tries + extension_need e f (homs e.source f.source [])) limit (subst (λ n. g1.limit - g1.used < n) (ap (λ x. x.tries) is) spent.1)),
      )

      pub both-extends : g1.used + t.source_tries ≤ g2.used → g0.used + need e.source f.source [] ≤ g2.used
      both-extends all = all-both (need e.source f.source []) s1.tries g0.used g1.used g2.used needed rises (subst (λ n. g1.used + n ≤ g2.used) (ap (λ x. x.source_tries) is) all)
