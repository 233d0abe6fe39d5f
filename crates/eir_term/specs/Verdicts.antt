-- The verdict on a list of examples (this project's own; the order of its parts too).
--   Finding          == a fault, a refutation, or a mapping
--   first_foreign e  == the first foreign constant of the target
--   first_refuting e f  == the first homomorphism between the sources that does not extend
--   verdict kind E   == the first fault or refutation, else the canonical mapping
use Rattle.std.specs.Prelude.{ℕ, suc, Bool, true, false, not, List, [], ◌∷◌, Option, Some, None, find, option_map, unwrap_or, cond}
use Rattle.std.specs.List.{list_any}
use Rattle.eir_term.specs.declared.val.Val.{Val}
use Rattle.eir_term.specs.declared.val.Kind.{Kind}
use Rattle.eir_term.specs.declared.val.Kind.TheVariants.{Glav, Gav}
use Rattle.eir_term.specs.declared.fact.Fact.{Fact}
use Rattle.eir_term.specs.Values.{val_eq}
use Rattle.eir_term.specs.Instances.{consts, ground_part}
use Rattle.eir_term.specs.Dependencies.{Dependency}
use Rattle.eir_term.specs.Fitting.{DataExample}
use Rattle.eir_term.specs.Canonical.{canon}
use Rattle.eir_term.specs.Search.{homs, start_of, constants_fixed}

-- what a fit finds; places of examples count from 0
pub data Finding : Type 0 where
  foreign_at : ℕ → Val → Finding
  no_fold_at : ℕ → Finding
  refuted : ℕ → ℕ → List (Val × Val) → Finding
  fits : List Dependency → Finding

-- the earlier finding, if there is one
abbrev pub or_else : Option Finding → Option Finding → Option Finding
or_else None later = later
or_else (Some f) later = Some f

-- the first finding of the test over the list, whose places count on from n
abbrev pub first_finding : {X : Type 0} → (ℕ → X → Option Finding) → ℕ → List X → Option Finding
first_finding test n [] = None
first_finding test n (x ∷ xs) = or_else (test n x) (first_finding test (suc n) xs)

-- whether there is none
abbrev pub is_none_of : List (List (Val × Val)) → Bool
is_none_of [] = true
is_none_of (h ∷ hs) = false

-- the first constant of the target that does not occur in the source
abbrev pub first_foreign : DataExample → Option Val
first_foreign e = find (λ c. not (list_any (val_eq c) (consts e.source))) (consts e.target)

-- whether J maps into its ground part with constants fixed
abbrev pub has_fold : List Fact → Bool
has_fold J = not (is_none_of (homs J (ground_part J) (constants_fixed J)))

-- whether no homomorphism between the targets agrees with h
abbrev pub is_stuck : DataExample → DataExample → List (Val × Val) → Bool
is_stuck e f h = is_none_of (homs e.target f.target (start_of e h))

-- the first homomorphism between the sources that extends to none between the targets
abbrev pub first_refuting : DataExample → DataExample → Option (List (Val × Val))
first_refuting e f = find (is_stuck e f) (homs e.source f.source [])

-- the first example with a foreign constant, and the first such constant
abbrev pub domain_finding : List DataExample → Option Finding
domain_finding E = first_finding (λ i e. option_map (foreign_at i) (first_foreign e)) 0 E

-- for GAV alone, the first example whose target does not fold
abbrev pub fold_finding : Kind → List DataExample → Option Finding
fold_finding Glav E = None
fold_finding Gav E = first_finding (λ i e. cond (has_fold e.target) None (Some (no_fold_at i))) 0 E

-- the first pair of examples with a refuting homomorphism, and the first such one
abbrev pub refuted_finding : List DataExample → Option Finding
refuted_finding E = first_finding (λ i e. first_finding (λ j f. option_map (refuted i j) (first_refuting e f)) 0 E) 0 E

-- the first fault or refutation, else the canonical mapping
abbrev pub verdict : Kind → List DataExample → Finding
verdict kind E = unwrap_or (or_else (domain_finding E) (or_else (fold_finding kind E) (refuted_finding E))) (fits (canon kind E))
