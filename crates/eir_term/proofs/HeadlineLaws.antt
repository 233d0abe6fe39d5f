-- The headline, for both kinds. The point is `headline`: what the verdict says holds (`verdict-says`), and a finding
-- that says what holds is a mapping exactly where some mapping of the kind fits (`Says-exactly`).
use Rattle.std.proofs.Common.{◌≡◌, ◌↔◌, ℕ, ◌+◌, cond, List, Option, Some, None, IsSomeAnd, unwrap_or, option_map, slice_get, refl, sym, ◌∙◌, ap, subst, arith}
use Rattle.std.proofs.lemmas.Option.{none-some}
use Rattle.eir_term.specs.declared.val.Kind.{Kind}
use Rattle.eir_term.specs.declared.val.Kind.TheVariants.{Glav, Gav}
use Rattle.eir_term.specs.Lists.{◌∈◌}
use Rattle.eir_term.specs.Dependencies.{Dependency}
use Rattle.eir_term.specs.Fitting.{DataExample}
use Rattle.eir_term.specs.Extension.{Refutes}
use Rattle.eir_term.specs.Faults.{IsForeign, Folds}
use Rattle.eir_term.specs.Canonical.{canon}
use Rattle.eir_term.specs.Verdicts.{Finding, foreign_at, no_fold_at, refuted, fits, or_else, first_finding, first_foreign, has_fold, first_refuting, domain_finding, fold_finding, refuted_finding, verdict}
use Rattle.eir_term.specs.Headline.{AllSources, SomeFits, Says, Headline}
use Rattle.eir_term.proofs.PullLaws.{foreign-rules_out, refutation-rules_out}
use Rattle.eir_term.proofs.GavLaws.{no_fold-rules_out}
use Rattle.eir_term.proofs.FitLaws.{AllFold, canon-fits, canon-implied, canon-is_mapping}
use Rattle.eir_term.proofs.VerdictLaws.{first_finding-some, option_map-is, first_foreign-some, fold_test-some, first_refuting-some, none-foreign, all-fold, all-extend}

-- what is known of the element at a place
at_place : {X : Type 0} (xs : List X) (i : ℕ) (x : X) (P : X → Type 0) → slice_get xs i ≡ Some x → P x → IsSomeAnd (slice_get xs i) P
at_place xs i x P e p = subst (λ o. IsSomeAnd o P) (sym e) p

-- what the test of an example finds: a foreign constant, and no mapping fits
foreign_at-says : (kind : Kind) (E : List DataExample) (i : ℕ) (e : DataExample) (r : Finding) → AllSources E →
    slice_get E i ≡ Some e → e ∈ E → option_map (foreign_at i) (first_foreign e) ≡ Some r → Says kind E r
foreign_at-says kind E i e r clean at h q =
    let s = option_map-is (foreign_at i) (first_foreign e) r q in
    let foreign = first_foreign-some e s.0 s.1 in
    subst (λ x. Says kind E x) s.2 (
      at_place E i e (λ e. IsForeign e s.0) at foreign,
      λ M ok fit. foreign-rules_out M E e s.0 (clean e h) h foreign fit,
    )

-- what the test of a target finds: it does not fold, and no GAV mapping fits
no_fold_at-says : (E : List DataExample) (i : ℕ) (e : DataExample) (r : Finding) → AllSources E →
    slice_get E i ≡ Some e → e ∈ E → cond (has_fold e.target) None (Some (no_fold_at i)) ≡ Some r → Says Gav E r
no_fold_at-says E i e r clean at h q =
    let s = fold_test-some e.target (no_fold_at i) r q in
    subst (λ x. Says Gav E x) s.1 (
      at_place E i e (λ e. Folds e.target → ⊥) at s.0,
      λ M ok fit. no_fold-rules_out M E e (clean e h) h s.0 ok fit,
    )

-- what the test of a pair finds: a homomorphism between the sources that does not extend, and no mapping fits
refuted-says : (kind : Kind) (E : List DataExample) (i j : ℕ) (e f : DataExample) (r : Finding) → AllSources E →
    slice_get E i ≡ Some e → slice_get E j ≡ Some f → e ∈ E → f ∈ E →
    option_map (refuted i j) (first_refuting e f) ≡ Some r → Says kind E r
refuted-says kind E i j e f r clean at_i at_j k l q =
    let s = option_map-is (refuted i j) (first_refuting e f) r q in
    let refutes = first_refuting-some e f s.0 s.1 in
    subst (λ x. Says kind E x) s.2 (
      at_place E i e (λ e. IsSomeAnd (slice_get E j) (λ f. Refutes e f s.0)) at_i
          (at_place E j f (λ f. Refutes e f s.0) at_j refutes),
      λ M ok fit. refutation-rules_out M E e f s.0 (clean e k) k l refutes fit,
    )

domain_finding-says : (kind : Kind) (E : List DataExample) (r : Finding) → AllSources E →
    domain_finding E ≡ Some r → Says kind E r
domain_finding-says kind E r clean q =
    let i = first_finding-some (λ i e. option_map (foreign_at i) (first_foreign e)) 0 E r q in
    let at : 0 + i.0 ≡ i.0 = omega arith in
    foreign_at-says kind E (0 + i.0) i.1 r clean (ap (slice_get E) at ∙ i.2) i.3 i.4

fold_finding-says : (kind : Kind) (E : List DataExample) (r : Finding) → AllSources E →
    fold_finding kind E ≡ Some r → Says kind E r
fold_finding-says Glav E r clean q = absurd (none-some r q)
fold_finding-says Gav E r clean q =
    let i = first_finding-some (λ i e. cond (has_fold e.target) None (Some (no_fold_at i))) 0 E r q in
    let at : 0 + i.0 ≡ i.0 = omega arith in
    no_fold_at-says E (0 + i.0) i.1 r clean (ap (slice_get E) at ∙ i.2) i.3 i.4

refuted_finding-says : (kind : Kind) (E : List DataExample) (r : Finding) → AllSources E →
    refuted_finding E ≡ Some r → Says kind E r
refuted_finding-says kind E r clean q =
    let i = first_finding-some (λ i e. first_finding (λ j f. option_map (refuted i j) (first_refuting e f)) 0 E) 0 E r q in
    let j = first_finding-some (λ j f. option_map (refuted (0 + i.0) j) (first_refuting i.1 f)) 0 E r i.4 in
    let at_i : 0 + i.0 ≡ i.0 = omega arith in
    let at_j : 0 + j.0 ≡ j.0 = omega arith in
    refuted-says kind E (0 + i.0) (0 + j.0) i.1 j.1 r clean
    (ap (slice_get E) at_i ∙ i.2) (ap (slice_get E) at_j ∙ j.2) i.3 j.3 j.4

-- where no target is found that does not fold, for GAV every target folds
fold_finding-none : (kind : Kind) (E : List DataExample) → fold_finding kind E ≡ None → AllFold kind E
fold_finding-none Glav E q = tt
fold_finding-none Gav E q = all-fold E q

-- what the verdict says holds
pub verdict-says : (kind : Kind) (E : List DataExample) → AllSources E → Says kind E (verdict kind E)
verdict-says kind E clean = by (domain_finding E) (fold_finding kind E) (refuted_finding E) refl refl refl
  where
    by : (a b c : Option Finding) → domain_finding E ≡ a → fold_finding kind E ≡ b → refuted_finding E ≡ c →
        Says kind E (unwrap_or (or_else a (or_else b c)) (fits (canon kind E)))
    by (Some r) b c p q s = domain_finding-says kind E r clean p
    by None (Some r) c p q s = fold_finding-says kind E r clean q
    by None None (Some r) p q s = refuted_finding-says kind E r clean s
    by None None None p q s =
        let known = none-foreign E p in record {
          mapping = canon-is_mapping kind E clean known;
          fitting = canon-fits kind E clean known (fold_finding-none kind E q) (all-extend E s);
          implied = λ N ok fit. canon-implied kind E N clean fit;
        }

-- a finding that says what holds is a mapping exactly where some mapping of the kind fits
pub Says-exactly : (kind : Kind) (E : List DataExample) (r : Finding) → Says kind E r →
    SomeFits kind E ↔ ((M : List Dependency) × (r ≡ fits M))
Says-exactly kind E (foreign_at i v) says = (λ some. absurd (says.1 some.0 some.1 some.2), λ found. cc (found.1))
Says-exactly Glav E (no_fold_at i) says = absurd says
Says-exactly Gav E (no_fold_at i) says = (λ some. absurd (says.1 some.0 some.1 some.2), λ found. cc (found.1))
Says-exactly kind E (refuted i j h) says = (λ some. absurd (says.1 some.0 some.1 some.2), λ found. cc (found.1))
Says-exactly kind E (fits M) says = (λ some. (M, refl), λ found. (M, says.mapping, says.fitting))

pub headline : (kind : Kind) → Headline kind
headline kind E clean = let says = verdict-says kind E clean in (says, Says-exactly kind E (verdict kind E) says)
