use Rattle.std.proofs.Common.{◌∙◌, ap₂, sym, refl}
use Rattle.std.proofs.lemmas.Slice.Eq.{slice_eq-Decides}
use Rattle.eir_term.specs.declared.term.Atom.{Atom}
use Rattle.eir_print.proofs.EqualLaws.{term-decides}
use Rattle.eir_print.proofs.equal.is_equal.Goals as goal

pub returns-then-first-second : goal.returns-then-first-second
returns-then-first-second c t =
    let decides = term-decides _ (λ a b. refl) (λ a b. refl) (λ a b. refl) (λ a b. refl) in
    ap₂ (λ r ts. let a : Atom = record { rel = r; args = ts } in a) c.if-first-second.true
    (sym c.as_slice.ensures ∙ (slice_eq-Decides decides _ _ _ c.eq.ensures).0 t
    ∙ c.as_slice-then-first-second.ensures)
