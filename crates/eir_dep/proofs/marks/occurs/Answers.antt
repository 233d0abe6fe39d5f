use Rattle.std.proofs.Common.{inl, inr, refl, sym, subst}
use Rattle.eir_term.specs.Lists.{◌∈◌}
use Rattle.eir_term.specs.Dependencies.{term_vars}
use Rattle.eir_dep.proofs.MarkLaws.{∈-atom_item, ∈-vars_cases, no-from}
use Rattle.eir_dep.proofs.marks.occurs.Goals as goal

pub returns-then-is_among : goal.returns-then-is_among
returns-then-is_among c = (
  λ t. ∈-atom_item c.args.v c.args.atoms.now c.loop-atom.atom-index c.atom-item.result c.loop-atom-test.true c.atom-item.is
      (subst (λ ts. c.args.v ∈ term_vars ts) c.as_slice.ensures (c.is_among.ensures.0 c.if-is_among.true)),
  λ h. refl,
)

pub loop-atom-preserved : goal.loop-atom-preserved
loop-atom-preserved c h = elim (∈-vars_cases c.args.v c.args.atoms.now c.loop-atom.atom-index c.atom-item.result c.loop-atom-test.true c.atom-item.is h) [
  | inl k ↦ c.loop-atom.invariant k
  | inr k ↦ no-from c.is_among.result c.is_among.ensures c.if-is_among.false (subst (λ ts. c.args.v ∈ term_vars ts) (sym c.as_slice.ensures) k)
]
