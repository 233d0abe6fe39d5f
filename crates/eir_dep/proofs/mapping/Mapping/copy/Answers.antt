use Rattle.std.proofs.Common.{◌≡◌, sym, subst}
use Rattle.eir_term.specs.declared.val.Kind.TheVariants.{Glav}
use Rattle.eir_term.specs.Dependencies.{IsMapping}
use Rattle.eir_dep.proofs.mapping.Mapping.copy.Goals as goal

pub invariant_of-result : goal.invariant_of-result
invariant_of-result c = let e : c.in_ok-deps.deps.items ≡ c.self.inside.deps.items = cc (c.in_ok-deps.ensures, c.deref.ensures.value) in subst (λ M. IsMapping Glav M) (sym e) c.self.invariant
