use Rattle.std.proofs.Common.{◌↔◌, IsTrue, ◌∙◌, subst}
use Rattle.eir_term.specs.declared.val.Kind.TheVariants.{Gav}
use Rattle.eir_term.specs.Dependencies.{IsMapping}
use Rattle.eir_dep.proofs.mapping.Mapping.is_gav.Goals as goal

pub returns : goal.returns
returns c = subst (λ M. IsTrue c.all_gav.result ↔ IsMapping Gav M) (c.deref.ensures.value ∙ c.self.view_is) c.all_gav.ensures
