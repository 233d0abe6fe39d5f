use Rattle.std.proofs.Common.{subst}
use Rattle.eir_term.specs.declared.val.Val.TheVariants.{Null}
use Rattle.eir_term.specs.Lists.{◌∈◌}
use Rattle.eir_canon.proofs.VariableLaws.{no-null}
use Rattle.eir_canon.proofs.glav.glav_dependency.Goals as goal

pub add_nulls-requires : goal.add_nulls-requires
add_nulls-requires c = λ n h. no-null c.args.source.now.facts n (subst (λ vs. Null n ∈ vs) c.in_ok-variables.ensures h)
