use Rattle.std.proofs.Common.{ap, ap₂, unwrap_or, ◌∙◌}
use Rattle.eir_term.specs.Values.{val_eq}
use Rattle.eir_term.specs.Canonical.{term_of}
use Rattle.eir_canon.proofs.PositionLaws.{place_of-position}
use Rattle.eir_canon.proofs.VariableLaws.{term_of-var}
use Rattle.eir_canon.proofs.variables.Variables.term.Goals as goal

pub returns : goal.returns
returns c =
    term_of-var c.self.inside.values.keys c.args.value c.unwrap_or-place.result c.in_default.not-Fixed
    (c.unwrap_or-place.ensures ∙ ap₂ unwrap_or c.get_index_of.ensures.index c.len.ensures.len ∙ place_of-position val_eq
    c.args.value c.self.inside.values.keys)
    ∙ ap (λ vs. term_of vs c.args.value) c.self.view_is
