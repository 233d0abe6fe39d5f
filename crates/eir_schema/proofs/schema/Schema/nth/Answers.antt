use Rattle.std.proofs.Common.{Some, option_map, slice_get, ◌∙◌, ap, sym}
use Rattle.std.proofs.lemmas.Option.{slice_get-map}
use Rattle.eir_schema.specs.Schemas.{number_at, number_in}
use Rattle.eir_schema.specs.Tables.{declared}
use Rattle.eir_schema.proofs.TableLaws.{number-at}
use Rattle.eir_schema.proofs.schema.Schema.nth.Goals as goal

pub returns : goal.returns
returns c =
    let es = c.self.inside.declarations.entries in
    let entry = sym c.in_ok-declaration.ensures.entry in
    ap Some (c.number.ensures ∙ number-at es c.self.inside.summary c.args.place _ c.in_ok-declaration.declaration.now c.self.invariant entry)
    ∙ sym (ap (option_map (number_in (declared es))) (slice_get-map (λ e. e.1.relation) es c.args.place ∙ ap (option_map (λ e. e.1.relation)) entry))
    ∙ ap (λ s. number_at s c.args.place) c.self.view_is
