use Rattle.std.proofs.Common.{option_map, ◌∙◌, ap, sym}
use Rattle.eir_schema.specs.Schemas.{relation_at}
use Rattle.eir_schema.proofs.TableLaws.{relation_at-place, relation_at-none}
use Rattle.eir_schema.proofs.schema.Schema.declaration.Goals as goal

pub returns-in_err-place : goal.returns-in_err-place
returns-in_err-place c =
    let es = c.self.inside.declarations.entries in
    ap (option_map (λ d. d.now.relation)) c.from_residual.ensures ∙ sym (relation_at-none es c.self.inside.summary c.args.rel c.self.invariant c.in_err-place.ensures) ∙ ap (λ s. relation_at s c.args.rel) c.self.view_is

pub returns-in_err-declaration : goal.returns-in_err-declaration
returns-in_err-declaration c =
    let es = c.self.inside.declarations.entries in
    ap (option_map (λ d. d.now.relation)) c.from_residual-in_err-declaration.ensures
    ∙ ap (option_map (λ e. e.1.relation)) c.in_err-declaration.ensures.entry
    ∙ sym (relation_at-place es c.self.inside.summary c.args.rel c.in_ok-place.place c.self.invariant c.in_ok-place.ensures)
    ∙ ap (λ s. relation_at s c.args.rel) c.self.view_is

pub returns : goal.returns
returns c =
    let es = c.self.inside.declarations.entries in
    ap (option_map (λ e. e.1.relation)) c.in_ok-declaration.ensures.entry
    ∙ sym (relation_at-place es c.self.inside.summary c.args.rel c.in_ok-place.place c.self.invariant c.in_ok-place.ensures)
    ∙ ap (λ s. relation_at s c.args.rel) c.self.view_is
