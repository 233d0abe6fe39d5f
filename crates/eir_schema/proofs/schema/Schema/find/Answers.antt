use Rattle.std.proofs.Common.{◌≡◌, ◌<◌, length, Some, None, ◌∙◌, ap, subst, arith}
use Rattle.eir_schema.specs.Schemas.{find_relation}
use Rattle.eir_schema.specs.Tables.{declared}
use Rattle.eir_schema.proofs.TableLaws.{info_of, find-some, find-none, ∈-declared}
use Rattle.eir_schema.proofs.schema.Schema.find.Goals as goal

pub returns-in_err-declaration-clause-exact : goal.returns-in_err-declaration-clause-exact
returns-in_err-declaration-clause-exact c =
    let es = c.self.inside.declarations.entries in
    let none = find-none c.bytes.result.now es c.self.invariant.keyed c.in_err-declaration.ensures.value in
    c.from_residual.ensures ∙ subst (λ s. None ≡ find_relation s c.args.name.now) c.self.view_is (subst (λ w. None ≡ find_relation (declared es) w) c.bytes.ensures none)

pub info-requires : goal.info-requires
info-requires c =
    let there = ∈-declared c.self.inside.declarations.entries _ _ c.in_ok-declaration.declaration.now c.in_ok-declaration.ensures.entry in
    let few = (c.self.invariant.lawful.columns_within c.in_ok-declaration.declaration.now.relation there).1 in
    omega arith

pub returns-clause-exact : goal.returns-clause-exact
returns-clause-exact c =
    let es = c.self.inside.declarations.entries in
    let found : Some (info_of c.in_ok-declaration.declaration.now) ≡ find_relation (declared es) c.bytes.result.now =
    find-some c.bytes.result.now es c.self.inside.summary _ _ c.in_ok-declaration.declaration.now c.self.invariant c.in_ok-declaration.ensures.entry c.in_ok-declaration.ensures.value in
    ap Some c.info.ensures ∙ found ∙ ap (find_relation (declared es)) c.bytes.ensures ∙ ap (λ s. find_relation s c.args.name.now) c.self.view_is
