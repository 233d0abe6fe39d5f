use Rattle.std.proofs.Common.{◌≡◌, List, ℕ, ◌++◌, flat_map, length, ap, ap₂, subst, ◌∙◌}
use Rattle.eir_print.specs.Prefixes.{AppendsPrefix}
use Rattle.eir_print.specs.Words.{text_line}
use Rattle.eir_print.specs.Dependencies.{mapping_text}
use Rattle.eir_print.specs.Replies.{reduced_head}
use Rattle.eir_print.proofs.PrefixLaws.{if_err, then, first}
use Rattle.eir_print.proofs.reduced.print_reduced.Goals as goal

pub returns-in_err-print_head-clause-err : goal.returns-in_err-print_head-clause-err
returns-in_err-print_head-clause-err c =
    let head = reduced_head c.args.kind (length c.args.reduction.now.mapping) (length c.args.reduction.now.lines) in
    let mapping = mapping_text c.args.schema.now c.args.reduction.now.mapping in
    if_err _ _ (first _ _ (head ++ mapping) (flat_map text_line c.args.reduction.now.lines) (first _ _ head mapping
    (subst (λ t. AppendsPrefix c.args.out.now c.print_head.new.out t) (ap₂ (reduced_head c.args.kind) c.len.ensures.len (ap length c.as_slice-reasons.ensures)) c.in_err-print_head.ensures.err)))

pub returns-in_err-print_mapping-clause-err : goal.returns-in_err-print_mapping-clause-err
returns-in_err-print_mapping-clause-err c =
    let head = reduced_head c.args.kind (length c.args.reduction.now.mapping) (length c.args.reduction.now.lines) in
    let mapping = mapping_text c.args.schema.now c.args.reduction.now.mapping in
    if_err _ _ (first _ _ (head ++ mapping) (flat_map text_line c.args.reduction.now.lines) (then _ _ _ head mapping
    (c.in_ok-print_head.ensures.ok ∙ ap (λ t. c.args.out.now ++ t) (ap₂ (reduced_head c.args.kind) c.len.ensures.len (ap length c.as_slice-reasons.ensures))) c.in_err-print_mapping.ensures.err))
