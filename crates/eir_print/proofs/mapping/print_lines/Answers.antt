use Rattle.std.proofs.Common.{◌++◌, ◌-◌, ◌+◌, ◌≡◌, ◌∙◌, ap, subst, arith, sym, take, drop, flat_map, length-drop}
use Rattle.eir_print.specs.Prefixes.{AppendsPrefix}
use Rattle.eir_print.specs.Words.{text_at}
use Rattle.eir_print.specs.Dependencies.{dependency_line}
use Rattle.eir_print.proofs.PrefixLaws.{if_err, prefix-first, prefix-then, prefix-inside_at, done}
use Rattle.eir_print.proofs.PrefixLaws.{texts-more_at, texts-all, texts-first, text-further}
use Rattle.eir_print.proofs.mapping.print_lines.Goals as goal

pub returns-in_err-print_line-clause-err : goal.returns-in_err-print_line-clause-err
returns-in_err-print_line-clause-err c =
    let text = dependency_line c.args.schema.now in
    let mapping = c.args.mapping.now in
    let first = c.args.first.now in
    let old = c.args.out.now in
    let new = c.print_line.new.out in
    if_err _ _ (prefix-first old new (text first) (flat_map text (drop 1 mapping)) (flat_map text mapping)
    (subst (λ s. AppendsPrefix old new (dependency_line s first)) c.in_ok-opening.ensures.schema
    c.in_err-print_line.ensures.err)
    (texts-first text mapping first c.requires))

pub returns-in_err-print_line_at-clause-err : goal.returns-in_err-print_line_at-clause-err
returns-in_err-print_line_at-clause-err c =
    let text = dependency_line c.args.schema.now in
    let mapping = c.args.mapping.now in
    let first = c.args.first.now in
    let place = c.loop-place.place in
    let start = c.print_line.new.out in
    let new = c.print_line_at.new.out in
    if_err _ _ (prefix-then c.args.out.now start new (text first) (flat_map text (drop 1 mapping))
    (flat_map text mapping)
    (c.in_ok-print_line.ensures.ok
    ∙ ap (λ s. c.args.out.now ++ dependency_line s first) c.in_ok-opening.ensures.schema)
    (prefix-inside_at text start c.loop-place.out new (drop 1 mapping) (place - 1) c.loop-place.invariant.out
    (subst (λ t. AppendsPrefix c.loop-place.out new t)
    (ap (λ s. text_at (dependency_line s) mapping place) c.loop-place.invariant.schema
    ∙ text-further text mapping place c.loop-place.invariant.further)
    c.in_err-print_line_at.ensures.err))
    (texts-first text mapping first c.requires))

pub loop-place-preserved : goal.loop-place-preserved
loop-place-preserved c =
    let text = dependency_line c.args.schema.now in
    let mapping = c.args.mapping.now in
    let place = c.loop-place.place in
    let start = c.print_line.new.out in
    let here = c.loop-place.out in
    let next : place - 1 + 1 ≡ place + 1 - 1 = omega (arith, c.loop-place.invariant.further) in
    record {
      out = texts-more_at text start here c.print_line_at.new.out (drop 1 mapping) (place - 1)
          c.loop-place.invariant.out (c.in_ok-print_line_at.ensures.ok
          ∙ ap (λ s. here ++ text_at (dependency_line s) mapping place) c.loop-place.invariant.schema
          ∙ ap (λ t. here ++ t) (text-further text mapping place c.loop-place.invariant.further))
          ∙ ap (λ k. start ++ flat_map text (take k (drop 1 mapping))) next;
      further = omega arith;
      schema = c.in_ok-print_line_at.ensures.schema ∙ c.loop-place.invariant.schema;
    }

pub returns-clause-ok : goal.returns-clause-ok
returns-clause-ok c =
    let text = dependency_line c.args.schema.now in
    let mapping = c.args.mapping.now in
    let first = c.args.first.now in
    let start = c.print_line.new.out in
    done c.args.out.now start c.loop-place.out (text first) (flat_map text (drop 1 mapping))
    (c.in_ok-print_line.ensures.ok
    ∙ ap (λ s. c.args.out.now ++ dependency_line s first) c.in_ok-opening.ensures.schema)
    (texts-all text start c.loop-place.out (drop 1 mapping) (c.loop-place.place - 1)
    (omega (arith, length-drop 1 mapping, c.len-place-end.ensures.len, c.loop-place-test.false))
    c.loop-place.invariant.out)
    ∙ ap (λ t. c.args.out.now ++ t) (sym (texts-first text mapping first c.requires))
