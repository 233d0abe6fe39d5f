use Rattle.std.proofs.Common.{◌≡◌, ◌∙◌, ℕ, None, Some, Option, length, take, option_map, cond, get_or, sym, ap, arith}
use Rattle.std.proofs.lemmas.List.{length-map}
use Rattle.eir_term.specs.declared.val.Val.{Val}
use Rattle.eir_term.specs.Instances.{values}
use Rattle.eir_term.specs.Maps.{get}
use Rattle.eir_hom.specs.Levels.{number}
use Rattle.eir_hom.specs.Compiling.{is_here, or_else}
use Rattle.eir_hom.proofs.StockLaws.{slice_get-there}
use Rattle.eir_hom.proofs.StartLaws.{given-step, if-below, number-below}
use Rattle.eir_hom.proofs.starts.set_given.Goals as goal
use Rattle.eir_hom.proofs.starts.set_given.Goals.{in-Some, in_default}

pub set_first-requires : goal.set_first-requires
set_first-requires c =
    let A = c.args.a.now.facts in
    let f : Val → Option ℕ = λ u. option_map (number c.args.b.now.facts) (get (take c.loop-i.i c.args.start.now) u) in
    let l : length c.loop-i.images ≡ length (values A) = ap length c.loop-i.invariant ∙ length-map (values A) f in
    if-below c.number_of.result (length c.loop-i.images) (λ n e. let b = number-below A c.in-Some.v c.number_of.result c.number_of.ensures.there n e in omega arith)

pub loop-i-preserved : goal.loop-i-preserved
loop-i-preserved c =
    elim c.match-pair.branch [
      | in-Some w ↦ w.images-is ∙ given-step c.args.a.now.facts c.args.b.now.facts c.args.start.now c.loop-i.i w.in-Some.v w.in-Some.w w.number_of.result c.loop-i.images w.set_first.new.images (sym c.pair.ensures ∙ w.in-Some.is) w.number_of.ensures.there w.set_first.auto.images c.loop-i.invariant (λ n h. w.set_first.ensures n h ∙ ap (λ m. or_else (get_or c.loop-i.images n None) (cond (is_here w.number_of.result n) (Some m) None)) w.number_in.ensures)
      | in_default w ↦ (let t = slice_get-there c.args.start.now c.loop-i.i (omega arith) in let z : None ≡ Some t.0 = sym w.in_default.is ∙ c.pair.ensures ∙ t.1 in cc)
    ]
