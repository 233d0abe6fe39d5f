use Rattle.std.proofs.Common.{◌≡◌, ◌∙◌, ◌++◌, sym, ap, ap₂, subst}
use Rattle.eir_term.specs.Lists.{IsDistinct}
use Rattle.eir_inst.specs.Layers.{staying}
use Rattle.eir_inst.proofs.WithoutLaws.{IsDistinct-front}
use Rattle.eir_inst.proofs.StayingLaws.{staying-none}
use Rattle.eir_inst.proofs.instance.gathered.Goals as goal

pub push_staying-requires : goal.push_staying-requires
push_staying-requires c =
    subst (λ fs. IsDistinct fs) (ap₂ (λ fs gs. fs ++ staying gs c.args.gone.now) (sym (ap (λ b. b.facts) c.new-facts.ensures)) (sym c.as_slice.ensures.facts)) (IsDistinct-front (staying c.args.base.now.facts c.args.gone.now) c.args.added.now c.requires)

first : (c : goal.After-push_staying-arg-2-1) → c.push_staying.new.to.facts ≡ staying c.args.base.now.facts c.args.gone.now
first c = c.in_ok-push_staying.ensures ∙ ap₂ (λ fs gs. fs ++ staying gs c.args.gone.now) (ap (λ b. b.facts) c.new-facts.ensures) c.as_slice.ensures.facts

pub push_staying-requires-2 : goal.push_staying-requires-2
push_staying-requires-2 c = subst (λ fs. IsDistinct fs) (ap₂ (λ fs gs. fs ++ gs) (sym (first c)) (sym (staying-none c.args.added.now))) c.requires

pub returns : goal.returns
returns c =
    let first = c.in_ok-push_staying.ensures ∙ ap₂ (λ fs gs. fs ++ staying gs c.args.gone.now) (ap (λ b. b.facts) c.new-facts.ensures) c.as_slice.ensures.facts in
    ap (λ b. b.facts) c.in_ok-new.ensures.ok ∙ c.in_ok-push_staying-2.ensures ∙ ap₂ (λ fs gs. fs ++ gs) first (staying-none c.args.added.now)
