use Rattle.std.proofs.Common.{◌≡◌, ◌∙◌, ◌++◌, is_some, ap, ap₂}
use Rattle.eir_inst.specs.Layers.{staying, base_facts}
use Rattle.eir_inst.proofs.LayerLaws.{in-first, in-second}
use Rattle.eir_inst.proofs.instance.Instance.contains.Goals as goal

pub returns-then-is_some : goal.returns-then-is_some
returns-then-is_some c =
    let seen = ap₂ (λ fs g. staying fs g ++ c.self.inside.added.items) c.indexed.ensures c.deref.ensures.value ∙ ap (λ b. b.facts) c.self.view_is in
    let found : c.is_some.result ≡ is_some c.place_staying.result = (let e = c.is_some.ensures in cc) in
    in-first c.args.fact.now (staying c.indexed.result.now.facts c.deref.result.now) c.self.inside.added.items c.args.self.now.facts c.place_staying.result c.is_some.result seen c.place_staying.ensures.absent found c.if-is_some.true

pub returns-else-is_some : goal.returns-else-is_some
returns-else-is_some c =
    let seen = ap₂ (λ fs g. staying fs g ++ c.deref-else-is_some.result.now) c.indexed.ensures c.deref.ensures.value ∙ ap (λ fs. staying (base_facts c.self.inside.base) c.self.inside.gone.items ++ fs) c.deref-else-is_some.ensures.value ∙ ap (λ b. b.facts) c.self.view_is in
    let found : c.is_some.result ≡ is_some c.place_staying.result = (let e = c.is_some.ensures in cc) in
    let there : c.is_some-else-is_some.result ≡ is_some c.place_among.result = (let e = c.is_some-else-is_some.ensures in cc) in
    in-second c.args.fact.now (staying c.indexed.result.now.facts c.deref.result.now) c.deref-else-is_some.result.now c.args.self.now.facts c.place_staying.result c.place_among.result c.is_some.result c.is_some-else-is_some.result seen c.place_staying.ensures.absent found c.if-is_some.false c.place_among.ensures.absent there
