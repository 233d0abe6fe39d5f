use Rattle.std.proofs.Common.{◌≡◌, ◌∙◌, length, ap, sym}
use Rattle.std.proofs.lemmas.Bool.Decides.{Decides-eqb}
use Rattle.std.specs.Vec.{vec_len}
use Rattle.eir_inst.specs.Layers.{base_facts}
use Rattle.eir_inst.proofs.LayerLaws.{all-stay, nothing-of}
use Rattle.eir_inst.proofs.instance.Instance.settled_base.Goals as goal

pub returns-in-Shared : goal.returns-in-Shared
returns-in-Shared c =
    let own = ap base_facts c.in-Shared.is in
    let none = nothing-of c.self.inside.added.items (sym c.self.inside.added.ok.0 ∙ (Decides-eqb (vec_len c.self.inside.added) 0).0 (sym c.if-is_empty.ensures)) in
    let size : length (base_facts c.self.inside.base) ≡ c.self.inside.count = ap length own ∙ ap (λ x. length x.facts) (sym c.deref.ensures) ∙ sym c.len.ensures ∙ c.if-len-self.true in
    sym own ∙ sym (all-stay c.self.inside.base c.self.inside.gone.items c.self.inside.added.items c.self.inside.count c.self.inside.limit c.self.invariant none size) ∙ ap (λ b. b.facts) c.self.view_is
