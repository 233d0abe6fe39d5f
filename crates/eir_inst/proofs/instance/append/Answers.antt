use Rattle.std.proofs.Common.{◌∙◌, not, ap, sym}
use Rattle.std.proofs.lemmas.Bool.{false≢true}
use Rattle.std.proofs.lemmas.Bool.Decides.{Decides-eqb}
use Rattle.std.specs.Vec.{vec_len}
use Rattle.eir_inst.proofs.LayerLaws.{more-own, nothing-of}
use Rattle.eir_inst.proofs.instance.append.Goals as goal

pub push_marked-requires : goal.push_marked-requires
push_marked-requires c = λ h. false≢true (sym (c.is_none.ensures ∙ ap not c.if-is_none.true) ∙ c.place_of.ensures.absent.1 h)

pub returns-in-Own-clause-ok : goal.returns-in-Own-clause-ok
returns-in-Own-clause-ok c =
    more-own c.push_marked.result c.in-Own.facts c.push_marked.new.facts c.args.base.now c.args.gone.now.items c.push_marked.new.gone.items c.args.added.now.items c.args.fact c.in-Own.is
    (nothing-of c.args.added.now.items (sym c.args.added.now.ok.0 ∙ (Decides-eqb (vec_len c.args.added.now) 0).0 (sym c.if-is_empty.ensures))) c.requires c.push_marked.ensures.facts c.push_marked.ensures.gone
