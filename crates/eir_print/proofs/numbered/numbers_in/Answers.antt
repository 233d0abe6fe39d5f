use Rattle.std.proofs.Common.{nat_eq, ap, ◌∙◌}
use Rattle.std.proofs.lemmas.Bool.Decides.{Decides-eqb}
use Rattle.std.proofs.lemmas.Iterator.Adapters.{fact_from_extend}
use Rattle.std.proofs.lemmas.Iterator.{YieldsList-from_slice}
use Rattle.std.proofs.lemmas.Result.{IfOk-at_ok}
use Rattle.indexmap.specs.IndexSet.{insert_all}
use Rattle.eir_print.proofs.ValueLaws.{insert_all-empty}
use Rattle.eir_print.proofs.numbered.numbers_in.Goals as goal

pub returns : goal.returns
returns c =
    IfOk-at_ok _ c.in_ok-extend.was (fact_from_extend (λ y. y.now) c.extend.result c.extend.ensures.ran (λ it b. YieldsList-from_slice _ b.0)
    (λ xs e h. h.0 ∙ ap (λ vs. insert_all nat_eq c.new-found.result.keys vs) e ∙ ap (λ ks. insert_all nat_eq ks c.args.numbers.now) c.new-found.ensures.empty ∙ insert_all-empty nat_eq Decides-eqb c.args.numbers.now))
