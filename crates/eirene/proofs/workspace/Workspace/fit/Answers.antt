use Rattle.std.proofs.Common.{subst, sym}
use Rattle.eir_edit.specs.Goods.{IsGoodList}
use Rattle.eir_edit.proofs.GoodLaws.{present}
use Rattle.eir_edit.specs.Pairs.{examples_of}
use Rattle.eirene.proofs.KeptLaws.{AllSources-good}
use Rattle.eirene.proofs.workspace.Workspace.fit.Goals as goal

pub verdict_on-requires : goal.verdict_on-requires
verdict_on-requires c = AllSources-good (examples_of c.list.result.now) (subst (λ xs. IsGoodList 512 xs) (sym c.list.ensures.exact) (present 512 _ c.list.ensures.good))
