use Rattle.eir_search.proofs.CountLaws.{told-all, tries-all}
use Rattle.eir_search.proofs.search.Search.again.Goals as goal

pub returns-clause-lists : goal.returns-clause-lists
returns-clause-lists g c = told-all _

pub returns-clause-tries : goal.returns-clause-tries
returns-clause-tries g c = tries-all _
