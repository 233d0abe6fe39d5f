use Rattle.eir_search.proofs.CountLaws.{told-all, tries-all}
use Rattle.eir_search.proofs.search.Search.begin.Goals as goal

pub returns-in-Err-clause-lists : goal.returns-in-Err-clause-lists
returns-in-Err-clause-lists g c = told-all _

pub returns-in-Err-clause-tries : goal.returns-in-Err-clause-tries
returns-in-Err-clause-tries g c = tries-all _
