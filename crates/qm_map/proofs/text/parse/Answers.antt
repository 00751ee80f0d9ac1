use Rattle.qm_map.proofs.Means.{map_is, fault_is, only_is, valid_is}
use Rattle.qm_map.proofs.text.parse.Goals as goal

pub returns-clause-meant : goal.returns-clause-meant
returns-clause-meant c = map_is c.args.text.now c.meaning_of.result c.meaning_of.ensures

pub returns-clause-fault : goal.returns-clause-fault
returns-clause-fault c = fault_is c.args.text.now c.meaning_of.result c.meaning_of.ensures

pub returns-clause-only : goal.returns-clause-only
returns-clause-only c = only_is c.args.text.now c.meaning_of.result c.meaning_of.ensures

pub returns-clause-valid : goal.returns-clause-valid
returns-clause-valid c = valid_is c.args.text.now c.meaning_of.result c.meaning_of.ensures
