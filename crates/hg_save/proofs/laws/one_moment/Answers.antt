use Rattle.hg_save.proofs.Others.{last_record, one_fault, one_load, one_record, tried_record}
use Rattle.hg_save.proofs.laws.one_moment.Goals as goal

pub returns-clause-found : goal.returns-clause-found
returns-clause-found c = one_record

pub returns-clause-bytes : goal.returns-clause-bytes
returns-clause-bytes c = one_load

pub returns-clause-fault : goal.returns-clause-fault
returns-clause-fault c = one_fault

pub returns-clause-tried : goal.returns-clause-tried
returns-clause-tried c = tried_record

pub returns-clause-last : goal.returns-clause-last
returns-clause-last c = last_record
