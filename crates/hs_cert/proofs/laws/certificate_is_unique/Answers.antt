use Rattle.hs_cert.proofs.Right.{one_entry, one_pair}
use Rattle.hs_cert.proofs.OneTable.{one_table, no_fault, one_first}
use Rattle.hs_cert.proofs.laws.certificate_is_unique.Goals as goal

pub returns-clause-entry : goal.returns-clause-entry
returns-clause-entry c = λ p text one other has. one_entry p has text one other

pub returns-clause-pair : goal.returns-clause-pair
returns-clause-pair c = λ p text one other has. one_pair p has text one other

pub returns-clause-table : goal.returns-clause-table
returns-clause-table c = λ p bytes form kind m n one other void pairs has. one_table p has bytes form kind m n one other void pairs

pub returns-clause-faultless : goal.returns-clause-faultless
returns-clause-faultless c = λ p bytes form m table void line has. no_fault p has form bytes m table void line

pub returns-clause-first : goal.returns-clause-first
returns-clause-first c = one_first
