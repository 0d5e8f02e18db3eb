use Rattle.hs_reader.specs.ReadingStages.{start, read}
use Rattle.hs_reader.proofs.Exact.{read_answer, one_answer_is}
use Rattle.hs_reader.proofs.laws.one_answer.Goals as goal

pub returns-clause-some : goal.returns-clause-some
returns-clause-some c = λ bytes. (read start 1 bytes, read_answer bytes)

pub returns-clause-one : goal.returns-clause-one
returns-clause-one c = one_answer_is
