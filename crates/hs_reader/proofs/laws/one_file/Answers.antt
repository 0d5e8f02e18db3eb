use Rattle.hs_reader.proofs.Exact.{one_file_is}
use Rattle.hs_reader.proofs.laws.one_file.Goals as goal

pub returns : goal.returns
returns c = one_file_is
