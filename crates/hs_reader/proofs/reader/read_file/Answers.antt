use Rattle.hs_reader.proofs.Exact.{file_of, fault_of, only_of}
use Rattle.hs_reader.proofs.reader.read_file.Goals as goal

pub returns-clause-file : goal.returns-clause-file
returns-clause-file c = file_of c.args.bytes.now c.file.result c.file.ensures

pub returns-clause-fault : goal.returns-clause-fault
returns-clause-fault c = fault_of c.args.bytes.now c.file.result c.file.ensures

pub returns-clause-only : goal.returns-clause-only
returns-clause-only c = only_of c.args.bytes.now c.file.result c.file.ensures
