use Rattle.hs_reader.proofs.Completeness.{begins_leads, begins_from}
use Rattle.hs_reader.proofs.laws.some_file_begins.Goals as goal

pub returns-clause-leads : goal.returns-clause-leads
returns-clause-leads c = begins_leads

pub returns-clause-begins : goal.returns-clause-begins
returns-clause-begins c = begins_from
