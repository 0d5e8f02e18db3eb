use Rattle.hs_verdict.proofs.Supports.{with_supports}
use Rattle.hs_verdict.proofs.laws.supported_tables_have_supports.Goals as goal

pub returns : goal.returns
returns c = with_supports
