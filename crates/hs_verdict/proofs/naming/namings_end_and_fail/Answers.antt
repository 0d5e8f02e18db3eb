use Rattle.hs_verdict.proofs.Ending.{naming_ends, path_fails, long_fails}
use Rattle.hs_verdict.proofs.naming.namings_end_and_fail.Goals as goal

pub returns : goal.returns
returns c = record {
  ends = λ p T supports known log has. let n = naming_ends p known T supports log has in (n.0, n.1, n.2);
  fails = λ p T supports known log. path_fails p known T supports log;
  long = long_fails;
}
