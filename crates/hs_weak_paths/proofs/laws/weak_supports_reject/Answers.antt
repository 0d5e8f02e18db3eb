use Rattle.hs_weak_paths.proofs.Rejecting.{path_fails, rejects}
use Rattle.hs_weak_paths.proofs.laws.weak_supports_reject.Goals as goal

pub returns : goal.returns
returns c = record {
  fails = λ p E known supported has. path_fails p known E supported has;
  rejects = λ p E known supported has. rejects p known E supported has;
}
