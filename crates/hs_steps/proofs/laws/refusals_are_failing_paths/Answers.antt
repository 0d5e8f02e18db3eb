use Rattle.hs_steps.proofs.Failing.{refused_within, within_refused, accepted_without_failure, no_failure_accepted}
use Rattle.hs_steps.proofs.laws.refusals_are_failing_paths.Goals as goal

pub returns : goal.returns
returns c = record {
  refusal = λ rules terminals ranks ts s sorted n q t is. (refused_within rules ts terminals ranks s sorted n q t is, within_refused rules ts n q t);
  acceptance = λ rules terminals ranks ts s sorted. (no_failure_accepted rules ts, accepted_without_failure rules ts terminals ranks s sorted);
}
