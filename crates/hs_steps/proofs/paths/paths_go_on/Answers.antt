use Rattle.hs_steps.proofs.PathLemmas.{fails_ends, ends_fails, replaced_fails, child_fails, one_more}
use Rattle.hs_steps.proofs.paths.paths_go_on.Goals as goal

pub returns : goal.returns
returns c = record {
  end = λ rules ts n q t path. (fails_ends rules ts n q t path, ends_fails rules ts n q t path);
  replacement = replaced_fails;
  descent = child_fails;
  reaching = one_more;
}
