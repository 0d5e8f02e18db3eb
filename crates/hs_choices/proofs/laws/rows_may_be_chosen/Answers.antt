use Rattle.hs_choices.proofs.Choosing.{rows_stand}
use Rattle.hs_choices.proofs.laws.rows_may_be_chosen.Goals as goal

pub returns : goal.returns
returns c = rows_stand
