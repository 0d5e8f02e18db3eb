use Rattle.hs_choices.proofs.Asking.{void_more}
use Rattle.hs_choices.proofs.laws.what_asks_more_is_void.Goals as goal

pub returns : goal.returns
returns c = void_more
