use Rattle.std.proofs.lemmas.Bool.{eqb-true}
use Rattle.indexmap.proofs.CallerLemmas.{Contains-list_any}
use Rattle.hs_rules.proofs.ExtendLemmas.{old_where}
use Rattle.hs_rules.proofs.met.meet.Goals as goal

pub returns-clause-old : goal.returns-clause-old
returns-clause-old c = old_where _ _ _ c.in_ok-number.ensures.added (λ there. Contains-list_any _ eqb-true c.args.met.now.masks.keys c.args.mask there)
