use Rattle.std.proofs.Common.{refl, sym, ◌∙◌}
use Rattle.hs_core.proofs.Selected.{kept_ended}
use Rattle.hs_core.proofs.Surplus.{surplus_kept}
use Rattle.hs_core.proofs.selecting.overflow.Goals as goal

pub publish_all-requires-clause-holds : goal.publish_all-requires-clause-holds
publish_all-requires-clause-holds c = c.requires.holds

pub publish_all-requires-clause-ready : goal.publish_all-requires-clause-ready
publish_all-requires-clause-ready c = c.requires.surplus.ready

pub returns-in_err-publish_all-clause-goes : goal.returns-in_err-publish_all-clause-goes
returns-in_err-publish_all-clause-goes c = c.publish_all.ensures.goes

pub returns-in_err-publish_all-clause-own : goal.returns-in_err-publish_all-clause-own
returns-in_err-publish_all-clause-own c = λ ticket f flies. c.requires.own ticket f (sym (c.publish_all.ensures.flight ticket) ∙ flies)

pub returns-clause-goes : goal.returns-clause-goes
returns-clause-goes c = c.publish_all.ensures.goes

pub returns-clause-own : goal.returns-clause-own
returns-clause-own c = λ ticket f flies. c.requires.own ticket f (sym (c.publish_all.ensures.flight ticket) ∙ flies)

pub returns-clause-ended : goal.returns-clause-ended
returns-clause-ended c =
    let e = c.publish_all.new.core in
    (refl, kept_ended e (surplus_kept c.args.core.now e c.know_core.ensures c.args.found.items _ c.publish_all.ensures.goes c.publish_all.ensures.ids c.requires.surplus c.in_ok-publish_all.ensures.all))
