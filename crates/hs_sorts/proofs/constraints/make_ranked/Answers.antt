use Rattle.std.proofs.Common.{subst}
use Rattle.std.proofs.lemmas.Result.{IfOk-weaker}
use Rattle.hs_scheme.specs.sorting.Sorting.{o}
use Rattle.hs_sorts.specs.Constraints.{IsNodeFor, IsClaim, IsBaseSort, LeavesSort, IsRanked}
use Rattle.hs_sorts.proofs.Claiming.{ended, ranked_by}
use Rattle.hs_sorts.proofs.constraints.make_ranked.Goals as goal

pub returns-in_default : goal.returns-in_default
returns-in_default c =
    ranked_by c.args.store.now c.args.node c.args.rank c.in_ok-first.ensures.before c.requires c.add_all.new.self c.add_all.new.self c.in_ok-first.first Rattle.std.proofs.Common.false
    c.in_ok-first.ensures.added.0 c.in_ok-first.ensures.added.1
    (λ v r h. subst (IsNodeFor c.add_all.new.self c.rest_behind.new.store (LeavesSort c.args.node c.in_ok-first.first c.args.rank)) c.in_default.is c.in_ok-rest.ensures v o r h)

pub returns : goal.returns
returns c =
    IfOk-weaker c.make_base.result (IsClaim c.rest_behind.new.store c.make_base.new.store (IsBaseSort c.in-Some.rest))
    (IsClaim c.args.store.now c.make_base.new.store (IsRanked c.args.node c.args.rank)) (λ answer e.
    ranked_by c.args.store.now c.args.node c.args.rank c.in_ok-first.ensures.before c.requires c.add_all.new.self c.make_base.new.store c.in_ok-first.first answer
    c.in_ok-first.ensures.added.0 c.in_ok-first.ensures.added.1
    (ended c.add_all.new.self c.rest_behind.new.store c.make_base.new.store c.in-Some.rest (LeavesSort c.args.node c.in_ok-first.first c.args.rank) answer
    (subst (IsNodeFor c.add_all.new.self c.rest_behind.new.store (LeavesSort c.args.node c.in_ok-first.first c.args.rank)) c.in-Some.is c.in_ok-rest.ensures) e)) c.make_base.ensures
