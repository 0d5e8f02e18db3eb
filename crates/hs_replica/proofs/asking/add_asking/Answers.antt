use Rattle.std.proofs.Common.{subst, ℕ}
use Rattle.hs_types.specs.Interned.{set_of_id, env_of_id}
use Rattle.hs_replica.specs.Index.{list_at, Gains, ListsAll, AsksAt}
use Rattle.hs_replica.proofs.EnvLemmas.{env_none, env_stopped, env_more, env_all}
use Rattle.hs_replica.proofs.asking.add_asking.Goals as goal

pub loop-param-init : goal.loop-param-init
loop-param-init c = env_none c.args.interner.now c.args.point (env_of_id c.args.interner.now c.args.env) c.args.place (list_at c.args.lists.now)

pub returns-in_err-add_asked-clause-gains : goal.returns-in_err-add_asked-clause-gains
returns-in_err-add_asked-clause-gains c =
    let ids = c.args.interner.now in
    env_stopped ids c.sets-set-items.result.now (env_of_id ids c.args.env) c.sets-set-items.ensures.sets c.args.point c.args.place c.loop-param.param c.set-item.result c.loop-param-test.true c.set-item.is
    (list_at c.args.lists.now) (list_at c.loop-param.lists) (list_at c.add_asked.new.lists) c.loop-param.invariant
    (subst (λ (n : ℕ). Gains ids (AsksAt c.args.point n (set_of_id ids c.set-item.result)) c.args.place (list_at c.loop-param.lists) (list_at c.add_asked.new.lists)) c.in_ok-number.ensures c.in_err-add_asked.ensures.gains)

pub loop-param-preserved : goal.loop-param-preserved
loop-param-preserved c =
    let ids = c.args.interner.now in
    env_more ids c.sets-set-items.result.now (env_of_id ids c.args.env) c.sets-set-items.ensures.sets c.args.point c.args.place c.loop-param.param c.set-item.result c.loop-param-test.true c.set-item.is
    (list_at c.args.lists.now) (list_at c.loop-param.lists) (list_at c.add_asked.new.lists) c.loop-param.invariant
    (subst (λ (n : ℕ). Gains ids (AsksAt c.args.point n (set_of_id ids c.set-item.result)) c.args.place (list_at c.loop-param.lists) (list_at c.add_asked.new.lists)) c.in_ok-number.ensures c.in_ok-add_asked.ensures.gains)
    (subst (λ (n : ℕ). ListsAll ids (AsksAt c.args.point n (set_of_id ids c.set-item.result)) c.args.place (list_at c.add_asked.new.lists)) c.in_ok-number.ensures c.in_ok-add_asked.ensures.all)

pub returns-clause-all : goal.returns-clause-all
returns-clause-all c =
    let ids = c.args.interner.now in
    env_all ids c.sets-set-items.result.now (env_of_id ids c.args.env) c.sets-set-items.ensures.sets c.args.point c.args.place c.loop-param.param
    (list_at c.args.lists.now) (list_at c.loop-param.lists) c.loop-param-test.false c.loop-param.invariant
