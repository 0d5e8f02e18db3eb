use Rattle.std.proofs.Common.{refl, sym, ◌∙◌, subst, ◌<◌, length}
use Rattle.hs_scheme.proofs.Lists.{none_in}
use Rattle.hs_types.specs.Interned.{InternerData, env_of_id}
use Rattle.hs_choices.proofs.Growing.{is_so, not_so, none_asked, none_of_all, found_asked}
use Rattle.hs_choices.proofs.unions.asks_some.Goals as goal

pub asks_at_least-requires-clause-env : goal.asks_at_least-requires-clause-env
asks_at_least-requires-clause-env g c = subst (λ (I : InternerData). c.args.env < length I.envs) (sym c.loop-other.invariant.same) c.requires.env

pub asks_at_least-requires-clause-other : goal.asks_at_least-requires-clause-other
asks_at_least-requires-clause-other g c =
    subst (λ (I : InternerData). c.other-item.result < length I.envs) (sym c.loop-other.invariant.same)
    (subst (λ k. k < length (g.T.Comparing.known c.args.types.now).envs) (sym c.other-item.is) (c.requires.others c.loop-other.other-index c.other-item.result c.loop-other-test.true))

pub loop-other-init : goal.loop-other-init
loop-other-init g c = record { same = refl; none = λ s. none_in s.0 s.1.0 }

pub loop-other-preserved : goal.loop-other-preserved
loop-other-preserved g c =
    let I = g.T.Comparing.known c.args.types.now in
    record {
      same = c.asks_at_least.ensures.same ∙ c.loop-other.invariant.same;
      none = none_asked I c.args.others.now c.loop-other.other-index c.other-item.result c.loop-other-test.true c.other-item.is (env_of_id I c.args.env) c.loop-other.invariant.none
          (not_so I c.args.env c.other-item.result (g.T.Comparing.known c.loop-other.types) c.loop-other.invariant.same c.in_ok-asks_at_least.field-0 c.if-branch.false c.in_ok-asks_at_least.ensures.ok);
    }

pub returns-then-branch-clause-ok : goal.returns-then-branch-clause-ok
returns-then-branch-clause-ok g c =
    let I = g.T.Comparing.known c.args.types.now in
    found_asked I c.args.others.now c.loop-other.other-index c.other-item.result c.loop-other-test.true c.other-item.is (env_of_id I c.args.env)
    (is_so I c.args.env c.other-item.result (g.T.Comparing.known c.loop-other.types) c.loop-other.invariant.same c.in_ok-asks_at_least.field-0 c.if-branch.true c.in_ok-asks_at_least.ensures.ok)

pub returns-then-branch-clause-same : goal.returns-then-branch-clause-same
returns-then-branch-clause-same g c = c.asks_at_least.ensures.same ∙ c.loop-other.invariant.same

pub returns-in_err-asks_at_least-clause-same : goal.returns-in_err-asks_at_least-clause-same
returns-in_err-asks_at_least-clause-same g c = c.asks_at_least.ensures.same ∙ c.loop-other.invariant.same

pub returns-clause-ok : goal.returns-clause-ok
returns-clause-ok g c = none_of_all (g.T.Comparing.known c.args.types.now) c.args.others.now c.loop-other.other-index c.loop-other-test.false (env_of_id (g.T.Comparing.known c.args.types.now) c.args.env) c.loop-other.invariant.none
