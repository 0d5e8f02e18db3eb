use Rattle.std.proofs.Common.{refl, sym, ◌∙◌, subst, ℕ, ◌<◌, List, Contains, length}
use Rattle.hs_scheme.proofs.Lists.{none_in}
use Rattle.hs_types.specs.Interned.{InternerData}
use Rattle.hs_choices.proofs.Growing.{is_so, left_more, lost_kept, lost_more, lost_all}
use Rattle.hs_choices.proofs.unions.without_stronger.Goals as goal

pub asks_at_least-requires-clause-env : goal.asks_at_least-requires-clause-env
asks_at_least-requires-clause-env g c =
    subst (λ (I : InternerData). c.other-item.result < length I.envs) (sym c.loop-other.invariant.same)
    (subst (λ k. k < length (g.T.Comparing.known c.args.types.now).envs) (sym c.other-item.is) (c.requires.kept c.loop-other.other-index c.other-item.result c.loop-other-test.true))

pub asks_at_least-requires-clause-other : goal.asks_at_least-requires-clause-other
asks_at_least-requires-clause-other g c = subst (λ (I : InternerData). c.args.env < length I.envs) (sym c.loop-other.invariant.same) c.requires.env

pub loop-other-init : goal.loop-other-init
loop-other-init g c = record { same = refl; left = λ k m. absurd (none_in k (subst (λ (ks : List ℕ). Contains ks k) c.new-rest.ensures.items m)); lost = λ k m. absurd (none_in k m) }

pub loop-other-preserved-then-branch : goal.loop-other-preserved-then-branch
loop-other-preserved-then-branch g c =
    let I = g.T.Comparing.known c.args.types.now in
    record {
      same = c.asks_at_least.ensures.same ∙ c.loop-other.invariant.same;
      left = c.loop-other.invariant.left;
      lost = lost_more I c.args.kept.now c.args.env c.loop-other.other-index c.other-item.result c.loop-other-test.true c.other-item.is c.loop-other.rest.items
          (is_so I c.other-item.result c.args.env (g.T.Comparing.known c.loop-other.types) c.loop-other.invariant.same c.in_ok-asks_at_least.field-0 c.if-branch.true c.in_ok-asks_at_least.ensures.ok)
          c.loop-other.invariant.lost;
    }

pub loop-other-preserved : goal.loop-other-preserved
loop-other-preserved g c =
    let I = g.T.Comparing.known c.args.types.now in
    record {
      same = c.asks_at_least.ensures.same ∙ c.loop-other.invariant.same;
      left = left_more I c.args.kept.now c.args.env c.loop-other.other-index c.other-item.result c.loop-other-test.true c.other-item.is c.loop-other.rest.items c.push.new.self.items c.in_ok-push.ensures.items c.loop-other.invariant.left;
      lost = lost_kept I c.args.kept.now c.args.env c.loop-other.other-index c.other-item.result c.loop-other-test.true c.other-item.is c.loop-other.rest.items c.push.new.self.items c.in_ok-push.ensures.items c.loop-other.invariant.lost;
    }

pub returns-in_err-asks_at_least-clause-same : goal.returns-in_err-asks_at_least-clause-same
returns-in_err-asks_at_least-clause-same g c = c.asks_at_least.ensures.same ∙ c.loop-other.invariant.same

pub returns-in_err-push-clause-same : goal.returns-in_err-push-clause-same
returns-in_err-push-clause-same g c = c.asks_at_least.ensures.same ∙ c.loop-other.invariant.same

pub returns-clause-lost : goal.returns-clause-lost
returns-clause-lost g c = lost_all (g.T.Comparing.known c.args.types.now) c.args.kept.now c.args.env c.loop-other.other-index c.loop-other-test.false c.loop-other.rest.items c.loop-other.invariant.lost
