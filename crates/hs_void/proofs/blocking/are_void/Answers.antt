use Rattle.std.proofs.Common.{refl, sym, ◌∙◌, subst, ◌<◌, length}
use Rattle.hs_types.specs.Interned.{InternerData}
use Rattle.hs_void.proofs.Chosen.{void_so, not_void_so, each_more, each_none, each_all, one_not}
use Rattle.hs_void.proofs.blocking.are_void.Goals as goal

pub is_void-requires-clause-env : goal.is_void-requires-clause-env
is_void-requires-clause-env c =
    subst (λ (I : InternerData). c.env-item.result < length I.envs) (sym c.loop-env.invariant.same)
    (subst (λ k. k < length c.args.types.now.envs) (sym c.env-item.is) (c.requires.envs c.loop-env.env-index c.env-item.result c.loop-env-test.true))

pub loop-env-init : goal.loop-env-init
loop-env-init c = record {
  same = refl;
  fits = c.requires.fits;
  basis = refl;
  void = λ C V are. each_none c.args.voids.now.basis c.args.types.now C V c.args.rule c.args.envs.now;
}

pub loop-env-preserved : goal.loop-env-preserved
loop-env-preserved c =
    let I = c.args.types.now in
    let b = c.args.voids.now.basis in
    let h = c.loop-env.invariant in
    let i = c.loop-env.env-index in
    let x = c.env-item.result in
    record {
      same = c.is_void.ensures.same ∙ h.same;
      fits = c.is_void.ensures.fits;
      basis = c.is_void.ensures.basis ∙ h.basis;
      void = λ C V are. each_more b I C V c.args.rule c.args.envs.now i x c.loop-env-test.true c.env-item.is (h.void C V are)
          (void_so b I C V are c.loop-env.voids.basis h.basis c.loop-env.types h.same c.args.rule x c.in_ok-is_void.field-0 c.in_ok-is_void.ensures.ok c.if-not-branch.false);
    }

pub returns-then-not-branch-clause-ok : goal.returns-then-not-branch-clause-ok
returns-then-not-branch-clause-ok c = λ C V are.
    let I = c.args.types.now in
    let b = c.args.voids.now.basis in
    let h = c.loop-env.invariant in
    let x = c.env-item.result in
    one_not b I C V c.args.rule c.args.envs.now c.loop-env.env-index x c.loop-env-test.true c.env-item.is
    (not_void_so b I C V are c.loop-env.voids.basis h.basis c.loop-env.types h.same c.args.rule x c.in_ok-is_void.field-0 c.in_ok-is_void.ensures.ok c.if-not-branch.true)

pub returns-then-not-branch-clause-same : goal.returns-then-not-branch-clause-same
returns-then-not-branch-clause-same c = c.is_void.ensures.same ∙ c.loop-env.invariant.same

pub returns-then-not-branch-clause-basis : goal.returns-then-not-branch-clause-basis
returns-then-not-branch-clause-basis c = c.is_void.ensures.basis ∙ c.loop-env.invariant.basis

pub returns-in_err-is_void-clause-same : goal.returns-in_err-is_void-clause-same
returns-in_err-is_void-clause-same c = c.is_void.ensures.same ∙ c.loop-env.invariant.same

pub returns-in_err-is_void-clause-basis : goal.returns-in_err-is_void-clause-basis
returns-in_err-is_void-clause-basis c = c.is_void.ensures.basis ∙ c.loop-env.invariant.basis

pub returns-clause-ok : goal.returns-clause-ok
returns-clause-ok c = λ C V are. each_all c.args.voids.now.basis c.args.types.now C V c.args.rule c.args.envs.now c.loop-env.env-index c.loop-env-test.false (c.loop-env.invariant.void C V are)
