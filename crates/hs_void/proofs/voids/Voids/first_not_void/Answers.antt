use Rattle.std.proofs.Common.{sym, ◌∙◌, ap, subst, ◌<◌, List, length, map, All}
use Rattle.hs_types.proofs.Numbers.{Grows-trans}
use Rattle.hs_numbered.specs.Certificates.{VoidRowData, void_of}
use Rattle.hs_void.proofs.Firsts.{before_more, first_at, none_left, has_so, has_not_so}
use Rattle.hs_void.proofs.voids.Voids.first_not_void.Goals as goal

pub loop-place-preserved : goal.loop-place-preserved
loop-place-preserved c =
    let I = c.args.types.now in
    let J = c.loop-place.types in
    let b = c.args.self.now.basis in
    let h = c.loop-place.invariant in
    let i = c.loop-place.place in
    let void = c.void-pairs.result.now in
    let x = c.index-pairs-place.result in
    let envs = subst (λ (vs : List VoidRowData). All (λ (v : VoidRowData). v.env < length I.envs) vs) (sym c.void-pairs.ensures) c.requires.rows.envs in
    let env : x.env < length I.envs = subst (λ (v : VoidRowData). v.env < length I.envs) (sym c.index-pairs-place.is) (envs i x c.loop-place-test.true) in
    record {
      grows = Grows-trans I J c.has_blocked.new.types h.grows c.has_blocked.ensures.grows;
      fits = c.has_blocked.ensures.fits;
      basis = c.has_blocked.ensures.basis ∙ h.basis;
      before = λ C V are. before_more b.problem C V I void (ap (map (void_of I)) c.void-pairs.ensures ∙ are.pairs) i x c.loop-place-test.true c.index-pairs-place.is (h.before C V are)
          (has_so b I C V are c.loop-place.self.basis h.basis J h.grows x env c.in_ok-has_blocked.field-0 c.in_ok-has_blocked.ensures.ok c.if-not-branch.false);
    }

pub returns-then-not-branch-clause-first : goal.returns-then-not-branch-clause-first
returns-then-not-branch-clause-first c = λ C V are.
    let I = c.args.types.now in
    let J = c.loop-place.types in
    let b = c.args.self.now.basis in
    let h = c.loop-place.invariant in
    let i = c.loop-place.place in
    let void = c.void-pairs.result.now in
    let x = c.index-pairs-place.result in
    let envs = subst (λ (vs : List VoidRowData). All (λ (v : VoidRowData). v.env < length I.envs) vs) (sym c.void-pairs.ensures) c.requires.rows.envs in
    let env : x.env < length I.envs = subst (λ (v : VoidRowData). v.env < length I.envs) (sym c.index-pairs-place.is) (envs i x c.loop-place-test.true) in
    first_at b.problem C V I void (ap (map (void_of I)) c.void-pairs.ensures ∙ are.pairs) i x c.loop-place-test.true c.index-pairs-place.is (h.before C V are)
    (has_not_so b I C V are c.loop-place.self.basis h.basis J h.grows x env c.in_ok-has_blocked.field-0 c.in_ok-has_blocked.ensures.ok c.if-not-branch.true)

pub returns-clause-first : goal.returns-clause-first
returns-clause-first c = λ C V are v m.
    none_left c.args.self.now.basis.problem C V c.args.types.now c.void-pairs.result.now (ap (map (void_of c.args.types.now)) c.void-pairs.ensures ∙ are.pairs) c.loop-place.place c.loop-place-test.false (c.loop-place.invariant.before C V are) v m
