use Rattle.std.proofs.Common.{sym, ◌∙◌, subst, ap, ◌+◌, length, take}
use Rattle.hs_table.specs.Entries.{Env}
use Rattle.hs_types.specs.Interned.{InternerData, env_of_id, Grows}
use Rattle.hs_types.proofs.Numbers.{Grows-refl, Grows-trans}
use Rattle.hs_choices.specs.Numbered.{IsAdded}
use Rattle.hs_choices.proofs.Growing.{in_of, env_within, env_stays, of_grows, long_at}
use Rattle.hs_choices.proofs.Adding.{none_added, one_added, added_all}
use Rattle.hs_choices.proofs.unions.add_unions.Goals as goal

pub union-requires-clause-env : goal.union-requires-clause-env
union-requires-clause-env g c =
    let known = g.T.Comparing.known in
    env_within (known c.args.types.now) (known c.loop-other.types) c.loop-other.invariant.grows c.args.env c.requires.env

pub union-requires-clause-other : goal.union-requires-clause-other
union-requires-clause-other g c =
    let known = g.T.Comparing.known in
    let I = known c.args.types.now in
    let x = long_at (length (env_of_id I c.args.env)) I c.args.slot.now c.loop-other.other-index c.other-item.result c.loop-other-test.true c.other-item.is c.requires.slot in
    env_within I (known c.loop-other.types) c.loop-other.invariant.grows c.other-item.result x.0

pub union-requires-clause-long : goal.union-requires-clause-long
union-requires-clause-long g c =
    let known = g.T.Comparing.known in
    let I = known c.args.types.now in
    let J = known c.loop-other.types in
    let x = long_at (length (env_of_id I c.args.env)) I c.args.slot.now c.loop-other.other-index c.other-item.result c.loop-other-test.true c.other-item.is c.requires.slot in
    ap length (env_stays I J c.loop-other.invariant.grows c.args.env c.requires.env) ∙ sym (ap length (env_stays I J c.loop-other.invariant.grows c.other-item.result x.0) ∙ x.1)

pub add-requires-clause-env : goal.add-requires-clause-env
add-requires-clause-env g c = c.in_ok-union.ensures.ok.0

pub add-requires-clause-fits : goal.add-requires-clause-fits
add-requires-clause-fits g c =
    let known = g.T.Comparing.known in
    g.met.D.Dropping.fits_grown c.loop-other.dropping (known c.loop-other.types) (known c.union.new.self) c.union.ensures.grows c.loop-other.invariant.fits

pub add-requires-clause-kept : goal.add-requires-clause-kept
add-requires-clause-kept g c =
    let known = g.T.Comparing.known in
    let n = length (env_of_id (known c.args.types.now) c.args.env) in
    in_of n (known c.union.new.self) c.loop-other.kept.items (of_grows (known c.loop-other.types) (known c.union.new.self) c.union.ensures.grows n c.loop-other.kept.items c.loop-other.invariant.added.range)

pub loop-other-init : goal.loop-other-init
loop-other-init g c =
    let I = g.T.Comparing.known c.args.types.now in
    record {
      grows = Grows-refl I;
      fits = c.requires.fits;
      stays = g.met.D.Dropping.stays_at_first c.args.dropping.now;
      added = none_added (g.D.Dropping.dropped c.args.dropping.now I c.args.rule) I c.args.kept.now.items c.args.env c.args.slot.now c.requires.kept;
    }

pub loop-other-preserved : goal.loop-other-preserved
loop-other-preserved g c =
    let known = g.T.Comparing.known in
    let dropped = g.D.Dropping.dropped in
    let I = known c.args.types.now in
    let J = known c.loop-other.types in
    let K = known c.union.new.self in
    let h = c.loop-other.invariant in
    let d = c.loop-other.dropping in
    let P = dropped c.args.dropping.now I c.args.rule in
    let more_grown = Grows-trans I J K h.grows c.union.ensures.grows in
    let to = λ (U : Env) (q : dropped d K c.args.rule U). g.met.D.Dropping.dropped_before c.args.dropping.now d I K c.args.rule U h.stays more_grown q in
    let x = long_at (length (env_of_id I c.args.env)) I c.args.slot.now c.loop-other.other-index c.other-item.result c.loop-other-test.true c.other-item.is c.requires.slot in
    let more = one_added P (dropped d K c.args.rule) to I J K h.grows c.union.ensures.grows c.args.kept.now.items c.args.env c.args.slot.now c.loop-other.other-index c.other-item.result c.loop-other-test.true c.other-item.is
    c.requires.env x.0 c.loop-other.kept.items h.added c.in_ok-union.union c.in_ok-union.ensures.ok c.add.new.kept.items c.in_ok-add.ensures.come c.in_ok-add.ensures.least in
    record {
      grows = subst (λ (z : InternerData). Grows I z) (sym c.add.ensures.same) more_grown;
      fits = c.add.ensures.fits;
      stays = g.met.D.Dropping.stays_on c.args.dropping.now d c.add.new.dropping h.stays c.add.ensures.stays;
      added = subst (λ (z : InternerData). IsAdded P I z c.args.kept.now.items c.args.env (take (c.loop-other.other-index + 1) c.args.slot.now) c.add.new.kept.items) (sym c.add.ensures.same) more;
    }

pub returns-in_err-union-clause-grows : goal.returns-in_err-union-clause-grows
returns-in_err-union-clause-grows g c =
    let known = g.T.Comparing.known in
    Grows-trans (known c.args.types.now) (known c.loop-other.types) (known c.union.new.self) c.loop-other.invariant.grows c.union.ensures.grows

pub returns-in_err-union-clause-fits : goal.returns-in_err-union-clause-fits
returns-in_err-union-clause-fits g c =
    let known = g.T.Comparing.known in
    g.met.D.Dropping.fits_grown c.loop-other.dropping (known c.loop-other.types) (known c.union.new.self) c.union.ensures.grows c.loop-other.invariant.fits

pub returns-in_err-add-clause-grows : goal.returns-in_err-add-clause-grows
returns-in_err-add-clause-grows g c =
    let known = g.T.Comparing.known in
    let I = known c.args.types.now in
    subst (λ (z : InternerData). Grows I z) (sym c.add.ensures.same) (Grows-trans I (known c.loop-other.types) (known c.union.new.self) c.loop-other.invariant.grows c.union.ensures.grows)

pub returns-in_err-add-clause-stays : goal.returns-in_err-add-clause-stays
returns-in_err-add-clause-stays g c = g.met.D.Dropping.stays_on c.args.dropping.now c.loop-other.dropping c.add.new.dropping c.loop-other.invariant.stays c.add.ensures.stays

pub returns-clause-added : goal.returns-clause-added
returns-clause-added g c =
    let known = g.T.Comparing.known in
    let I = known c.args.types.now in
    added_all (g.D.Dropping.dropped c.args.dropping.now I c.args.rule) I (known c.loop-other.types) c.args.kept.now.items c.args.env c.args.slot.now c.loop-other.other-index c.loop-other-test.false c.loop-other.kept.items c.loop-other.invariant.added
