use Rattle.std.proofs.Common.{sym, ◌∙◌, subst, ap, ℕ, length, List, take}
use Rattle.hs_table.specs.Entries.{Env}
use Rattle.hs_types.proofs.Numbers.{Grows-refl, Grows-trans}
use Rattle.hs_choices.specs.Numbered.{AreOfLength, AreAllUnions}
use Rattle.hs_choices.proofs.Growing.{env_within, env_stays, of_grows, long_at}
use Rattle.hs_choices.proofs.Adding.{no_unions, more_unions, unions_of_all}
use Rattle.hs_choices.proofs.unions.all_unions.Goals as goal

pub add_unions-requires-clause-env : goal.add_unions-requires-clause-env
add_unions-requires-clause-env g c =
    let known = g.T.Comparing.known in
    let I = known c.args.types.now in
    let x = long_at c.requires.same.0 I c.args.kept.now c.loop-env.env-index c.env-item.result c.loop-env-test.true c.env-item.is c.requires.same.1.0 in
    env_within I (known c.loop-env.types) c.loop-env.invariant.grows c.env-item.result x.0

pub add_unions-requires-clause-kept : goal.add_unions-requires-clause-kept
add_unions-requires-clause-kept g c =
    let known = g.T.Comparing.known in
    let I = known c.args.types.now in
    let J = known c.loop-env.types in
    let n = c.requires.same.0 in
    let x = long_at n I c.args.kept.now c.loop-env.env-index c.env-item.result c.loop-env-test.true c.env-item.is c.requires.same.1.0 in
    let long = ap length (env_stays I J c.loop-env.invariant.grows c.env-item.result x.0) ∙ x.1 in
    subst (λ m. AreOfLength m J c.loop-env.unions.items) (sym long) (c.loop-env.invariant.unions n c.requires.same.1.0 c.requires.same.1.1).range

pub add_unions-requires-clause-slot : goal.add_unions-requires-clause-slot
add_unions-requires-clause-slot g c =
    let known = g.T.Comparing.known in
    let I = known c.args.types.now in
    let J = known c.loop-env.types in
    let n = c.requires.same.0 in
    let x = long_at n I c.args.kept.now c.loop-env.env-index c.env-item.result c.loop-env-test.true c.env-item.is c.requires.same.1.0 in
    let long = ap length (env_stays I J c.loop-env.invariant.grows c.env-item.result x.0) ∙ x.1 in
    subst (λ m. AreOfLength m J c.args.slot.now) (sym long) (of_grows I J c.loop-env.invariant.grows n c.args.slot.now c.requires.same.1.1)

pub loop-env-init : goal.loop-env-init
loop-env-init g c =
    let I = g.T.Comparing.known c.args.types.now in
    let P = g.D.Dropping.dropped c.args.dropping.now I c.args.rule in
    record {
      grows = Grows-refl I;
      fits = c.requires.fits;
      stays = g.met.D.Dropping.stays_at_first c.args.dropping.now;
      unions = λ n k s. subst (λ (z : List ℕ). AreAllUnions P n I I (take 0 c.args.kept.now) c.args.slot.now z) (sym c.new-unions.ensures.items) (no_unions P n I c.args.kept.now c.args.slot.now);
    }

pub loop-env-preserved : goal.loop-env-preserved
loop-env-preserved g c =
    let known = g.T.Comparing.known in
    let dropped = g.D.Dropping.dropped in
    let I = known c.args.types.now in
    let J = known c.loop-env.types in
    let K = known c.add_unions.new.types in
    let h = c.loop-env.invariant in
    let to = λ (U : Env) (q : dropped c.loop-env.dropping J c.args.rule U). g.met.D.Dropping.dropped_before c.args.dropping.now c.loop-env.dropping I J c.args.rule U h.stays h.grows q in
    record {
      grows = Grows-trans I J K h.grows c.add_unions.ensures.grows;
      fits = c.add_unions.ensures.fits;
      stays = g.met.D.Dropping.stays_on c.args.dropping.now c.loop-env.dropping c.add_unions.new.dropping h.stays c.add_unions.ensures.stays;
      unions = λ n k s. more_unions (dropped c.args.dropping.now I c.args.rule) (dropped c.loop-env.dropping J c.args.rule) to n I J K h.grows c.args.kept.now c.args.slot.now k s c.loop-env.env-index c.env-item.result c.loop-env-test.true c.env-item.is
          (long_at n I c.args.kept.now c.loop-env.env-index c.env-item.result c.loop-env-test.true c.env-item.is k) c.loop-env.unions.items (h.unions n k s) c.add_unions.new.kept.items c.in_ok-add_unions.ensures.added;
    }

pub returns-in_err-add_unions-clause-grows : goal.returns-in_err-add_unions-clause-grows
returns-in_err-add_unions-clause-grows g c =
    let known = g.T.Comparing.known in
    Grows-trans (known c.args.types.now) (known c.loop-env.types) (known c.add_unions.new.types) c.loop-env.invariant.grows c.add_unions.ensures.grows

pub returns-in_err-add_unions-clause-stays : goal.returns-in_err-add_unions-clause-stays
returns-in_err-add_unions-clause-stays g c = g.met.D.Dropping.stays_on c.args.dropping.now c.loop-env.dropping c.add_unions.new.dropping c.loop-env.invariant.stays c.add_unions.ensures.stays

pub returns-clause-unions : goal.returns-clause-unions
returns-clause-unions g c =
    let I = g.T.Comparing.known c.args.types.now in
    λ n k s. unions_of_all (g.D.Dropping.dropped c.args.dropping.now I c.args.rule) n I (g.T.Comparing.known c.loop-env.types) c.args.kept.now c.args.slot.now c.loop-env.env-index c.loop-env-test.false c.loop-env.unions.items (c.loop-env.invariant.unions n k s)
