use Rattle.std.proofs.Common.{◌≡◌, sym, ◌∙◌, subst, ℕ, suc, ◌-◌, ◌<◌, length, List, [], ◌∷◌, drop, arith}
use Rattle.hs_table.specs.Entries.{Env}
use Rattle.hs_types.specs.Interned.{env_of_id}
use Rattle.hs_types.proofs.Numbers.{Grows-refl, Grows-trans}
use Rattle.hs_choices.specs.Unions.{AreLeastUnions}
use Rattle.hs_choices.specs.Numbered.{envs_of, slot_envs, AreOfLength}
use Rattle.hs_choices.proofs.Growing.{of_grows}
use Rattle.hs_choices.proofs.Adding.{pushed_first, first_long, first_ascends, first_least, least_next, unions_ascend, slot_long}
use Rattle.hs_choices.proofs.unions.least_unions.Goals as goal

pub loop-left-init : goal.loop-left-init
loop-left-init g c =
    let I = g.T.Comparing.known c.args.types.now in
    let items : c.push.new.self.items ≡ c.args.first ∷ [] = pushed_first c.new-kept.result.items c.push.new.self.items c.args.first c.new-kept.ensures.items c.in_ok-push.ensures.items in
    record {
      within = omega arith;
      grows = Grows-refl I;
      fits = c.requires.fits;
      stays = g.met.D.Dropping.stays_at_first c.args.dropping.now;
      range = first_long I c.args.first c.requires.first c.push.new.self.items items;
      ascend = first_ascends I c.args.first c.sets_ascend.ensures c.push.new.self.items items;
      least = first_least (g.D.Dropping.dropped c.args.dropping.now I c.args.rule) I c.args.first c.args.slots.now c.push.new.self.items items;
    }

pub all_unions-requires-clause-same : goal.all_unions-requires-clause-same
all_unions-requires-clause-same g c =
    let I = g.T.Comparing.known c.args.types.now in
    let J = g.T.Comparing.known c.loop-left.types in
    let n = length (env_of_id I c.args.first) in
    let k = c.loop-left.left - 1 in
    let lt : k < length c.args.slots.now = omega (arith, c.loop-left.invariant.within, c.loop-left-test.true) in
    let slice_is = c.as_slice-in-loop-left.ensures.value ∙ c.slot.view_is in
    let slot = slot_long n I c.args.slots.now c.requires.slots k lt c.index-slots-left.result c.index-slots-left.is in (
      n,
      (
        subst (λ (z : List ℕ). AreOfLength n J z) (sym c.as_slice.ensures.value) c.loop-left.invariant.range,
        of_grows I J c.loop-left.invariant.grows n c.as_slice-in-loop-left.result.now (subst (λ (z : List ℕ). AreOfLength n I z) (sym slice_is) slot),
      ),
    )

pub loop-left-preserved : goal.loop-left-preserved
loop-left-preserved g c =
    let I = g.T.Comparing.known c.args.types.now in
    let J = g.T.Comparing.known c.loop-left.types in
    let K = g.T.Comparing.known c.all_unions.new.types in
    let h = c.loop-left.invariant in
    let P = g.D.Dropping.dropped c.args.dropping.now I c.args.rule in
    let Q = g.D.Dropping.dropped c.loop-left.dropping J c.args.rule in
    let to = λ (U : Env) (q : Q U). g.met.D.Dropping.dropped_before c.args.dropping.now c.loop-left.dropping I J c.args.rule U h.stays h.grows q in
    let A = env_of_id I c.args.first in
    let n = length A in
    let k = c.loop-left.left - 1 in
    let lt : k < length c.args.slots.now = omega (arith, h.within, c.loop-left-test.true) in
    let next : c.loop-left.left ≡ suc k = omega (arith, c.loop-left-test.true) in
    let slice = c.as_slice-in-loop-left.result.now in
    let slice_is : slice ≡ c.index-slots-left.result = c.as_slice-in-loop-left.ensures.value ∙ c.slot.view_is in
    let kept = c.as_slice.result.now in
    let slot = slot_long n I c.args.slots.now c.requires.slots k lt c.index-slots-left.result c.index-slots-left.is in
    let kept_long : AreOfLength n J kept = subst (λ (z : List ℕ). AreOfLength n J z) (sym c.as_slice.ensures.value) h.range in
    let slice_long : AreOfLength n J slice = of_grows I J h.grows n slice (subst (λ (z : List ℕ). AreOfLength n I z) (sym slice_is) slot) in
    let are = c.in_ok-kept.ensures.unions n kept_long slice_long in
    let were : AreLeastUnions n P A (slot_envs I (drop c.loop-left.left c.args.slots.now)) (envs_of J kept) =
    subst (λ (z : List ℕ). AreLeastUnions n P A (slot_envs I (drop c.loop-left.left c.args.slots.now)) (envs_of J z)) (sym c.as_slice.ensures.value) h.least in
    record {
      within = omega (arith, lt);
      grows = Grows-trans I J K h.grows c.all_unions.ensures.grows;
      fits = c.all_unions.ensures.fits;
      stays = g.met.D.Dropping.stays_on c.args.dropping.now c.loop-left.dropping c.all_unions.new.dropping h.stays c.all_unions.ensures.stays;
      range = are.range;
      ascend = unions_ascend Q n J K kept slice c.in_ok-kept.kept.items are;
      least = least_next P Q to n I J K h.grows A c.args.slots.now c.requires.slots c.loop-left.left k next lt c.index-slots-left.result slice c.index-slots-left.is slice_is kept were c.in_ok-kept.kept.items are;
    }

pub returns-in_err-kept-clause-grows : goal.returns-in_err-kept-clause-grows
returns-in_err-kept-clause-grows g c =
    let known = g.T.Comparing.known in
    Grows-trans (known c.args.types.now) (known c.loop-left.types) (known c.all_unions.new.types) c.loop-left.invariant.grows c.all_unions.ensures.grows

pub returns-in_err-kept-clause-stays : goal.returns-in_err-kept-clause-stays
returns-in_err-kept-clause-stays g c = g.met.D.Dropping.stays_on c.args.dropping.now c.loop-left.dropping c.all_unions.new.dropping c.loop-left.invariant.stays c.all_unions.ensures.stays

pub returns-clause-least : goal.returns-clause-least
returns-clause-least g c =
    let I = g.T.Comparing.known c.args.types.now in
    let J = g.T.Comparing.known c.loop-left.types in
    let A = env_of_id I c.args.first in
    let none : c.loop-left.left ≡ 0 = omega (arith, c.loop-left-test.false) in
    subst (λ m. AreLeastUnions (length A) (g.D.Dropping.dropped c.args.dropping.now I c.args.rule) A (slot_envs I (drop m c.args.slots.now)) (envs_of J c.loop-left.kept.items)) none c.loop-left.invariant.least
