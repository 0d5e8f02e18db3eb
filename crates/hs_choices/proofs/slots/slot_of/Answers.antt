use Rattle.std.proofs.Common.{refl, sym, ◌∙◌, subst, ℕ, ◌<◌, List, length, take}
use Rattle.hs_types.specs.Interned.{InternerData, type_of_id}
use Rattle.hs_choices.specs.Numbered.{AreOfStrong}
use Rattle.hs_choices.proofs.Choosing.{none_strong, not_strong, one_strong, row_within, strong_so, not_strong_so, all_strong}
use Rattle.hs_choices.proofs.slots.slot_of.Goals as goal

pub is_as_strong-requires-clause-ty : goal.is_as_strong-requires-clause-ty
is_as_strong-requires-clause-ty g c =
    row_within (g.T.Comparing.known c.args.types.now) (g.T.Comparing.known c.loop-row.types) c.loop-row.invariant.same c.args.rows.now c.loop-row.row-index c.row-item.result c.loop-row-test.true c.row-item.is c.requires.rows

pub is_as_strong-requires-clause-other : goal.is_as_strong-requires-clause-other
is_as_strong-requires-clause-other g c = subst (λ (I : InternerData). c.args.ty < length I.types) (sym c.loop-row.invariant.same) c.requires.ty

pub loop-row-init : goal.loop-row-init
loop-row-init g c = record { same = refl; strong = subst (λ (z : List ℕ). AreOfStrong (g.T.Comparing.known c.args.types.now) (take 0 c.args.rows.now) (type_of_id (g.T.Comparing.known c.args.types.now) c.args.ty) z) (sym c.new-envs.ensures.items) (none_strong (g.T.Comparing.known c.args.types.now) c.args.rows.now (type_of_id (g.T.Comparing.known c.args.types.now) c.args.ty)) }

pub loop-row-preserved-then-not-branch : goal.loop-row-preserved-then-not-branch
loop-row-preserved-then-not-branch g c =
    let I = g.T.Comparing.known c.args.types.now in
    record {
      same = c.is_as_strong.ensures.same ∙ c.loop-row.invariant.same;
      strong = not_strong I c.args.rows.now (type_of_id I c.args.ty) c.loop-row.row-index c.row-item.result c.loop-row-test.true c.row-item.is c.loop-row.envs.items c.loop-row.invariant.strong
          (not_strong_so I (g.T.Comparing.known c.loop-row.types) c.loop-row.invariant.same c.row-item.result.ty c.args.ty c.in_ok-is_as_strong.field-0 c.if-not-branch.true c.in_ok-is_as_strong.ensures.ok);
    }

pub loop-row-preserved : goal.loop-row-preserved
loop-row-preserved g c =
    let I = g.T.Comparing.known c.args.types.now in
    record {
      same = c.is_as_strong.ensures.same ∙ c.loop-row.invariant.same;
      strong = one_strong I c.args.rows.now (type_of_id I c.args.ty) c.loop-row.row-index c.row-item.result c.loop-row-test.true c.row-item.is c.loop-row.envs.items c.loop-row.invariant.strong
          (strong_so I (g.T.Comparing.known c.loop-row.types) c.loop-row.invariant.same c.row-item.result.ty c.args.ty c.in_ok-is_as_strong.field-0 c.if-not-branch.false c.in_ok-is_as_strong.ensures.ok)
          c.push.new.self.items c.in_ok-push.ensures.items;
    }

pub returns-in_err-is_as_strong-clause-same : goal.returns-in_err-is_as_strong-clause-same
returns-in_err-is_as_strong-clause-same g c = c.is_as_strong.ensures.same ∙ c.loop-row.invariant.same

pub returns-in_err-push-clause-same : goal.returns-in_err-push-clause-same
returns-in_err-push-clause-same g c = c.is_as_strong.ensures.same ∙ c.loop-row.invariant.same

pub returns-clause-slot : goal.returns-clause-slot
returns-clause-slot g c = all_strong (g.T.Comparing.known c.args.types.now) c.args.rows.now (type_of_id (g.T.Comparing.known c.args.types.now) c.args.ty) c.loop-row.row-index c.loop-row-test.false c.loop-row.envs.items c.loop-row.invariant.strong
