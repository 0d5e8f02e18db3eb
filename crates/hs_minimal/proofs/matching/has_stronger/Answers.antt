use Rattle.std.proofs.Common.{◌≡◌, sym, ℕ, Contains}
use Rattle.hs_scheme.proofs.Lists.{none_in}
use Rattle.hs_weak.specs.Strength.{AsStrongAs}
use Rattle.hs_types.specs.Interned.{type_of_id}
use Rattle.hs_strength.proofs.Rows.{each_more, each_all}
use Rattle.hs_minimal.proofs.matching.has_stronger.Goals as goal

pub loop-ty-init : goal.loop-ty-init
loop-ty-init c = record { memo = c.requires.memo; only = λ s m. absurd (none_in s m) }

pub is_stronger-requires-clause-ty : goal.is_stronger-requires-clause-ty
is_stronger-requires-clause-ty c = c.requires.given c.ty-item.result (c.loop-ty.ty-index, c.loop-ty-test.true, sym c.ty-item.is)

pub loop-ty-preserved : goal.loop-ty-preserved
loop-ty-preserved c =
    let I = c.args.types.now in
    record {
      memo = c.is_stronger.ensures.memo;
      only = each_more (λ s. (t : ℕ) → Contains c.args.asked.now t → AsStrongAs (type_of_id I s) (type_of_id I t) → s ≡ t) c.args.given.now c.loop-ty.ty-index c.ty-item.result c.loop-ty-test.true c.ty-item.is c.loop-ty.invariant.only
          (c.in_ok-is_stronger.ensures.ok c.if-branch.false);
    }

pub returns-clause-ok : goal.returns-clause-ok
returns-clause-ok c = λ _ s t in_given in_asked strong.
    let I = c.args.types.now in
    each_all (λ s. (t : ℕ) → Contains c.args.asked.now t → AsStrongAs (type_of_id I s) (type_of_id I t) → s ≡ t) c.args.given.now c.loop-ty.ty-index c.loop-ty-test.false c.loop-ty.invariant.only s in_given t in_asked strong
