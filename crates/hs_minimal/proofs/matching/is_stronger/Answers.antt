use Rattle.std.proofs.Common.{◌≡◌, sym, ◌∙◌}
use Rattle.std.proofs.lemmas.Bool.{eqb-true}
use Rattle.hs_scheme.proofs.Lists.{none_in}
use Rattle.hs_weak.specs.Strength.{AsStrongAs}
use Rattle.hs_types.specs.Interned.{type_of_id}
use Rattle.hs_strength.proofs.Rows.{each_more, each_all}
use Rattle.hs_minimal.proofs.CoverLemmas.{not_so}
use Rattle.hs_minimal.proofs.matching.is_stronger.Goals as goal

pub loop-other-init : goal.loop-other-init
loop-other-init c = record { memo = c.requires.memo; only = λ t m. absurd (none_in t m) }

pub is_as_strong-requires-clause-other : goal.is_as_strong-requires-clause-other
is_as_strong-requires-clause-other c = c.requires.others c.other-item.result (c.loop-other.other-index, c.loop-other-test.true, sym c.other-item.is)

pub loop-other-preserved-then-eq : goal.loop-other-preserved-then-eq
loop-other-preserved-then-eq c =
    let I = c.args.types.now in
    record {
      memo = c.loop-other.invariant.memo;
      only = each_more (λ t. AsStrongAs (type_of_id I c.args.ty) (type_of_id I t) → c.args.ty ≡ t) c.args.others.now c.loop-other.other-index c.other-item.result c.loop-other-test.true c.other-item.is c.loop-other.invariant.only
          (λ strong. sym (eqb-true c.other-item.result c.args.ty (sym c.eq.ensures ∙ c.if-eq.true)));
    }

pub loop-other-preserved : goal.loop-other-preserved
loop-other-preserved c =
    let I = c.args.types.now in
    record {
      memo = c.is_as_strong.ensures.memo;
      only = each_more (λ t. AsStrongAs (type_of_id I c.args.ty) (type_of_id I t) → c.args.ty ≡ t) c.args.others.now c.loop-other.other-index c.other-item.result c.loop-other-test.true c.other-item.is c.loop-other.invariant.only
          (λ strong. absurd (not_so c.in_ok-is_as_strong.field-0 _ c.if-branch.false c.in_ok-is_as_strong.ensures.ok strong));
    }

pub returns-clause-ok : goal.returns-clause-ok
returns-clause-ok c = λ _.
    let I = c.args.types.now in
    each_all (λ t. AsStrongAs (type_of_id I c.args.ty) (type_of_id I t) → c.args.ty ≡ t) c.args.others.now c.loop-other.other-index c.loop-other-test.false c.loop-other.invariant.only
