use Rattle.std.proofs.Common.{sym, subst, OnOk}
use Rattle.hs_types.specs.Interned.{InternerData}
use Rattle.hs_minimal.specs.Growing.{IsGrowing, IsGrownFrom}
use Rattle.hs_minimal.proofs.spreading.settle_with.Goals as goal

pub settle_from-requires-clause-growing : goal.settle_from-requires-clause-growing
settle_from-requires-clause-growing c = subst (λ (K : InternerData). IsGrowing K c.args.growing.now) (sym c.selected.ensures.same) c.requires.growing

pub returns-clause-grown : goal.returns-clause-grown
returns-clause-grown c =
    subst (λ (K : InternerData). OnOk c.settle_from.result (IsGrownFrom K c.settle_from.new.types c.args.growing.now c.settle_from.new.growing)) c.selected.ensures.same c.settle_from.ensures.grown
