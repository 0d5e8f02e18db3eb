use Rattle.std.proofs.lemmas.Result.{IfOk-weaker}
use Rattle.hs_sorts.specs.Nodes.{IsEquation}
use Rattle.hs_sorts.specs.Constraints.{IsClaim, IsBaseSort}
use Rattle.hs_sorts.proofs.Claiming.{is_based}
use Rattle.hs_sorts.proofs.constraints.make_base.Goals as goal

pub returns : goal.returns
returns c =
    IfOk-weaker c.equate.result (IsEquation c.args.node c.in_ok-base.base c.add.new.self c.equate.new.self) (IsClaim c.args.store.now c.equate.new.self (IsBaseSort c.args.node)) (λ answer e.
    is_based c.args.store.now c.args.node c.in_ok-base.ensures.before c.in_ok-base.ensures.few c.requires c.add.new.self c.equate.new.self c.in_ok-base.base answer
    c.in_ok-base.ensures.added.0 c.in_ok-base.ensures.added.1 e) c.equate.ensures
