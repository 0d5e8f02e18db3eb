use Rattle.std.proofs.Common.{refl, sym, ◌∙◌, ap}
use Rattle.std.proofs.lemmas.Result.{IfOk-weaker}
use Rattle.hs_sorts.specs.Nodes.{IsEquation}
use Rattle.hs_sorts.proofs.Joining.{one_root, equates_roots}
use Rattle.hs_sorts.proofs.store.Store.equate.Goals as goal

pub returns-then-left-right : goal.returns-then-left-right
returns-then-left-right c = record {
  as_long = refl;
  onward = λ v r e. r;
  back = λ v r. (r, c.above-left.ensures v r ∙ (ap v c.if-left-right.true ∙ sym (c.above-right.ensures v r)));
}

pub returns-then-first-second : goal.returns-then-first-second
returns-then-first-second c =
    one_root c.args.self.now c.find-first.new.self c.find-second.new.self c.args.a c.args.b c.find-first.result.0 c.find-second.result.0 c.find-first.result.1 c.find-second.result.1 c.find-first.ensures c.find-second.ensures
    c.if-first-second.true

pub returns : goal.returns
returns c =
    IfOk-weaker c.unify.result (IsEquation c.find-first.result.0 c.find-second.result.0 c.find-second.new.self c.unify.new.self) (IsEquation c.args.a c.args.b c.args.self.now c.unify.new.self) (λ answer e.
    equates_roots c.args.self.now c.find-first.new.self c.find-second.new.self c.args.a c.args.b c.find-first.result.0 c.find-second.result.0 c.find-first.result.1 c.find-second.result.1 c.find-first.ensures c.find-second.ensures
    c.unify.new.self answer e) c.unify.ensures
