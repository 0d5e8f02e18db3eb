use Rattle.std.proofs.Common.{subst, arith}
use Rattle.hs_sorts.specs.Nodes.{IsRootOf, IsEquation}
use Rattle.hs_sorts.proofs.Applying.{known_applied, known_not_applied, open_given, base_not_applied}
use Rattle.hs_sorts.proofs.constraints.apply.Goals as goal

pub returns-then-not-branch : goal.returns-then-not-branch
returns-then-not-branch c =
    known_not_applied c.args.store.now c.find-root.new.self c.args.function c.args.argument c.find-root.result.0 c.in-Arrow.expected c.in-Arrow.rest
    (subst (IsRootOf c.args.store.now c.find-root.new.self c.args.function c.find-root.result.0) c.in-Arrow.is c.find-root.ensures)
    (subst (IsEquation c.in-Arrow.expected c.args.argument c.find-root.new.self c.equate.new.self) c.if-not-branch.true c.in_ok-equate-in-Arrow.ensures)

pub returns-else-not-branch : goal.returns-else-not-branch
returns-else-not-branch c =
    known_applied c.args.store.now c.find-root.new.self c.args.function c.args.argument c.find-root.result.0 c.in-Arrow.expected c.in-Arrow.rest
    (subst (IsRootOf c.args.store.now c.find-root.new.self c.args.function c.find-root.result.0) c.in-Arrow.is c.find-root.ensures)
    c.equate.new.self
    (subst (IsEquation c.in-Arrow.expected c.args.argument c.find-root.new.self c.equate.new.self) c.if-not-branch.false c.in_ok-equate-in-Arrow.ensures)
    c.requires.few

pub returns-in_ok-rest-in-Open : goal.returns-in_ok-rest-in-Open
returns-in_ok-rest-in-Open c =
    open_given c.args.store.now c.find-root.new.self c.make_arrow.new.self c.args.function c.args.argument c.find-root.result.0 c.in_ok-rest-in-Open.rest
    (subst (IsRootOf c.args.store.now c.find-root.new.self c.args.function c.find-root.result.0) c.in-Open.is c.find-root.ensures)
    c.in_ok-rest-in-Open.ensures.before (omega (arith, c.requires.argument, c.find-root.ensures.same.as_long)) c.in_ok-rest-in-Open.ensures.few c.in_ok-rest-in-Open.ensures.arrow.0 c.in_ok-rest-in-Open.ensures.arrow.1

pub returns-in-Base : goal.returns-in-Base
returns-in-Base c =
    base_not_applied c.args.store.now c.find-root.new.self c.args.function c.args.argument c.find-root.result.0
    (subst (IsRootOf c.args.store.now c.find-root.new.self c.args.function c.find-root.result.0) c.in-Base.is c.find-root.ensures)
