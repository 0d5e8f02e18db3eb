use Rattle.std.proofs.Common.{refl, subst, Bool, length, arith}
use Rattle.std.proofs.lemmas.Option.{slice_get_read, slice_get_within}
use Rattle.hs_sorts.specs.Constraints.{IsClaim, IsRuled}
use Rattle.hs_sorts.proofs.Laying.{each_more, each_clash}
use Rattle.hs_sorts.proofs.Ruling.{body_wider, ruled_stable}
use Rattle.hs_sorts.proofs.solve.make_rules.Goals as goal

pub make_rule-requires-clause-body : goal.make_rule-requires-clause-body
make_rule-requires-clause-body c =
    let at = slice_get_read c.args.rules.now (length c.args.rules.now) c.loop-number.number c.index-rules-number.result refl c.loop-number-test.true c.index-rules-number.is in
    body_wider (length c.args.rules.now) (length c.args.store.now) (length c.loop-number.store) c.index-rules-number.result c.loop-number.invariant.longer (c.requires.bodies c.loop-number.number c.index-rules-number.result at)

pub loop-number-preserved : goal.loop-number-preserved
loop-number-preserved c =
    let at = slice_get_read c.args.rules.now (length c.args.rules.now) c.loop-number.number c.index-rules-number.result refl c.loop-number-test.true c.index-rules-number.is in
    each_more (IsRuled (length c.args.rules.now) c.args.count) c.args.rules.now c.args.store.now
    (λ f rule v w there same q.
    ruled_stable (length c.args.rules.now) c.args.count f (length c.args.store.now) rule v w (omega (arith, slice_get_within c.args.rules.now f rule there, c.requires.room)) (c.requires.bodies f rule there) same q)
    c.loop-number.store c.loop-number.number c.index-rules-number.result at c.loop-number.invariant c.make_rule.new.store
    (subst (λ (b : Bool). IsClaim c.loop-number.store c.make_rule.new.store (IsRuled (length c.args.rules.now) c.args.count c.loop-number.number c.index-rules-number.result) b) c.if-not-branch.false c.in_ok-make_rule.ensures)

pub returns-then-not-branch : goal.returns-then-not-branch
returns-then-not-branch c =
    let at = slice_get_read c.args.rules.now (length c.args.rules.now) c.loop-number.number c.index-rules-number.result refl c.loop-number-test.true c.index-rules-number.is in
    each_clash (IsRuled (length c.args.rules.now) c.args.count) c.args.rules.now c.args.store.now
    (λ f rule v w there same q.
    ruled_stable (length c.args.rules.now) c.args.count f (length c.args.store.now) rule v w (omega (arith, slice_get_within c.args.rules.now f rule there, c.requires.room)) (c.requires.bodies f rule there) same q)
    c.loop-number.store c.loop-number.number c.index-rules-number.result at c.loop-number.invariant (length c.args.rules.now) c.loop-number-test.true
    (subst (λ (b : Bool). IsClaim c.loop-number.store c.make_rule.new.store (IsRuled (length c.args.rules.now) c.args.count c.loop-number.number c.index-rules-number.result) b) c.if-not-branch.true c.in_ok-make_rule.ensures)
