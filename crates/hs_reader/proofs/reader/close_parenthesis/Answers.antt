use Rattle.std.proofs.Common.{refl}
use Rattle.hs_reader.proofs.Bodies.{right_on, right_off}
use Rattle.hs_reader.proofs.reader.close_parenthesis.Goals as goal

pub returns-then-not-close : goal.returns-then-not-close
returns-then-not-close c = λ rs n ps rest.
    let b = c.args.building.now in
    let d = c.close.new.self in
    right_off rs n ps b.outer d.outer b.top d.top c.close.result c.args.line _ rest refl (c.close.ensures rs n ps) c.if-not-close.true

pub returns : goal.returns
returns c = λ rs n ps rest.
    let b = c.args.building.now in
    let d = c.close.new.self in
    right_on rs n ps b.outer d.outer b.top d.top c.close.result c.args.line _ rest refl (c.close.ensures rs n ps) c.if-not-close.false
