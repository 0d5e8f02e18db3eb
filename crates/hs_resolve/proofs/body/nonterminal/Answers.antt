use Rattle.std.proofs.Common.{◌≡◌, ◌∙◌, ap, sym, Some, None}
use Rattle.hs_resolve.specs.Names.{number_of}
use Rattle.hs_resolve.specs.Least.{earliest}
use Rattle.hs_resolve.proofs.Bodies.{known-at, unknown-at}
use Rattle.hs_resolve.proofs.body.nonterminal.Goals as goal

pub returns-in-Some-clause-undefined : goal.returns-in-Some-clause-undefined
returns-in-Some-clause-undefined c =
    let left = c.args.left.now in
    let is : number_of left c.args.name.now.text ≡ Some c.in-Some.number = ap (number_of left) (sym c.bytes.ensures) ∙ (sym c.number.ensures.number ∙ c.in-Some.is) in
    known-at left c.args.name.now c.args.undefined.now c.in-Some.number is

pub returns-in-None-clause-undefined : goal.returns-in-None-clause-undefined
returns-in-None-clause-undefined c =
    let left = c.args.left.now in
    let is : number_of left c.args.name.now.text ≡ None = ap (number_of left) (sym c.bytes.ensures) ∙ (sym c.number.ensures.number ∙ c.in-None.is) in
    c.earliest.ensures ∙ ap (earliest c.args.undefined.now) (sym (unknown-at left c.args.name.now is))
