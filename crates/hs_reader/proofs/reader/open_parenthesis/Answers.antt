use Rattle.std.proofs.Common.{◌∙◌, ap, sym, refl, arith}
use Rattle.hs_reader.specs.ReadingStages.{in_body, run}
use Rattle.hs_reader.specs.Building.{Begun}
use Rattle.hs_reader.proofs.Bodies.{left_on, left_deep, left_full, unless_memory}
use Rattle.hs_reader.proofs.reader.open_parenthesis.Goals as goal

pub returns-then-depth-eq-MAX_DEPTH : goal.returns-then-depth-eq-MAX_DEPTH
returns-then-depth-eq-MAX_DEPTH c = λ line rs n ps rest.
    let b = c.args.building.now in
    left_deep rs n ps b.outer b.top line _ rest refl (omega (arith, c.depth.ensures, c.if-depth-eq-MAX_DEPTH.true))

pub returns-then-is_full : goal.returns-then-is_full
returns-then-is_full c = λ line rs n ps rest.
    let b = c.args.building.now in
    left_full rs n ps b.outer b.top line _ rest refl (λ e. c.if-depth-eq-MAX_DEPTH.false (omega (arith, c.depth.ensures))) (sym c.is_full.ensures ∙ c.if-is_full.true)

pub returns : goal.returns
returns c = λ line rs n ps rest.
    let b = c.args.building.now in
    unless_memory c.open.result _ _ _ c.open.ensures.opened c.open.ensures.fault
    (λ made. left_on rs n ps b.outer b.top line _ rest refl (λ e. c.if-depth-eq-MAX_DEPTH.false (omega (arith, c.depth.ensures))) (sym c.is_full.ensures ∙ c.if-is_full.false)
    ∙ ap (λ (d : Begun). run (in_body rs n ps d.outer d.top) rest) (sym made))
