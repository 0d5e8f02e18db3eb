use Rattle.std.proofs.Common.{◌∙◌, ap, ◌++◌}
use Rattle.std.specs.List.{flat_map}
use Rattle.std.proofs.lemmas.List.{take_all}
use Rattle.hs_table_plain.specs.Enumeration as plain
use Rattle.hs_table_plain.proofs.Members.{flat_map_behind}
use Rattle.hs_table_plain.proofs.choices.extend.Goals as goal

pub loop-candidate-preserved : goal.loop-candidate-preserved
loop-candidate-preserved c =
    let f = plain.extended c.args.arg c.args.ty.now c.args.entry.now in
    let x = c.candidate-item.result in
    let more = flat_map_behind f c.args.log.now c.loop-candidate.candidate-index x c.args.out.now.items c.loop-candidate-test.true c.candidate-item.is in
    c.in_ok-extend_by.ensures ∙ (ap (λ es. es ++ f x) c.loop-candidate.invariant ∙ more)

pub returns : goal.returns
returns c =
    let f = plain.extended c.args.arg c.args.ty.now c.args.entry.now in
    c.loop-candidate.invariant ∙ ap (λ xs. c.args.out.now.items ++ flat_map f xs) (take_all c.loop-candidate.candidate-index c.args.log.now c.loop-candidate-test.false)
