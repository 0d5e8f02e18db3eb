use Rattle.std.proofs.Common.{◌∙◌, ap, map, subst, All, arith}
use Rattle.std.proofs.lemmas.List.Elements.{All-map}
use Rattle.hs_table.specs.Entries.{InShape}
use Rattle.hs_types.specs.Interned.{InternerData, entry_of}
use Rattle.hs_app.proofs.evidence.are_in_shape.Goals as goal

pub returns : goal.returns
returns c = λ _.
    let problem = c.args.problem.now in
    let numbers = c.interner-numbers.result.now in
    let rows = c.rows-rows.result.now in
    let same = ap (λ (I : InternerData). map (entry_of I) rows) c.interner-numbers.ensures ∙ c.rows-rows.ensures.entries in
    subst (All (InShape problem)) same (All-map (InShape problem) (entry_of numbers) rows (λ k d lt. c.loop-row.invariant k d (omega (arith, lt, c.loop-row-test.false))))
