use Rattle.std.proofs.Common.{sym, ◌∙◌, ap, length, Some, arith}
use Rattle.std.specs.Prelude.{unwrap_or}
use Rattle.std.proofs.lemmas.List.{length-map}
use Rattle.hs_sorts.specs.Measures.{measure_in}
use Rattle.hs_sorts.proofs.Measuring.{measure_at}
use Rattle.hs_sorts.proofs.measures.Measures.at.Goals as goal

pub index-requires : goal.index-requires
index-requires c = omega (arith, c.requires, c.self.inside.marks.ok.0, ap length c.self.view_is, length-map c.self.inside.marks.items measure_in)

pub returns : goal.returns
returns c =
    measure_at c.self.inside.marks.items c.args.self.now c.args.node c.index.result.now c.measure.result c.self.view_is c.requires c.index.ensures c.measure.ensures
    ∙ ap (λ w. Some w) (sym (c.unwrap_or.ensures ∙ ap (unwrap_or c.measure.result) c.unmeasured.ensures))
