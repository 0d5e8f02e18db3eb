use Rattle.std.proofs.Common.{◌≡◌, ◌++◌, sym, ◌∙◌, ap, length, take, drop, arith}
use Rattle.std.specs.Prelude.{◌||◌}
use Rattle.std.proofs.lemmas.List.{length-take-le}
use Rattle.hs_scheme.specs.declared.term.Rule.{Rule}
use Rattle.hs_scheme.specs.sorting.Parameters.{parameter_of}
use Rattle.hs_passes.specs.Needing.{live, kept}
use Rattle.hs_passes.specs.Selection.{stays}
use Rattle.hs_passes.proofs.Chaining.{written_back}
use Rattle.hs_passes.proofs.Marks.{of_some-more}
use Rattle.hs_passes.proofs.needing.needed.Goals as goal

pub loop-i-preserved : goal.loop-i-preserved
loop-i-preserved c =
    let counts = c.args.parameters.now in
    let keep = kept counts c.args.flags.now in
    let rules = c.args.rules.now in
    let i = c.loop-i.i in
    let marks = c.loop-i.marks in
    let new = c.mark_term.new.needed in
    let items : take marks.len (new ++ drop (length new) marks.items) ≡ new = written_back marks.len new marks.items marks.ok.0 (c.mark_term.auto.needed ∙ ap length c.as_mut_slice.ensures.value) in
    record {
      long = c.loop-i.invariant.long;
      is = λ f j q.
          let n = parameter_of counts f j in
          ap (λ ms. stays ms n) items
          ∙ (c.mark_term.ensures f j q
          ∙ ((λ k. (ap (λ ms. stays ms n) c.as_mut_slice.ensures.value ∙ c.loop-i.invariant.is f j q) k || live keep i f j (c.index-rules-i.is k).body)
          ∙ sym (of_some-more (λ g (r : Rule). live keep g f j r.body) rules i c.index-rules-i.result c.loop-i-test.true (length-take-le i rules (omega (arith, c.loop-i-test.true))))));
    }
