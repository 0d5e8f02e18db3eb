use Rattle.std.proofs.Common.{◌≡◌, ℕ, List, get_or, Contains}
use Rattle.std.proofs.lemmas.List.Elements.{Contains-get_or}
use Rattle.hs_scheme.specs.declared.flow.FlowPair.{FlowPair}
use Rattle.hs_reads.proofs.FoundLemmas.{gains_then}
use Rattle.hs_reads.proofs.GrowLemmas.{next_more, adds_more}
use Rattle.hs_reads.proofs.reading.add_points.Goals as goal

abbrev Flows : List FlowPair → ℕ → ℕ × ℕ → Type 0
Flows row q x = (f : FlowPair) × (Contains row f × (x ≡ (f.point, q)))

pub loop-pair-preserved : goal.loop-pair-preserved
loop-pair-preserved c =
    let old = c.loop-pair.found.pairs in
    let new = c.add.new.self.pairs in
    let none : FlowPair = record { rule = 0; param = 0; point = 0 } in
    let item = get_or c.args.row.now c.loop-pair.pair-index none in
    let m = Contains-get_or c.args.row.now c.loop-pair.pair-index none c.loop-pair-test.true in
    record {
      gains = gains_then c.args.found.now c.loop-pair.found c.add.new.self c.loop-pair.invariant.gains c.in_ok-add.ensures.gains;
      there = next_more (λ (f : FlowPair). Contains new (f.point, c.args.state)) c.args.row.now c.loop-pair.pair-index (record { rule = 0; param = 0; point = 0 }) c.loop-pair-test.true
          (λ f m. c.in_ok-add.ensures.gains.kept (f.point, c.args.state) (c.loop-pair.invariant.there f m)) c.in_ok-add.ensures.there;
      only = adds_more (λ x. x ≡ (item.point, c.args.state)) (Flows c.args.row.now c.args.state) c.args.found.now.pairs old new c.loop-pair.invariant.only c.add.ensures.only (λ x e. (item, (m, e)));
    }

pub returns-in_err-add-clause-only : goal.returns-in_err-add-clause-only
returns-in_err-add-clause-only c =
    let none : FlowPair = record { rule = 0; param = 0; point = 0 } in
    let item = get_or c.args.row.now c.loop-pair.pair-index none in
    let m = Contains-get_or c.args.row.now c.loop-pair.pair-index none c.loop-pair-test.true in
    adds_more (λ x. x ≡ (item.point, c.args.state)) (Flows c.args.row.now c.args.state) c.args.found.now.pairs c.loop-pair.found.pairs c.add.new.self.pairs c.loop-pair.invariant.only c.add.ensures.only (λ x e. (item, (m, e)))
