use Rattle.std.proofs.Common.{sym, ◌∙◌, ap, subst, List, map, Contains}
use Rattle.std.proofs.lemmas.List.{take_all}
use Rattle.std.proofs.lemmas.Bool.{true≢false}
use Rattle.hs_replica.proofs.KeptLemmas.{row_same}
use Rattle.hs_rules.specs.Conclusions.{DeducedData}
use Rattle.hs_rules.proofs.FoundLemmas.{found_at, row_nowhere}
use Rattle.hs_rules.proofs.found.position.Goals as goal

pub returns-then-eq : goal.returns-then-eq
returns-then-eq c =
    let same = (row_same c.deduced.inside.row c.args.row.now).0 (sym c.eq.ensures ∙ c.if-eq.true) in
    found_at c.args.list.now c.loop-place.place c.index-list-place.result c.args.row.now c.loop-place-test.true c.index-list-place.is (sym (ap (λ (d : DeducedData). d.row) c.deduced.view_is) ∙ same)

pub loop-place-preserved : goal.loop-place-preserved
loop-place-preserved c =
    row_nowhere c.args.list.now c.loop-place.place c.index-list-place.result c.args.row.now c.loop-place-test.true c.index-list-place.is c.loop-place.invariant
    (λ e. true≢false (sym ((row_same c.deduced.inside.row c.args.row.now).1 (ap (λ (d : DeducedData). d.row) c.deduced.view_is ∙ e)) ∙ (sym c.eq.ensures ∙ c.if-eq.false)))

pub returns : goal.returns
returns c = λ k.
    c.loop-place.invariant (subst (λ (ds : List DeducedData). Contains (map (λ (d : DeducedData). d.row) ds) c.args.row.now) (sym (take_all c.loop-place.place c.args.list.now c.loop-place-test.false)) k)
