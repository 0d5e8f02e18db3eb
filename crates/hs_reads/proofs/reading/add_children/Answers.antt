use Rattle.std.proofs.Common.{◌≡◌, sym, ◌∙◌, ap, ℕ, length, get_or, slice_get, Some}
use Rattle.std.proofs.lemmas.Bool.{ltb-true}
use Rattle.std.proofs.lemmas.Option.{slice_get-get_or}
use Rattle.hs_reads.specs.Pairs.{IsArgumentRead}
use Rattle.hs_reads.proofs.FoundLemmas.{gains_then}
use Rattle.hs_reads.proofs.GrowLemmas.{adds_more}
use Rattle.hs_reads.proofs.ReadLemmas.{children_more, argument_read}
use Rattle.hs_reads.proofs.reading.add_children.Goals as goal

pub loop-place-preserved : goal.loop-place-preserved
loop-place-preserved c =
    let old = c.loop-place.found.pairs in
    let new = c.add.new.self.pairs in
    let us = c.args.args.now in
    let rs = c.args.states.now in
    let k = c.loop-place.place in
    let u = get_or us k 0 in
    let r = c.in-Some.state.now in
    let at_u : slice_get us k ≡ Some u = slice_get-get_or us k 0 c.loop-place-test.true in
    let at_r : slice_get rs k ≡ Some r = slice_get-get_or rs k r (ltb-true k (length rs) (sym c.in-Some.ensures.lookup.0)) ∙ ap (λ (q : ℕ). Some q) (sym c.in-Some.ensures.lookup.1) in
    record {
      gains = gains_then c.args.found.now c.loop-place.found c.add.new.self c.loop-place.invariant.gains c.in_ok-add.ensures.gains;
      there = children_more us rs k u r old new at_u at_r c.in_ok-add.ensures.gains.kept c.in_ok-add.ensures.there c.loop-place.invariant.there;
      only = adds_more (λ x. x ≡ (u, r)) (IsArgumentRead us rs) c.args.found.now.pairs old new c.loop-place.invariant.only c.add.ensures.only (argument_read us rs k u r at_u at_r);
    }

pub returns-in_err-add-clause-only : goal.returns-in_err-add-clause-only
returns-in_err-add-clause-only c =
    let us = c.args.args.now in
    let rs = c.args.states.now in
    let k = c.loop-place.place in
    let u = get_or us k 0 in
    let r = c.in-Some.state.now in
    let at_u : slice_get us k ≡ Some u = slice_get-get_or us k 0 c.loop-place-test.true in
    let at_r : slice_get rs k ≡ Some r = slice_get-get_or rs k r (ltb-true k (length rs) (sym c.in-Some.ensures.lookup.0)) ∙ ap (λ (q : ℕ). Some q) (sym c.in-Some.ensures.lookup.1) in
    adds_more (λ x. x ≡ (u, r)) (IsArgumentRead us rs) c.args.found.now.pairs c.loop-place.found.pairs c.add.new.self.pairs c.loop-place.invariant.only c.add.ensures.only (argument_read us rs k u r at_u at_r)
