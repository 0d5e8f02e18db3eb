use Rattle.std.proofs.Common.{◌≡◌, sym, ◌∙◌, ap, subst, true, List, Bool, Some, slice_get, Contains, get_or, inl, inr}
use Rattle.std.proofs.lemmas.List.{take_all, get_or_default}
use Rattle.std.proofs.lemmas.List.Elements.{Contains-get_or}
use Rattle.std.proofs.lemmas.Option.{slice_get-get_or}
use Rattle.hs_scheme.specs.declared.flow.FlowPair.{FlowPair}
use Rattle.hs_table_plain.proofs.Members.{next_member}
use Rattle.hs_checker.proofs.inert.are_marked.Goals as goal

abbrev d : FlowPair
d = record { rule = 0; param = 0; point = 0 }

pub bounds-marks-pair : goal.bounds-marks-pair
bounds-marks-pair c = c.requires (get_or c.args.row.now c.loop-pair.pair-index d) (Contains-get_or c.args.row.now c.loop-pair.pair-index d c.loop-pair-test.true)

pub loop-pair-preserved : goal.loop-pair-preserved
loop-pair-preserved c = λ f there.
    let row = c.args.row.now in
    let k = c.loop-pair.pair-index in
    let own : FlowPair = get_or row k d in
    elim ((next_member row k own f c.loop-pair-test.true (get_or_default row k d own c.loop-pair-test.true)).0 there) [
      | inl before ↦ c.loop-pair.invariant f before
      | inr same ↦
          let lt = c.requires own (Contains-get_or row k d c.loop-pair-test.true) in
          subst (λ (g : FlowPair). slice_get c.args.marks.now g.point ≡ Some true) (sym same)
          (slice_get-get_or c.args.marks.now own.point _ lt ∙ ap (λ (b : Bool). Some b) c.if-not-marks-pair.false)
    ]

pub returns : goal.returns
returns c = λ _ f there. c.loop-pair.invariant f (subst (λ (fs : List FlowPair). Contains fs f) (sym (take_all c.loop-pair.pair-index c.args.row.now c.loop-pair-test.false)) there)
