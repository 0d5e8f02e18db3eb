use Rattle.std.proofs.Common.{refl, ◌∙◌, ap, subst, ◌<◌, length, Some}
use Rattle.std.proofs.lemmas.Option.{slice_get-get_or}
use Rattle.hs_sorts.specs.declared.measures.Mark.TheVariants.{New}
use Rattle.hs_sorts.specs.Measures.{ChildrenBelow}
use Rattle.hs_sorts.proofs.Measuring.{link_done, link_child}
use Rattle.hs_sorts.proofs.measures.step_at.Goals as goal

pub bounds-marks-up : goal.bounds-marks-up
bounds-marks-up c = subst (ChildrenBelow (length c.args.marks.now)) c.in-Link.is c.requires c.in-Link.up refl

pub step_at_root-requires : goal.step_at_root-requires
step_at_root-requires c = subst (ChildrenBelow (length c.args.marks.now)) c.in-Root.is c.requires

pub returns-in-Some : goal.returns-in-Some
returns-in-Some c =
    let below : c.in-Link.up < length c.args.marks.now = subst (ChildrenBelow (length c.args.marks.now)) c.in-Link.is c.requires c.in-Link.up refl in
    link_done c.args.marks.now c.args.node c.in-Link.up c.in-Some.measure c.in-Link.is (slice_get-get_or c.args.marks.now c.in-Link.up New below ∙ ap (λ m. Some m) c.in-Some.ensures)

pub returns-in-None : goal.returns-in-None
returns-in-None c = link_child c.args.marks.now c.args.node c.in-Link.up c.in-Link.is c.in-None.ensures
