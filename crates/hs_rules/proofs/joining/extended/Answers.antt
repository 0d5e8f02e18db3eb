use Rattle.std.proofs.Common.{sym, ◌∙◌, subst, ◌<◌, List, [], length, get_or, arith}
use Rattle.std.proofs.lemmas.List.Elements.{Contains-get_or}
use Rattle.hs_table_laws.proofs.Places.{within_from}
use Rattle.hs_replica.specs.Replica.{ReplicaData}
use Rattle.hs_rules.specs.Joins.{PartialData, CanFill}
use Rattle.hs_rules.proofs.joining.extended.Goals as goal

pub extend_all-requires-clause-can : goal.extend_all-requires-clause-can
extend_all-requires-clause-can c =
    subst (λ (r : ReplicaData). CanFill r.ids r.log c.as_slice-2.result.now c.args.slot.now) (sym (c.masks_for.ensures.kept ∙ c.note_pairs.ensures))
    (subst (λ (xs : List PartialData). CanFill c.args.replica.now.ids c.args.replica.now.log xs c.args.slot.now) (sym c.as_slice-2.ensures) c.requires.can)

pub masks_for-requires : goal.masks_for-requires
masks_for-requires c = λ many place there.
    let old = c.args.partials.now.items in
    let d : PartialData = record { env = 0; args = [] } in
    let first = get_or old 0 d in
    let some : 0 < length old = omega (arith, many, c.len.ensures.value) in
    let p = (c.requires.can first (Contains-get_or old 0 d some)).1 place there in
    subst (λ (r : ReplicaData). place < length r.log) (sym c.note_pairs.ensures) (within_from c.args.replica.now.log place p.entry p.at)
