use Rattle.std.proofs.Common.{sym, ap, ◌∙◌, Some, drop}
use Rattle.hs_history.specs.declared.step.Work.{Work}
use Rattle.hs_history.specs.declared.step.Work.TheVariants.{Seed}
use Rattle.hs_core.proofs.Slots.{not_some}
use Rattle.hs_core.proofs.Stepping.{base_of, fields_of}
use Rattle.hs_core.proofs.Passing.{first_of, next_seen}
use Rattle.hs_core.proofs.state.Core.next_seed.Goals as goal

pub returns : goal.returns
returns c =
    let a = c.self.inside in
    let point = c.in-Some-Seed.point in
    let unfound = not_some c.found.result (sym c.is_some.ensures ∙ c.if-is_some.false) in
    let past = not_some a.past (sym c.is_some-2.ensures ∙ c.if-is_some-2.false) in
    let first = first_of a.pending.works (Seed point) (sym c.in-Some-Seed.ensures ∙ ap (λ (w : Work). Some w) c.in-Some-Seed.field-0-is) in
    next_seen (base_of a) (fields_of a) c.self.invariant.0 a.spare c.args.self.now c.self.view_is point (drop 1 a.pending.works)
    (λ place found. absurd (let e = sym unfound ∙ (c.found.ensures place).1 found in cc)) past first
