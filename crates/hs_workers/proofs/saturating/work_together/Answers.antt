use Rattle.std.proofs.Common.{◌≡◌, sym, ap, subst, ◌∙◌, length, All, arith}
use Rattle.hs_turn.specs.Seats.{RestsIn}
use Rattle.hs_workers.specs.Working.{IsFirstSeat}
use Rattle.hs_workers.proofs.FirstLemmas.{by_workers}
use Rattle.hs_workers.proofs.AnswerLemmas.{written}
use Rattle.hs_workers.proofs.saturating.work_together.Goals as goal

pub join_all-requires-clause-seats : goal.join_all-requires-clause-seats
join_all-requires-clause-seats g c =
    let v = c.in-Ok.seats in
    let new = c.work_each.new.seats in
    let same : length new ≡ length v.items = omega (arith, c.work_each.auto.seats, ap length c.as_mut_slice.ensures.value) in
    subst (λ xs. All (RestsIn c.args.table) xs) (sym (written new v.items v.len same (omega (arith, v.ok.0)))) c.work_each.ensures

pub returns-clause-workers : goal.returns-clause-workers
returns-clause-workers g c =
    let v = c.in-Ok.seats in
    let new = c.work_each.new.seats in
    let same : length new ≡ length v.items = omega (arith, c.work_each.auto.seats, ap length c.as_mut_slice.ensures.value) in
    let long = ap length (written new v.items v.len same (omega (arith, v.ok.0))) in
    let first = c.join_all.ensures.first in
    by_workers c.args.workers c.into_core.result.story (c.into_core.ensures.own ∙ first.own)
    (λ n past. c.into_core.ensures.no_others n (omega (arith, past, first.splits_are, long, same, c.in-Ok.ensures.count)))

pub seats_for-requires-clause-few : goal.seats_for-requires-clause-few
seats_for-requires-clause-few g c = c.requires.few

pub seats_for-requires-clause-first : goal.seats_for-requires-clause-first
seats_for-requires-clause-first g c = c.requires.first

pub seats_for-requires-clause-nothing : goal.seats_for-requires-clause-nothing
seats_for-requires-clause-nothing g c = c.requires.nothing

pub seats_for-requires-clause-based : goal.seats_for-requires-clause-based
seats_for-requires-clause-based g c = c.requires.based

pub join_all-requires-clause-first : goal.join_all-requires-clause-first
join_all-requires-clause-first g c =
    let v = c.in-Ok.seats in
    let new = c.work_each.new.seats in
    let same : length new ≡ length v.items = omega (arith, c.work_each.auto.seats, ap length c.as_mut_slice.ensures.value) in
    let long = ap length (written new v.items v.len same (omega (arith, v.ok.0))) in
    subst (λ n. IsFirstSeat c.args.table n 0 c.seats_for.new.first) (sym (long ∙ same ∙ c.in-Ok.ensures.count)) c.in-Ok.ensures.first
