use Rattle.std.proofs.Common.{rules, ◌≡◌, false}
use Rattle.hs_turn.specs.declared.known.Known.{Known}
use Rattle.hs_turn.proofs.SeatLemmas.{seen_of, seat-split, seat-split_off}
use Rattle.hs_turn.proofs.KindLemmas.{may_split}
use Rattle.hs_turn.proofs.turn.Turn.split.Goals as goal

pub split_seat-inner-requires : goal.split_seat-inner-requires
split_seat-inner-requires g c = let V : Type 0 = Known g.row.T-Base.Denot g.row.T-Event.Denot in let v = c.seat.inside.inner.me.0 in
    let P : V → Type 0 = λ v. (v.number ≡ 0) × (v.holds ≡ false) in
    let known : P v = seen_of P c.seat.inside.inner.table_id v c.args.seat.now c.seat.view_is (c.requires.first, c.requires.free) in (
      search rules,
      search rules,
      may_split g.T.Storied.base g.T.Storied.story g.T.Storied.number _ _ _ known.0 c.seat.invariant.numbered.lives known.1,
    )

pub invariant_of-seat : goal.invariant_of-seat
invariant_of-seat g c = seat-split c.seat.inside.number c.seat.inside.splits c.seat.inside.inner.me c.split_seat-inner.new.seat.me c.seat.invariant c.split_seat-inner.ensures.2

pub invariant_of-result : goal.invariant_of-result
invariant_of-result g c = seat-split_off c.seat.inside.number c.seat.inside.splits c.seat.inside.inner.me c.split_seat-inner.result.me c.seat.invariant c.split_seat-inner.ensures.4
