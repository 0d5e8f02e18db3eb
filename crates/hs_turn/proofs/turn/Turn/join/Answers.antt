use Rattle.std.proofs.Common.{rules, ◌≡◌, false, sym, subst, ◌≤◌, length}
use mathlib.Core.List.{IsPrefix}
use Rattle.hs_turn.specs.declared.known.Known.{Known}
use Rattle.hs_turn.specs.Seats.{SeatView}
use Rattle.hs_turn.specs.Views.{having_joined}
use Rattle.hs_turn.specs.AtomicSteps.{Holding}
use Rattle.hs_turn.proofs.SeatLemmas.{seen_of}
use Rattle.hs_turn.proofs.KindLemmas.{may_join, may_look, joined_begins}
use Rattle.hs_turn.proofs.PrefixLemmas.{shorter_le_longer}
use Rattle.hs_turn.proofs.turn.Turn.join.Goals as goal

pub join_seat-requires : goal.join_seat-requires
join_seat-requires g c = let V : Type 0 = Known g.row.T-Base.Denot g.row.T-Event.Denot in let v = c.seat.inside.inner.me.0 in let w = c.other.inside.inner.me.0 in
    let P : V → Type 0 = λ v. (v.number ≡ 0) × (v.holds ≡ false) in let Q : V → Type 0 = λ v. v.holds ≡ false in
    let known : P v = seen_of P c.seat.inside.inner.table_id v c.args.seat.now c.seat.view_is (c.requires.first, c.requires.free) in
    let other : Q w = seen_of Q c.other.inside.inner.table_id w c.args.other c.other.view_is c.requires.other_free in (
      search rules,
      search rules,
      search rules,
      search rules,
      may_join g.T.Storied.base g.T.Storied.story g.T.Storied.number _ _ _ _ _ known.0 c.seat.invariant.numbered.lives known.1 c.other.invariant.numbered.lives other,
    )

pub load-requires : goal.load-requires
load-requires g c = let M : Type 0 = Holding g.row.T.Denot g.row.T-Base.Denot g.row.T-Event.Denot in let me = c.join_seat.new.seat.me in
    let before = c.seat.inside.inner.me in let w = c.other.inside.inner.me.0 in let after : me ≡ (having_joined before.0 w, before.1) = c.join_seat.ensures.2 in (
      search rules,
      search rules,
      may_look g.T.Storied.base g.T.Storied.story g.T.Storied.number _ _ _ me
          (subst (λ (m : M). length m.0.kept ≤ length m.0.seen) (sym after) (shorter_le_longer before.0.seen w.seen)),
    )

pub returns-clause-begins : goal.returns-clause-begins
returns-clause-begins g c = let m = c.join_seat.new.seat.me in let look : IsPrefix m.0.kept m.0.seen = search rules in
    let n = c.load.new.seat.me in let S : Type 0 = SeatView g.row.T-Base.Denot g.row.T-Event.Denot in
    subst (λ (s : S). IsPrefix s.known.seen n.0.seen) c.seat.view_is (joined_begins c.seat.inside.inner.me.0 c.other.inside.inner.me.0 _ m n c.join_seat.ensures.2 c.load.ensures.2.0 look).0

pub returns-clause-other_begins : goal.returns-clause-other_begins
returns-clause-other_begins g c = let n = c.load.new.seat.me in let S : Type 0 = SeatView g.row.T-Base.Denot g.row.T-Event.Denot in
    subst (λ (s : S). IsPrefix s.known.seen n.0.seen) c.other.view_is (joined_begins c.seat.inside.inner.me.0 c.other.inside.inner.me.0 _ c.join_seat.new.seat.me n c.join_seat.ensures.2 c.load.ensures.2.0 c.load.ensures.2.1).1
