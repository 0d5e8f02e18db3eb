use Rattle.std.proofs.Common.{◌≡◌, ℕ, refl, sym, subst, false}
use Rattle.std.specs.Option.{IsSome}
use Rattle.hs_turn.specs.declared.known.Known.{Known}
use Rattle.hs_turn.specs.Story.{told_by}
use Rattle.hs_turn.specs.Seats.{SeatView}
use Rattle.hs_turn.proofs.SeatLemmas.{seen_of}
use Rattle.hs_turn.proofs.KindLemmas.{Closing, closes, closed_value}
use Rattle.hs_turn.proofs.turn.Turn.close.Goals as goal

pub unwrap-state-requires : goal.unwrap-state-requires
unwrap-state-requires g c = let V : Type 0 = Known g.row.T-Base.Denot g.row.T-Event.Denot in let v = c.seat.inside.inner.me.0 in
    let P : V → Type 0 = λ v. (v.holds ≡ false) × (v.number ≡ 0) × (v.joins ≡ v.splits) in
    let known : P v = seen_of P c.seat.inside.inner.table_id v c.args.seat c.seat.view_is (c.requires.free, c.requires.first, c.requires.all_joined) in
    let found = closes g.T.Storied.base g.T.Storied.story g.T.Storied.number _ _ _ _ v c.take.result c.close_with-closed.ensures.values.2 c.seat.invariant.numbered.lives known.0 known.1 known.2 c.take.ensures.value in
    subst IsSome (sym found.1) refl

pub returns : goal.returns
returns g c = let V : Type 0 = Known g.row.T-Base.Denot g.row.T-Event.Denot in let S : Type 0 = SeatView g.row.T-Base.Denot g.row.T-Event.Denot in let v = c.seat.inside.inner.me.0 in
    let x = c.unwrap-state.result in let st = g.T.Storied in let b = st.base c.self.inside.table.shared.key.value in
    let P : V → Type 0 = λ v. (v.holds ≡ false) × (v.number ≡ 0) × (v.joins ≡ v.splits) in
    let known : P v = seen_of P c.seat.inside.inner.table_id v c.args.seat c.seat.view_is (c.requires.free, c.requires.first, c.requires.all_joined) in
    let of_view : Closing st.base st.story st.number b v x = closed_value st.base st.story st.number b v c.take.result x
    (closes st.base st.story st.number b _ _ _ v c.take.result c.close_with-closed.ensures.values.2 c.seat.invariant.numbered.lives known.0 known.1 known.2 c.take.ensures.value) c.unwrap-state.ensures in
    let found : Closing st.base st.story st.number b c.args.seat.known x = subst (λ (s : S). Closing st.base st.story st.number b s.known x) c.seat.view_is of_view in record {
      base = found.base_is;
      begins = found.begins;
      own = subst (λ (n : ℕ). told_by st.number n (st.story x) ≡ c.args.seat.known.own) c.requires.first found.own;
      joined = found.joined;
      no_others = found.no_others;
    }
