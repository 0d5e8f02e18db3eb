use Rattle.std.proofs.Common.{rules, ◌≡◌, ap, ◌∙◌, sym, true, Option, Some, None, ◌∷◌, List, ℕ}
use Rattle.atomic_table.specs.Table.{rest}
use Rattle.hs_turn.specs.declared.known.Known.{Known}
use Rattle.hs_turn.specs.AtomicSteps.{Holding}
use Rattle.hs_turn.proofs.SeatLemmas.{seen_of}
use Rattle.hs_turn.proofs.KindLemmas.{may_leave}
use Rattle.hs_turn.proofs.guard.Guard.leave.Goals as goal

pub exchange-out-requires : goal.exchange-out-requires
exchange-out-requires g c = let V : Type 0 = Known g.row.T-Base.Denot g.row.T-Event.Denot in let P : V → Type 0 = λ v. v.holds ≡ true in
    let out = c.seat.invariant.busy (seen_of P c.seat.inside.inner.table_id c.seat.inside.inner.me.0 c.args.seat.now c.seat.view_is c.requires.holds) in
    (search rules, (None, out ∙ ap (λ (l : List (ℕ × Option g.row.T.Denot)). (0, None) ∷ rest l) (sym out)))

pub store-requires : goal.store-requires
store-requires g c = let M : Type 0 = Holding g.row.T.Denot g.row.T-Base.Denot g.row.T-Event.Denot in let V : Type 0 = Known g.row.T-Base.Denot g.row.T-Event.Denot in
    let st = g.T.Storied in let x = c.args.self.state in let seat = c.args.seat.now in let before = c.seat.inside.inner.me in let after = c.exchange-out.new.seat.me in let is : after ≡ (before.0, (0, Some x) ∷ rest before.1) = c.exchange-out.ensures.3 in
    let P : V → Type 0 = λ v. (v.holds ≡ true) × (Some (st.base x) ≡ v.base) × (st.story x ≡ v.seen) in
    let known : P before.0 = seen_of P c.seat.inside.inner.table_id before.0 seat c.seat.view_is (c.requires.holds, sym c.requires.base, c.requires.told) in (
      search rules,
      search rules,
      may_leave st.base st.story st.number _ _ _ after (ap (λ (m : M). m.0.holds) is ∙ known.0) x
          (ap (λ (m : M). m.1) is ∙ ap (λ (l : List (ℕ × Option g.row.T.Denot)). (0, Some x) ∷ rest l) (c.seat.invariant.busy known.0))
          (known.1 ∙ sym (ap (λ (m : M). m.0.base) is))
          (known.2 ∙ sym (ap (λ (m : M). m.0.seen) is)),
    )
