use Rattle.std.proofs.Common.{rules, ◌≡◌, sym, subst, true, ℕ, ◌+◌, ◌≤◌, ◌^◌, length, refl, All}
use Rattle.hs_turn.specs.declared.known.Known.{Known}
use Rattle.hs_turn.proofs.SeatLemmas.{seen_of}
use Rattle.hs_turn.proofs.KindLemmas.{may_tell}
use Rattle.hs_turn.proofs.guard.count.Goals as goal

pub fetch_add-requires : goal.fetch_add-requires
fetch_add-requires g c = let V : Type 0 = Known g.row.T-Base.Denot g.row.T-Event.Denot in let v = c.seat.inside.inner.me.0 in let seat = c.args.seat.now in
    let P : V → Type 0 = λ v. (v.holds ≡ true) × (v.number ≡ seat.known.number) × (length v.seen + c.args.events ≤ 2 ^ 63) in
    let known : P v = seen_of P c.seat.inside.inner.table_id v seat c.seat.view_is (c.requires.holds, refl, c.requires.room) in (
      search rules,
      search rules,
      may_tell g.T.Storied.base g.T.Storied.story g.T.Storied.number _ _ _ _ known.0 _ c.args.events (subst (λ (n : ℕ). All (λ e. g.T.Storied.number e ≡ n) _) (sym known.1) c.requires.bear) c.requires.many known.2,
    )
