use Rattle.std.proofs.Common.{rules, ap, sym, ◌∙◌, ◌∷◌, Some, List, Option, ℕ}
use Rattle.atomic_table.specs.Table.{rest}
use Rattle.hs_turn.proofs.KindLemmas.{may_enter}
use Rattle.hs_turn.proofs.turn.Turn.try_take.Goals as goal

pub compare_exchange-requires : goal.compare_exchange-requires
compare_exchange-requires g c = (search rules, search rules, may_enter g.T.Storied.base g.T.Storied.story g.T.Storied.number _ _ _ _ c.seat.invariant.numbered.lives)

pub exchange-requires : goal.exchange-requires
exchange-requires g c = let taken = c.compare_exchange.ensures.2.0 c.if-compare_exchange-ne0.false in
    (search rules, (Some taken.state, taken.carried ∙ ap (λ (l : List (ℕ × Option g.row.T.Denot)). (0, Some taken.state) ∷ rest l) (sym taken.carried)))
