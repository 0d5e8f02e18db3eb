use Rattle.std.proofs.Common.{sym, ap, ◌∙◌, subst, List, [], ◌∷◌, ◌++◌, Option, Some}
use Rattle.atomic_table.specs.Table.{opening}
use Rattle.hs_turn.specs.Rule.{IsTurn}
use Rattle.hs_turn.specs.Views.{first_seat}
use Rattle.hs_turn.proofs.KindLemmas.{opens}
use Rattle.hs_turn.proofs.turn.Turn.new.Goals as goal

pub new-requires : goal.new-requires
new-requires g c = let st = g.T.Storied in let b = st.base c.of-key.result.value in
    subst (λ (xs : List (Option g.row.T.Denot)). IsTurn st.base st.story st.number b (opening (0 ∷ 0 ∷ []) xs (first_seat b)))
    (sym (c.push_reserved.ensures.items ∙ ap (λ (l : List (Option g.row.T.Denot)). l ++ Some c.args.value ∷ []) (c.in-Ok.ensures.items)))
    (opens st.base st.story st.number b c.args.value (ap st.base (sym c.of-key.ensures)) c.requires)
