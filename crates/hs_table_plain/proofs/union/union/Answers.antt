use Rattle.std.proofs.Common.{◌≡◌, sym, ◌∙◌, ap, ◌+◌, List, ◌∷◌, drop}
use Rattle.std.proofs.lemmas.List.{drop_more}
use Rattle.hs_table.specs.Types.{TypeTree}
use Rattle.hs_table_plain.specs.Enumeration as plain
use Rattle.hs_table_plain.proofs.union.union.Goals as goal

pub loop-member-preserved : goal.loop-member-preserved
loop-member-preserved c =
    let other = c.args.other.now in
    let k = c.loop-member.member-index in
    let next : drop k other ≡ c.member-item.result ∷ drop (k + 1) other =
    drop_more other k c.member-item.result c.loop-member-test.true ∙ ap (λ (t : TypeTree). t ∷ drop (k + 1) other) (sym c.member-item.is) in
    ap (λ (s : List TypeTree). plain.union s (drop (k + 1) other)) c.in_ok-insert_type.ensures.ok ∙ (ap (plain.union c.loop-member.types.items) (sym next) ∙ c.loop-member.invariant)
