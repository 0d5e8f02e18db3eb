use Rattle.std.proofs.Common.{sym, subst, List, Contains}
use Rattle.std.proofs.lemmas.Result.{on_ok_weaker}
use Rattle.hs_types.specs.Interned.{InternerData, RowData, entry_of}
use Rattle.hs_minimal.specs.Growing.{GrowingData, entries, IsCoveredAt, CoversAllAt}
use Rattle.hs_minimal.specs.Following.{IsFollowing}
use Rattle.hs_minimal.proofs.GrowingLemmas.{growing_stays}
use Rattle.hs_minimal.proofs.SettlingLemmas.{at_own_point, settled_here}
use Rattle.hs_minimal.proofs.settling.settle.Goals as goal

pub add_rows-requires-clause-growing : goal.add_rows-requires-clause-growing
add_rows-requires-clause-growing c = growing_stays c.args.types.now c.args.growing.now c.requires.growing c.following.new.types c.in_ok-rows.ensures.grows

pub add_rows-requires-clause-rows : goal.add_rows-requires-clause-rows
add_rows-requires-clause-rows c =
    let g = c.args.growing.now in
    let J = c.following.new.types in
    subst (λ (z : List RowData). (r : RowData) → Contains z r → IsFollowing g.problem (entries J g.history) r.point J r) (sym c.as_slice.ensures.value)
    (λ r m. at_own_point g.problem (entries J g.history) c.args.point J r (c.in_ok-rows.ensures.found.all r m))

pub returns-clause-settled : goal.returns-clause-settled
returns-clause-settled c =
    let g = c.args.growing.now in
    let J = c.following.new.types in
    let K = c.add_rows.new.types in
    let new = c.add_rows.new.growing in
    on_ok_weaker c.add_rows.result (λ none same room.
    let b = none same room in
    let all : (r : RowData) → Contains c.in_ok-rows.rows.items r → IsCoveredAt J g (entry_of J r) = subst (λ (z : List RowData). (r : RowData) → Contains z r → IsCoveredAt J g (entry_of J r)) c.as_slice.ensures.value b.1 in
    (b.0, subst (λ (I : InternerData). CoversAllAt I new c.args.point) (sym c.add_rows.ensures.same) (subst (λ (x : GrowingData). CoversAllAt J x c.args.point) (sym b.0) (settled_here J g c.args.point c.in_ok-rows.rows.items c.in_ok-rows.ensures.found all))))
    c.add_rows.ensures.none
