use Rattle.std.proofs.Common.{sym, subst, List, Contains}
use Rattle.hs_types.specs.Interned.{RowData}
use Rattle.hs_minimal.specs.Growing.{entries}
use Rattle.hs_minimal.specs.Following.{IsFollowing}
use Rattle.hs_minimal.proofs.GrowingLemmas.{growing_stays}
use Rattle.hs_minimal.proofs.SettlingLemmas.{at_own_point}
use Rattle.hs_minimal.proofs.spreading.settle_from.Goals as goal

pub add_rows-requires-clause-growing : goal.add_rows-requires-clause-growing
add_rows-requires-clause-growing c = growing_stays c.args.types.now c.args.growing.now c.requires.growing c.following_from.new.types c.in_ok-found.ensures.grows

pub add_rows-requires-clause-rows : goal.add_rows-requires-clause-rows
add_rows-requires-clause-rows c =
    let g = c.args.growing.now in
    let J = c.following_from.new.types in
    subst (λ (z : List RowData). (r : RowData) → Contains z r → IsFollowing g.problem (entries J g.history) r.point J r) (sym c.as_slice.ensures.value)
    (λ r m. at_own_point g.problem (entries J g.history) c.args.point J r (c.in_ok-found.ensures.found.all r m))
