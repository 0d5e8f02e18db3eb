use Rattle.std.proofs.Common.{sym, subst, List, Result, Ok, Err, OnOk, IfOk}
use Rattle.std.specs.List.Sorted.{IsNonDecreasingBy}
use Rattle.hs_types.specs.Interned.{RowData, Grows}
use Rattle.hs_minimal.specs.Growing.{AreAdded}
use Rattle.hs_minimal.specs.Following.{AreFollowingFrom, AreLeastFollowing}
use Rattle.hs_minimal.proofs.SettlingLemmas.{gathered_added, are_following}
use Rattle.hs_minimal.proofs.following.following.Goals as goal

both_ok : {X Y : Type 0} (r : Result X Y) (G : Type 0) (P Q : X → Type 0) → ((x : X) → G → P x → Q x) → OnOk r G → IfOk r P → IfOk r Q
both_ok (Ok x) G P Q f g p = f x g p
both_ok (Err e) G P Q f g p = tt

pub following_from-requires-clause-rows : goal.following_from-requires-clause-rows
following_from-requires-clause-rows c =
    subst (λ (z : List RowData). AreAdded c.args.growing.now z) (sym c.as_slice.ensures.value)
    (gathered_added c.args.growing.now c.args.types.now c.requires.growing c.args.point c.in_ok-rows.rows.items c.in_ok-rows.ensures.rows)

pub following_from-requires-clause-order : goal.following_from-requires-clause-order
following_from-requires-clause-order c = subst (λ (z : List RowData). IsNonDecreasingBy (λ (r : RowData). r.point) z) (sym c.as_slice.ensures.value) c.in_ok-rows.ensures.order

pub returns-clause-found : goal.returns-clause-found
returns-clause-found c =
    let g = c.args.growing.now in
    let I = c.args.types.now in
    let K = c.following_from.new.types in
    let T = c.in_ok-rows.rows.items in
    both_ok c.following_from.result (Grows I K) (λ found. AreFollowingFrom I K g c.args.point c.as_slice.result.now found.items) (λ found. AreLeastFollowing K g c.args.point found.items)
    (λ found grows from. are_following g I c.requires.growing T (gathered_added g I c.requires.growing c.args.point T c.in_ok-rows.ensures.rows) c.args.point c.in_ok-rows.ensures.rows K grows c.requires.point found.items
    (subst (λ (z : List RowData). AreFollowingFrom I K g c.args.point z found.items) c.as_slice.ensures.value from))
    c.following_from.ensures.grows c.following_from.ensures.found
