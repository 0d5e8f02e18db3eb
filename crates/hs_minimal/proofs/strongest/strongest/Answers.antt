use Rattle.std.proofs.Common.{sym, subst, ◌<◌, List}
use Rattle.hs_types.specs.Interned.{RowData, IsRow}
use Rattle.hs_minimal.specs.Ends.{EndData}
use Rattle.hs_minimal.specs.Strongest.{AreFiled, AreRowsIn}
use Rattle.hs_minimal.proofs.StrongestLemmas.{strongest_kept, filed_in_use, some_in_use}
use Rattle.hs_minimal.proofs.strongest.strongest.Goals as goal

pub part-requires-clause-filed : goal.part-requires-clause-filed
part-requires-clause-filed c =
    let I = c.args.types.now in
    subst (λ (f : List EndData). AreRowsIn I f) (sym c.as_slice.ensures.value) (filed_in_use I c.args.rows.now c.in_ok-filed.filed.items c.in_ok-filed.ensures c.requires.rows)

pub cover_others-requires-clause-kept : goal.cover_others-requires-clause-kept
cover_others-requires-clause-kept c = some_in_use (IsRow c.args.types.now) c.args.rows.now c.in_ok-parted.parted.kept.items c.requires.rows (λ r m. (c.in_ok-parted.ensures.parted.left r m).0)

pub cover_others-requires-clause-covered : goal.cover_others-requires-clause-covered
cover_others-requires-clause-covered c = some_in_use (IsRow c.args.types.now) c.args.rows.now c.in_ok-parted.parted.covered.items c.requires.rows c.in_ok-parted.ensures.parted.taken

pub cover_others-requires-clause-points : goal.cover_others-requires-clause-points
cover_others-requires-clause-points c = some_in_use (λ (r : RowData). r.point < c.args.points) c.args.rows.now c.in_ok-parted.parted.kept.items c.requires.points (λ r m. (c.in_ok-parted.ensures.parted.left r m).0)

pub returns : goal.returns
returns c =
    let I = c.args.types.now in
    let rows = c.args.rows.now in
    let filed = c.as_slice.result.now in
    strongest_kept I filed rows (subst (λ (f : List EndData). AreFiled I rows f) (sym c.as_slice.ensures.value) c.in_ok-filed.ensures) c.in_ok-parted.parted.kept.items c.in_ok-parted.parted.covered.items c.in_ok-parted.ensures.parted
    (c.in_ok-cover_others.ensures.ok c.if-not-branch.false)
