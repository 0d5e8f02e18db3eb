use Rattle.std.proofs.Common.{sym, subst, List, All, IsTrue, Contains}
use Rattle.std.proofs.lemmas.Result.{IfOk-weaker}
use Rattle.hs_types.specs.Interned.{RowData, IsRow}
use Rattle.hs_minimal.specs.Ends.{EndData}
use Rattle.hs_minimal.specs.Strongest.{AreFiled, AreRowsIn, IsOtherCovering}
use Rattle.hs_minimal.proofs.StrongestLemmas.{covered_by_filed, filed_in_use}
use Rattle.hs_minimal.proofs.strongest.cover_others.Goals as goal

pub are_covered-requires-clause-filed : goal.are_covered-requires-clause-filed
are_covered-requires-clause-filed c =
    let I = c.args.types.now in
    subst (λ (f : List EndData). AreRowsIn I f) (sym c.as_slice-2.ensures.value) (filed_in_use I c.as_slice.result.now c.in_ok-filed.filed.items c.in_ok-filed.ensures (subst (λ (rs : List RowData). All (IsRow I) rs) (sym c.as_slice.ensures.value) c.requires.kept))

pub returns-clause-ok : goal.returns-clause-ok
returns-clause-ok c =
    let I = c.args.types.now in
    let kept = c.args.parted.now.kept.items in
    let covered = c.args.parted.now.covered.items in
    IfOk-weaker c.are_covered.result _ (λ all. IsTrue all → (r : RowData) → Contains covered r → (o : RowData) × (Contains kept o × IsOtherCovering I r o))
    (λ all h yes. covered_by_filed I c.as_slice-2.result.now kept covered c.as_slice.result.now c.as_slice-3.result.now (subst (λ (f : List EndData). AreFiled I c.as_slice.result.now f) (sym c.as_slice-2.ensures.value) c.in_ok-filed.ensures) c.as_slice.ensures.value c.as_slice-3.ensures.value (h yes)) c.are_covered.ensures.ok
