use Rattle.std.proofs.Common.{◌≡◌, sym, subst, ℕ, List, All, Some, slice_get, MatchOption}
use Rattle.std.specs.List.Sorted.{IsNonDecreasingBy}
use Rattle.std.proofs.lemmas.Result.{IfOk-weaker}
use Rattle.hs_scheme.specs.flow.Points.{PointData}
use Rattle.hs_scheme.specs.Problem.{ProblemData}
use Rattle.hs_table.specs.Entries.{EntryData}
use Rattle.hs_weak.specs.Void.{VoidData}
use Rattle.hs_types.specs.Interned.{RowData, IsRow}
use Rattle.hs_types.proofs.Numbers.{Grows-refl, Grows-trans}
use Rattle.hs_strength.proofs.Rows.{on_ok}
use Rattle.hs_choices.specs.Numbered.{AreTableRows}
use Rattle.hs_heads.specs.HeadTypes.{AreHeadTypes}
use Rattle.hs_void.specs.Dropped.{fits_stays}
use Rattle.hs_certificate_checker.specs.Settled.{StandFor, AreSettledAt, IsOpen}
use Rattle.hs_certificate_checker.proofs.IdleLemmas.{idle_settled}
use Rattle.hs_certificate_checker.proofs.AmongLemmas.{found_so, split_heads, open_here}
use Rattle.hs_certificate_checker.proofs.missing.open_at.Goals as goal

pub head_types-requires-clause-table : goal.head_types-requires-clause-table
head_types-requires-clause-table c = subst (λ (rows : List RowData). All (IsRow c.args.types.now) rows) (sym c.requires.table) c.requires.fits.rows.in_use

pub head_types-requires-clause-order : goal.head_types-requires-clause-order
head_types-requires-clause-order c = subst (λ (rows : List RowData). IsNonDecreasingBy (λ (r : RowData). r.point) rows) (sym c.requires.table) c.requires.fits.rows.order

pub open_among-requires-clause-fits : goal.open_among-requires-clause-fits
open_among-requires-clause-fits c = fits_stays c.args.voids.now c.args.types.now c.head_types.new.types c.in_ok-heads.ensures.grows c.requires.fits

pub open_among-requires-clause-heads : goal.open_among-requires-clause-heads
open_among-requires-clause-heads c =
    let p = c.args.problem.now in
    let b = c.args.voids.now.basis in
    let I = c.args.types.now in
    let J = c.head_types.new.types in
    let found = found_so p c.args.reads.now c.args.point I J b.table c.args.table.now c.in_ok-heads.heads.items c.as_slice.result.now c.requires.table c.as_slice.ensures.value c.in_ok-heads.ensures.found in
    split_heads b p c.requires.problem c.args.point c.requires.point c.args.reads.now I J c.in_ok-heads.ensures.grows c.as_slice.result.now found c.requires.fits.rows

pub returns-clause-opened : goal.returns-clause-opened
returns-clause-opened c =
    let p = c.args.problem.now in
    let b = c.args.voids.now.basis in
    let R = c.args.reads.now in
    let I = c.args.types.now in
    let J = c.head_types.new.types in
    let K = c.open_among.new.types in
    let hs = c.as_slice.result.now in
    let found = found_so p R c.args.point I J b.table c.args.table.now c.in_ok-heads.heads.items hs c.requires.table c.as_slice.ensures.value c.in_ok-heads.ensures.found in
    IfOk-weaker c.open_among.result
    (λ opened. (C : List EntryData) (V : List VoidData) (S : List (ℕ × ℕ)) (d : PointData) → StandFor b J C V → slice_get p.points.points c.args.point ≡ Some d → AreHeadTypes p C S c.args.point d J hs
    → MatchOption opened (AreSettledAt p C V S c.args.point) (IsOpen p C V S K))
    (λ opened. (C : List EntryData) (V : List VoidData) → StandFor b I C V → MatchOption opened (AreSettledAt p C V R c.args.point) (IsOpen p C V R K))
    (λ opened told. open_here b p c.requires.problem c.args.point c.requires.point R I J c.in_ok-heads.ensures.grows hs found K opened told) c.open_among.ensures.opened

pub returns-clause-grows : goal.returns-clause-grows
returns-clause-grows c = on_ok c.open_among.result _ (Grows-trans c.args.types.now c.head_types.new.types c.open_among.new.types c.in_ok-heads.ensures.grows c.open_among.ensures.grows)

pub returns-clause-fits : goal.returns-clause-fits
returns-clause-fits c = on_ok c.open_among.result _ c.open_among.ensures.fits

pub is_idle-requires-clause-order : goal.is_idle-requires-clause-order
is_idle-requires-clause-order c = subst (λ (rows : List RowData). IsNonDecreasingBy (λ (r : RowData). r.point) rows) (sym c.requires.table) c.requires.fits.rows.order

pub returns-then-is_idle-clause-opened : goal.returns-then-is_idle-clause-opened
returns-then-is_idle-clause-opened c = λ C V stand.
    let p = c.args.problem.now in
    let b = c.args.voids.now.basis in
    let I = c.args.types.now in
    let own : AreTableRows p C I c.args.table.now =
    subst (λ (q : ProblemData). AreTableRows q C I c.args.table.now) (sym c.requires.problem) (subst (λ (rows : List RowData). AreTableRows b.problem C I rows) (sym c.requires.table) stand.rows) in
    idle_settled p C I c.args.table.now own c.args.reads.now c.args.point (c.is_idle.ensures c.if-is_idle.true) V

pub returns-then-is_idle-clause-grows : goal.returns-then-is_idle-clause-grows
returns-then-is_idle-clause-grows c = Grows-refl c.args.types.now

pub returns-then-is_idle-clause-fits : goal.returns-then-is_idle-clause-fits
returns-then-is_idle-clause-fits c = c.requires.fits
