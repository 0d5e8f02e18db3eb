use Rattle.std.proofs.Common.{◌≡◌, sym, ◌∙◌, subst, ◌<◌, true, false, List, length, All, IsTrue, ◌↔◌}
use Rattle.std.specs.List.Sorted.{IsNonDecreasingBy}
use Rattle.std.proofs.lemmas.Result.{IfOk-weaker}
use Rattle.hs_table.specs.Entries.{EntryData}
use Rattle.hs_weak.specs.Void.{VoidData, IsVoid}
use Rattle.hs_types.specs.Interned.{InternerData, RowData, IsRow, env_of_id}
use Rattle.hs_strength.specs.Remembered.{IsCovered}
use Rattle.hs_void.specs.Voids.{Fits}
use Rattle.hs_certificate_checker.specs.Settled.{StandFor}
use Rattle.hs_certificate_checker.proofs.SettledLemmas.{Tells, tells_covered, tells_void}
use Rattle.hs_certificate_checker.proofs.missing.is_settled.Goals as goal

pub is_covered-requires-clause-table : goal.is_covered-requires-clause-table
is_covered-requires-clause-table c = subst (λ (rows : List RowData). All (IsRow c.args.types.now) rows) (sym c.requires.table) c.requires.fits.rows.in_use

pub is_covered-requires-clause-order : goal.is_covered-requires-clause-order
is_covered-requires-clause-order c = subst (λ (rows : List RowData). IsNonDecreasingBy (λ (r : RowData). r.point) rows) (sym c.requires.table) c.requires.fits.rows.order

pub is_void-requires-clause-env : goal.is_void-requires-clause-env
is_void-requires-clause-env c = subst (λ (I : InternerData). c.args.row.now.env < length I.envs) (sym c.is_covered.ensures.same) c.requires.row.0

pub is_void-requires-clause-fits : goal.is_void-requires-clause-fits
is_void-requires-clause-fits c = subst (λ (I : InternerData). Fits I c.args.voids.now) (sym c.is_covered.ensures.same) c.requires.fits

pub returns-then-branch-clause-ok : goal.returns-then-branch-clause-ok
returns-then-branch-clause-ok c =
    let I = c.args.types.now in
    let b = c.args.voids.now.basis in
    tells_covered b I c.args.rule c.args.row.now (subst (λ (rows : List RowData). IsCovered I c.args.row.now rows) c.requires.table (c.in_ok-is_covered.ensures.ok.0 c.if-branch.true))

pub returns-clause-ok : goal.returns-clause-ok
returns-clause-ok c =
    let I = c.args.types.now in
    let b = c.args.voids.now.basis in
    let J = c.is_covered.new.types in
    let not : IsCovered I c.args.row.now b.table → ⊥ = λ h.
    let f : false ≡ true = sym c.if-branch.false ∙ c.in_ok-is_covered.ensures.ok.1 (subst (λ (rows : List RowData). IsCovered I c.args.row.now rows) (sym c.requires.table) h) in
    cc in
    IfOk-weaker c.is_void.result (λ void. (C : List EntryData) (V : List VoidData) → StandFor b J C V → IsTrue void ↔ IsVoid b.problem C V c.args.rule (env_of_id J c.args.row.now.env)) (λ settled. Tells b I settled c.args.rule c.args.row.now)
    (λ answer tells. tells_void b I c.args.rule c.args.row.now answer not (subst (λ (K : InternerData). (C : List EntryData) (V : List VoidData) → StandFor b K C V → IsTrue answer ↔ IsVoid b.problem C V c.args.rule (env_of_id K c.args.row.now.env)) c.is_covered.ensures.same tells))
    c.is_void.ensures.ok

pub returns-clause-same : goal.returns-clause-same
returns-clause-same c = c.is_void.ensures.same ∙ c.is_covered.ensures.same
