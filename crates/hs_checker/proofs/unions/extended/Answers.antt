use Rattle.std.proofs.Common.{◌≡◌, ℕ, Contains, ◌↔◌, Bor}
use Rattle.std.specs.List.{flat_map}
use Rattle.std.proofs.lemmas.Result.{IfOk-weaker}
use Rattle.hs_table.specs.Entries.{EntryData}
use Rattle.hs_table_plain.specs.Enumeration as plain
use Rattle.hs_types.specs.Interned.{type_of_id, RowData, entry_of}
use Rattle.hs_checker.specs.Any.{AnyOf}
use Rattle.hs_checker.specs.Numbers.{entries_of, opened_by, AreEnvs, AreLong, IsJoined}
use Rattle.hs_checker.proofs.EnvLemmas.{extended_by}
use Rattle.hs_checker.proofs.UnionSteps.{rows_entries, joined_opened, any_same, rows_in, rows_for}
use Rattle.hs_checker.proofs.unions.extended.Goals as goal

pub unions_with-requires-clause-rows : goal.unions_with-requires-clause-rows
unions_with-requires-clause-rows c = rows_in c.args.types.now c.args.index.now c.at.result.now c.requires.rows (λ r k. ((c.at.ensures r).0 k).0)

pub unions_with-requires-clause-long : goal.unions_with-requires-clause-long
unions_with-requires-clause-long c =
    let n = c.requires.long.0 in
    (n, (c.requires.long.1.0, rows_for c.args.types.now c.args.index.now c.at.result.now c.args.arg n c.requires.long.1.1 (λ r k. let b = (c.at.ensures r).0 k in (b.0, b.1.0))))

pub returns-clause-range : goal.returns-clause-range
returns-clause-range c =
    IfOk-weaker c.unions_with.result _ (λ found. (n : ℕ) → AreEnvs n c.args.types.now c.args.kept.now → AreLong n (entries_of c.args.types.now c.args.index.now) c.args.arg → AreEnvs n c.unions_with.new.types found.items)
    (λ found range n all long. range n all (rows_for c.args.types.now c.args.index.now c.at.result.now c.args.arg n long (λ r k. let b = (c.at.ensures r).0 k in (b.0, b.1.0)))) c.unions_with.ensures.range

pub returns-clause-each : goal.returns-clause-each
returns-clause-each c =
    let I = c.args.types.now in
    let R = c.args.index.now in
    let rows = c.at.result.now in
    let K = c.unions_with.new.types in
    IfOk-weaker c.unions_with.result _ (λ found. (u : ℕ) (e : EntryData) → Contains (opened_by K u found.items) e
    ↔ Contains (flat_map (λ x. flat_map (plain.extended c.args.arg (type_of_id I c.args.ty) x) (entries_of I R)) (opened_by I u c.args.kept.now)) e)
    (λ found each u e.
    let value : Bor RowData → EntryData = λ r. entry_of I r.now in
    let exact = extended_by value (entries_of I R) rows c.args.arg (type_of_id I c.args.ty) (opened_by I u c.args.kept.now) (rows_entries I R rows c.args.arg c.args.ty c.know_numbers.ensures c.requires.rows c.requires.ty c.at.ensures) e in
    let same = any_same (λ (r : Bor RowData) (y : EntryData). IsJoined I u c.args.kept.now r.now y) (λ (r : Bor RowData) (y : EntryData). AnyOf (λ (x y : EntryData). y ≡ plain.joined x (value r)) (opened_by I u c.args.kept.now) y) rows e
    (λ r. joined_opened I u c.args.kept.now r.now e) in
    let own = each u e in
    (λ k. exact.0 (same.0 (own.0 k)), λ k. own.1 (same.1 (exact.1 k)))) c.unions_with.ensures.each
