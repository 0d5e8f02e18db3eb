use Rattle.std.proofs.Common.{sym, subst, List, Contains, ◌↔◌, ◌⊎◌, Bor}
use Rattle.std.proofs.lemmas.List.{take_all}
use Rattle.hs_table.specs.Types.{TypeTree}
use Rattle.hs_table.specs.Entries.{EntryData}
use Rattle.hs_table_plain.specs.Enumeration.{body_type}
use Rattle.hs_table_laws.proofs.Members.{into_map}
use Rattle.hs_types.specs.Interned.{RowData, entry_of}
use Rattle.hs_types.proofs.Numbers.{Grows-trans, row_within, row_stays}
use Rattle.hs_checker.specs.Any.{AnyOf}
use Rattle.hs_checker.specs.Numbers.{entries_of, trees_of}
use Rattle.hs_checker.proofs.AnyLemmas.{any_step}
use Rattle.hs_checker.proofs.TypeLemmas.{body_types}
use Rattle.hs_checker.proofs.RowLemmas.{entries_at}
use Rattle.hs_checker.proofs.UnionSteps.{rows_in, row_of}
use Rattle.hs_checker.proofs.heads.body_types.Goals as goal

pub add_body_type-requires-clause-row : goal.add_body_type-requires-clause-row
add_body_type-requires-clause-row c =
    let I = c.args.types.now in
    let rows = c.at_point-row-items.result.now in
    let own = row_of I rows c.loop-row.row-index c.row-item.result c.loop-row-test.true c.row-item.is (rows_in I c.args.index.now rows c.requires (λ r k. ((c.at_point-row-items.ensures.has r).0 k).0)) in
    row_within I c.loop-row.types c.loop-row.invariant.grows c.row-item.result.now own

pub loop-row-preserved : goal.loop-row-preserved
loop-row-preserved c =
    let I = c.args.types.now in
    let J = c.loop-row.types in
    let K = c.add_body_type.new.types in
    let h = c.loop-row.invariant in
    let b = c.args.body in
    let rows = c.at_point-row-items.result.now in
    let r = c.row-item.result in
    let own = row_of I rows c.loop-row.row-index r c.loop-row-test.true c.row-item.is (rows_in I c.args.index.now rows c.requires (λ r k. ((c.at_point-row-items.ensures.has r).0 k).0)) in
    let at = ((c.at_point-row-items.ensures.has r.now).0 (into_map (λ (r : Bor RowData). r.now) rows r (c.loop-row.row-index, c.loop-row-test.true, sym c.row-item.is))).1 in
    let gained = c.in_ok-add_body_type.ensures b at in
    let news = c.add_body_type.new.found.items in
    record {
      grows = Grows-trans I J K h.grows gained.grows;
      range = gained.range;
      each =
          any_step (λ (r : Bor RowData) (t : TypeTree). Contains (body_type b (entry_of I r.now)) t) rows c.loop-row.row-index r c.loop-row-test.true c.row-item.is
          (λ t. Contains (trees_of J c.loop-row.found.items) t) (λ t. Contains (trees_of K news) t)
          (λ t. subst (λ (x : EntryData). Contains (trees_of K news) t ↔ (Contains (trees_of J c.loop-row.found.items) t ⊎ Contains (body_type b x) t)) (row_stays I J h.grows r.now own) (gained.exact t))
          h.each;
    }

pub returns-clause-each : goal.returns-clause-each
returns-clause-each c = λ t.
    let I = c.args.types.now in
    let rows = c.at_point-row-items.result.now in
    let value : Bor RowData → EntryData = λ r. entry_of I r.now in
    let all = subst (λ (rs : List (Bor RowData)). Contains (trees_of c.loop-row.types c.loop-row.found.items) t ↔ AnyOf (λ (r : Bor RowData) (t : TypeTree). Contains (body_type c.args.body (value r)) t) rs t)
    (take_all c.loop-row.row-index rows c.loop-row-test.false) (c.loop-row.invariant.each t) in
    let said = body_types value (entries_of I c.args.index.now) rows c.args.body (entries_at I c.args.index.now rows c.args.body c.at_point-row-items.ensures.has) t in
    (λ k. said.0 (all.0 k), λ k. all.1 (said.1 k))
