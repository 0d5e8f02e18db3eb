use Rattle.std.proofs.Common.{refl, sym, subst, map, arith}
use Rattle.std.proofs.lemmas.List.{length-map}
use Rattle.hs_types.specs.Interned.{RowData, IsRow, entry_of}
use Rattle.hs_types.proofs.ListLemmas.{made_all, made_long}
use Rattle.hs_types.proofs.RowLemmas.{rows_known, rows_same}
use Rattle.hs_types.proofs.Numbers.{Grows-trans}
use Rattle.hs_types.proofs.nodes.Nodes.import_rows.Goals as goal

pub loop-row-preserved : goal.loop-row-preserved
loop-row-preserved c =
    let J = c.loop-row.self in
    let K = c.import_row.new.self in
    let g = c.import_row.ensures.grows in
    let h = c.loop-row.invariant in
    let own = c.in_ok-import_row.field-0 in
    record {
      grows = Grows-trans c.args.self.now J K h.grows g;
      found = c.import_row.ensures.found;
      known = rows_known J K g c.loop-row.own.items c.push_reserved.new.self.items own h.known c.in_ok-import_row.ensures.row c.push_reserved.ensures.items;
      same = rows_same J K c.args.from.now g c.loop-row.own.items c.push_reserved.new.self.items c.args.rows.now own c.row-item.result c.loop-row.row-index
          h.known h.same c.in_ok-import_row.ensures.entry c.loop-row-test.true c.row-item.is c.push_reserved.ensures.items;
      room = omega (arith, c.push_reserved.ensures.capacity, c.loop-row.invariant.room);
    }

pub import_row-requires-clause-row : goal.import_row-requires-clause-row
import_row-requires-clause-row c = subst (λ (r : RowData). IsRow c.args.from.now r) (sym c.row-item.is) (c.requires.rows c.loop-row.row-index c.row-item.result c.loop-row-test.true)

pub returns-in_err-import_row-clause-grows : goal.returns-in_err-import_row-clause-grows
returns-in_err-import_row-clause-grows c = Grows-trans c.args.self.now c.loop-row.self c.import_row.new.self c.loop-row.invariant.grows c.import_row.ensures.grows

pub push_reserved-requires : goal.push_reserved-requires
push_reserved-requires c =
    let own = c.loop-row.own.items in
    let long = made_long (entry_of c.args.from.now) c.args.rows.now (map (entry_of c.loop-row.self) own) c.loop-row.row-index c.loop-row.invariant.same in
    omega (arith, c.loop-row.own.ok, long, length-map own (entry_of c.loop-row.self), c.loop-row.invariant.room, c.loop-row-test.true)

pub returns-clause-entries : goal.returns-clause-entries
returns-clause-entries c =
    made_all (entry_of c.args.from.now) c.args.rows.now (map (entry_of c.loop-row.self) c.loop-row.own.items) (map (entry_of c.args.from.now) c.args.rows.now) c.loop-row.row-index c.loop-row.invariant.same (omega (arith, c.loop-row-test.false)) refl
