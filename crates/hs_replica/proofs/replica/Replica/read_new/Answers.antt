use Rattle.std.proofs.Common.{◌≡◌, sym, ◌∙◌, ap, subst, List, length, map, take, drop, ◌-◌, All, arith}
use mathlib.Core.List.{IsPrefix}
use Rattle.hs_table.specs.Entries.{EntryData}
use Rattle.std.proofs.lemmas.List.{length-map, take_rest}
use Rattle.std.proofs.Math.Nat.{le-max_right}
use Rattle.indexmap.specs.IndexSet.{spare}
use Rattle.hs_types.specs.Interned.{InternerData, IsRow, entry_of}
use Rattle.hs_replica.specs.Replica.{ReplicaData, IsReplica}
use Rattle.hs_replica.specs.Extending.{CanExtend, extended}
use Rattle.hs_replica.specs.Index.{log_of, list_at}
use Rattle.hs_replica.proofs.KeptLemmas.{kept_grows, log_stays, is_replica}
use Rattle.hs_replica.proofs.ExtendLemmas.{read_whole, read_fits}
use Rattle.hs_replica.proofs.replica.Replica.read_new.Goals as goal

pub invariant_of-self : goal.invariant_of-self
invariant_of-self c =
    let a = c.self.inside in
    kept_grows a.interner c.import_rows.new.self c.import_rows.ensures.grows a.rows.keys (spare a.rows) a.reserved a.indexed a.by_type.items a.asked.items (list_at a.lists) c.self.invariant

pub invariant_of-self-2 : goal.invariant_of-self-2
invariant_of-self-2 c =
    let a = c.self.inside in
    kept_grows a.interner c.import_rows.new.self c.import_rows.ensures.grows a.rows.keys (spare a.rows) a.reserved a.indexed a.by_type.items a.asked.items (list_at a.lists) c.self.invariant

pub returns-in_err-rows-clause-log : goal.returns-in_err-rows-clause-log
returns-in_err-rows-clause-log c =
    let a = c.self.inside in
    log_stays a.interner c.import_rows.new.self c.import_rows.ensures.grows a.rows.keys c.self.invariant.known ∙ ap (λ (r : ReplicaData). r.log) c.self.view_is

pub returns-in_err-make_room-clause-log : goal.returns-in_err-make_room-clause-log
returns-in_err-make_room-clause-log c =
    let a = c.self.inside in
    ap (λ (r : ReplicaData). r.log) c.in_err-make_room.ensures.err
    ∙ log_stays a.interner c.import_rows.new.self c.import_rows.ensures.grows a.rows.keys c.self.invariant.known ∙ ap (λ (r : ReplicaData). r.log) c.self.view_is

pub returns-clause-log : goal.returns-clause-log
returns-clause-log c =
    let a = c.self.inside in
    ap (λ (r : ReplicaData). r.log) c.in_ok-make_room.ensures.ok
    ∙ log_stays a.interner c.import_rows.new.self c.import_rows.ensures.grows a.rows.keys c.self.invariant.known ∙ ap (λ (r : ReplicaData). r.log) c.self.view_is

-- what was read, upon the replica with room
module _ (c : goal.In_ok-make_room) where
  abbrev new : ReplicaData
  new = c.make_room.new.self

  ids_are : new.ids ≡ c.import_rows.new.self
  ids_are = ap (λ (r : ReplicaData). r.ids) c.in_ok-make_room.ensures.ok

  log_is : new.log ≡ c.args.self.now.log
  log_is = returns-clause-log c

  long : c.len-begin.result ≡ length new.log
  long =
      let a = c.self.inside in
      let same : length (log_of a.interner a.rows.keys) ≡ length c.args.self.now.log = ap (λ (r : ReplicaData). length r.log) c.self.view_is in
      omega (arith, c.len-begin.ensures.len, length-map a.rows.keys (entry_of a.interner), same, ap (λ (log : List EntryData). length log) log_is)

  others_log : c.args.from.now.log ≡ map (entry_of c.from.inside.interner) c.as_slice.result.now
  others_log = sym (ap (λ (r : ReplicaData). r.log) c.from.view_is) ∙ ap (log_of c.from.inside.interner) (sym c.as_slice.ensures.keys)

  others : IsReplica c.args.from.now
  others =
      let f = c.from.inside in
      is_replica f.interner f.rows.keys (spare f.rows) f.reserved f.indexed f.by_type.items f.asked.items (list_at f.lists) c.from.invariant c.args.from.now c.from.view_is

  begins : IsPrefix new.log c.args.from.now.log
  begins = subst (λ (xs : List EntryData). IsPrefix xs c.args.from.now.log) (sym log_is) c.requires

  entries : map (entry_of new.ids) c.in_ok-rows.rows.items ≡ map (entry_of c.from.inside.interner) (drop c.len-begin.result c.as_slice.result.now)
  entries =
      ap (λ (ids : InternerData). map (entry_of ids) c.in_ok-rows.rows.items) ids_are ∙ (c.in_ok-rows.ensures.entries ∙ ap (λ (ids : InternerData). map (entry_of ids) (take (length c.as_slice.result.now - c.len-begin.result) (drop c.len-begin.result c.as_slice.result.now))) c.interner.ensures)
      ∙ ap (map (entry_of c.from.inside.interner)) (take_rest c.as_slice.result.now c.len-begin.result)

  read : extended new c.in_ok-rows.rows.items ≡ c.args.from.now.log
  read = read_whole new c.args.from.now (entry_of c.from.inside.interner) c.in_ok-rows.rows.items c.as_slice.result.now c.len-begin.result others others_log begins long entries

  fits : CanExtend new c.in_ok-rows.rows.items
  fits =
      read_fits new c.args.from.now (entry_of c.from.inside.interner) c.in_ok-rows.rows.items c.as_slice.result.now c.len-begin.result others others_log begins long entries
      (subst (λ (ids : InternerData). All (IsRow ids) c.in_ok-rows.rows.items) (sym ids_are) c.in_ok-rows.ensures.rows)
      (omega (arith, ap (λ (r : ReplicaData). r.spare) c.in_ok-make_room.ensures.ok, le-max_right c.self.inside.reserved (length c.in_ok-rows.rows.items), c.len.ensures))

pub returns-clause-whole : goal.returns-clause-whole
returns-clause-whole c = read c

pub returns-clause-fits : goal.returns-clause-fits
returns-clause-fits c = fits c
