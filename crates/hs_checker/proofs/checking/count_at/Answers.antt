use Rattle.std.proofs.Common.{◌≡◌, sym, ◌∙◌, subst, ℕ, List, length, Contains, ◌↔◌, arith}
use Rattle.hs_scheme.proofs.Lists.{match_none, match_some}
use Rattle.hs_table.specs.Types.{TypeTree}
use Rattle.hs_table.specs.Entries.{EntryData}
use Rattle.hs_table.specs.Follows.{Follows}
use Rattle.hs_table.specs.Tables.{IsInstance}
use Rattle.hs_types.specs.Interned.{type_of_id}
use Rattle.hs_types.proofs.Numbers.{Grows-refl, Grows-trans}
use Rattle.hs_checker.specs.Numbers.{entries_of, trees_of, AreTypes}
use Rattle.hs_checker.specs.Slots.{AreInShape}
use Rattle.hs_checker.specs.Checked.{IsMissing}
use Rattle.hs_checker.proofs.IndexLemmas.{length-map}
use Rattle.hs_checker.proofs.NumberLemmas.{rows_grow, entries_stay, types_apart}
use Rattle.hs_checker.proofs.InertLemmas.{inert_follows, inert_count}
use Rattle.hs_checker.proofs.checking.count_at.Goals as goal

pub returns-then-is_marked : goal.returns-then-is_marked
returns-then-is_marked c =
    let E = entries_of c.args.types.now c.args.index.now in
    let own = c.requires.inert c.args.point (c.is_marked.ensures.0 c.if-is_marked.true) in
    record {
      closed = λ e at f. absurd (inert_follows c.args.problem.now E c.args.point own e at f);
      count = inert_count c.args.problem.now E c.args.point own;
      missing = tt;
      grows = Grows-refl c.args.types.now;
    }

pub missing_at-requires-clause-rows : goal.missing_at-requires-clause-rows
missing_at-requires-clause-rows c = rows_grow c.args.types.now c.instances.new.types c.in_ok-all.ensures.grows c.args.index.now c.requires.rows

pub missing_at-requires-clause-shape : goal.missing_at-requires-clause-shape
missing_at-requires-clause-shape c = subst (λ (F : List EntryData). AreInShape c.args.problem.now F) (sym (entries_stay c.args.types.now c.instances.new.types c.in_ok-all.ensures.grows c.args.index.now c.requires.rows)) c.requires.shape

pub missing_at-requires-clause-range : goal.missing_at-requires-clause-range
missing_at-requires-clause-range c = subst (λ (ts : List ℕ). AreTypes c.instances.new.types ts) (sym c.as_slice.ensures.value) c.in_ok-all.ensures.range

pub missing_at-requires-clause-types : goal.missing_at-requires-clause-types
missing_at-requires-clause-types c =
    let stay = entries_stay c.args.types.now c.instances.new.types c.in_ok-all.ensures.grows c.args.index.now c.requires.rows in
    subst (λ (ts : List ℕ). (t : TypeTree) → Contains (trees_of c.instances.new.types ts) t ↔ IsInstance c.args.problem.now (entries_of c.instances.new.types c.args.index.now) c.args.point t) (sym c.as_slice.ensures.value)
    (subst (λ (F : List EntryData). (t : TypeTree) → Contains (trees_of c.instances.new.types c.in_ok-all.all.items) t ↔ IsInstance c.args.problem.now F c.args.point t) (sym stay) c.in_ok-all.ensures.each)

pub returns : goal.returns
returns c =
    let p = c.args.problem.now in
    let I = c.args.types.now in
    let J = c.instances.new.types in
    let R = c.args.index.now in
    let E = entries_of I R in
    let g = c.in_ok-all.ensures.grows in
    let stay = entries_stay I J g R c.requires.rows in
    let all = c.in_ok-all.all.items in
    let long : c.len.result ≡ length all = omega (arith, c.len.ensures, c.in_ok-all.all.ok.0) in
    let none = match_none c.in_ok-row.field-0 _ _ c.in-None.is c.in_ok-row.ensures.missing in
    record {
      closed = λ e at f. subst (λ (F : List EntryData). Contains F e) stay (none e at (subst (λ (F : List EntryData). Follows p F e) (sym stay) f));
      count = record {
        types = trees_of J all;
        distinct = types_apart J c.know_numbers.ensures all c.in_ok-all.ensures.range c.in_ok-all.ensures.once;
        exact = c.in_ok-all.ensures.each;
        count = long ∙ sym (length-map (type_of_id J) all);
      };
      missing = tt;
      grows = Grows-trans I J c.missing_at.new.types g c.in_ok-row.ensures.grows;
    }

pub returns-in-Some-clause-missing : goal.returns-in-Some-clause-missing
returns-in-Some-clause-missing c =
    let p = c.args.problem.now in
    let stay = entries_stay c.args.types.now c.instances.new.types c.in_ok-all.ensures.grows c.args.index.now c.requires.rows in
    let some = match_some c.in_ok-row.field-0 c.in-Some.row _ _ c.in-Some.is c.in_ok-row.ensures.missing in
    subst (λ (F : List EntryData). IsMissing p F c.in_ok-entry-in-Some.entry) stay
    (subst (λ (e : EntryData). IsMissing p (entries_of c.instances.new.types c.args.index.now) e) (sym c.in_ok-entry-in-Some.ensures) some.1)
