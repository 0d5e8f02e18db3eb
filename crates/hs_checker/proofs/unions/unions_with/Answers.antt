use Rattle.std.proofs.Common.{◌≡◌, sym, ◌∙◌, ap, subst, List, length, Contains, ◌↔◌, Bor}
use Rattle.std.proofs.lemmas.List.{take_all}
use Rattle.hs_table.specs.Entries.{EntryData}
use Rattle.hs_types.specs.Interned.{env_of_id, RowData}
use Rattle.hs_types.proofs.Numbers.{Grows-trans, env_stays, row_within}
use Rattle.hs_checker.specs.Any.{AnyOf}
use Rattle.hs_checker.specs.Numbers.{opened_by, AreEnvs, IsJoined}
use Rattle.hs_checker.proofs.AnyLemmas.{any_step}
use Rattle.hs_checker.proofs.NumberLemmas.{envs_grow}
use Rattle.hs_checker.proofs.TypeLemmas.{or_same}
use Rattle.hs_checker.proofs.UnionSteps.{joined_stays, row_of, opened_same, envs_same_numbers}
use Rattle.hs_checker.proofs.unions.unions_with.Goals as goal

pub add_unions-requires-clause-row : goal.add_unions-requires-clause-row
add_unions-requires-clause-row c =
    let I = c.args.types.now in
    row_within I c.loop-row.types c.loop-row.invariant.grows c.row-item.result.now (row_of I c.args.rows.now c.loop-row.row-index c.row-item.result c.loop-row-test.true c.row-item.is c.requires.rows)

pub add_unions-requires-clause-kept : goal.add_unions-requires-clause-kept
add_unions-requires-clause-kept c =
    let I = c.args.types.now in
    let J = c.loop-row.types in
    let g = c.loop-row.invariant.grows in
    let r = c.row-item.result in
    let own = row_of I c.args.rows.now c.loop-row.row-index r c.loop-row-test.true c.row-item.is c.requires.rows in
    let n = c.requires.long.0 in
    let long : length (env_of_id J r.now.env) ≡ n = ap length (env_stays I J g r.now.env own.0) ∙ c.requires.long.1.1 r (c.loop-row.row-index, c.loop-row-test.true, sym c.row-item.is) in
    subst (λ m. AreEnvs m J c.args.kept.now) (sym long) (envs_grow I J g n c.args.kept.now c.requires.long.1.0)

pub add_unions-requires-clause-found : goal.add_unions-requires-clause-found
add_unions-requires-clause-found c =
    let I = c.args.types.now in
    let J = c.loop-row.types in
    let g = c.loop-row.invariant.grows in
    let r = c.row-item.result in
    let own = row_of I c.args.rows.now c.loop-row.row-index r c.loop-row-test.true c.row-item.is c.requires.rows in
    let n = c.requires.long.0 in
    let long : length (env_of_id J r.now.env) ≡ n = ap length (env_stays I J g r.now.env own.0) ∙ c.requires.long.1.1 r (c.loop-row.row-index, c.loop-row-test.true, sym c.row-item.is) in
    subst (λ m. AreEnvs m J c.loop-row.found.items) (sym long) (c.loop-row.invariant.range n c.requires.long.1.0 c.requires.long.1.1)

pub loop-row-preserved : goal.loop-row-preserved
loop-row-preserved c =
    let I = c.args.types.now in
    let J = c.loop-row.types in
    let K = c.add_unions.new.types in
    let h = c.loop-row.invariant in
    let r = c.row-item.result in
    let there : Contains c.args.rows.now r = (c.loop-row.row-index, c.loop-row-test.true, sym c.row-item.is) in
    let own = row_of I c.args.rows.now c.loop-row.row-index r c.loop-row-test.true c.row-item.is c.requires.rows in
    let added = c.in_ok-add_unions.ensures in
    let thinned = c.in_ok-room.ensures in
    record {
      grows = Grows-trans I J K h.grows added.grows;
      range = λ n all rows.
          envs_same_numbers n K c.thin_past.new.found.items c.add_unions.new.found.items (λ k. (thinned k).0)
          (subst (λ m. AreEnvs m K c.add_unions.new.found.items) (ap length (env_stays I J h.grows r.now.env own.0) ∙ rows r there) added.range);
      each = λ u e.
          any_step (λ (r : Bor RowData) (y : EntryData). IsJoined I u c.args.kept.now r.now y) c.args.rows.now c.loop-row.row-index r c.loop-row-test.true c.row-item.is
          (λ e. Contains (opened_by J u c.loop-row.found.items) e) (λ e. Contains (opened_by K u c.thin_past.new.found.items) e)
          (λ e.
          let same = opened_same K u c.thin_past.new.found.items c.add_unions.new.found.items thinned e in
          let more = or_same _ _ _ _ (added.each u e) (joined_stays I J h.grows c.requires.long.0 u c.args.kept.now r.now c.requires.long.1.0 own e) in
          (λ k. more.0 (same.0 k), λ k. same.1 (more.1 k)))
          (h.each u) e;
    }

pub returns-clause-range : goal.returns-clause-range
returns-clause-range c = λ n all rows.
    envs_same_numbers n c.loop-row.types c.thin.new.found.items c.loop-row.found.items (λ k. (c.in_ok-thin.ensures k).0) (c.loop-row.invariant.range n all rows)

pub returns-clause-each : goal.returns-clause-each
returns-clause-each c = λ u e.
    let rows = c.args.rows.now in
    let all = subst (λ (rs : List (Bor RowData)). Contains (opened_by c.loop-row.types u c.loop-row.found.items) e ↔ AnyOf (λ (r : Bor RowData) (y : EntryData). IsJoined c.args.types.now u c.args.kept.now r.now y) rs e)
    (take_all c.loop-row.row-index rows c.loop-row-test.false) (c.loop-row.invariant.each u e) in
    let same = opened_same c.loop-row.types u c.thin.new.found.items c.loop-row.found.items c.in_ok-thin.ensures e in
    (λ k. all.0 (same.0 k), λ k. same.1 (all.1 k))
