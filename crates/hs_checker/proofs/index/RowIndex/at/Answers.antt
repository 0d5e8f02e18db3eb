use Rattle.std.proofs.Common.{◌≡◌, List, Bor, rules, take, drop, length, ◌-◌}
use Rattle.std.specs.Ordering.{is_lt}
use Rattle.std.specs.declared.cmp.Ordering.TheVariants.{Equal}
use Rattle.std.proofs.lemmas.List.Sorted.{IsPartitionPoint-from_clause}
use Rattle.hs_types.specs.Interned.{RowData}
use Rattle.hs_checker.specs.Order.{key_cmp}
use Rattle.hs_checker.proofs.Between.{parted_less, rest_parted, rest_has}
use Rattle.hs_checker.proofs.IndexLemmas.{keys_up, key_equal, picked}
use Rattle.hs_checker.proofs.StartLemmas.{split_at}
use Rattle.hs_checker.proofs.index.RowIndex.at.Goals as goal

pub returns : goal.returns
returns c =
    let rows = c.at_point-rows.result.now in
    let t = c.args.point in
    let ty = c.args.ty in
    let f : Bor RowData → RowData = λ r. r.now in
    let low = c.partition_point-from.result in
    let within = c.partition_point-from.ensures.bound in
    let rises = keys_up rows c.at_point-rows.ensures.sorted t ty in
    let point = IsPartitionPoint-from_clause (λ (r : Bor RowData). is_lt (key_cmp t ty r.now)) _ _ c.partition_point-from.ensures.partitioned (parted_less (λ (r : Bor RowData). key_cmp t ty r.now) rows rises) (λ a r q k. search rules) in
    let rest : List (Bor RowData) = take (length rows - low) (drop low rows) in
    let high = c.count_of-count.result in
    let split = split_at (λ (r : Bor RowData). key_cmp t ty r.now) rest high (rest_parted (λ (r : Bor RowData). key_cmp t ty r.now) rows rises low point within) c.count_of-count.ensures.within c.count_of-count.ensures.equal c.count_of-count.ensures.end in
    let ys : List (Bor RowData) = take high rest in
    λ e.
    let part = picked rows ys (λ (r : Bor RowData). key_cmp t ty r.now ≡ Equal) (λ (e : RowData). (e.point ≡ t) × (e.ty ≡ ty))
    (rest_has (λ (r : Bor RowData). key_cmp t ty r.now) rows rises low point within high split c.count_of-count.ensures.within)
    (λ r. key_equal t ty r.now) e in
    let at = c.at_point-rows.ensures.has e in
    (λ k. let b = part.0 k in ((at.0 b.0).0, b.1), λ b. part.1 (at.1 (b.0, b.1.0), b.1))
