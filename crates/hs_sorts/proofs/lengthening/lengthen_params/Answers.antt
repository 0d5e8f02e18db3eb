use Rattle.std.proofs.Common.{◌≡◌, ◌<◌, ◌≤◌, sym, ◌∙◌, ap, subst, ℕ, ◌++◌, length, map, arith}
use Rattle.std.proofs.Math.ListN.{get_or-map}
use Rattle.std.proofs.lemmas.List.{map-set, length-map}
use Rattle.hs_scheme.specs.sorting.Sorting.{SortTree, arguments}
use Rattle.hs_scheme.specs.sorting.Lengthening.{missing}
use Rattle.hs_sorts.specs.Naming.{added_names}
use Rattle.hs_sorts.proofs.Lengthenings.{partly_long, partly_more, longer_names, all_names, arguments_long}
use Rattle.hs_sorts.proofs.lengthening.lengthen_params.Goals as goal

pub index_mut-names-requires : goal.index_mut-names-requires
index_mut-names-requires c =
    omega (
      arith,
      ap length c.loop-number.invariant,
      length-map c.loop-number.params.items (λ ns. ns.items),
      length-map c.args.params.now.items (λ ns. ns.items),
      partly_long longer_names c.loop-number.number (map (λ ns. ns.items) c.args.params.now.items) c.args.sorts.now,
      c.requires.each_rule,
      c.loop-number-test.true,
    )

pub overflow_cast-missing : goal.overflow_cast-missing
overflow_cast-missing c =
    let long = arguments_long tt c.sort.inside.args.items c.index-sorts-number.result c.sort.view_is in
    let few : length (arguments c.index-sorts-number.result) ≤ 1000 =
    subst (λ (k : SortTree). length (arguments k) ≤ 1000) (sym c.index-sorts-number.is) (c.requires.sorts c.loop-number.number c.index-sorts-number.result c.loop-number-test.true) in
    omega (arith, long, few, c.saturating_sub-missing.ensures, c.len.ensures)

pub loop-number-preserved : goal.loop-number-preserved
loop-number-preserved c =
    let long = arguments_long tt c.sort.inside.args.items c.index-sorts-number.result c.sort.view_is in
    let within : c.loop-number.number < length (map (λ ns. ns.items) c.args.params.now.items) = omega (arith, length-map c.args.params.now.items (λ ns. ns.items), c.requires.each_rule, c.loop-number-test.true) in
    let d : c.saturating_sub-missing.result ≡ missing (length c.index_mut-names.result.now.items) c.index-sorts-number.result = omega (arith, long, c.saturating_sub-missing.ensures, c.len.ensures, c.len-in-loop-number.ensures) in
    map-set (λ ns. ns.items) c.loop-number.params.items c.loop-number.number c.add_names.new.names
    ∙ partly_more longer_names c.loop-number.number (map (λ ns. ns.items) c.args.params.now.items) (map (λ ns. ns.items) c.loop-number.params.items) c.args.sorts.now c.index_mut-names.result.now.items c.add_names.new.names.items c.index-sorts-number.result
    within c.loop-number-test.true c.loop-number.invariant
    (ap (λ ns. ns.items) c.index_mut-names.ensures.value ∙ sym (get_or-map (λ ns. ns.items) c.loop-number.params.items c.loop-number.number c.index_mut-names.result.now)) c.index-sorts-number.is
    (c.in_ok-add_names.ensures ∙ ap (λ (n : ℕ). c.index_mut-names.result.now.items ++ added_names n) d)

pub returns : goal.returns
returns c = c.loop-number.invariant ∙ all_names c.loop-number.number (map (λ ns. ns.items) c.args.params.now.items) c.args.sorts.now c.loop-number-test.false
