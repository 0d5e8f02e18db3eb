use Rattle.std.proofs.Common.{rules, ◌≡◌, ◌∙◌, ap, sym, ◌++◌, [], ◌∷◌, Some, map, slice_set}
use Rattle.std.specs.Map.Iter.{deref_pair}
use Rattle.std.proofs.lemmas.Map.Iter.{rest_more, rest_all}
use Rattle.std.proofs.lemmas.List.{append-nil}
use Rattle.hs_resolve.proofs.Values.{value_by, no-values, next-taken, value-absent, value-put, all-values}
use Rattle.hs_resolve.proofs.name_index.values_of.Goals as goal

pub loop-name-init : goal.loop-name-init
loop-name-init c =
    let items = c.in_ok-values.ensures.items_if_clones_equal (λ y h. search rules) in (
      [],
      sym c.iter-name-items.ensures.rest ∙ sym c.into_iter-name-iterator.ensures.into_iter_gives,
      no-values c.args.names.now.keys c.len.result c.in_ok-values.values.items items c.len.ensures.len,
    )

pub loop-name-preserved-in-Some-get_index_of : goal.loop-name-preserved-in-Some-get_index_of
loop-name-preserved-in-Some-get_index_of c =
    let name = c.in-Some.name.now in
    let value = c.in-Some.value.now in
    let place = c.in-Some-get_index_of.number in
    let before = c.loop-name.invariant in
    let rest = rest_more deref_pair c.loop-name.name-iterator c.next.new.self c.next.result (c.in-Some.name, c.in-Some.value) c.in-Some.is c.next.ensures.steps in (
      before.0 ++ (name, value) ∷ [],
      next-taken before.0 (name, value) c.next.new.self before.1 rest,
      ap (λ values. slice_set values place (Some value)) before.2
          ∙ value-put c.args.names.now.keys before.0 name value place c.len.ensures.unique (sym c.get_index_of.ensures.index ∙ c.in-Some-get_index_of.is),
    )

pub loop-name-preserved : goal.loop-name-preserved
loop-name-preserved c =
    let name = c.in-Some.name.now in
    let value = c.in-Some.value.now in
    let before = c.loop-name.invariant in
    let rest = rest_more deref_pair c.loop-name.name-iterator c.next.new.self c.next.result (c.in-Some.name, c.in-Some.value) c.in-Some.is c.next.ensures.steps in (
      before.0 ++ (name, value) ∷ [],
      next-taken before.0 (name, value) c.next.new.self before.1 rest,
      before.2 ∙ value-absent c.args.names.now.keys before.0 name value (sym c.get_index_of.ensures.index ∙ c.in_default.is),
    )

pub returns : goal.returns
returns c =
    let before = c.loop-name.invariant in
    let rest = rest_all deref_pair c.loop-name.name-iterator c.next.new.self c.next.result c.in-None.is c.next.ensures.steps in
    let all : c.args.table.now.entries ≡ before.0 = before.1 ∙ (ap (λ es. before.0 ++ es) rest ∙ append-nil before.0) in
    before.2 ∙ (ap (λ es. map (value_by es) c.args.names.now.keys) (sym all) ∙ all-values c.args.names.now.keys c.args.table.now.entries c.iter-name-items.ensures.unique)
