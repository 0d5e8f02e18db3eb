use Rattle.std.proofs.Common.{◌≡◌, ◌≢◌, sym, ◌∙◌, subst, AllPairs, Contains, ◌⊎◌, ◌↔◌, List, [], ◌∷◌, take, arith}
use Rattle.std.specs.List.{flat_map}
use Rattle.std.proofs.lemmas.List.{take_all}
use Rattle.hs_scheme.proofs.Lists.{none_in}
use Rattle.hs_table.specs.Types.{TypeTree}
use Rattle.hs_table.specs.Entries.{EntryData, params_of}
use Rattle.hs_table_plain.specs.Enumeration as plain
use Rattle.hs_table_plain.proofs.Members.{next_gives, two_steps}
use Rattle.hs_table_plain.proofs.following.gathered.Goals as goal

pub loop-ty-init : goal.loop-ty-init
loop-ty-init c = record {
  once = subst (λ (xs : List EntryData). AllPairs (λ a b. a ≢ b) xs) (sym c.new-found.ensures.items) (λ i j d lt below. absurd (omega arith));
  each = λ e. (λ k. absurd (none_in e (subst (λ (xs : List EntryData). Contains xs e) c.new-found.ensures.items k)), λ k. absurd (none_in e k));
}

pub add_typed-requires : goal.add_typed-requires
add_typed-requires c = c.loop-ty.invariant.once

pub returns-clause-once : goal.returns-clause-once
returns-clause-once c = c.loop-ty.invariant.once

pub loop-ty-preserved : goal.loop-ty-preserved
loop-ty-preserved c = record {
  once = c.in_ok-add_typed.ensures.once;
  each = λ e.
      let added = subst (λ (s : EntryData). Contains c.add_typed.new.found.items e ↔ (Contains c.loop-ty.found.items e ⊎ Contains (plain.through c.args.log.now c.args.args.now c.ty-item.result (s ∷ [])) e))
      c.in_ok-start.ensures (c.in_ok-add_typed.ensures.each e) in
      two_steps _ _ _ _ _ added (c.loop-ty.invariant.each e)
      (next_gives (λ (t : TypeTree). plain.through c.args.log.now c.args.args.now t (plain.opening c.args.point c.parameters-params.result c.args.head t ∷ [])) c.deref-ty-items.result.now c.loop-ty.ty-index
      c.ty-item.result e c.loop-ty-test.true c.ty-item.is);
}

pub returns-clause-each : goal.returns-clause-each
returns-clause-each c = λ e.
    let items = take_all c.loop-ty.ty-index c.deref-ty-items.result.now c.loop-ty-test.false ∙ (c.deref-ty-items.ensures.value ∙ c.in_ok-types.ensures) in
    let whole : flat_map (λ (t : TypeTree). plain.through c.args.log.now c.args.args.now t (plain.opening c.args.point c.parameters-params.result c.args.head t ∷ [])) (take c.loop-ty.ty-index c.deref-ty-items.result.now)
    ≡ plain.all_at c.args.problem.now c.args.log.now c.args.point c.args.rule (params_of c.args.problem.now c.args.rule) c.args.head c.args.args.now =
    λ i. flat_map (λ (t : TypeTree). plain.through c.args.log.now c.args.args.now t (plain.opening c.args.point (c.parameters-params.ensures i) c.args.head t ∷ [])) (items i) in
    subst (λ (xs : List EntryData). Contains c.loop-ty.found.items e ↔ Contains xs e) whole (c.loop-ty.invariant.each e)
