use Rattle.std.proofs.Common.{◌≡◌, refl, sym, ◌∙◌, ap, subst as along, length, length-append, arith, ℕ, ◌+◌, ◌<◌, ◌++◌, List}
use Rattle.std.proofs.lemmas.Option.{slice_get_within}
use Rattle.hs_path.specs.declared.evidence.Store.{Store}
use Rattle.hs_path.specs.Stored.{Piled, GrowsStore}
use Rattle.hs_path.proofs.StoredLemmas.{begins_refl, begins_more, begins_same, piled_behind, piled_grow}
use Rattle.hs_path.proofs.adding.of_stack.Goals as goal

pub returns-clause-continuation : goal.returns-clause-continuation
returns-clause-continuation c = λ bound packs nothing within piled.
    let old : Store = c.args.store.now in
    let new : Store = record { nodes = old.nodes; owns = c.extend_from_slice.new.self; packs = old.packs; members = old.members } in
    let items : List ℕ = c.args.stack.now.items in
    let owns : List ℕ = old.owns.items in
    let n : ℕ = length owns in
    let whole : c.extend_from_slice.new.self.items ≡ owns ++ items = c.in_ok-extend_from_slice.ensures.items ∙ ap (λ (l : List ℕ). owns ++ l) c.as_slice.ensures.value in
    let g : GrowsStore old new = record {
      nodes = begins_refl old.nodes.items;
      owns = λ i x e. begins_same (owns ++ items) c.extend_from_slice.new.self.items (sym whole) i x (begins_more owns items i x e);
      packs = begins_refl old.packs.items;
      members = begins_refl old.members.items;
    } in
    let number : length old.nodes.items ≡ c.in_ok-number.field-0 = omega (arith, old.nodes.ok.0, c.len-3.ensures, c.in_ok-number.ensures) in
    let from : n + 0 ≡ c.in_ok-from.from = omega (arith, old.owns.ok.0, c.len.ensures, c.in_ok-from.ensures) in
    let to : n + length items ≡ c.in_ok-to.to = omega (arith, c.extend_from_slice.new.self.ok.0, c.len-2.ensures, c.in_ok-to.ensures, ap length whole, length-append owns items) in
    let there : 0 < length old.nodes.items = slice_get_within old.nodes.items 0 nothing.0 nothing.1 in
    let below : ℕ = c.in_ok-number.field-0 in
    let moved = piled_grow bound old new g (length old.nodes.items) below (owns ++ items) c.extend_from_slice.new.self.items (n + 0) (n + length items) packs (omega (arith, number))
    (begins_same (owns ++ items) c.extend_from_slice.new.self.items (sym whole))
    (piled_behind bound old (length old.nodes.items) owns items n 0 (length items) packs refl piled) in
    record {
      node = record {
        own = packs;
        is = refl;
        within = within;
        packs = along (λ (k : ℕ). Piled bound new below c.extend_from_slice.new.self.items k c.in_ok-to.to packs) from
            (along (λ (k : ℕ). Piled bound new below c.extend_from_slice.new.self.items (n + 0) k packs) to moved);
      };
      within = omega (arith, number);
      lowest = λ e. absurd (omega (arith, number, there));
    }
