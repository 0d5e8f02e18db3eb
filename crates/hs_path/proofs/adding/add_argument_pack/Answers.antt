use Rattle.std.proofs.Common.{◌≡◌, sym, subst as along, length, arith, ℕ, ◌+◌, ◌-◌, ◌<◌, get_or, drop}
use Rattle.std.proofs.lemmas.Option.{slice_get-get_or}
use Rattle.hs_verdict.specs.Evidence.{Pack}
use Rattle.hs_verdict.specs.Naming.{chosen_pack}
use Rattle.hs_path.specs.declared.evidence.Store.{Store}
use Rattle.hs_path.specs.Stored.{Stands, Members, GrowsStore}
use Rattle.hs_path.proofs.StoredLemmas.{begins_refl, begins_pushed, grows_then, stands_grow}
use Rattle.hs_path.proofs.AddingLemmas.{also_pushed, chosen_from}
use Rattle.hs_path.proofs.adding.add_argument_pack.Goals as goal

pub loop-at-preserved-in_ok-push : goal.loop-at-preserved-in_ok-push
loop-at-preserved-in_ok-push c =
    let old : Store = c.args.store.now in
    let s : Store = c.loop-at.store in
    let new : Store = record { nodes = s.nodes; owns = s.owns; packs = s.packs; members = c.push.new.self } in
    let inv = c.loop-at.invariant in
    let items = c.in_ok-push.ensures.items in
    let g : GrowsStore s new = record {
      nodes = begins_refl s.nodes.items;
      owns = begins_refl s.owns.items;
      packs = begins_refl s.packs.items;
      members = begins_pushed s.members.items c.push.new.self.items _ items;
    } in
    let chosen = c.args.chosen.now in
    let k : ℕ = c.loop-at.at - 1 in
    let lt : k < length chosen = omega (arith, c.loop-at-test.true, inv.within) in
    let next : c.loop-at.at ≡ k + 1 = omega (arith, c.loop-at-test.true) in
    let n : ℕ = length old.nodes.items in
    let number : c.args.first + k ≡ c.in_ok-number.field-0 = sym c.in_ok-number.ensures in
    let lower : c.in_ok-number.field-0 < n = omega (arith, number, lt, c.requires) in
    record {
      grows = grows_then old s new inv.grows g;
      nodes = inv.nodes;
      within = omega (arith, inv.within);
      made = λ bound give are.
          let choice = get_or chosen k (0, 0) in
          let stands = stands_grow bound old s inv.grows c.in_ok-number.field-0 (give choice.1)
          (along (λ (m : ℕ). Stands bound old m (give choice.1)) number (are.each k choice.0 choice.1 (slice_get-get_or chosen k (0, 0) lt))) in
          let rest = along (λ (m : ℕ). Members bound s n c.in_ok-from.from (length s.members.items) (chosen_pack give c.args.argument (drop m chosen))) next (inv.made bound give are) in
          along (λ (p : Pack). Members bound new n c.in_ok-from.from (length new.members.items) p) (sym (chosen_from give c.args.argument chosen k lt c.if-chosen-at.true))
          (also_pushed bound s new g n c.in_ok-from.from c.in_ok-number.field-0 (give choice.1) (chosen_pack give c.args.argument (drop (k + 1) chosen)) items lower stands rest);
    }
