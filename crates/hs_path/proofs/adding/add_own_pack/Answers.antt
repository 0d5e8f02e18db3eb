use Rattle.std.proofs.Common.{◌≡◌, sym, subst as along, length, arith, ℕ, ◌+◌, ◌-◌, ◌<◌, List, map, drop}
use Rattle.hs_table.specs.Types.{TypeTree}
use Rattle.hs_table.specs.Entries.{entry_at}
use Rattle.hs_types.specs.Interned.{type_of_id}
use Rattle.hs_verdict.specs.Evidence.{Evidence, Pack, own_evidence, pack_for}
use Rattle.hs_core.specs.Core.{log_of}
use Rattle.hs_path.specs.declared.evidence.Store.{Store}
use Rattle.hs_path.specs.Stored.{Members, IsPack, GrowsStore}
use Rattle.hs_path.proofs.StoredLemmas.{begins_refl, begins_pushed, grows_then}
use Rattle.hs_path.proofs.AddingLemmas.{knows_grow, also_pushed, types_from}
use Rattle.hs_path.proofs.adding.add_own_pack.Goals as goal

pub loop-at-preserved : goal.loop-at-preserved
loop-at-preserved c =
    let T = log_of c.args.core.now in
    let b = length T in
    let s : Store = c.loop-at.store in
    let new : Store = record { nodes = s.nodes; owns = s.owns; packs = s.packs; members = c.push.new.self } in
    let inv = c.loop-at.invariant in
    let items = c.in_ok-push.ensures.items in
    let g : GrowsStore s new = record {
      nodes = begins_refl s.nodes.items;
      owns = begins_refl s.owns.items;
      packs = begins_refl s.packs.items;
      members = begins_pushed s.members.items c.push.new.self.items _ items;
    } in
    let ids : List ℕ = c.asked-types.result.now in
    let f : ℕ → TypeTree = type_of_id c.args.core.now.ids in
    let k : ℕ = c.loop-at.at - 1 in
    let x : ℕ = c.index-types-at.result in
    let lt : k < length ids = omega (arith, c.loop-at-test.true, inv.within) in
    let next : c.loop-at.at ≡ k + 1 = omega (arith, c.loop-at-test.true) in
    record {
      grows = grows_then c.args.store.now s new inv.grows g;
      owns = inv.owns;
      nodes = inv.nodes;
      within = omega (arith, inv.within);
      made = λ below own known.
          let give : TypeTree → Evidence = own_evidence (entry_at T c.args.node.place).env own c.args.param in
          let ev = c.own_evidence-evidence.ensures below own (knows_grow b c.args.store.now s inv.grows below below c.args.node own (omega arith) known) in
          let rest = along (λ (n : ℕ). Members b s below c.in_ok-from.from (length s.members.items) (pack_for give (map f (drop n ids)))) next (inv.made below own known) in
          along (λ (p : Pack). Members b new below c.in_ok-from.from (length new.members.items) p) (sym (types_from give f ids k x lt c.index-types-at.is))
          (also_pushed b s new g below c.in_ok-from.from c.own_evidence-evidence.result (give (f x)) (pack_for give (map f (drop (k + 1) ids))) items ev.0 ev.1 rest);
    }

pub returns-clause-grows : goal.returns-clause-grows
returns-clause-grows c = grows_then c.args.store.now c.loop-at.store c.close_pack.new.self c.loop-at.invariant.grows c.in_ok-pack.ensures.grows

pub returns-clause-pack : goal.returns-clause-pack
returns-clause-pack c = λ below own known.
    let T = log_of c.args.core.now in
    let b = length T in
    let s : Store = c.loop-at.store in
    let ids : List ℕ = c.asked-types.result.now in
    let f : ℕ → TypeTree = type_of_id c.args.core.now.ids in
    let give : TypeTree → Evidence = own_evidence (entry_at T c.args.node.place).env own c.args.param in
    let none : c.loop-at.at ≡ 0 = omega (arith, c.loop-at-test.false) in
    let whole = along (λ (n : ℕ). Members b s below c.in_ok-from.from (length s.members.items) (pack_for give (map f (drop n ids)))) none (c.loop-at.invariant.made below own known) in
    along (λ (types : List TypeTree). IsPack b c.close_pack.new.self below c.in_ok-pack.pack (pack_for give types)) c.asked-types.ensures.types
    (c.in_ok-pack.ensures.pack b below (pack_for give (map f ids)) whole)
