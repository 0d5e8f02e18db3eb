use Rattle.std.proofs.Common.{◌≡◌, subst as along, length, arith, ℕ}
use Rattle.hs_path.specs.declared.evidence.Store.{Store}
use Rattle.hs_path.specs.Stored.{Members}
use Rattle.hs_path.proofs.StoredLemmas.{begins_refl, begins_pushed, pushed_at, members_grow}
use Rattle.hs_path.proofs.evidence.Store.close_pack.Goals as goal

pub returns-clause-pack : goal.returns-clause-pack
returns-clause-pack c = λ bound below p h.
    let old = c.args.self.now in
    let new : Store = record { nodes = old.nodes; owns = old.owns; packs = c.push.new.self; members = old.members } in
    let to : length old.members.items ≡ c.in_ok-to.to = omega (arith, old.members.ok.0, c.len.ensures, c.in_ok-to.ensures) in
    let pack : c.in_ok-pack.pack ≡ length old.packs.items = omega (arith, old.packs.ok.0, c.len-2.ensures, c.in_ok-pack.ensures) in
    record {
      span = record { from = c.args.from; to = c.in_ok-to.to };
      at = pushed_at old.packs.items c.push.new.self.items _ c.in_ok-pack.pack c.in_ok-push.ensures.items pack;
      members = along (λ (k : ℕ). Members bound new below c.args.from k p) to (members_grow bound old new (record {
        nodes = begins_refl old.nodes.items;
        owns = begins_refl old.owns.items;
        packs = begins_pushed old.packs.items c.push.new.self.items _ c.in_ok-push.ensures.items;
        members = begins_refl old.members.items;
      }) below below c.args.from (length old.members.items) p (omega arith) h);
    }
