use Rattle.std.proofs.Common.{◌≡◌, refl, sym, ◌∙◌, ap, subst as along, length, arith, ℕ, ◌+◌, ◌-◌, ◌<◌, List, [], ◌∷◌, ◌++◌, drop}
use Rattle.hs_table.specs.Types.{TypeTree}
use Rattle.hs_table.specs.Entries.{Env, set_at, entry_at}
use Rattle.hs_verdict.specs.Evidence.{Evidence, Packs, own_evidence, pack_for, packs_for}
use Rattle.hs_core.specs.Core.{log_of}
use Rattle.hs_path.specs.declared.evidence.Store.{Store}
use Rattle.hs_path.specs.Stored.{Piled, GrowsStore}
use Rattle.hs_path.proofs.StoredLemmas.{begins_refl, begins_pushed, grows_then, pack_grows, piled_grow, pushed_at}
use Rattle.hs_path.proofs.AddingLemmas.{knows_grow, put_pushed, sets_from}
use Rattle.hs_path.proofs.adding.add.Goals as goal

pub loop-param-preserved : goal.loop-param-preserved
loop-param-preserved c =
    let T = log_of c.args.core.now in
    let b = length T in
    let old : Store = c.args.store.now in
    let s : Store = c.loop-param.store in
    let mid : Store = c.add_own_pack.new.store in
    let new : Store = record { nodes = mid.nodes; owns = c.push.new.self; packs = mid.packs; members = mid.members } in
    let inv = c.loop-param.invariant in
    let said = c.in_ok-pack.ensures in
    let items : c.push.new.self.items ≡ _ = c.in_ok-push.ensures.items in
    let g : GrowsStore mid new = record {
      nodes = begins_refl mid.nodes.items;
      owns = begins_pushed mid.owns.items c.push.new.self.items _ items;
      packs = begins_refl mid.packs.items;
      members = begins_refl mid.members.items;
    } in
    let to_new : GrowsStore s new = grows_then s mid new said.grows g in
    let n : ℕ = length old.nodes.items in
    let env : Env = (entry_at T c.args.place).env in
    let k : ℕ = c.loop-param.param - 1 in
    let lt : k < length env = omega (arith, c.loop-param-test.true, inv.within) in
    let next : c.loop-param.param ≡ k + 1 = omega (arith, c.loop-param-test.true) in
    record {
      grows = grows_then old s new inv.grows to_new;
      nodes = said.nodes ∙ inv.nodes;
      within = omega (arith, inv.within);
      made = λ own known.
          let give : ℕ → TypeTree → Evidence = own_evidence (entry_at T c.args.node.place).env own in
          let pack = pack_grows b mid new g n n c.in_ok-pack.pack (pack_for (give k) (set_at env k)) (omega arith)
          (said.pack n own (knows_grow b old s inv.grows n n c.args.node own (omega arith) known)) in
          let rest = along (λ (m : ℕ). Piled b s n s.owns.items c.in_ok-from.from (length s.owns.items) (packs_for give m (drop m env))) next (inv.made own known) in
          along (λ (ps : Packs). Piled b new n c.push.new.self.items c.in_ok-from.from (length c.push.new.self.items) ps) (sym (sets_from give env k lt))
          (put_pushed b s new to_new n n s.owns.items c.push.new.self.items c.in_ok-from.from c.in_ok-pack.pack (pack_for (give k) (set_at env k)) (packs_for give (k + 1) (drop (k + 1) env))
          (items ∙ ap (λ (l : List ℕ). l ++ c.in_ok-pack.pack ∷ []) said.owns) (omega arith) pack rest);
    }

pub returns-clause-grows : goal.returns-clause-grows
returns-clause-grows c =
    let s : Store = c.loop-param.store in
    let new : Store = record { nodes = c.push-2.new.self; owns = s.owns; packs = s.packs; members = s.members } in
    grows_then c.args.store.now s new c.loop-param.invariant.grows (record {
      nodes = begins_pushed s.nodes.items c.push-2.new.self.items _ c.in_ok-push-2.ensures.items;
      owns = begins_refl s.owns.items;
      packs = begins_refl s.packs.items;
      members = begins_refl s.members.items;
    })

pub returns-clause-evidence : goal.returns-clause-evidence
returns-clause-evidence c = λ own known.
    let T = log_of c.args.core.now in
    let b = length T in
    let old : Store = c.args.store.now in
    let s : Store = c.loop-param.store in
    let new : Store = record { nodes = c.push-2.new.self; owns = s.owns; packs = s.packs; members = s.members } in
    let inv = c.loop-param.invariant in
    let items = c.in_ok-push-2.ensures.items in
    let n : ℕ = length old.nodes.items in
    let env : Env = (entry_at T c.args.place).env in
    let give : ℕ → TypeTree → Evidence = own_evidence (entry_at T c.args.node.place).env own in
    let none : c.loop-param.param ≡ 0 = omega (arith, c.loop-param-test.false) in
    let whole = along (λ (m : ℕ). Piled b s n s.owns.items c.in_ok-from.from (length s.owns.items) (packs_for give m (drop m env))) none (inv.made own known) in
    let to : length s.owns.items ≡ c.in_ok-to.to = omega (arith, s.owns.ok.0, c.len-2.ensures, c.in_ok-to.ensures) in
    let g : GrowsStore s new = record {
      nodes = begins_pushed s.nodes.items c.push-2.new.self.items _ items;
      owns = begins_refl s.owns.items;
      packs = begins_refl s.packs.items;
      members = begins_refl s.members.items;
    } in (
      record { place = c.args.place; own = record { from = c.in_ok-from.from; to = c.in_ok-to.to } },
      pushed_at s.nodes.items c.push-2.new.self.items _ n items (ap length (sym inv.nodes)),
      refl,
      c.requires.place,
      along (λ (k : ℕ). Piled b new n s.owns.items c.in_ok-from.from k (packs_for give 0 env)) to
          (piled_grow b s new g n n s.owns.items s.owns.items c.in_ok-from.from (length s.owns.items) (packs_for give 0 env) (omega arith) (begins_refl s.owns.items) whole),
    )
