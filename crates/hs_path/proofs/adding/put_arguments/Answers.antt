use Rattle.std.proofs.Common.{◌≡◌, sym, ◌∙◌, ap, subst as along, length, arith, ℕ, ◌+◌, ◌-◌, ◌<◌, ◌≤◌, drop, List}
use Rattle.hs_verdict.specs.Evidence.{Packs, stacked}
use Rattle.hs_verdict.specs.Naming.{chosen_pack, argument_packs}
use Rattle.hs_core.specs.Core.{log_of}
use Rattle.hs_path.specs.declared.evidence.Store.{Store}
use Rattle.hs_path.specs.Stored.{Piled, premise}
use Rattle.hs_path.proofs.StoredLemmas.{begins_refl, grows_refl, grows_then, piled_grow, pack_grows}
use Rattle.hs_path.proofs.AddingLemmas.{premises_grow, put_pushed, arguments_from, arguments_end}
use Rattle.hs_path.proofs.MovingLemmas.{begins_longer}
use Rattle.hs_path.proofs.adding.put_arguments.Goals as goal

pub loop-argument-init : goal.loop-argument-init
loop-argument-init c =
    let T = log_of c.args.core.now in
    let b = length T in
    let old : Store = c.args.store.now in
    let s : Store = c.add_chosen.new.store in
    let said = c.in_ok-first.ensures in
    let us : List ℕ = c.args.arguments.now in
    let items : List ℕ = c.args.stack.now.items in
    record {
      grows = said.grows;
      count = said.count;
      within = omega arith;
      premises = said.premises;
      made = λ own packs known piled.
          along (λ (ps : Packs). Piled b s (length s.nodes.items) items 0 (length items) ps)
          (sym (arguments_end (premise T c.args.node.place own) us c.args.chosen.now packs (length us) (omega arith)))
          (piled_grow b old s said.grows (length old.nodes.items) (length s.nodes.items) items items 0 (length items) packs
          (begins_longer old.nodes.items s.nodes.items said.grows.nodes) (begins_refl items) piled);
    }

pub loop-argument-preserved : goal.loop-argument-preserved
loop-argument-preserved c =
    let T = log_of c.args.core.now in
    let b = length T in
    let old : Store = c.args.store.now in
    let s : Store = c.loop-argument.store in
    let new : Store = c.add_argument_pack.new.store in
    let inv = c.loop-argument.invariant in
    let said = c.in_ok-pack.ensures in
    let us : List ℕ = c.args.arguments.now in
    let chosen = c.args.chosen.now in
    let first : ℕ = c.in_ok-first.first in
    let k : ℕ = c.loop-argument.argument - 1 in
    let lt : k < length us = omega (arith, c.loop-argument-test.true, inv.within) in
    let next : c.loop-argument.argument ≡ k + 1 = omega (arith, c.loop-argument-test.true) in
    let n : ℕ = length s.nodes.items in
    let m : ℕ = length new.nodes.items in
    let le : n ≤ m = omega (arith, ap length said.nodes) in
    let items : List ℕ = c.loop-argument.stack.items in
    let longer : List ℕ = c.push.new.self.items in
    record {
      grows = grows_then old s new inv.grows said.grows;
      count = inv.count ∙ sym (ap length said.nodes);
      within = omega (arith, inv.within);
      premises = λ own known. premises_grow b s new said.grows first (premise T c.args.node.place own) chosen (inv.premises own known);
      made = λ own packs known piled.
          let give = premise T c.args.node.place own in
          let pack = pack_grows b new new (grows_refl new) n m c.in_ok-pack.pack (chosen_pack give k chosen) le (said.pack b give (inv.premises own known)) in
          let rest = along (λ (i : ℕ). Piled b s n items 0 (length items) (stacked (argument_packs give i (drop i us) chosen) packs)) next (inv.made own packs known piled) in
          along (λ (ps : Packs). Piled b new m longer 0 (length longer) ps) (sym (arguments_from give us chosen packs k lt))
          (put_pushed b s new said.grows n m items longer 0 c.in_ok-pack.pack (chosen_pack give k chosen) (stacked (argument_packs give (k + 1) (drop (k + 1) us) chosen) packs)
          c.in_ok-push.ensures.items le pack rest);
    }
