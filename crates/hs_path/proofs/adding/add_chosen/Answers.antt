use Rattle.std.proofs.Common.{sym, subst as along, length, arith, ℕ, ◌≤◌, get_or}
use Rattle.std.proofs.lemmas.Option.{slice_get_within}
use Rattle.hs_core.specs.Core.{log_of}
use Rattle.hs_path.specs.declared.evidence.Store.{Store}
use Rattle.hs_path.specs.Stored.{Stands, premise}
use Rattle.hs_path.proofs.StoredLemmas.{grows_then}
use Rattle.hs_path.proofs.MovingLemmas.{begins_longer}
use Rattle.hs_path.proofs.AddingLemmas.{knows_grow, each_chosen}
use Rattle.hs_path.proofs.adding.add_chosen.Goals as goal

pub loop-choice-preserved : goal.loop-choice-preserved
loop-choice-preserved c =
    let T = log_of c.args.core.now in
    let b = length T in
    let old : Store = c.args.store.now in
    let s : Store = c.loop-choice.store in
    let new : Store = c.add.new.store in
    let inv = c.loop-choice.invariant in
    let said = c.in_ok-add.ensures in
    let n : ℕ = c.loop-choice.choice-index in
    let first : ℕ = c.len-first.result in
    record {
      grows = grows_then old s new inv.grows said.grows;
      count = omega (arith, inv.count, said.one);
      made = λ own known.
          let give = premise T c.args.node.place own in
          let longer : length old.nodes.items ≤ length s.nodes.items = begins_longer old.nodes.items s.nodes.items inv.grows.nodes in
          let here = said.evidence own (knows_grow b old s inv.grows (length old.nodes.items) (length s.nodes.items) c.args.node own longer known) in
          each_chosen b s new said.grows first give c.args.chosen.now n (inv.made own known)
          (along (λ (m : ℕ). Stands b new m (give (get_or c.args.chosen.now n (0, 0)).1)) (sym inv.count) here);
    }

pub returns-clause-premises : goal.returns-clause-premises
returns-clause-premises c = λ own known. record {
  each = λ k argument place at.
      let within = slice_get_within c.args.chosen.now k (argument, place) at in
      c.loop-choice.invariant.made own known k argument place (omega (arith, within, c.loop-choice-test.false)) at;
}
