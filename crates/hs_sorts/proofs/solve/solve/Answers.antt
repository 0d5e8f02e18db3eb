use Rattle.std.proofs.Common.{subst, Bool, length}
use Rattle.hs_sorts.specs.Constraints.{IsClaim, IsBaseSort}
use Rattle.hs_sorts.specs.Solving.{AreRuled}
use Rattle.hs_sorts.proofs.Flattening.{solves_same}
use Rattle.hs_sorts.proofs.Solutions.{AreRanked, bodies_within, room_ranked, no_start, no_ranks, no_rules, solved}
use Rattle.hs_sorts.proofs.solve.solve.Goals as goal

pub returns-then-not-branch : goal.returns-then-not-branch
returns-then-not-branch c =
    no_start c.args.rules.now c.args.ranks.now c.args.count c.requires.rules c.lay_out.new.store c.in_ok-lay_out.ensures
    (subst (λ (b : Bool). IsClaim c.lay_out.new.store c.make_base.new.store (IsBaseSort 0) b) c.if-not-branch.true c.in_ok-make_base.ensures)

pub returns-then-not-branch-2 : goal.returns-then-not-branch-2
returns-then-not-branch-2 c =
    no_ranks c.args.rules.now c.args.ranks.now c.args.count c.requires.rules c.lay_out.new.store c.in_ok-lay_out.ensures c.make_base.new.store
    (subst (λ (b : Bool). IsClaim c.lay_out.new.store c.make_base.new.store (IsBaseSort 0) b) c.if-not-branch.false c.in_ok-make_base.ensures)
    (subst (λ (b : Bool). IsClaim c.make_base.new.store c.make_terminals.new.store (AreRanked c.args.ranks.now (length c.args.rules.now)) b) c.if-not-branch-2.true c.in_ok-make_terminals.ensures)

pub make_rules-requires-clause-bodies : goal.make_rules-requires-clause-bodies
make_rules-requires-clause-bodies c =
    bodies_within c.args.rules.now c.args.ranks.now c.args.count c.requires.rules (length c.make_terminals.new.store)
    (room_ranked c.args.rules.now c.args.ranks.now c.args.count c.requires.rules c.lay_out.new.store c.in_ok-lay_out.ensures c.make_base.new.store
    (subst (λ (b : Bool). IsClaim c.lay_out.new.store c.make_base.new.store (IsBaseSort 0) b) c.if-not-branch.false c.in_ok-make_base.ensures) c.make_terminals.new.store
    (subst (λ (b : Bool). IsClaim c.make_base.new.store c.make_terminals.new.store (AreRanked c.args.ranks.now (length c.args.rules.now)) b) c.if-not-branch-2.false c.in_ok-make_terminals.ensures))

pub returns-then-not-branch-3 : goal.returns-then-not-branch-3
returns-then-not-branch-3 c =
    no_rules c.args.rules.now c.args.ranks.now c.args.count c.requires.rules c.lay_out.new.store c.in_ok-lay_out.ensures c.make_base.new.store
    (subst (λ (b : Bool). IsClaim c.lay_out.new.store c.make_base.new.store (IsBaseSort 0) b) c.if-not-branch.false c.in_ok-make_base.ensures) c.make_terminals.new.store
    (subst (λ (b : Bool). IsClaim c.make_base.new.store c.make_terminals.new.store (AreRanked c.args.ranks.now (length c.args.rules.now)) b) c.if-not-branch-2.false c.in_ok-make_terminals.ensures)
    (subst (λ (b : Bool). IsClaim c.make_terminals.new.store c.make_rules.new.store (AreRuled c.args.count c.args.rules.now) b) c.if-not-branch-3.true c.in_ok-make_rules.ensures)

pub returns : goal.returns
returns c = record {
  solves =
      solves_same c.args.rules.now c.args.ranks.now c.args.count c.make_rules.new.store c.flatten.new.self c.flatten.ensures.same
      (solved c.args.rules.now c.args.ranks.now c.args.count c.requires.rules c.lay_out.new.store c.in_ok-lay_out.ensures c.make_base.new.store
      (subst (λ (b : Bool). IsClaim c.lay_out.new.store c.make_base.new.store (IsBaseSort 0) b) c.if-not-branch.false c.in_ok-make_base.ensures) c.make_terminals.new.store
      (subst (λ (b : Bool). IsClaim c.make_base.new.store c.make_terminals.new.store (AreRanked c.args.ranks.now (length c.args.rules.now)) b) c.if-not-branch-2.false c.in_ok-make_terminals.ensures) c.make_rules.new.store
      (subst (λ (b : Bool). IsClaim c.make_terminals.new.store c.make_rules.new.store (AreRuled c.args.count c.args.rules.now) b) c.if-not-branch-3.false c.in_ok-make_rules.ensures));
  flat = c.flatten.ensures.flat;
}
