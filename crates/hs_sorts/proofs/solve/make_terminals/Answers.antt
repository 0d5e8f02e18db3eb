use Rattle.std.proofs.Common.{◌≡◌, subst, ℕ, ◌+◌, Bool, length, get_or, Option, None, arith}
use Rattle.std.proofs.lemmas.Option.{slice_get-get_or, slice_get_within}
use Rattle.hs_sorts.specs.Constraints.{IsClaim, Claims, IsRankedIf}
use Rattle.hs_sorts.specs.Solving.{EachBefore}
use Rattle.hs_sorts.proofs.Laying.{claims_none, each_more, each_clash, ranked_stable}
use Rattle.hs_sorts.proofs.solve.make_terminals.Goals as goal

pub loop-terminal-init : goal.loop-terminal-init
loop-terminal-init c = claims_none c.args.store.now (EachBefore (λ a rank. IsRankedIf (c.args.rules + a) rank) c.args.ranks.now 0) c.requires.few (λ v f x below there. absurd (omega (arith, below)))

pub make_ranked_if-requires : goal.make_ranked_if-requires
make_ranked_if-requires c = record {
  node = omega (arith, c.loop-terminal-test.true, c.requires.room, c.loop-terminal.invariant.longer);
  few = c.loop-terminal.invariant.few;
}

pub returns : goal.returns
returns c =
    let all : c.loop-terminal.terminal ≡ length c.args.ranks.now = omega (arith, c.loop-terminal-test.false) in
    subst (λ (n : ℕ). Claims c.args.store.now c.loop-terminal.store (EachBefore (λ a rank. IsRankedIf (c.args.rules + a) rank) c.args.ranks.now n)) all c.loop-terminal.invariant

pub loop-terminal-preserved : goal.loop-terminal-preserved
loop-terminal-preserved c =
    let Q = λ (a : ℕ) (rank : Option ℕ). IsRankedIf (c.args.rules + a) rank in
    let rank = get_or c.args.ranks.now c.loop-terminal.terminal None in
    each_more Q c.args.ranks.now c.args.store.now
    (λ a r v w there same h. ranked_stable (length c.args.store.now) (c.args.rules + a) r v w (omega (arith, slice_get_within c.args.ranks.now a r there, c.requires.room)) same h)
    c.loop-terminal.store c.loop-terminal.terminal rank (slice_get-get_or c.args.ranks.now c.loop-terminal.terminal None c.loop-terminal-test.true) c.loop-terminal.invariant c.make_ranked_if.new.store
    (subst (λ (b : Bool). IsClaim c.loop-terminal.store c.make_ranked_if.new.store (Q c.loop-terminal.terminal rank) b) c.if-not-branch.false c.in_ok-make_ranked_if.ensures)

pub returns-then-not-branch : goal.returns-then-not-branch
returns-then-not-branch c =
    let Q = λ (a : ℕ) (rank : Option ℕ). IsRankedIf (c.args.rules + a) rank in
    let rank = get_or c.args.ranks.now c.loop-terminal.terminal None in
    each_clash Q c.args.ranks.now c.args.store.now
    (λ a r v w there same h. ranked_stable (length c.args.store.now) (c.args.rules + a) r v w (omega (arith, slice_get_within c.args.ranks.now a r there, c.requires.room)) same h)
    c.loop-terminal.store c.loop-terminal.terminal rank (slice_get-get_or c.args.ranks.now c.loop-terminal.terminal None c.loop-terminal-test.true) c.loop-terminal.invariant (length c.args.ranks.now) c.loop-terminal-test.true
    (subst (λ (b : Bool). IsClaim c.loop-terminal.store c.make_ranked_if.new.store (Q c.loop-terminal.terminal rank) b) c.if-not-branch.true c.in_ok-make_ranked_if.ensures)
