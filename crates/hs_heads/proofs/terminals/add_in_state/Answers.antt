use Rattle.std.proofs.Common.{◌≡◌, sym, ◌∙◌, subst, ◌<◌, ℕ, [], replicate, arith}
use Rattle.std.proofs.lemmas.Result.{on_ok_weaker}
use Rattle.hs_table.specs.Types.{TypeTree, state, arrows}
use Rattle.hs_table.specs.Follows.{rank_of}
use Rattle.hs_heads.specs.Sources.{GainsTypes, FromPlace, ByChild, InState}
use Rattle.hs_heads.proofs.Gaining.{gains_none, gains_same}
use Rattle.hs_heads.proofs.TerminalLemmas.{no_state, lacking, moving}
use Rattle.hs_heads.proofs.terminals.add_in_state.Goals as goal

pub returns-then-q-states : goal.returns-then-q-states
returns-then-q-states c =
    gains_none c.args.types.now c.args.found.now.keys (InState c.args.problem.now c.args.terminal c.args.q) (no_state c.args.problem.now c.args.terminal c.args.q (omega (arith, c.if-q-states.true, c.states.ensures)))

pub returns-in-None : goal.returns-in-None
returns-in-None c =
    let p = c.args.problem.now in
    let I = c.args.types.now in
    let K = c.add_lacking.new.types in
    let old = c.args.found.now.keys in
    let new = c.add_lacking.new.found.keys in
    let lt : c.args.q < p.sorted.automaton.states = omega (arith, c.if-q-states.false, c.states.ensures) in
    on_ok_weaker c.add_lacking.result (λ g.
    gains_same I K (λ (u : TypeTree). u ≡ arrows (replicate (rank_of p c.args.terminal) []) (state c.args.q)) (InState p c.args.terminal c.args.q) old new (lacking p c.args.terminal c.args.q lt (sym c.in-None.ensures.moves))
    (subst (λ (n : ℕ). GainsTypes I K old new (λ (u : TypeTree). u ≡ arrows (replicate n []) (state c.args.q))) c.rank-rank.ensures g)) c.add_lacking.ensures

pub returns-in-Some : goal.returns-in-Some
returns-in-Some c =
    let p = c.args.problem.now in
    let I = c.args.types.now in
    let K = c.add_children.new.types in
    let old = c.args.found.now.keys in
    let new = c.add_children.new.found.keys in
    let to = c.in-Some.to.now in
    let moves = sym c.in-Some.ensures.moves in
    let lt : c.args.q < p.sorted.automaton.states = omega (arith, c.if-q-states.false, c.states.ensures) in
    on_ok_weaker c.add_children.result (λ g.
    gains_same I K (FromPlace (ByChild c.args.q to) (rank_of p c.args.terminal)) (InState p c.args.terminal c.args.q) old new
    (moving p c.args.terminal c.args.q to lt moves (c.in-Some.ensures.ranks to moves))
    (subst (λ (n : ℕ). GainsTypes I K old new (FromPlace (ByChild c.args.q to) n)) c.rank-rank.ensures g)) c.add_children.ensures

pub add_children-requires : goal.add_children-requires
add_children-requires c = c.in-Some.ensures.ranks c.in-Some.to.now (sym c.in-Some.ensures.moves) ∙ sym c.rank-rank.ensures
