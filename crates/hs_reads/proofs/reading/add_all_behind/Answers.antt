use Rattle.std.proofs.Common.{◌≡◌, ℕ, ◌+◌, List, get_or, slice_get, Some, Contains}
use Rattle.std.proofs.lemmas.List.Elements.{Contains-get_or}
use Rattle.hs_scheme.specs.acceptance.Transition.{TransitionData}
use Rattle.hs_scheme.specs.acceptance.Automaton.{next}
use Rattle.hs_reads.specs.Becomings.{AnyBecoming}
use Rattle.hs_reads.specs.Pairs.{IsReadBehind}
use Rattle.hs_reads.proofs.FoundLemmas.{gains_then}
use Rattle.hs_reads.proofs.GrowLemmas.{next_more, adds_more}
use Rattle.hs_reads.proofs.reading.add_all_behind.Goals as goal

abbrev Behind : List TransitionData → ℕ → List AnyBecoming → List ℕ → ℕ × ℕ → Type 0
Behind ts q terminals args x = (b : AnyBecoming) × (Contains terminals b × IsReadBehind ts q b args x)

pub loop-becoming-preserved : goal.loop-becoming-preserved
loop-becoming-preserved c =
    let old = c.loop-becoming.found.pairs in
    let new = c.add_behind.new.found.pairs in
    let ts = c.args.sorted.now.automaton.transitions in
    let none : AnyBecoming = record { rule = 0; param = 0; terminal = 0; given = 0 } in
    let item = get_or c.args.terminals.now c.loop-becoming.becoming-index none in
    let m = Contains-get_or c.args.terminals.now c.loop-becoming.becoming-index none c.loop-becoming-test.true in
    record {
      gains = gains_then c.args.found.now c.loop-becoming.found c.add_behind.new.found c.loop-becoming.invariant.gains c.in_ok-add_behind.ensures.gains;
      there = next_more (λ (b : AnyBecoming). (j u r : ℕ) (qs : List ℕ) → next c.args.sorted.now.automaton.transitions c.args.state b.terminal ≡ Some qs
          → slice_get c.args.args.now j ≡ Some u → slice_get qs (b.given + j) ≡ Some r → Contains new (u, r))
          c.args.terminals.now c.loop-becoming.becoming-index (record { rule = 0; param = 0; terminal = 0; given = 0 }) c.loop-becoming-test.true
          (λ b m j u r qs moves at_u at_r. c.in_ok-add_behind.ensures.gains.kept (u, r) (c.loop-becoming.invariant.there b m j u r qs moves at_u at_r)) c.in_ok-add_behind.ensures.there;
      only = adds_more (IsReadBehind ts c.args.state item c.args.args.now) (Behind ts c.args.state c.args.terminals.now c.args.args.now) c.args.found.now.pairs old new c.loop-becoming.invariant.only c.add_behind.ensures.only (λ x r. (item, (m, r)));
    }

pub returns-in_err-add_behind-clause-only : goal.returns-in_err-add_behind-clause-only
returns-in_err-add_behind-clause-only c =
    let ts = c.args.sorted.now.automaton.transitions in
    let none : AnyBecoming = record { rule = 0; param = 0; terminal = 0; given = 0 } in
    let item = get_or c.args.terminals.now c.loop-becoming.becoming-index none in
    let m = Contains-get_or c.args.terminals.now c.loop-becoming.becoming-index none c.loop-becoming-test.true in
    adds_more (IsReadBehind ts c.args.state item c.args.args.now) (Behind ts c.args.state c.args.terminals.now c.args.args.now) c.args.found.now.pairs c.loop-becoming.found.pairs c.add_behind.new.found.pairs
    c.loop-becoming.invariant.only c.add_behind.ensures.only (λ x r. (item, (m, r)))
