use Rattle.std.proofs.Common.{◌≡◌, refl, sym, ◌∙◌, ap, length, Some}
use Rattle.std.proofs.lemmas.Bool.{ltb-false}
use Rattle.hs_scheme.specs.sorting.Sorted.{SortedData}
use Rattle.hs_scheme.specs.acceptance.Automaton.{next}
use Rattle.hs_scheme.proofs.Lists.{got_some}
use Rattle.hs_reduce.specs.Graph.{term_at}
use Rattle.hs_reduce.specs.Trace.{labels_of}
use Rattle.hs_reduce.proofs.ReplayLemmas.{ends_at, off_at, child_within}
use Rattle.hs_reduce.proofs.TraceLemmas.{traced_down}
use Rattle.hs_reduce.proofs.replaying.descend.Goals as goal

pub returns-in_default-get : goal.returns-in_default-get
returns-in_default-get c = λ all is. (
  tt,
  λ steps le.
      let t = term_at c.args.graph.now c.args.progress.place in
      let e = sym (c.in-Some.ensures ∙ ap (λ (s : SortedData). next s.automaton.transitions c.args.progress.state c.args.terminal) c.sorted.view_is) in
      ends_at c.args.sorted.now c.requires.sorted c.args.path.now (labels_of all) c.args.progress t c.args.terminal is.at c.requires.head steps c.in-Some.to.now le
      (ltb-false c.args.progress.at (length c.args.path.now) (sym c.in_default-get.ensures.lookup.0)) e,
)

pub returns-in-None : goal.returns-in-None
returns-in-None c = λ all is. (
  tt,
  λ steps le.
      let t = term_at c.args.graph.now c.args.progress.place in
      let at = got_some c.args.path.now c.args.progress.at c.in-Some-get.number.now c.in-Some-get.ensures.lookup.0 c.in-Some-get.ensures.lookup.1 in
      let e = sym (c.in-Some.ensures ∙ ap (λ (s : SortedData). next s.automaton.transitions c.args.progress.state c.args.terminal) c.sorted.view_is) in
      off_at c.args.sorted.now c.requires.sorted c.args.path.now (labels_of all) c.args.progress t c.args.terminal is.at c.requires.head c.args.graph.now c.arguments.result.now c.arguments.ensures
      c.in-Some.to.now e c.in-Some-get.number.now at steps le c.in-None.ensures,
)

pub returns-in-Some-child_at : goal.returns-in-Some-child_at
returns-in-Some-child_at c = λ all is.
    let s = c.args.sorted.now in let t = term_at c.args.graph.now c.args.progress.place in
    let at = got_some c.args.path.now c.args.progress.at c.in-Some-get.number.now c.in-Some-get.ensures.lookup.0 c.in-Some-get.ensures.lookup.1 in
    let child = c.in-Some-child_at.ensures in
    let e : next s.automaton.transitions c.args.progress.state c.args.terminal ≡ Some c.in-Some.to.now =
    sym (c.in-Some.ensures ∙ ap (λ (s : SortedData). next s.automaton.transitions c.args.progress.state c.args.terminal) c.sorted.view_is) in (
      refl,
      child_within s c.requires.sorted c.args.path.now (labels_of all) c.args.progress t c.args.terminal is.at c.requires.head c.args.graph.now c.arguments.result.now c.arguments.ensures
          c.in-Some.to.now e c.in-Some-get.number.now at child.0 c.in-Some-child_at.place child.2,
      traced_down s c.args.path.now all c.args.progress t is c.requires.sorted c.args.terminal c.requires.head c.args.graph.now c.arguments.result.now c.arguments.ensures
          c.in-Some.to.now e c.in-Some-get.number.now at child.0 c.in-Some-child_at.place c.in-Some-child_at.state child.1 child.2 child.3,
    )
