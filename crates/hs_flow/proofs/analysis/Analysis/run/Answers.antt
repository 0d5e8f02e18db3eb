use Rattle.std.proofs.Common.{sym, ◌∙◌, subst, List, arith}
use Rattle.std.proofs.lemmas.Option.{slice_get_within}
use Rattle.hs_scheme.specs.declared.term.Rule.{Rule}
use Rattle.hs_flow.specs.Passing.{PassedAtFirst}
use Rattle.hs_flow.specs.Pairs.{AreNone}
use Rattle.hs_flow.specs.Analysis.{AnalysisData, HasBases}
use Rattle.hs_flow.proofs.PairLemmas.{finds_rules, extends_rules, extends_max, extends_same, extends_then, extends_keep}
use Rattle.hs_flow.proofs.AnalysisLemmas.{ready_first, closed_of, never_some}
use Rattle.hs_flow.proofs.analysis.Analysis.run.Goals as goal

pub loop-pair-init : goal.loop-pair-init
loop-pair-init c =
    let none : AreNone c.self.inside.pairs.rules c.self.inside.pairs.max c.self.inside.pairs = subst (λ (x : AnalysisData). AreNone x.pairs.rules x.pairs.max x.pairs) (sym c.self.view_is) c.requires.none in
    record {
      extends = extends_same c.start.new.self;
      ready = ready_first (PassedAtFirst c.self.inside.pairs.rules) c.self.inside.pairs c.start.new.self c.start.ensures.finds none.no_base c.in_ok-start.ensures.limit.within;
      first = λ q f. c.in_ok-start.ensures.all q
          (subst (λ (rs : List Rule). PassedAtFirst rs q) (finds_rules (PassedAtFirst c.self.inside.pairs.rules) c.self.inside.pairs c.start.new.self c.start.ensures.finds) f);
    }

pub loop-pair-smaller : goal.loop-pair-smaller
loop-pair-smaller c =
    let less = slice_get_within c.loop-pair.self.pairs.found c.loop-pair.self.taken c.in-Some.pair (sym c.next.ensures.next ∙ c.in-Some.is) in
    omega (arith, less, c.loop-pair.invariant.ready.within, extends_max c.loop-pair.self.pairs c.take.new.self.pairs c.take.ensures.extends, c.in_ok-take.ensures.taken)

pub loop-pair-preserved : goal.loop-pair-preserved
loop-pair-preserved c = record {
  extends = extends_then _ c.loop-pair.self.pairs c.take.new.self.pairs c.loop-pair.invariant.extends c.take.ensures.extends;
  ready = c.in_ok-take.ensures.ready;
  first = λ q f. extends_keep c.loop-pair.self.pairs c.take.new.self.pairs c.take.ensures.extends q
      (c.loop-pair.invariant.first q (subst (λ (rs : List Rule). PassedAtFirst rs q) (extends_rules c.loop-pair.self.pairs c.take.new.self.pairs c.take.ensures.extends) f));
}

pub returns-clause-closed : goal.returns-clause-closed
returns-clause-closed c =
    closed_of c.loop-pair.self.pairs c.loop-pair.invariant.ready c.loop-pair.invariant.first
    (never_some c.next.result (HasBases c.loop-pair.self.pairs c.loop-pair.self.pairs.found) c.in_default.not-Some c.next.ensures.bases)
