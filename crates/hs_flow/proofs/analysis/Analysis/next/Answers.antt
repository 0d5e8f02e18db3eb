use Rattle.std.proofs.Common.{◌≡◌, ◌∙◌, ap, subst, List, slice_get}
use Rattle.hs_scheme.specs.declared.flow.Pair.{Pair}
use Rattle.hs_scheme.specs.flow.Flow.{IsSupported}
use Rattle.hs_flow.specs.Analysis.{AnalysisData, IsAnalysis}
use Rattle.hs_flow.proofs.AnalysisLemmas.{all_taken, next_within}
use Rattle.hs_flow.proofs.analysis.Analysis.next.Goals as goal

pub returns-clause-point : goal.returns-clause-point
returns-clause-point c =
    let is : c.pair_at.result ≡ slice_get c.args.self.now.pairs.found c.args.self.now.taken =
    c.pair_at.ensures ∙ (ap (λ (ps : List Pair). slice_get ps c.self.inside.taken) c.found.ensures.found ∙ ap (λ (x : AnalysisData). slice_get x.pairs.found x.taken) c.self.view_is) in
    next_within c.args.self.now.pairs.rules c.args.self.now.pairs.found c.args.self.now.taken
    (subst (λ (x : AnalysisData). IsSupported x.pairs.rules x.pairs.found) c.self.view_is (subst (λ (ps : List Pair). IsSupported c.self.inside.pairs.rules ps) c.found.ensures.found c.found.ensures.supported)) c.pair_at.result is

pub returns-clause-bases : goal.returns-clause-bases
returns-clause-bases c =
    let is : c.pair_at.result ≡ slice_get c.args.self.now.pairs.found c.args.self.now.taken =
    c.pair_at.ensures ∙ (ap (λ (ps : List Pair). slice_get ps c.self.inside.taken) c.found.ensures.found ∙ ap (λ (x : AnalysisData). slice_get x.pairs.found x.taken) c.self.view_is) in
    all_taken c.args.self.now.pairs c.args.self.now.taken c.self.inside.flows c.self.inside.heads (subst (λ (x : AnalysisData). IsAnalysis c.self.inside.flows c.self.inside.heads x) c.self.view_is c.self.invariant) c.pair_at.result is
