use Rattle.std.proofs.Common.{◌∙◌, ap, subst, Bool, List, [], ℕ}
use Rattle.std.specs.Prelude.{Err}
use Rattle.hs_words.specs.Settings.{SettingsData}
use Rattle.hs_front.specs.Outside.{source_run}
use Rattle.hs_app.specs.Problems.{asked_of}
use Rattle.hs_app.specs.Order.{read_file}
use Rattle.hs_app.proofs.OutcomeLemmas.{of_whole, has_of, of_fault}
use Rattle.hs_app.specs.Explaining.{IsExplanation}
use Rattle.hs_app.proofs.ExplainingLemmas.{unread_explained}
use Rattle.hs_app.proofs.top.verdict_on.Goals as goal

pub returns-in-Ok-clause-answer : goal.returns-in-Ok-clause-answer
returns-in-Ok-clause-answer g c =
    let source = source_run g.S.Source.file g.S.Source.left g.S.Source.reading g.S.Source.faults c.args.source.now c.read.new.source in
    of_whole c.args.name.now _ source c.decide-decided.result
    (has_of _ c.decide-decided.result c.as_slice.result.now c.in-Ok.bytes.items source.after.given c.as_slice.ensures.value c.in-Ok.ensures.answer.given c.in-Ok.ensures.answer.within c.decide-decided.ensures)
    c.in-Ok.ensures.answer.read

pub returns-in-Err-clause-answer : goal.returns-in-Err-clause-answer
returns-in-Err-clause-answer g c =
    let source = source_run g.S.Source.file g.S.Source.left g.S.Source.reading g.S.Source.faults c.args.source.now c.read.new.source in
    of_fault c.args.name.now _ source c.in-Err.refusal c.in-Err.ensures.answer

pub returns-in-Ok-clause-explains : goal.returns-in-Ok-clause-explains
returns-in-Ok-clause-explains g c =
    subst (λ (bytes : List ℕ). IsExplanation c.args.settings.explain bytes c.decide-decided.result c.explanation.result.items)
    (c.as_slice-in-Ok.ensures.value ∙ c.in-Ok.ensures.answer.given) c.explanation.ensures

pub returns-in-Err-clause-explains : goal.returns-in-Err-clause-explains
returns-in-Err-clause-explains g c =
    subst (λ (b : Bool). IsExplanation b [] (Err c.in-Err.refusal) c.unread_explanation.result.items) (ap (λ (s : SettingsData). s.explain) c.settings.view_is)
    (unread_explained c.settings.inside.explain [] c.unread_explanation.result.items c.in-Err.refusal c.unread_explanation.ensures)
