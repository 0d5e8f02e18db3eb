use Rattle.std.proofs.Common.{refl, sym, ◌∙◌, ap}
use Rattle.hs_words.specs.Settings.{SettingsData}
use Rattle.hs_app.proofs.SimplifiedLemmas.{of_plain}
use Rattle.hs_app.proofs.verdict.decide_scheme.Goals as goal

pub returns-else-settings : goal.returns-else-settings
returns-else-settings g c = of_plain c.args.settings _ c.args.sorted c.know_sorted.ensures c.decide_form.result (sym (ap (λ (s : SettingsData). s.simplify) c.settings.view_is) ∙ c.if-settings.false) (c.decide_form.ensures c.args.sorted (λ plain. refl) tt)

pub decide_simplified-requires-clause-simplify : goal.decide_simplified-requires-clause-simplify
decide_simplified-requires-clause-simplify g c κs within = sym (ap (λ (s : SettingsData). s.simplify) c.settings.view_is) ∙ c.if-settings.true
