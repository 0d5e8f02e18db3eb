use Rattle.std.proofs.Common.{◌∙◌, ap}
use Rattle.hs_scheme.specs.Names.{NamesData}
use Rattle.hs_text.specs.Canonical.{params_at}
use Rattle.hs_text.specs.Report.{env_text, void_text}
use Rattle.hs_text.proofs.Puts.{puts_then, puts_as}
use Rattle.hs_text.proofs.evidence.push_pair.Goals as goal

pub returns : goal.returns
returns c =
    let names = c.args.names.now in
    let states = c.as_slice-states.ensures.value ∙ ap (λ (n : NamesData). n.states) c.names.view_is in
    puts_as (ap (void_text names) c.void.view_is)
    (puts_then c.push.ensures
    (puts_then (puts_as c.rule_name.ensures c.push-2.ensures)
    (puts_then c.push-3.ensures
    (puts_as (ap (λ qs. env_text qs c.params_of.result.now c.as_slice.result.now) states
    ∙ (ap (λ ps. env_text names.states ps c.as_slice.result.now) c.params_of.ensures ∙ ap (env_text names.states (params_at names.params c.void.inside.rule)) c.as_slice.ensures.value)) c.push_env.ensures))))
