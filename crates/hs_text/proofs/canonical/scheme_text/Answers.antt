use Rattle.std.proofs.Common.{ap, ◌++◌, ◌∙◌}
use Rattle.std.proofs.lemmas.Result.{IfOk-weaker}
use Rattle.hs_text.specs.Canonical.{canonical}
use Rattle.hs_text.proofs.canonical.scheme_text.Goals as goal

pub returns : goal.returns
returns c =
    IfOk-weaker c.finish.result _ _ (λ text h. h.1 ∙ (c.push_scheme.ensures.bytes h.0 ∙ ap (λ r. r ++ canonical c.args.unsorted.now) c.new-text.ensures)) c.finish.ensures
