use Rattle.std.proofs.Common.{◌∙◌}
use Rattle.std.specs.Prelude.{codes}
use Rattle.std.specs.Str.{bytes_eq}
use Rattle.hs_app.proofs.ExplainingLemmas.{any_of_texts}
use Rattle.hs_app.proofs.explaining.has_explain.Goals as goal

pub returns : goal.returns
returns c = c.contains.ensures.value ∙ any_of_texts (λ word. bytes_eq word (codes "--explain")) c.args.words.now
