use Rattle.std.proofs.Common.{sym, ◌∙◌, ap}
use Rattle.hs_text.specs.Canonical.{opening}
use Rattle.hs_text.proofs.Texts.{opening-none, opening-many}
use Rattle.hs_text.proofs.canonical.opening.Goals as goal

pub returns-then-is_empty : goal.returns-then-is_empty
returns-then-is_empty c =
    sym (opening-none c.term.inside.head c.term.inside.args.items _ c.term.inside.args.ok.0 (sym c.is_empty.ensures ∙ c.if-is_empty.true)) ∙ ap opening c.term.view_is

pub returns-else-is_empty : goal.returns-else-is_empty
returns-else-is_empty c =
    sym (opening-many c.term.inside.head c.term.inside.args.items _ c.term.inside.args.ok.0 (sym c.is_empty.ensures ∙ c.if-is_empty.false)) ∙ ap opening c.term.view_is
