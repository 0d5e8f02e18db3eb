use Rattle.std.proofs.Common.{sym, ◌∙◌, ap}
use Rattle.hs_text.specs.Canonical.{closing}
use Rattle.hs_text.proofs.Texts.{closing-none, closing-many}
use Rattle.hs_text.proofs.canonical.closing.Goals as goal

pub returns-then-is_empty : goal.returns-then-is_empty
returns-then-is_empty c =
    sym (closing-none c.term.inside.head c.term.inside.args.items _ c.term.inside.args.ok.0 (sym c.is_empty.ensures ∙ c.if-is_empty.true)) ∙ ap closing c.term.view_is

pub returns-else-is_empty : goal.returns-else-is_empty
returns-else-is_empty c =
    sym (closing-many c.term.inside.head c.term.inside.args.items _ c.term.inside.args.ok.0 (sym c.is_empty.ensures ∙ c.if-is_empty.false)) ∙ ap closing c.term.view_is
