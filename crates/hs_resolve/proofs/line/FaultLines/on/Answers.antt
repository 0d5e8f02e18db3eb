use Rattle.std.proofs.Common.{◌∙◌, sym}
use Rattle.hs_resolve.proofs.line.FaultLines.on.Goals as goal

pub returns-then-stands : goal.returns-then-stands
returns-then-stands c = rw (sym c.stands.ensures ∙ c.if-stands.true)

pub returns-then-stands-2 : goal.returns-then-stands-2
returns-then-stands-2 c = rw (sym c.stands.ensures ∙ c.if-stands.false, sym c.stands-else-stands.ensures ∙ c.if-stands-2.true)

pub returns-then-stands-3 : goal.returns-then-stands-3
returns-then-stands-3 c = rw (sym c.stands.ensures ∙ c.if-stands.false, sym c.stands-else-stands.ensures ∙ c.if-stands-2.false, sym c.stands-else-stands-2.ensures ∙ c.if-stands-3.true)

pub returns-then-stands-4 : goal.returns-then-stands-4
returns-then-stands-4 c = rw (sym c.stands.ensures ∙ c.if-stands.false, sym c.stands-else-stands.ensures ∙ c.if-stands-2.false, sym c.stands-else-stands-2.ensures ∙ c.if-stands-3.false, sym c.stands-else-stands-3.ensures ∙ c.if-stands-4.true)

pub returns-then-stands-5 : goal.returns-then-stands-5
returns-then-stands-5 c = rw (sym c.stands.ensures ∙ c.if-stands.false, sym c.stands-else-stands.ensures ∙ c.if-stands-2.false, sym c.stands-else-stands-2.ensures ∙ c.if-stands-3.false, sym c.stands-else-stands-3.ensures ∙ c.if-stands-4.false, sym c.stands-else-stands-4.ensures ∙ c.if-stands-5.true)
