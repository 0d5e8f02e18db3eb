use Rattle.std.proofs.Common.{sym, ap, Option, Bor, option_map}
use Rattle.hs_text.specs.declared.minimal.Minimal.{Minimal}
use Rattle.hs_text.specs.Report.{minimal_line_if}
use Rattle.hs_text.proofs.Puts.{puts_none, puts_as}
use Rattle.hs_text.proofs.summary.push_minimal_if.Goals as goal

pub returns-in-Some : goal.returns-in-Some
returns-in-Some c = puts_as (ap (λ (o : Option (Bor Minimal)). minimal_line_if (option_map (λ m. m.now) o)) (sym c.in-Some.is)) c.push_minimal.ensures

pub returns-in_default : goal.returns-in_default
returns-in_default c = puts_as (ap (λ (o : Option (Bor Minimal)). minimal_line_if (option_map (λ m. m.now) o)) (sym c.in_default.is)) (puts_none _)
