use Rattle.std.proofs.Common.{sym, ◌∙◌, ap, option_copied, length}
use Rattle.std.proofs.lemmas.Bool.{leb-true}
use Rattle.hs_certificate_checker.proofs.idle.moves.Goals as goal

pub returns-in-Some : goal.returns-in-Some
returns-in-Some c = λ h. (c.in-Some.to.now, (sym c.next_of.ensures ∙ ap option_copied c.in-Some.is, leb-true (length c.in-Some.to.now) c.args.count h))
