use Rattle.std.proofs.Common.{◌≡◌, sym, ◌∙◌, decimal, arith}
use Rattle.std.proofs.lemmas.Fmt.{decimal_injective}
use Rattle.std.proofs.lemmas.List.{append_cancel_left}
use Rattle.hs_cert.proofs.heading.few_behind.Goals as goal

pub returns-else-number-le-MAX_ROWS-clause-none : goal.returns-else-number-le-MAX_ROWS-clause-none
returns-else-number-le-MAX_ROWS-clause-none c = λ n few e.
    let m = c.in-Some.number in
    let is : m ≡ n = decimal_injective m n c.in-Some.ensures.fits (omega (arith, few)) (append_cancel_left c.args.words.now (decimal m) (decimal n) (sym c.in-Some.ensures.some ∙ e)) in
    omega (arith, few, is, c.if-number-le-MAX_ROWS.false)

pub returns-in-None-clause-none : goal.returns-in-None-clause-none
returns-in-None-clause-none c = λ n few e. c.in-None.ensures.none n (omega (arith, few)) e
