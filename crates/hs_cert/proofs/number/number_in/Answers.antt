use Rattle.std.proofs.Common.{◌≡◌, sym, ◌∙◌, ap, true, false, decimal, Err}
use Rattle.std.proofs.lemmas.Fmt.{parse-decimal}
use Rattle.hs_cert.proofs.Numbers.{ok_same, not_ok}
use Rattle.hs_cert.proofs.number.number_in.Goals as goal

pub returns-in-Err-clause-none : goal.returns-in-Err-clause-none
returns-in-Err-clause-none c = λ n small e. not_ok c.in-Err.field-0 n (parse-decimal 64 n c.args.digits.now (Err c.in-Err.field-0) small small e c.in-Err.ensures.value)

pub returns-else-is_text_of-clause-none : goal.returns-else-is_text_of-clause-none
returns-else-is_text_of-clause-none c = λ n small e.
    let same = ok_same c.in-Ok.number n (sym c.in-Ok.is ∙ parse-decimal 64 n c.args.digits.now c.from_str_radix.result small small e c.from_str_radix.ensures.value) in
    let is : c.is_text_of.result ≡ true = c.is_text_of.ensures.1 (e ∙ ap decimal (sym same)) in
    let f : false ≡ true = sym c.if-is_text_of.false ∙ is in cc
