use Rattle.std.proofs.Common.{rules, ◌≡◌, true, Ok, Err}
use Rattle.std.specs.Str.Parse.{digits_value}
use Rattle.hs_words.specs.Words.{is_numeral}
use Rattle.hs_words.proofs.Numbers.{parsed}
use Rattle.hs_words.proofs.number.number_in.Goals as goal

pub returns-in-Err-clause-number : goal.returns-in-Err-clause-number
returns-in-Err-clause-number c =
    let numeral : is_numeral c.args.text.now ≡ true = search rules in
    let read : Err c.in-Err.field-0 ≡ Ok (digits_value 10 c.args.text.now) = parsed c.args.text.now (Err c.in-Err.field-0) c.in-Err.ensures.value.0 numeral in
    absurd (cc)
