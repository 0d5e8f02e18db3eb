-- Numbers in words.
use Rattle.std.proofs.Common.{rules, ◌≡◌, ℕ, ◌<◌, ◌≤◌, ◌^◌, true, List, length, Result, Ok, nat_le, arith}
use Rattle.std.specs.Char.{is_ascii_digit}
use Rattle.std.specs.List.{list_all}
use Rattle.std.specs.Str.Parse.{digits_value, ParsesUnsigned}
use Rattle.std.proofs.lemmas.Bool.{and_parts, leb-true}
use Rattle.std.proofs.lemmas.Str.Parse.{IsNumeralModel, numerals_by_value, parse_gives, digits_value_short}
use Rattle.hs_words.specs.Words.{is_numeral}

abbrev AreDigits : List ℕ → Type 0
AreDigits ds = list_all is_ascii_digit ds ≡ true

own : IsNumeralModel AreDigits (digits_value 10)
own = numerals_by_value AreDigits (search rules)

-- a numeral is read as it stands
pub parsed : {E : Type 0} (bs : List ℕ) (r : Result ℕ E) → ParsesUnsigned 32 10 bs r → is_numeral bs ≡ true → r ≡ Ok (digits_value 10 bs)
parsed bs r h e =
    let parts = and_parts (nat_le 1 (length bs)) _ e in
    let rest = and_parts (nat_le (length bs) 9) _ parts.1 in
    let some : 1 ≤ length bs = leb-true 1 (length bs) parts.0 in
    let few : length bs ≤ 9 = leb-true (length bs) 9 rest.0 in
    let small : digits_value 10 bs < 10 ^ 9 = digits_value_short own bs 9 rest.1 few in
    parse_gives own 32 bs r h rest.1 (omega arith) (omega arith)
