use Rattle.std.proofs.Common.{sym, ◌∙◌, rules, tests}
use Rattle.hs_reader.proofs.Cutting.{reads_sign}
use Rattle.hs_reader.proofs.cursor.front.Goals as goal

pub returns-else-first-eq37 : goal.returns-else-first-eq37
returns-else-first-eq37 c = λ line. reads_sign line c.args.bytes.now _ c.in-len1-up.len_at_least (sym c.is_name_byte.ensures ∙ c.if-is_name_byte.false) (search (rules, tests)) (c.sign_front.ensures line)
