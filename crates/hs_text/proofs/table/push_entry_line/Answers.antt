use Rattle.std.proofs.Common.{rules}
use Rattle.hs_text.proofs.Puts.{puts_then}
use Rattle.hs_text.proofs.table.push_entry_line.Goals as goal

pub returns : goal.returns
returns c =
    let both = puts_then c.push_entry.ensures c.push.ensures in record { before = both.before; bytes = λ whole. (let e = both.bytes whole in search rules) }
