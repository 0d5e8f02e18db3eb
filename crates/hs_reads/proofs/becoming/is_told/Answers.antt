use Rattle.std.proofs.Common.{sym, ◌-◌, length}
use Rattle.hs_scheme.proofs.Lists.{read-slice_get}
use Rattle.hs_reads.proofs.becoming.is_told.Goals as goal

pub given_at-requires : goal.given_at-requires
given_at-requires c =
    let row = c.args.row.now in
    let last = read-slice_get row (length row - 1) c.in-Some.last.now (sym c.in-Some.ensures.value) in
    c.requires.row c.in-Some.last.now (length row - 1, last.0, last.1)
