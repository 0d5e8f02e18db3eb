use Rattle.std.proofs.Common.{arith}
use Rattle.hs_cert.proofs.LineLemmas.{front_inside, front_line, no_line, empty_of, rest_of}
use Rattle.hs_cert.proofs.lines.Lines.next.Goals as goal

pub returns-in_default-clause-none : goal.returns-in_default-clause-none
returns-in_default-clause-none c =
    no_line c.args.self.now.rest.now c.split_at.result.0.now c.split_at.result.1.now c.line_length.result c.line_length.ensures.run c.split_at.ensures.front c.split_at.ensures.back c.split_at.ensures.by_index.0
    (empty_of c.split_at.result.1.now (omega (arith, c.in_default.len_below)))

pub returns-clause-some : goal.returns-clause-some
returns-clause-some c =
    front_line c.args.self.now.rest.now c.split_at.result.0.now c.split_at.result.1.now c.line_length.result c.line_length.ensures.run c.split_at.ensures.front c.split_at.ensures.back c.split_at.ensures.by_index.0
    _ (omega (arith, c.in-len1-up.len_at_least)) (rest_of c.split_at.result.1.now)

pub returns-clause-inside : goal.returns-clause-inside
returns-clause-inside c =
    front_inside c.args.self.now.rest.now c.split_at.result.0.now c.split_at.result.1.now c.line_length.result c.line_length.ensures.run c.split_at.ensures.front c.split_at.ensures.back c.split_at.ensures.by_index.0
