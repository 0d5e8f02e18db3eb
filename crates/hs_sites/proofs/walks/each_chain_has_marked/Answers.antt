use Rattle.std.proofs.Common.{◌≡◌, sym, ◌∙◌, ap, ◌+◌, length, slice_get, arith}
use Rattle.hs_scheme.proofs.Lists.{slice_get-read}
use Rattle.hs_table.specs.Entries.{params_of}
use Rattle.hs_table_laws.proofs.Places.{within_from}
use Rattle.hs_sites.specs.Reaching.{IsOn}
use Rattle.hs_sites.proofs.Walking.{walk_none, answer}
use Rattle.hs_sites.proofs.walks.each_chain_has_marked.Goals as goal

pub walk-requires : goal.walk-requires
walk-requires c = λ s m. let own = ((c.requires.exact s).0 m).1 in within_from c.args.problem.now.points.points s.point own.0 own.1.at

pub index-requires : goal.index-requires
index-requires c = omega (arith, c.walk.ensures.len, c.in_ok-reached.ensures.len, c.walk.new.reached.ok)

pub returns : goal.returns
returns c =
    let p = c.args.problem.now in
    let G = c.args.nonterminal in
    let sites = c.args.sites.now in
    let marks = c.args.marks.now in
    let reached = c.walk.new.reached.items in
    let walked = c.walk.ensures.walk G c.requires (walk_none p G sites c.requires marks c.in_ok-reached.reached.items c.in_ok-reached.ensures.none) in
    let long : length reached ≡ params_of p G + 1 = omega (arith, c.walk.ensures.len, c.in_ok-reached.ensures.len, c.parameters_of-count.ensures) in
    let start : IsOn reached 0 = c.walk.ensures.kept 0 c.in_ok-reached.ensures.first in
    let at = ap (slice_get reached) (sym c.parameters_of-count.ensures) ∙ slice_get-read reached c.parameters_of-count.result c.index.result.now (omega (arith, long, c.parameters_of-count.ensures)) (sym c.index.ensures) in
    answer p G sites c.requires marks (length sites) reached walked (omega arith) long start c.index.result.now at
