use Rattle.std.proofs.Common.{◌<◌, sym, ◌∙◌, length, arith}
use Rattle.hs_passes.proofs.Linking.{fold_links, fold_ahead, fold_follow, same_follow}
use Rattle.hs_passes.proofs.aliases.fold_one.Goals as goal

pub returns-then-found-number-clause-links : goal.returns-then-found-number-clause-links
returns-then-found-number-clause-links c =
    let L = c.root-found.new.links in
    let f_in : c.args.number < length L = omega (arith, c.requires.number, c.root-found.auto.links) in
    let g_in : c.args.target < length L = omega (arith, c.requires.target, c.root-found.auto.links) in
    fold_links L c.args.number c.args.target c.root-found.result f_in g_in c.root-found.ensures.in_range (c.root-found.ensures.roots c.args.number (c.requires.ahead c.args.number (omega arith) c.requires.number)) c.root-found.ensures.own (λ h lt l. c.root-found.ensures.roots h (c.requires.ahead h (omega (arith, lt)) (omega (arith, l, c.root-found.auto.links)))) c.if-found-number.true c.root-found.ensures.links

pub returns-then-found-number-clause-ahead : goal.returns-then-found-number-clause-ahead
returns-then-found-number-clause-ahead c =
    let L = c.root-found.new.links in
    let f_in : c.args.number < length L = omega (arith, c.requires.number, c.root-found.auto.links) in
    let g_in : c.args.target < length L = omega (arith, c.requires.target, c.root-found.auto.links) in
    fold_ahead L c.args.number c.args.target c.root-found.result f_in g_in c.root-found.ensures.in_range (c.root-found.ensures.roots c.args.number (c.requires.ahead c.args.number (omega arith) c.requires.number)) c.root-found.ensures.own (λ h lt l. c.root-found.ensures.roots h (c.requires.ahead h (omega (arith, lt)) (omega (arith, l, c.root-found.auto.links)))) c.if-found-number.true

pub returns-then-found-number-clause-follow : goal.returns-then-found-number-clause-follow
returns-then-found-number-clause-follow c =
    let L = c.root-found.new.links in
    let f_in : c.args.number < length L = omega (arith, c.requires.number, c.root-found.auto.links) in
    let g_in : c.args.target < length L = omega (arith, c.requires.target, c.root-found.auto.links) in
    λ rep fol. fold_follow L c.args.number c.args.target c.root-found.result f_in g_in c.root-found.ensures.in_range (c.root-found.ensures.roots c.args.number (c.requires.ahead c.args.number (omega arith) c.requires.number)) c.root-found.ensures.own (λ h lt l. c.root-found.ensures.roots h (c.requires.ahead h (omega (arith, lt)) (omega (arith, l, c.root-found.auto.links)))) c.if-found-number.true rep (c.root-found.ensures.follow rep fol) (c.root-found.ensures.root rep fol)

pub returns-else-found-number-clause-follow : goal.returns-else-found-number-clause-follow
returns-else-found-number-clause-follow c =
    λ rep fol. same_follow rep c.root-found.new.links c.args.number c.args.target (sym (c.root-found.ensures.root rep fol) ∙ c.if-found-number.false) (c.root-found.ensures.follow rep fol)
