use Rattle.std.proofs.Common.{ap, [], ◌∷◌, length, length-append, arith}
use Rattle.hs_void.proofs.Listed.{sites_more}
use Rattle.hs_void.proofs.basis.sites_by_rule.Goals as goal

pub loop-rule-preserved : goal.loop-rule-preserved
loop-rule-preserved c =
    let h = c.loop-rule.invariant in
    let old = c.loop-rule.found.items in
    let r = c.of_nonterminal.result in
    record {
      long = omega (arith, h.long, ap length c.push_reserved.ensures.items, length-append old (r ∷ []));
      room = omega (arith, c.push_reserved.ensures.capacity, h.room);
      each = sites_more c.args.problem.now old c.push_reserved.new.self.items r c.loop-rule.rule c.push_reserved.ensures.items h.long (c.of_nonterminal.ensures c.args.problem.now c.requires) h.each;
    }
