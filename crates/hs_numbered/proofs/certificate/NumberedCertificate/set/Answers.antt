use Rattle.std.proofs.Common.{◌∙◌}
use Rattle.hs_numbered.proofs.Growing.{held_more, lists_stay}
use Rattle.hs_numbered.proofs.certificate.NumberedCertificate.set.Goals as goal

pub invariant_of-self : goal.invariant_of-self
invariant_of-self c = held_more c.self.inside.interner c.set.new.self c.set.ensures.grows c.self.inside.table.items c.self.inside.void.items c.self.inside.last_type c.self.inside.last_set c.self.inside.last_env c.self.invariant

pub returns-in_err-set-clause-same : goal.returns-in_err-set-clause-same
returns-in_err-set-clause-same c = lists_stay c.self.inside.interner c.set.new.self c.set.ensures.grows c.self.inside.table.items c.self.inside.void.items c.self.inside.last_type c.self.inside.last_set c.self.inside.last_env c.self.invariant c.args.self.now c.self.view_is

pub invariant_of-self-2 : goal.invariant_of-self-2
invariant_of-self-2 c = held_more c.self.inside.interner c.set.new.self c.set.ensures.grows c.self.inside.table.items c.self.inside.void.items c.self.inside.last_type c.self.inside.last_set c.self.inside.last_env c.self.invariant

pub keep_set-requires : goal.keep_set-requires
keep_set-requires c = c.in_ok-set.ensures.ok.0

pub returns-clause-same : goal.returns-clause-same
returns-clause-same c =
    let stay = lists_stay c.self.inside.interner c.set.new.self c.set.ensures.grows c.self.inside.table.items c.self.inside.void.items c.self.inside.last_type c.self.inside.last_set c.self.inside.last_env c.self.invariant c.args.self.now c.self.view_is in
    (c.keep_set.ensures.rest.1 ∙ stay.0, c.keep_set.ensures.rest.2 ∙ stay.1)
