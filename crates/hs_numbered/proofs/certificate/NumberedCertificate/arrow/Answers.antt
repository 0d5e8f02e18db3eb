use Rattle.std.proofs.Common.{◌∙◌}
use Rattle.std.proofs.lemmas.Option.{slice_get_within}
use Rattle.hs_numbered.proofs.Growing.{held_more, lists_stay}
use Rattle.hs_numbered.proofs.certificate.NumberedCertificate.arrow.Goals as goal

pub invariant_of-self : goal.invariant_of-self
invariant_of-self c = held_more c.self.inside.interner c.arrow.new.self c.arrow.ensures.grows c.self.inside.table.items c.self.inside.void.items c.self.inside.last_type c.self.inside.last_set c.self.inside.last_env c.self.invariant

pub returns-in_err-ty-clause-same : goal.returns-in_err-ty-clause-same
returns-in_err-ty-clause-same c = lists_stay c.self.inside.interner c.arrow.new.self c.arrow.ensures.grows c.self.inside.table.items c.self.inside.void.items c.self.inside.last_type c.self.inside.last_set c.self.inside.last_env c.self.invariant c.args.self.now c.self.view_is

pub invariant_of-self-2 : goal.invariant_of-self-2
invariant_of-self-2 c = held_more c.self.inside.interner c.arrow.new.self c.arrow.ensures.grows c.self.inside.table.items c.self.inside.void.items c.self.inside.last_type c.self.inside.last_set c.self.inside.last_env c.self.invariant

pub keep_type-requires : goal.keep_type-requires
keep_type-requires c = slice_get_within c.arrow.new.self.types c.in_ok-ty.ty _ c.in_ok-ty.ensures.ok

pub returns-clause-same : goal.returns-clause-same
returns-clause-same c =
    let stay = lists_stay c.self.inside.interner c.arrow.new.self c.arrow.ensures.grows c.self.inside.table.items c.self.inside.void.items c.self.inside.last_type c.self.inside.last_set c.self.inside.last_env c.self.invariant c.args.self.now c.self.view_is in
    (c.keep_type.ensures.rest.1 ∙ stay.0, c.keep_type.ensures.rest.2 ∙ stay.1)
