use Rattle.std.proofs.Common.{sym, ◌∙◌, length}
use Rattle.std.proofs.lemmas.Bool.{eqb-true}
use Rattle.hs_types.proofs.UnionLemmas.{union_equal, union_none_first, union_none_second, known_set_at}
use Rattle.hs_types.proofs.interner.Interner.known_union_sets.Goals as goal

pub returns : goal.returns
returns c =
    known_set_at c.self.inside.nodes c.args.self.now c.self.inside.set_unions.known.items c.self.inside.env_unions.known.items c.self.invariant c.self.view_is
    c.args.a c.args.b c.in_ok-union.union c.stored.result c.stored-2.result c.at.result c.stored.ensures c.stored-2.ensures c.at.ensures c.in_ok-union.ensures

pub returns-then-eq : goal.returns-then-eq
returns-then-eq c = union_equal c.self.inside.nodes c.args.self.now c.self.view_is c.know_numbers.ensures c.args.a c.args.b c.requires.a c.requires.b (eqb-true c.args.a c.args.b (sym c.if-eq.ensures))

pub returns-then-is_empty : goal.returns-then-is_empty
returns-then-is_empty c =
    union_none_second c.self.inside.nodes c.args.self.now c.self.view_is c.know_numbers.ensures c.args.a c.args.b c.requires.a c.requires.b c.members.result.now c.members.ensures.members
    (eqb-true (length c.members.result.now) 0 (sym c.is_empty.ensures ∙ c.if-is_empty.true))

pub returns-then-is_empty-2 : goal.returns-then-is_empty-2
returns-then-is_empty-2 c =
    union_none_first c.self.inside.nodes c.args.self.now c.self.view_is c.know_numbers.ensures c.args.a c.args.b c.requires.a c.requires.b c.members-2.result.now c.members-2.ensures.members
    (eqb-true (length c.members-2.result.now) 0 (sym c.is_empty-2.ensures ∙ c.if-is_empty-2.true))
