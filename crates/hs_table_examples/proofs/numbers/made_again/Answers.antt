use Rattle.std.proofs.Common.{ℕ, ◌<◌, length, []}
use Rattle.std.proofs.lemmas.List.Elements.{All-nil, All-cons}
use Rattle.hs_types.proofs.Numbers.{type_within}
use Rattle.hs_table_examples.proofs.NumberLemmas.{given}
use Rattle.hs_table_examples.proofs.numbers.made_again.Goals as goal

pub arrow_of-requires-clause-rest : goal.arrow_of-requires-clause-rest
arrow_of-requires-clause-rest c = given c.base.new.self.types c.in_ok-a.a c.in_ok-a.ensures.ok

pub arrow_of-requires-2-clause-ids : goal.arrow_of-requires-2-clause-ids
arrow_of-requires-2-clause-ids c =
    let I = c.base.new.self in
    let J = c.arrow_of.new.interner in
    let P : ℕ → Type 0 = λ t. t < length J.types in
    let a = type_within I J c.in_ok-first.ensures.grows c.in_ok-a.a (given I.types c.in_ok-a.a c.in_ok-a.ensures.ok) in
    All-cons P c.in_ok-a.a [] a (All-nil P)

pub arrow_of-requires-2-clause-rest : goal.arrow_of-requires-2-clause-rest
arrow_of-requires-2-clause-rest c =
    let I = c.base.new.self in
    type_within I c.arrow_of.new.interner c.in_ok-first.ensures.grows c.in_ok-a.a (given I.types c.in_ok-a.a c.in_ok-a.ensures.ok)

pub arrow_of-requires-3-clause-rest : goal.arrow_of-requires-3-clause-rest
arrow_of-requires-3-clause-rest c =
    let I = c.base.new.self in
    let J = c.arrow_of.new.interner in
    type_within J c.arrow_of-2.new.interner c.in_ok-second.ensures.grows c.in_ok-a.a (type_within I J c.in_ok-first.ensures.grows c.in_ok-a.a (given I.types c.in_ok-a.a c.in_ok-a.ensures.ok))
