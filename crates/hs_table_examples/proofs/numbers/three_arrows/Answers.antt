use Rattle.std.proofs.Common.{ℕ, ◌<◌, length, [], ◌∷◌}
use Rattle.std.proofs.lemmas.List.Elements.{All-nil, All-cons}
use Rattle.hs_types.proofs.Numbers.{type_within}
use Rattle.hs_table_examples.proofs.NumberLemmas.{given}
use Rattle.hs_table_examples.proofs.numbers.three_arrows.Goals as goal

pub arrow_of-requires-clause-ids : goal.arrow_of-requires-clause-ids
arrow_of-requires-clause-ids c =
    let J = c.base-2.new.self in
    let P : ℕ → Type 0 = λ t. t < length J.types in
    All-cons P c.in_ok-a.a [] (given J.types c.in_ok-a.a c.in_ok-a.ensures.ok) (All-nil P)

pub arrow_of-requires-clause-rest : goal.arrow_of-requires-clause-rest
arrow_of-requires-clause-rest c = type_within c.base.new.self c.base-2.new.self c.in_ok-a.ensures.grows c.in_ok-b.b (given c.base.new.self.types c.in_ok-b.b c.in_ok-b.ensures.ok)

pub arrow_of-requires-2-clause-ids : goal.arrow_of-requires-2-clause-ids
arrow_of-requires-2-clause-ids c =
    let I = c.base-2.new.self in
    let J = c.arrow_of.new.interner in
    let P : ℕ → Type 0 = λ t. t < length J.types in
    let a = type_within I J c.in_ok-third.ensures.grows c.in_ok-a.a (given I.types c.in_ok-a.a c.in_ok-a.ensures.ok) in
    let b = type_within I J c.in_ok-third.ensures.grows c.in_ok-b.b (type_within c.base.new.self I c.in_ok-a.ensures.grows c.in_ok-b.b (given c.base.new.self.types c.in_ok-b.b c.in_ok-b.ensures.ok)) in
    All-cons P c.in_ok-a.a (c.in_ok-b.b ∷ []) a (All-cons P c.in_ok-b.b [] b (All-nil P))

pub arrow_of-requires-2-clause-rest : goal.arrow_of-requires-2-clause-rest
arrow_of-requires-2-clause-rest c =
    let I = c.base-2.new.self in
    type_within I c.arrow_of.new.interner c.in_ok-third.ensures.grows c.in_ok-a.a (given I.types c.in_ok-a.a c.in_ok-a.ensures.ok)

pub arrow_of-requires-3-clause-rest : goal.arrow_of-requires-3-clause-rest
arrow_of-requires-3-clause-rest c =
    let I = c.base-2.new.self in
    let J = c.arrow_of.new.interner in
    type_within J c.arrow_of-2.new.interner c.in_ok-second.ensures.grows c.in_ok-a.a (type_within I J c.in_ok-third.ensures.grows c.in_ok-a.a (given I.types c.in_ok-a.a c.in_ok-a.ensures.ok))

pub returns-clause-first : goal.returns-clause-first
returns-clause-first c = c.in_ok-first.ensures.within

pub returns-clause-second : goal.returns-clause-second
returns-clause-second c = type_within c.arrow_of-2.new.interner c.arrow_of-3.new.interner c.in_ok-first.ensures.grows c.in_ok-second.second c.in_ok-second.ensures.within

pub returns-clause-third : goal.returns-clause-third
returns-clause-third c =
    type_within c.arrow_of-2.new.interner c.arrow_of-3.new.interner c.in_ok-first.ensures.grows c.in_ok-third.third
    (type_within c.arrow_of.new.interner c.arrow_of-2.new.interner c.in_ok-second.ensures.grows c.in_ok-third.third c.in_ok-third.ensures.within)
