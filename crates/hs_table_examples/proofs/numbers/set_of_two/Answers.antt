use Rattle.std.proofs.Common.{ℕ, ◌<◌, length, [], ◌∷◌}
use Rattle.std.proofs.lemmas.List.Elements.{All-nil, All-cons}
use Rattle.hs_types.proofs.Numbers.{type_within}
use Rattle.hs_table_examples.proofs.NumberLemmas.{given}
use Rattle.hs_table_examples.proofs.numbers.set_of_two.Goals as goal

pub set-requires : goal.set-requires
set-requires c =
    let J = c.base-2.new.self in
    let P : ℕ → Type 0 = λ t. t < length J.types in
    let a = type_within c.base.new.self J c.in_ok-b.ensures.grows c.in_ok-a.a (given c.base.new.self.types c.in_ok-a.a c.in_ok-a.ensures.ok) in
    let b = given J.types c.in_ok-b.b c.in_ok-b.ensures.ok in
    All-cons P c.in_ok-b.b (c.in_ok-a.a ∷ (c.in_ok-a.a ∷ [])) b (All-cons P c.in_ok-a.a (c.in_ok-a.a ∷ []) a (All-cons P c.in_ok-a.a [] a (All-nil P)))

pub returns : goal.returns
returns c = c.in_ok-set.ensures.ok.0
