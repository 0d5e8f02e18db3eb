use Rattle.std.proofs.Common.{◌≡◌, sym, subst, ℕ, List, ◌⊎◌, Contains}
use Rattle.std.specs.List.{insert}
use Rattle.std.proofs.lemmas.Bool.{OnTrue_at}
use Rattle.hs_rules.specs.Order.{chosen_places}
use Rattle.hs_rules.specs.Joins.{SeenAre, AreAscending}
use Rattle.hs_rules.proofs.Lists.{on_ok_map}
use Rattle.hs_rules.proofs.OrderLemmas.{places_insert}
use Rattle.hs_rules.proofs.JoinLemmas.{IsThere, seen_pushed, pushed_there, among_there, pushed_ascends}
use Rattle.hs_rules.proofs.joining.add.Goals as goal

pub returns-then-has-clause-there : goal.returns-then-has-clause-there
returns-then-has-clause-there c =
    among_there c.args.out.now.list.items c.args.env (insert (chosen_places c.args.from.now) c.args.candidate.at c.args.candidate.place) (OnTrue_at c.if-has.true c.has.ensures) c.requires.before

pub returns-clause-there : goal.returns-clause-there
returns-clause-there c =
    let new = c.push.new.out.list.items in
    let k = c.args.candidate in
    let places = insert (chosen_places c.args.from.now) k.at k.place in
    on_ok_map c.push.result _ (IsThere new c.args.env places)
    (λ is. pushed_there c.args.out.now.list.items new c.args.env (insert c.args.from.now k.at (k.arg, k.place)) places (places_insert c.args.from.now k.at k.arg k.place) is) c.push.ensures.list

pub returns-clause-ascending : goal.returns-clause-ascending
returns-clause-ascending c =
    let new = c.push.new.out.list.items in
    let k = c.args.candidate in
    let places = insert (chosen_places c.args.from.now) k.at k.place in
    on_ok_map c.push.result _ (AreAscending new)
    (λ is. pushed_ascends c.args.out.now.list.items new c.args.env (insert c.args.from.now k.at (k.arg, k.place)) places (places_insert c.args.from.now k.at k.arg k.place) is c.requires.ascending c.requires.before) c.push.ensures.list

pub returns-clause-seen : goal.returns-clause-seen
returns-clause-seen c =
    let new = c.push.new.out.list.items in
    let k = c.args.candidate in
    on_ok_map c.push.result _ (SeenAre c.push.new.out.seen.keys new)
    (λ is. seen_pushed c.args.out.now.seen.keys c.push.new.out.seen.keys c.args.out.now.list.items new (record { env = c.args.env; args = insert c.args.from.now k.at (k.arg, k.place) }) c.requires.seen
    (subst (λ (more : List ℕ). (n : ℕ) → Contains more n → Contains c.args.out.now.seen.keys n ⊎ (n ≡ c.args.env)) (sym c.push.ensures.seen) c.in_ok-keep.ensures) is) c.push.ensures.list
