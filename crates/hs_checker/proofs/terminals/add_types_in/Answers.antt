use Rattle.std.proofs.Common.{◌≡◌, sym, ◌∙◌, ap, subst, ℕ, [], List, option_copied, length, replicate, Contains}
use Rattle.std.proofs.lemmas.Result.{on_ok_weaker}
use Rattle.hs_scheme.specs.acceptance.Automaton.{next}
use Rattle.hs_table.specs.Types.{TypeTree, state, arrows}
use Rattle.hs_table.specs.Entries.{EntryData}
use Rattle.hs_table_plain.specs.Enumeration.{child_types, types_in}
use Rattle.hs_types.specs.Interned.{type_of_id}
use Rattle.hs_checker.specs.Slots.{FitsSets}
use Rattle.hs_checker.specs.Numbers.{entries_of, GainsTypes}
use Rattle.hs_checker.proofs.NumberLemmas.{rows_grow, entries_stay, types_grow, gains_later, gains_same}
use Rattle.hs_checker.proofs.TypeLemmas.{same_part, lacking_type, reading_types}
use Rattle.hs_checker.proofs.terminals.add_types_in.Goals as goal

pub add_fitting-requires-clause-rows : goal.add_fitting-requires-clause-rows
add_fitting-requires-clause-rows c = rows_grow c.args.types.now c.bare_type.new.types c.in_ok-ty-in-None.ensures.grows c.args.index.now c.requires.rows

pub add_fitting-requires-clause-found : goal.add_fitting-requires-clause-found
add_fitting-requires-clause-found c = types_grow c.args.types.now c.bare_type.new.types c.in_ok-ty-in-None.ensures.grows c.args.found.now.items c.requires.found

pub add_child_types-requires-clause-rank : goal.add_child_types-requires-clause-rank
add_child_types-requires-clause-rank c = c.transition.ensures.ranks c.in-Some.to.now (sym c.transition.ensures.moves ∙ ap option_copied c.in-Some.is) ∙ sym c.rank-rank.ensures

pub returns-in_ok-ty-in-None : goal.returns-in_ok-ty-in-None
returns-in_ok-ty-in-None c =
    let I = c.args.types.now in
    let J = c.bare_type.new.types in
    let g = c.in_ok-ty-in-None.ensures.grows in
    let R = c.args.index.now in
    let us = c.args.args.now in
    let p = c.args.problem.now in
    let q = c.args.q in
    let olds = c.args.found.now.items in
    let news = c.add_fitting.new.found.items in
    let none : List TypeTree = [] in
    let ty = type_of_id J c.in_ok-ty-in-None.ty in
    let made : ty ≡ _ = c.in_ok-ty-in-None.ensures.is ∙ ap (λ (n : ℕ). arrows (replicate n none) (state q)) c.rank-rank.ensures in
    let stay = entries_stay I J g R c.requires.rows in
    on_ok_weaker c.add_fitting.result (λ gained.
    gains_later I J J g olds news c.requires.found (λ t. Contains (types_in p c.args.terminal q (next p.sorted.automaton.transitions q c.args.terminal)) t × FitsSets (entries_of I R) us t)
    (gains_same J J olds news (λ t. (t ≡ ty) × FitsSets (entries_of I R) us t) (λ t. Contains (types_in p c.args.terminal q (next p.sorted.automaton.transitions q c.args.terminal)) t × FitsSets (entries_of I R) us t)
    (λ t. same_part _ _ (FitsSets (entries_of I R) us t) (lacking_type p c.args.terminal q ty (option_copied c.transition.result) c.transition.ensures.moves (ap option_copied c.in-None.is) made t))
    (subst (λ (F : List EntryData). GainsTypes J J olds news (λ t. (t ≡ ty) × FitsSets F us t)) stay gained))) c.add_fitting.ensures

pub returns-in-Some : goal.returns-in-Some
returns-in-Some c =
    let I = c.args.types.now in
    let K = c.add_child_types.new.types in
    let R = c.args.index.now in
    let us = c.args.args.now in
    let p = c.args.problem.now in
    let q = c.args.q in
    let to = c.in-Some.to.now in
    on_ok_weaker c.add_child_types.result (λ gained.
    gains_same I K c.args.found.now.items c.add_child_types.new.found.items (λ t. Contains (child_types to q (length to)) t × FitsSets (entries_of I R) us t)
    (λ t. Contains (types_in p c.args.terminal q (next p.sorted.automaton.transitions q c.args.terminal)) t × FitsSets (entries_of I R) us t)
    (λ t. same_part _ _ (FitsSets (entries_of I R) us t) (reading_types p c.args.terminal q to (option_copied c.transition.result) c.transition.ensures.moves (ap option_copied c.in-Some.is) t)) gained) c.add_child_types.ensures
