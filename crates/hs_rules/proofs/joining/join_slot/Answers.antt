use Rattle.std.proofs.Common.{◌≡◌, sym, ◌∙◌, ap, subst, ℕ, List, [], ◌∷◌, map, slice_index_or, Contains}
use Rattle.hs_table.specs.Entries.{EntryData}
use Rattle.hs_rules.specs.Slots.{FilledData}
use Rattle.hs_rules.specs.Joins.{PartialData, FillsBy, AreAscending, IsMadeOf, IsAmongJoined, with_choice}
use Rattle.hs_rules.proofs.JoinLemmas.{single}
use Rattle.hs_rules.proofs.SoleLemmas.{choice_written, choice_ascends, choice_made, choice_among}
use Rattle.hs_rules.proofs.joining.join_slot.Goals as goal

pub returns-then-places-eq1-clause-ascending : goal.returns-then-places-eq1-clause-ascending
returns-then-places-eq1-clause-ascending c =
    let old = c.args.partials.now.items in
    let given = c.as_mut_slice.result.now in
    let new = c.choose_sole.new.partials in
    let arg = c.slot.inside.arg in
    let place = slice_index_or c.as_slice-places.result.now 0 0 in
    subst (λ (xs : List PartialData). AreAscending xs) (sym (choice_written arg c.args.at place old given new c.as_mut_slice.ensures.value c.in_ok-choose_sole.ensures)) (choice_ascends arg c.args.at place old c.requires.ascending c.requires.long)

pub returns-then-places-eq1-clause-only : goal.returns-then-places-eq1-clause-only
returns-then-places-eq1-clause-only c =
    let ids = c.args.replica.now.ids in
    let log = c.args.replica.now.log in
    let f = c.args.slot.now in
    let old = c.args.partials.now.items in
    let given = c.as_mut_slice.result.now in
    let new = c.choose_sole.new.partials in
    let arg = c.slot.inside.arg in
    let items = c.as_slice-places.result.now in
    let place = slice_index_or items 0 0 in
    let one : f.places ≡ place ∷ [] = sym (c.as_slice-places.ensures ∙ ap (λ (x : FilledData). x.places) c.slot.view_is) ∙ single items c.if-places-eq1.true in
    let arg_is = ap (λ (x : FilledData). x.arg) c.slot.view_is in
    subst (λ (xs : List PartialData). (x : PartialData) → Contains xs x → IsMadeOf ids ids log old f c.args.at x)
    (sym (choice_written f.arg c.args.at place old given new c.as_mut_slice.ensures.value (subst (λ (a : ℕ). new ≡ map (with_choice a c.args.at place) given) arg_is c.in_ok-choose_sole.ensures)))
    (choice_made ids log f c.args.at old place one c.requires.can c.requires.sole)

pub returns-then-places-eq1-clause-all : goal.returns-then-places-eq1-clause-all
returns-then-places-eq1-clause-all c =
    let ids = c.args.replica.now.ids in
    let log = c.args.replica.now.log in
    let f = c.args.slot.now in
    let old = c.args.partials.now.items in
    let given = c.as_mut_slice.result.now in
    let new = c.choose_sole.new.partials in
    let arg = c.slot.inside.arg in
    let items = c.as_slice-places.result.now in
    let place = slice_index_or items 0 0 in
    let one : f.places ≡ place ∷ [] = sym (c.as_slice-places.ensures ∙ ap (λ (x : FilledData). x.places) c.slot.view_is) ∙ single items c.if-places-eq1.true in
    let arg_is = ap (λ (x : FilledData). x.arg) c.slot.view_is in
    let All : List PartialData → Type 0 = λ xs. (from : PartialData) → Contains old from → (k : ℕ) (e : EntryData) → FillsBy log f k e → IsAmongJoined ids ids from c.args.at k e xs in
    subst All (sym (choice_written f.arg c.args.at place old given new c.as_mut_slice.ensures.value (subst (λ (a : ℕ). new ≡ map (with_choice a c.args.at place) given) arg_is c.in_ok-choose_sole.ensures)))
    (choice_among ids log f c.args.at old place one c.requires.can c.requires.sole)
