use Rattle.std.proofs.Common.{sym, ◌∙◌, ◌<◌, ap, map, subst, List, ℕ, All, length, set, arith}
use Rattle.std.proofs.lemmas.List.Elements.{All-set}
use Rattle.hs_types.specs.Interned.{set_of_id}
use Rattle.hs_types.proofs.MakeLemmas.{set_refilled}
use Rattle.hs_rules.proofs.KeepLemmas.{keeps_then}
use Rattle.hs_rules.proofs.FoundLemmas.{sets_stay, sets_within}
use Rattle.hs_rules.proofs.TerminalLemmas.{map-set, as_many}
use Rattle.hs_rules.proofs.terminals.child_sets.Goals as goal

pub returns-clause-range : goal.returns-clause-range
returns-clause-range c =
    let J = c.empty_sets.new.replica.ids in
    let K = c.state_set.new.replica.ids in
    let sets = c.in_ok-sets.sets.items in
    subst (λ (xs : List ℕ). All (λ s. s < length K.sets) xs) (sym (set_refilled sets c.deref_mut.result.now c.args.place c.in_ok-one.one c.deref_mut.ensures.value))
    (All-set (λ s. s < length K.sets) sets c.args.place c.in_ok-one.one c.in_ok-one.ensures.range (sets_within J K sets c.in_ok-one.ensures.kept.grows c.in_ok-sets.ensures.range))

pub returns-clause-are : goal.returns-clause-are
returns-clause-are c =
    let J = c.empty_sets.new.replica.ids in
    let K = c.state_set.new.replica.ids in
    let sets = c.in_ok-sets.sets.items in
    let same = sets_stay J K sets c.in_ok-one.ensures.kept.grows c.in_ok-sets.ensures.range ∙ c.in_ok-sets.ensures.are in
    ap (map (set_of_id K)) (set_refilled sets c.deref_mut.result.now c.args.place c.in_ok-one.one c.deref_mut.ensures.value)
    ∙ (map-set (set_of_id K) sets c.args.place c.in_ok-one.one ∙ (λ i. set (same i) c.args.place (c.in_ok-one.ensures.is i)))

pub bounds-deref_mut-place : goal.bounds-deref_mut-place
bounds-deref_mut-place c =
    omega (arith, c.requires, as_many (set_of_id c.empty_sets.new.replica.ids) c.in_ok-sets.sets.items c.deref_mut.result.now (length c.args.to.now) c.deref_mut.ensures.value c.in_ok-sets.ensures.are)

pub offset_bounds-deref_mut-place : goal.offset_bounds-deref_mut-place
offset_bounds-deref_mut-place c =
    let many = as_many (set_of_id c.empty_sets.new.replica.ids) c.in_ok-sets.sets.items c.deref_mut.result.now (length c.args.to.now) c.deref_mut.ensures.value c.in_ok-sets.ensures.are in
    omega (arith, c.requires, many, c.deref_mut.type_inv.1)

pub returns-in_err-one-clause-kept : goal.returns-in_err-one-clause-kept
returns-in_err-one-clause-kept c = keeps_then c.args.replica.now c.empty_sets.new.replica c.state_set.new.replica c.in_ok-sets.ensures.kept c.state_set.ensures.kept

pub returns-clause-kept : goal.returns-clause-kept
returns-clause-kept c = keeps_then c.args.replica.now c.empty_sets.new.replica c.state_set.new.replica c.in_ok-sets.ensures.kept c.in_ok-one.ensures.kept
