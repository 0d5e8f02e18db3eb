use Rattle.std.proofs.Common.{◌≡◌, ◌≤◌, sym, ◌∙◌, ap, subst, List, All, length}
use Rattle.hs_scheme.specs.declared.term.Rule.{Rule}
use Rattle.hs_scheme.specs.Scheme.{AreRules}
use Rattle.hs_scheme.specs.sorting.Sorting.{SortTree, arguments}
use Rattle.hs_scheme.specs.Names.{NamesData}
use Rattle.hs_scheme.specs.sorting.Sorted.{IsSorted}
use Rattle.hs_scheme.specs.sorting.Lengthening.{lengthening}
use Rattle.hs_scheme.specs.sorting.Unsorted.{UnsortedData}
use Rattle.hs_sorts.specs.Least.{AreLeastSorts}
use Rattle.hs_sorts.specs.Naming.{lengthened_names}
use Rattle.hs_sorts.proofs.FullRules.{are_long_rules}
use Rattle.hs_sorts.proofs.Assembling.{is_sorted, one_sort_each, few_each}
use Rattle.hs_sorts.proofs.inference.with_sorts.Goals as goal

pub lengthen-requires-clause-each_name : goal.lengthen-requires-clause-each_name
lengthen-requires-clause-each_name c =
    ap length c.as_slice.ensures.value ∙ one_sort_each (record { rules = c.unsorted.inside.rules.items; ranks = c.unsorted.inside.ranks.items; automaton = c.unsorted.inside.automaton; names = c.unsorted.inside.names })
    c.args.least.sorts.items c.args.least.ranks.items c.unsorted.invariant (subst (λ (u : UnsortedData). AreLeastSorts u.rules u.ranks c.args.least.sorts.items c.args.least.ranks.items) (sym c.unsorted.view_is) c.requires)

pub lengthen-requires-clause-sorts : goal.lengthen-requires-clause-sorts
lengthen-requires-clause-sorts c =
    subst (λ (ks : List SortTree). All (λ k. length (arguments k) ≤ 1000) ks) (sym c.as_slice.ensures.value)
    (few_each (record { rules = c.unsorted.inside.rules.items; ranks = c.unsorted.inside.ranks.items; automaton = c.unsorted.inside.automaton; names = c.unsorted.inside.names })
    c.args.least.sorts.items c.args.least.ranks.items c.unsorted.invariant (subst (λ (u : UnsortedData). AreLeastSorts u.rules u.ranks c.args.least.sorts.items c.args.least.ranks.items) (sym c.unsorted.view_is) c.requires))

pub invariant_of-result : goal.invariant_of-result
invariant_of-result c =
    subst (λ (rs : List Rule). AreRules rs (length c.args.least.ranks.items)) (sym (c.in_ok-lengthen.ensures.rules ∙ ap (lengthening c.unsorted.inside.rules.items) c.as_slice.ensures.value))
    (are_long_rules c.unsorted.inside.rules.items c.unsorted.inside.ranks.items c.args.least.sorts.items c.args.least.ranks.items (subst (λ (u : UnsortedData). AreLeastSorts u.rules u.ranks c.args.least.sorts.items c.args.least.ranks.items) (sym c.unsorted.view_is) c.requires) c.unsorted.invariant.rules)

pub invariant_of-result-2 : goal.invariant_of-result-2
invariant_of-result-2 c =
    let rules_are : c.lengthen.new.rules.items ≡ lengthening c.unsorted.inside.rules.items c.args.least.sorts.items =
    c.in_ok-lengthen.ensures.rules ∙ ap (lengthening c.unsorted.inside.rules.items) c.as_slice.ensures.value in
    let names_are : c.lengthen.new.names ≡ lengthened_names c.unsorted.inside.names c.args.least.sorts.items =
    c.in_ok-lengthen.ensures.names ∙ ap (lengthened_names c.unsorted.inside.names) c.as_slice.ensures.value in
    subst (λ (rs : List Rule). IsSorted (record { scheme = record { rules = rs; ranks = c.args.least.ranks.items }; automaton = c.unsorted.inside.automaton; names = c.lengthen.new.names; sorts = c.args.least.sorts.items })) (sym rules_are)
    (subst (λ (ns : NamesData). IsSorted (record { scheme = record { rules = lengthening c.unsorted.inside.rules.items c.args.least.sorts.items; ranks = c.args.least.ranks.items }; automaton = c.unsorted.inside.automaton; names = ns; sorts = c.args.least.sorts.items })) (sym names_are)
    (is_sorted (record { rules = c.unsorted.inside.rules.items; ranks = c.unsorted.inside.ranks.items; automaton = c.unsorted.inside.automaton; names = c.unsorted.inside.names })
    c.args.least.sorts.items c.args.least.ranks.items c.unsorted.invariant (subst (λ (u : UnsortedData). AreLeastSorts u.rules u.ranks c.args.least.sorts.items c.args.least.ranks.items) (sym c.unsorted.view_is) c.requires)))
