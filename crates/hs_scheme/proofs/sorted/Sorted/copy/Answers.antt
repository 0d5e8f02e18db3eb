use Rattle.std.proofs.Common.{◌≡◌, sym, ◌∙◌, subst, List}
use Rattle.hs_scheme.specs.acceptance.Automaton.{AutomatonData}
use Rattle.hs_scheme.specs.Names.{NamesData}
use Rattle.hs_scheme.specs.Scheme.{SchemeData}
use Rattle.hs_scheme.specs.sorting.Sorted.{IsSorted}
use Rattle.hs_scheme.specs.sorting.Sorting.{SortTree}
use Rattle.hs_scheme.proofs.sorted.Sorted.copy.Goals as goal

sorted_same : {s t : SchemeData} {a b : AutomatonData} {n m : NamesData} {k l : List SortTree} → s ≡ t → a ≡ b → n ≡ m → k ≡ l
    → IsSorted (record { scheme = s; automaton = a; names = n; sorts = k }) → IsSorted (record { scheme = t; automaton = b; names = m; sorts = l })
sorted_same e f g h = subst IsSorted (λ j. record { scheme = e j; automaton = f j; names = g j; sorts = h j })

pub invariant_of-result : goal.invariant_of-result
invariant_of-result c = sorted_same (sym c.in_ok-copy.ensures) (sym c.in_ok-copy-3.ensures) (sym c.in_ok-copy-2.ensures) (sym (c.in_ok-sorts.ensures ∙ c.as_slice.ensures.value)) c.self.invariant

pub returns : goal.returns
returns c =
    let scheme : c.in_ok-copy.field-0 ≡ c.self.inside.scheme = c.in_ok-copy.ensures in
    let automaton : c.in_ok-copy-3.field-0 ≡ c.self.inside.automaton = c.in_ok-copy-3.ensures in
    let names : c.in_ok-copy-2.field-0 ≡ c.self.inside.names = c.in_ok-copy-2.ensures in
    let sorts : c.in_ok-sorts.sorts.items ≡ c.self.inside.sorts.items = c.in_ok-sorts.ensures ∙ c.as_slice.ensures.value in
    (λ j. record { scheme = scheme j; automaton = automaton j; names = names j; sorts = sorts j }) ∙ c.self.view_is
