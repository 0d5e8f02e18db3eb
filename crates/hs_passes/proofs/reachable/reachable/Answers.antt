use Rattle.std.proofs.Common.{◌≡◌, ◌<◌, sym, ◌∙◌, ap, subst, ℕ, List, ◌∷◌, [], ◌++◌, length, slice_get, Some, take, ◌-◌, append-nil, length-append, arith}
use Rattle.std.proofs.lemmas.Option.{slice_get-get_or}
use Rattle.std.proofs.lemmas.List.{length-replicate}
use Rattle.hs_scheme.specs.declared.term.Rule.{Rule}
use Rattle.hs_scheme.specs.Scheme.{SchemeData, AreRules}
use Rattle.hs_passes.specs.Marking.{marked, newly}
use Rattle.hs_passes.specs.Occurrences.{nonterminals}
use Rattle.hs_passes.specs.Reachable.{is_reachable}
use Rattle.hs_passes.specs.Selection.{stays}
use Rattle.hs_passes.proofs.Searching.{In, Searched, searched_first, next_in_range, within, searched_next, searched_all, in_each, unmarked, unmarked-marked, none_stays}
use Rattle.hs_passes.proofs.reachable.reachable.Goals as goal

pub loop-rule-init : goal.loop-rule-init
loop-rule-init c =
    let rules = c.as_slice-rules.result.now in
    let are = subst (λ (rs : List Rule). AreRules rs (length c.scheme.inside.ranks.items)) (sym c.as_slice-rules.ensures.value) c.scheme.invariant in
    subst (Searched rules _) (sym c.in_ok-pending.ensures.items)
    (searched_first rules (length c.scheme.inside.ranks.items) are c.in_ok-kept.kept.items (ap length c.in_ok-kept.ensures ∙ length-replicate _ _) (λ f. ap (λ k. stays k f) c.in_ok-kept.ensures ∙ none_stays _ f))

pub bounds-rules-rule : goal.bounds-rules-rule
bounds-rules-rule c =
    let rules = c.as_slice-rules.result.now in
    let are = subst (λ (rs : List Rule). AreRules rs (length c.scheme.inside.ranks.items)) (sym c.as_slice-rules.ensures.value) c.scheme.invariant in
    let h = subst (Searched rules c.loop-rule.kept.items) c.in-Some.ensures.items c.loop-rule.invariant in
    next_in_range rules (length c.scheme.inside.ranks.items) are c.loop-rule.kept.items c.pop.new.self.items c.in-Some.rule h

pub mark-requires : goal.mark-requires
mark-requires c =
    let rules = c.as_slice-rules.result.now in
    let are = subst (λ (rs : List Rule). AreRules rs (length c.scheme.inside.ranks.items)) (sym c.as_slice-rules.ensures.value) c.scheme.invariant in
    let h = subst (Searched rules c.loop-rule.kept.items) c.in-Some.ensures.items c.loop-rule.invariant in
    let r : Rule = c.index-rules-rule.result in
    let names : c.as_slice.result.now ≡ nonterminals r.body = c.as_slice.ensures.value ∙ (c.in_ok-collect.ensures ∙ (λ j. c.new-names.ensures.items j ++ nonterminals (sym c.index-rules-rule.is j).body)) in
    let lt = next_in_range rules (length c.scheme.inside.ranks.items) are c.loop-rule.kept.items c.pop.new.self.items c.in-Some.rule h in
    let at : slice_get rules c.in-Some.rule ≡ Some r = slice_get-get_or rules c.in-Some.rule r lt ∙ ap (λ (q : Rule). Some q) (sym c.index-rules-rule.is) in
    let long : c.loop-rule.kept.len ≡ length c.loop-rule.kept.items = c.loop-rule.kept.ok.0 in
    in_each (λ n. n < c.loop-rule.kept.len) c.as_slice.result.now
    (λ f i. subst (λ n. f < n) (sym long) (within rules (length c.scheme.inside.ranks.items) are c.loop-rule.kept.items c.pop.new.self.items c.in-Some.rule h r at f (subst (In f) names i)))

pub loop-rule-preserved : goal.loop-rule-preserved
loop-rule-preserved c =
    let rules = c.as_slice-rules.result.now in
    let are = subst (λ (rs : List Rule). AreRules rs (length c.scheme.inside.ranks.items)) (sym c.as_slice-rules.ensures.value) c.scheme.invariant in
    let h = subst (Searched rules c.loop-rule.kept.items) c.in-Some.ensures.items c.loop-rule.invariant in
    let r : Rule = c.index-rules-rule.result in
    let names : c.as_slice.result.now ≡ nonterminals r.body = c.as_slice.ensures.value ∙ (c.in_ok-collect.ensures ∙ (λ j. c.new-names.ensures.items j ++ nonterminals (sym c.index-rules-rule.is j).body)) in
    let lt = next_in_range rules (length c.scheme.inside.ranks.items) are c.loop-rule.kept.items c.pop.new.self.items c.in-Some.rule h in
    let at : slice_get rules c.in-Some.rule ≡ Some r = slice_get-get_or rules c.in-Some.rule r lt ∙ ap (λ (q : Rule). Some q) (sym c.index-rules-rule.is) in
    let next = searched_next rules (length c.scheme.inside.ranks.items) are c.loop-rule.kept.items c.pop.new.self.items c.in-Some.rule h r at in
    subst (λ ks. Searched rules ks c.mark.new.pending.items) (sym (c.in_ok-mark.ensures.kept ∙ ap (λ ns. marked ns c.loop-rule.kept.items) names))
    (subst (Searched rules _) (sym (c.in_ok-mark.ensures.pending ∙ ap (λ ns. c.pop.new.self.items ++ newly ns c.loop-rule.kept.items) names)) next)

pub loop-rule-smaller : goal.loop-rule-smaller
loop-rule-smaller c =
    let rules = c.as_slice-rules.result.now in
    let are = subst (λ (rs : List Rule). AreRules rs (length c.scheme.inside.ranks.items)) (sym c.as_slice-rules.ensures.value) c.scheme.invariant in
    let h = subst (Searched rules c.loop-rule.kept.items) c.in-Some.ensures.items c.loop-rule.invariant in
    let r : Rule = c.index-rules-rule.result in
    let names : c.as_slice.result.now ≡ nonterminals r.body = c.as_slice.ensures.value ∙ (c.in_ok-collect.ensures ∙ (λ j. c.new-names.ensures.items j ++ nonterminals (sym c.index-rules-rule.is j).body)) in
    let lt = next_in_range rules (length c.scheme.inside.ranks.items) are c.loop-rule.kept.items c.pop.new.self.items c.in-Some.rule h in
    let at : slice_get rules c.in-Some.rule ≡ Some r = slice_get-get_or rules c.in-Some.rule r lt ∙ ap (λ (q : Rule). Some q) (sym c.index-rules-rule.is) in
    let inside = within rules (length c.scheme.inside.ranks.items) are c.loop-rule.kept.items c.pop.new.self.items c.in-Some.rule h r at in
    let count = unmarked-marked (nonterminals r.body) c.loop-rule.kept.items inside in
    let kept : unmarked c.mark.new.kept.items ≡ unmarked (marked (nonterminals r.body) c.loop-rule.kept.items) = ap unmarked (c.in_ok-mark.ensures.kept ∙ ap (λ ns. marked ns c.loop-rule.kept.items) names) in
    let pending : length c.mark.new.pending.items ≡ length (c.pop.new.self.items ++ newly (nonterminals r.body) c.loop-rule.kept.items) =
    ap length (c.in_ok-mark.ensures.pending ∙ ap (λ ns. c.pop.new.self.items ++ newly ns c.loop-rule.kept.items) names) in
    omega (arith, count, kept, pending, length-append c.pop.new.self.items (newly (nonterminals r.body) c.loop-rule.kept.items), ap length c.in-Some.ensures.items, length-append c.pop.new.self.items (c.in-Some.rule ∷ []))

pub returns-clause-is : goal.returns-clause-is
returns-clause-is c =
    let rules = c.as_slice-rules.result.now in
    let are = subst (λ (rs : List Rule). AreRules rs (length c.scheme.inside.ranks.items)) (sym c.as_slice-rules.ensures.value) c.scheme.invariant in
    let old = c.loop-rule.pending.items in
    let e = c.in_default.ensures in
    let empty : c.loop-rule.pending.len - 1 ≡ 0 = omega (arith, e.cases.0) in
    let none : old ≡ [] = e.items ∙ (append-nil c.pop.new.self.items ∙ (e.rest ∙ ap (λ n. take n old) empty)) in
    let all = searched_all rules (length c.scheme.inside.ranks.items) are c.loop-rule.kept.items (subst (Searched rules c.loop-rule.kept.items) none c.loop-rule.invariant) in
    subst (λ (rs : List Rule). (f : ℕ) → stays c.loop-rule.kept.items f ≡ is_reachable rs f) (c.as_slice-rules.ensures.value ∙ ap (λ (s : SchemeData). s.rules) c.scheme.view_is) all
