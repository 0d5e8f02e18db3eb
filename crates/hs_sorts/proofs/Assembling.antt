-- The lengthened scheme with its least sorting keeps what holds of a sorted scheme.
use Rattle.std.proofs.Common.{◌≡◌, ◌∙◌, sym, ap, subst, ℕ, ◌≤◌, List, length, slice_get, get_or, unwrap_or, map, All, Some, arith}
use Rattle.std.proofs.lemmas.List.{length-map}
use Rattle.std.proofs.lemmas.List.Elements.{All-weaker}
use Rattle.std.proofs.lemmas.Option.{slice_get-map, slice_get-get_or}
use Rattle.std.specs.Option.{option_map}
use Rattle.hs_scheme.specs.sorting.Unsorted.{UnsortedData, IsUnsorted}
use Rattle.hs_scheme.specs.declared.term.Rule.{Rule}
use Rattle.hs_scheme.specs.Tree.{Trees, node, none, more, children}
use Rattle.hs_scheme.specs.sorting.Sorting.{SortTree, o, size, sizes, arguments}
use Rattle.hs_scheme.specs.sorting.Sorted.{IsSorted, known, sort_at}
use Rattle.hs_scheme.specs.sorting.Lengthening.{lengthening}
use Rattle.hs_sorts.specs.Naming.{lengthened_names}
use Rattle.hs_sorts.specs.Least.{AreLeastSorts}
use Rattle.hs_sorts.proofs.FullRules.{long_sorting, are_full, as_many, long_params}

pub is_sorted : (u : UnsortedData) (sorts : List SortTree) (arities : List ℕ) → IsUnsorted u → AreLeastSorts u.rules u.ranks sorts arities
    → IsSorted (record { scheme = record { rules = lengthening u.rules sorts; ranks = arities }; automaton = u.automaton; names = lengthened_names u.names sorts; sorts = sorts })
is_sorted u sorts arities is l = record {
  each_rule = as_many u.rules u.ranks sorts arities l;
  sorting = long_sorting u.rules u.ranks sorts arities l;
  full = are_full u.rules u.ranks sorts arities l;
  ranks =
      All-weaker (λ t. slice_get u.ranks t.terminal ≡ Some (Some (length t.to))) (λ t. slice_get (known arities) t.terminal ≡ Some (Some (length t.to)))
      (λ t h. slice_get-map (λ n. Some n) arities t.terminal ∙ ap (option_map (λ n. Some n)) (l.agrees t.terminal (length t.to) h)) u.automaton.transitions is.ranks;
  names = record {
    each_rule = is.names.each_rule ∙ (sym l.each_rule ∙ as_many u.rules u.ranks sorts arities l);
    each_param = long_params u.names.params u.rules sorts is.names.each_param;
    each_terminal = is.names.each_terminal ∙ sym l.each_terminal;
    each_state = is.names.each_state;
  };
}

many_names : (params : List (List (List ℕ))) (rules : List Rule) → map (λ ns. length ns) params ≡ map (λ r. r.params) rules → length params ≡ length rules
many_names params rules e = sym (length-map params (λ ns. length ns)) ∙ (ap length e ∙ length-map rules (λ r. r.params))

few-size : (ks : Trees (Unit {0})) → length (children ks) ≤ sizes ks
few-size none = omega arith
few-size (more k ks) = omega (arith, few-size ks)

few_arguments : (k : SortTree) → length (arguments k) ≤ size k
few_arguments (node u ks) = omega (arith, few-size ks)

-- what the functions that lengthen ask for
module _ (u : UnsortedData) (sorts : List SortTree) (arities : List ℕ) (is : IsUnsorted u) (l : AreLeastSorts u.rules u.ranks sorts arities) where
  pub one_sort_each : length sorts ≡ length u.names.params
  one_sort_each = l.each_rule ∙ sym (many_names u.names.params u.rules is.names.each_param)

  pub few_each : All (λ k. length (arguments k) ≤ 1000) sorts
  few_each f d below =
      let at : slice_get sorts f ≡ Some (get_or sorts f d) = slice_get-get_or sorts f d below in
      let same : sort_at sorts f ≡ get_or sorts f d = ap (λ k. unwrap_or k o) at in
      subst (λ (k : SortTree). length (arguments k) ≤ 1000) same (omega (arith, l.small f (omega (arith, below, l.each_rule)), few_arguments (sort_at sorts f)))
