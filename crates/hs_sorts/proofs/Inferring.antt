-- The least sorting that was found, and the faults.
use Rattle.std.proofs.Common.{◌≡◌, refl, sym, ◌∙◌, ap, subst, ℕ, ◌+◌, ◌<◌, ◌≤◌, List, length, slice_get, get_or, Option, Some, None, true, false, arith}
use Rattle.std.specs.Prelude.{unwrap_or}
use Rattle.std.specs.Option.{option_map, is_some}
use Rattle.std.proofs.lemmas.List.Elements.{All-head, All-tail}
use Rattle.std.proofs.lemmas.Option.{slice_get_within, slice_get-get_or, slice_get-map}
use Rattle.hs_scheme.specs.declared.term.Head.{Head}
use Rattle.hs_scheme.specs.declared.term.Head.TheVariants.{Var, Nt, Tm}
use Rattle.hs_scheme.specs.declared.term.Rule.{Rule}
use Rattle.hs_scheme.specs.Tree.{Trees, node, none, more, children}
use Rattle.hs_scheme.specs.Scheme.{HeadInRange, TermInRange, AreRules}
use Rattle.hs_scheme.specs.sorting.Sorting.{SortTree, o, arrow, arrows, behind, ranked, size, arguments, IsFirstOrder, Sorts, heads, HasSort, IsSorting, HasSorting, AreFirstOrder, IsLeastSorting}
use Rattle.hs_scheme.specs.sorting.Sorted.{sort_at, sorts_of, known}
use Rattle.hs_scheme.proofs.Sortings.{length-ranked}
use Rattle.hs_sorts.specs.declared.finding.MeasuredNodes.{MeasuredNodes}
use Rattle.hs_sorts.specs.declared.store.Node.{Node}
use Rattle.hs_sorts.specs.declared.measures.Measure.{Measure}
use Rattle.hs_sorts.specs.Nodes.{Valuation}
use Rattle.hs_sorts.specs.Measures.{Describes}
use Rattle.hs_sorts.specs.Reading.{size_at}
use Rattle.hs_sorts.specs.Solving.{sorts_at}
use Rattle.hs_sorts.specs.Finding.{FindsSorting, IsFinding, IsFirstHigherOrder, IsFirstLarge, IsFirstLong, AreSorts, AreArities}
use Rattle.hs_sorts.specs.Inference.{IsFirstHigherTerminal, IsFirstTooLarge, IsTooLong, IsFirstTooLong}
use Rattle.hs_sorts.specs.Least.{AreLeastSorts}
use Rattle.hs_sorts.proofs.Arrows.{arrows_same, left_behind}
use Rattle.hs_sorts.proofs.Ranges.{has_in_range}
use Rattle.hs_sorts.proofs.Solutions.{All_at}
use Rattle.hs_sorts.proofs.Readings.{reading_respects, reading_least, least_argument, counted}

-- no bodies have a sorting in which all parameters are o
pub no_rules_sorted : (rules : List Rule) (ranks : List (Option ℕ)) → AreRules rules (length ranks) → HasSorting rules ranks 0
no_rules_sorted rules ranks are = (
  record { nonterminal = λ f. ranked (params_of (slice_get rules f)); parameter = λ f j. o; terminal = λ a. ranked (rank_of (slice_get ranks a)) },
  record {
    nonterminals = λ f rule at.
        let whole = ap (λ r. ranked (params_of r)) at in
        whole ∙ ap (arrows rule.params (λ _. o)) (left_behind rule.params (λ _. o) o (ranked (params_of (slice_get rules f))) whole);
    bodies = λ f rule below at. absurd (omega arith);
    start = ap (λ r. ranked (params_of r)) are.start.1.0 ∙ ap ranked are.start.1.1;
    terminals = λ a n at. ap (λ r. ranked (rank_of r)) at;
  },
)
  where
    params_of : Option Rule → ℕ
    params_of None = 0
    params_of (Some rule) = rule.params

    rank_of : Option (Option ℕ) → ℕ
    rank_of None = 0
    rank_of (Some None) = 0
    rank_of (Some (Some n)) = n

-- what was found is a sorting
pub found_sorting : (rules : List Rule) (ranks : List (Option ℕ)) (k : ℕ) (found : MeasuredNodes) → FindsSorting rules ranks k found → HasSorting rules ranks k
found_sorting rules ranks k found f = (
  sorts_at (length rules) f.measuring.valuation,
  f.solves.sound f.measuring.valuation (reading_respects f.measuring.valuation found.store f.measuring.reading),
)

ranked_row : (ks : Trees (Unit {0})) → IsFirstOrder (node tt ks) → node tt ks ≡ ranked (length (children ks))
ranked_row none h = refl
ranked_row (more k ks) h =
    (λ i. arrow (All-head (λ a. a ≡ o) k (children ks) h i) (node tt ks)) ∙ ap (arrow o) (ranked_row ks (All-tail (λ a. a ≡ o) k (children ks) h))

first_order_ranked : (s : SortTree) → IsFirstOrder s → s ≡ ranked (length (arguments s))
first_order_ranked (node u ks) h = ranked_row ks h

-- a sorting with other sorts where they aren't asked for
module _ (rules : List Rule) (ranks : List (Option ℕ)) (are : AreRules rules (length ranks)) (s t : Sorts)
    (same_nonterminal : (f : ℕ) → f < length rules → t.nonterminal f ≡ s.nonterminal f)
    (same_parameter : (f j : ℕ) (rule : Rule) → slice_get rules f ≡ Some rule → j < rule.params → t.parameter f j ≡ s.parameter f j)
    (same_terminal : (a : ℕ) → a < length ranks → t.terminal a ≡ s.terminal a) where
  same_head : (f : ℕ) (rule : Rule) → slice_get rules f ≡ Some rule → (h : Head) → HeadInRange rule.params (length rules) (length ranks) h → heads t f h ≡ heads s f h
  same_head f rule at (Var j) l = same_parameter f j rule at l
  same_head f rule at (Nt g) l = same_nonterminal g l
  same_head f rule at (Tm a) l = same_terminal a l

  same_rest : (f : ℕ) (rule : Rule) → slice_get rules f ≡ Some rule → behind rule.params (s.nonterminal f) ≡ behind rule.params (t.nonterminal f)
  same_rest f rule at = ap (behind rule.params) (sym (same_nonterminal f (slice_get_within rules f rule at)))

  pub same_sorting : (others : List (Option ℕ)) → IsSorting rules ranks (length rules) s → ((a n : ℕ) → slice_get others a ≡ Some (Some n) → t.terminal a ≡ ranked n) → IsSorting rules others (length rules) t
  same_sorting others sorting terminals = record {
    nonterminals = λ f rule at.
        same_nonterminal f (slice_get_within rules f rule at)
        ∙ (sorting.nonterminals f rule at
        ∙ (arrows_same rule.params (s.parameter f) (t.parameter f) (behind rule.params (s.nonterminal f)) (λ j l. sym (same_parameter f j rule at l))
        ∙ ap (arrows rule.params (t.parameter f)) (same_rest f rule at)));
    bodies = λ f rule below at.
        subst (HasSort (heads t f) rule.body) (same_rest f rule at)
        (has_in_range rule.params (length rules) (length ranks) (heads s f) (heads t f) (same_head f rule at) rule.body (behind rule.params (s.nonterminal f))
        (All_at (λ r. TermInRange r.params (length rules) (length ranks) r.body) rules f rule are.bodies at) (sorting.bodies f rule below at));
    start = same_nonterminal 0 (slice_get_within rules 0 are.start.0 are.start.1.0) ∙ sorting.start;
    terminals = terminals;
  }

  pub same_least : IsLeastSorting rules ranks s → IsLeastSorting rules ranks t
  same_least l = record {
    sorting = same_sorting ranks l.sorting (λ a n at. same_terminal a (slice_get_within ranks a (Some n) at) ∙ l.sorting.terminals a n at);
    least = λ u us.
        let m = l.least u us in
        record {
          nonterminals = λ f below. omega (arith, ap size (same_nonterminal f below), m.nonterminals f below);
          parameters = λ f j rule at below. omega (arith, ap size (same_parameter f j rule at below), m.parameters f j rule at below);
          terminals = λ a below. omega (arith, ap size (same_terminal a below), m.terminals a below);
        };
  }

module _ (rules : List Rule) (ranks : List (Option ℕ)) (are : AreRules rules (length ranks)) (found : MeasuredNodes) (f : FindsSorting rules ranks (length rules) found) where
  abbrev nodes : List Node
  nodes = found.store

  abbrev number : ℕ
  number = length rules

  abbrev measures : List Measure
  measures = found.measures

  abbrev low : Valuation
  low = f.measuring.valuation

  abbrev pub least_sorts : Sorts
  least_sorts = sorts_at number low

  terminal_below : (a : ℕ) → a < length ranks → number + a < length nodes
  terminal_below a h = omega (arith, f.solves.room)

  rule_below : (g : ℕ) → g < length rules → g < length nodes
  rule_below g h = omega (arith, f.solves.room)

  least_sorting : IsSorting rules ranks (length rules) least_sorts
  least_sorting = f.solves.sound low (reading_respects low nodes f.measuring.reading)

  pub least_found : IsLeastSorting rules ranks least_sorts
  least_found = record {
    sorting = least_sorting;
    least = λ t ts.
        let v = f.solves.complete t ts in
        let smaller = reading_least nodes f.store low v.valuation f.measuring.reading v.respects in
        record {
          nonterminals = λ g below. omega (arith, smaller g (rule_below g below), ap size (v.realizes.nonterminals g below));
          parameters = λ g j rule at below.
              let in_rules = slice_get_within rules g rule at in
              least_argument nodes f.store low v.valuation f.measuring.reading v.respects f.flat rule.params g (least_sorts.parameter g) (t.parameter g) (behind rule.params (low g)) (behind rule.params (t.nonterminal g)) (rule_below g in_rules)
              (least_sorting.nonterminals g rule at) (v.realizes.nonterminals g in_rules ∙ ts.nonterminals g rule at) j below;
          terminals = λ a below. omega (arith, smaller (number + a) (terminal_below a below), ap size (v.realizes.terminals a below));
        };
  }

  -- each node has a measure
  pub record Measured (i : ℕ) : Type 0 where
    pub measure : Measure
    pub at : slice_get measures i ≡ Some measure
    pub describes : Describes measure (low i)

  measured : (i : ℕ) → i < length nodes → Measured i
  measured i h =
      let w = get_or measures i (record { size = 0; arity = 0; first_order = false }) in
      let at = slice_get-get_or measures i (record { size = 0; arity = 0; first_order = false }) (omega (arith, f.measuring.as_long)) in
      record { measure = w; at = at; describes = f.measuring.describes i w at }

  pub higher_found : (a : ℕ) → IsFirstHigherOrder measures number (length ranks) (Some a) → IsFirstHigherTerminal rules ranks a
  higher_found a (below, fails, before) = record {
    sorts = least_sorts;
    least = least_found;
    in_range = below;
    higher = let w = measured (number + a) (terminal_below a below) in w.describes.higher_order (fails w.measure w.at);
    before = λ b less. let w = measured (number + b) (terminal_below b (omega arith)) in w.describes.first_order (before b w.measure less w.at);
  }

  pub all_first_order : IsFirstHigherOrder measures number (length ranks) None → AreFirstOrder ranks least_sorts
  all_first_order all b less = let w = measured (number + b) (terminal_below b less) in w.describes.first_order (all b w.measure less w.at)

  pub large_found : (g : ℕ) → IsFirstHigherOrder measures number (length ranks) None → IsFirstLarge measures 0 number (Some g) → IsFirstTooLarge rules ranks g
  large_found g all (below, fails, before) = record {
    sorts = least_sorts;
    least = least_found;
    first_order = all_first_order all;
    in_range = omega (arith, below);
    large =
        let w = measured g (rule_below g (omega (arith, below))) in
        let e : 0 + g ≡ g = omega arith in
        omega (arith, fails w.measure (ap (slice_get measures) e ∙ w.at), w.describes.sized);
    before = λ h less.
        let w = measured h (rule_below h (omega (arith, below))) in
        let e : 0 + h ≡ h = omega arith in
        omega (arith, before h w.measure less (ap (slice_get measures) e ∙ w.at), w.describes.sized);
  }

  pub measures_many : length rules ≤ length measures
  measures_many = omega (arith, f.measuring.as_long, f.solves.room)

  none_long : IsFirstLong rules measures None → (g : ℕ) (rule : Rule) → slice_get rules g ≡ Some rule → IsTooLong rule (low g) → ⊥
  none_long passed g rule at =
      let w = measured g (rule_below g (slice_get_within rules g rule at)) in
      passed g rule w.measure at w.at (low g) w.describes.arity

  module _ (all : IsFirstHigherOrder measures number (length ranks) None) (small : IsFirstLarge measures 0 number None) where
    small_at : (g : ℕ) → g < number → size (low g) ≤ 1000
    small_at g below =
        let w = measured g (rule_below g (omega (arith, below))) in
        let e : 0 + g ≡ g = omega arith in
        omega (arith, small g w.measure below (ap (slice_get measures) e ∙ w.at), w.describes.sized)

    pub long_found : (g : ℕ) → IsFirstLong rules measures (Some g) → IsFirstTooLong rules ranks g
    long_found g (tells, below, before) =
        let rule = get_or rules g (record { params = 0; body = node (Nt 0) none }) in
        let at = slice_get-get_or rules g (record { params = 0; body = node (Nt 0) none }) below in
        let w = measured g (rule_below g below) in
        record {
          sorts = least_sorts;
          least = least_found;
          first_order = all_first_order all;
          small = λ h inside. small_at h (omega (arith, inside));
          rule = rule;
          at = at;
          long = tells rule w.measure at w.at (low g) w.describes.arity;
          before = λ h r less there.
              let x = measured h (rule_below h (omega (arith, less, below))) in
              before h r x.measure less there x.at (low h) x.describes.arity;
        }

    pub counted_small : (g : ℕ) → g < number → size_at measures g ≤ 1000
    counted_small g below = omega (arith, counted nodes measures f.measuring g (rule_below g (omega (arith, below))), small_at g below)

    module _ (passed : IsFirstLong rules measures None) (sorts : List SortTree) (arities : List ℕ) (are_sorts : AreSorts nodes number sorts) (are_arities : AreArities measures number (length ranks) arities) where
      same_nonterminals : (g : ℕ) → g < length rules → sort_at sorts g ≡ low g
      same_nonterminals g below =
          let at = slice_get-get_or sorts g o (omega (arith, are_sorts.as_long)) in
          ap (λ k. unwrap_or k o) at ∙ are_sorts.reads low f.measuring.reading g (get_or sorts g o) at

      same_parameters : (g j : ℕ) (rule : Rule) → slice_get rules g ≡ Some rule → j < rule.params → sort_at (arguments (sort_at sorts g)) j ≡ sort_at (arguments (low g)) j
      same_parameters g j rule at below = ap (λ k. sort_at (arguments k) j) (same_nonterminals g (slice_get_within rules g rule at))

      arity_of : (a : ℕ) → a < length ranks → slice_get arities a ≡ Some (length (arguments (low (number + a))))
      arity_of a below =
          let at = slice_get-get_or arities a 0 (omega (arith, are_arities.as_long)) in
          let w = measured (number + a) (terminal_below a below) in
          at ∙ ap (λ n. Some n) (are_arities.at a (get_or arities a 0) w.measure at w.at ∙ w.describes.arity)

      same_terminals : (a : ℕ) → a < length ranks → ranked (unwrap_or (slice_get arities a) 0) ≡ low (number + a)
      same_terminals a below = ap (λ k. ranked (unwrap_or k 0)) (arity_of a below) ∙ sym (first_order_ranked (low (number + a)) (all_first_order all a below))

      known_rank : (a n : ℕ) → slice_get (known arities) a ≡ Some (Some n) → ranked (unwrap_or (slice_get arities a) 0) ≡ ranked n
      known_rank a n h = by_get (slice_get arities a) (sym (slice_get-map (λ m. Some m) arities a) ∙ h)
        where
          by_get : (got : Option ℕ) → option_map (λ m. Some m) got ≡ Some (Some n) → ranked (unwrap_or got 0) ≡ ranked n
          by_get None e = absurd (cc)
          by_get (Some m) e = let same : m ≡ n = cc in ap ranked same

      pub is_least : AreLeastSorts rules ranks sorts arities
      is_least = record {
        each_rule = are_sorts.as_long;
        each_terminal = are_arities.as_long;
        agrees = λ a n at.
            let below = slice_get_within ranks a (Some n) at in
            arity_of a below ∙ ap (λ m. Some m) (ap (λ k. length (arguments k)) (least_found.sorting.terminals a n at) ∙ length-ranked n);
        sorting = same_sorting rules ranks are least_sorts (sorts_of sorts arities) same_nonterminals same_parameters same_terminals (known arities) least_found.sorting known_rank;
        least = same_least rules ranks are least_sorts (sorts_of sorts arities) same_nonterminals same_parameters same_terminals least_found;
        small = λ g below. omega (arith, ap size (same_nonterminals g below), small_at g (omega (arith, below)));
        none_too_long = λ g rule at long. none_long passed g rule at (subst (IsTooLong rule) (same_nonterminals g (slice_get_within rules g rule at)) long);
      }

pub found_if : (rules : List Rule) (ranks : List (Option ℕ)) (k : ℕ) (answer : Option MeasuredNodes) → IsFinding rules ranks k answer → true ≡ is_some answer → HasSorting rules ranks k
found_if rules ranks k None f h = absurd (cc)
found_if rules ranks k (Some found) f h = found_sorting rules ranks k found f
