-- The scan over all rules makes what folding the aliases one after another makes.
use Rattle.std.proofs.Common.{◌≡◌, refl, sym, ◌∙◌, ap, subst, ℕ, zero, suc, ◌<◌, ◌≤◌, Bool, true, false, cond, List, [], ◌∷◌, length, map, slice_get, option_map, Option, Some, None, inl, inr, arith}
use Rattle.std.specs.Prelude.{nat_eq, nat_lt, not}
use Rattle.std.proofs.lemmas.Bool.{eq-eqb, eqb-true, ltb-true, ltb-false}
use Rattle.std.proofs.lemmas.Option.{slice_get_within, slice_get-map}
use Rattle.std.proofs.lemmas.List.{length-map}
use Rattle.hs_scheme.specs.declared.term.Head.{Head}
use Rattle.hs_scheme.specs.declared.term.Head.TheVariants.{Var, Nt, Tm}
use Rattle.hs_scheme.specs.declared.term.Rule.{Rule}
use Rattle.hs_scheme.specs.Tree.{Tree, Trees, node, none, more}
use Rattle.hs_scheme.specs.sorting.Sorted.{SortedData}
use Rattle.hs_scheme.proofs.Lists.{not_equal}
use Rattle.hs_passes.specs.Selection.{place, renamed_head, renamed, renamed_all, renamed_rule, selected}
use Rattle.hs_passes.specs.Aliases.{alias_target, first_alias, without_alias, folded_by, folded, without_aliases}
use Rattle.hs_passes.proofs.AliasLemmas.{first_is_alias}
use Rattle.hs_passes.proofs.Choosing.{length-chosen, place-lt, chosen-at}
use Rattle.hs_passes.proofs.Reaching.{either_le}
use Rattle.hs_passes.specs.Scan.{stood, target_of, scanned}
use Rattle.hs_passes.proofs.Scanning.{kept_by, number_by, selected_by, folded_once}
use Rattle.hs_passes.proofs.Selected.{RuleOrigin, rule_origin}
use Rattle.hs_passes.proofs.Folding.{now, retarget_in, first_alias_at, no_first_alias, Scan, settle, fold_one}
use Rattle.hs_passes.proofs.Places.{place-less}
use Rattle.hs_passes.proofs.Remaining.{place-all, chosen-all}

module _ (s : SortedData) (rep : ℕ → ℕ) (k : ℕ) (scan : Scan s.scheme.rules rep k) where
  abbrev rules : List Rule
  rules = s.scheme.rules

  abbrev keep : ℕ → Bool
  keep = kept_by rep

  abbrev new : List Rule
  new = (selected_by rep s).scheme.rules

  -- a rule of the selection is no alias, where it is scanned
  scanned_none : (h : ℕ) (q : Rule) → h ≤ k → 0 < h → keep h ≡ true → slice_get rules h ≡ Some q → alias_target (place keep h) (renamed_rule (number_by rep) q) ≡ None
  scanned_none h q le some kept at =
      retarget_in rep scan.twice h q.params q.body kept ∙ scan.settled h q some le (eqb-true (rep h) h kept) at

  behind_start : (j : ℕ) (q : Rule) (o : RuleOrigin keep (number_by rep) rules j q) → 0 < j → 0 < o.from
  behind_start j q o some = by o.from o.number
    where
      by : (h : ℕ) → place keep h ≡ j → 0 < h
      by zero e = absurd (omega (arith, e, some))
      by (suc h) e = omega arith

  pub none_left : length rules ≤ k → first_alias new ≡ None
  none_left all = no_first_alias new (λ j q some at.
      let o = rule_origin keep (number_by rep) rules j q at in
      let lt : o.from < length rules = slice_get_within rules o.from o.rule o.at in
      subst (λ (r : Rule). alias_target j r ≡ None) o.is
      (subst (λ n. alias_target n (renamed_rule (number_by rep) o.rule) ≡ None) o.number
      (scanned_none o.from o.rule (omega (arith, lt, all)) (behind_start j q o some) o.kept o.at)))

  abbrev f : ℕ
  f = suc k

  pub next_alias : (r : Rule) (g : ℕ) → slice_get rules f ≡ Some r → alias_target f r ≡ Some g → (rep g ≡ f → ⊥) → first_alias new ≡ Some (place keep f, place keep (rep g))
  next_alias r g at is other =
      let own : keep f ≡ true = eq-eqb (rep f) f (scan.ahead f (omega arith)) in
      let start_kept : keep 0 ≡ true = eq-eqb (rep 0) 0 scan.start in
      first_alias_at new (place keep f) (renamed_rule (number_by rep) r) (place keep (rep g))
      (place-lt keep 0 f start_kept (omega arith))
      (chosen-at keep (map (renamed_rule (number_by rep)) rules) f (renamed_rule (number_by rep) r) own (slice_get-map (renamed_rule (number_by rep)) rules f ∙ ap (option_map (renamed_rule (number_by rep))) at))
      (retarget_in rep scan.twice f r.params r.body own ∙ (ap (now rep f) is ∙ ap (λ b. cond b None (Some (number_by rep g))) (not_equal (rep g) f other)))
      (λ j q some lt at_j.
      let o = rule_origin keep (number_by rep) rules j q at_j in
      subst (λ (x : Rule). alias_target j x ≡ None) o.is
      (subst (λ n. alias_target n (renamed_rule (number_by rep) o.rule) ≡ None) o.number
      (scanned_none o.from o.rule (early o.from (omega (arith, o.number, lt)) own) (behind_start j q o some) o.kept o.at)))
    where
      early : (h : ℕ) → place keep h < place keep f → keep f ≡ true → h ≤ k
      early h lt own = by (nat_lt f h) refl (nat_eq f h) refl
        where
          by : (a : Bool) → nat_lt f h ≡ a → (b : Bool) → nat_eq f h ≡ b → h ≤ k
          by true e b d = let l = place-lt keep f h own (ltb-true f h e) in absurd (omega (arith, l, lt))
          by false e true d = let same : place keep f ≡ place keep h = ap (place keep) (eqb-true f h d) in absurd (omega (arith, same, lt))
          by false e false d = elim (either_le h k (ltb-false f h e)) [
            | inr le ↦ le
            | inl same ↦ let t = sym d ∙ eq-eqb f h (sym same) in absurd (cc)
          ]

-- folding until there is no alias
abbrev fold_all : SortedData → SortedData
fold_all s = folded (length s.scheme.rules) s

shorter : (s : SortedData) (f g : ℕ) → first_alias s.scheme.rules ≡ Some (f, g) → length (without_alias f g s).scheme.rules < length s.scheme.rules
shorter s f g e =
    let is = first_is_alias s.scheme.rules f g e in
    let keep : ℕ → Bool = λ h. not (nat_eq h f) in
    let to : ℕ → ℕ = λ h. place keep (cond (nat_eq h f) g h) in
    let less = place-less keep f (length s.scheme.rules) (ap not (eq-eqb f f refl)) (slice_get_within s.scheme.rules f is.rule is.at) in
    let long = length-chosen keep (map (renamed_rule to) s.scheme.rules) ∙ ap (place keep) (length-map s.scheme.rules (renamed_rule to)) in
    omega (arith, less, long)

no_rules : (rules : List Rule) → length rules ≤ 0 → first_alias rules ≡ None
no_rules [] le = refl
no_rules (r ∷ rules) le = absurd (omega arith)

stop_at : (n : ℕ) (s : SortedData) → first_alias s.scheme.rules ≡ None → folded n s ≡ s
stop_at zero s e = refl
stop_at (suc n) s e = ap (λ o. folded_by o (folded n) s) e

-- as many steps as there are rules are enough
enough : (m n : ℕ) (s : SortedData) → length s.scheme.rules ≤ m → length s.scheme.rules ≤ n → folded m s ≡ folded n s
enough zero n s p q = sym (stop_at n s (no_rules s.scheme.rules p))
enough (suc m) zero s p q = stop_at (suc m) s (no_rules s.scheme.rules q)
enough (suc m) (suc n) s p q = by (first_alias s.scheme.rules) refl (enough m n)
  where
    by : (o : Option (ℕ × ℕ)) → first_alias s.scheme.rules ≡ o → ((t : SortedData) → length t.scheme.rules ≤ m → length t.scheme.rules ≤ n → folded m t ≡ folded n t)
        → folded_by (first_alias s.scheme.rules) (folded m) s ≡ folded_by (first_alias s.scheme.rules) (folded n) s
    by None e below = ap (λ o. folded_by o (folded m) s) e ∙ sym (ap (λ o. folded_by o (folded n) s) e)
    by (Some a) e below =
        let less = shorter s a.0 a.1 e in
        ap (λ o. folded_by o (folded m) s) e ∙ (below (without_alias a.0 a.1 s) (omega (arith, less, p)) (omega (arith, less, q)) ∙ sym (ap (λ o. folded_by o (folded n) s) e))

fold_step : (s : SortedData) (f g : ℕ) → first_alias s.scheme.rules ≡ Some (f, g) → fold_all s ≡ fold_all (without_alias f g s)
fold_step s f g e = by (length s.scheme.rules) refl
  where
    by : (n : ℕ) → length s.scheme.rules ≡ n → folded n s ≡ fold_all (without_alias f g s)
    by zero d = let less = shorter s f g e in absurd (omega (arith, less, d))
    by (suc n) d =
        let less = shorter s f g e in
        ap (λ o. folded_by o (folded n) s) e ∙ enough n (length (without_alias f g s).scheme.rules) (without_alias f g s) (omega (arith, less, d)) (omega arith)

own_head : (h : Head) → renamed_head (λ f. f) h ≡ h
own_head (Var j) = refl
own_head (Nt f) = refl
own_head (Tm a) = refl

mutual
  own_names : (t : Tree Head) → renamed (λ f. f) t ≡ t
  own_names (node h ts) = λ i. node (own_head h i) (own_all ts i)

  own_all : (ts : Trees Head) → renamed_all (λ f. f) ts ≡ ts
  own_all none = refl
  own_all (more t ts) = λ i. more (own_names t i) (own_all ts i)

own_rules : (rules : List Rule) → map (renamed_rule (λ f. f)) rules ≡ rules
own_rules [] = refl
own_rules (r ∷ rules) = λ i. record { params = r.params; body = own_names r.body i } ∷ own_rules rules i

selected_own : (s : SortedData) → selected_by (λ h. h) s ≡ s
selected_own s =
    (λ i. selected (λ h. eq-eqb h h refl i) (λ h. place (λ g. eq-eqb g g refl i) h) s)
    ∙ ((λ i. selected (λ _. true) (λ h. place-all h i) s)
    ∙ λ i. record {
      scheme = record { rules = (chosen-all (map (renamed_rule (λ f. f)) s.scheme.rules) ∙ own_rules s.scheme.rules) i; ranks = s.scheme.ranks };
      automaton = s.automaton;
      names = record {
        rules = chosen-all s.names.rules i;
        params = chosen-all s.names.params i;
        terminals = s.names.terminals;
        states = s.names.states;
      };
      sorts = chosen-all s.sorts i;
    })

pub record Targeted (f : ℕ) (o : Option Rule) (g : ℕ) : Type 0 where
  pub rule : Rule
  pub at : o ≡ Some rule
  pub is : alias_target f rule ≡ Some g

pub targeted : (f : ℕ) (o : Option Rule) (g : ℕ) → target_of f o ≡ Some g → Targeted f o g
targeted f None g e = absurd (cc)
targeted f (Some r) g e = record { rule = r; at = refl; is = e }

-- the scan up to the k-th rule, and what is still to be folded after it
pub record Scanned (s : SortedData) (rep : ℕ → ℕ) (k : ℕ) : Type 0 where
  pub scan : Scan s.scheme.rules rep k
  pub same : fold_all s ≡ fold_all (selected_by rep s)

module _ (s : SortedData) where
  scan_on : (rep : ℕ → ℕ) (k : ℕ) → Scanned s rep k → (o : Option ℕ) → target_of (suc k) (slice_get s.scheme.rules (suc k)) ≡ o → Scanned s (λ h. stood rep (suc k) o h) (suc k)
  scan_on rep k h None e = record { scan = settle s.scheme.rules rep k h.scan None e refl; same = h.same }
  scan_on rep k h (Some g) e = by (nat_eq (rep g) (suc k)) refl
    where
      by : (b : Bool) → nat_eq (rep g) (suc k) ≡ b → Scanned s (λ i. cond b (rep i) (cond (nat_eq (rep i) (suc k)) (rep g) (rep i))) (suc k)
      by true d = record {
        scan = settle s.scheme.rules rep k h.scan (Some g) e (ap (λ c. cond c None (Some (number_by rep g))) d);
        same = h.same;
      }
      by false d =
          let other : rep g ≡ suc k → ⊥ = λ q. (let t : true ≡ false = sym (eq-eqb (rep g) (suc k) q) ∙ d in absurd (cc)) in
          let t = targeted (suc k) (slice_get s.scheme.rules (suc k)) g e in
          record {
            scan = fold_one s.scheme.rules rep k h.scan g other;
            same = h.same
                ∙ (fold_step (selected_by rep s) (place (kept_by rep) (suc k)) (place (kept_by rep) (rep g)) (next_alias s rep k h.scan t.rule g t.at t.is other)
                ∙ ap fold_all (folded_once rep h.scan.twice (suc k) g (h.scan.ahead (suc k) (omega arith)) other s));
          }

  pub scanned_to : (k : ℕ) → Scanned s (scanned s.scheme.rules k) k
  scanned_to zero = record {
    scan = record { twice = λ h. refl; ahead = λ h lt. refl; start = refl; settled = λ h r some le is at. absurd (omega (arith, some, le)) };
    same = ap fold_all (sym (selected_own s));
  }
  scanned_to (suc k) = scan_on (scanned s.scheme.rules k) k (scanned_to k) (target_of (suc k) (slice_get s.scheme.rules (suc k))) refl

  abbrev pub last : ℕ → ℕ
  last = scanned s.scheme.rules (length s.scheme.rules)

  all_scanned : Scanned s last (length s.scheme.rules)
  all_scanned = scanned_to (length s.scheme.rules)

  nothing_left : first_alias (selected_by last s).scheme.rules ≡ None
  nothing_left = none_left s last (length s.scheme.rules) all_scanned.scan (omega arith)

  pub folded_is : without_aliases s ≡ selected_by last s
  unfolding without_aliases
  folded_is = all_scanned.same ∙ stop_at (length (selected_by last s).scheme.rules) (selected_by last s) nothing_left

  pub no_alias_left : first_alias (without_aliases s).scheme.rules ≡ None
  no_alias_left = subst (λ (t : SortedData). first_alias t.scheme.rules ≡ None) (sym folded_is) nothing_left
