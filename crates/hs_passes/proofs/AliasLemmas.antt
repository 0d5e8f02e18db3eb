-- Without its first alias a scheme is sorted and has the same tree.
use Rattle.std.proofs.Common.{◌≡◌, refl, sym, ◌∙◌, ap, ℕ, zero, suc, ◌+◌, ◌<◌, ◌≤◌, Bool, true, false, cond, List, [], ◌∷◌, length, map, take, drop, slice_get, option_map, Option, Some, None, ◌⊎◌, inl, inr, zero-add, arith}
use Rattle.std.proofs.Common.{subst as along}
use Rattle.std.specs.Prelude.{◌&&◌, nat_eq, not}
use Rattle.std.proofs.Math.Numerals.{one-add}
use Rattle.std.proofs.lemmas.Bool.{or_left, eq-eqb, eqb-true, and_parts, not-true}
use Rattle.std.proofs.lemmas.List.{take-append-drop, length-take-le}
use Rattle.std.proofs.lemmas.Option.{slice_get-map, slice_get_within, slice_get_cases, same_Some}
use Rattle.hs_scheme.specs.declared.term.Head.{Head}
use Rattle.hs_scheme.specs.declared.term.Head.TheVariants.{Var, Nt, Tm}
use Rattle.hs_scheme.specs.declared.term.Rule.{Rule}
use Rattle.hs_scheme.specs.Tree.{Tree, Trees, node, none, more, join, children, forest, forest-children, forest-append}
use Rattle.hs_scheme.specs.acceptance.Replacement.{subst, applied}
use Rattle.hs_scheme.specs.acceptance.Cut.{body_of, unfolded}
use Rattle.hs_scheme.specs.acceptance.Run.{start}
use Rattle.hs_scheme.specs.acceptance.Steps.{Fails}
use Rattle.hs_scheme.specs.sorting.Lengthening.{parameters}
use Rattle.hs_scheme.specs.Scheme.{IsScheme, AreRules}
use Rattle.hs_scheme.specs.sorting.Sorting.{SortTree, arrow, arrows, behind, arguments, heads, HasSort, Applied}
use Rattle.hs_scheme.specs.sorting.Sorted.{SortedData, IsSorted, sort_at, sorts_of}
use Rattle.hs_scheme.specs.SameTree.{HaveSameTree}
use Rattle.hs_scheme.proofs.Lists.{not_equal}
use Rattle.hs_steps.proofs.Terms.{substs-parameters, unfolding_of, unfolds}
use Rattle.hs_passes.specs.Occurrences.{mentions}
use Rattle.hs_passes.specs.Selection.{place, renamed, renamed_rule, HasStandIn, IsSelection}
use Rattle.hs_passes.specs.Aliases.{is_parameter, are_parameters, target_in, alias_target, or_later, alias_from, first_alias, without_alias}
use Rattle.hs_passes.proofs.Choosing.{chosen-at}
use Rattle.hs_passes.proofs.Reaching.{mention_in_range}
use Rattle.hs_passes.proofs.Renaming.{NamesIn, of_mentions}
use Rattle.hs_passes.proofs.Simulation.{Alike, Alias, over, back}

parameter_is : (j : ℕ) (t : Tree Head) → is_parameter j t ≡ true → t ≡ node (Var j) none
parameter_is j (node (Var k) none) e = ap (λ i. node (Var i) none) (eqb-true k j e)
parameter_is j (node (Var k) (more t ts)) e = absurd (cc)
parameter_is j (node (Nt f) ts) e = absurd (cc)
parameter_is j (node (Tm a) ts) e = absurd (cc)

parameters_are : (first d : ℕ) (ts : Trees Head) → are_parameters first d ts ≡ true → ts ≡ parameters first d
parameters_are first zero none e = refl
parameters_are first zero (more t ts) e = absurd (cc)
parameters_are first (suc d) none e = absurd (cc)
parameters_are first (suc d) (more t ts) e =
    let p = and_parts (is_parameter first t) (are_parameters (first + 1) d ts) e in
    λ i. more (parameter_is first t p.0 i) (parameters_are (first + 1) d ts p.1 i)

-- what makes f an alias of g
pub record IsAlias (rules : List Rule) (f g : ℕ) : Type 0 where
  pub rule : Rule
  pub behind_start : 0 < f
  pub at : slice_get rules f ≡ Some rule
  pub other : g ≡ f → ⊥
  pub body : rule.body ≡ node (Nt g) (parameters 0 rule.params)

record IsAliasBody (f params : ℕ) (t : Tree Head) (g : ℕ) : Type 0 where
  pub other : g ≡ f → ⊥
  pub is : t ≡ node (Nt g) (parameters 0 params)

passes : (f params : ℕ) (t : Tree Head) (g : ℕ) → target_in f params t ≡ Some g → IsAliasBody f params t g
passes f params (node (Var j) ts) g e = absurd (cc)
passes f params (node (Tm a) ts) g e = absurd (cc)
passes f params (node (Nt h) ts) g e = by (not (nat_eq h f) && are_parameters 0 params ts) refl e
  where
    by : (b : Bool) → (not (nat_eq h f) && are_parameters 0 params ts) ≡ b → cond b (Some h) None ≡ Some g → IsAliasBody f params (node (Nt h) ts) g
    by false p q = absurd (cc)
    by true p q =
        let is : h ≡ g = same_Some h g q in
        let pair = and_parts (not (nat_eq h f)) (are_parameters 0 params ts) p in
        along (IsAliasBody f params (node (Nt h) ts)) is record {
          other = λ same. let t = sym (not-true (nat_eq h f) pair.0) ∙ eq-eqb h f same in absurd (cc);
          is = ap (node (Nt h)) (parameters_are 0 params ts pair.1);
        }

-- a rule behind the start with a target is an alias
pub alias_at : (rules : List Rule) (f g : ℕ) (r : Rule) → 0 < f → slice_get rules f ≡ Some r → alias_target f r ≡ Some g → IsAlias rules f g
alias_at rules f g r some at e =
    let p = passes f r.params r.body g e in
    record { rule = r; behind_start = some; at = at; other = p.other; body = p.is }

pub target_below : (rules : List Rule) (terminals : ℕ) → AreRules rules terminals → (f g : ℕ) (r : Rule) → 0 < f → slice_get rules f ≡ Some r → alias_target f r ≡ Some g → g < length rules
unfolding alias_at
target_below rules terminals are f g r some at e =
    let is = alias_at rules f g r some at e in
    mention_in_range rules terminals are f g r at (ap (mentions g) is.body ∙ or_left (nat_eq g g) _ (eq-eqb g g refl))

alias_found : (rules all : List Rule) (k f g : ℕ) → 0 < k → ((i : ℕ) → slice_get rules i ≡ slice_get all (k + i)) → alias_from k rules ≡ Some (f, g) → IsAlias all f g
alias_found [] all k f g lt same e = absurd (cc)
alias_found (r ∷ rules) all k f g lt same e = by (alias_target k r) refl e
    (alias_found rules all (k + 1) f g (omega arith) (λ i. same (suc i) ∙ ap (slice_get all) (omega arith)))
  where
    by : (o : Option ℕ) → alias_target k r ≡ o → or_later k o (alias_from (k + 1) rules) ≡ Some (f, g) → (alias_from (k + 1) rules ≡ Some (f, g) → IsAlias all f g) → IsAlias all f g
    by None p q later = later q
    by (Some h) p q later =
        let fs : k ≡ f = ap (λ (x : ℕ × ℕ). x.0) (same_Some (k, h) (f, g) q) in
        let gs : h ≡ g = ap (λ (x : ℕ × ℕ). x.1) (same_Some (k, h) (f, g) q) in
        let is = passes k r.params r.body h p in
        let found : IsAlias all k h = record {
          rule = r;
          behind_start = lt;
          at = ap (slice_get all) (omega arith) ∙ sym (same 0);
          other = is.other;
          body = is.is;
        } in
        along (λ (x : ℕ). IsAlias all x g) fs (along (IsAlias all k) gs found)

pub first_is_alias : (rules : List Rule) (f g : ℕ) → first_alias rules ≡ Some (f, g) → IsAlias rules f g
first_is_alias [] f g e = absurd (cc)
first_is_alias (r ∷ rules) f g e = alias_found rules (r ∷ rules) 1 f g (omega arith) (λ i. ap (slice_get (r ∷ rules)) (sym (one-add i))) e

-- the sort of a head that takes just these parameters
params_sort : (e : Head → SortTree) (j d : ℕ) (f k : SortTree) → Applied e (parameters j d) f k → f ≡ arrows d (λ i. e (Var (j + i))) k
params_sort e j zero f k a = a
params_sort e j (suc d) f k (a, b, is, of, others) =
    let first : a ≡ e (Var (j + 0)) = sym of ∙ ap (λ m. e (Var m)) (omega arith) in
    let on : (m : ℕ) → (j + 1) + m ≡ j + suc m = λ m. omega arith in
    let rest : b ≡ arrows d (λ i. e (Var (j + suc i))) k = params_sort e (j + 1) d b k others ∙ (λ q. arrows d (λ m. e (Var (on m q))) k) in
    is ∙ λ q. arrow (first q) (rest q)

-- an alias is replaced by its target with the same arguments
pass_body : (r : Rule) (g : ℕ) (us : Trees Head) → r.body ≡ node (Nt g) (parameters 0 r.params) → r.params ≤ length (children us) → body_of r (children us) ≡ node (Nt g) us
pass_body r g us e enough =
    let ts = children us in
    let own = take r.params ts in
    let long : 0 + r.params ≡ length own = omega (arith, length-take-le r.params ts enough) in
    (λ i. applied (subst (e i) own) (forest (drop r.params ts)))
    ∙ ap (node (Nt g)) (
    ap (λ vs. join vs (forest (drop r.params ts))) (substs-parameters 0 r.params own long)
    ∙ (sym (forest-append own (drop r.params ts)) ∙ (ap forest (take-append-drop r.params ts) ∙ forest-children us)))

module _ (s : SortedData) (scheme : IsScheme s.scheme) (sorted : IsSorted s) (f g : ℕ) (is : IsAlias s.scheme.rules f g) where
  abbrev rules : List Rule
  rules = s.scheme.rules

  abbrev keep : ℕ → Bool
  keep h = not (nat_eq h f)

  abbrev to : ℕ → ℕ
  to h = place keep (cond (nat_eq h f) g h)

  f_in_range : f < length rules
  f_in_range = slice_get_within rules f is.rule is.at

  pub target_in_range : g < length rules
  target_in_range =
      mention_in_range rules (length s.scheme.ranks) scheme f g is.rule is.at
      (ap (mentions g) is.body ∙ or_left (nat_eq g g) _ (eq-eqb g g refl))

  target_kept : keep g ≡ true
  target_kept = ap not (not_equal g f is.other)

  pub same_sort : sort_at s.sorts g ≡ sort_at s.sorts f
  same_sort =
      let n = is.rule.params in
      let left = behind n (sort_at s.sorts f) in
      let of = along (λ (t : Tree Head). HasSort (heads (sorts_of s.sorts s.scheme.ranks) f) t left) is.body (sorted.sorting.bodies f is.rule f_in_range is.at) in
      params_sort (heads (sorts_of s.sorts s.scheme.ranks) f) 0 n (sort_at s.sorts g) left of
      ∙ ((λ q. arrows n (λ m. sort_at (arguments (sort_at s.sorts f)) (zero-add m q)) left) ∙ sym (sorted.sorting.nonterminals f is.rule is.at))

  stands : (h : ℕ) → h < length rules → HasStandIn keep to s h
  stands h lt = by (nat_eq h f) refl
    where
      by : (b : Bool) → nat_eq h f ≡ b → HasStandIn keep to s h
      by true e = record {
        rule = g;
        in_range = target_in_range;
        stays = target_kept;
        number = ap (λ c. place keep (cond c g h)) e;
        sort = same_sort ∙ ap (sort_at s.sorts) (sym (eqb-true h f e));
      }
      by false e = record {
        rule = h;
        in_range = lt;
        stays = ap not e;
        number = ap (λ c. place keep (cond c g h)) e;
        sort = refl;
      }

  pub alias_selection : IsSelection keep to s
  alias_selection = record {
    start = ap not (not_equal 0 f (λ e. absurd (omega (arith, e, is.behind_start))));
    bodies = λ h r k at kept occurs. stands k (mention_in_range rules (length s.scheme.ranks) scheme h k r at occurs);
  }

  abbrev others : List Rule
  others = (without_alias f g s).scheme.rules

  abbrev InRange : ℕ → Type 0
  InRange h = h < length rules

  kept_alike : (h : ℕ) → InRange h → nat_eq h f ≡ false → Alike rules others to h
  kept_alike h lt e = elim (slice_get_cases rules h).1 [
    | inl (r, _, at, _) ↦
        ap (λ c. slice_get others (place keep (cond c g h))) e
        ∙ (chosen-at keep (map (renamed_rule to) rules) h (renamed_rule to r) (ap not e) (slice_get-map (renamed_rule to) rules h ∙ ap (option_map (renamed_rule to)) at)
        ∙ ap (option_map (renamed_rule to)) (sym at))
    | inr (past, _) ↦ absurd (omega (arith, past, lt))
  ]

  same_params : (r : Rule) → slice_get rules g ≡ Some r → is.rule.params ≡ r.params
  same_params r at = sym (sorted.full f is.rule is.at) ∙ (ap (λ k. length (arguments k)) (sym same_sort) ∙ sorted.full g r at)

  alias_of : (h : ℕ) → h ≡ f → Alias rules others to InRange h
  alias_of h e = record {
    target = g;
    kept = target_in_range;
    same = ap (λ c. place keep (cond c g g)) (not_equal g f is.other) ∙ sym (ap (λ c. place keep (cond c g h)) (eq-eqb h f e));
    alike = kept_alike g target_in_range (not_equal g f is.other);
    goes = λ us u goes.
        let un = unfolding_of rules h (children us) u goes in
        let own : un.rule ≡ is.rule = same_Some un.rule is.rule (sym un.at ∙ (ap (slice_get rules) e ∙ is.at)) in
        sym un.is ∙ (ap (λ (r : Rule). body_of r (children us)) own ∙ pass_body is.rule g us is.body (along (λ (r : Rule). r.params ≤ length (children us)) own un.enough));
    comes = λ us u comes.
        let un = unfolding_of rules g (children us) u comes in
        let enough : is.rule.params ≤ length (children us) = omega (arith, same_params un.rule un.at, un.enough) in
        ap (λ k. unfolded rules k (children us)) e
        ∙ (unfolds rules f is.rule (children us) is.at enough ∙ ap (λ (u : Tree Head). Some u) (pass_body is.rule g us is.body enough));
  }

  alike_or_alias : (h : ℕ) → InRange h → Alike rules others to h ⊎ Alias rules others to InRange h
  alike_or_alias h lt = by (nat_eq h f) refl
    where
      by : (b : Bool) → nat_eq h f ≡ b → Alike rules others to h ⊎ Alias rules others to InRange h
      by true e = inr (alias_of h (eqb-true h f e))
      by false e = inl (kept_alike h lt e)

  pub alias_tree : HaveSameTree s.scheme.ranks rules others
  alias_tree ts agree q path =
      let first : InRange 0 = slice_get_within rules 0 scheme.start.0 scheme.start.1.0 in
      let bodies : (h : ℕ) (r : Rule) → InRange h → slice_get rules h ≡ Some r → NamesIn InRange r.body =
      λ h r lt at. of_mentions InRange r.body (λ k occurs. mention_in_range rules (length s.scheme.ranks) scheme h k r at occurs) in
      let zero_is : to 0 ≡ 0 = ap (λ c. place keep (cond c g 0)) (not_equal 0 f (λ e. absurd (omega (arith, e, is.behind_start)))) in
      let start_is : renamed to start ≡ start = ap (λ k. node (Nt k) none) zero_is in (
        λ h. along (λ (t : Tree Head). (n : ℕ) × Fails others ts n q t path) start_is (over rules others to InRange bodies alike_or_alias ts h.0 q start path (first, tt) h.1),
        λ h. back rules others to InRange bodies alike_or_alias ts h.0 q start path (first, tt) (along (λ (t : Tree Head). Fails others ts h.0 q t path) (sym start_is) h.1),
      )
