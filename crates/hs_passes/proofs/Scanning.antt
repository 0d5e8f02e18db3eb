-- Folding aliases by one scan over the rules: what stands for each nonterminal.
use Rattle.std.proofs.Common.{◌≡◌, refl, sym, ◌∙◌, ap, ℕ, Bool, true, false, cond, List, [], ◌∷◌, map}
use Rattle.std.specs.Prelude.{◌&&◌, nat_eq, not}
use Rattle.std.proofs.lemmas.Bool.{eq-eqb, eqb-true}
use Rattle.hs_scheme.specs.declared.term.Head.{Head}
use Rattle.hs_scheme.specs.declared.term.Head.TheVariants.{Var, Nt, Tm}
use Rattle.hs_scheme.specs.declared.term.Rule.{Rule}
use Rattle.hs_scheme.specs.Tree.{Tree, Trees, node, none, more}
use Rattle.hs_scheme.specs.sorting.Sorted.{SortedData}
use Rattle.hs_scheme.proofs.Lists.{not_equal}
use Rattle.hs_passes.specs.Selection.{place, chosen, renamed_head, renamed, renamed_all, renamed_rule, selected}
use Rattle.hs_passes.specs.Aliases.{without_alias}
use Rattle.hs_passes.proofs.Choosing.{map-chosen, chosen-chosen, place-place, place-eq}

abbrev pub kept_by : (ℕ → ℕ) → ℕ → Bool
kept_by rep h = nat_eq (rep h) h

abbrev pub number_by : (ℕ → ℕ) → ℕ → ℕ
number_by rep h = place (kept_by rep) (rep h)

abbrev pub selected_by : (ℕ → ℕ) → SortedData → SortedData
selected_by rep s = selected (kept_by rep) (number_by rep) s

module _ (second first : ℕ → ℕ) where
  heads-twice : (h : Head) → renamed_head second (renamed_head first h) ≡ renamed_head (λ f. second (first f)) h
  heads-twice (Var j) = refl
  heads-twice (Nt f) = refl
  heads-twice (Tm a) = refl

  mutual
    renamed-twice : (t : Tree Head) → renamed second (renamed first t) ≡ renamed (λ f. second (first f)) t
    renamed-twice (node h ts) = λ i. node (heads-twice h i) (all-twice ts i)

    all-twice : (ts : Trees Head) → renamed_all second (renamed_all first ts) ≡ renamed_all (λ f. second (first f)) ts
    all-twice none = refl
    all-twice (more t ts) = λ i. more (renamed-twice t i) (all-twice ts i)

  rules-twice : (rules : List Rule) → map (renamed_rule second) (map (renamed_rule first) rules) ≡ map (renamed_rule (λ f. second (first f))) rules
  rules-twice [] = refl
  rules-twice (r ∷ rules) = λ i. record { params = r.params; body = renamed-twice r.body i } ∷ rules-twice rules i

-- a selection from a selection
selected-selected : (keep other : ℕ → Bool) (to next : ℕ → ℕ) (s : SortedData)
    → selected other next (selected keep to s) ≡ selected (λ f. keep f && other (place keep f)) (λ f. next (to f)) s
selected-selected keep other to next s = λ i. record {
  scheme = record {
    rules = (ap (chosen other) (map-chosen (renamed_rule next) keep (map (renamed_rule to) s.scheme.rules) ∙ ap (chosen keep) (rules-twice next to s.scheme.rules))
        ∙ chosen-chosen keep other (map (renamed_rule (λ f. next (to f))) s.scheme.rules)) i;
    ranks = s.scheme.ranks;
  };
  automaton = s.automaton;
  names = record {
    rules = chosen-chosen keep other s.names.rules i;
    params = chosen-chosen keep other s.names.params i;
    terminals = s.names.terminals;
    states = s.names.states;
  };
  sorts = chosen-chosen keep other s.sorts i;
}

-- One more nonterminal f, which stands for itself, is folded into what stands for its target g.
module _ (rep : ℕ → ℕ) (twice : (h : ℕ) → rep (rep h) ≡ rep h) (f g : ℕ) (own : rep f ≡ f) (other : rep g ≡ f → ⊥) where
  abbrev keep : ℕ → Bool
  keep = kept_by rep

  abbrev then : ℕ → ℕ
  then h = cond (nat_eq (rep h) f) (rep g) (rep h)

  rep_kept : (h : ℕ) → keep (rep h) ≡ true
  rep_kept h = eq-eqb (rep (rep h)) (rep h) (twice h)

  own_kept : keep f ≡ true
  own_kept = eq-eqb (rep f) f own

  abbrev left : ℕ → Bool
  left h = not (nat_eq h (place keep f))

  still_kept : (h : ℕ) → (keep h && left (place keep h)) ≡ kept_by then h
  still_kept h = by (keep h) refl (nat_eq (rep h) f) refl
    where
      by : (a : Bool) → keep h ≡ a → (b : Bool) → nat_eq (rep h) f ≡ b → (a && left (place keep h)) ≡ nat_eq (cond b (rep g) (rep h)) h
      by false e false d = sym e
      by false e true d = sym (not_equal (rep g) h (λ is. let q : rep h ≡ h = ap rep (sym is) ∙ (twice g ∙ is) in let t = sym e ∙ eq-eqb (rep h) h q in absurd (cc)))
      by true e b d =
          let is : rep h ≡ h = eqb-true (rep h) h e in
          ap not (place-eq keep h f e own_kept ∙ (ap (λ k. nat_eq k f) (sym is) ∙ d)) ∙ last b d is
        where
          last : (b : Bool) → nat_eq (rep h) f ≡ b → rep h ≡ h → not b ≡ nat_eq (cond b (rep g) (rep h)) h
          last false d is = sym (eq-eqb (rep h) h is)
          last true d is = sym (not_equal (rep g) h (λ q. other (q ∙ (sym is ∙ eqb-true (rep h) f d))))

  abbrev one_less : ℕ → ℕ
  one_less h = place left (cond (nat_eq h (place keep f)) (place keep (rep g)) h)

  new_number : (h : ℕ) → one_less (number_by rep h) ≡ number_by then h
  new_number h =
      ap (λ b. place left (cond b (place keep (rep g)) (place keep (rep h)))) (place-eq keep (rep h) f (rep_kept h) own_kept)
      ∙ (by (nat_eq (rep h) f) ∙ (place-place keep left (then h) ∙ λ i. place (λ k. still_kept k i) (then h)))
    where
      by : (b : Bool) → place left (cond b (place keep (rep g)) (place keep (rep h))) ≡ place left (place keep (cond b (rep g) (rep h)))
      by true = refl
      by false = refl

  pub folded_once : (s : SortedData) → without_alias (place keep f) (place keep (rep g)) (selected_by rep s) ≡ selected_by then s
  folded_once s =
      selected-selected keep left (number_by rep) one_less s ∙ λ i. selected (λ h. still_kept h i) (λ h. new_number h i) s
