-- What was deduced is added to what was gathered.
use Rattle.std.proofs.Common.{◌≡◌, sym, ◌∙◌, ap, subst, List, [], ◌∷◌, ◌++◌, All, Contains, ◌⊎◌, inl, inr}
use Rattle.std.proofs.lemmas.List.{append-nil, append_assoc}
use Rattle.std.proofs.lemmas.List.Elements.{Contains-append_left, Contains-push}
use Rattle.hs_scheme.proofs.Lists.{none_in, here, later, uncons}
use Rattle.hs_table.specs.Entries.{EntryData}
use Rattle.hs_types.specs.Interned.{InternerData, IsRow, entry_of}
use Rattle.hs_rules.specs.Conclusions.{DeducedData}
use Rattle.hs_rules.specs.Found.{HasNoGreater, Lowers}
use Rattle.hs_rules.proofs.FoundLemmas.{lowers_none, lower_then, lowers_then}
use Rattle.hs_rules.proofs.Lists.{all_from}
use Rattle.hs_rank.specs.Gathering.{AddsNew}
use Rattle.hs_rank.proofs.Sorted.{all_of}

module _ (ids : InternerData) (log : List EntryData) (old new : List DeducedData) (d : DeducedData) where
  pub adds_one : Lowers old new → ((x : DeducedData) → Contains new x → Contains old x ⊎ (x ≡ d)) → HasNoGreater new d.row d.support → (Contains log (entry_of ids d.row) → ⊥) → AddsNew ids log (λ x. x ≡ d) old new
  adds_one lowers only there absent = record {
    lowers = lowers;
    only = λ x c. elim (only x c) [
      | inl was ↦ inl was
      | inr is ↦ inr (is, λ k. absent (subst (λ (y : DeducedData). Contains log (entry_of ids y.row)) is k))
    ];
    there = λ x is. inr (subst (λ (y : DeducedData). HasNoGreater new y.row y.support) (sym is) there);
  }

  pub adds_known : Contains log (entry_of ids d.row) → AddsNew ids log (λ x. x ≡ d) old old
  adds_known known = record {
    lowers = lowers_none old;
    only = λ x c. inl c;
    there = λ x is. inl (subst (λ (y : DeducedData). Contains log (entry_of ids y.row)) (sym is) known);
  }

adds_none : (ids : InternerData) (log : List EntryData) (Among : DeducedData → Type 0) (old : List DeducedData) → ((d : DeducedData) → Among d → ⊥) → AddsNew ids log Among old old
adds_none ids log Among old never = record { lowers = lowers_none old; only = λ x c. inl c; there = λ x a. absurd (never x a) }

module _ (ids : InternerData) (log : List EntryData) (a b c : List DeducedData) where
  adds_next : (xs : List DeducedData) (d : DeducedData) → AddsNew ids log (Contains xs) a b → AddsNew ids log (λ x. x ≡ d) b c → AddsNew ids log (Contains (d ∷ xs)) a c
  adds_next xs d before one = record {
    lowers = lowers_then a b c before.lowers one.lowers;
    only = λ x h. elim (one.only x h) [
      | inl was ↦ elim (before.only x was) [
        | inl older ↦ inl older
        | inr (among, absent) ↦ inr (later d x xs among, absent)
      ]
      | inr (x_is, absent) ↦ inr (subst (λ (y : DeducedData). Contains (d ∷ xs) y) (sym x_is) (here d xs), absent)
    ];
    there = λ x h. elim (uncons d x xs h) [
      | inl is ↦ one.there x is
      | inr was ↦ elim (before.there x was) [
        | inl known ↦ inl known
        | inr kept_there ↦ inr (lower_then b c x.row x.support kept_there one.lowers)
      ]
    ];
  }

-- those behind what is left were added
pub record HasAdded (ids : InternerData) (log : List EntryData) (found left old new : List DeducedData) : Type 0 where
  pub done : List DeducedData
  pub whole : left ++ done ≡ found
  pub adds : AddsNew ids log (Contains done) old new

pub added_none : (ids : InternerData) (log : List EntryData) (found old : List DeducedData) → HasAdded ids log found found old old
added_none ids log found old = record { done = []; whole = append-nil found; adds = adds_none ids log (λ (d : DeducedData). Contains [] d) old (λ d there. none_in d there) }

pub added_next : (ids : InternerData) (log : List EntryData) (found left rest old mid new : List DeducedData) (d : DeducedData) → left ≡ rest ++ d ∷ [] → HasAdded ids log found left old mid → AddsNew ids log (λ x. x ≡ d) mid new
    → HasAdded ids log found rest old new
added_next ids log found left rest old mid new d is h one = record {
  done = d ∷ h.done;
  whole = sym (append_assoc rest (d ∷ []) h.done) ∙ (ap (λ (ds : List DeducedData). ds ++ h.done) (sym is) ∙ h.whole);
  adds = adds_next ids log old mid new h.done d h.adds one;
}

pub added_all : (ids : InternerData) (log : List EntryData) (found left old new : List DeducedData) → left ≡ [] → HasAdded ids log found left old new → AddsNew ids log (Contains found) old new
added_all ids log found left old new none h = subst (λ (ds : List DeducedData). AddsNew ids log (Contains ds) old new) (ap (λ (ds : List DeducedData). ds ++ h.done) (sym none) ∙ h.whole) h.adds

-- what comes next is among all
pub next_among : (P : DeducedData → Type 0) (ids : InternerData) (log : List EntryData) (found left rest old new : List DeducedData) (d : DeducedData) → left ≡ rest ++ d ∷ [] → HasAdded ids log found left old new → All P found → P d
next_among P ids log found left rest old new d is h all =
    all_of P found d all (subst (λ (ds : List DeducedData). Contains ds d) h.whole (Contains-append_left left h.done d (subst (λ (ds : List DeducedData). Contains ds d) (sym is) (Contains-push rest d))))

-- of what was gathered some is left, with no greater supports
pub adds_then : (ids : InternerData) (log : List EntryData) (Among : DeducedData → Type 0) (a b c : List DeducedData) → AddsNew ids log Among a b → Lowers b c → ((d : DeducedData) → Contains c d → Contains b d) → AddsNew ids log Among a c
adds_then ids log Among a b c adds lowers only = record {
  lowers = lowers_then a b c adds.lowers lowers;
  only = λ d h. adds.only d (only d h);
  there = λ d h. elim (adds.there d h) [
    | inl known ↦ inl known
    | inr kept_there ↦ inr (lower_then b c d.row d.support kept_there lowers)
  ];
}

-- all that is gathered has numbers
pub known_after : (ids : InternerData) (log : List EntryData) (found old new : List DeducedData) → All (λ d. IsRow ids d.row) found → All (λ d. IsRow ids d.row) old → AddsNew ids log (Contains found) old new → All (λ d. IsRow ids d.row) new
known_after ids log found old new f o adds = all_from (λ (d : DeducedData). IsRow ids d.row) new (λ d there. elim (adds.only d there) [
  | inl was ↦ all_of (λ (x : DeducedData). IsRow ids x.row) old d o was
  | inr (among, absent) ↦ all_of (λ (x : DeducedData). IsRow ids x.row) found d f among
])
