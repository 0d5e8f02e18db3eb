-- How the pairs found grow: by one, by one step after another, and what stays.
use Rattle.std.proofs.Common.{◌≡◌, ◌≢◌, refl, sym, ◌∙◌, ap, subst, ◌+◌, ◌-◌, ◌⊎◌, List, [], ◌∷◌, ◌++◌, length, length-append, get_or, append_assoc, arith, inl, inr, Contains, AllPairs}
use Rattle.std.proofs.lemmas.Bool.{cases_lt}
use Rattle.std.proofs.lemmas.List.{append-nil, get_or_append_left, get_or-append_right}
use Rattle.std.proofs.lemmas.List.Elements.{Contains-append_left, Contains-append_cases, Contains-get_or}
use Rattle.hs_scheme.specs.declared.flow.Pair.{Pair}
use Rattle.hs_scheme.proofs.Lists.{none_in, only}
use Rattle.hs_flow.specs.declared.bases.Base.{Base}
use Rattle.hs_flow.specs.Bases.{BasesData}
use Rattle.hs_flow.specs.Passing.{PassedAtFirst, PassedFor, MayBecome}
use Rattle.hs_flow.specs.Pairs.{PairsData, HasBaseAt, IsAddable, FindsOnly, Extends}

-- no pair twice in two lists, and none in both
pub append_once : (xs ys : List Pair) → AllPairs (λ a b. a ≢ b) xs → AllPairs (λ a b. a ≢ b) ys → ((q : Pair) → Contains xs q → Contains ys q → ⊥) → AllPairs (λ a b. a ≢ b) (xs ++ ys)
append_once xs ys front back apart i j d less within e =
    let long : length (xs ++ ys) ≡ length xs + length ys = length-append xs ys in
    elim (cases_lt j (length xs)) [
      | inl lt ↦ front i j d less lt (sym (get_or_append_left xs ys d i (omega arith)) ∙ (e ∙ get_or_append_left xs ys d j lt))
      | inr ge ↦ elim (cases_lt i (length xs)) [
        | inl lt ↦ apart (get_or xs i d) (Contains-get_or xs i d lt)
            (subst (Contains ys) (sym (get_or-append_right xs ys (length xs) j d refl ge) ∙ (sym e ∙ get_or_append_left xs ys d i lt)) (Contains-get_or ys (j - length xs) d (omega arith)))
        | inr later ↦ back (i - length xs) (j - length xs) d (omega arith) (omega arith)
            (sym (get_or-append_right xs ys (length xs) i d refl later) ∙ (e ∙ get_or-append_right xs ys (length xs) j d refl ge))
      ]
    ]

-- the same with further pairs
abbrev pub grown : PairsData → List Pair → PairsData
grown a ps = record { rules = a.rules; max = a.max; found = a.found ++ ps; bases = a.bases }

pub finds_nothing : (P : Pair → Type 0) (a : PairsData) → FindsOnly P a a
finds_nothing P a = record {
  added = [];
  is = λ i. record { rules = a.rules; max = a.max; found = sym (append-nil a.found) i; bases = a.bases };
  with = λ q h. absurd (none_in q h);
}

-- a pair is added
pub finds_one : (a b : PairsData) (k : Pair) → b ≡ grown a (k ∷ []) → FindsOnly (λ q. q ≡ k) a b
finds_one a b k is = record { added = k ∷ []; is = is; with = only k }

module _ (P : Pair → Type 0) (a b : PairsData) (f : FindsOnly P a b) where
  pub finds_rules : b.rules ≡ a.rules
  finds_rules = ap (λ (x : PairsData). x.rules) f.is

  pub finds_keep : (q : Pair) → Contains a.found q → Contains b.found q
  finds_keep q h = subst (λ (x : PairsData). Contains x.found q) (sym f.is) (Contains-append_left a.found f.added q h)

  -- what is there was there before, or was found
  pub finds_cases : (q : Pair) → Contains b.found q → Contains a.found q ⊎ P q
  finds_cases q h = elim (Contains-append_cases a.found f.added q (subst (λ (x : PairsData). Contains x.found q) f.is h)) [ inl was ↦ inl was | inr added ↦ inr (f.with q added) ]

  pub finds_weaker : (Q : Pair → Type 0) → ((q : Pair) → P q → Q q) → FindsOnly Q a b
  finds_weaker Q weaker = record { added = f.added; is = f.is; with = λ q h. weaker q (f.with q h) }

  pub finds_extends : Extends a b
  finds_extends = record { added = f.added; bases = a.bases; is = f.is; keeps = λ c h. h }

  -- what can be added still can, where it isn't found
  pub addable_more : (q : Pair) → IsAddable a q → (Contains b.found q → ⊥) → IsAddable b q
  addable_more q can absent = record {
    absent = absent;
    passed = subst (λ (x : PairsData). PassedAtFirst x.rules q ⊎ ((c : Base) × (HasBaseAt x c × (MayBecome x.found c × PassedFor x.rules c q)))) (sym f.is) (elim can.passed [
      | inl first ↦ inl first
      | inr (c, (had, (may, for))) ↦ inr (
        c,
        (
          had,
          (
            record {
              point = may.point;
              flow = Contains-append_left a.found f.added _ may.flow;
              head = Contains-append_left a.found f.added _ may.head;
            },
            for,
          ),
        ),
      )
    ]);
  }

pub finds_then : (P Q R : Pair → Type 0) (a b c : PairsData) → ((q : Pair) → P q → R q) → ((q : Pair) → Q q → R q) → FindsOnly P a b → FindsOnly Q b c → FindsOnly R a c
finds_then P Q R a b c first_too second_too f g = record {
  added = f.added ++ g.added;
  is = g.is ∙ (ap (λ (x : PairsData). grown x g.added) f.is ∙ (λ i. record { rules = a.rules; max = a.max; found = append_assoc a.found f.added g.added i; bases = a.bases }));
  with = λ q h. elim (Contains-append_cases f.added g.added q h) [ inl one ↦ first_too q (f.with q one) | inr two ↦ second_too q (g.with q two) ];
}

-- the same with other bases
abbrev pub with_bases : PairsData → BasesData → PairsData
with_bases a bases = record { rules = a.rules; max = a.max; found = a.found; bases = bases }

pub extends_bases : (a : PairsData) (bases : BasesData) → ((c : Base) → HasBaseAt a c → HasBaseAt (with_bases a bases) c) → Extends a (with_bases a bases)
extends_bases a bases keeps = record {
  added = [];
  bases = bases;
  is = λ i. record { rules = a.rules; max = a.max; found = sym (append-nil a.found) i; bases = bases };
  keeps = keeps;
}

pub extends_same : (a : PairsData) → Extends a a
extends_same a = extends_bases a a.bases (λ c h. h)

pub extends_then : (a b c : PairsData) → Extends a b → Extends b c → Extends a c
extends_then a b c f g = subst (λ (x : PairsData). Extends x c → Extends a c) (sym f.is) (λ e. record {
  added = f.added ++ e.added;
  bases = e.bases;
  is = e.is ∙ (λ i. record { rules = a.rules; max = a.max; found = append_assoc a.found f.added e.added i; bases = e.bases });
  keeps = λ d h. e.keeps d (f.keeps d h);
}) g

module _ (a b : PairsData) (e : Extends a b) where
  pub extends_rules : b.rules ≡ a.rules
  extends_rules = ap (λ (x : PairsData). x.rules) e.is

  pub extends_max : b.max ≡ a.max
  extends_max = ap (λ (x : PairsData). x.max) e.is

  pub extends_found : b.found ≡ a.found ++ e.added
  extends_found = ap (λ (x : PairsData). x.found) e.is

  pub extends_keep : (q : Pair) → Contains a.found q → Contains b.found q
  extends_keep q h = subst (λ (qs : List Pair). Contains qs q) (sym extends_found) (Contains-append_left a.found e.added q h)

  pub extends_has : (c : Base) → HasBaseAt a c → HasBaseAt b c
  extends_has c h = subst (λ (x : PairsData). HasBaseAt x c) (sym e.is) (e.keeps c h)
