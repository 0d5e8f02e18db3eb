-- What parameters may become, one more of it.
use Rattle.std.proofs.Common.{◌≡◌, refl, sym, ℕ, zero, suc, ◌<◌, ◌↔◌, ◌∙◌, subst, Bool, true, false, not, ◌&&◌, nat_eq, length, arith, List, [], ◌∷◌, ◌++◌, cond, ◌⊎◌, inl, inr, Contains, Option, Some}
use Rattle.std.specs.Bool.{Decides}
use Rattle.std.specs.List.{list_any}
use Rattle.std.proofs.lemmas.Bool.{eqb-true, eq-eqb, and_parts}
use Rattle.std.proofs.lemmas.List.Elements.{Contains-append_cases, Contains-append_left, Contains-push}
use Rattle.std.proofs.lemmas.Map.Made.{is_member-Decides}
use Rattle.hs_flow.specs.declared.bases.Base.{Base}
use Rattle.hs_flow.specs.contracts.bases.BasePartialEq.TheImpl.{eq-value}
use Rattle.hs_scheme.specs.sorting.Parameters.{IsParameter, parameter_of}
use Rattle.hs_scheme.proofs.ParameterLemmas.{number_once}
use Rattle.hs_scheme.proofs.Lists.{only}
use Rattle.hs_flow.specs.Bases.{HasFlag, InRows, IsOutside, TellsNew, HasBase, IsNumber}

base_true : (a b : Base) → eq-value.it a b ≡ true → a ≡ b
base_true a b h =
    let p = and_parts (nat_eq a.rule b.rule) (nat_eq a.param b.param && (nat_eq a.base b.base && nat_eq a.given b.given)) h in
    let q = and_parts (nat_eq a.param b.param) (nat_eq a.base b.base && nat_eq a.given b.given) p.1 in
    let r = and_parts (nat_eq a.base b.base) (nat_eq a.given b.given) q.1 in
    λ i. record { rule = eqb-true a.rule b.rule p.0 i; param = eqb-true a.param b.param q.0 i; base = eqb-true a.base b.base r.0 i; given = eqb-true a.given b.given r.1 i }

base_own : (a : Base) → eq-value.it a a ≡ true
base_own a = rw (eq-eqb a.rule a.rule refl, eq-eqb a.param a.param refl, eq-eqb a.base a.base refl, eq-eqb a.given a.given refl)

base_same : (a b : Base) → Decides (eq-value.it a b) (a ≡ b)
base_same a b = (base_true a b, λ e. subst (λ (c : Base). eq-value.it a c ≡ true) e (base_own a))

module _ (old new : List Base) (b : Base) where
  abbrev inserted : Bool → List Base
  inserted t = cond t old (old ++ b ∷ [])

  was_there : (t added : Bool) → added ≡ not t → added ≡ false → t ≡ true
  was_there true added is none = refl
  was_there false added is none = absurd (cc)

  -- nothing was added
  pub base_there : (added : Bool) → added ≡ not (list_any (eq-value.it b) old) → added ≡ false → Contains old b
  base_there added is none = (is_member-Decides base_same old b).0 (was_there (list_any (eq-value.it b) old) added is none)

  isnt_there : (t added : Bool) → added ≡ not t → added ≡ true → t ≡ true → ⊥
  isnt_there true added is some e = (cc)
  isnt_there false added is some e = (cc)

  -- something was added
  pub base_new : (added : Bool) → added ≡ not (list_any (eq-value.it b) old) → added ≡ true → Contains old b → ⊥
  base_new added is some h = isnt_there (list_any (eq-value.it b) old) added is some ((is_member-Decides base_same old b).1 h)

  by_case : (t : Bool) (c : Base) → Contains (inserted t) c → Contains old c ⊎ (c ≡ b)
  by_case true c h = inl h
  by_case false c h = elim (Contains-append_cases old (b ∷ []) c h) [ inl was ↦ inl was | inr last ↦ inr (only b c last) ]

  pub bases_cases : new ≡ inserted (list_any (eq-value.it b) old) → (c : Base) → Contains new c → Contains old c ⊎ (c ≡ b)
  bases_cases keys c h = by_case (list_any (eq-value.it b) old) c (subst (λ (bs : List Base). Contains bs c) keys h)

-- what was there stays, and the base is there
pub bases_keep : (old new : List Base) (b c : Base) → new ≡ cond (list_any (eq-value.it b) old) old (old ++ b ∷ []) → Contains old c → Contains new c
bases_keep old new b c keys h = subst (λ (bs : List Base). Contains bs c) (sym keys) (by (list_any (eq-value.it b) old))
  where
    by : (t : Bool) → Contains (cond t old (old ++ b ∷ [])) c
    by true = h
    by false = Contains-append_left old (b ∷ []) c h

pub bases_have : (old new : List Base) (b : Base) → new ≡ cond (list_any (eq-value.it b) old) old (old ++ b ∷ []) → Contains new b
bases_have old new b keys = subst (λ (bs : List Base). Contains bs b) (sym keys) (by (list_any (eq-value.it b) old) refl)
  where
    by : (t : Bool) → list_any (eq-value.it b) old ≡ t → Contains (cond t old (old ++ b ∷ [])) b
    by true there = (is_member-Decides base_same old b).0 there
    by false absent = Contains-push old b

has_row : (rows : List (List Bool)) (k j : ℕ) → HasFlag rows k j → k < length rows
has_row [] k j h = absurd (cc)
has_row (v ∷ rows) zero j h = omega arith
has_row (v ∷ rows) (suc k) j h = omega (arith, has_row rows k j h)

-- the set of the others gains a base
module _ (old new : List Base) (b : Base) (added : Bool) (keys : new ≡ cond (list_any (eq-value.it b) old) old (old ++ b ∷ [])) (tells : added ≡ not (list_any (eq-value.it b) old)) where
  pub others_more : (c : Base) → Contains new c ↔ (Contains old c ⊎ (c ≡ b))
  others_more c = (
    λ there. bases_cases old new b keys c there,
    λ h. elim h [ inl was ↦ bases_keep old new b c keys was | inr is ↦ subst (Contains new) (sym is) (bases_have old new b keys) ],
  )

  pub others_new : TellsNew (Contains old b) added
  others_new = by added refl
    where
      by : (t : Bool) → added ≡ t → TellsNew (Contains old b) t
      by true is = λ was. base_new old new b added tells is was
      by false is = base_there old new b added tells is

-- a base for which there is no row
module _ (counts : List ℕ) (rows : List (List Bool)) (old new : List Base) (b : Base) (out : IsOutside counts rows b) where
  pub outside_more : ((c : Base) → Contains new c ↔ (Contains old c ⊎ (c ≡ b))) → (c : Base)
      → (InRows counts rows c ⊎ (IsOutside counts rows c × Contains new c)) ↔ ((InRows counts rows c ⊎ (IsOutside counts rows c × Contains old c)) ⊎ (c ≡ b))
  outside_more more c = (
    λ h. elim h [
      | inl in_rows ↦ inl (inl in_rows)
      | inr (o, there) ↦ elim ((more c).0 there) [ inl was ↦ inl (inr (o, was)) | inr is ↦ inr is ]
    ],
    λ h. elim h [
      | inl (inl in_rows) ↦ inl in_rows
      | inl (inr (o, was)) ↦ inr (o, (more c).1 (inl was))
      | inr is ↦ inr (subst (IsOutside counts rows) (sym is) out, (more c).1 (inr is))
    ],
  )

  pub outside_new : (added : Bool) → TellsNew (Contains old b) added → TellsNew (InRows counts rows b ⊎ (IsOutside counts rows b × Contains old b)) added
  outside_new true tells = λ h. elim h [ inl r ↦ out r.param r.base (has_row rows _ _ r.flag) | inr (o, was) ↦ tells was ]
  outside_new false tells = inr (out, tells)

-- a base that has a row
module _ (counts : List ℕ) (old new : List (List Bool)) (others : List Base) (b : Base) (k j : ℕ) (param : IsParameter counts b.rule b.param) (base : IsParameter counts b.base b.given)
    (k_is : k ≡ parameter_of counts b.rule b.param) (j_is : j ≡ parameter_of counts b.base b.given) (within : k < length old) where
  pub flag_more : length new ≡ length old → ((x y : ℕ) → HasFlag new x y ↔ (HasFlag old x y ⊎ ((x ≡ k) × (y ≡ j)))) → (c : Base)
      → (InRows counts new c ⊎ (IsOutside counts new c × Contains others c)) ↔ ((InRows counts old c ⊎ (IsOutside counts old c × Contains others c)) ⊎ (c ≡ b))
  flag_more long flags c = (
    λ h. elim h [
      | inl r ↦ elim ((flags (parameter_of counts c.rule c.param) (parameter_of counts c.base c.given)).0 r.flag) [
        | inl was ↦ inl (inl (record { param = r.param; base = r.base; flag = was }))
        | inr (x, y) ↦
            let p = number_once counts c.rule c.param b.rule b.param r.param param (x ∙ k_is) in
            let q = number_once counts c.base c.given b.base b.given r.base base (y ∙ j_is) in
            inr (λ i. record { rule = p.0 i; param = p.1 i; base = q.0 i; given = q.1 i })
      ]
      | inr (o, other) ↦ inl (inr (λ p q lt. o p q (omega (arith, long, lt)), other))
    ],
    λ h. elim h [
      | inl (inl r) ↦ inl (record { param = r.param; base = r.base; flag = (flags (parameter_of counts c.rule c.param) (parameter_of counts c.base c.given)).1 (inl r.flag) })
      | inl (inr (o, other)) ↦ inr (λ p q lt. o p q (omega (arith, long, lt)), other)
      | inr is ↦ inl (subst (InRows counts new) (sym is) (record {
        param = param;
        base = base;
        flag = (flags (parameter_of counts b.rule b.param) (parameter_of counts b.base b.given)).1 (inr (sym k_is, sym j_is));
      }))
    ],
  )

  pub flag_new : (added : Bool) → TellsNew (HasFlag old k j) added → TellsNew (InRows counts old b ⊎ (IsOutside counts old b × Contains others b)) added
  flag_new true tells = λ h. elim h [
    | inl r ↦ tells (here r.flag)
    | inr (o, other) ↦ o param base (omega (arith, k_is, within))
  ]
    where
      here : HasFlag old (parameter_of counts b.rule b.param) (parameter_of counts b.base b.given) → HasFlag old k j
      here f = subst (λ (x : ℕ). HasFlag old x j) (sym k_is) (subst (λ (y : ℕ). HasFlag old (parameter_of counts b.rule b.param) y) (sym j_is) f)
  flag_new false tells = inl (record {
    param = param;
    base = base;
    flag = subst (λ (x : ℕ). HasFlag old x (parameter_of counts b.base b.given)) k_is (subst (λ (y : ℕ). HasFlag old k y) j_is tells);
  })

-- a flag that is set is a base
pub flagged : (counts : List ℕ) (rows : List (List Bool)) (others : List Base) (b : Base) (number flag : Option ℕ) (n k : ℕ) → number ≡ Some n → flag ≡ Some k → HasFlag rows n k
    → IsNumber counts b.rule b.param number → IsNumber counts b.base b.given flag → HasBase counts (record { rows = rows; others = others }) b
flagged counts rows others b number flag n k number_is flag_is set param base =
    let p = subst (λ (o : Option ℕ). IsNumber counts b.rule b.param o) number_is param in
    let q = subst (λ (o : Option ℕ). IsNumber counts b.base b.given o) flag_is base in
    inl (record {
      param = p.0;
      base = q.0;
      flag = subst (λ i. HasFlag rows i (parameter_of counts b.base b.given)) p.1 (subst (λ j. HasFlag rows n j) q.1 set);
    })
