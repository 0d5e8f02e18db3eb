-- How the types that are found grow in number.
use Rattle.std.proofs.Common.{◌≡◌, refl, sym, ◌∙◌, subst, ℕ, ◌+◌, ◌<◌, ◌≤◌, Bool, true, false, cond, List, [], ◌∷◌, ◌++◌, length, get_or, take, Contains, ◌⊎◌, inl, inr, ◌↔◌, arith}
use Rattle.std.specs.Bool.{Decides}
use Rattle.std.specs.List.{list_any}
use Rattle.std.proofs.lemmas.Bool.{cases_lt, eqb-true, eq-eqb}
use Rattle.std.proofs.lemmas.Map.Made.{is_member-Decides}
use Rattle.indexmap.specs.IndexSet.{insert_key}
use Rattle.std.proofs.lemmas.List.{take_all}
use Rattle.std.proofs.lemmas.List.Elements.{Contains-append_left, Contains-push}
use Rattle.hs_scheme.proofs.Lists.{none_in}
use Rattle.hs_table.specs.Types.{TypeTree}
use Rattle.hs_table_laws.proofs.Members.{taken_next, pushed_cases}
use Rattle.hs_types.specs.Interned.{InternerData, type_of_id, Grows}
use Rattle.hs_types.specs.contracts.ids.TyIdPartialEq.TheImpl.{eq-value}
use Rattle.hs_types.proofs.Numbers.{Grows-refl, Grows-trans, type_within, type_stays}
use Rattle.hs_heads.specs.Sources.{HasNumber, GainsTypes, FromSome, FromPlace}

-- a number more
pub number_same : (a b : ℕ) → Decides (eq-value.it a b) (a ≡ b)
number_same a b = (eqb-true a b, λ e. eq-eqb a b e)

pub number_added : (old new : List ℕ) (t : ℕ) → new ≡ insert_key eq-value.it old t → (n : ℕ) → Contains new n ↔ (Contains old n ⊎ (n ≡ t))
number_added old new t keys n = subst (λ (xs : List ℕ). Contains xs n ↔ (Contains old n ⊎ (n ≡ t))) (sym keys) (by (list_any (eq-value.it t) old) refl)
  where
    by : (b : Bool) → list_any (eq-value.it t) old ≡ b → Contains (cond b old (old ++ t ∷ [])) n ↔ (Contains old n ⊎ (n ≡ t))
    by true there = (λ m. inl m, λ h. elim h [ inl was ↦ was | inr is ↦ subst (λ x. Contains old x) (sym is) ((is_member-Decides number_same old t).0 there) ])
    by false absent = (λ m. pushed_cases old t n m, λ h. elim h [ inl was ↦ Contains-append_left old (t ∷ []) n was | inr is ↦ subst (λ x. Contains (old ++ t ∷ []) x) (sym is) (Contains-push old t) ])

number_stays : (J K : InternerData) (found more : List ℕ) (ty : TypeTree) → Grows J K → ((t : ℕ) → Contains found t → Contains more t) → HasNumber J found ty → HasNumber K more ty
number_stays J K found more ty g keeps h = record {
  number = h.number;
  there = keeps h.number h.there;
  within = type_within J K g h.number h.within;
  is = type_stays J K g h.number h.within ∙ h.is;
}

-- no type comes from there
pub gains_none : (I : InternerData) (found : List ℕ) (From : TypeTree → Type 0) → ((ty : TypeTree) → From ty → ⊥) → GainsTypes I I found found From
gains_none I found From never = record {
  grows = Grows-refl I;
  come = λ t c. inl c;
  keeps = λ t c. c;
  all = λ ty from. absurd (never ty from);
}

-- one comes from there
pub gains_one : (I J : InternerData) (old new : List ℕ) (t : ℕ) (From : TypeTree → Type 0) → Grows I J → ((n : ℕ) → Contains new n ↔ (Contains old n ⊎ (n ≡ t))) → t < length J.types
    → From (type_of_id J t) → ((ty : TypeTree) → From ty → ty ≡ type_of_id J t) → GainsTypes I J old new From
gains_one I J old new t From g added lt from only = record {
  grows = g;
  come = λ n c. elim ((added n).0 c) [
    | inl was ↦ inl was
    | inr is ↦ inr (subst (λ z. z < length J.types) (sym is) lt, subst (λ z. From (type_of_id J z)) (sym is) from)
  ];
  keeps = λ n c. (added n).1 (inl c);
  all = λ ty f. record { number = t; there = (added t).1 (inr refl); within = lt; is = sym (only ty f) };
}

-- from one place and then from another
pub gains_then : (I J K : InternerData) (F G H : TypeTree → Type 0) (old mid new : List ℕ) → ((ty : TypeTree) → F ty → H ty) → ((ty : TypeTree) → G ty → H ty) → ((ty : TypeTree) → H ty → F ty ⊎ G ty)
    → GainsTypes I J old mid F → GainsTypes J K mid new G → GainsTypes I K old new H
gains_then I J K F G H old mid new fh gh parts f k = record {
  grows = Grows-trans I J K f.grows k.grows;
  come = λ t c. elim (k.come t c) [
    | inl was ↦ elim (f.come t was) [
      | inl first ↦ inl first
      | inr (w, from) ↦ inr (type_within J K k.grows t w, fh (type_of_id K t) (subst F (sym (type_stays J K k.grows t w)) from))
    ]
    | inr (w, from) ↦ inr (w, gh (type_of_id K t) from)
  ];
  keeps = λ t c. k.keeps t (f.keeps t c);
  all = λ ty from. elim (parts ty from) [
    | inl first ↦ number_stays J K mid new ty k.grows k.keeps (f.all ty first)
    | inr last ↦ k.all ty last
  ];
}

-- from what is the same place
pub gains_same : (I J : InternerData) (F G : TypeTree → Type 0) (old new : List ℕ) → ((ty : TypeTree) → F ty ↔ G ty) → GainsTypes I J old new F → GainsTypes I J old new G
gains_same I J F G old new same k = record {
  grows = k.grows;
  come = λ t c. elim (k.come t c) [ inl was ↦ inl was | inr (w, from) ↦ inr (w, (same (type_of_id J t)).0 from) ];
  keeps = k.keeps;
  all = λ ty from. k.all ty ((same ty).1 from);
}

-- after the interner grew
pub gains_grown : (I J K : InternerData) (From : TypeTree → Type 0) (old new : List ℕ) → Grows I J → GainsTypes J K old new From → GainsTypes I K old new From
gains_grown I J K From old new g k = record { grows = Grows-trans I J K g k.grows; come = k.come; keeps = k.keeps; all = k.all }

-- from the items of a list, one after another
module _ {X : Type 0} (From : X → TypeTree → Type 0) (xs : List X) where
  pub some_none : (I : InternerData) (found : List ℕ) → GainsTypes I I found found (FromSome From (take 0 xs))
  some_none I found = gains_none I found (FromSome From (take 0 xs)) (λ ty f. none_in f.item f.among)

  pub some_next : (I J K : InternerData) (k : ℕ) (x : X) (old mid new : List ℕ) → k < length xs → x ≡ get_or xs k x → GainsTypes I J old mid (FromSome From (take k xs)) → GainsTypes J K mid new (From x)
      → GainsTypes I K old new (FromSome From (take (k + 1) xs))
  some_next I J K k x old mid new lt is f g =
      let next = taken_next xs k x lt is in
      gains_then I J K (FromSome From (take k xs)) (From x) (FromSome From (take (k + 1) xs)) old mid new
      (λ ty s. record { item = s.item; among = subst (λ (ys : List X). Contains ys s.item) (sym next) (Contains-append_left (take k xs) (x ∷ []) s.item s.among); says = s.says })
      (λ ty s. record { item = x; among = subst (λ (ys : List X). Contains ys x) (sym next) (Contains-push (take k xs) x); says = s })
      (λ ty s. elim (pushed_cases (take k xs) x s.item (subst (λ (ys : List X). Contains ys s.item) next s.among)) [
        | inl was ↦ inl (record { item = s.item; among = was; says = s.says })
        | inr last ↦ inr (subst (λ (y : X). From y ty) last s.says)
      ]) f g

  pub some_all : (I J : InternerData) (k : ℕ) (old new : List ℕ) → length xs ≤ k → GainsTypes I J old new (FromSome From (take k xs)) → GainsTypes I J old new (FromSome From xs)
  some_all I J k old new past f = subst (λ (ys : List X). GainsTypes I J old new (FromSome From ys)) (take_all k xs past) f

-- from the places below a number, one after another
module _ (From : ℕ → TypeTree → Type 0) where
  pub place_none : (I : InternerData) (found : List ℕ) → GainsTypes I I found found (FromPlace From 0)
  place_none I found = gains_none I found (FromPlace From 0) (λ ty f. let lt = f.below in omega (arith, lt))

  pub place_next : (I J K : InternerData) (n : ℕ) (old mid new : List ℕ) → GainsTypes I J old mid (FromPlace From n) → GainsTypes J K mid new (From n) → GainsTypes I K old new (FromPlace From (n + 1))
  place_next I J K n old mid new f g = gains_then I J K (FromPlace From n) (From n) (FromPlace From (n + 1)) old mid new
      (λ ty s. let lt = s.below in record { place = s.place; below = omega (arith, lt); says = s.says })
      (λ ty s. record { place = n; below = omega arith; says = s })
      (λ ty s. elim (cases_lt s.place n) [
        | inl less ↦ inl (record { place = s.place; below = less; says = s.says })
        | inr le ↦ let lt = s.below in let e : s.place ≡ n = omega (arith, le, lt) in inr (subst (λ m. From m ty) e s.says)
      ]) f g
