-- Joined environments ask for what either asks for.
use Rattle.std.proofs.Common.{◌≡◌, refl, sym, ◌∙◌, ap, subst, ℕ, zero, suc, ◌+◌, ◌<◌, ◌≤◌, List, [], ◌∷◌, ◌++◌, length, set, replicate, arith, Contains, ◌⊎◌, inl, inr, ◌↔◌}
use Rattle.std.proofs.lemmas.List.{set_past}
use Rattle.hs_scheme.specs.declared.term.Head.{Head}
use Rattle.hs_scheme.specs.declared.term.Head.TheVariants.{Var, Nt, Tm}
use Rattle.hs_scheme.proofs.Lists.{none_in, here, later, uncons}
use Rattle.hs_table.specs.Types.{TypeTree, IsSet}
use Rattle.hs_table.specs.Entries.{Env, EntryData, Has, set_at, IsEnv}
use Rattle.hs_table.specs.Follows.{HeadHas, AnyHas}
use Rattle.hs_table_laws.proofs.Sets.{insert, insert_set, insert_only, insert_old, insert_own, one_set}
use Rattle.hs_table_laws.proofs.Arrows.{length-empties, empties_set, empties_has, one_long, one_sets, one_has}
use Rattle.hs_table_plain.specs.Enumeration.{union, union_from, joined, own_env}

union_set : (s r : List TypeTree) → IsSet s → IsSet (union s r)
union_set s [] h = h
union_set s (a ∷ r) h = union_set (insert a s) r (insert_set a s h)

union_only : (s r : List TypeTree) (a : TypeTree) → Contains (union s r) a → Contains s a ⊎ Contains r a
union_only s [] a c = inl c
union_only s (b ∷ r) a c = elim (union_only (insert b s) r a c) [
  | inl h ↦ elim (insert_only b a s h) [
    | inl e ↦ inr (subst (λ z. Contains (b ∷ r) z) (sym e) (here b r))
    | inr k ↦ inl k
  ]
  | inr h ↦ inr (later b a r h)
]

union_left : (s r : List TypeTree) (a : TypeTree) → Contains s a → Contains (union s r) a
union_left s [] a c = c
union_left s (b ∷ r) a c = union_left (insert b s) r a (insert_old b a s c)

union_right : (s r : List TypeTree) (a : TypeTree) → Contains r a → Contains (union s r) a
union_right s [] a c = absurd (none_in a c)
union_right s (b ∷ r) a c = elim (uncons b a r c) [
  | inl e ↦ union_left (insert b s) r a (subst (λ z. Contains (insert b s) z) (sym e) (insert_own b s))
  | inr there ↦ union_right (insert b s) r a there
]

length-union_from : (n : ℕ) (e r : Env) → length (union_from n e r) ≡ length e
length-union_from n [] r = refl
length-union_from n (s ∷ e) r = ap suc (length-union_from (suc n) e r)

union_sets : (n : ℕ) (e r : Env) → ((j : ℕ) → IsSet (set_at e j)) → (j : ℕ) → IsSet (set_at (union_from n e r) j)
union_sets n [] r h j = h j
union_sets n (s ∷ e) r h zero = union_set s (set_at r n) (h 0)
union_sets n (s ∷ e) r h (suc j) = union_sets (suc n) e r (λ k. h (suc k)) j

union_has : (n : ℕ) (e r : Env) (j : ℕ) (a : TypeTree) → j < length e → Has (union_from n e r) j a ↔ (Has e j a ⊎ Has r (n + j) a)
union_has n [] r j a lt = absurd (omega arith)
union_has n (s ∷ e) r zero a lt =
    let z : n ≡ n + 0 = omega arith in
    subst (λ k. Contains (union s (set_at r n)) a ↔ (Contains s a ⊎ Has r k a)) z (union_only s (set_at r n) a, λ h. either h)
  where
    either : Contains s a ⊎ Contains (set_at r n) a → Contains (union s (set_at r n)) a
    either (inl h) = union_left s (set_at r n) a h
    either (inr h) = union_right s (set_at r n) a h
union_has n (s ∷ e) r (suc j) a lt =
    let z : suc n + j ≡ n + suc j = omega arith in
    subst (λ k. Has (union_from (suc n) e r) j a ↔ (Has e j a ⊎ Has r k a)) z (union_has (suc n) e r j a (omega arith))

pub joined_has : (e x : EntryData) (j : ℕ) (a : TypeTree) → j < length e.env → Has (joined e x).env j a ↔ (Has e.env j a ⊎ Has x.env j a)
joined_has e x j a lt = let z : 0 + j ≡ j = omega arith in subst (λ k. Has (joined e x).env j a ↔ (Has e.env j a ⊎ Has x.env k a)) z (union_has 0 e.env x.env j a lt)

-- one after another
abbrev pub joins : EntryData → List EntryData → EntryData
joins e [] = e
joins e (x ∷ xs) = joins (joined e x) xs

pub joins-append : (e : EntryData) (xs ys : List EntryData) → joins e (xs ++ ys) ≡ joins (joins e xs) ys
joins-append e [] ys = refl
joins-append e (x ∷ xs) ys = joins-append (joined e x) xs ys

pub joins_point : (e : EntryData) (xs : List EntryData) → (joins e xs).point ≡ e.point
joins_point e [] = refl
joins_point e (x ∷ xs) = joins_point (joined e x) xs

pub joins_env : (n : ℕ) (e : EntryData) (xs : List EntryData) → IsEnv n e.env → IsEnv n (joins e xs).env
joins_env n e [] h = h
joins_env n e (x ∷ xs) h = joins_env n (joined e x) xs (record { long = length-union_from 0 e.env x.env ∙ h.long; sets = union_sets 0 e.env x.env h.sets })

pub joins_has : (e : EntryData) (xs : List EntryData) (j : ℕ) (a : TypeTree) → j < length e.env → Has (joins e xs).env j a ↔ (Has e.env j a ⊎ AnyHas xs j a)
joins_has e [] j a lt = (inl, λ h. elim h [ inl k ↦ k | inr none ↦ absurd none ])
joins_has e (x ∷ xs) j a lt =
    let rest = joins_has (joined e x) xs j a (omega (arith, lt, length-union_from 0 e.env x.env)) in
    let first = joined_has e x j a lt in
    (λ h. out first.0 (rest.0 h), λ h. rest.1 (back first.1 h))
  where
    out : (Has (joined e x).env j a → Has e.env j a ⊎ Has x.env j a) → Has (joined e x).env j a ⊎ AnyHas xs j a → Has e.env j a ⊎ AnyHas (x ∷ xs) j a
    out f (inl h) = elim (f h) [ inl k ↦ inl k | inr k ↦ inr (inl k) ]
    out f (inr h) = inr (inr h)

    back : (Has e.env j a ⊎ Has x.env j a → Has (joined e x).env j a) → Has e.env j a ⊎ AnyHas (x ∷ xs) j a → Has (joined e x).env j a ⊎ AnyHas xs j a
    back f (inl h) = inl (f (inl h))
    back f (inr (inl h)) = inl (f (inr h))
    back f (inr (inr h)) = inr h

pub own_is_env : (n : ℕ) (h : Head) (t : TypeTree) → IsEnv n (own_env n h t)
own_is_env n (Var x) t = record { long = one_long n x (t ∷ []); sets = λ j. one_sets n x j (t ∷ []) (one_set t) }
own_is_env n (Nt f) t = record { long = length-empties n; sets = empties_set n }
own_is_env n (Tm b) t = record { long = length-empties n; sets = empties_set n }

pub own_has : (n : ℕ) (h : Head) (t : TypeTree) (j : ℕ) (a : TypeTree) → j < n → Has (own_env n h t) j a ↔ HeadHas h t j a
own_has n (Var x) t j a lt = one_has n x j t a lt
own_has n (Nt f) t j a lt = (λ h. empties_has n j a h, λ h. absurd h)
own_has n (Tm b) t j a lt = (λ h. empties_has n j a h, λ h. absurd h)

-- an environment of empty sets, with the own type of a parameter where it has one
module _ (n : ℕ) (h : Head) (t : TypeTree) (env : Env) (empty : env ≡ replicate n []) where
  pub own_of_parameter : (x : ℕ) (s : List TypeTree) → h ≡ Var x → s ≡ (t ∷ []) → set env x s ≡ own_env n h t
  own_of_parameter x s is e = (λ i. set (empty i) x (e i)) ∙ ap (λ k. own_env n k t) (sym is)

  pub own_of_past : (x : ℕ) → h ≡ Var x → length env ≤ x → env ≡ own_env n h t
  own_of_past x is past =
      let past_all : length (replicate {A = List TypeTree} n []) ≤ x = subst (λ (e : Env). length e ≤ x) empty past in
      empty ∙ (sym (set_past (replicate n []) x (t ∷ []) past_all) ∙ ap (λ k. own_env n k t) (sym is))

  pub own_of_others : ((x : ℕ) → h ≡ Var x → ⊥) → env ≡ own_env n h t
  own_of_others other = cases h other
    where
      cases : (k : Head) → ((x : ℕ) → k ≡ Var x → ⊥) → env ≡ own_env n k t
      cases (Var x) none = absurd (none x refl)
      cases (Nt f) none = empty
      cases (Tm a) none = empty
