-- Ascending lists: their members determine them, and each list of types has one with its members.
use Rattle.std.proofs.Common.{◌≡◌, refl, sym, ◌∙◌, ap, subst, ℕ, suc, ◌<◌, List, [], ◌∷◌, length, arith, Contains, ◌⊎◌, inl, inr, ◌↔◌}
use Rattle.std.specs.Ordering.{ordering_reverse}
use Rattle.std.specs.declared.cmp.Ordering.{Ordering}
use Rattle.std.specs.declared.cmp.Ordering.TheVariants.{Less, Equal, Greater}
use Rattle.std.specs.Cmp.{IsTotalOrder}
use Rattle.std.proofs.lemmas.Cmp.{tied_itself}
use Rattle.hs_scheme.specs.flow.Flow.{IsAscending}
use Rattle.hs_scheme.proofs.Lists.{none_in, here, later, uncons}
use Rattle.hs_table.specs.Types.{TypeTree, type_cmp, IsSet}
use Rattle.hs_table.specs.Entries.{Env, IsEnv, Has, set_at}
use Rattle.hs_table_laws.proofs.Places.{pairs_tail, pairs_head, pairs_cons}
use Rattle.hs_table_laws.proofs.Orders.{type_cmp_total, type_same}

module _ {X : Type 0} (R : X → X → Ordering) (total : IsTotalOrder R) (same : (a b : X) → R a b ≡ Equal → a ≡ b) where
  below : (x y : X) (xs : List X) → IsAscending R (x ∷ xs) → Contains xs y → R x y ≡ Less
  below x y xs h c = pairs_head (λ a b. R a b ≡ Less) x y xs h c

  not_itself : (x : X) → R x x ≡ Less → ⊥
  not_itself x e = let f : Less ≡ Equal = sym e ∙ tied_itself total x in cc

  not_both : (x y : X) → R x y ≡ Less → R y x ≡ Less → ⊥
  not_both x y e f = let g : Less ≡ Greater = sym e ∙ (total.antisymm x y ∙ ap ordering_reverse f) in cc

  -- the first of a list isn't before the first of one that has it
  not_before : (x y : X) (xs ys : List X) → IsAscending R (y ∷ ys) → Contains (y ∷ ys) x → R x y ≡ Less → ⊥
  not_before x y xs ys up c e = elim (uncons y x ys c) [
    | inl is ↦ not_itself y (subst (λ z. R z y ≡ Less) is e)
    | inr there ↦ not_both x y e (below y x ys up there)
  ]

  pub ascending_same : (xs ys : List X) → IsAscending R xs → IsAscending R ys → ((a : X) → Contains xs a ↔ Contains ys a) → xs ≡ ys
  ascending_same [] [] ux uy eq = refl
  ascending_same [] (y ∷ ys) ux uy eq = absurd (none_in y ((eq y).1 (here y ys)))
  ascending_same (x ∷ xs) [] ux uy eq = absurd (none_in x ((eq x).0 (here x xs)))
  ascending_same (x ∷ xs) (y ∷ ys) ux uy eq =
      let is = first (R x y) refl in
      λ i. is i ∷ ascending_same xs ys (pairs_tail (λ a b. R a b ≡ Less) x xs ux) (pairs_tail (λ a b. R a b ≡ Less) y ys uy) (λ a. (
        λ c. rest x y a xs ys is ux ((eq a).0 (later x a xs c)) c,
        λ c. rest y x a ys xs (sym is) uy ((eq a).1 (later y a ys c)) c,
      )) i
    where
      first : (o : Ordering) → R x y ≡ o → x ≡ y
      first Less e = absurd (not_before x y xs ys uy ((eq x).0 (here x xs)) e)
      first Equal e = same x y e
      first Greater e = absurd (not_before y x ys xs ux ((eq y).1 (here y ys)) (total.antisymm y x ∙ ap ordering_reverse e))

      rest : (x y a : X) (xs ys : List X) → x ≡ y → IsAscending R (x ∷ xs) → Contains (y ∷ ys) a → Contains xs a → Contains ys a
      rest x y a xs ys is up c d = elim (uncons y a ys c) [
        | inl e ↦ absurd (not_itself x (subst (λ z. R x z ≡ Less) (e ∙ sym is) (below x a xs up d)))
        | inr there ↦ there
      ]

pub sets_same : (s r : List TypeTree) → IsSet s → IsSet r → ((a : TypeTree) → Contains s a ↔ Contains r a) → s ≡ r
sets_same = ascending_same type_cmp type_cmp_total type_same

pub envs_same : (n : ℕ) (e f : Env) → IsEnv n e → IsEnv n f → ((j : ℕ) (a : TypeTree) → j < n → Has e j a ↔ Has f j a) → e ≡ f
envs_same n e f x y eq = go e f (x.long ∙ sym y.long) (λ j h. sets_same (set_at e j) (set_at f j) (x.sets j) (y.sets j) (λ a. eq j a (omega (arith, h, x.long))))
  where
    go : (e f : Env) → length e ≡ length f → ((j : ℕ) → j < length e → set_at e j ≡ set_at f j) → e ≡ f
    go [] [] l h = refl
    go [] (r ∷ f) l h = absurd (omega arith)
    go (s ∷ e) [] l h = absurd (omega arith)
    go (s ∷ e) (r ∷ f) l h = λ i. h 0 (omega arith) i ∷ go e f (omega arith) (λ j k. h (suc j) (omega arith)) i

-- one type more
abbrev pub beside : Ordering → TypeTree → TypeTree → List TypeTree → List TypeTree → List TypeTree
beside Less a b s r = a ∷ b ∷ s
beside Equal a b s r = b ∷ s
beside Greater a b s r = b ∷ r

abbrev pub insert : TypeTree → List TypeTree → List TypeTree
insert a [] = a ∷ []
insert a (b ∷ s) = beside (type_cmp a b) a b s (insert a s)

abbrev pub set_of : List TypeTree → List TypeTree
set_of [] = []
set_of (a ∷ s) = insert a (set_of s)

pub insert_only : (a x : TypeTree) (s : List TypeTree) → Contains (insert a s) x → (x ≡ a) ⊎ Contains s x
insert_only a x [] h = uncons a x [] h
insert_only a x (b ∷ s) h = elim (type_cmp a b) as (λ o. Contains (beside o a b s (insert a s)) x → (x ≡ a) ⊎ Contains (b ∷ s) x) [
  | Less ↦ λ k. uncons a x (b ∷ s) k
  | Equal ↦ λ k. inr k
  | Greater ↦ λ k. elim (uncons b x (insert a s) k) [
    | inl e ↦ inr (subst (λ (y : TypeTree). Contains (b ∷ s) y) (sym e) (here b s))
    | inr c ↦ elim (insert_only a x s c) [
      | inl e ↦ inl e
      | inr d ↦ inr (later b x s d)
    ]
  ]
] h

pub insert_old : (a x : TypeTree) (s : List TypeTree) → Contains s x → Contains (insert a s) x
insert_old a x [] h = later a x [] h
insert_old a x (b ∷ s) h = elim (type_cmp a b) as (λ o. Contains (beside o a b s (insert a s)) x) [
  | Less ↦ later a x (b ∷ s) h
  | Equal ↦ h
  | Greater ↦ elim (uncons b x s h) [
    | inl e ↦ subst (λ (y : TypeTree). Contains (b ∷ insert a s) y) (sym e) (here b (insert a s))
    | inr c ↦ later b x (insert a s) (insert_old a x s c)
  ]
]

pub insert_own : (a : TypeTree) (s : List TypeTree) → Contains (insert a s) a
insert_own a [] = here a []
insert_own a (b ∷ s) = elim (type_cmp a b) as (λ o. type_cmp a b ≡ o → Contains (beside o a b s (insert a s)) a) [
  | Less ↦ λ e. here a (b ∷ s)
  | Equal ↦ λ e. subst (λ (y : TypeTree). Contains (b ∷ s) y) (sym (type_same a b e)) (here b s)
  | Greater ↦ λ e. later b a (insert a s) (insert_own a s)
] refl

set_cons : (a : TypeTree) (s : List TypeTree) → ((b : TypeTree) → Contains s b → type_cmp a b ≡ Less) → IsSet s → IsSet (a ∷ s)
set_cons a s f h = pairs_cons (λ x y. type_cmp x y ≡ Less) a s f h

pub no_set : IsSet []
no_set i j d lt h = absurd (omega arith)

pub one_set : (a : TypeTree) → IsSet (a ∷ [])
one_set a i j d lt h = absurd (omega arith)

pub insert_set : (a : TypeTree) (s : List TypeTree) → IsSet s → IsSet (insert a s)
insert_set a [] h = one_set a
insert_set a (b ∷ s) h = elim (type_cmp a b) as (λ o. type_cmp a b ≡ o → IsSet (beside o a b s (insert a s))) [
  | Less ↦ λ e. set_cons a (b ∷ s) (λ c k. elim (uncons b c s k) [
    | inl f ↦ subst (λ (y : TypeTree). type_cmp a y ≡ Less) (sym f) e
    | inr m ↦ type_cmp_total.trans a b c e (pairs_head (λ x y. type_cmp x y ≡ Less) b c s h m)
  ]) h
  | Equal ↦ λ e. h
  | Greater ↦ λ e. set_cons b (insert a s) (λ c k. elim (insert_only a c s k) [
    | inl f ↦ subst (λ (y : TypeTree). type_cmp b y ≡ Less) (sym f) (type_cmp_total.antisymm b a ∙ ap ordering_reverse e)
    | inr m ↦ pairs_head (λ x y. type_cmp x y ≡ Less) b c s h m
  ]) (insert_set a s (pairs_tail (λ x y. type_cmp x y ≡ Less) b s h))
] refl

pub set_of-IsSet : (s : List TypeTree) → IsSet (set_of s)
set_of-IsSet [] = no_set
set_of-IsSet (a ∷ s) = insert_set a (set_of s) (set_of-IsSet s)

set_of_only : (s : List TypeTree) (x : TypeTree) → Contains (set_of s) x → Contains s x
set_of_only [] x h = h
set_of_only (a ∷ s) x h = elim (insert_only a x (set_of s) h) [
  | inl e ↦ subst (λ (y : TypeTree). Contains (a ∷ s) y) (sym e) (here a s)
  | inr k ↦ later a x s (set_of_only s x k)
]

set_of_all : (s : List TypeTree) (x : TypeTree) → Contains s x → Contains (set_of s) x
set_of_all [] x h = h
set_of_all (a ∷ s) x h = elim (uncons a x s h) [
  | inl e ↦ subst (λ (y : TypeTree). Contains (insert a (set_of s)) y) (sym e) (insert_own a (set_of s))
  | inr k ↦ insert_old a x (set_of s) (set_of_all s x k)
]

pub set_of-Contains : (s : List TypeTree) (x : TypeTree) → Contains (set_of s) x ↔ Contains s x
set_of-Contains s x = (set_of_only s x, set_of_all s x)
