-- Lists that grow at their end, and what is read from them.
use Rattle.std.proofs.Common.{◌≡◌, refl, sym, ◌∙◌, ap, subst, ℕ, zero, suc, ◌+◌, ◌<◌, ◌≤◌, List, [], ◌∷◌, ◌++◌, length, map, get_or, slice_get, Some, arith, Contains, All, inl, inr, take, length-take, set, replicate}
use Rattle.std.proofs.lemmas.List.{get_or_append_left, length-map, map_more, take_all, map_push}
use Rattle.std.proofs.lemmas.Option.{get_or_from_slice_get, same_Some}
use Rattle.std.proofs.lemmas.List.Elements.{All-head, All-tail, All-weaker, All-push}
use Rattle.hs_scheme.proofs.Lists.{at_append, push_cases}
use Rattle.hs_table_laws.proofs.Places.{within_from}
use Rattle.hs_types.proofs.Numbers.{within_begun, same_begun}
use Rattle.hs_types.specs.Interned.{Begins, IsWithoutRepeats}
use Rattle.hs_types.specs.Nodes.{items_at, AllBelow}

pub Begins-push : {X : Type 0} (xs : List X) (y : X) → Begins xs (xs ++ y ∷ [])
Begins-push xs y = λ i x h. at_append xs (y ∷ []) i x h

-- a new item makes no second number
pub IsWithoutRepeats-push : {X : Type 0} (xs : List X) (y : X) → IsWithoutRepeats xs → (Contains xs y → ⊥) → IsWithoutRepeats (xs ++ y ∷ [])
IsWithoutRepeats-push xs y n fresh i j x h k = elim (push_cases xs y x i h) [
  | inl a ↦ elim (push_cases xs y x j k) [
    | inl b ↦ n i j x a b
    | inr (e, is) ↦ absurd (fresh (i, within_from xs i y (a ∙ ap (λ z. Some z) (sym is)), read xs i y (a ∙ ap (λ z. Some z) (sym is))))
  ]
  | inr (e, is) ↦ elim (push_cases xs y x j k) [
    | inl b ↦ absurd (fresh (j, within_from xs j y (b ∙ ap (λ z. Some z) (sym is)), read xs j y (b ∙ ap (λ z. Some z) (sym is))))
    | inr (f, is') ↦ e ∙ sym f
  ]
]
  where
    read : {X : Type 0} (xs : List X) (k : ℕ) (x : X) → slice_get xs k ≡ Some x → get_or xs k x ≡ x
    read [] k x e = absurd (cc)
    read (y ∷ ys) zero x e = same_Some y x e
    read (y ∷ ys) (suc k) x e = read ys k x e

-- what is read from a list stays where the list grows
pub items_at-append : {X : Type 0} (xs ys : List X) (d : X) (ids : List ℕ) → All (λ i. i < length xs) ids → items_at (xs ++ ys) d ids ≡ items_at xs d ids
items_at-append xs ys d [] h = refl
items_at-append xs ys d (i ∷ ids) h =
    let is = get_or_append_left xs ys d i (All-head (λ i. i < length xs) i ids h) in
    let rest = items_at-append xs ys d ids (All-tail (λ i. i < length xs) i ids h) in
    λ k. is k ∷ rest k

-- items that are read before and after
pub items_at-begun : {X : Type 0} (xs ys : List X) (d : X) (ids : List ℕ) → Begins xs ys → All (λ i. i < length xs) ids → items_at ys d ids ≡ items_at xs d ids
items_at-begun xs ys d [] g h = refl
items_at-begun xs ys d (i ∷ ids) g h =
    let is = same_begun xs ys d i g (All-head (λ i. i < length xs) i ids h) in
    let rest = items_at-begun xs ys d ids g (All-tail (λ i. i < length xs) i ids h) in
    λ k. is k ∷ rest k

pub all_at-append : {X : Type 0} (xs ys : List X) (d : X) (lists : List (List ℕ)) → AllBelow (length xs) lists → map (items_at (xs ++ ys) d) lists ≡ map (items_at xs d) lists
all_at-append xs ys d [] h = refl
all_at-append {X} xs ys d (ids ∷ lists) h =
    let P : List ℕ → Type 0 = λ ids. All (λ i. i < length xs) ids in
    let is = items_at-append xs ys d ids (All-head P ids lists h) in
    let rest = all_at-append xs ys d lists (All-tail P ids lists h) in
    λ k. is k ∷ rest k

pub AllBelow-more : (m n : ℕ) (lists : List (List ℕ)) → m ≤ n → AllBelow m lists → AllBelow n lists
AllBelow-more m n lists le h = All-weaker (λ (ids : List ℕ). All (λ i. i < m) ids) (λ (ids : List ℕ). All (λ i. i < n) ids)
    (λ ids k. All-weaker (λ i. i < m) (λ i. i < n) (λ i lt. omega arith) ids k) lists h

pub AllBelow-push : (n : ℕ) (lists : List (List ℕ)) (ids : List ℕ) → AllBelow n lists → All (λ i. i < n) ids → AllBelow n (lists ++ ids ∷ [])
AllBelow-push n lists ids h k = All-push (λ (ids : List ℕ). All (λ i. i < n) ids) lists ids h k

-- items that are told apart by their places: equal lists of items have equal lists of places
pub same_places : {X : Type 0} (xs : List X) (d : X) (is js : List ℕ) → ((i j : ℕ) → i < length xs → j < length xs → get_or xs i d ≡ get_or xs j d → i ≡ j)
    → All (λ i. i < length xs) is → All (λ i. i < length xs) js → items_at xs d is ≡ items_at xs d js → is ≡ js
same_places xs d [] [] one h k e = refl
same_places xs d [] (j ∷ js) one h k e = absurd (cc)
same_places xs d (i ∷ is) [] one h k e = absurd (cc)
same_places xs d (i ∷ is) (j ∷ js) one h k e =
    let P : ℕ → Type 0 = λ i. i < length xs in
    let first = one i j (All-head P i is h) (All-head P j js k) (head_same (get_or xs i d) (get_or xs j d) (items_at xs d is) (items_at xs d js) e) in
    let rest = same_places xs d is js one (All-tail P i is h) (All-tail P j js k) (tail_same (get_or xs i d) (get_or xs j d) (items_at xs d is) (items_at xs d js) e) in
    λ k. first k ∷ rest k
  where
    head_same : {X : Type 0} (x y : X) (xs ys : List X) → x ∷ xs ≡ y ∷ ys → x ≡ y
    head_same x y xs ys e = (cc)

    tail_same : {X : Type 0} (x y : X) (xs ys : List X) → x ∷ xs ≡ y ∷ ys → xs ≡ ys
    tail_same x y xs ys e = (cc)

-- one more number is known for what F gives of the places of ms
module _ {X : Type 0} (xs ys : List X) (d : X) (F : ℕ → X) (ids new ms : List ℕ) (k own m : ℕ) (g : Begins xs ys) (range : All (λ i. i < length xs) ids) (same : items_at xs d ids ≡ map F (take k ms))
    (at : slice_get ys own ≡ Some (F m)) (lt : k < length ms) (is : m ≡ get_or ms k m) (e : new ≡ ids ++ own ∷ []) where
  pub more_range : All (λ i. i < length ys) new
  more_range =
      let old = All-weaker (λ i. i < length xs) (λ i. i < length ys) (λ i h. within_begun xs ys d i g h) ids range in
      subst (λ (zs : List ℕ). All (λ i. i < length ys) zs) (sym e) (All-push (λ i. i < length ys) ids own old (within_from ys own (F m) at))

  pub more_same : items_at ys d new ≡ map F (take (k + 1) ms)
  more_same =
      ap (λ (zs : List ℕ). items_at ys d zs) e ∙ map_push (λ i. get_or ys i d) ids own
      ∙ (λ q. (items_at-begun xs ys d ids g range ∙ same) q ++ (read_own ∙ ap F is) q ∷ [])
      ∙ sym (map_more F ms k m lt)
    where
      read_own : get_or ys own d ≡ F m
      read_own = get_or_from_slice_get ys own (F m) d at

-- the same number over and over, and another at one place
pub map-replicate : {X Y : Type 0} (f : X → Y) (n : ℕ) (x : X) → map f (replicate n x) ≡ replicate n (f x)
map-replicate f zero x = refl
map-replicate f (suc n) x = ap (λ ys. f x ∷ ys) (map-replicate f n x)

pub map-set_at : {X Y : Type 0} (f : X → Y) (xs : List X) (i : ℕ) (x : X) → map f (set xs i x) ≡ set (map f xs) i (f x)
map-set_at f [] i x = refl
map-set_at f (y ∷ xs) zero x = refl
map-set_at f (y ∷ xs) (suc i) x = ap (λ ys. f y ∷ ys) (map-set_at f xs i x)

-- a list that is made item by item of what f gives at the items of another
pub made_more : {Y X : Type 0} (f : Y → X) (ids : List Y) (xs new : List X) (k : ℕ) (id : Y) (x : X) → xs ≡ map f (take k ids) → x ≡ f id → k < length ids → id ≡ get_or ids k id → new ≡ xs ++ x ∷ [] → new ≡ map f (take (k + 1) ids)
made_more f ids xs new k id x same is lt at e = e ∙ (λ i. same i ++ (is ∙ ap f at) i ∷ []) ∙ sym (map_more f ids k id lt)

pub made_all : {Y X : Type 0} (f : Y → X) (ids : List Y) (xs whole : List X) (k : ℕ) → xs ≡ map f (take k ids) → length ids ≤ k → map f ids ≡ whole → xs ≡ whole
made_all {Y} f ids xs whole k same past is = same ∙ ap (λ (js : List Y). map f js) (take_all k ids past) ∙ is

pub made_long : {Y X : Type 0} (f : Y → X) (ids : List Y) (xs : List X) (k : ℕ) → xs ≡ map f (take k ids) → length xs ≤ k
made_long f ids xs k same = omega (arith, ap length same, length-map (take k ids) f, length-take k ids)
