-- Places that are sorted by what stands there.
use Rattle.std.proofs.Common.{◌≡◌, ◌≢◌, sym, ◌∙◌, ap, subst, ℕ, zero, suc, ◌+◌, ◌<◌, List, [], ◌∷◌, ◌++◌, length, map, get_or, take, slice_get, Some, arith, All, AllPairs, Contains}
use Rattle.std.specs.List.{range_with_len}
use Rattle.std.specs.List.Sorted.{IsSorted, IsSortedBy, IsPermutation}
use Rattle.std.specs.Option.{option_cmp}
use Rattle.std.specs.Ordering.{is_lt}
use Rattle.std.specs.declared.cmp.Ordering.TheVariants.{Less, Equal}
use Rattle.std.proofs.lemmas.Cmp.{tied_itself}
use Rattle.std.proofs.lemmas.List.{append_assoc, get_or-map, get_or-take, get_or_default, length-append, length-map, length-take-le}
use Rattle.std.proofs.lemmas.List.FromFn.{get_or-range_with_len, length-range_with_len}
use Rattle.std.proofs.lemmas.List.Elements.{Contains-get_or}
use Rattle.std.proofs.lemmas.List.Sorted.{IsPermutation-map, IsPermutation-sym, Contains-permutation}
use Rattle.hs_scheme.specs.flow.Flow.{IsAscending}
use Rattle.hs_scheme.proofs.Lists.{slice_get-read}
use Rattle.hs_scheme.proofs.Orderings.{ascends}
use Rattle.hs_table.specs.declared.support.HeadBy.TheVariants.{Rule}
use Rattle.hs_table.specs.Entries.{EntryData, entry_cmp}
use Rattle.hs_table_laws.proofs.Orders.{entry_cmp_total, entry_same}
use Rattle.hs_types.specs.Interned.{InternerData, entry_of}
use Rattle.hs_rules.specs.Conclusions.{DeducedData}
use Rattle.hs_rank.specs.Ordering.{entries_of, found_at, picked, AreInOrder}

pub all_of : {X : Type 0} (P : X → Type 0) (xs : List X) (x : X) → All P xs → Contains xs x → P x
all_of P xs x all c = subst P c.2 (all c.0 x c.1)

pub images_twice : {X Y Z : Type 0} (f : X → Y) (g : Y → Z) (xs : List X) → map g (map f xs) ≡ map (λ x. g (f x)) xs
images_twice f g [] = λ i. []
images_twice f g (x ∷ xs) = ap (λ ys. g (f x) ∷ ys) (images_twice f g xs)

-- one number more
range_suc : (a n : ℕ) → range_with_len a (suc n) ≡ range_with_len a n ++ (a + n) ∷ []
range_suc a zero = let e : a ≡ a + 0 = omega arith in λ i. e i ∷ []
range_suc a (suc n) = let e : (a + 1) + n ≡ a + suc n = omega arith in ap (λ xs. a ∷ xs) (range_suc (a + 1) n ∙ ap (λ k. range_with_len (a + 1) n ++ k ∷ []) e)

pub range_more : (n : ℕ) → range_with_len 0 (n + 1) ≡ range_with_len 0 n ++ n ∷ []
range_more n =
    let e : n + 1 ≡ suc n = omega arith in
    let f : 0 + n ≡ n = omega arith in
    ap (range_with_len 0) e ∙ (range_suc 0 n ∙ ap (λ k. range_with_len 0 n ++ k ∷ []) f)

-- what stands behind a list
pub read_behind : {X : Type 0} (xs : List X) (y d : X) (ys : List X) → get_or (xs ++ y ∷ ys) (length xs) d ≡ y
read_behind [] y d ys = λ i. y
read_behind (x ∷ xs) y d ys = read_behind xs y d ys

-- what stands at a place
abbrev pub nth : List DeducedData → ℕ → DeducedData
nth found k = found_at found k

pub nth_there : (found : List DeducedData) (k : ℕ) → k < length found → slice_get found k ≡ Some (nth found k)
nth_there found k lt = slice_get-read found k (nth found k) lt (sym (get_or_default found k _ (nth found k) lt))

-- an entry of a round isn't among those before it
pub ascending_distinct : (ids : InternerData) (found : List DeducedData) (places : List ℕ) → AreInOrder ids found places → (n : ℕ) → n < length places
    → Contains (entries_of ids (picked found (take n places))) (entry_of ids (nth found (get_or places n 0)).row) → ⊥
ascending_distinct ids found places order n lt c =
    let f : ℕ → EntryData = λ k. entry_of ids (nth found k).row in
    let x = f (get_or places n 0) in
    let front = subst (λ es. Contains es x) (images_twice (nth found) (λ (d : DeducedData). entry_of ids d.row) (take n places)) c in
    let i = front.0 in
    let below : i < n = omega (arith, front.1, length-map (take n places) f, length-take-le n places (omega (arith, lt))) in
    let all = images_twice (nth found) (λ (d : DeducedData). entry_of ids d.row) places in
    let at : (k : ℕ) → k < length places → get_or (entries_of ids (picked found places)) k x ≡ f (get_or places k 0) = λ k h. (λ j. get_or (all j) k x) ∙ get_or-map f places k 0 x h in
    let less = order.ascending i n x below (omega (arith, lt, length-map places f, ap (λ (es : List EntryData). length es) all)) in
    let in_front : i < length (take n places) = omega (arith, front.1, length-map (take n places) f) in
    let same : f (get_or places i 0) ≡ x = ap f (sym (get_or-take n places i 0 below)) ∙ (sym (get_or-map f (take n places) i 0 x in_front) ∙ front.2) in
    let itself : entry_cmp x x ≡ Less = (λ j. entry_cmp (sym (at i (omega (arith, below, lt)) ∙ same) j) (sym (at n lt) j)) ∙ less in
    let bad : Equal ≡ Less = sym (tied_itself entry_cmp_total x) ∙ itself in
    cc
