-- Masks of sites that are put together.
use Rattle.std.proofs.Common.{◌≡◌, refl, sym, ◌∙◌, ap, subst, ℕ, zero, suc, ◌+◌, ◌<◌, ◌≤◌, Bool, List, [], ◌∷◌, ◌++◌, length, map, get_or, take, slice_get, Option, Some, Contains, IsTrue, ◌⊎◌, ◌↔◌, inl, inr, arith}
use Rattle.std.proofs.lemmas.List.{take_all, length-map, get_or_default}
use Rattle.hs_choices.proofs.Choosing.{map_read}
use Rattle.std.proofs.lemmas.Option.{slice_get_within, slice_get_past, get_or_from_slice_get}
use Rattle.std.specs.Option.{option_map_or}
use Rattle.hs_scheme.specs.declared.term.Rule.{Rule}
use Rattle.hs_sites.specs.Walks.{EachChainHas, IsMarked}
use Rattle.hs_sites.proofs.Walking.{each_chain_by}
use Rattle.std.proofs.lemmas.List.Elements.{Contains-append_left, Contains-append_right}
use Rattle.hs_scheme.specs.Problem.{ProblemData}
use Rattle.hs_scheme.proofs.Lists.{none_in, here}
use Rattle.hs_table.specs.Types.{TypeTree}
use Rattle.hs_table.specs.Entries.{Env, set_at, params_of}
use Rattle.hs_table_laws.proofs.Members.{taken_next, pushed_cases}
use Rattle.hs_types.specs.Interned.{InternerData, RowData}
use Rattle.hs_weak.specs.Sites.{SiteData}
use Rattle.hs_sites.specs.declared.sites.Site.{Site}
use Rattle.hs_sites.specs.Listed.{data_of, AreSitesOf}
use Rattle.hs_sites.specs.Reaching.{IsOn}
use Rattle.hs_void.specs.Rows.{LacksAt, AreMarks, LacksOne, MissesByRows}

-- ---- marks that are put together

same_or_not : (k i : ℕ) → (k ≡ i) ⊎ (k ≡ i → ⊥)
same_or_not zero zero = inl refl
same_or_not zero (suc i) = inr (λ e. omega (arith, e))
same_or_not (suc k) zero = inr (λ e. omega (arith, e))
same_or_not (suc k) (suc i) = elim (same_or_not k i) [ inl e ↦ inl (ap suc e) | inr not ↦ inr (λ e. not (omega (arith, e))) ]

-- the marks are the old ones, and those of the others at the first n places
pub record AreJoined (n : ℕ) (old others marks : List Bool) : Type 0 where
  pub len : length marks ≡ length old
  pub each : (k : ℕ) → k < length old → IsOn marks k ↔ (IsOn old k ⊎ ((k < n) × IsOn others k))

-- ---- masks of sites

-- by marks of which P holds
pub joined_by : (P : SiteData → Type 0) (sites : List Site) (old others new : List Bool) → length old ≡ length sites → ((k : ℕ) → k < length old → IsOn new k ↔ (IsOn old k ⊎ IsOn others k)) → AreMarks P sites others
    → (k : ℕ) (x : Site) → slice_get sites k ≡ Some x → IsOn new k ↔ (IsOn old k ⊎ P (data_of x))
joined_by P sites old others new len joined are k x at =
    let e = joined k (omega (arith, len, slice_get_within sites k x at)) in
    let a = are k x at in (
      λ m. elim (e.0 m) [ inl was ↦ inl was | inr on ↦ inr (a.0 on) ],
      λ h. e.1 (elim h [ inl was ↦ inl was | inr p ↦ inr (a.1 p) ]),
    )

module _ (p : ProblemData) (I : InternerData) (table : List RowData) where
  -- a type more of a set
  module _ (j : ℕ) (types : List TypeTree) (i : ℕ) (t : TypeTree) (at : slice_get types i ≡ Some t) (s : SiteData) where
    next : take (i + 1) types ≡ take i types ++ t ∷ []
    next = taken_next types i t (slice_get_within types i t at) (sym (get_or_from_slice_get types i t t at))

    pub lacks_more : LacksOne p I table j (take (i + 1) types) s → LacksOne p I table j (take i types) s ⊎ LacksAt p I table j t s
    lacks_more h = elim (pushed_cases (take i types) t h.0 (subst (λ (ts : List TypeTree). Contains ts h.0) next h.1.0)) [
      | inl was ↦ inl (h.0, (was, h.1.1))
      | inr same ↦ inr (subst (λ (a : TypeTree). LacksAt p I table j a s) same h.1.1)
    ]

    pub lacks_before : LacksOne p I table j (take i types) s → LacksOne p I table j (take (i + 1) types) s
    lacks_before h = (h.0, (subst (λ (ts : List TypeTree). Contains ts h.0) (sym next) (Contains-append_left (take i types) (t ∷ []) h.0 h.1.0), h.1.1))

    pub lacks_last : LacksAt p I table j t s → LacksOne p I table j (take (i + 1) types) s
    lacks_last h = (t, (subst (λ (ts : List TypeTree). Contains ts t) (sym next) (Contains-append_right (take i types) (t ∷ []) t (here t [])), h))

  pub set_more : (j : ℕ) (types : List TypeTree) (i : ℕ) (t : TypeTree) → slice_get types i ≡ Some t → (s : SiteData) (O M N : Type 0) → M ↔ (O ⊎ LacksOne p I table j (take i types) s) → N ↔ (M ⊎ LacksAt p I table j t s) → N ↔ (O ⊎ LacksOne p I table j (take (i + 1) types) s)
  set_more j types i t at s O M N before one = (
    λ n. elim (one.0 n) [
      | inl m ↦ elim (before.0 m) [ inl o ↦ inl o | inr h ↦ inr (lacks_before j types i t at s h) ]
      | inr h ↦ inr (lacks_last j types i t at s h)
    ],
    λ h. elim h [
      | inl o ↦ one.1 (inl (before.1 (inl o)))
      | inr k ↦ elim (lacks_more j types i t at s k) [ inl was ↦ one.1 (inl (before.1 (inr was))) | inr own ↦ one.1 (inr own) ]
    ],
  )

  pub set_begun : (j : ℕ) (types : List TypeTree) (s : SiteData) (O : Type 0) → O ↔ (O ⊎ LacksOne p I table j (take 0 types) s)
  set_begun j types s O = (λ o. inl o, λ h. elim h [ inl o ↦ o | inr k ↦ absurd (none_in k.0 k.1.0) ])

  pub set_done : (j : ℕ) (types : List TypeTree) (i : ℕ) → length types ≤ i → (s : SiteData) (O N : Type 0) → N ↔ (O ⊎ LacksOne p I table j (take i types) s) → N ↔ (O ⊎ LacksOne p I table j types s)
  set_done j types i past s O N h = subst (λ (ts : List TypeTree). N ↔ (O ⊎ LacksOne p I table j ts s)) (take_all i types past) h

  -- at the parameters below n
  abbrev pub MissesBelow : ℕ → Env → SiteData → Type 0
  MissesBelow n E s = (j : ℕ) × ((j < n) × LacksOne p I table j (set_at E j) s)

  pub misses_more : (n : ℕ) (E : Env) (s : SiteData) → MissesBelow (n + 1) E s → MissesBelow n E s ⊎ LacksOne p I table n (set_at E n) s
  misses_more n E s h = elim (same_or_not h.0 n) [
    | inl same ↦ inr (subst (λ j. LacksOne p I table j (set_at E j) s) same h.1.1)
    | inr not ↦ inl (h.0, (omega (arith, h.1.0, not), h.1.1))
  ]

  pub misses_before : (n : ℕ) (E : Env) (s : SiteData) → MissesBelow n E s → MissesBelow (n + 1) E s
  misses_before n E s h = (h.0, (omega (arith, h.1.0), h.1.1))

  pub misses_last : (n : ℕ) (E : Env) (s : SiteData) → LacksOne p I table n (set_at E n) s → MissesBelow (n + 1) E s
  misses_last n E s h = (n, (omega arith, h))

  pub parameter_more : (n : ℕ) (E : Env) (s : SiteData) (M N : Type 0) → M ↔ MissesBelow n E s → N ↔ (M ⊎ LacksOne p I table n (set_at E n) s) → N ↔ MissesBelow (n + 1) E s
  parameter_more n E s M N before one = (
    λ k. elim (one.0 k) [ inl m ↦ misses_before n E s (before.0 m) | inr h ↦ misses_last n E s h ],
    λ h. one.1 (elim (misses_more n E s h) [ inl was ↦ inl (before.1 was) | inr own ↦ inr own ]),
  )

  -- past the last set nothing is asked
  past_set : (E : Env) (j : ℕ) → length E ≤ j → (t : TypeTree) → Contains (set_at E j) t → ⊥
  past_set [] j past t m = none_in t m
  past_set (s ∷ E) zero past t m = omega (arith, past)
  past_set (s ∷ E) (suc j) past t m = past_set E j (omega (arith, past)) t m

  within_or_not : (j n : ℕ) → (j < n) ⊎ (n ≤ j)
  within_or_not zero zero = inr (omega arith)
  within_or_not zero (suc n) = inl (omega arith)
  within_or_not (suc j) zero = inr (omega arith)
  within_or_not (suc j) (suc n) = elim (within_or_not j n) [ inl lt ↦ inl (omega (arith, lt)) | inr le ↦ inr (omega (arith, le)) ]

  pub misses_all : (E : Env) (n : ℕ) (s : SiteData) → length E ≤ n → MissesBelow n E s ↔ MissesByRows p I table E s
  misses_all E n s all = (
    λ h. (h.0, h.1.1),
    λ h. elim (within_or_not h.0 (length E)) [
      | inl lt ↦ (h.0, (omega (arith, lt, all), h.1))
      | inr past ↦ absurd (past_set E h.0 past h.1.0 h.1.1.0)
    ],
  )

-- where there is no such rule, the empty chain has no site
pub no_rule : (p : ProblemData) (G : ℕ) → length p.sorted.scheme.rules ≤ G → (P : SiteData → Type 0) → EachChainHas p G P → ⊥
no_rule p G past P each =
    let none : params_of p G ≡ 0 = ap (λ (o : Option Rule). option_map_or (λ (r : Rule). r.params) o 0) (slice_get_past p.sorted.scheme.rules G past) in
    let s = each [] (sym none) in
    none_in s.0 s.1.0

-- the marks tell of each chain
pub chains_by : (p q : ProblemData) → q ≡ p → (G : ℕ) (sites : List Site) → AreSitesOf p G sites → (P : SiteData → Type 0) (marks slice : List Bool) → AreMarks P sites marks → slice ≡ marks → (all : Bool) → (IsTrue all ↔ EachChainHas q G (IsMarked G sites slice)) → IsTrue all ↔ EachChainHas p G P
chains_by p q same G sites are P marks slice told slice_is all tells =
    let told_slice : AreMarks P sites slice = subst (λ (ms : List Bool). AreMarks P sites ms) (sym slice_is) told in
    let by_marks = each_chain_by p G sites are slice P told_slice in
    let own = subst (λ (r : ProblemData). IsTrue all ↔ EachChainHas r G (IsMarked G sites slice)) same tells in
    (λ yes. by_marks.0 (own.0 yes), λ each. own.1 (by_marks.1 each))

-- a set of an environment, by its number
pub set_read : (f : ℕ → List TypeTree) (xs : List ℕ) (E : Env) → map f xs ≡ E → (n x : ℕ) → n < length xs → x ≡ get_or xs n x → f x ≡ set_at E n
set_read f xs E is n x lt at =
    let within : n < length (map f xs) = omega (arith, lt, length-map xs f) in
    map_read f xs n x lt at ∙ (get_or_default (map f xs) n (f x) [] within ∙ ap (λ (ss : Env). set_at ss n) is)
