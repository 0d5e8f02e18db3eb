-- What a walk comes to, and what it tells of chains.
--     each_chain_by    what is marked is what P holds of: then each chain has a marked site where each has one of which P holds
use Rattle.std.proofs.Common.{◌≡◌, refl, sym, ◌∙◌, ap, subst, ℕ, zero, suc, ◌+◌, ◌<◌, ◌≤◌, Bool, true, false, not, List, [], ◌∷◌, length, get_or, slice_get, Option, Some, None, arith, Contains, IsTrue, ◌⊎◌, inl, inr, ◌↔◌}
use Rattle.std.proofs.Math.Nat.{eq-or-lt_of_le}
use Rattle.std.proofs.lemmas.Bool.{cases_lt}
use Rattle.std.proofs.lemmas.Option.{slice_get-get_or, same_Some, get_or_from_slice_get}
use Rattle.hs_scheme.specs.declared.term.Head.TheVariants.{Tm}
use Rattle.hs_scheme.specs.flow.Points.{PointData, point_at}
use Rattle.hs_scheme.specs.Problem.{ProblemData}
use Rattle.hs_scheme.proofs.Lists.{none_in, here, later, uncons, Contains-at, read-slice_get}
use Rattle.hs_table.specs.Entries.{params_of}
use Rattle.hs_table_laws.proofs.Places.{place_of, within_from}
use Rattle.hs_weak.specs.Sites.{SiteData, IsSite, IsChainFrom}
use Rattle.hs_sites.specs.declared.sites.Site.{Site}
use Rattle.hs_sites.specs.Listed.{AreSitesOf, IsOwnSite, data_of}
use Rattle.hs_sites.specs.Walks.{EachChainHas, IsMarked}
use Rattle.hs_sites.specs.Reaching.{IsOn, GoesOn, IsReached, IsWalk, width}

-- the site, as one of the nonterminal
abbrev of_nonterminal : ℕ → SiteData → Site
of_nonterminal G s = record { nonterminal = G; given = s.given; point = s.point }

-- ---- the marks

is_on : (o : Option Bool) → (o ≡ Some true) ⊎ (o ≡ Some true → ⊥)
is_on None = inr (λ e. cc)
is_on (Some true) = inl refl
is_on (Some false) = inr (λ e. cc)

same_number : (m n : ℕ) → (m ≡ n) ⊎ (m ≡ n → ⊥)
same_number m n = elim (cases_lt m n) [
  | inl less ↦ inr (λ e. omega (arith, less, e))
  | inr more ↦ elim (eq-or-lt_of_le more) [ inl e ↦ inl (sym e) | inr above ↦ inr (λ e. omega (arith, above, e)) ]
]

same_site : (a b : Site) → (a ≡ b) ⊎ (a ≡ b → ⊥)
same_site a b = elim (same_number a.nonterminal b.nonterminal) [
  | inr not ↦ inr (λ e. not (ap (λ (s : Site). s.nonterminal) e))
  | inl n ↦ elim (same_number a.given b.given) [
    | inr not ↦ inr (λ e. not (ap (λ (s : Site). s.given) e))
    | inl g ↦ elim (same_number a.point b.point) [
      | inr not ↦ inr (λ e. not (ap (λ (s : Site). s.point) e))
      | inl q ↦ inl (λ i. record { nonterminal = n i; given = g i; point = q i })
    ]
  ]
]

module _ (sites : List Site) (marks : List Bool) (x : Site) where
  -- a place at which the site stands unmarked
  abbrev Unmarked : Type 0
  Unmarked = (k : ℕ) × ((slice_get sites k ≡ Some x) × (IsOn marks k → ⊥))

  at_place : (k : ℕ) → (slice_get sites k ≡ Some x → IsOn marks k) ⊎ Unmarked
  at_place k = elim (is_on (slice_get marks k)) [
    | inl on ↦ inl (λ at. on)
    | inr off ↦ elim (cases_lt k (length sites)) [
      | inr past ↦ inl (λ at. absurd (omega (arith, past, within_from sites k x at)))
      | inl within ↦
          let there = slice_get-get_or sites k x within in
          elim (same_site (get_or sites k x) x) [
            | inl e ↦ inr (k, (there ∙ ap (λ (s : Site). Some s) e, off))
            | inr other ↦ inl (λ at. absurd (other (same_Some (get_or sites k x) x (sym there ∙ at))))
          ]
    ]
  ]

  before : (n : ℕ) → ((k : ℕ) → k < n → slice_get sites k ≡ Some x → IsOn marks k) ⊎ Unmarked
  before zero = inl (λ k lt at. absurd (omega (arith, lt)))
  before (suc n) = elim (before n) [
    | inr one ↦ inr one
    | inl all ↦ elim (at_place n) [
      | inr one ↦ inr one
      | inl on ↦ inl (λ k lt at. elim (cases_lt k n) [
        | inl less ↦ all k less at
        | inr more ↦ let same : n ≡ k = omega (arith, lt, more) in subst (IsOn marks) same (on (subst (λ i. slice_get sites i ≡ Some x) (sym same) at))
      ])
    ]
  ]

  -- it is marked wherever it stands, or not
  marked_or_not : ((k : ℕ) → slice_get sites k ≡ Some x → IsOn marks k) ⊎ Unmarked
  marked_or_not = elim (before (length sites)) [
    | inl all ↦ inl (λ k at. all k (within_from sites k x at) at)
    | inr one ↦ inr one
  ]

-- ---- the sites of the nonterminal

module _ (p : ProblemData) (G : ℕ) (sites : List Site) (are : AreSitesOf p G sites) where
  -- a site that stands in the list
  own_site : (k : ℕ) (x : Site) → slice_get sites k ≡ Some x → (x.nonterminal ≡ G) × IsOwnSite p x
  own_site k x at = (are.exact x).0 (Contains-at sites k x at)

  -- as wide as its point has arguments
  wide : (x : Site) (of : PointData) → slice_get p.points.points x.point ≡ Some of → width p x ≡ length of.args
  wide x of at =
      let none : PointData = record { rule = 0; head = Tm 0; args = [] } in
      let read = slice_get-get_or p.points.points x.point none (within_from p.points.points x.point of at) in
      ap (λ (d : PointData). length d.args) (same_Some (point_at p.points x.point) of (sym read ∙ at))

  wide_some : (k : ℕ) (x : Site) → slice_get sites k ≡ Some x → 0 < width p x
  wide_some k x at = let own = (own_site k x at).1 in omega (arith, wide x own.0 own.1.at, own.1.some)

  -- a site of the nonterminal stands somewhere
  listed : (s : SiteData) (of : PointData) → IsSite p G s of → Contains sites (of_nonterminal G s)
  listed s of is = (are.exact (of_nonterminal G s)).1 (refl, (of, is))

  module _ (marks : List Bool) where
    abbrev Marked : SiteData → Type 0
    Marked = IsMarked G sites marks

    -- where the first parameter that an unmarked site gives is reached, so is that behind the last
    reached_more : (k : ℕ) (x : Site) → slice_get sites k ≡ Some x → (IsOn marks k → ⊥) → IsReached p G Marked x.given → IsReached p G Marked (x.given + width p x)
    reached_more k x at off reached each chain rest none =
        let own = own_site k x at in
        let of = own.1.0 in
        let site : IsSite p G (data_of x) of = subst (λ n. IsSite p n (data_of x) of) own.0 own.1.1 in
        let same : x ≡ of_nonterminal G (data_of x) = λ i. record { nonterminal = own.0 i; given = x.given; point = x.point } in
        let behind : IsChainFrom p G (x.given + length of.args) chain = subst (λ n. IsChainFrom p G (x.given + n) chain) (wide x of site.at) rest in
        reached each (data_of x ∷ chain) (refl, (of, (site, behind))) (λ s m holds. elim (uncons (data_of x) s chain m) [
          | inl e ↦ off (holds k (at ∙ ap (λ (y : Site). Some y) same ∙ ap (λ (t : SiteData). Some (of_nonterminal G t)) (sym e)))
          | inr later ↦ none s later holds
        ])

    -- before the first site
    pub walk_none : (reached : List Bool) → ((g : ℕ) → IsOn reached g → g ≡ 0) → IsWalk p G sites marks 0 reached
    walk_none reached first = record {
      sound = λ g on. subst (IsReached p G Marked) (sym (first g on)) (λ each chain is none. let s = each chain is in none s.0 s.1.0 s.1.1);
      closed = λ i s lt at off begun within. absurd (omega (arith, lt));
    }

    -- ---- one site more
    module _ (k : ℕ) (x : Site) (at : slice_get sites k ≡ Some x) (old : List Bool) (walk : IsWalk p G sites marks k old) where
      -- sites before it begin no later
      begins : (i : ℕ) (s : Site) → i ≤ k → slice_get sites i ≡ Some s → s.given ≤ x.given
      begins i s le at_s =
          let first = read-slice_get sites i s at_s in
          let last = read-slice_get sites k x at in
          let up = are.ascending i k x le last.0 in
          let e : get_or sites i x ≡ s = read_at sites i x s at_s in
          omega (arith, up, ap (λ (t : Site). t.given) e, ap (λ (t : Site). t.given) last.1)
        where
          read_at : (xs : List Site) (i : ℕ) (d s : Site) → slice_get xs i ≡ Some s → get_or xs i d ≡ s
          read_at xs i d s e = get_or_from_slice_get xs i s d e

      pub walk_past : IsOn marks k → IsWalk p G sites marks (k + 1) old
      walk_past on = record {
        sound = walk.sound;
        closed = λ i s lt at_s off begun within. elim (cases_lt i k) [
          | inl before ↦ walk.closed i s before at_s off begun within
          | inr after ↦ let same : k ≡ i = omega (arith, lt, after) in absurd (off (subst (IsOn marks) same on))
        ];
      }

      pub walk_on : (new : List Bool) → (IsOn marks k → ⊥) → GoesOn x.given (width p x) old new → IsWalk p G sites marks (k + 1) new
      walk_on new off goes = record {
        sound = λ g on. elim (goes.come g on) [
          | inl was ↦ walk.sound g was
          | inr by ↦ subst (IsReached p G Marked) (sym by.1) (reached_more k x at off (walk.sound x.given by.0))
        ];
        closed = λ i s lt at_s unmarked begun within.
            let le : i ≤ k = omega (arith, lt) in
            let no_later = begins i s le at_s in
            let was : IsOn old s.given = elim (goes.come s.given begun) [
              | inl was ↦ was
              | inr by ↦ absurd (omega (arith, no_later, by.1, wide_some k x at))
            ] in
            elim (cases_lt i k) [
              | inl before ↦ goes.kept (s.given + width p s) (walk.closed i s before at_s unmarked was (omega (arith, within, goes.len)))
              | inr after ↦
                  let same : x ≡ s = let e : k ≡ i = omega (arith, lt, after) in same_Some x s (sym at ∙ (ap (slice_get sites) e ∙ at_s)) in
                  subst (λ (t : Site). IsOn new (t.given + width p t)) same
                  (goes.there (subst (λ (t : Site). IsOn old t.given) (sym same) was) (subst (λ (t : Site). t.given + width p t < length old) (sym same) (omega (arith, within, goes.len))))
            ];
      }

    -- ---- at the end
    chain_within : (g : ℕ) (chain : List SiteData) → IsChainFrom p G g chain → g ≤ params_of p G
    chain_within g [] e = omega (arith, e)
    chain_within g (s ∷ chain) (given, (of, (site, rest))) = let r = chain_within (g + length of.args) chain rest in omega (arith, r)

    module _ (n : ℕ) (reached : List Bool) (walk : IsWalk p G sites marks n reached) (all : length sites ≤ n) (long : length reached ≡ params_of p G + 1) where
      along : (IsOn reached (params_of p G) → ⊥) → (g : ℕ) (chain : List SiteData) → IsOn reached g → IsChainFrom p G g chain → (s : SiteData) × (Contains chain s × Marked s)
      along never g [] on is = absurd (never (subst (IsOn reached) is on))
      along never g (s ∷ chain) on (given, (of, (site, rest))) = elim (marked_or_not sites marks (of_nonterminal G s)) [
        | inl marked ↦ (s, (here s chain, marked))
        | inr one ↦
            let k = one.0 in
            let w : s.given + width p (of_nonterminal G s) ≡ g + length of.args = (λ i. given i + wide (of_nonterminal G s) of site.at i) in
            let le = chain_within (g + length of.args) chain rest in
            let more = walk.closed k (of_nonterminal G s) (omega (arith, all, within_from sites k (of_nonterminal G s) one.1.0)) one.1.0 one.1.1 (subst (IsOn reached) (sym given) on) (omega (arith, w, le, long)) in
            let found = along never (g + length of.args) chain (subst (IsOn reached) w more) rest in
            (found.0, (later s found.0 chain found.1.0, found.1.1))
      ]

      pub answer : IsOn reached 0 → (last : Bool) → slice_get reached (params_of p G) ≡ Some last → IsTrue (not last) ↔ EachChainHas p G Marked
      answer start last at = (
        λ yes chain is. along (λ on. let e = same_Some last true (sym at ∙ on) in absurd (cc)) 0 chain start is,
        λ each. by each last at,
      )
        where
          by : EachChainHas p G Marked → (b : Bool) → slice_get reached (params_of p G) ≡ Some b → IsTrue (not b)
          by each false e = refl
          by each true e = absurd (walk.sound (params_of p G) e each [] refl (λ s m holds. none_in s m))

    -- what is marked is what P holds of
    pub each_chain_by : (P : SiteData → Type 0) → ((k : ℕ) (x : Site) → slice_get sites k ≡ Some x → IsOn marks k ↔ P (data_of x)) → EachChainHas p G Marked ↔ EachChainHas p G P
    each_chain_by P tells = (
      λ each chain is. let s = each chain is in
          let place = place_of sites (of_nonterminal G s.0) (in_list 0 chain is s.0 s.1.0) in
          (s.0, (s.1.0, (tells place.0 (of_nonterminal G s.0) place.1).0 (s.1.1 place.0 place.1))),
      λ each chain is. let s = each chain is in (s.0, (s.1.0, λ k at. (tells k (of_nonterminal G s.0) at).1 s.1.1)),
    )
      where
        in_list : (g : ℕ) (chain : List SiteData) → IsChainFrom p G g chain → (s : SiteData) → Contains chain s → Contains sites (of_nonterminal G s)
        in_list g [] is s m = absurd (none_in s m)
        in_list g (t ∷ chain) (given, (of, (site, rest))) s m = elim (uncons t s chain m) [
          | inl e ↦ subst (λ (u : SiteData). Contains sites (of_nonterminal G u)) (sym e) (listed t of site)
          | inr behind ↦ in_list (g + length of.args) chain rest s behind
        ]
