-- Rows at the arguments of sites, and marks that are made one by one.
use Rattle.std.proofs.Common.{◌≡◌, refl, sym, ◌∙◌, ap, subst, ℕ, zero, suc, ◌+◌, ◌<◌, ◌≤◌, Bool, true, false, not, IsTrue, List, [], ◌∷◌, ◌++◌, length, get_or, take, slice_get, Option, Some, None, Contains, ◌⊎◌, ◌↔◌, inl, inr, arith}
use Rattle.std.proofs.lemmas.List.{take_all}
use Rattle.std.proofs.lemmas.Option.{slice_get_within, same_Some}
use Rattle.hs_scheme.specs.Problem.{ProblemData}
use Rattle.hs_scheme.proofs.Lists.{none_in}
use Rattle.hs_table.specs.Types.{TypeTree}
use Rattle.hs_table_laws.proofs.Members.{taken_next, pushed_cases}
use Rattle.hs_types.specs.Interned.{InternerData, type_of_id, RowData}
use Rattle.hs_weak.specs.Strength.{AsStrongAs}
use Rattle.hs_weak.specs.Sites.{SiteData, GivesTo}
use Rattle.hs_sites.specs.declared.sites.Site.{Site}
use Rattle.hs_sites.specs.Listed.{data_of}
use Rattle.hs_sites.specs.Reaching.{IsOn}
use Rattle.hs_choices.specs.Numbered.{AreAtPoint}
use Rattle.hs_void.specs.Rows.{HasRow, LacksAt, AreMarks}

-- ---- rows

abbrev pub SomeStrong : InternerData → List RowData → TypeTree → Type 0
SomeStrong I rows t = (row : RowData) × (Contains rows row × AsStrongAs (type_of_id I row.ty) t)

module _ (I : InternerData) (rows : List RowData) (t : TypeTree) (i : ℕ) (row : RowData) (lt : i < length rows) (is : row ≡ get_or rows i row) where
  pub found_strong : AsStrongAs (type_of_id I row.ty) t → IsTrue true ↔ SomeStrong I rows t
  found_strong strong = (λ yes. (row, ((i, lt, sym is), strong)), λ h. refl)

  pub none_more : (SomeStrong I (take i rows) t → ⊥) → (AsStrongAs (type_of_id I row.ty) t → ⊥) → SomeStrong I (take (i + 1) rows) t → ⊥
  none_more none weak h = elim (pushed_cases (take i rows) row h.0 (subst (λ (rs : List RowData). Contains rs h.0) (taken_next rows i row lt is) h.1.0)) [
    | inl was ↦ none (h.0, (was, h.1.1))
    | inr same ↦ weak (subst (λ (r : RowData). AsStrongAs (type_of_id I r.ty) t) same h.1.1)
  ]

pub none_strong : (I : InternerData) (rows : List RowData) (t : TypeTree) → SomeStrong I (take 0 rows) t → ⊥
none_strong I rows t h = none_in h.0 h.1.0

pub none_of_all : (I : InternerData) (rows : List RowData) (t : TypeTree) (i : ℕ) → length rows ≤ i → (SomeStrong I (take i rows) t → ⊥) → IsTrue false ↔ SomeStrong I rows t
none_of_all I rows t i past none = (
  λ no. let f : false ≡ true = no in cc,
  λ h. absurd (none (h.0, (subst (λ (rs : List RowData). Contains rs h.0) (sym (take_all i rows past)) h.1.0, h.1.1))),
)

module _ (p : ProblemData) (I : InternerData) (table : List RowData) (j : ℕ) (t : TypeTree) (s : SiteData) where
  pub lacks_nothing : ((u : ℕ) → (let o : Option ℕ = None in o ≡ Some u) ↔ GivesTo p s j u) → IsTrue false ↔ LacksAt p I table j t s
  lacks_nothing none = (λ no. let f : false ≡ true = no in cc, λ h. let e = (none h.u).1 h.gives in absurd (cc))

  pub lacks_by : (arg : ℕ) → ((u : ℕ) → Some arg ≡ Some u ↔ GivesTo p s j u) → (rows : List RowData) → AreAtPoint table arg rows → (has : Bool) → (IsTrue has ↔ SomeStrong I rows t) → IsTrue (not has) ↔ LacksAt p I table j t s
  lacks_by arg gives rows at has tells = by has tells
    where
      row_of : HasRow I table arg t → SomeStrong I rows t
      row_of h = (h.0, ((at h.0).1 (h.1.0, h.1.1), h.1.2))

      by : (has : Bool) → (IsTrue has ↔ SomeStrong I rows t) → IsTrue (not has) ↔ LacksAt p I table j t s
      by true tells = (
        λ no. let f : false ≡ true = no in cc,
        λ h. let one = tells.0 refl in
            let is : arg ≡ h.u = same_Some arg h.u ((gives h.u).1 h.gives) in
            let own = (at one.0).0 one.1.0 in
            absurd (h.lacks (one.0, (own.0, own.1 ∙ is, one.1.1))),
      )
      by false tells = (
        λ yes. record { u = arg; gives = (gives arg).0 refl; lacks = λ h. let e = tells.1 (row_of h) in let f : false ≡ true = e in cc },
        λ h. refl,
      )

-- ---- marks

front_get : {X : Type 0} (xs ys : List X) (k : ℕ) → k < length xs → slice_get (xs ++ ys) k ≡ slice_get xs k
front_get [] ys k lt = absurd (omega (arith, lt))
front_get (x ∷ xs) ys zero lt = refl
front_get (x ∷ xs) ys (suc k) lt = front_get xs ys k (omega (arith, lt))

last_get : {X : Type 0} (xs : List X) (x : X) → slice_get (xs ++ x ∷ []) (length xs) ≡ Some x
last_get [] x = refl
last_get (y ∷ xs) x = last_get xs x

-- one mark more
pub marked_more : (P : SiteData → Type 0) (sites : List Site) (i : ℕ) (x : Site) → slice_get sites i ≡ Some x → (b : Bool) → (IsTrue b ↔ P (data_of x)) → (marks after : List Bool) → after ≡ marks ++ b ∷ [] → length marks ≡ i
    → ((k : ℕ) (y : Site) → k < i → slice_get sites k ≡ Some y → IsOn marks k ↔ P (data_of y)) → (k : ℕ) (y : Site) → k < i + 1 → slice_get sites k ≡ Some y → IsOn after k ↔ P (data_of y)
marked_more P sites i x there b tells marks after made long so_far k y lt at = elim (before_or_at k i (omega (arith, lt))) [
  | inl less ↦
      let same : slice_get after k ≡ slice_get marks k = ap (λ (ms : List Bool). slice_get ms k) made ∙ front_get marks (b ∷ []) k (omega (arith, less, long)) in
      let is = so_far k y less at in
      (λ on. is.0 (sym same ∙ on), λ h. same ∙ is.1 h)
  | inr e ↦
      let own : x ≡ y = same_Some x y (sym there ∙ (ap (λ n. slice_get sites n) (sym e) ∙ at)) in
      let last : slice_get after k ≡ Some b = ap (λ (ms : List Bool). slice_get ms k) made ∙ (ap (λ n. slice_get (marks ++ b ∷ []) n) (e ∙ sym long) ∙ last_get marks b) in (
        λ on. subst (λ (z : Site). P (data_of z)) own (tells.0 (same_Some b true (sym last ∙ on))),
        λ h. last ∙ ap (λ (z : Bool). Some z) (tells.1 (subst (λ (z : Site). P (data_of z)) (sym own) h)),
      )
]
  where
    before_or_at : (k i : ℕ) → k ≤ i → (k < i) ⊎ (k ≡ i)
    before_or_at zero zero le = inr refl
    before_or_at zero (suc i) le = inl (omega arith)
    before_or_at (suc k) zero le = absurd (omega (arith, le))
    before_or_at (suc k) (suc i) le = elim (before_or_at k i (omega (arith, le))) [ inl lt ↦ inl (omega (arith, lt)) | inr e ↦ inr (ap suc e) ]

pub marked_all : (P : SiteData → Type 0) (sites : List Site) (marks : List Bool) (i : ℕ) → length sites ≤ i → ((k : ℕ) (y : Site) → k < i → slice_get sites k ≡ Some y → IsOn marks k ↔ P (data_of y)) → AreMarks P sites marks
marked_all P sites marks i past so_far k y at = so_far k y (omega (arith, past, slice_get_within sites k y at)) at
