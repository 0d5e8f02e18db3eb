-- What rows tell is what the entries do that they stand for.
use Rattle.std.proofs.Common.{◌≡◌, sym, ◌∙◌, subst, ap, ℕ, Bool, IsTrue, List, Contains, ◌⊎◌, ◌↔◌, inl, inr}
use Rattle.hs_scheme.specs.Problem.{ProblemData}
use Rattle.hs_table.specs.Types.{TypeTree}
use Rattle.hs_table.specs.Entries.{Env, EntryData}
use Rattle.hs_table_laws.proofs.Members.{from_map, into_map}
use Rattle.hs_weak.specs.Strength.{AsStrongAs, AsksAtLeast}
use Rattle.hs_weak.specs.Sites.{SiteData}
use Rattle.hs_weak.specs.Void.{HasEntry, Misses, IsMissed, VoidData, IsVoid}
use Rattle.hs_types.specs.Interned.{InternerData, env_of_id, RowData, entry_of}
use Rattle.hs_sites.specs.Walks.{EachChainHas}
use Rattle.hs_numbered.specs.Certificates.{VoidRowData, void_of}
use Rattle.hs_choices.specs.Numbered.{AreTableRows, AreNumbered}
use Rattle.hs_void.specs.Rows.{HasRow, MissesByRows}
use Rattle.hs_void.specs.Voids.{BasisData}

module _ (p : ProblemData) (C : List EntryData) (I : InternerData) (table : List RowData) (are : AreTableRows p C I table) where
  has_entry : (u : ℕ) (t : TypeTree) → HasRow I table u t → HasEntry p C u t
  has_entry u t h = let e = are.taken h.0 h.1.0 in (e.0, entry_of I h.0, (e.1, h.1.1, h.1.2))

  has_row : (u : ℕ) (t : TypeTree) → HasEntry p C u t → HasRow I table u t
  has_row u t h =
      let r = are.each h.0 h.1 h.2.0 in
      (r.0, (r.1.0, ap (λ (e : EntryData). e.point) r.1.1 ∙ h.2.1, subst (λ (a : TypeTree). AsStrongAs a t) (sym (ap (λ (e : EntryData). e.ty) r.1.1)) h.2.2))

  misses : (E : Env) (s : SiteData) → MissesByRows p I table E s → Misses p C s E
  misses E s h = record { j = h.0; u = h.1.1.1.u; t = h.1.0; gives = h.1.1.1.gives; asked = h.1.1.0; lacks = λ e. h.1.1.1.lacks (has_row h.1.1.1.u h.1.0 e) }

  misses_by_rows : (E : Env) (s : SiteData) → Misses p C s E → MissesByRows p I table E s
  misses_by_rows E s h = (h.j, (h.t, (h.asked, record { u = h.u; gives = h.gives; lacks = λ r. h.lacks (has_entry h.u h.t r) })))

  pub missed : (G : ℕ) (E : Env) → EachChainHas p G (MissesByRows p I table E) → IsMissed p C G E
  missed G E each sites chain = let s = each sites chain in (s.0, (s.1.0, misses E s.0 s.1.1))

  pub missed_by_rows : (G : ℕ) (E : Env) → IsMissed p C G E → EachChainHas p G (MissesByRows p I table E)
  missed_by_rows G E each sites chain = let s = each sites chain in (s.0, (s.1.0, misses_by_rows E s.0 s.1.1))

-- asked by a void row
abbrev pub AsksVoid : BasisData → InternerData → ℕ → Env → Type 0
AsksVoid b I G E = (v : VoidRowData) × (Contains b.void v × (v.rule ≡ G) × AsksAtLeast AsStrongAs E (env_of_id I v.env))

module _ (b : BasisData) (C : List EntryData) (V : List VoidData) (I : InternerData) (are : AreNumbered b.problem C V I b.table b.void) (G : ℕ) (E : Env) where
  pub void_asked : AsksVoid b I G E → IsVoid b.problem C V G E
  void_asked h = inl (void_of I h.0, (subst (λ (vs : List VoidData). Contains vs (void_of I h.0)) are.pairs (into_map (void_of I) b.void h.0 h.1.0), h.1.1, h.1.2))

  pub void_missed : EachChainHas b.problem G (MissesByRows b.problem I b.table E) → IsVoid b.problem C V G E
  void_missed h = inr (missed b.problem C I b.table are.rows G E h)

  pub void_by_rows : IsVoid b.problem C V G E → AsksVoid b I G E ⊎ EachChainHas b.problem G (MissesByRows b.problem I b.table E)
  void_by_rows (inr h) = inr (missed_by_rows b.problem C I b.table are.rows G E h)
  void_by_rows (inl (v, (m, same, asks))) =
      let q = from_map (void_of I) b.void v (subst (λ (vs : List VoidData). Contains vs v) (sym are.pairs) m) in
      inl (q.item, (q.there, sym (ap (λ (k : VoidData). k.rule) q.is) ∙ same, subst (λ (k : Env). AsksAtLeast AsStrongAs E k) (ap (λ (k : VoidData). k.env) q.is) asks))

  pub void_told : (AsksVoid b I G E → ⊥) → (missed : Bool) → (IsTrue missed ↔ EachChainHas b.problem G (MissesByRows b.problem I b.table E)) → IsTrue missed ↔ IsVoid b.problem C V G E
  void_told none missed tells = (
    λ yes. void_missed (tells.0 yes),
    λ void. elim (void_by_rows void) [ inl asked ↦ absurd (none asked) | inr miss ↦ tells.1 miss ],
  )
