-- What is settled, by types of the head and by points.
use Rattle.std.proofs.Common.{◌≡◌, refl, sym, ◌∙◌, ap, subst, ℕ, ◌+◌, ◌<◌, ◌≤◌, Bool, true, false, IsTrue, List, length, map, get_or, take, slice_get, Some, Contains, ◌⊎◌, inl, inr, ◌↔◌}
use Rattle.std.proofs.lemmas.List.{take_all}
use Rattle.std.proofs.lemmas.Option.{same_Some}
use Rattle.hs_scheme.specs.flow.Points.{PointData}
use Rattle.hs_scheme.specs.Problem.{ProblemData}
use Rattle.hs_scheme.proofs.Lists.{none_in, read-slice_get, Contains-at}
use Rattle.hs_table.specs.Types.{TypeTree, arrows}
use Rattle.hs_table.specs.Entries.{Env, EntryData, Has, IsEnv, InShape, params_of}
use Rattle.hs_table.specs.Follows.{IsHeadType, HeadHas, AnyHas}
use Rattle.hs_table_laws.proofs.Members.{from_map, into_map}
use Rattle.hs_table_laws.proofs.Places.{place_of}
use Rattle.hs_weak.specs.Strength.{AsStrongAs, Covers}
use Rattle.hs_weak.specs.Weak.{WeaklyChosen, IsCoveredIn}
use Rattle.hs_weak.specs.WeakExamples.{chosen_long}
use Rattle.hs_weak.specs.Reads.{last_state}
use Rattle.hs_weak.specs.Void.{VoidData, IsVoid}
use Rattle.hs_types.specs.Interned.{InternerData, type_of_id, env_of_id, RowData, entry_of}
use Rattle.hs_strength.specs.Remembered.{IsCovered}
use Rattle.hs_choices.specs.Slots.{IsSettled}
use Rattle.hs_choices.specs.Numbered.{envs_of, AreTableRows}
use Rattle.hs_choices.proofs.Growing.{front_or_last}
use Rattle.hs_heads.specs.HeadTypes.{HeadTypeData, sets_of, IsHeadTypeAt, AreHeadTypes}
use Rattle.hs_void.specs.Voids.{BasisData}
use Rattle.hs_certificate_checker.specs.Settled.{StandFor, IsOther, AreSettledBy, AreSettledAt, AreSettled}

-- a row covers exactly where an entry of the table does
pub covered_in : (p : ProblemData) (C : List EntryData) (I : InternerData) (table : List RowData) (row : RowData) → AreTableRows p C I table → IsCovered I row table ↔ IsCoveredIn AsStrongAs p C (entry_of I row)
covered_in p C I table row are = (
  λ h. let place = are.taken h.0 h.1.0 in (place.0, entry_of I h.0, (place.1, h.1.1)),
  λ h. let own = are.each h.0 h.1 h.2.0 in (own.0, (own.1.0, subst (λ (e : EntryData). Covers AsStrongAs e (entry_of I row)) (sym own.1.1) h.2.1)),
)

-- rows in shape are those of some table
pub own_rows : (p : ProblemData) (I : InternerData) (table : List RowData) → ((row : RowData) → Contains table row → InShape p (entry_of I row)) → AreTableRows p (map (entry_of I) table) I table
own_rows p I table shape = record {
  taken = λ row there. let place = place_of (map (entry_of I) table) (entry_of I row) (into_map (entry_of I) table row there) in (place.0, record { at = place.1; shape = shape row there });
  each = λ place e at. let from = from_map (entry_of I) table e (Contains-at (map (entry_of I) table) place e at.at) in (from.item, (from.there, sym from.is));
}

-- whether the entry of a row is covered or void
abbrev pub Tells : BasisData → InternerData → Bool → ℕ → RowData → Type 0
Tells b I answer rule row = (C : List EntryData) (V : List VoidData) → StandFor b I C V → IsTrue answer ↔ IsSettled b.problem C V row.point rule (type_of_id I row.ty) (env_of_id I row.env)

module _ (b : BasisData) (I : InternerData) (rule : ℕ) (row : RowData) where
  pub tells_covered : IsCovered I row b.table → Tells b I true rule row
  tells_covered covered C V stand = (λ _. inl ((covered_in b.problem C I b.table row stand.rows).0 covered), λ _. refl)

  pub tells_void : (answer : Bool) → (IsCovered I row b.table → ⊥) → ((C : List EntryData) (V : List VoidData) → StandFor b I C V → IsTrue answer ↔ IsVoid b.problem C V rule (env_of_id I row.env)) → Tells b I answer rule row
  tells_void answer not tells C V stand = (
    λ h. inr ((tells C V stand).0 h),
    λ settled. elim settled [
      | inl covered ↦ absurd (not ((covered_in b.problem C I b.table row stand.rows).1 covered))
      | inr void ↦ (tells C V stand).1 void
    ],
  )

module _ (p : ProblemData) (C : List EntryData) (V : List VoidData) (R : List (ℕ × ℕ)) where
  -- by all types of the head
  pub settled_at : (point : ℕ) (of : PointData) → slice_get p.points.points point ≡ Some of → (I : InternerData) (found : List HeadTypeData) → AreHeadTypes p C R point of I found
      → ((h : HeadTypeData) → Contains found h → AreSettledBy p C V point of (sets_of I h) (type_of_id I h.ty)) → AreSettledAt p C V R point
  settled_at point of at I found are all e is (s, h) matters =
      let of_is : h.of ≡ of = same_Some h.of of (sym h.at ∙ (ap (λ k. slice_get p.points.points k) is ∙ at)) in
      let own : IsHeadTypeAt p C R point of h.sets e.ty = record {
        by = s.head;
        head = subst (λ (d : PointData). IsHeadType p C d.rule d.head s.head (arrows h.sets e.ty)) of_is h.head;
        long = chosen_long AsStrongAs p C h.are ∙ ap (λ (d : PointData). length d.args) of_is;
        read = subst (λ k. Contains R (k, last_state e.ty)) is matters;
      } in
      let x = are.each h.sets e.ty own in
      let by_sets = subst (λ (ss : Env). AreSettledBy p C V point of ss (type_of_id I x.0.ty)) x.1.1.0 (all x.0 x.1.0) in
      let by_type = subst (λ (t : TypeTree). AreSettledBy p C V point of h.sets t) x.1.1.1 by_sets in
      let settled = by_type s.args h.chosen (subst (λ (d : PointData). WeaklyChosen AsStrongAs p C 0 d.args h.sets s.args h.chosen) of_is h.are) e.env (subst (λ (d : PointData). IsEnv (params_of p d.rule) e.env) of_is h.env)
      (subst (λ (d : PointData). (j : ℕ) (a : TypeTree) → j < length e.env → Has e.env j a ↔ (HeadHas d.head (arrows h.sets e.ty) j a ⊎ AnyHas h.chosen j a)) of_is h.union) in
      elim settled [
        | inl covered ↦ inl (subst (λ k. IsCoveredIn AsStrongAs p C (record { point = k; env = e.env; ty = e.ty })) (sym is) covered)
        | inr void ↦ inr (of, (ap (λ k. slice_get p.points.points k) is ∙ at, void))
      ]

  -- at all points
  pub settled_all : ((point : ℕ) → point < length p.points.points → AreSettledAt p C V R point) → AreSettled p C V R
  settled_all each e (s, h) matters = each e.point (read-slice_get p.points.points e.point h.of h.at).0 e refl (s, h) matters

-- the same of other names for one basis and one interner
pub tells_so : (b d : BasisData) (I J : InternerData) → d ≡ b → J ≡ I → (answer : Bool) (rule : ℕ) (row : RowData) → Tells d J answer rule row → Tells b I answer rule row
tells_so b d I J basis same answer rule row tells = subst (λ (z : BasisData). Tells z I answer rule row) basis (subst (λ (K : InternerData). Tells d K answer rule row) same tells)

-- environments with which entries of a type at a point are covered or void
abbrev pub AreSettledWith : BasisData → InternerData → ℕ → ℕ → ℕ → List ℕ → Type 0
AreSettledWith b I point rule ty ks =
    (C : List EntryData) (V : List VoidData) → StandFor b I C V → (E : Env) → Contains (envs_of I ks) E → IsSettled b.problem C V point rule (type_of_id I ty) E

module _ (b : BasisData) (I : InternerData) (point rule ty : ℕ) (ks : List ℕ) where
  pub none_yet : AreSettledWith b I point rule ty (take 0 ks)
  none_yet C V stand E there = absurd (none_in E there)

  pub one_more : (i k : ℕ) → i < length ks → k ≡ get_or ks i k → (answer : Bool) → answer ≡ true → Tells b I answer rule (record { point = point; env = k; ty = ty }) → AreSettledWith b I point rule ty (take i ks) → AreSettledWith b I point rule ty (take (i + 1) ks)
  one_more i k lt is answer yes_it tells before C V stand E there = elim (front_or_last I ks i k lt is E there) [
    | inl was ↦ before C V stand E was
    | inr same ↦ subst (λ (X : Env). IsSettled b.problem C V point rule (type_of_id I ty) X) (sym same) ((tells C V stand).0 yes_it)
  ]

  pub all_of : (i : ℕ) → length ks ≤ i → AreSettledWith b I point rule ty (take i ks) → AreSettledWith b I point rule ty ks
  all_of i past before = subst (λ (z : List ℕ). AreSettledWith b I point rule ty z) (take_all i ks past) before

  pub is_other : (i k : ℕ) → i < length ks → k ≡ get_or ks i k → (answer : Bool) → answer ≡ false → Tells b I answer rule (record { point = point; env = k; ty = ty })
      → (C : List EntryData) (V : List VoidData) → StandFor b I C V → IsOther b.problem C V point rule I ty ks (record { point = point; env = k; ty = ty })
  is_other i k lt is answer no_it tells C V stand = record {
    at = refl;
    typed = refl;
    among = (i, lt, sym is);
    not = λ settled. let f : false ≡ true = sym no_it ∙ (tells C V stand).1 settled in cc;
  }
