-- What is chosen for the types that sets ask of arguments, by rows.
use Rattle.std.proofs.Common.{◌≡◌, sym, ◌∙◌, ap, subst, ℕ, zero, suc, List, ◌∷◌, map, slice_get, Some, Contains, inl, inr}
use Rattle.std.proofs.lemmas.Option.{same_Some}
use Rattle.hs_scheme.specs.flow.Points.{PointData, point_at}
use Rattle.hs_scheme.specs.Problem.{ProblemData}
use Rattle.hs_scheme.proofs.Lists.{none_in, here, later, uncons}
use Rattle.hs_table.specs.Types.{TypeTree}
use Rattle.hs_table.specs.Entries.{Env, EntryData, Has}
use Rattle.hs_table.specs.Follows.{IsAt}
use Rattle.hs_weak.specs.Strength.{AsStrongAs}
use Rattle.hs_weak.specs.Weak.{WeaklyChosen, done, next_argument, choose}
use Rattle.hs_types.specs.Interned.{InternerData, RowData, type_of_id, set_of_id}
use Rattle.hs_choices.specs.Numbered.{AreTableRows}
use Rattle.hs_heads.specs.HeadTypes.{HeadTypeData, sets_of}
use Rattle.hs_minimal.specs.Following.{HasStrongAt, AddsFollowing}

module _ (p : ProblemData) (C : List EntryData) where
  -- an entry that is chosen for a type of an argument
  pub record Strong (es : List EntryData) (u : ℕ) (a : TypeTree) : Type 0 where
    pub entry : EntryData
    pub there : Contains es entry
    pub place : ℕ
    pub holds : IsAt p C place entry
    pub point : entry.point ≡ u
    pub strong : AsStrongAs entry.ty a

  more_chosen : (es : List EntryData) (e : EntryData) (u : ℕ) (a : TypeTree) → Strong es u a → Strong (e ∷ es) u a
  more_chosen es e u a s = record { entry = s.entry; there = later e s.entry es s.there; place = s.place; holds = s.holds; point = s.point; strong = s.strong }

  pub chosen_entry : {i : ℕ} {us : List ℕ} {ss : Env} {places : List (ℕ × ℕ)} {es : List EntryData} → WeaklyChosen AsStrongAs p C i us ss places es → (k u : ℕ) (a : TypeTree) → slice_get us k ≡ Some u → Has ss k a → Strong es u a
  chosen_entry done k u a at m = absurd (cc)
  chosen_entry (next_argument h) zero u a at m = absurd (none_in a m)
  chosen_entry (next_argument {us = us} {es = es} h) (suc k) u a at m = let s = chosen_entry h k u a at m in record { entry = s.entry; there = s.there; place = s.place; holds = s.holds; point = s.point; strong = s.strong }
  chosen_entry (choose {u = v} {place = place} {us = us} {a = b} {s = s} {e = e} {es = es} holds point strong h) zero u a at m = elim (uncons b a s m) [
    | inl same ↦ record { entry = e; there = here e es; place = place; holds = holds; point = point ∙ same_Some v u at; strong = subst (λ (t : TypeTree). AsStrongAs e.ty t) (sym same) strong }
    | inr there ↦ more_chosen es e u a (chosen_entry h zero u a at there)
  ]
  chosen_entry (choose {u = v} {us = us} {e = e} {es = es} holds point strong h) (suc k) u a at m = more_chosen es e u a (chosen_entry h (suc k) u a at m)

module _ (p : ProblemData) (I : InternerData) (rows : List RowData) (C : List EntryData) (stand : AreTableRows p C I rows) where
  -- where something is chosen for each type, each has a row that is as strong
  chosen_for : {i : ℕ} {us : List ℕ} {ss : Env} {places : List (ℕ × ℕ)} {es : List EntryData} → WeaklyChosen AsStrongAs p C i us ss places es → (k u : ℕ) (a : TypeTree) → slice_get us k ≡ Some u → Has ss k a → HasStrongAt I rows u a
  chosen_for are k u a at m =
      let x = chosen_entry p C are k u a at m in
      let r = stand.each x.place x.entry x.holds in
      (r.0, (r.1.0, ap (λ (d : EntryData). d.point) r.1.1 ∙ x.point, subst (λ (d : EntryData). AsStrongAs d.ty a) (sym r.1.1) x.strong))

  -- so nothing follows where one has none
  pub none_to_choose : (point : ℕ) (of : PointData) → slice_get p.points.points point ≡ Some of → (args : List ℕ) → args ≡ (point_at p.points point).args → slice_get p.points.points point ≡ Some (point_at p.points point) → (ids : List ℕ) (h : HeadTypeData) → ids ≡ h.sets
      → (((k u : ℕ) (a : TypeTree) → slice_get args k ≡ Some u → Has (map (set_of_id I) ids) k a → HasStrongAt I rows u a) → ⊥) → (J : InternerData) (old : List RowData) → AddsFollowing p C point of J (sets_of I h) (type_of_id I h.ty) old old
  none_to_choose point of at args args_are own ids h ids_are lacks J old =
      let of_is : point_at p.points point ≡ of = same_Some (point_at p.points point) of (sym own ∙ at) in
      let args_of : args ≡ of.args = args_are ∙ ap (λ (d : PointData). d.args) of_is in
      record {
        keeps = λ r m. m;
        come = λ r m. inl m;
        covered = λ places es chosen U env union.
            absurd (lacks (λ k u a k_at m. chosen_for chosen k u a (subst (λ (us : List ℕ). slice_get us k ≡ Some u) args_of k_at) (subst (λ (ss : List ℕ). Has (map (set_of_id I) ss) k a) ids_are m)));
      }
