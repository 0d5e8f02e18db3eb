-- Head types stay what they are while more gets numbers.
use Rattle.std.proofs.Common.{◌≡◌, sym, ◌∙◌, subst, ℕ, List}
use Rattle.hs_scheme.specs.flow.Points.{PointData}
use Rattle.hs_scheme.specs.Problem.{ProblemData}
use Rattle.hs_table.specs.Types.{TypeTree, arrows}
use Rattle.hs_table.specs.Entries.{Env, EntryData, params_of}
use Rattle.hs_types.specs.Interned.{InternerData, type_of_id, env_of_id, Grows}
use Rattle.hs_types.proofs.Numbers.{type_within, type_stays, env_within, env_stays}
use Rattle.hs_choices.specs.Slots.{IsHeadEnv}
use Rattle.hs_heads.specs.HeadTypes.{HeadTypeData, sets_of, IsHeadTypeAt, IsHeadRow, AreHeadTypes}
use Rattle.hs_heads.proofs.Splitting.{sets_within, sets_stay}

module _ (p : ProblemData) (C : List EntryData) (R : List (ℕ × ℕ)) (point : ℕ) (of : PointData) (I J : InternerData) (g : Grows I J) where
  module _ (h : HeadTypeData) (row : IsHeadRow p of I h) where
    pub sets_are : sets_of J h ≡ sets_of I h
    sets_are = sets_stay I J g h.sets row.sets

    pub rest_is : type_of_id J h.ty ≡ type_of_id I h.ty
    rest_is = type_stays I J g h.ty row.ty

    pub row_stays : IsHeadRow p of J h
    row_stays =
        let same : arrows (sets_of J h) (type_of_id J h.ty) ≡ arrows (sets_of I h) (type_of_id I h.ty) = λ i. arrows (sets_are i) (rest_is i) in
        record {
          sets = sets_within I J g h.sets row.sets;
          ty = type_within I J g h.ty row.ty;
          env = env_within I J g h.first row.env;
          first = subst (λ (ty : TypeTree). IsHeadEnv (params_of p of.rule) of.head ty (env_of_id J h.first)) (sym same)
              (subst (λ (E : Env). IsHeadEnv (params_of p of.rule) of.head (arrows (sets_of I h) (type_of_id I h.ty)) E) (sym (env_stays I J g h.first row.env)) row.first);
        }

  pub head_types_stay : (found : List HeadTypeData) → AreHeadTypes p C R point of I found → AreHeadTypes p C R point of J found
  head_types_stay found are = record {
    rows = λ h c. row_stays h (are.rows h c);
    taken = λ h c.
        subst (λ (ss : Env). IsHeadTypeAt p C R point of ss (type_of_id J h.ty)) (sym (sets_are h (are.rows h c)))
        (subst (λ (ty : TypeTree). IsHeadTypeAt p C R point of (sets_of I h) ty) (sym (rest_is h (are.rows h c))) (are.taken h c));
    each = λ sets ty k.
        let f = are.each sets ty k in
        let row = are.rows f.0 f.1.0 in
        (f.0, (f.1.0, (sets_are f.0 row ∙ f.1.1.0, rest_is f.0 row ∙ f.1.1.1)));
  }
