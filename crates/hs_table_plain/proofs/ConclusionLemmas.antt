-- All that follow at a point.
use Rattle.std.proofs.Common.{◌≡◌, sym, ◌∙◌, ap, subst, ℕ, ◌<◌, List, [], ◌∷◌, length, slice_get, Option, Some, option_map, arith, Contains, ◌⊎◌, inl, inr, ◌↔◌}
use Rattle.std.proofs.lemmas.Option.{same_Some}
use Rattle.hs_scheme.specs.declared.term.Head.{Head}
use Rattle.hs_scheme.specs.flow.Points.{PointData, NonterminalWithin}
use Rattle.hs_scheme.specs.Problem.{ProblemData}
use Rattle.hs_scheme.proofs.Lists.{here, only, some_at}
use Rattle.hs_table.specs.Types.{TypeTree, arrows}
use Rattle.hs_table.specs.Entries.{Env, EntryData, Has, IsEnv, InShape, params_of}
use Rattle.hs_table.specs.Follows.{IsHeadType, HeadHas, AnyHas, Chosen, Support, FollowsBy, Follows}
use Rattle.hs_table_laws.proofs.Sets.{envs_same}
use Rattle.hs_table_laws.proofs.Members.{from_map, into_map}
use Rattle.hs_table_plain.specs.Enumeration.{retyped, through, own_env, opening, head_types, all_at}
use Rattle.hs_table_plain.proofs.Members.{from_flat_map, into_flat_map}
use Rattle.hs_table_plain.proofs.UnionLemmas.{joins, joins_point, joins_env, joins_has, own_is_env, own_has}
use Rattle.hs_table_plain.proofs.ChoiceLemmas.{choose_all, through_arrows, split_from, into_all, long, from_all}
use Rattle.hs_table_plain.proofs.HeadLemmas.{from_heads, into_heads}

-- the environment of what is joined is the union
union_of : (n point : ℕ) (h : Head) (ty : TypeTree) (xs : List EntryData) (j : ℕ) (a : TypeTree) → j < n → Has (joins (opening point n h ty) xs).env j a ↔ (HeadHas h ty j a ⊎ AnyHas xs j a)
union_of n point h ty xs j a lt =
    let whole = joins_has (opening point n h ty) xs j a (omega (arith, lt, (own_is_env n h ty).long)) in
    let own = own_has n h ty j a lt in
    (λ k. out own.0 (whole.0 k), λ k. whole.1 (back own.1 k))
  where
    out : (Has (own_env n h ty) j a → HeadHas h ty j a) → Has (own_env n h ty) j a ⊎ AnyHas xs j a → HeadHas h ty j a ⊎ AnyHas xs j a
    out f (inl k) = inl (f k)
    out f (inr k) = inr k

    back : (HeadHas h ty j a → Has (own_env n h ty) j a) → HeadHas h ty j a ⊎ AnyHas xs j a → Has (own_env n h ty) j a ⊎ AnyHas xs j a
    back f (inl k) = inl (f k)
    back f (inr k) = inr k

module _ (p : ProblemData) (E : List EntryData) (shapes : (e : EntryData) → Contains E e → InShape p e) (point : ℕ) (of : PointData) (at : slice_get p.points.points point ≡ Some of) where
  abbrev all : List EntryData
  all = all_at p E point of.rule (params_of p of.rule) of.head of.args

  -- an entry that is made of a head's type and chosen entries
  made : (s : Support) (ss : Env) (t : TypeTree) (xs : List EntryData) → IsHeadType p E of.rule of.head s.head (arrows ss t) → Chosen p E 0 of.args ss s.args xs
      → FollowsBy p E s (retyped t (joins (opening point (params_of p of.rule) of.head (arrows ss t)) xs))
  made s ss t xs head are =
      let n = params_of p of.rule in
      let start = opening point n of.head (arrows ss t) in
      let env = joins_env n start xs (own_is_env n of.head (arrows ss t)) in
      record {
        of = of;
        at = subst (λ z. slice_get p.points.points z ≡ Some of) (sym (joins_point start xs)) at;
        sets = ss;
        head = head;
        chosen = xs;
        are = are;
        env = env;
        union = λ j a lt. union_of n point of.head (arrows ss t) xs j a (omega (arith, lt, env.long));
      }

  pub from_all_at : (e : EntryData) → NonterminalWithin (length p.points.bodies) of.head → Contains all e → (e.point ≡ point) × Follows p E e
  from_all_at e within c =
      let n = params_of p of.rule in
      let source = from_flat_map (λ ty. through E of.args ty (opening point n of.head ty ∷ [])) (head_types p E of.rule of.head) e c in
      let ty = source.item in
      let split = split_from E of.args ty (opening point n of.head ty ∷ []) e source.gives in
      let gives = subst (λ x. Contains x e) (ap (λ x. through E of.args x (opening point n of.head ty ∷ [])) split.is ∙ through_arrows E of.args split.sets split.rest (opening point n of.head ty ∷ []) split.long) source.gives in
      let image = from_map (retyped split.rest) (choose_all E of.args split.sets (opening point n of.head ty ∷ [])) e gives in
      let found = from_all p E shapes of.args split.sets (opening point n of.head ty ∷ []) image.item split.long image.there in
      let are = found.are 0 in
      let by = from_heads p E shapes of.rule of.head ty within source.there in
      let start : found.from ≡ opening point n of.head (arrows split.sets split.rest) = only (opening point n of.head ty) found.from found.there ∙ ap (opening point n of.head) split.is in
      let is : e ≡ retyped split.rest (joins (opening point n of.head (arrows split.sets split.rest)) found.xs) = image.is ∙ ap (retyped split.rest) (found.is ∙ ap (λ x. joins x found.xs) start) in
      let s : Support = record { head = by.0; args = are.0 } in
      let whole = made s split.sets split.rest found.xs (subst (λ x. IsHeadType p E of.rule of.head by.0 x) split.is by.1) are.1 in
      (ap (λ (x : EntryData). x.point) is ∙ joins_point (opening point n of.head (arrows split.sets split.rest)) found.xs, (s, subst (λ x. FollowsBy p E s x) (sym is) whole))

  into_by : (s : Support) (e : EntryData) (f : FollowsBy p E s e) → e.point ≡ point → f.of ≡ of → Contains all e
  into_by s e f here_is same =
      let n = params_of p of.rule in
      let ty = arrows f.sets e.ty in
      let start = opening point n of.head ty in
      let head : IsHeadType p E of.rule of.head s.head ty = subst (λ (d : PointData). IsHeadType p E d.rule d.head s.head ty) same f.head in
      let are : Chosen p E 0 of.args f.sets s.args f.chosen = subst (λ (d : PointData). Chosen p E 0 d.args f.sets s.args f.chosen) same f.are in
      let env : IsEnv n e.env = subst (λ (d : PointData). IsEnv (params_of p d.rule) e.env) same f.env in
      let is : (joins start f.chosen).env ≡ e.env = envs_same n (joins start f.chosen).env e.env (joins_env n start f.chosen (own_is_env n of.head ty)) env (λ j a lt.
      let mine = union_of n point of.head ty f.chosen j a lt in
      let theirs = subst (λ (d : PointData). Has e.env j a ↔ (HeadHas d.head ty j a ⊎ AnyHas f.chosen j a)) same (f.union j a (omega (arith, lt, env.long))) in
      (λ k. theirs.1 (mine.0 k), λ k. mine.1 (theirs.0 k))) in
      let whole : retyped e.ty (joins start f.chosen) ≡ e = λ i. record { point = (joins_point start f.chosen ∙ sym here_is) i; env = is i; ty = e.ty } in
      subst (λ x. Contains all x) whole
      (into_flat_map (λ z. through E of.args z (opening point n of.head z ∷ [])) (head_types p E of.rule of.head) ty (retyped e.ty (joins start f.chosen)) (into_heads p E shapes of.rule of.head s.head ty head)
      (subst (λ x. Contains x (retyped e.ty (joins start f.chosen))) (sym (through_arrows E of.args f.sets e.ty (start ∷ []) (long p E shapes are)))
      (into_map (retyped e.ty) (choose_all E of.args f.sets (start ∷ [])) (joins start f.chosen) (into_all p E shapes are (start ∷ []) start (here start [])))))

  pub into_all_at : (e : EntryData) → e.point ≡ point → Follows p E e → Contains all e
  into_all_at e here_is (s, f) = into_by s e f here_is (same_Some f.of of (sym f.at ∙ (ap (λ z. slice_get p.points.points z) here_is ∙ at)))

field_is : {X Y : Type 0} (f : X → Y) (o : Option X) (x : X) (y : Y) → o ≡ Some x → option_map f o ≡ Some y → f x ≡ y
field_is f o x y e h = same_Some (f x) y (sym (ap (option_map f) e) ∙ h)

pub all_at_exact : (p : ProblemData) (E : List EntryData) (point rule : ℕ) (head : Head) (args : List ℕ) → ((e : EntryData) → Contains E e → InShape p e) → point < length p.points.points
    → option_map (λ (d : PointData). d.rule) (slice_get p.points.points point) ≡ Some rule → option_map (λ (d : PointData). d.head) (slice_get p.points.points point) ≡ Some head
    → option_map (λ (d : PointData). d.args) (slice_get p.points.points point) ≡ Some args → NonterminalWithin (length p.points.bodies) head
    → (e : EntryData) → Contains (all_at p E point rule (params_of p rule) head args) e ↔ ((e.point ≡ point) × Follows p E e)
all_at_exact p E point rule head args shapes lt r h a within e =
    let item = some_at p.points.points point lt in
    let of = item.0 in
    let rule_is = field_is (λ (d : PointData). d.rule) (slice_get p.points.points point) of rule item.1 r in
    let head_is = field_is (λ (d : PointData). d.head) (slice_get p.points.points point) of head item.1 h in
    let args_is = field_is (λ (d : PointData). d.args) (slice_get p.points.points point) of args item.1 a in
    let same : all_at p E point of.rule (params_of p of.rule) of.head of.args ≡ all_at p E point rule (params_of p rule) head args = λ i. all_at p E point (rule_is i) (params_of p (rule_is i)) (head_is i) (args_is i) in
    let inside : NonterminalWithin (length p.points.bodies) of.head = subst (λ (z : Head). NonterminalWithin (length p.points.bodies) z) (sym head_is) within in (
      λ c. from_all_at p E shapes point of item.1 e inside (subst (λ xs. Contains xs e) (sym same) c),
      λ both. subst (λ xs. Contains xs e) same (into_all_at p E shapes point of item.1 e both.0 both.1),
    )
