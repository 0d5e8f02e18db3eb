-- What the function on entries reads.
use Rattle.std.proofs.Common.{◌≡◌, refl, sym, ◌∙◌, ap, subst, ℕ, zero, suc, ◌+◌, ◌<◌, ◌≤◌, List, [], ◌∷◌, ◌++◌, length, get_or, slice_get, codes, decimal, Some, All, Contains, arith}
use Rattle.std.proofs.Common.{inl, inr}
use Rattle.std.proofs.lemmas.List.{append-nil, append_cancel_left}
use Rattle.std.proofs.lemmas.Option.{get_or_from_slice_get}
use Rattle.hs_scheme.specs.Tree.{forest, height, heights}
use Rattle.hs_scheme.specs.flow.Points.{PointData, point_at}
use Rattle.hs_scheme.specs.Problem.{ProblemData}
use Rattle.hs_scheme.proofs.Lists.{some_at, read-slice_get, uncons, none_in, here, later}
use Rattle.hs_table.specs.Types.{TypeTree, IsSet, IsType, AreTypes}
use Rattle.hs_table.specs.Entries.{Env, EntryData, Has, set_at, params_of}
use Rattle.hs_table_laws.proofs.Shapes.{are_types}
use Rattle.hs_table_laws.proofs.Sets.{no_set}
use Rattle.hs_text.specs.Canonical.{name_at, params_at}
use Rattle.hs_text.specs.Report.{type_text}
use Rattle.hs_cert.specs.Certificate.{AreNames, AreNested, IsEntry, line_text}
use Rattle.hs_cert.specs.Front.{IsOfProblem, type_then, sets_then, IsTypeFront, IsLowSet, IsSetsFront, IsPlaceFront}
use Rattle.hs_cert.proofs.Unique.{type_unique}
use Rattle.hs_cert.proofs.Sets.{type_spelled, entry_spelled}
use Rattle.hs_cert.proofs.Fronts.{all_behind}
use Rattle.hs_cert.proofs.Environments.{same_sets}
use Rattle.hs_cert.proofs.Numbers.{same_place}

types_member : (n : ℕ) (s : List TypeTree) (a : TypeTree) → AreTypes n (forest s) → Contains s a → IsType n a
types_member n [] a h c = absurd (none_in a c)
types_member n (t ∷ s) a h c = elim (uncons t a s c) [
  | inl e ↦ subst (IsType n) (sym e) h.0
  | inr there ↦ types_member n s a h.1 there
]

low_member : (s : List TypeTree) (a : TypeTree) → Contains s a → height a + 1 ≤ heights (forest s)
low_member [] a c = absurd (none_in a c)
low_member (t ∷ s) a c = elim (uncons t a s c) [
  | inl e ↦ (let same : height a ≡ height t = ap height e in omega (arith, same))
  | inr there ↦ omega (arith, low_member s a there)
]

low_members : (limit : ℕ) (s : List TypeTree) → ((a : TypeTree) → Contains s a → height a + 1 ≤ limit) → heights (forest s) ≤ limit
low_members limit [] f = omega arith
low_members limit (t ∷ s) f = omega (arith, f t (here t s), low_members limit s (λ a c. f a (later t a s c)))

low_sets : (n : ℕ) (env : Env) → All (IsLowSet n 1000) env → (j : ℕ) → IsLowSet n 1000 (set_at env j)
low_sets n [] h j = record { shape = tt; low = omega arith; set = no_set }
low_sets n (s ∷ env) h zero = h 0 [] (omega arith)
low_sets n (s ∷ env) h (suc j) = low_sets n env (all_behind (IsLowSet n 1000) s env h) j

module _ (names : List (List ℕ)) (env : Env) (sets : All (IsLowSet (length names) 1000) env) where
  pub sets_env : (j : ℕ) → IsSet (set_at env j)
  sets_env j = (low_sets (length names) env sets j).set

  pub nested_env : AreNested env
  nested_env j a c = let low = (low_sets (length names) env sets j).low in omega (arith, low, low_member (set_at env j) a c)

module _ (p : ProblemData) (names : List (List ℕ)) (of_problem : IsOfProblem p names) where
  count : length names ≡ p.sorted.automaton.states
  count = ap length of_problem.is ∙ of_problem.each

  abbrev rule_at : ℕ → ℕ
  rule_at point = (point_at p.points point).rule

  abbrev params : ℕ → List (List ℕ)
  params point = params_at p.sorted.names.params (rule_at point)

  abbrev behind_env : TypeTree → List ℕ
  behind_env t = codes " " ++ type_then names t []

  spelled : (e : EntryData) → line_text p e
      ≡ decimal e.point ++ (codes " " ++ (name_at p.sorted.names.rules (rule_at e.point) ++ (codes " [" ++ sets_then names (params e.point) 0 e.env (behind_env e.ty))))
  spelled e =
      entry_spelled p.sorted.names (rule_at e.point) e
      ∙ ap (λ (x : List ℕ). decimal e.point ++ (codes " " ++ (name_at p.sorted.names.rules (rule_at e.point) ++ (codes " [" ++ x))))
      (ap (λ ns. sets_then ns (params e.point) 0 e.env (codes " " ++ type_text ns e.ty)) (sym of_problem.is)
      ∙ ap (λ (x : List ℕ). sets_then names (params e.point) 0 e.env (codes " " ++ x)) (sym (type_spelled names e.ty [] ∙ append-nil (type_text names e.ty))))

  point_there : (point : ℕ) → point < length p.points.points → slice_get p.points.points point ≡ Some (point_at p.points point)
  point_there point lt =
      let x = some_at p.points.points point lt in
      x.1 ∙ ap (λ o. Some o) (sym (get_or_from_slice_get p.points.points point x.0 _ x.1))

  -- the sets of an environment in shape are low
  pub low_env : (env : Env) → ((j : ℕ) → IsSet (set_at env j)) → ((j : ℕ) (a : TypeTree) → Has env j a → IsType p.sorted.automaton.states a) → AreNested env → All (IsLowSet (length names) 1000) env
  low_env env sets types nested j d lt =
      subst (IsLowSet (length names) 1000) (sym (get_same env j d [] lt))
      (record {
        shape = are_types (length names) (set_at env j) (λ a c. subst (λ n. IsType n a) (sym count) (types j a c));
        low = low_members 1000 (set_at env j) (λ a c. nested j a c);
        set = sets j;
      })
    where
      get_same : {A : Type 0} (xs : List A) (j : ℕ) (d f : A) → j < length xs → get_or xs j d ≡ get_or xs j f
      get_same [] j d f lt = absurd (omega (arith, lt))
      get_same (x ∷ xs) zero d f lt = refl
      get_same (x ∷ xs) (suc j) d f lt = get_same xs j d f (omega (arith, lt))

  pub typed_env : (env : Env) → All (IsLowSet (length names) 1000) env → (j : ℕ) (a : TypeTree) → Has env j a → IsType p.sorted.automaton.states a
  typed_env env sets j a c = subst (λ n. IsType n a) count (types_member (length names) (set_at env j) a (low_sets (length names) env sets j).shape c)

  -- an entry in its parts
  pub record Parts (line : List ℕ) (e : EntryData) : Type 0 where
    pub place : IsPlaceFront p line e.point (sets_then names (params e.point) 0 e.env (behind_env e.ty))
    pub sets : IsSetsFront names (params e.point) (params_of p (rule_at e.point)) (sets_then names (params e.point) 0 e.env (behind_env e.ty)) e.env (behind_env e.ty)
    pub ty : IsTypeFront names 1000 (type_then names e.ty []) e.ty []

  pub parts : (line : List ℕ) (e : EntryData) → IsEntry p line e → Parts line e
  parts line e h =
      let states = λ (t : TypeTree) (s : IsType p.sorted.automaton.states t). subst (λ n. IsType n t) (sym count) s in
      let within = (read-slice_get p.points.points e.point h.shape.of h.shape.at).0 in
      let of_is : h.shape.of ≡ point_at p.points e.point = sym (get_or_from_slice_get p.points.points e.point h.shape.of _ h.shape.at) in
      record {
        place = record { spelled = h.is ∙ spelled e; within = within };
        sets = record {
          spelled = refl;
          long = h.shape.env.long ∙ ap (λ (d : PointData). params_of p d.rule) of_is;
          sets = low_env e.env h.shape.env.sets h.shape.types h.nested.sets;
        };
        ty = record { spelled = refl; ends = refl; shape = states e.ty h.shape.ty; low = omega (arith, h.nested.ty) };
      }

  pub whole : (line one two three : List ℕ) (point : ℕ) (env : Env) (ty : TypeTree) → IsPlaceFront p line point one
      → IsSetsFront names (params point) (params_of p (rule_at point)) one env two → two ≡ codes " " ++ three → IsTypeFront names 1000 three ty []
      → IsEntry p line (record { point = point; env = env; ty = ty })
  whole line one two three point env ty place sets blank t =
      let states = λ (u : TypeTree) (s : IsType (length names) u). subst (λ n. IsType n u) count s in
      record {
        is =
            place.spelled ∙ ap (λ (x : List ℕ). decimal point ++ (codes " " ++ (name_at p.sorted.names.rules (rule_at point) ++ (codes " [" ++ x))))
            (sets.spelled ∙ ap (λ (x : List ℕ). sets_then names (params point) 0 env x) (blank ∙ ap (λ (x : List ℕ). codes " " ++ x) t.spelled))
            ∙ sym (spelled (record { point = point; env = env; ty = ty }));
        shape = record {
          of = point_at p.points point;
          at = point_there point place.within;
          env = record { long = sets.long; sets = sets_env names env sets.sets };
          types = typed_env env sets.sets;
          ty = states ty t.shape;
        };
        nested = record {
          sets = nested_env names env sets.sets;
          ty = omega (arith, t.low);
        };
      }

  -- ---- what stands against every entry

  module _ (are : AreNames names) (few : length p.points.points ≤ 500000) (line : List ℕ) where
    pub no_place : ((point : ℕ) (rest : List ℕ) → IsPlaceFront p line point rest → ⊥) → (e : EntryData) → IsEntry p line e → ⊥
    no_place nothing e h = nothing e.point _ (parts line e h).place

    module _ (one : List ℕ) (point : ℕ) (place : IsPlaceFront p line point one) where
      -- the environment stands behind the place
      sets_of : (e : EntryData) → IsEntry p line e → (e.point ≡ point) × IsSetsFront names (params point) (params_of p (rule_at point)) one e.env (behind_env e.ty)
      sets_of e h =
          let r = parts line e h in
          let same = same_place p few line _ one e.point point r.place place in (
            same.0,
            record {
              spelled = sym same.1 ∙ ap (λ n. sets_then names (params n) 0 e.env (behind_env e.ty)) same.0;
              long = r.sets.long ∙ ap (λ n. params_of p (rule_at n)) same.0;
              sets = r.sets.sets;
            },
          )

      pub no_env : ((env : Env) (rest : List ℕ) → IsSetsFront names (params point) (params_of p (rule_at point)) one env rest → ⊥) → (e : EntryData) → IsEntry p line e → ⊥
      no_env nothing e h = nothing e.env _ (sets_of e h).1

      module _ (two : List ℕ) (env : Env) (sets : IsSetsFront names (params point) (params_of p (rule_at point)) one env two) where
        behind : (e : EntryData) → IsEntry p line e → two ≡ behind_env e.ty
        behind e h = (same_sets names (params point) are (params_of p (rule_at point)) one two (behind_env e.ty) env e.env sets (sets_of e h).1).1

        pub no_blank : ((rest : List ℕ) → two ≡ codes " " ++ rest → ⊥) → (e : EntryData) → IsEntry p line e → ⊥
        no_blank nothing e h = nothing _ (behind e h)

        type_of_entry : (three : List ℕ) → two ≡ codes " " ++ three → (e : EntryData) → IsEntry p line e → IsTypeFront names 1000 three e.ty []
        type_of_entry three blank e h =
            let is : three ≡ type_then names e.ty [] = append_cancel_left (codes " ") three (type_then names e.ty []) (sym blank ∙ behind e h) in
            let t = (parts line e h).ty in record { spelled = is; ends = t.ends; shape = t.shape; low = t.low }

        pub no_type : (three : List ℕ) → two ≡ codes " " ++ three → ((t : TypeTree) (rest : List ℕ) → IsTypeFront names 1000 three t rest → ⊥) → (e : EntryData) → IsEntry p line e → ⊥
        no_type three blank nothing e h = nothing e.ty [] (type_of_entry three blank e h)

        pub not_at_end : (three four : List ℕ) (ty : TypeTree) → two ≡ codes " " ++ three → IsTypeFront names 1000 three ty four → (four ≡ [] → ⊥) → (e : EntryData) → IsEntry p line e → ⊥
        not_at_end three four ty blank t some e h =
            let u = type_of_entry three blank e h in
            some (type_unique names are ty e.ty four [] t.shape u.shape t.ends u.ends (sym t.spelled ∙ u.spelled)).1

  -- the text of an entry determines it
  pub same_entry : AreNames names → length p.points.points ≤ 500000 → (line : List ℕ) (a b : EntryData) → IsEntry p line a → IsEntry p line b → a ≡ b
  same_entry are few line a b f g =
      let r = parts line a f in
      let s = sets_of are few line _ a.point r.place b g in
      let same = same_sets names (params a.point) are (params_of p (rule_at a.point)) _ (behind_env a.ty) (behind_env b.ty) a.env b.env r.sets s.1 in
      let u = parts line b g in
      let ty = type_unique names are a.ty b.ty [] [] r.ty.shape u.ty.shape refl refl (append_cancel_left (codes " ") (type_then names a.ty []) (type_then names b.ty []) same.1) in
      λ i. record { point = sym s.0 i; env = same.0 i; ty = ty.0 i }

pub sets_as : (names P Q : List (List ℕ)) (c d : ℕ) (bytes : List ℕ) (env : Env) (rest : List ℕ) → P ≡ Q → c ≡ d → IsSetsFront names P c bytes env rest → IsSetsFront names Q d bytes env rest
sets_as names P Q c d bytes env rest same many h =
    record { spelled = h.spelled ∙ ap (λ ps. sets_then names ps 0 env rest) same; long = h.long ∙ many; sets = h.sets }
