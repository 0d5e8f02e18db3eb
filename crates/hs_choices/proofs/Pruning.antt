-- Least unions decide what all unions do.
use Rattle.std.proofs.Common.{◌≡◌, sym, ◌∙◌, ap, subst, ℕ, suc, ◌<◌, List, [], ◌∷◌, length, slice_get, Some, replicate, arith, Contains, ◌⊎◌, inl, inr, ◌↔◌}
use Rattle.std.proofs.lemmas.Option.{same_Some}
use Rattle.hs_scheme.specs.declared.term.Head.{Head}
use Rattle.hs_scheme.specs.declared.term.Head.TheVariants.{Var, Nt, Tm}
use Rattle.hs_scheme.specs.flow.Points.{PointData, PointsData, points_of}
use Rattle.hs_scheme.specs.Problem.{ProblemData}
use Rattle.hs_scheme.proofs.Lists.{none_in, here, later, uncons, slice_get-read}
use Rattle.hs_table.specs.declared.support.HeadBy.{HeadBy}
use Rattle.hs_table.specs.declared.support.HeadBy.TheVariants.{Terminal, Rule, Param}
use Rattle.hs_table.specs.Types.{TypeTree, arrows, IsType}
use Rattle.hs_table.specs.Entries.{Env, EntryData, Has, IsEnv, InShape, params_of}
use Rattle.hs_table.specs.Follows.{IsHeadType, HeadHas, AnyHas}
use Rattle.hs_table_laws.proofs.Arrows.{has_within, empties_has}
use Rattle.hs_verdict.specs.Premises.{IsSortedProblem}
use Rattle.hs_verdict.proofs.TermLemmas.{are_terms}
use Rattle.hs_weak.specs.Strength.{AsStrongAs, AsksAtLeast}
use Rattle.hs_weak.specs.Weak.{WeaklyChosen, done, next_argument, choose, WeaklyFollows, IsCoveredIn}
use Rattle.hs_weak.specs.Sites.{SiteData}
use Rattle.hs_weak.specs.Void.{VoidData, IsVoid, sets_for, IsUnionOf, IsBlocked}
use Rattle.hs_weak.proofs.Strength.{strong_refl, env_trans}
use Rattle.hs_choices.specs.Unions.{SomeHas, Picks, AsksOneOf, AreLeastUnions}
use Rattle.hs_choices.specs.Slots.{AreSlots, no_argument, behind_argument, one_type, IsHeadEnv, AscendAll, IsSettled}
use Rattle.hs_choices.proofs.Asking.{void_more}

any_has : (es : List EntryData) (e : EntryData) (j : ℕ) (a : TypeTree) → Contains es e → Has e.env j a → AnyHas es j a
any_has [] e j a m h = absurd (none_in e m)
any_has (d ∷ es) e j a m h = elim (uncons d e es m) [
  | inl same ↦ inl (subst (λ (x : EntryData). Has x.env j a) same h)
  | inr there ↦ inr (any_has es e j a there h)
]

module _ (p : ProblemData) (C : List EntryData) where
  -- entries that stand for the environments
  pub record StandFor (i : ℕ) (us : List ℕ) (ss : Env) (Es : List Env) : Type 0 where
    pub places : List (ℕ × ℕ)
    pub entries : List EntryData
    pub are : WeaklyChosen AsStrongAs p C i us ss places entries
    pub same : (j : ℕ) (a : TypeTree) → SomeHas Es j a ↔ AnyHas entries j a

  pub picked_stand : (i : ℕ) {us : List ℕ} {ss : Env} {slots : List (List Env)} (Es : List Env) → AreSlots p C us ss slots → Picks slots Es → StandFor i us ss Es
  picked_stand i [] no_argument q = record { places = []; entries = []; are = done; same = λ j a. (λ h. h, λ h. h) }
  picked_stand i (E ∷ Es) no_argument q = absurd q
  picked_stand i Es (behind_argument x) q = let r = picked_stand (suc i) Es x q in record { places = r.places; entries = r.entries; are = next_argument r.are; same = r.same }
  picked_stand i [] (one_type is x) q = absurd q
  picked_stand i (E ∷ Es) (one_type is x) q =
      let m = is.taken E q.0 in
      let r = picked_stand i Es x q.1 in
      record {
        places = (i, m.1.0.place) ∷ r.places;
        entries = m.0 ∷ r.entries;
        are = choose m.1.0.holds m.1.0.point m.1.0.strong r.are;
        same = λ j a. (
          λ h. elim h [
            | inl k ↦ inl (subst (λ (X : Env). Has X j a) (sym m.1.1) k)
            | inr k ↦ inr ((r.same j a).0 k)
          ],
          λ h. elim h [
            | inl k ↦ inl (subst (λ (X : Env). Has X j a) m.1.1 k)
            | inr k ↦ inr ((r.same j a).1 k)
          ],
        );
      }

  -- what asks at least each of the chosen asks one of each slot
  pub asks_of_each : {i : ℕ} {us : List ℕ} {ss : Env} {slots : List (List Env)} {places : List (ℕ × ℕ)} {es : List EntryData} → AreSlots p C us ss slots → WeaklyChosen AsStrongAs p C i us ss places es
      → (U : Env) → ((e : EntryData) → Contains es e → AsksAtLeast AsStrongAs U e.env) → (slot : List Env) → Contains slots slot → AsksOneOf slot U
  asks_of_each no_argument done U f slot m = absurd (none_in slot m)
  asks_of_each (behind_argument x) (next_argument y) U f slot m = asks_of_each x y U f slot m
  asks_of_each (one_type {of = of} {slots = slots} is x) (choose {place = place} {e = e} {es = es} holds point strong y) U f slot m = elim (uncons of slot slots m) [
    | inl same ↦
        let s = is.each e (record { place = place; holds = holds; point = point; strong = strong }) in
        subst (λ (z : List Env). AsksOneOf z U) (sym same) (s.0, (s.1.0, env_trans U e.env s.0 (f e (here e es)) s.1.1))
    | inr there ↦ asks_of_each x y U (λ d k. f d (later e d es k)) slot there
  ]

  pub record IsChosenAt (us : List ℕ) (e : EntryData) : Type 0 where
    pub shape : InShape p e
    pub argument : Contains us e.point

  pub chosen_at : {i : ℕ} {us : List ℕ} {ss : Env} {places : List (ℕ × ℕ)} {es : List EntryData} → WeaklyChosen AsStrongAs p C i us ss places es → (e : EntryData) → Contains es e → IsChosenAt us e
  chosen_at done e m = absurd (none_in e m)
  chosen_at (next_argument {u = u} {us = us} y) e m = let r = chosen_at y e m in record { shape = r.shape; argument = later u e.point us r.argument }
  chosen_at (choose {u = u} {us = us} {e = d} {es = es} holds point strong y) e m = elim (uncons d e es m) [
    | inl same ↦ record {
      shape = subst (λ (x : EntryData). InShape p x) (sym same) holds.shape;
      argument = subst (λ k. Contains (u ∷ us) k) (sym (ap (λ (x : EntryData). x.point) same ∙ point)) (here u us);
    }
    | inr there ↦ chosen_at y e there
  ]

module _ (p : ProblemData) (given : IsSortedProblem p) (C : List EntryData) (point : ℕ) (of : PointData) (at : slice_get p.points.points point ≡ Some of) where
  in_points : (k : ℕ) (d : PointData) → slice_get p.points.points k ≡ Some d → slice_get (points_of p.sorted.scheme.rules).points k ≡ Some d
  in_points k d e = sym (ap (λ (all : PointsData). slice_get all.points k) given.problem.points) ∙ e

  -- an entry at an argument has an environment for the point's rule
  pub argument_long : (e : EntryData) → IsChosenAt p C of.args e → length e.env ≡ params_of p of.rule
  argument_long e c =
      let place = c.argument in
      let a = (are_terms p.sorted.scheme.rules).arguments point of place.0 e.point (in_points point of at) (slice_get-read of.args place.0 e.point place.1 place.2) in
      let same : a.0 ≡ c.shape.of = same_Some a.0 c.shape.of (sym a.1 ∙ in_points e.point c.shape.of c.shape.at) in
      c.shape.env.long ∙ ap (λ (d : PointData). params_of p d.rule) (sym same) ∙ ap (params_of p) a.2

  -- a union asks at least what each of the chosen asks
  pub union_asks : {ss : Env} {places : List (ℕ × ℕ)} {es : List EntryData} → WeaklyChosen AsStrongAs p C 0 of.args ss places es → (U : Env) → ((j : ℕ) (a : TypeTree) → j < params_of p of.rule → AnyHas es j a → Has U j a)
      → (e : EntryData) → Contains es e → AsksAtLeast AsStrongAs U e.env
  union_asks {es = es} are U has e m j a h =
      let c = chosen_at p C are e m in
      let long = argument_long e c in
      let within : j < length e.env = has_within e.env j a h in
      (a, (has j a (omega (arith, within, long)) (any_has es e j a m h), strong_refl p.sorted.automaton.states a (c.shape.types j a h)))

module _ (p : ProblemData) (given : IsSortedProblem p) (C : List EntryData) (V : List VoidData) (point : ℕ) (of : PointData) (at : slice_get p.points.points point ≡ Some of) where
  abbrev n : ℕ
  n = params_of p of.rule

  -- by the least ones
  abbrev Decides : (Env → Type 0) → List Env → Type 0
  Decides P kept = (K : Env) → Contains kept K → P K

  pub blocked : (first : SiteData) (B : Env) → first.point ≡ point → (slots : List (List Env)) → AreSlots p C of.args (sets_for B first.given of.args) slots → (kept : List Env)
      → AscendAll kept → AreLeastUnions n (IsVoid p C V of.rule) (replicate n []) slots kept → IsBlocked p C V first B ↔ Decides (IsVoid p C V of.rule) kept
  blocked s B is slots are kept ascend least = (to, back)
    where
      at_site : slice_get p.points.points s.point ≡ Some of
      at_site = ap (λ k. slice_get p.points.points k) is ∙ at

      to : IsBlocked p C V s B → Decides (IsVoid p C V of.rule) kept
      to h K m =
          let u = least.unions K m in
          let r = picked_stand p C 0 u.chosen are u.picked in
          h of at_site r.places r.entries r.are K (record {
            is_env = record { long = u.union.long; sets = ascend K m };
            union = λ j a lt. (
              λ k. elim ((u.union.exact j a).0 k) [
                | inl e ↦ absurd (empties_has n j a e)
                | inr e ↦ (r.same j a).0 e
              ],
              λ k. (u.union.exact j a).1 (inr ((r.same j a).1 k)),
            );
          })

      one : Decides (IsVoid p C V of.rule) kept → (places : List (ℕ × ℕ)) (es : List EntryData) → WeaklyChosen AsStrongAs p C 0 of.args (sets_for B s.given of.args) places es → (U : Env) → IsUnionOf n es U → IsVoid p C V of.rule U
      one all places es chosen U union =
          let each = union_asks p given C point of at chosen U (λ j a lt k. (union.union j a lt).1 k) in
          elim (least.least U (λ j a k. absurd (empties_has n j a k)) (asks_of_each p C are chosen U each)) [
            | inl k ↦ void_more p C V of.rule U k.0 k.1.1 (all k.0 k.1.0)
            | inr v ↦ v
          ]

      back : Decides (IsVoid p C V of.rule) kept → IsBlocked p C V s B
      back all d there = subst (λ (x : PointData). (places : List (ℕ × ℕ)) (es : List EntryData) → WeaklyChosen AsStrongAs p C 0 x.args (sets_for B s.given x.args) places es → (U : Env) → IsUnionOf (params_of p x.rule) es U → IsVoid p C V x.rule U)
          (same_Some of d (sym at_site ∙ there)) (one all)

  -- the type that is asked of a parameter at the head is in shape
  head_asks : (head : Head) (by : HeadBy) (ty : TypeTree) → IsHeadType p C of.rule head by ty → (j : ℕ) (a : TypeTree) → HeadHas head ty j a → IsType p.sorted.automaton.states a
  head_asks (Var x) (Param y place) ty h j a k = subst (λ (t : TypeTree). IsType p.sorted.automaton.states t) (sym (k.1 ∙ h.1.is)) h.1.holds.shape.ty
  head_asks (Var x) (Rule place) ty h j a k = absurd h
  head_asks (Var x) (Terminal q child) ty h j a k = absurd h
  head_asks (Nt f) by ty h j a k = absurd k
  head_asks (Tm b) by ty h j a k = absurd k

  abbrev entry : Env → TypeTree → EntryData
  entry K ty = record { point = point; env = K; ty = ty }

  covered_more : (ty : TypeTree) (U K : Env) → AsksAtLeast AsStrongAs U K → IsCoveredIn AsStrongAs p C (entry K ty) → IsCoveredIn AsStrongAs p C (entry U ty)
  covered_more ty U K asks c = (c.0, c.1, (c.2.0, record { point = c.2.1.point; ty = c.2.1.ty; env = env_trans U K c.1.env asks c.2.1.env }))

  abbrev IsUnionAsked : TypeTree → List EntryData → Env → Type 0
  IsUnionAsked ty es U = (j : ℕ) (a : TypeTree) → j < length U → Has U j a ↔ (HeadHas of.head ty j a ⊎ AnyHas es j a)

  abbrev Settled : TypeTree → Env → Type 0
  Settled ty U = IsSettled p C V point of.rule ty U

  pub follow : (sets : Env) (ty : TypeTree) (by : HeadBy) → IsHeadType p C of.rule of.head by (arrows sets ty) → (first : Env) → IsHeadEnv n of.head (arrows sets ty) first → (slots : List (List Env)) → AreSlots p C of.args sets slots
      → (kept : List Env) → AscendAll kept → AreLeastUnions n (IsVoid p C V of.rule) first slots kept → (K : Env) → Contains kept K → WeaklyFollows AsStrongAs p C (entry K ty)
  follow sets ty by head first is slots are kept ascend least K m =
      let u = least.unions K m in
      let r = picked_stand p C 0 u.chosen are u.picked in (
        record { head = by; args = r.places },
        record {
          of = of;
          at = at;
          sets = sets;
          head = head;
          chosen = r.entries;
          are = r.are;
          env = record { long = u.union.long; sets = ascend K m };
          union = λ j a lt. (
            λ k. elim ((u.union.exact j a).0 k) [
              | inl e ↦ inl ((is.exact j a).0 e)
              | inr e ↦ inr ((r.same j a).0 e)
            ],
            λ k. (u.union.exact j a).1 (elim k [
              | inl e ↦ inl ((is.exact j a).1 e)
              | inr e ↦ inr ((r.same j a).1 e)
            ]),
          );
        },
      )

  pub settled : (sets : Env) (ty : TypeTree) (by : HeadBy) → IsHeadType p C of.rule of.head by (arrows sets ty) → (first : Env) → IsHeadEnv n of.head (arrows sets ty) first → (slots : List (List Env)) → AreSlots p C of.args sets slots
      → (kept : List Env) → AreLeastUnions n (IsVoid p C V of.rule) first slots kept → Decides (Settled ty) kept
      → (places : List (ℕ × ℕ)) (es : List EntryData) → WeaklyChosen AsStrongAs p C 0 of.args sets places es → (U : Env) → IsEnv n U → IsUnionAsked (arrows sets ty) es U → Settled ty U
  settled sets ty by head first is slots are kept least all places es chosen U env union =
      let each = union_asks p given C point of at chosen U (λ j a lt k. (union j a (omega (arith, lt, env.long))).1 (inr k)) in
      let own_asked : AsksAtLeast AsStrongAs U first =
      λ j a k.
      let within : j < length first = has_within first j a k in
      let asked : HeadHas of.head (arrows sets ty) j a = (is.exact j a).0 k in
      (a, ((union j a (omega (arith, within, env.long, is.long))).1 (inl asked), strong_refl p.sorted.automaton.states a (head_asks of.head by (arrows sets ty) head j a asked))) in
      elim (least.least U own_asked (asks_of_each p C are chosen U each)) [
        | inl k ↦ elim (all k.0 k.1.0) [
          | inl c ↦ inl (covered_more ty U k.0 k.1.1 c)
          | inr v ↦ inr (void_more p C V of.rule U k.0 k.1.1 v)
        ]
        | inr v ↦ inr v
      ]
