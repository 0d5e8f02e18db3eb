-- What is chosen for a site's arguments, and whether that is void.
use Rattle.std.proofs.Common.{◌≡◌, refl, sym, ◌∙◌, ap, subst, ℕ, zero, suc, ◌+◌, ◌<◌, ◌≤◌, Bool, true, false, List, [], ◌∷◌, ◌++◌, length, map, get_or, take, replicate, slice_get, Some, Contains, All, IsTrue, ◌↔◌, inl, inr, arith}
use Rattle.std.proofs.lemmas.List.{length-replicate, take_all, get_or_default}
use Rattle.std.proofs.lemmas.List.Elements.{All-contains}
use Rattle.std.proofs.lemmas.Option.{slice_get-get_or, get_or_from_slice_get}
use Rattle.hs_scheme.specs.declared.term.Head.TheVariants.{Tm}
use Rattle.hs_scheme.specs.flow.Points.{PointData, point_at}
use Rattle.hs_scheme.specs.Problem.{ProblemData}
use Rattle.hs_scheme.proofs.Lists.{none_in, here, later, uncons}
use Rattle.hs_table.specs.Types.{TypeTree}
use Rattle.hs_table.specs.Entries.{Env, EntryData, set_at, params_of}
use Rattle.hs_table_laws.proofs.Members.{into_map, taken_next}
use Rattle.hs_verdict.specs.Premises.{IsSortedProblem}
use Rattle.hs_weak.specs.Sites.{SiteData}
use Rattle.hs_weak.specs.Void.{VoidData, IsVoid, sets_for, IsBlocked}
use Rattle.hs_types.specs.Interned.{InternerData, set_of_id, env_of_id, RowData, entry_of, Grows}
use Rattle.hs_types.proofs.Numbers.{set_stays, env_stays}
use Rattle.hs_choices.specs.Unions.{AreLeastUnions}
use Rattle.hs_choices.specs.Slots.{AreSlots, AscendAll}
use Rattle.hs_choices.specs.Numbered.{envs_of, slot_envs, AreOfLength, AreOfArguments, AreNumbered}
use Rattle.hs_choices.proofs.Growing.{all_members, front_or_last}
use Rattle.hs_choices.proofs.Pruning.{argument_long, blocked}
use Rattle.hs_choices.proofs.Choosing.{rows_stand, slots_long}
use Rattle.hs_choices.proofs.Staying.{numbered_stays}
use Rattle.hs_void.specs.Voids.{BasisData, AreRows, AreLeastChoices}

-- ---- sets for arguments

-- their numbers, of an environment's; `none` where there is no such set
abbrev pub ids_for : List ℕ → ℕ → ℕ → List ℕ → List ℕ
ids_for own none g [] = []
ids_for own none g (u ∷ us) = get_or own g none ∷ ids_for own none (suc g) us

pub ids_more : (own : List ℕ) (none g : ℕ) (us : List ℕ) (u n : ℕ) → n ≡ g + length us → ids_for own none g (us ++ u ∷ []) ≡ ids_for own none g us ++ get_or own n none ∷ []
ids_more own none g [] u n is = ap (λ k. get_or own k none ∷ []) (omega (arith, is))
ids_more own none g (v ∷ us) u n is = ap (λ (ss : List ℕ). get_or own g none ∷ ss) (ids_more own none (suc g) us u n (omega (arith, is)))

len_take : (us : List ℕ) (i : ℕ) → i ≤ length us → length (take i us) ≡ i
len_take us zero le = refl
len_take [] (suc i) le = absurd (omega (arith, le))
len_take (u ∷ us) (suc i) le = ap suc (len_take us i (omega (arith, le)))

-- one more, and at the end
pub ids_next : (own : List ℕ) (none g : ℕ) (us : List ℕ) (i : ℕ) → i < length us → (sets after : List ℕ) (s : ℕ) → sets ≡ ids_for own none g (take i us) → s ≡ get_or own (g + i) none → after ≡ sets ++ s ∷ [] → after ≡ ids_for own none g (take (i + 1) us)
ids_next own none g us i lt sets after s so_far is made =
    let u = get_or us i 0 in
    let next : take (i + 1) us ≡ take i us ++ u ∷ [] = taken_next us i u lt (get_or_default us i 0 u lt) in
    let len = len_take us i (omega (arith, lt)) in
    made ∙ ((λ j. so_far j ++ is j ∷ []) ∙ (sym (ids_more own none g (take i us) u (g + i) (ap (λ n. g + n) (sym len))) ∙ ap (ids_for own none g) (sym next)))

pub ids_all : (own : List ℕ) (none g : ℕ) (us : List ℕ) (i : ℕ) → length us ≤ i → (sets : List ℕ) → sets ≡ ids_for own none g (take i us) → sets ≡ ids_for own none g us
ids_all own none g us i past sets so_far = so_far ∙ ap (ids_for own none g) (take_all i us past)

map_get : {X Y : Type 0} (f : X → Y) (xs : List X) (k : ℕ) (d : X) → get_or (map f xs) k (f d) ≡ f (get_or xs k d)
map_get f [] k d = refl
map_get f (x ∷ xs) zero d = refl
map_get f (x ∷ xs) (suc k) d = map_get f xs k d

pub ids_are : (f : ℕ → List TypeTree) (own : List ℕ) (none : ℕ) (E : Env) → map f own ≡ E → f none ≡ [] → (g : ℕ) (us : List ℕ) → map f (ids_for own none g us) ≡ sets_for E g us
ids_are f own none E is empty g [] = refl
ids_are f own none E is empty g (u ∷ us) =
    let first : f (get_or own g none) ≡ set_at E g = sym (map_get f own g none) ∙ (λ i. get_or (is i) g (empty i)) in
    λ i. first i ∷ ids_are f own none E is empty (suc g) us i

id_within : (n : ℕ) (own : List ℕ) (none g : ℕ) → ((k : ℕ) → Contains own k → k < n) → none < n → get_or own g none < n
id_within n [] none g all lt = lt
id_within n (x ∷ own) none zero all lt = all x (here x own)
id_within n (x ∷ own) none (suc g) all lt = id_within n own none g (λ k m. all k (later x k own m)) lt

ids_within : (n : ℕ) (own : List ℕ) (none : ℕ) → ((k : ℕ) → Contains own k → k < n) → none < n → (g : ℕ) (us : List ℕ) (k : ℕ) → Contains (ids_for own none g us) k → k < n
ids_within n own none all lt g [] k m = absurd (none_in k m)
ids_within n own none all lt g (u ∷ us) k m = elim (uncons (get_or own g none) k (ids_for own none (suc g) us) m) [
  | inl is ↦ subst (λ i. i < n) (sym is) (id_within n own none g all lt)
  | inr behind ↦ ids_within n own none all lt (suc g) us k behind
]

pub ids_range : (n : ℕ) (own : List ℕ) (none : ℕ) → All (λ k. k < n) own → none < n → (g : ℕ) (us : List ℕ) → All (λ k. k < n) (ids_for own none g us)
ids_range n own none all lt g us = all_members (λ k. k < n) (ids_for own none g us) (ids_within n own none (λ k m. All-contains (λ k. k < n) own k all m) lt g us)

-- the set of no types is empty
pub set_of_none : (s : List TypeTree) → ((a : TypeTree) → Contains s a ↔ Contains [] a) → s ≡ []
set_of_none [] exact = refl
set_of_none (a ∷ s) exact = absurd (none_in a ((exact a).0 (here a s)))

pub sets_stay : (I J : InternerData) → Grows I J → (ids : List ℕ) → All (λ s. s < length I.sets) ids → map (set_of_id J) ids ≡ map (set_of_id I) ids
sets_stay I J grows ids range = same ids (λ s m. set_stays I J grows s (All-contains (λ s. s < length I.sets) ids s range m))
  where
    same : (xs : List ℕ) → ((x : ℕ) → Contains xs x → set_of_id J x ≡ set_of_id I x) → map (set_of_id J) xs ≡ map (set_of_id I) xs
    same [] h = refl
    same (x ∷ xs) h = λ i. h x (here x xs) i ∷ same xs (λ y m. h y (later x y xs m)) i

-- ---- points

pub point_there : (p : ProblemData) (k : ℕ) → k < length p.points.points → slice_get p.points.points k ≡ Some (point_at p.points k)
point_there p k lt = slice_get-get_or p.points.points k (record { rule = 0; head = Tm 0; args = [] }) lt

-- ---- choices

module _ (b : BasisData) (I : InternerData) (sorted : IsSortedProblem b.problem) (rows : AreRows I b) (point : ℕ) (lt : point < length b.problem.points.points) where
  abbrev of : PointData
  of = point_at b.problem.points point

  pub choices_long : (ss : Env) (slots : List (List ℕ)) → AreOfArguments I b.table of.args ss slots → All (AreOfLength (params_of b.problem of.rule) I) slots
  choices_long ss slots are =
      all_members (λ (slot : List ℕ). AreOfLength (params_of b.problem of.rule) I slot) slots (slots_long (params_of b.problem of.rule) I b.table rows.in_use are
      (λ row there own. argument_long b.problem sorted (map (entry_of I) b.table) point of (point_there b.problem point lt) (entry_of I row)
      (record { shape = rows.shape row there; argument = own })))

-- the least unions are over these slots
module _ (b : BasisData) (I J K : InternerData) (grows : Grows I J) (point : ℕ) (sets : List ℕ) (range : All (λ s. s < length I.sets) sets) (slots : List (List ℕ)) (first : ℕ) (kept : List ℕ) where
  abbrev of_b : PointData
  of_b = point_at b.problem.points point

  abbrev n : ℕ
  n = params_of b.problem of_b.rule

  pub least_choices_are : AreOfArguments J b.table of_b.args (map (set_of_id J) sets) slots → env_of_id J first ≡ replicate n []
      → ((C : List EntryData) (V : List VoidData) → AreNumbered b.problem C V J b.table b.void → AreLeastUnions (length (env_of_id J first)) (IsVoid b.problem C V of_b.rule) (env_of_id J first) (slot_envs J slots) (envs_of K kept))
      → AreLeastChoices b I K of_b sets kept
  least_choices_are chosen empty least C V are =
      let later = numbered_stays b.problem C V I J b.table b.void grows are in (
        slot_envs J slots,
        (
          rows_stand b.problem C J b.table later.rows of_b.args (map (set_of_id I) sets) slots
              (subst (λ (ss : Env). AreOfArguments J b.table of_b.args ss slots) (sets_stay I J grows sets range) chosen),
          subst (λ m. AreLeastUnions m (IsVoid b.problem C V of_b.rule) (replicate n []) (slot_envs J slots) (envs_of K kept)) (length-replicate n [])
              (subst (λ (E : Env). AreLeastUnions (length E) (IsVoid b.problem C V of_b.rule) E (slot_envs J slots) (envs_of K kept)) empty (least C V later)),
        ),
      )

-- whether the site is blocked
module _ (b : BasisData) (I J K : InternerData) (first : Grows I J) (second : Grows J K) (sorted : IsSortedProblem b.problem) (s : SiteData) (lt : s.point < length b.problem.points.points) (E : Env) (sets kept : List ℕ) where
  abbrev at_s : PointData
  at_s = point_at b.problem.points s.point

  pub blocked_by : map (set_of_id J) sets ≡ sets_for E s.given at_s.args → AreLeastChoices b J K at_s sets kept → AscendAll (envs_of K kept) → (void : Bool)
      → ((C : List EntryData) (V : List VoidData) → AreNumbered b.problem C V K b.table b.void → IsTrue void ↔ ((N : Env) → Contains (envs_of K kept) N → IsVoid b.problem C V at_s.rule N))
      → (C : List EntryData) (V : List VoidData) → AreNumbered b.problem C V I b.table b.void → IsTrue void ↔ IsBlocked b.problem C V s E
  blocked_by sets_are least ascend void tells C V are =
      let later = numbered_stays b.problem C V I J b.table b.void first are in
      let last = numbered_stays b.problem C V J K b.table b.void second later in
      let choice = least C V later in
      let slots = subst (λ (ss : Env). AreSlots b.problem C at_s.args ss choice.0) sets_are choice.1.0 in
      let by_law = blocked b.problem sorted C V s.point at_s (point_there b.problem s.point lt) s E refl choice.0 slots (envs_of K kept) ascend choice.1.1 in
      let by_test = tells C V last in
      (λ yes. by_law.1 (by_test.0 yes), λ is. by_test.1 (by_law.0 is))

-- told of a basis and of numbers that are the same
module _ (b : BasisData) (I : InternerData) (C : List EntryData) (V : List VoidData) (are : AreNumbered b.problem C V I b.table b.void) (a : BasisData) (a_is : a ≡ b) (J : InternerData) (J_is : J ≡ I) where
  pub numbered_so : AreNumbered a.problem C V J a.table a.void
  numbered_so = subst (λ (k : BasisData). AreNumbered k.problem C V J k.table k.void) (sym a_is) (subst (λ (K : InternerData). AreNumbered b.problem C V K b.table b.void) (sym J_is) are)

  module _ (rule x : ℕ) (void : Bool) (tells : (C : List EntryData) (V : List VoidData) → AreNumbered a.problem C V J a.table a.void → IsTrue void ↔ IsVoid a.problem C V rule (env_of_id J x)) where
    pub void_so : void ≡ true → IsVoid b.problem C V rule (env_of_id I x)
    void_so is = subst (λ (k : BasisData). IsVoid k.problem C V rule (env_of_id I x)) a_is (subst (λ (K : InternerData). IsVoid a.problem C V rule (env_of_id K x)) J_is ((tells C V numbered_so).0 is))

    pub not_void_so : void ≡ false → IsVoid b.problem C V rule (env_of_id I x) → ⊥
    not_void_so isnt h =
        let own = subst (λ (k : BasisData). IsVoid k.problem C V rule (env_of_id J x)) (sym a_is) (subst (λ (K : InternerData). IsVoid b.problem C V rule (env_of_id K x)) (sym J_is) h) in
        let f : false ≡ true = sym isnt ∙ (tells C V numbered_so).1 own in
        cc

-- those of a list, one more
module _ (b : BasisData) (I : InternerData) (C : List EntryData) (V : List VoidData) (rule : ℕ) (envs : List ℕ) where
  abbrev pub EachVoid : List ℕ → Type 0
  EachVoid ks = (K : Env) → Contains (envs_of I ks) K → IsVoid b.problem C V rule K

  pub each_more : (i x : ℕ) → i < length envs → x ≡ get_or envs i x → EachVoid (take i envs) → IsVoid b.problem C V rule (env_of_id I x) → EachVoid (take (i + 1) envs)
  each_more i x lt is so_far own K m = elim (front_or_last I envs i x lt is K m) [
    | inl was ↦ so_far K was
    | inr same ↦ subst (λ (E : Env). IsVoid b.problem C V rule E) (sym same) own
  ]

  pub each_none : EachVoid (take 0 envs)
  each_none K m = absurd (none_in K m)

  pub each_all : (i : ℕ) → length envs ≤ i → EachVoid (take i envs) → IsTrue true ↔ EachVoid envs
  each_all i past so_far = (λ yes. subst EachVoid (take_all i envs past) so_far, λ h. refl)

  pub one_not : (i x : ℕ) → i < length envs → x ≡ get_or envs i x → (IsVoid b.problem C V rule (env_of_id I x) → ⊥) → IsTrue false ↔ EachVoid envs
  one_not i x lt is not = (
    λ no. let f : false ≡ true = no in cc,
    λ all. absurd (not (all (env_of_id I x) (into_map (env_of_id I) envs x (i, lt, sym is)))),
  )

-- told later, when there are more numbers
module _ (b : BasisData) (I : InternerData) (a : BasisData) (a_is : a ≡ b) (J : InternerData) (grows : Grows I J) where
  pub numbered_later : (C : List EntryData) (V : List VoidData) → AreNumbered b.problem C V I b.table b.void → AreNumbered a.problem C V J a.table a.void
  numbered_later C V are = subst (λ (k : BasisData). AreNumbered k.problem C V J k.table k.void) (sym a_is) (numbered_stays b.problem C V I J b.table b.void grows are)

  pub told_later : (Q : ProblemData → Env → Type 0) (env : ℕ) → env < length I.envs → (t : Bool) → IsTrue t ↔ Q a.problem (env_of_id J env) → IsTrue t ↔ Q b.problem (env_of_id I env)
  told_later Q env lt t tells = subst (λ (k : BasisData). IsTrue t ↔ Q k.problem (env_of_id I env)) a_is (subst (λ (E : Env). IsTrue t ↔ Q a.problem E) (env_stays I J grows env lt) tells)

-- the least choices, told of what is the same
module _ (b : BasisData) (I J : InternerData) (grows : Grows I J) (sorted : IsSortedProblem b.problem) (rows : AreRows J b) (point : ℕ) (lt : point < length b.problem.points.points) (sets : List ℕ) (range : All (λ s. s < length I.sets) sets)
    (rule n first : ℕ) (rule_is : rule ≡ (point_at b.problem.points point).rule) (n_is : n ≡ params_of b.problem rule) (made : slice_get J.envs first ≡ Some (replicate n [])) (args : List ℕ) (args_is : args ≡ (point_at b.problem.points point).args)
    (table : List RowData) (table_is : table ≡ b.table) (slots slice : List (List ℕ)) (slice_is : slice ≡ slots) (are : AreOfArguments J table args (map (set_of_id J) sets) slots) (K : InternerData) (K_is : K ≡ J) where
  abbrev at_point : PointData
  at_point = point_at b.problem.points point

  abbrev count : ℕ
  count = params_of b.problem at_point.rule

  first_is : env_of_id J first ≡ replicate count []
  first_is = get_or_from_slice_get J.envs first (replicate n []) [] made ∙ ap (λ m. replicate m []) (n_is ∙ ap (params_of b.problem) rule_is)

  of_point : AreOfArguments J b.table at_point.args (map (set_of_id J) sets) slots
  of_point = subst (λ (us : List ℕ). AreOfArguments J b.table us (map (set_of_id J) sets) slots) args_is (subst (λ (t : List RowData). AreOfArguments J t args (map (set_of_id J) sets) slots) table_is are)

  pub slots_fit : All (AreOfLength (length (env_of_id K first)) K) slice
  slots_fit =
      let long = choices_long b J sorted rows point lt (map (set_of_id J) sets) slots of_point in
      let own : All (AreOfLength (length (env_of_id J first)) J) slots = subst (λ m. All (AreOfLength m J) slots) (sym (ap length first_is ∙ length-replicate count [])) long in
      subst (λ (ss : List (List ℕ)). All (AreOfLength (length (env_of_id K first)) K) ss) (sym slice_is) (subst (λ (L : InternerData). All (AreOfLength (length (env_of_id L first)) L) slots) (sym K_is) own)

  pub choices_told : (L : InternerData) (kept : List ℕ)
      → ((C : List EntryData) (V : List VoidData) → AreNumbered b.problem C V K b.table b.void → AreLeastUnions (length (env_of_id K first)) (IsVoid b.problem C V rule) (env_of_id K first) (slot_envs K slice) (envs_of L kept))
      → AreLeastChoices b I L at_point sets kept
  choices_told L kept least = least_choices_are b I J L grows point sets range slots first kept of_point first_is (λ C V numbered.
      let at_j = subst (λ (M : InternerData). AreNumbered b.problem C V M b.table b.void → AreLeastUnions (length (env_of_id M first)) (IsVoid b.problem C V rule) (env_of_id M first) (slot_envs M slice) (envs_of L kept)) K_is (least C V) in
      let at_slots = subst (λ (ss : List (List ℕ)). AreLeastUnions (length (env_of_id J first)) (IsVoid b.problem C V rule) (env_of_id J first) (slot_envs J ss) (envs_of L kept)) slice_is (at_j numbered) in
      subst (λ r. AreLeastUnions (length (env_of_id J first)) (IsVoid b.problem C V r) (env_of_id J first) (slot_envs J slots) (envs_of L kept)) rule_is at_slots)

-- whether all of them are void, told of what is the same
pub void_told_of : (b a : BasisData) → a ≡ b → (K : InternerData) (rule r : ℕ) → r ≡ rule → (kept slice : List ℕ) → slice ≡ kept → (void : Bool)
    → ((C : List EntryData) (V : List VoidData) → AreNumbered a.problem C V K a.table a.void → IsTrue void ↔ ((N : Env) → Contains (envs_of K slice) N → IsVoid a.problem C V r N))
    → (C : List EntryData) (V : List VoidData) → AreNumbered b.problem C V K b.table b.void → IsTrue void ↔ ((N : Env) → Contains (envs_of K kept) N → IsVoid b.problem C V rule N)
void_told_of b a a_is K rule r r_is kept slice slice_is void tells C V are =
    let at_basis = subst (λ (k : BasisData). AreNumbered k.problem C V K k.table k.void → IsTrue void ↔ ((N : Env) → Contains (envs_of K slice) N → IsVoid k.problem C V r N)) a_is (tells C V) are in
    let at_rule = subst (λ m. IsTrue void ↔ ((N : Env) → Contains (envs_of K slice) N → IsVoid b.problem C V m N)) r_is at_basis in
    subst (λ (ks : List ℕ). IsTrue void ↔ ((N : Env) → Contains (envs_of K ks) N → IsVoid b.problem C V rule N)) slice_is at_rule

pub sets_long : (E : Env) (g : ℕ) (us : List ℕ) → length (sets_for E g us) ≡ length us
sets_long E g [] = refl
sets_long E g (u ∷ us) = ap suc (sets_long E (suc g) us)
