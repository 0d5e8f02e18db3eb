-- Environments that are unions, and entries chosen for the sets of a head type.
use Rattle.std.proofs.Common.{◌≡◌, refl, sym, ap, subst, ℕ, zero, suc, ◌<◌, true, false, nat_eq, cond, List, [], ◌∷◌, ◌++◌, length, slice_get, Some, arith, Contains, ◌⊎◌, inl, inr, ◌↔◌}
use Rattle.std.proofs.lemmas.Bool.{eqb-true, eq-eqb}
use Rattle.std.proofs.lemmas.List.Elements.{Contains-append_left, Contains-append_right, Contains-append_cases}
use Rattle.hs_scheme.specs.declared.term.Head.{Head}
use Rattle.hs_scheme.specs.declared.term.Head.TheVariants.{Var, Nt, Tm}
use Rattle.hs_scheme.specs.Tree.{Trees, node, children}
use Rattle.hs_scheme.specs.Problem.{ProblemData}
use Rattle.hs_scheme.proofs.Lists.{none_in, here, later, only}
use Rattle.hs_table.specs.Types.{TypeTree, IsSet}
use Rattle.hs_table.specs.Entries.{Env, EntryData, Has, set_at, IsEnv}
use Rattle.hs_table.specs.Follows.{HeadHas, AnyHas, Chosen, done, next_argument, choose}
use Rattle.hs_table_laws.proofs.Sets.{no_set, set_of, set_of-IsSet, set_of-Contains}
use Rattle.hs_verdict.specs.Closures.{Closure, argument_closures}
use Rattle.hs_verdict.specs.Typed.{HasType, has, Have}

-- a set for each of n places
abbrev build : ℕ → (ℕ → List TypeTree) → Env
build zero f = []
build (suc n) f = f 0 ∷ build n (λ j. f (suc j))

length-build : (n : ℕ) (f : ℕ → List TypeTree) → length (build n f) ≡ n
length-build zero f = refl
length-build (suc n) f = ap suc (length-build n (λ j. f (suc j)))

build_at : (n : ℕ) (f : ℕ → List TypeTree) (j : ℕ) → j < n → set_at (build n f) j ≡ f j
build_at zero f j h = absurd (omega arith)
build_at (suc n) f zero h = refl
build_at (suc n) f (suc j) h = build_at n (λ k. f (suc k)) j (omega arith)

build_sets : (n : ℕ) (f : ℕ → List TypeTree) → ((j : ℕ) → IsSet (f j)) → (j : ℕ) → IsSet (set_at (build n f) j)
build_sets zero f h j = no_set
build_sets (suc n) f h zero = h 0
build_sets (suc n) f h (suc j) = build_sets n (λ k. f (suc k)) (λ k. h (suc k)) j

-- what the entries ask of parameter j
abbrev gathered : List EntryData → ℕ → List TypeTree
gathered [] j = []
gathered (e ∷ es) j = set_at e.env j ++ gathered es j

gathered_all : (es : List EntryData) (j : ℕ) (a : TypeTree) → AnyHas es j a → Contains (gathered es j) a
gathered_all [] j a h = absurd h
gathered_all (e ∷ es) j a (inl h) = Contains-append_left (set_at e.env j) (gathered es j) a h
gathered_all (e ∷ es) j a (inr h) = Contains-append_right (set_at e.env j) (gathered es j) a (gathered_all es j a h)

gathered_only : (es : List EntryData) (j : ℕ) (a : TypeTree) → Contains (gathered es j) a → AnyHas es j a
gathered_only [] j a h = absurd (none_in a h)
gathered_only (e ∷ es) j a h = elim (Contains-append_cases (set_at e.env j) (gathered es j) a h) [
  | inl k ↦ inl k
  | inr k ↦ inr (gathered_only es j a k)
]

-- what the head asks of parameter j
abbrev own : Head → TypeTree → ℕ → List TypeTree
own (Var x) t j = cond (nat_eq j x) (t ∷ []) []
own (Nt f) t j = []
own (Tm b) t j = []

own_all : (h : Head) (t : TypeTree) (j : ℕ) (a : TypeTree) → HeadHas h t j a → Contains (own h t j) a
own_all (Var x) t j a (e, f) = subst (λ b. Contains (cond b (t ∷ []) []) a) (sym (eq-eqb j x e)) (subst (λ b. Contains (t ∷ []) b) (sym f) (here t []))
own_all (Nt g) t j a h = absurd h
own_all (Tm b) t j a h = absurd h

own_only : (h : Head) (t : TypeTree) (j : ℕ) (a : TypeTree) → Contains (own h t j) a → HeadHas h t j a
own_only (Var x) t j a h = elim (nat_eq j x) as (λ b. nat_eq j x ≡ b → Contains (cond b (t ∷ []) []) a → (j ≡ x) × (a ≡ t)) [
  | true ↦ λ e k. (eqb-true j x e, only t a k)
  | false ↦ λ e k. absurd (none_in a k)
] refl h
own_only (Nt g) t j a h = absurd (none_in a h)
own_only (Tm b) t j a h = absurd (none_in a h)

-- the environment for n parameters that has just what the head and the entries ask for
pub record Union (n : ℕ) (h : Head) (t : TypeTree) (es : List EntryData) : Type 0 where
  pub env : Env
  pub is_env : IsEnv n env
  pub all : (j : ℕ) (a : TypeTree) → j < length env → Has env j a ↔ (HeadHas h t j a ⊎ AnyHas es j a)

abbrev asked : Head → TypeTree → List EntryData → ℕ → List TypeTree
asked h t es j = own h t j ++ gathered es j

asked_all : (h : Head) (t : TypeTree) (es : List EntryData) (j : ℕ) (a : TypeTree) → HeadHas h t j a ⊎ AnyHas es j a → Contains (asked h t es j) a
asked_all h t es j a (inl o) = Contains-append_left (own h t j) (gathered es j) a (own_all h t j a o)
asked_all h t es j a (inr g) = Contains-append_right (own h t j) (gathered es j) a (gathered_all es j a g)

asked_only : (h : Head) (t : TypeTree) (es : List EntryData) (j : ℕ) (a : TypeTree) → Contains (asked h t es j) a → HeadHas h t j a ⊎ AnyHas es j a
asked_only h t es j a k = elim (Contains-append_cases (own h t j) (gathered es j) a k) [
  | inl o ↦ inl (own_only h t j a o)
  | inr g ↦ inr (gathered_only es j a g)
]

pub union : (n : ℕ) (h : Head) (t : TypeTree) (es : List EntryData) → Union n h t es
union n h t es =
    let sets : ℕ → List TypeTree = λ j. set_of (asked h t es j) in
    let long : length (build n sets) ≡ n = length-build n sets in
    record {
      env = build n sets;
      is_env = record { long = long; sets = build_sets n sets (λ j. set_of-IsSet (asked h t es j)) };
      all = λ j a lt.
          let at : set_at (build n sets) j ≡ set_of (asked h t es j) = build_at n sets j (omega (arith, long, lt)) in (
            λ k. asked_only h t es j a ((set_of-Contains (asked h t es j) a).0 (subst (λ (s : List TypeTree). Contains s a) at k)),
            λ k. subst (λ (s : List TypeTree). Contains s a) (sym at) ((set_of-Contains (asked h t es j) a).1 (asked_all h t es j a k)),
          );
    }

-- entries chosen for the sets of arguments, the first of them number i; what they ask for the closures have
module _ (p : ProblemData) (T : List EntryData) (cs : Trees ℕ) where
  pub record Picked (i : ℕ) (args : List ℕ) (ss : Env) : Type 0 where
    pub places : List (ℕ × ℕ)
    pub entries : List EntryData
    pub are : Chosen p T i args ss places entries
    pub had : (j : ℕ) (a : TypeTree) (c : Closure) → slice_get (children cs) j ≡ Some c → AnyHas entries j a → HasType p T c a

  add : (i u : ℕ) (us : List ℕ) (a : TypeTree) (s : List TypeTree) (ss : Env) → HasType p T (node u cs) a → Picked i (u ∷ us) (s ∷ ss) → Picked i (u ∷ us) ((a ∷ s) ∷ ss)
  add i u us a s ss (has env place at typed) k = record {
    places = (i, place) ∷ k.places;
    entries = record { point = u; env = env; ty = a } ∷ k.entries;
    are = choose at refl refl k.are;
    had = λ j b c at_j h. either j b c at_j h;
  }
    where
      either : (j : ℕ) (b : TypeTree) (c : Closure) → slice_get (children cs) j ≡ Some c → Has env j b ⊎ AnyHas k.entries j b → HasType p T c b
      either j b c at_j (inl h) = typed j b c at_j h
      either j b c at_j (inr h) = k.had j b c at_j h

  set_picked : (i u : ℕ) (us : List ℕ) (s : List TypeTree) (ss : Env) → ((a : TypeTree) → Contains s a → HasType p T (node u cs) a) → Picked (suc i) us ss → Picked i (u ∷ us) (s ∷ ss)
  set_picked i u us [] ss f k = record { places = k.places; entries = k.entries; are = next_argument k.are; had = k.had }
  set_picked i u us (a ∷ s) ss f k = add i u us a s ss (f a (here a s)) (set_picked i u us s ss (λ b h. f b (later a b s h)) k)

  pub pick : (i : ℕ) (args : List ℕ) (ss : Env) → Have p T (argument_closures args cs) ss → Picked i args ss
  pick i [] [] h = record { places = []; entries = []; are = done; had = λ j a c at k. absurd k }
  pick i [] (s ∷ ss) h = absurd h
  pick i (u ∷ us) [] h = absurd h
  pick i (u ∷ us) (s ∷ ss) h = set_picked i u us s ss h.0 (pick (suc i) us ss h.1)

-- closures that have sets, in two parts; and by places
module _ (p : ProblemData) (T : List EntryData) where
  pub record Parts (xs ys : List Closure) (ss : Env) : Type 0 where
    pub front : Env
    pub back : Env
    pub is : ss ≡ front ++ back
    pub have_front : Have p T xs front
    pub have_back : Have p T ys back

  pub parts : (xs ys : List Closure) (ss : Env) → Have p T (xs ++ ys) ss → Parts xs ys ss
  parts [] ys ss h = record { front = []; back = ss; is = refl; have_front = tt; have_back = h }
  parts (x ∷ xs) ys [] h = absurd h
  parts (x ∷ xs) ys (s ∷ ss) h = let k = parts xs ys ss h.1 in
      record { front = s ∷ k.front; back = k.back; is = ap (λ r. s ∷ r) k.is; have_front = (h.0, k.have_front); have_back = k.have_back }

  pub have_by_place : (ds : List Closure) (ss : Env) → length ss ≡ length ds → ((j : ℕ) (a : TypeTree) (d : Closure) → slice_get ds j ≡ Some d → Has ss j a → HasType p T d a) → Have p T ds ss
  have_by_place [] [] e f = tt
  have_by_place [] (s ∷ ss) e f = absurd (omega arith)
  have_by_place (d ∷ ds) [] e f = absurd (omega arith)
  have_by_place (d ∷ ds) (s ∷ ss) e f = (λ a h. f 0 a d refl h, have_by_place ds ss (omega arith) (λ j a c at h. f (suc j) a c at h))
