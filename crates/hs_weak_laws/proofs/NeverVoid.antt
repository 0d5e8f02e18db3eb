-- No built tuple has a void environment.
use Rattle.std.proofs.Common.{◌≡◌, refl, sym, ◌∙◌, ap, subst, ℕ, zero, suc, ◌+◌, ◌<◌, List, [], ◌∷◌, ◌++◌, length, map, slice_get, Some, arith, Contains, ◌⊎◌, inl, inr, ◌↔◌, length-append}
use Rattle.std.proofs.lemmas.List.{length-map}
use Rattle.std.proofs.lemmas.Option.{same_Some}
use Rattle.hs_scheme.specs.declared.term.Head.TheVariants.{Nt}
use Rattle.hs_scheme.specs.Tree.{Trees, node, children}
use Rattle.hs_scheme.specs.flow.Points.{PointData}
use Rattle.hs_scheme.specs.Problem.{ProblemData}
use Rattle.hs_scheme.proofs.Lists.{none_in, uncons, at_append, back_at}
use Rattle.hs_table.specs.Types.{TypeTree, state}
use Rattle.hs_table.specs.Entries.{Env, EntryData, Has, params_of}
use Rattle.hs_table_laws.proofs.Arrows.{has_within}
use Rattle.hs_verdict.specs.Closures.{Closure, argument_closures}
use Rattle.hs_verdict.proofs.Unions.{union}
use Rattle.hs_weak.specs.Strength.{AsStrongAs}
use Rattle.hs_weak.specs.Sites.{SiteData, IsSite, IsChainFrom}
use Rattle.hs_weak.specs.Void.{HasEntry, Misses, VoidData, IsVoid, sets_for, IsUnionOf, IsBlocked, IsVoidList}
use Rattle.hs_weak.proofs.Strength.{strong_trans}
use Rattle.hs_weak_laws.specs.WeaklyTyped.{HasWeakType, has, HasEnv}
use Rattle.hs_weak_laws.specs.Built.{IsPieces, full, no_more, piece, IsBuilt}
use Rattle.hs_weak_laws.proofs.Choices.{pick, have_sets_for, weaken_env}

pub map_at : {A B : Type 0} (f : A → B) (xs : List A) (i : ℕ) (x : A) → slice_get xs i ≡ Some x → slice_get (map f xs) i ≡ Some (f x)
map_at f [] i x e = absurd (cc)
map_at f (y ∷ ys) zero x e = ap (λ z. Some (f z)) (same_Some y x e)
map_at f (y ∷ ys) (suc i) x e = map_at f ys i x e

pub length-argument_closures : (args : List ℕ) (cs : Trees ℕ) → length (argument_closures args cs) ≡ length args
length-argument_closures args cs = length-map args (λ a. node a cs)

-- the environment that asks just what the entries ask
pub union_of : (n : ℕ) (es : List EntryData) → (env : Env) × IsUnionOf n es env
union_of n es =
    let u = union n (Nt 0) (state 0) es in
    (u.env, record { is_env = u.is_env; union = λ j a lt. let within : j < length u.env = omega (arith, u.is_env.long, lt) in both (u.all j a within) })
  where
    none_or : {A : Type 0} → ⊥ ⊎ A → A
    none_or (inl x) = absurd x
    none_or (inr a) = a

    both : {A B : Type 0} → A ↔ (⊥ ⊎ B) → A ↔ B
    both h = (λ a. none_or (h.0 a), λ b. h.1 (inr b))

module _ (p : ProblemData) (C : List EntryData) (V : List VoidData) (list : IsVoidList p C V) where
  abbrev Typed : Closure → TypeTree → Type 0
  Typed c t = HasWeakType AsStrongAs p C c t

  abbrev sites_of : {G g : ℕ} {ds : List Closure} → IsPieces p G g ds → List SiteData
  sites_of (full le) = []
  sites_of no_more = []
  sites_of (piece s of cs same site own long is rest) = s ∷ sites_of rest

  -- pieces for all parameters stand on a chain
  chain_of : {G g : ℕ} {ds : List Closure} (x : IsPieces p G g ds) → g + length ds ≡ params_of p G → IsChainFrom p G g (sites_of x)
  chain_of {g = g} {ds = ds} (full le) e = omega (arith, le, e)
  chain_of no_more e = omega (arith, e)
  chain_of {g = g} {ds = ds} (piece {rest = rest} s of cs same site own long is more) e =
      let whole : length ds ≡ length of.args + length rest = ap length is ∙ (length-append (argument_closures of.args cs) rest ∙ ap (λ k. k + length rest) (length-argument_closures of.args cs)) in
      (same, (of, (site, chain_of more (omega (arith, e, whole)))))

  -- the closures have what an environment asks of the parameters from g on
  abbrev HasFrom : ℕ → List Closure → Env → Type 0
  HasFrom g ds E = (i : ℕ) (a : TypeTree) (c : Closure) → slice_get ds i ≡ Some c → Has E (g + i) a → Typed c a

  from_first : (cs : List Closure) (E : Env) → HasEnv AsStrongAs p C cs E → HasFrom 0 cs E
  from_first cs E h i a c at m = let same : 0 + i ≡ i = omega arith in h i a c at (subst (λ k. Has E k a) same m)

  -- so do the closures of a site's arguments, and those behind them
  of_arguments : (g : ℕ) (args : List ℕ) (cs : Trees ℕ) (ds rest : List Closure) (E : Env) → ds ≡ argument_closures args cs ++ rest → HasFrom g ds E
      → (i u : ℕ) (a : TypeTree) → slice_get args i ≡ Some u → Has E (g + i) a → Typed (node u cs) a
  of_arguments g args cs ds rest E is h i u a at m =
      let there : slice_get ds i ≡ Some (node u cs) = ap (λ (xs : List Closure). slice_get xs i) is ∙ at_append (argument_closures args cs) rest i (node u cs) (map_at (λ b. node b cs) args i u at) in
      h i a (node u cs) there m

  of_rest : (g : ℕ) (args : List ℕ) (cs : Trees ℕ) (ds rest : List Closure) (E : Env) → ds ≡ argument_closures args cs ++ rest → HasFrom g ds E → HasFrom (g + length args) rest E
  of_rest g args cs ds rest E is h i a c at m =
      let long : length (argument_closures args cs) ≡ length args = length-argument_closures args cs in
      let there : slice_get ds (length (argument_closures args cs) + i) ≡ Some c = ap (λ (xs : List Closure). slice_get xs (length (argument_closures args cs) + i)) is ∙ (back_at (argument_closures args cs) rest i ∙ at) in
      let same : (g + length args) + i ≡ g + (length (argument_closures args cs) + i) = omega (arith, long) in
      h (length (argument_closures args cs) + i) a c there (subst (λ k. Has E k a) same m)

  has_entry : (u : ℕ) (cs : Trees ℕ) (t : TypeTree) → Typed (node u cs) t → HasEntry p C u t
  has_entry u cs t (has env place ty at strong typed) = (place, record { point = u; env = env; ty = ty }, (at, refl, strong))

  -- a site of the chain misses nothing of what the closures have
  no_miss_at : {G g : ℕ} (s : SiteData) (of : PointData) (cs : Trees ℕ) (ds rest : List Closure) (E : Env) → s.given ≡ g → IsSite p G s of → ds ≡ argument_closures of.args cs ++ rest
      → HasFrom g ds E → Misses p C s E → ⊥
  no_miss_at {g = g} s of cs ds rest E same site is h m =
      let d : PointData = m.gives.of in
      let same_point : d ≡ of = same_Some d of (sym m.gives.at ∙ site.at) in
      let argument : slice_get of.args m.gives.place ≡ Some m.u = subst (λ (k : PointData). slice_get k.args m.gives.place ≡ Some m.u) same_point m.gives.argument in
      let parameter : m.j ≡ g + m.gives.place = m.gives.parameter ∙ ap (λ k. k + m.gives.place) same in
      m.lacks (has_entry m.u cs m.t (of_arguments g of.args cs ds rest E is h m.gives.place m.u m.t argument (subst (λ k. Has E k m.t) parameter m.asked)))

  no_miss : {G g : ℕ} {ds : List Closure} (x : IsPieces p G g ds) (E : Env) → HasFrom g ds E → (s : SiteData) → Contains (sites_of x) s → Misses p C s E → ⊥
  no_miss (full le) E h s m miss = none_in s m
  no_miss no_more E h s m miss = none_in s m
  no_miss {G = G} {g = g} {ds = ds} (piece {rest = rest} s0 of cs same site own long is more) E h s m miss = elim (uncons s0 s (sites_of more) m) [
    | inl e ↦ no_miss_at {G = G} {g = g} s0 of cs ds rest E same site is h (subst (λ (k : SiteData). Misses p C k E) e miss)
    | inr there ↦ no_miss more E (of_rest g of.args cs ds rest E is h) s there miss
  ]

  -- no site of the pieces is blocked for what the closures have
  abbrev NoneBlocked : {G g : ℕ} {ds : List Closure} → IsPieces p G g ds → Type 0
  NoneBlocked {g = g} {ds = ds} x = (s : SiteData) → Contains (sites_of x) s → (B : Env) → HasFrom g ds B → IsBlocked p C V s B → ⊥

  never : (G : ℕ) (cs : List Closure) (pieces : IsPieces p G 0 cs) → length cs ≡ params_of p G → NoneBlocked pieces → (E : Env) → HasEnv AsStrongAs p C cs E → IsVoid p C V G E → ⊥
  never G cs pieces long none E h (inr missed) =
      let m = missed (sites_of pieces) (chain_of pieces (omega (arith, long))) in
      no_miss pieces E (from_first cs E h) m.0 m.1.0 m.1.1
  never G cs pieces long none E h (inl (v, (m, same, asks))) =
      let chain : IsChainFrom p v.rule 0 (sites_of pieces) = subst (λ k. IsChainFrom p k 0 (sites_of pieces)) (sym same) (chain_of pieces (omega (arith, long))) in
      let b = (list v m).1 (sites_of pieces) chain in
      none b.0 b.1.0 v.env (from_first cs v.env (weaken_env AsStrongAs p C strong_trans cs E v.env asks h)) b.1.1

  -- by recursion on how the tuple is built: what a blocked site's arguments ask would be void for the tuple under them
  none_blocked : {G g : ℕ} {ds : List Closure} (x : IsPieces p G g ds) → NoneBlocked x
  none_blocked (full le) s m B h blocked = none_in s m
  none_blocked no_more s m B h blocked = none_in s m
  none_blocked {G = G} {g = g} {ds = ds} (piece {rest = rest} s0 of cs same site own long is more) s m B h blocked = elim (uncons s0 s (sites_of more) m) [
    | inl e ↦
        let row = have_sets_for AsStrongAs p C cs B s0.given of.args
        (λ i u a at k. of_arguments g of.args cs ds rest B is h i u a at (subst (λ n. Has B (n + i) a) same k)) in
        let k = pick AsStrongAs p C cs 0 of.args (sets_for B s0.given of.args) row in
        let u = union_of (params_of p of.rule) k.entries in
        never of.rule (children cs) own long (none_blocked own) u.0
        (λ j a c at_j q. k.had j a c at_j ((u.1.union j a (let w = has_within u.0 j a q in omega (arith, w, u.1.is_env.long))).0 q))
        ((subst (λ (z : SiteData). IsBlocked p C V z B) e blocked) of site.at k.places k.entries k.are u.0 u.1)
    | inr there ↦ none_blocked more s there B (of_rest g of.args cs ds rest B is h) blocked
  ]

  pub never_void : (G : ℕ) (cs : List Closure) → IsBuilt p G cs → (E : Env) → HasEnv AsStrongAs p C cs E → IsVoid p C V G E → ⊥
  never_void G cs b = never G cs b.pieces b.long (none_blocked b.pieces)
