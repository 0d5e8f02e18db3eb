-- Entries chosen for the sets of arguments whose closures have them, and closures that have weaker types.
use Rattle.std.proofs.Common.{◌≡◌, refl, sym, ap, subst, ℕ, suc, ◌+◌, List, [], ◌∷◌, ◌++◌, length, slice_get, Some, arith, Contains, ◌⊎◌, inl, inr}
use Rattle.hs_scheme.specs.Tree.{Trees, node, children}
use Rattle.hs_scheme.specs.Problem.{ProblemData}
use Rattle.hs_scheme.proofs.Lists.{here, later}
use Rattle.hs_table.specs.Types.{TypeTree}
use Rattle.hs_table.specs.Entries.{Env, EntryData, Has, set_at}
use Rattle.hs_table.specs.Follows.{AnyHas}
use Rattle.hs_verdict.specs.Closures.{Closure, argument_closures}
use Rattle.hs_weak.specs.Strength.{AsksEach, AsksAtLeast}
use Rattle.hs_weak.specs.Weak.{WeaklyChosen, done, next_argument, choose}
use Rattle.hs_weak.specs.Void.{sets_for}
use Rattle.hs_weak_laws.specs.WeaklyTyped.{HasWeakType, has, HaveSets, HasEnv}
use Rattle.hs_weak_laws.proofs.Relations.{AskRow}

module _ (R : TypeTree → TypeTree → Type 0) (p : ProblemData) (T : List EntryData) where
  module _ (cs : Trees ℕ) where
    pub record Picked (i : ℕ) (args : List ℕ) (ss : Env) : Type 0 where
      pub places : List (ℕ × ℕ)
      pub entries : List EntryData
      pub are : WeaklyChosen R p T i args ss places entries
      pub had : (j : ℕ) (a : TypeTree) (c : Closure) → slice_get (children cs) j ≡ Some c → AnyHas entries j a → HasWeakType R p T c a

    add : (i u : ℕ) (us : List ℕ) (a : TypeTree) (s : List TypeTree) (ss : Env) → HasWeakType R p T (node u cs) a → Picked i (u ∷ us) (s ∷ ss) → Picked i (u ∷ us) ((a ∷ s) ∷ ss)
    add i u us a s ss (has env place ty at strong typed) k = record {
      places = (i, place) ∷ k.places;
      entries = record { point = u; env = env; ty = ty } ∷ k.entries;
      are = choose at refl strong k.are;
      had = λ j b c at_j h. either j b c at_j h;
    }
      where
        either : (j : ℕ) (b : TypeTree) (c : Closure) → slice_get (children cs) j ≡ Some c → Has env j b ⊎ AnyHas k.entries j b → HasWeakType R p T c b
        either j b c at_j (inl h) = typed j b c at_j h
        either j b c at_j (inr h) = k.had j b c at_j h

    set_picked : (i u : ℕ) (us : List ℕ) (s : List TypeTree) (ss : Env) → ((a : TypeTree) → Contains s a → HasWeakType R p T (node u cs) a) → Picked (suc i) us ss → Picked i (u ∷ us) (s ∷ ss)
    set_picked i u us [] ss f k = record { places = k.places; entries = k.entries; are = next_argument k.are; had = k.had }
    set_picked i u us (a ∷ s) ss f k = add i u us a s ss (f a (here a s)) (set_picked i u us s ss (λ b h. f b (later a b s h)) k)

    pub pick : (i : ℕ) (args : List ℕ) (ss : Env) → HaveSets R p T (argument_closures args cs) ss → Picked i args ss
    pick i [] [] h = record { places = []; entries = []; are = done; had = λ j a c at k. absurd k }
    pick i [] (s ∷ ss) h = absurd h
    pick i (u ∷ us) [] h = absurd h
    pick i (u ∷ us) (s ∷ ss) h = set_picked i u us s ss h.0 (pick (suc i) us ss h.1)

    -- the sets of an environment for arguments
    pub have_sets_for : (B : Env) (g : ℕ) (us : List ℕ) → ((i u : ℕ) (a : TypeTree) → slice_get us i ≡ Some u → Has B (g + i) a → HasWeakType R p T (node u cs) a)
        → HaveSets R p T (argument_closures us cs) (sets_for B g us)
    have_sets_for B g [] f = tt
    have_sets_for B g (u ∷ us) f =
        let first : g + 0 ≡ g = omega arith in (
          λ a m. f 0 u a refl (subst (λ k. Has B k a) (sym first) m),
          have_sets_for B (suc g) us (λ i v a at m. let next : g + suc i ≡ suc g + i = omega arith in f (suc i) v a at (subst (λ k. Has B k a) (sym next) m)),
        )

  -- closures that have sets, in two parts; and by places
  pub record Parts (xs ys : List Closure) (ss : Env) : Type 0 where
    pub front : Env
    pub back : Env
    pub is : ss ≡ front ++ back
    pub have_front : HaveSets R p T xs front
    pub have_back : HaveSets R p T ys back

  pub parts : (xs ys : List Closure) (ss : Env) → HaveSets R p T (xs ++ ys) ss → Parts xs ys ss
  parts [] ys ss h = record { front = []; back = ss; is = refl; have_front = tt; have_back = h }
  parts (x ∷ xs) ys [] h = absurd h
  parts (x ∷ xs) ys (s ∷ ss) h = let k = parts xs ys ss h.1 in
      record { front = s ∷ k.front; back = k.back; is = ap (λ r. s ∷ r) k.is; have_front = (h.0, k.have_front); have_back = k.have_back }

  pub have_by_place : (ds : List Closure) (ss : Env) → length ss ≡ length ds → HasEnv R p T ds ss → HaveSets R p T ds ss
  have_by_place [] [] e f = tt
  have_by_place [] (s ∷ ss) e f = absurd (omega arith)
  have_by_place (d ∷ ds) [] e f = absurd (omega arith)
  have_by_place (d ∷ ds) (s ∷ ss) e f = (λ a h. f 0 a d refl h, have_by_place ds ss (omega arith) (λ j a c at h. f (suc j) a c at h))

  module _ (through : (t u v : TypeTree) → R t u → R u v → R t v) where
    pub weaken : (c : Closure) (t u : TypeTree) → HasWeakType R p T c t → R t u → HasWeakType R p T c u
    weaken c t u (has env place ty at strong typed) h = has env place ty at (through ty t u strong h) typed

    pub weaken_set : (c : Closure) (s r : List TypeTree) → AsksEach R s r → ((a : TypeTree) → Contains s a → HasWeakType R p T c a) → (a : TypeTree) → Contains r a → HasWeakType R p T c a
    weaken_set c s r asks f a m = let k = asks a m in weaken c k.0 a (f k.0 k.1.0) k.1.1

    pub weaken_row : (ds : List Closure) (ss rs : Env) → AskRow R ss rs → HaveSets R p T ds ss → HaveSets R p T ds rs
    weaken_row [] [] [] asks h = tt
    weaken_row [] [] (r ∷ rs) asks h = absurd asks
    weaken_row [] (s ∷ ss) rs asks h = absurd h
    weaken_row (d ∷ ds) [] rs asks h = absurd h
    weaken_row (d ∷ ds) (s ∷ ss) [] asks h = absurd asks
    weaken_row (d ∷ ds) (s ∷ ss) (r ∷ rs) asks h = (weaken_set d s r asks.0 h.0, weaken_row ds ss rs asks.1 h.1)

    pub weaken_env : (cs : List Closure) (E B : Env) → AsksAtLeast R E B → HasEnv R p T cs E → HasEnv R p T cs B
    weaken_env cs E B asks f j a c at m = weaken_set c (set_at E j) (set_at B j) (asks j) (λ b k. f j b c at k) a m
