-- Strength is reflexive and transitive, and how types compare that are.
use Rattle.std.proofs.Common.{◌≡◌, refl, sym, ◌∙◌, ap, subst, ℕ, List, ◌∷◌, Option, Some, None, Contains, inl, inr}
use Rattle.hs_scheme.specs.Tree.{Tree, Trees, node, none, more, forest, children, children-forest, forest-children}
use Rattle.hs_scheme.specs.Problem.{ProblemData}
use Rattle.hs_scheme.proofs.Lists.{none_in, here, later, uncons}
use Rattle.hs_table.specs.Types.{TypeTree, state, arrow, IsType, AreTypes}
use Rattle.hs_table.specs.Entries.{Env, EntryData, Has, InShape}
use Rattle.hs_weak.specs.Strength.{AsStrongAs, SomeAsStrongAs, same_state, stronger_arrow, some, AsksFor, AsksEach, AsksAtLeast, Covers}

pub some_asks : (s : List TypeTree) (a : TypeTree) → SomeAsStrongAs s a → AsksFor AsStrongAs s a
some_asks s a (some b m h) = (b, (m, h))

pub asks_some : (s : List TypeTree) (a : TypeTree) → AsksFor AsStrongAs s a → SomeAsStrongAs s a
asks_some s a (b, (m, h)) = some b m h

more_to_ask : (b : TypeTree) (s : List TypeTree) (a : TypeTree) → SomeAsStrongAs s a → SomeAsStrongAs (b ∷ s) a
more_to_ask b s a (some c m h) = some c (later b c s m) h

mutual
  pub strong_refl : (n : ℕ) (t : Tree (Option ℕ)) → IsType n t → AsStrongAs t t
  strong_refl n (node (Some q) us) (lt, e) = subst (λ (vs : Trees (Option ℕ)). AsStrongAs (node (Some q) vs) (node (Some q) vs)) (sym e) same_state
  strong_refl n (node None none) h = absurd h
  strong_refl n (node None (more t us)) (type, up, types) = stronger_arrow (strong_refl n t type) (λ a m. row_refl n us types a m)

  row_refl : (n : ℕ) (us : Trees (Option ℕ)) → AreTypes n us → (a : TypeTree) → Contains (children us) a → SomeAsStrongAs (children us) a
  row_refl n none types a m = absurd (none_in a m)
  row_refl n (more t us) types a m = elim (uncons t a (children us) m) [
    | inl e ↦ some t (here t (children us)) (subst (λ (b : TypeTree). AsStrongAs t b) (sym e) (strong_refl n t types.0))
    | inr k ↦ more_to_ask t (children us) a (row_refl n us types.1 a k)
  ]

through_one : (ws : List TypeTree) (b a : TypeTree) → ((d : TypeTree) → AsStrongAs d b → AsStrongAs d a) → SomeAsStrongAs ws b → SomeAsStrongAs ws a
through_one ws b a f (some d m h) = some d m (f d h)

through_set : (rs ws : List TypeTree) → ((b : TypeTree) → Contains rs b → (d a : TypeTree) → AsStrongAs d b → AsStrongAs b a → AsStrongAs d a) → ((b : TypeTree) → Contains rs b → SomeAsStrongAs ws b)
    → (a : TypeTree) → SomeAsStrongAs rs a → SomeAsStrongAs ws a
through_set rs ws through g a (some b m h) = through_one ws b a (λ d k. through b m d a k h) (g b m)

-- by recursion on the type between
mutual
  pub strong_through : (u t v : Tree (Option ℕ)) → AsStrongAs t u → AsStrongAs u v → AsStrongAs t v
  strong_through (node (Some q) none) t v same_state k = k
  strong_through (node (Some q) (more x xs)) t v h k = elim h [ ]
  strong_through (node None none) t v h k = elim h [ ]
  strong_through (node None (more u us)) t v (stronger_arrow {t = result} h f) (stronger_arrow {u = other} {rs = ws} k g) =
      stronger_arrow (strong_through u result other h k) (λ a m. through_set (children us) (children ws) (through_row us) g a (f a m))

  through_row : (us : Trees (Option ℕ)) (b : TypeTree) → Contains (children us) b → (d a : TypeTree) → AsStrongAs d b → AsStrongAs b a → AsStrongAs d a
  through_row none b m d a k h = absurd (none_in b m)
  through_row (more u us) b m d a k h = elim (uncons u b (children us) m) [
    | inl e ↦ strong_through u d a (subst (λ (c : TypeTree). AsStrongAs d c) e k) (subst (λ (c : TypeTree). AsStrongAs c a) e h)
    | inr there ↦ through_row us b there d a k h
  ]

pub strong_trans : (t u v : TypeTree) → AsStrongAs t u → AsStrongAs u v → AsStrongAs t v
strong_trans t u v h k = strong_through u t v h k

pub state_only : (t : TypeTree) (q : ℕ) → AsStrongAs t (state q) → t ≡ state q
state_only t q same_state = refl

-- what is as strong as an arrow is an arrow
pub record StrongArrow (t : TypeTree) (s : List TypeTree) (u : TypeTree) : Type 0 where
  pub set : List TypeTree
  pub result : TypeTree
  pub is : t ≡ arrow set result
  pub strong : AsStrongAs result u
  pub asks : AsksEach AsStrongAs s set

pub strong_arrow : (t : TypeTree) (s : List TypeTree) (u : TypeTree) → AsStrongAs t (arrow s u) → StrongArrow t s u
strong_arrow (node (Some q) us) s u h = elim h [ ]
strong_arrow (node None none) s u h = elim h [ ]
strong_arrow (node None (more t ss)) s u (stronger_arrow h f) = record {
  set = children ss;
  result = t;
  is = ap (λ (us : Trees (Option ℕ)). node None (more t us)) (sym (forest-children ss));
  strong = h;
  asks = λ a m. subst (λ (r : List TypeTree). AsksFor AsStrongAs r a) (children-forest s) (some_asks (children (forest s)) a (f a m));
}

pub arrow_strong : (s r : List TypeTree) (t u : TypeTree) → AsStrongAs t u → AsksEach AsStrongAs r s → AsStrongAs (arrow s t) (arrow r u)
arrow_strong s r t u h f =
    stronger_arrow h (λ a m. asks_some (children (forest r)) a (subst (λ (x : List TypeTree). AsksFor AsStrongAs x a) (sym (children-forest r))
    (f a (subst (λ (x : List TypeTree). Contains x a) (children-forest s) m))))

pub env_refl : (n : ℕ) (E : Env) → ((j : ℕ) (a : TypeTree) → Has E j a → IsType n a) → AsksAtLeast AsStrongAs E E
env_refl n E types j a m = (a, (m, strong_refl n a (types j a m)))

pub env_trans : (E F B : Env) → AsksAtLeast AsStrongAs E F → AsksAtLeast AsStrongAs F B → AsksAtLeast AsStrongAs E B
env_trans E F B h k j a m =
    let x = k j a m in
    let y = h j x.0 x.1.0 in
    (y.0, (y.1.0, strong_trans y.0 x.0 a y.1.1 x.1.1))

pub covers_refl : (p : ProblemData) (e : EntryData) → InShape p e → Covers AsStrongAs e e
covers_refl p e h = record { point = refl; ty = strong_refl p.sorted.automaton.states e.ty h.ty; env = env_refl p.sorted.automaton.states e.env h.types }

pub covers_trans : (d e f : EntryData) → Covers AsStrongAs d e → Covers AsStrongAs e f → Covers AsStrongAs d f
covers_trans d e f h k = record { point = h.point ∙ k.point; ty = strong_trans d.ty e.ty f.ty h.ty k.ty; env = env_trans f.env e.env d.env k.env h.env }
