-- How types, environments and entries compare.
--     AsStrongAs t u       type t is as strong as type u: what is rejected by t is rejected by u
--     AsksFor R s a        the set s asks at least the type a: some type in it is as strong as a
--     AsksEach R s r       it asks at least each type of r
--     AsksAtLeast R E B    the environment E asks at least what B asks: so it does at each parameter
--     Covers R e f         entry e covers entry f: its type is as strong, and f's environment asks at least what its own asks
-- They are written over the relation R that says which type is as strong as which, AsStrongAs or another.
use Rattle.std.specs.Prelude.{◌≡◌, ℕ, List, Option, Some, None, Contains}
use Rattle.hs_scheme.specs.Tree.{Tree, Trees, node, none, more, children}
use Rattle.hs_table.specs.Types.{TypeTree}
use Rattle.hs_table.specs.Entries.{Env, EntryData, set_at}

-- A state is as strong as itself only. An arrow from ss to t is as strong as an arrow from rs to u where t is as strong as u, and for each
-- type in ss some type in rs is as strong.
mutual
  pub data AsStrongAs : Tree (Option ℕ) → Tree (Option ℕ) → Type 0 where
    same_state : {q : ℕ} → AsStrongAs (node (Some q) none) (node (Some q) none)
    stronger_arrow : {t u : Tree (Option ℕ)} {ss rs : Trees (Option ℕ)} → AsStrongAs t u → ((a : Tree (Option ℕ)) → Contains (children ss) a → SomeAsStrongAs (children rs) a)
        → AsStrongAs (node None (more t ss)) (node None (more u rs))

  pub data SomeAsStrongAs : List (Tree (Option ℕ)) → Tree (Option ℕ) → Type 0 where
    some : {s : List (Tree (Option ℕ))} {a : Tree (Option ℕ)} (b : Tree (Option ℕ)) → Contains s b → AsStrongAs b a → SomeAsStrongAs s a

abbrev pub AsksFor : (TypeTree → TypeTree → Type 0) → List TypeTree → TypeTree → Type 0
AsksFor R s a = (b : TypeTree) × (Contains s b × R b a)

abbrev pub AsksEach : (TypeTree → TypeTree → Type 0) → List TypeTree → List TypeTree → Type 0
AsksEach R s r = (a : TypeTree) → Contains r a → AsksFor R s a

abbrev pub AsksAtLeast : (TypeTree → TypeTree → Type 0) → Env → Env → Type 0
AsksAtLeast R E B = (j : ℕ) → AsksEach R (set_at E j) (set_at B j)

pub record Covers (R : TypeTree → TypeTree → Type 0) (e f : EntryData) : Type 0 where
  pub point : e.point ≡ f.point
  pub ty : R e.ty f.ty
  pub env : AsksAtLeast R f.env e.env
