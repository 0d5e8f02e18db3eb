-- The sets of a head type, and the one set of a terminal with a rejected child.
use Rattle.std.proofs.Common.{◌≡◌, refl, sym, ◌∙◌, ap, ℕ, zero, suc, ◌<◌, List, [], ◌∷◌, ◌++◌, slice_get, replicate, set, Option, Some, arith}
use Rattle.hs_scheme.specs.Tree.{Tree, node, none, more, children, children-forest}
use Rattle.hs_table.specs.Types.{TypeTree, state, arrows}
use Rattle.hs_table.specs.Entries.{Env}

abbrev set_of : Tree (Option ℕ) → List TypeTree
set_of (node x none) = []
set_of (node x (more r s)) = children s

abbrev result_of : Tree (Option ℕ) → TypeTree
result_of (node x none) = state 0
result_of (node x (more r s)) = r

-- the head type has further sets behind the given ones
pub record Rest (ss : Env) (t : TypeTree) (all : Env) (q : ℕ) : Type 0 where
  pub rest : Env
  pub split : all ≡ ss ++ rest
  pub is : t ≡ arrows rest (state q)

pub rest_of : (ss : Env) (t : TypeTree) (all : Env) (q : ℕ) → arrows ss t ≡ arrows all (state q) → Rest ss t all q
rest_of [] t all q e = record { rest = all; split = refl; is = e }
rest_of (s ∷ ss) t [] q e = absurd (cc)
rest_of (s ∷ ss) t (a ∷ all) q e =
    let r = rest_of ss t all q (ap result_of e) in
    let same : s ≡ a = sym (children-forest s) ∙ (ap set_of e ∙ children-forest a) in
    record { rest = r.rest; split = (λ i. sym same i ∷ r.split i); is = r.is }

pub one_at : (n i : ℕ) (s : List TypeTree) → i < n → slice_get (set (replicate n []) i s) i ≡ Some s
one_at zero i s lt = absurd (omega arith)
one_at (suc n) zero s lt = refl
one_at (suc n) (suc i) s lt = one_at n i s (omega arith)
