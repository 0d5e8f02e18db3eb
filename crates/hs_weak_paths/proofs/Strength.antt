-- A term that is rejected by a type is rejected by each type that this one is as strong as. At an arrow the sets change sides: an argument that
-- is rejected by the set of the weaker arrow is rejected by that of the stronger one.
use Rattle.std.proofs.Common.{ℕ, List, Option, Contains}
use Rattle.hs_scheme.specs.declared.term.Head.{Head}
use Rattle.hs_scheme.specs.Tree.{Tree, none, more}
use Rattle.hs_scheme.specs.acceptance.Replacement.{applied}
use Rattle.hs_scheme.specs.Problem.{ProblemData}
use Rattle.hs_weak.specs.Strength.{AsStrongAs, SomeAsStrongAs, same_state, stronger_arrow, some}
use Rattle.hs_weak_paths.proofs.Rejected.{IsRejected, by_member, by_members}

module _ (p : ProblemData) where
  mutual
    pub weaker : {a b : Tree (Option ℕ)} → AsStrongAs a b → (t : Tree Head) → IsRejected p a t → IsRejected p b t
    weaker same_state t h = h
    weaker (stronger_arrow {ss = ss} {rs = rs} result sets) t h = λ d each.
        weaker result (applied t (more d none)) (h d (by_members p ss d (λ a m. member_rejects (sets a m) d (λ b n. by_member p rs d b each n))))

    member_rejects : {s : List (Tree (Option ℕ))} {a : Tree (Option ℕ)} → SomeAsStrongAs s a → (d : Tree Head) → ((b : Tree (Option ℕ)) → Contains s b → IsRejected p b d) → IsRejected p a d
    member_rejects (some b m strong) d each = weaker strong d (each b m)
