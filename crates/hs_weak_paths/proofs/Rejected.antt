-- What it means that a term is rejected by a type: a relation on terms, by recursion on the type.
--     FailsIn           some path fails from the term in the state
--     IsRejected        in a state: the term fails in it; by an arrow: with each argument that every type of the set rejects, the result
--                       rejects the application
--     AreRejected       terms, each rejected by every type of its set
-- The terms are any terms, sorted or not.
use Rattle.std.proofs.Common.{◌≡◌, refl, sym, ◌∙◌, ap, ℕ, zero, suc, List, [], ◌∷◌, ◌++◌, length, slice_get, Option, Some, None, Contains, arith, inl, inr}
use Rattle.std.proofs.Common.{subst as along}
use Rattle.std.proofs.lemmas.Option.{same_Some}
use Rattle.hs_scheme.specs.declared.term.Head.{Head}
use Rattle.hs_scheme.specs.Tree.{Tree, Trees, node, none, more, forest, children, children-forest}
use Rattle.hs_scheme.specs.acceptance.Replacement.{applied}
use Rattle.hs_scheme.specs.acceptance.Steps.{Path, Fails}
use Rattle.hs_scheme.specs.Problem.{ProblemData}
use Rattle.hs_scheme.proofs.Lists.{none_in, here, later, uncons}
use Rattle.hs_steps.proofs.Terms.{applied-none, applied-applied}
use Rattle.hs_table.specs.Types.{TypeTree, arrows}
use Rattle.hs_table.specs.Entries.{Env, Has}

module _ (p : ProblemData) where
  pub record FailsIn (q : ℕ) (t : Tree Head) : Type 0 where
    pub steps : ℕ
    pub path : Path
    pub fails : Fails p.sorted.scheme.rules p.sorted.automaton.transitions steps q t path

  abbrev mutual
    pub IsRejected : Tree (Option ℕ) → Tree Head → Type 0
    IsRejected (node (Some q) us) t = FailsIn q t
    IsRejected (node None us) t = IsRejectedArrow us t

    -- the result, and then the types of the set
    pub IsRejectedArrow : Trees (Option ℕ) → Tree Head → Type 0
    IsRejectedArrow none t = Unit {0}
    IsRejectedArrow (more r us) t = (d : Tree Head) → IsRejectedByEach us d → IsRejected r (applied t (more d none))

    pub IsRejectedByEach : Trees (Option ℕ) → Tree Head → Type 0
    IsRejectedByEach none d = Unit {0}
    IsRejectedByEach (more a us) d = IsRejected a d × IsRejectedByEach us d

  abbrev pub AreRejected : Env → List (Tree Head) → Type 0
  AreRejected [] [] = Unit {0}
  AreRejected [] (d ∷ ds) = ⊥
  AreRejected (s ∷ ss) [] = ⊥
  AreRejected (s ∷ ss) (d ∷ ds) = IsRejectedByEach (forest s) d × AreRejected ss ds

  -- ---- the types of a set

  pub by_member : (us : Trees (Option ℕ)) (d : Tree Head) (a : TypeTree) → IsRejectedByEach us d → Contains (children us) a → IsRejected a d
  by_member none d a h m = absurd (none_in a m)
  by_member (more b us) d a (h, hs) m = elim (uncons b a (children us) m) [
    | inl same ↦ along (λ (x : TypeTree). IsRejected x d) (sym same) h
    | inr there ↦ by_member us d a hs there
  ]

  pub by_members : (us : Trees (Option ℕ)) (d : Tree Head) → ((a : TypeTree) → Contains (children us) a → IsRejected a d) → IsRejectedByEach us d
  by_members none d h = tt
  by_members (more a us) d h = (h a (here a (children us)), by_members us d (λ b m. h b (later a b (children us) m)))

  by_type : (s : List TypeTree) (d : Tree Head) (a : TypeTree) → IsRejectedByEach (forest s) d → Contains s a → IsRejected a d
  by_type s d a h m = by_member (forest s) d a h (along (λ (xs : List TypeTree). Contains xs a) (sym (children-forest s)) m)

  pub by_types : (s : List TypeTree) (d : Tree Head) → ((a : TypeTree) → Contains s a → IsRejected a d) → IsRejectedByEach (forest s) d
  by_types s d h = by_members (forest s) d (λ a m. h a (along (λ (xs : List TypeTree). Contains xs a) (children-forest s) m))

  -- ---- the terms for the parameters, and for the arguments

  pub as_many : (ss : Env) (ds : List (Tree Head)) → AreRejected ss ds → length ds ≡ length ss
  as_many [] [] h = refl
  as_many [] (d ∷ ds) h = absurd h
  as_many (s ∷ ss) [] h = absurd h
  as_many (s ∷ ss) (d ∷ ds) (h, hs) = ap suc (as_many ss ds hs)

  -- where the set at a place has the type, there is a term, and it is rejected by it
  pub record RejectedAt (ds : List (Tree Head)) (j : ℕ) (a : TypeTree) : Type 0 where
    pub term : Tree Head
    pub at : slice_get ds j ≡ Some term
    pub is : IsRejected a term

  pub at_place : (ss : Env) (ds : List (Tree Head)) (j : ℕ) (a : TypeTree) → AreRejected ss ds → Has ss j a → RejectedAt ds j a
  at_place [] ds j a h m = absurd (none_in a m)
  at_place (s ∷ ss) [] j a h m = absurd h
  at_place (s ∷ ss) (d ∷ ds) zero a (h, hs) m = record { term = d; at = refl; is = by_type s d a h m }
  at_place (s ∷ ss) (d ∷ ds) (suc j) a (h, hs) m = let r = at_place ss ds j a hs m in record { term = r.term; at = r.at; is = r.is }

  pub at_each_place : (ss : Env) (ds : List (Tree Head)) → length ds ≡ length ss
      → ((j : ℕ) (a : TypeTree) (d : Tree Head) → slice_get ds j ≡ Some d → Has ss j a → IsRejected a d) → AreRejected ss ds
  at_each_place [] [] e h = tt
  at_each_place [] (d ∷ ds) e h = absurd (omega arith)
  at_each_place (s ∷ ss) [] e h = absurd (omega arith)
  at_each_place (s ∷ ss) (d ∷ ds) e h = (by_types s d (λ a m. h zero a d refl m), at_each_place ss ds (omega arith) (λ j a c at m. h (suc j) a c at m))

  pub both : (rs ss : Env) (ds us : List (Tree Head)) → AreRejected rs ds → AreRejected ss us → AreRejected (rs ++ ss) (ds ++ us)
  both [] ss [] us h k = k
  both [] ss (d ∷ ds) us h k = absurd h
  both (r ∷ rs) ss [] us h k = absurd h
  both (r ∷ rs) ss (d ∷ ds) us (h, hs) k = (h, both rs ss ds us hs k)

  -- terms that are rejected by sets are so by smaller ones
  pub fewer : (ss rs : Env) (ds : List (Tree Head)) → length rs ≡ length ss → ((j : ℕ) (a : TypeTree) → Has rs j a → Has ss j a) → AreRejected ss ds → AreRejected rs ds
  fewer ss rs ds long within h =
      at_each_place rs ds (as_many ss ds h ∙ sym long) (λ j a d at m.
      let r = at_place ss ds j a h (within j a m) in along (λ (x : Tree Head). IsRejected a x) (same_Some r.term d (sym r.at ∙ at)) r.is)

  -- ---- a head type, and its arguments

  -- a term that with all arguments that fit is rejected by the result is rejected by the arrows
  pub abstracted : (ss : Env) (a : TypeTree) (t : Tree Head) → ((ds : List (Tree Head)) → AreRejected ss ds → IsRejected a (applied t (forest ds))) → IsRejected (arrows ss a) t
  abstracted [] a t h = along (λ (x : Tree Head). IsRejected a x) (applied-none t) (h [] tt)
  abstracted (s ∷ ss) a t h = λ d r. abstracted ss a (applied t (more d none)) (λ ds rs.
      along (λ (x : Tree Head). IsRejected a x) (sym (applied-applied t (more d none) (forest ds))) (h (d ∷ ds) (r, rs)))

  -- and the other way round
  pub given : (ss : Env) (a : TypeTree) (t : Tree Head) (ds : List (Tree Head)) → IsRejected (arrows ss a) t → AreRejected ss ds → IsRejected a (applied t (forest ds))
  given [] a t [] h r = along (λ (x : Tree Head). IsRejected a x) (sym (applied-none t)) h
  given [] a t (d ∷ ds) h r = absurd r
  given (s ∷ ss) a t [] h r = absurd r
  given (s ∷ ss) a t (d ∷ ds) h (r, rs) =
      along (λ (x : Tree Head). IsRejected a x) (applied-applied t (more d none) (forest ds)) (given ss a (applied t (more d none)) ds (h d r) rs)
