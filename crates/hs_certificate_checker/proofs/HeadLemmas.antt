-- What least unions for a type of a point's head decide, by trees.
use Rattle.std.proofs.Common.{◌≡◌, sym, ◌∙◌, subst, ℕ, List, slice_get, Some, Contains, inl, inr}
use Rattle.std.proofs.lemmas.Option.{same_Some}
use Rattle.hs_scheme.specs.flow.Points.{PointData}
use Rattle.hs_scheme.specs.Problem.{ProblemData}
use Rattle.hs_table.specs.Types.{TypeTree, arrows}
use Rattle.hs_table.specs.Entries.{Env, EntryData, params_of}
use Rattle.hs_verdict.specs.Premises.{IsSortedProblem}
use Rattle.hs_weak.specs.Void.{VoidData, IsVoid}
use Rattle.hs_choices.specs.Unions.{AreLeastUnions}
use Rattle.hs_choices.specs.Slots.{AreSlots, IsHeadEnv, AscendAll, IsSettled}
use Rattle.hs_choices.proofs.Pruning.{follow, settled}
use Rattle.hs_heads.specs.HeadTypes.{IsHeadTypeAt}
use Rattle.hs_certificate_checker.specs.Faults.{IsUncovered}
use Rattle.hs_certificate_checker.specs.Settled.{AreSettledBy}

-- what is left out may be more
pub least_more : (n : ℕ) (D F : Env → Type 0) (first : Env) (slots : List (List Env)) (kept : List Env) → ((E : Env) → D E → F E) → AreLeastUnions n D first slots kept → AreLeastUnions n F first slots kept
least_more n D F first slots kept f least = record {
  unions = least.unions;
  least = λ U asks each. elim (least.least U asks each) [
    | inl k ↦ inl k
    | inr d ↦ inr (f U d)
  ];
}

module _ (p : ProblemData) (given : IsSortedProblem p) (C : List EntryData) (V : List VoidData) (R : List (ℕ × ℕ)) (point : ℕ) (of : PointData) (at : slice_get p.points.points point ≡ Some of) (sets : Env) (ty : TypeTree)
    (head : IsHeadTypeAt p C R point of sets ty) (first : Env) (first_is : IsHeadEnv (params_of p of.rule) of.head (arrows sets ty) first) (slots : List (List Env)) (are : AreSlots p C of.args sets slots)
    (kept : List Env) (ascend : AscendAll kept) (least : AreLeastUnions (params_of p of.rule) (IsVoid p C V of.rule) first slots kept) where
  -- where all that are kept are covered or void
  pub by_kept : ((E : Env) → Contains kept E → IsSettled p C V point of.rule ty E) → AreSettledBy p C V point of sets ty
  by_kept all = settled p given C V point of at sets ty head.by head.head first first_is slots are kept least all

  -- where one isn't
  pub by_other : (E : Env) → Contains kept E → (IsSettled p C V point of.rule ty E → ⊥) → IsUncovered p C V R (record { point = point; env = E; ty = ty })
  by_other E there not = record {
    follows = follow p given C V point of at sets ty head.by head.head first first_is slots are kept ascend least E there;
    matters = head.read;
    not_covered = λ covered. not (inl covered);
    not_void = λ h. not (inr (subst (λ (d : PointData). IsVoid p C V d.rule E) (same_Some h.0 of (sym h.1.0 ∙ at)) h.1.1));
  }
