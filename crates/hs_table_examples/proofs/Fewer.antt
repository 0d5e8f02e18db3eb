-- A flow with a pair less.
use Rattle.std.proofs.Common.{◌≡◌, sym, subst, ℕ, ◌+◌, ◌<◌, List, length, All, get_or, arith, inl, inr}
use Rattle.std.specs.List.{remove}
use Rattle.std.proofs.lemmas.Bool.{cases_order}
use Rattle.std.proofs.lemmas.List.Edits.{length-remove, get_or-remove_below, get_or-remove_above}
use Rattle.std.proofs.lemmas.List.Quantifiers.{all_pairs_remove}
use Rattle.std.specs.declared.cmp.Ordering.TheVariants.{Less}
use Rattle.hs_scheme.specs.declared.flow.FlowPair.{FlowPair}
use Rattle.hs_scheme.specs.declared.flow.HeadPair.{HeadPair}
use Rattle.hs_scheme.specs.flow.Flow.{IsFlowTable, IsAscending, flow_cmp, head_cmp}
use Rattle.hs_scheme.specs.flow.FlowRows.{AreOfParameters}
use Rattle.hs_scheme.specs.flow.Points.{PointsData}
use Rattle.hs_scheme.specs.Problem.{ProblemData, IsProblem, FlowWithin, HeadWithin}
use Rattle.hs_flow.proofs.TableLemmas.{has_parameter}

fewer : {X : Type 0} (P : X → Type 0) (xs : List X) (i : ℕ) → i < length xs → All P xs → All P (remove xs i)
fewer P xs i lt all k d within =
    let long = length-remove xs i lt in
    elim (cases_order k i) [
      | inl at ↦ subst (λ x. P x) (sym (get_or-remove_above xs i d k (omega arith) lt)) (all (k + 1) d (omega (arith, long)))
      | inr other ↦ elim other [
        | inl below ↦ subst (λ x. P x) (sym (get_or-remove_below xs i d k below lt)) (all k d (omega (arith, long)))
        | inr above ↦ subst (λ x. P x) (sym (get_or-remove_above xs i d k (omega arith) lt)) (all (k + 1) d (omega (arith, long)))
      ]
    ]

-- the flow pairs or the head pairs of the problem without one
module _ (p : ProblemData) (is : IsProblem p) where
  pub of_parameters : (pairs : List FlowPair) → All (FlowWithin p.sorted.scheme.rules (length p.points.points)) pairs → AreOfParameters p.points.params pairs
  of_parameters pairs all =
      subst (λ (x : PointsData). AreOfParameters x.params pairs) (sym is.points)
      (λ j e within. has_parameter p.sorted.scheme.rules (get_or pairs j e).rule (get_or pairs j e).param (all j e within).parameter)

  module _ (i : ℕ) where
    pub fewer_pairs : (pairs news : List FlowPair) (heads : List HeadPair) → pairs ≡ p.flow.pairs → heads ≡ p.flow.heads → IsAscending flow_cmp pairs → IsAscending head_cmp heads → i < length pairs → news ≡ remove pairs i
        → IsFlowTable (record { pairs = news; heads = heads }) × IsProblem (record { sorted = p.sorted; points = p.points; flow = record { pairs = news; heads = heads } })
    fewer_pairs pairs news heads e f up high lt made = (
      record { pairs = subst (λ (xs : List FlowPair). IsAscending flow_cmp xs) (sym made) (all_pairs_remove (λ a b. flow_cmp a b ≡ Less) pairs i lt up); heads = high },
      record {
        points = is.points;
        flows = subst (λ (xs : List FlowPair). All (FlowWithin p.sorted.scheme.rules (length p.points.points)) xs) (sym made)
            (fewer (FlowWithin p.sorted.scheme.rules (length p.points.points)) pairs i lt (subst (λ (xs : List FlowPair). All (FlowWithin p.sorted.scheme.rules (length p.points.points)) xs) (sym e) is.flows));
        heads = subst (λ (xs : List HeadPair). All (HeadWithin p.sorted.scheme.rules (length p.points.points)) xs) (sym f) is.heads;
      },
    )

    pub fewer_heads : (pairs : List FlowPair) (heads news : List HeadPair) → pairs ≡ p.flow.pairs → heads ≡ p.flow.heads → IsAscending flow_cmp pairs → IsAscending head_cmp heads → i < length heads → news ≡ remove heads i
        → IsFlowTable (record { pairs = pairs; heads = news }) × IsProblem (record { sorted = p.sorted; points = p.points; flow = record { pairs = pairs; heads = news } })
    fewer_heads pairs heads news e f up high lt made = (
      record { pairs = up; heads = subst (λ (xs : List HeadPair). IsAscending head_cmp xs) (sym made) (all_pairs_remove (λ a b. head_cmp a b ≡ Less) heads i lt high) },
      record {
        points = is.points;
        flows = subst (λ (xs : List FlowPair). All (FlowWithin p.sorted.scheme.rules (length p.points.points)) xs) (sym e) is.flows;
        heads = subst (λ (xs : List HeadPair). All (HeadWithin p.sorted.scheme.rules (length p.points.points)) xs) (sym made)
            (fewer (HeadWithin p.sorted.scheme.rules (length p.points.points)) heads i lt (subst (λ (xs : List HeadPair). All (HeadWithin p.sorted.scheme.rules (length p.points.points)) xs) (sym f) is.heads));
      },
    )
