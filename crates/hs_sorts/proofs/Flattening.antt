-- Links that are turned, in ascending order, to where they lead.
use Rattle.std.proofs.Common.{◌≡◌, ◌≢◌, refl, sym, ◌∙◌, ap, ℕ, ◌+◌, ◌<◌, List, length, set, slice_get, Option, Some, ◌⊎◌, inl, inr, arith}
use Rattle.std.proofs.Math.Nat.{eq-or-lt_of_le}
use Rattle.std.proofs.lemmas.Option.{slice_get_within}
use Rattle.hs_scheme.specs.declared.term.Rule.{Rule}
use Rattle.hs_sorts.specs.declared.store.Shape.{Shape}
use Rattle.hs_sorts.specs.declared.store.Node.{Node}
use Rattle.hs_sorts.specs.declared.store.Node.TheVariants.{Root, Link}
use Rattle.hs_sorts.specs.Nodes.{IsStore, IsSameStore, FlatBelow}
use Rattle.hs_sorts.specs.Solving.{Solves}
use Rattle.hs_sorts.proofs.Lists.{get_set_same, get_set_other}
use Rattle.hs_sorts.proofs.NodeLemmas.{link_below}

module _ (nodes : List Node) where
  -- a node without a link isn't one with a link
  apart : (i j up : ℕ) (s : Shape) → slice_get nodes i ≡ Some (Root s) → slice_get nodes j ≡ Some (Link up) → i ≢ j
  apart i j up s p q e = absurd (let both : slice_get nodes j ≡ Some (Root s) = ap (slice_get nodes) (sym e) ∙ p in cc)

  -- one more node without a link
  pub flat_root : (at : ℕ) (s : Shape) → slice_get nodes at ≡ Some (Root s) → FlatBelow at nodes → FlatBelow (at + 1) nodes
  flat_root at s here flat i up below is =
      let le : (i ≡ at) ⊎ (i < at) = eq-or-lt_of_le (omega arith) in
      elim le [
        | inl same ↦ absurd (apart at at up s here (ap (slice_get nodes) (sym same) ∙ is) refl)
        | inr less ↦ flat i up less is
      ]

  -- one more whose link leads to a node without one
  pub flat_link : (at up : ℕ) (s : Shape) → slice_get nodes at ≡ Some (Link up) → slice_get nodes up ≡ Some (Root s) → FlatBelow at nodes → FlatBelow (at + 1) nodes
  flat_link at up s here there flat i top below is =
      let le : (i ≡ at) ⊎ (i < at) = eq-or-lt_of_le (omega arith) in
      elim le [
        | inl same ↦
            let e : Some (Link up) ≡ Some (Link top) = sym here ∙ (ap (slice_get nodes) (sym same) ∙ is) in
            let one : up ≡ top = cc in
            (s, ap (slice_get nodes) (sym one) ∙ there)
        | inr less ↦ flat i top less is
      ]

  -- one more whose link is turned
  pub flat_more : (at up top : ℕ) → IsStore nodes → slice_get nodes at ≡ Some (Link up) → slice_get nodes up ≡ Some (Link top) → FlatBelow at nodes → FlatBelow (at + 1) (set nodes at (Link top))
  flat_more at up top is here there flat =
      let lower : up < at = (link_below nodes at up is here).0 in
      let end = flat up top lower there in
      let inside = slice_get_within nodes at (Link up) here in
      flat_at end.0 inside (get_set_other nodes at top (Link top) (apart top at up end.0 end.1 here) ∙ end.1)
    where
      flat_at : (s : Shape) → at < length nodes → slice_get (set nodes at (Link top)) top ≡ Some (Root s) → FlatBelow (at + 1) (set nodes at (Link top))
      flat_at s inside ends i next below at_i =
          let le : (i ≡ at) ⊎ (i < at) = eq-or-lt_of_le (omega arith) in
          elim le [
            | inl same ↦
                let e : Some (Link next) ≡ Some (Link top) = sym at_i ∙ (ap (slice_get (set nodes at (Link top))) same ∙ get_set_same nodes at (Link top) inside) in
                let one : next ≡ top = cc in
                (s, ap (slice_get (set nodes at (Link top))) one ∙ ends)
            | inr less ↦
                let differs : i ≢ at = λ e. omega (arith, e, less) in
                let target = flat i next less (sym (get_set_other nodes at i (Link top) differs) ∙ at_i) in
                (target.0, get_set_other nodes at next (Link top) (apart next at up target.0 target.1 here) ∙ target.1)
          ]

-- the same store has the same solutions
pub solves_same : (rules : List Rule) (ranks : List (Option ℕ)) (k : ℕ) (old new : List Node) → IsSameStore old new → Solves rules ranks k old → Solves rules ranks k new
solves_same rules ranks k old new same s = record {
  room = omega (arith, s.room, same.as_long);
  sound = λ v r. s.sound v (same.back v r);
  complete = λ t ts. let v = s.complete t ts in record { valuation = v.valuation; respects = same.onward v.valuation v.respects; realizes = v.realizes };
}
