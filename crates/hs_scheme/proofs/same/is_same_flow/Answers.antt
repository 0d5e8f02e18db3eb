use Rattle.std.proofs.Common.{◌≡◌, sym, ◌∙◌, ap}
use Rattle.std.proofs.lemmas.Slice.Eq.{slice_eq-Decides}
use Rattle.hs_scheme.specs.flow.Flow.{FlowData}
use Rattle.hs_scheme.proofs.SameLemmas.{flow_pair_same, head_pair_same}
use Rattle.hs_scheme.proofs.same.is_same_flow.Goals as goal

pub returns-then-eq : goal.returns-then-eq
returns-then-eq c =
    let pairs = slice_eq-Decides flow_pair_same _ _ _ c.eq.ensures in
    let heads = slice_eq-Decides head_pair_same _ _ _ c.eq-then-eq.ensures in
    let same_pairs : c.a.inside.pairs.items ≡ c.b.inside.pairs.items = sym c.as_slice.ensures.value ∙ (pairs.0 c.if-eq.true ∙ c.as_slice-2.ensures.value) in (
      λ h.
          let same_heads : c.a.inside.heads.items ≡ c.b.inside.heads.items = sym c.as_slice-then-eq.ensures.value ∙ (heads.0 h ∙ c.as_slice-then-eq-2.ensures.value) in
          sym c.a.view_is ∙ ((λ i. record { pairs = same_pairs i; heads = same_heads i }) ∙ c.b.view_is),
      λ e.
          let same_heads : c.a.inside.heads.items ≡ c.b.inside.heads.items = ap (λ (t : FlowData). t.heads) (c.a.view_is ∙ (e ∙ sym c.b.view_is)) in
          heads.1 (c.as_slice-then-eq.ensures.value ∙ (same_heads ∙ sym c.as_slice-then-eq-2.ensures.value)),
    )

pub returns-else-eq : goal.returns-else-eq
returns-else-eq c =
    let pairs = slice_eq-Decides flow_pair_same _ _ _ c.eq.ensures in (
      λ h. absurd (cc (h, c.if-eq.false)),
      λ e.
          let same_pairs : c.a.inside.pairs.items ≡ c.b.inside.pairs.items = ap (λ (t : FlowData). t.pairs) (c.a.view_is ∙ (e ∙ sym c.b.view_is)) in
          pairs.1 (c.as_slice.ensures.value ∙ (same_pairs ∙ sym c.as_slice-2.ensures.value)),
    )
