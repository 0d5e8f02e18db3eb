use Rattle.std.proofs.Common.{◌≡◌, ◌++◌, sym, ◌∙◌, ap, subst, ℕ, length, take, drop}
use Rattle.std.specs.Prelude.{◌&&◌}
use Rattle.hs_scheme.specs.sorting.Parameters.{IsParameter, parameter_of}
use Rattle.hs_passes.specs.Selection.{stays}
use Rattle.hs_passes.specs.Needing.{is_live, kept, KeepsOnlyLive, IsAbove}
use Rattle.hs_passes.proofs.Chaining.{written_back}
use Rattle.hs_passes.proofs.Settling.{still_above, then_supported}
use Rattle.hs_passes.proofs.needing.settled.Goals as goal

pub loop-changed-preserved : goal.loop-changed-preserved
loop-changed-preserved c =
    let counts = c.args.parameters.now in
    let rules = c.args.rules.now in
    let settled = c.loop-changed.settled in
    let old = settled.items in
    let new = c.narrow-changed.new.flags in
    let marks = c.in_ok-marks.marks.items in
    let items : take settled.len (new ++ drop (length new) old) ≡ new = written_back settled.len new old settled.ok.0 (c.narrow-changed.auto.flags ∙ ap length c.as_mut_slice.ensures.value) in
    let each : (n : ℕ) → stays new n ≡ (stays old n && stays marks n) =
    λ n. c.narrow-changed.ensures.each n ∙ λ i. stays (c.as_mut_slice.ensures.value i) n && stays (c.as_slice-in-loop-changed.ensures.value i) n in
    let needed : (f j : ℕ) → IsParameter counts f j → stays marks (parameter_of counts f j) ≡ is_live (kept counts old) rules f j =
    λ f j is. c.in_ok-marks.ensures.is f j is ∙ ap (λ fs. is_live (kept counts fs) rules f j) c.as_slice.ensures.value in
    record {
      long = c.loop-changed.invariant.long;
      above = subst (λ fs. IsAbove rules (kept counts fs)) (sym items) (still_above rules counts c.requires.counted old new marks each needed c.loop-changed.invariant.above);
      supported = λ e. subst (λ fs. KeepsOnlyLive rules (kept counts fs)) (sym items)
          (then_supported rules counts c.requires.counted old new marks each needed (c.narrow-changed.ensures.same e ∙ c.as_mut_slice.ensures.value));
    }
