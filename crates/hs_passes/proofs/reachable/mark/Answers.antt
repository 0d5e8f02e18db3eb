use Rattle.std.proofs.Common.{◌≡◌, ◌<◌, sym, ◌∙◌, ap, false, get_or, length, vec_len, arith}
use Rattle.std.proofs.lemmas.List.{get_or_default}
use Rattle.hs_passes.specs.Selection.{stays}
use Rattle.hs_passes.proofs.Searching.{marked_more, newly_more, marked_same, newly_same}
use Rattle.hs_passes.proofs.reachable.mark.Goals as goal
use Rattle.hs_passes.proofs.reachable.mark.Goals.{then-not-index+in_ok-push, else-not-index}

pub loop-name-preserved : goal.loop-name-preserved
loop-name-preserved c =
    let ns = c.args.names.now in
    let i = c.loop-name.name-index in
    let lt = c.loop-name-test.true in
    let keep = c.args.kept.now.items in
    let k = c.loop-name.kept.items in
    let inv = c.loop-name.invariant in
    let item = get_or ns i 0 in
    let within : item < length k = omega (arith, c.requires i 0 lt, inv.long, c.loop-name.kept.ok, c.args.kept.now.ok) in
    let read : stays k item ≡ c.index.result.now = get_or_default k item false c.index.result.now within ∙ sym c.index.ensures in
    elim c.if-not-index.branch [
      | then-not-index+in_ok-push w ↦
          record {
            kept = ap (λ v. v.items) w.kept-is ∙ marked_more ns i 0 lt keep k inv.kept;
            pending = ap (λ v. v.items) w.pending-is ∙ (w.in_ok-push.ensures.items ∙ newly_more ns i 0 lt keep k _ _ inv.kept (read ∙ w.if-not-index.true) inv.pending);
            long = ap (λ v. vec_len v) w.kept-is ∙ inv.long;
          }
      | else-not-index w ↦
          record {
            kept = ap (λ v. v.items) w.kept-is ∙ marked_same ns i 0 lt keep k inv.kept (read ∙ w.if-not-index.false);
            pending = ap (λ v. v.items) w.pending-is ∙ newly_same ns i 0 lt keep k _ _ inv.kept (read ∙ w.if-not-index.false) inv.pending;
            long = ap (λ v. vec_len v) w.kept-is ∙ inv.long;
          }
    ]
