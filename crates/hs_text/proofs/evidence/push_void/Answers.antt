use Rattle.std.proofs.Common.{refl, ◌∙◌, ap, sym, map, Bor}
use Rattle.std.specs.List.{flat_map}
use Rattle.std.proofs.lemmas.List.Folds.{flat_map-map}
use Rattle.hs_weak.specs.Void.{VoidData}
use Rattle.hs_text.specs.Report.{void_line}
use Rattle.hs_text.proofs.Puts.{puts_as}
use Rattle.hs_text.proofs.evidence.push_void.Goals as goal

pub returns-in-Ok : goal.returns-in-Ok
returns-in-Ok c =
    let refs = c.in-Ok.pairs.items in
    let line = void_line c.args.problem.now in
    let pairs = map (λ (r : Bor VoidData). r.now) refs in
    λ whole. (
      flat_map line pairs,
      record { pairs = pairs; ascending = c.in-Ok.ensures.ascending; same = c.in-Ok.ensures.same; is = refl },
      puts_as (ap (flat_map (λ (r : Bor VoidData). line r.now)) c.as_slice.ensures.value ∙ sym (flat_map-map line (λ (r : Bor VoidData). r.now) refs)) c.push_pairs.ensures,
    )

pub returns-in-Err : goal.returns-in-Err
returns-in-Err c = λ whole. absurd (c.refuse.ensures whole)
