use Rattle.std.proofs.Common.{◌≡◌, ◌+◌, sym, ◌∙◌, ap, subst, ℕ, Bool, true, false, length, take, arith}
use Rattle.std.specs.Prelude.{◌||◌, ◌&&◌}
use Rattle.std.proofs.lemmas.List.{take_all, length-take-le}
use Rattle.std.proofs.Math.Bool.{or-false}
use Rattle.hs_scheme.specs.Tree.{node, forest}
use Rattle.hs_passes.specs.Leaving.{keeps}
use Rattle.hs_passes.specs.Unused.{needs_at}
use Rattle.hs_passes.specs.Needing.{live, live_in, kept, GainsFlags}
use Rattle.hs_passes.proofs.Marks.{gains_both, gains_same, live_in-more, or_assoc, whole}
use Rattle.hs_passes.proofs.needing.+mark_term.Goals as goal
use Rattle.hs_passes.proofs.needing.+mark_term.Goals.{then-stays_behind, else-stays_behind}

pub loop-i-preserved : goal.loop-i-preserved
loop-i-preserved t c =
    let counts = c.args.parameters.now in
    let keep = kept counts c.args.flags.now in
    let g = c.args.rule in
    let h = c.term.inside.head in
    let us = c.deref-arg-items.result.now in
    let i = c.loop-i.i in
    let u = c.arg-item.result in
    let old = c.args.needed.now in
    let p = keeps keep h in
    let here : ℕ → ℕ → Bool = λ f j. needs_at g f j h (length us) in
    let before : ℕ → ℕ → Bool = λ f j. here f j || live_in keep g f j p (forest (take i us)) in
    let after : ℕ → ℕ → Bool = λ f j. here f j || live_in keep g f j p (forest (take (i + 1) us)) in
    let more : (f j : ℕ) → live_in keep g f j p (forest (take (i + 1) us)) ≡ (live_in keep g f j p (forest (take i us)) || (p i && live keep g f j u)) =
    λ f j. live_in-more keep g f j p us i u c.loop-i-test.true (length-take-le i us (omega (arith, c.loop-i-test.true)))
    ∙ ap (λ v. live_in keep g f j p (forest (take i us)) || (p i && live keep g f j v)) (sym c.arg-item.is) in
    elim c.if-stays_behind.branch [
      | then-stays_behind w ↦
          let on : p i ≡ true = sym c.stays_behind.ensures ∙ w.if-stays_behind.true in
          subst (λ ns. GainsFlags counts old ns after) (sym w.needed-is)
          (gains_same counts old w.mark_term.new.needed (λ f j. before f j || live keep g f j u) after
          (λ f j q. or_assoc (here f j) (live_in keep g f j p (forest (take i us))) (live keep g f j u)
          ∙ ap (λ b. here f j || b) (ap (λ b. live_in keep g f j p (forest (take i us)) || (b && live keep g f j u)) (sym on) ∙ sym (more f j)))
          (gains_both counts old c.loop-i.needed w.mark_term.new.needed before (λ f j. live keep g f j u) c.loop-i.invariant w.mark_term.ensures))
      | else-stays_behind w ↦
          let off : p i ≡ false = sym c.stays_behind.ensures ∙ w.if-stays_behind.false in
          subst (λ ns. GainsFlags counts old ns after) (sym w.needed-is)
          (gains_same counts old c.loop-i.needed before after
          (λ f j q. ap (λ b. here f j || b) (sym (more f j ∙ (ap (λ b. live_in keep g f j p (forest (take i us)) || (b && live keep g f j u)) off ∙ or-false (live_in keep g f j p (forest (take i us)))))))
          c.loop-i.invariant)
    ]

pub returns : goal.returns
returns t c =
    let counts = c.args.parameters.now in
    let keep = kept counts c.args.flags.now in
    let g = c.args.rule in
    let h = c.term.inside.head in
    let us = c.deref-arg-items.result.now in
    let i = c.loop-i.i in
    let old = c.args.needed.now in
    let p = keeps keep h in
    gains_same counts old c.loop-i.needed (λ f j. needs_at g f j h (length us) || live_in keep g f j p (forest (take i us))) (λ f j. live keep g f j c.args.term.now)
    (λ f j q.
    ap (λ vs. needs_at g f j h (length us) || live_in keep g f j p (forest vs)) (take_all i us c.loop-i-test.false)
    ∙ (whole keep g f j h us ∙ (ap (λ vs. live keep g f j (node h (forest vs))) c.deref-arg-items.ensures.value ∙ ap (live keep g f j) c.term.view_is)))
    c.loop-i.invariant
