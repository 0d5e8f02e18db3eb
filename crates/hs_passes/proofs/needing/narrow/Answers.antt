use Rattle.std.proofs.Common.{◌≡◌, ◌+◌, sym, ap, subst, cond, ℕ, Bool, List, refl, true, arith}
use Rattle.hs_passes.proofs.Settling.{Narrowed, narrowed_clear, narrowed_kept, narrowed_off, narrowed_all}
use Rattle.hs_passes.proofs.needing.narrow.Goals as goal
use Rattle.hs_passes.proofs.needing.narrow.Goals.{then-flags-i+then-not-needed-i, else-flags-i, else-flags-i-via-then-flags-i+else-not-needed-i, else-flags-i-via-else-flags-i}

pub loop-i-init : goal.loop-i-init
loop-i-init c = record { done = λ n lt. absurd (omega (arith, lt)); ahead = λ n le. refl; same = λ e. refl; fewer = omega arith }

flag : Bool → ℕ
flag b = cond b 1 0

moved : (old needed now new : List Bool) (b c : Bool) (i : ℕ) → new ≡ now → c ≡ b → Narrowed old needed now b i → Narrowed old needed new c i
moved old needed now new b c i e d h = subst (λ fs. Narrowed old needed fs c i) (sym e) (subst (λ x. Narrowed old needed now x i) (sym d) h)

pub loop-i-preserved : goal.loop-i-preserved
loop-i-preserved c =
    let old = c.args.flags.now in
    let needed = c.args.needed.now in
    let flags = c.loop-i.flags in
    let i = c.loop-i.i in
    let h = c.loop-i.invariant in
    elim c.if-flags-i.branch [
      | then-flags-i+then-not-needed-i w ↦
          moved old needed _ _ true _ (i + 1) w.flags-is w.changed-is
          (narrowed_clear old needed flags c.loop-i.changed i h w.if-flags-i.true w.if-not-needed-i.true)
      | else-flags-i w ↦
          moved old needed _ _ c.loop-i.changed _ (i + 1) w.flags-is w.changed-is
          (elim w.else-flags-i.branch [
            | else-flags-i-via-then-flags-i+else-not-needed-i v ↦ narrowed_kept old needed flags c.loop-i.changed i h v.if-not-needed-i.false
            | else-flags-i-via-else-flags-i v ↦ narrowed_off old needed flags c.loop-i.changed i h v.if-flags-i.false
          ])
    ]

pub returns-clause-each : goal.returns-clause-each
returns-clause-each c = narrowed_all c.args.flags.now c.args.needed.now c.loop-i.flags c.loop-i.changed c.loop-i.i c.loop-i.invariant (omega (arith, c.loop-i-test.false))

pub returns-clause-same : goal.returns-clause-same
returns-clause-same c = c.loop-i.invariant.same

pub returns-clause-fewer : goal.returns-clause-fewer
unfolding flag
returns-clause-fewer c = λ e. omega (arith, c.loop-i.invariant.fewer, ap (λ b. flag b) e)
