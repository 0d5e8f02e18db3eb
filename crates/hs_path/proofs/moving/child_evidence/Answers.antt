use Rattle.std.proofs.Common.{◌≡◌, sym, subst as along, suc, ◌-◌, ◌<◌, ℕ, arith}
use Rattle.hs_verdict.specs.Evidence.{first, child_pack, pack_at}
use Rattle.hs_path.specs.Stored.{Stands}
use Rattle.hs_path.proofs.moving.child_evidence.Goals as goal

next : (n : ℕ) → (n ≡ 0 → ⊥) → suc (n - 1) ≡ n
next n some = omega (arith, some)

pub returns-then-child-eq0 : goal.returns-then-child-eq0
returns-then-child-eq0 c = λ bound below packs nothing some piled.
    (some, along (λ (n : ℕ). Stands bound c.args.store.now 0 (first (child_pack packs n))) (sym c.if-child-eq0.true) nothing)

pub returns : goal.returns
returns c = λ bound below packs nothing some piled.
    let s = c.args.store.now in
    let k : ℕ = c.args.child - 1 in
    let there = c.pack_at-pack.ensures bound below packs piled in
    along (λ (n : ℕ). (c.first.result < below) × Stands bound s c.first.result (first (child_pack packs n))) (next c.args.child c.if-child-eq0.false)
    (c.first.ensures bound below (pack_at packs k) nothing some there)
