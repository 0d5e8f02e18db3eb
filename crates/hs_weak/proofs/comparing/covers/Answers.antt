use Rattle.std.proofs.Common.{◌≡◌, subst, IsTrue, ◌↔◌, arith}
use Rattle.hs_table.specs.Entries.{Env, EntryData}
use Rattle.hs_weak.specs.Strength.{AsStrongAs, AsksAtLeast, Covers}
use Rattle.hs_weak.proofs.ComparingLemmas.{covers_whole}
use Rattle.hs_weak.proofs.comparing.covers.Goals as goal

pub returns : goal.returns
returns c =
    let a : EntryData = record { point = c.entry.inside.point; env = c.entry.inside.env.items; ty = c.entry.inside.ty } in
    let b : EntryData = record { point = c.other.inside.point; env = c.other.inside.env.items; ty = c.other.inside.ty } in
    let same_point : a.point ≡ b.point = omega (arith, c.if-entry-other.false) in
    let B = IsTrue c.asks_at_least.result in
    let asks : B ↔ AsksAtLeast AsStrongAs b.env a.env =
    subst (λ (e : Env). B ↔ AsksAtLeast AsStrongAs b.env e) c.as_slice-2.ensures.value
    (subst (λ (e : Env). B ↔ AsksAtLeast AsStrongAs e c.as_slice-2.result.now) c.as_slice.ensures.value c.asks_at_least.ensures) in
    let whole = covers_whole a b same_point (c.is_as_strong.ensures.0 c.if-not-is_as_strong.false) B asks in
    subst (λ (x : EntryData). (B → Covers AsStrongAs x c.args.other.now) × (Covers AsStrongAs x c.args.other.now → B)) c.entry.view_is
    (subst (λ (y : EntryData). (B → Covers AsStrongAs a y) × (Covers AsStrongAs a y → B)) c.other.view_is whole)
