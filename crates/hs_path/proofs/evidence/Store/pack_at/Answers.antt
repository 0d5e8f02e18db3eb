use Rattle.std.proofs.Common.{◌≡◌, sym, ◌∙◌, subst as along, ◌-◌, ◌+◌, ◌≤◌, Some, None, arith, ℕ}
use Rattle.std.proofs.lemmas.Option.{same_Some}
use Rattle.hs_scheme.proofs.Lists.{got_some, got_none}
use Rattle.hs_verdict.specs.Evidence.{pack_at}
use Rattle.hs_path.specs.Stored.{IsPack}
use Rattle.hs_path.proofs.StoredLemmas.{piled_at, piled_past, no_members}
use Rattle.hs_path.proofs.evidence.Store.pack_at.Goals as goal
use Rattle.hs_path.proofs.evidence.Store.pack_at.Goals.{then-to-from-via-then-to-from, then-to-from-via-else-to-from+then-to-from-2}

pub returns-then-to-from : goal.returns-then-to-from
returns-then-to-from c = λ bound below packs h.
    let past : c.args.to ≤ c.args.from + c.args.place = elim c.then-to-from.branch [
      | then-to-from-via-then-to-from w ↦ omega (arith, w.if-to-from.true)
      | then-to-from-via-else-to-from+then-to-from-2 w ↦ omega (arith, w.if-to-from-2.true)
    ] in
    no_members bound c.args.self.now below (pack_at packs c.args.place) (piled_past bound c.args.self.now below c.args.numbers.now c.args.from c.args.to packs c.args.place h past)

pub returns-in-Some : goal.returns-in-Some
returns-in-Some c = λ bound below packs h.
    let at = c.args.to - 1 - c.args.place in
    let f = piled_at bound c.args.self.now below c.args.numbers.now c.args.from c.args.to packs c.args.place h (omega (arith, c.if-to-from.false, c.if-to-from-2.false)) in
    let here = got_some c.args.numbers.now at c.in-Some.number.now c.in-Some.ensures.lookup.0 c.in-Some.ensures.lookup.1 in
    c.pack.ensures bound below (pack_at packs c.args.place)
    (along (λ (k : ℕ). IsPack bound c.args.self.now below k (pack_at packs c.args.place)) (same_Some f.0 c.in-Some.number.now (sym f.1 ∙ here)) f.2)

pub returns-in-None : goal.returns-in-None
returns-in-None c = λ bound below packs h.
    let at = c.args.to - 1 - c.args.place in
    let f = piled_at bound c.args.self.now below c.args.numbers.now c.args.from c.args.to packs c.args.place h (omega (arith, c.if-to-from.false, c.if-to-from-2.false)) in
    absurd (let clash : Some f.0 ≡ None = sym f.1 ∙ got_none c.args.numbers.now at c.in-None.ensures.lookup.0 in cc)
