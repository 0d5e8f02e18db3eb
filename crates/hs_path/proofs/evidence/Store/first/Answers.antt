use Rattle.std.proofs.Common.{◌≡◌, sym, ◌∙◌, ap, subst as along, ◌-◌, ◌<◌, slice_get, Some, None, arith, ℕ}
use Rattle.std.proofs.lemmas.Option.{same_Some}
use Rattle.hs_scheme.proofs.Lists.{got_some, got_none}
use Rattle.hs_verdict.specs.Evidence.{Evidence, first}
use Rattle.hs_path.specs.Stored.{Stands}
use Rattle.hs_path.proofs.StoredLemmas.{first_none, first_some}
use Rattle.hs_path.proofs.evidence.Store.first.Goals as goal

pub returns-then-pack : goal.returns-then-pack
returns-then-pack c = λ bound below p nothing some h.
    (some, along (λ (e : Evidence). Stands bound c.args.self.now 0 e) (sym (first_none bound c.args.self.now below c.args.pack.from c.args.pack.to p h c.if-pack.true)) nothing)

pub returns-in-Some : goal.returns-in-Some
returns-in-Some c = λ bound below p nothing some h.
    let f = first_some bound c.args.self.now below c.args.pack.from c.args.pack.to p h (omega (arith, c.if-pack.false)) in
    let here = ap (λ xs. slice_get xs (c.args.pack.to - 1)) (sym c.deref.ensures.value)
    ∙ got_some c.deref.result.now (c.args.pack.to - 1) c.in-Some.number.now c.in-Some.ensures.lookup.0 c.in-Some.ensures.lookup.1 in
    along (λ (k : ℕ). (k < below) × Stands bound c.args.self.now k (first p)) (same_Some f.0 c.in-Some.number.now (sym f.1 ∙ here)) (f.2, f.3)

pub returns-in-None : goal.returns-in-None
returns-in-None c = λ bound below p nothing some h.
    let f = first_some bound c.args.self.now below c.args.pack.from c.args.pack.to p h (omega (arith, c.if-pack.false)) in
    let clash : Some f.0 ≡ None = sym f.1 ∙ (ap (λ xs. slice_get xs (c.args.pack.to - 1)) (sym c.deref.ensures.value)
    ∙ got_none c.deref.result.now (c.args.pack.to - 1) c.in-None.ensures.lookup.0) in
    absurd (cc)
