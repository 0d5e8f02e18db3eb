use Rattle.std.proofs.Common.{◌≡◌, refl, sym, subst, ℕ, List, slice_get, Some, Contains, IsTrue, ◌↔◌, IfOk, OnOk}
use Rattle.hs_replica.specs.declared.lists.Lists.{Lists}
use Rattle.hs_replica.specs.declared.key.Key.{Key}
use Rattle.hs_replica.specs.Index.{AddsAt, list_at}
use Rattle.hs_replica.proofs.GainLemmas.{at_adds, keyed_adds, in_table}
use Rattle.hs_replica.proofs.lists.add_once.Goals as goal

pub returns-in-At-clause-adds : goal.returns-in-At-clause-adds
returns-in-At-clause-adds c =
    let old = c.args.lists.now in
    let new : Lists = record old { at = c.add_at.new.at } in
    subst (λ (k : Key). AddsAt k c.args.place (list_at old) (list_at new)) (sym c.in-At.is) (at_adds old new c.args.place c.in-At.point refl c.add_at.ensures.adds)

pub returns-in_default : goal.returns-in_default
returns-in_default c =
    let old = c.args.lists.now in
    let new : Lists = record old { keyed = c.add_keyed.new.keyed } in
    let same = in_table new c.args.key c.in_default.not-At in
    record {
      adds = keyed_adds old new c.args.place c.args.key refl c.add_keyed.ensures.adds;
      there = subst (λ (xs : List ℕ). OnOk c.add_keyed.result (Contains xs c.args.place)) same c.add_keyed.ensures.there;
      first = subst (λ (xs : List ℕ). IfOk c.add_keyed.result (λ first. IsTrue first ↔ (slice_get xs 0 ≡ Some c.args.place))) same c.add_keyed.ensures.first;
    }
