use Rattle.std.proofs.Common.{◌≡◌, sym, ◌∙◌, true, false, subst, List, Contains, inl, inr}
use Rattle.std.proofs.lemmas.List.{take_all, get_or_default}
use Rattle.hs_table.specs.Entries.{EntryData}
use Rattle.hs_table_plain.proofs.Members.{next_member}
use Rattle.hs_table_plain.proofs.table.place_of_new.Goals as goal

pub returns-then-not-contains : goal.returns-then-not-contains
returns-then-not-contains c = (
  c.loop-place-test.true,
  λ d k.
      let own = c.index-entries-place.result in
      let read = get_or_default c.args.entries.now c.loop-place.place d own c.loop-place-test.true ∙ sym c.index-entries-place.is in
      let there = subst (λ (e : EntryData). Contains c.args.log.now e) read k in
      let f : false ≡ true = sym c.if-not-contains.true ∙ c.contains.ensures.1 there in
      absurd (cc),
)

pub loop-place-preserved : goal.loop-place-preserved
loop-place-preserved c = λ e k.
    let entries = c.args.entries.now in
    let own = c.index-entries-place.result in
    elim ((next_member entries c.loop-place.place own e c.loop-place-test.true c.index-entries-place.is).0 k) [
      | inl before ↦ c.loop-place.invariant e before
      | inr same ↦ subst (λ (x : EntryData). Contains c.args.log.now x) (sym same) (c.contains.ensures.0 c.if-not-contains.false)
    ]

pub returns : goal.returns
returns c = λ e k. c.loop-place.invariant e (subst (λ (es : List EntryData). Contains es e) (sym (take_all c.loop-place.place c.args.entries.now c.loop-place-test.false)) k)
