use Rattle.std.proofs.Common.{◌≡◌, sym, ◌∙◌, ap, subst, ◌<◌, List, length, get_or, Contains}
use Rattle.std.proofs.lemmas.List.{get_or_default}
use Rattle.hs_table.specs.Entries.{EntryData}
use Rattle.hs_table_plain.proofs.table.first_new.Goals as goal

pub returns-in-None : goal.returns-in-None
returns-in-None c = λ e k. c.in-None.ensures e (subst (λ (es : List EntryData). Contains es e) (sym c.as_slice.ensures.value) k)

pub returns : goal.returns
returns c =
    let items = c.args.entries.items in
    let own = c.swap_remove.result in
    let k = c.in-Some.place in
    let within : k < length items = subst (λ (es : List EntryData). k < length es) c.as_slice.ensures.value c.in-Some.ensures.0 in
    let read : get_or items k own ≡ own = get_or_default items k own _ within ∙ sym c.swap_remove.ensures.value in
    let sliced : get_or c.as_slice.result.now k own ≡ own = ap (λ (es : List EntryData). get_or es k own) c.as_slice.ensures.value ∙ read in
    ((k, within, read), λ there. c.in-Some.ensures.1 own (subst (λ (e : EntryData). Contains c.args.log.now e) (sym sliced) there))
