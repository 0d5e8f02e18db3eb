use Rattle.std.proofs.Common.{◌≡◌, refl, sym, ◌∙◌, ap, subst, List, map, true, false}
use Rattle.hs_types.specs.Interned.{RowData, entry_of}
use Rattle.hs_numbered.specs.Certificates.{AreHeld}
use Rattle.hs_numbered.proofs.Growing.{held_more, lists_stay, row_added, row_held, above_entries, entries_above}
use Rattle.hs_numbered.proofs.certificate.NumberedCertificate.import_entry.Goals as goal

pub invariant_of-self : goal.invariant_of-self
invariant_of-self c = held_more c.self.inside.interner c.import_entry.new.interner c.import_entry.ensures.grows c.self.inside.table.items c.self.inside.void.items c.self.inside.last_type c.self.inside.last_set c.self.inside.last_env c.self.invariant

pub returns-in_err-row-clause-kept : goal.returns-in_err-row-clause-kept
returns-in_err-row-clause-kept c = λ _. (lists_stay c.self.inside.interner c.import_entry.new.interner c.import_entry.ensures.grows c.self.inside.table.items c.self.inside.void.items c.self.inside.last_type c.self.inside.last_set c.self.inside.last_env c.self.invariant c.args.self.now c.self.view_is).0

pub returns-in_err-row-clause-same : goal.returns-in_err-row-clause-same
returns-in_err-row-clause-same c = (lists_stay c.self.inside.interner c.import_entry.new.interner c.import_entry.ensures.grows c.self.inside.table.items c.self.inside.void.items c.self.inside.last_type c.self.inside.last_set c.self.inside.last_env c.self.invariant c.args.self.now c.self.view_is).1

pub invariant_of-self-2 : goal.invariant_of-self-2
invariant_of-self-2 c = held_more c.self.inside.interner c.import_entry.new.interner c.import_entry.ensures.grows c.self.inside.table.items c.self.inside.void.items c.self.inside.last_type c.self.inside.last_set c.self.inside.last_env c.self.invariant

pub invariant_of-self-then-not-is_above_last : goal.invariant_of-self-then-not-is_above_last
invariant_of-self-then-not-is_above_last c = held_more c.self.inside.interner c.import_entry.new.interner c.import_entry.ensures.grows c.self.inside.table.items c.self.inside.void.items c.self.inside.last_type c.self.inside.last_set c.self.inside.last_env c.self.invariant

pub returns-then-not-is_above_last-clause-refused : goal.returns-then-not-is_above_last-clause-refused
returns-then-not-is_above_last-clause-refused c = λ _ above.
    let f : false ≡ true = sym c.if-not-is_above_last.true ∙ c.is_above_last.ensures.1 (entries_above c.self.inside.interner c.import_entry.new.interner c.import_entry.ensures.grows c.self.inside.table.items c.self.inside.void.items c.self.inside.last_type c.self.inside.last_set c.self.inside.last_env c.self.invariant c.args.self.now c.self.view_is c.in_ok-row.row c.in_ok-row.ensures.row c.args.entry.now c.in_ok-row.ensures.entry _ refl above) in absurd (cc)

pub returns-then-not-is_above_last-clause-kept : goal.returns-then-not-is_above_last-clause-kept
returns-then-not-is_above_last-clause-kept c = λ _. (lists_stay c.self.inside.interner c.import_entry.new.interner c.import_entry.ensures.grows c.self.inside.table.items c.self.inside.void.items c.self.inside.last_type c.self.inside.last_set c.self.inside.last_env c.self.invariant c.args.self.now c.self.view_is).0

pub returns-then-not-is_above_last-clause-same : goal.returns-then-not-is_above_last-clause-same
returns-then-not-is_above_last-clause-same c = (lists_stay c.self.inside.interner c.import_entry.new.interner c.import_entry.ensures.grows c.self.inside.table.items c.self.inside.void.items c.self.inside.last_type c.self.inside.last_set c.self.inside.last_env c.self.invariant c.args.self.now c.self.view_is).1

pub invariant_of-self-in_err-push : goal.invariant_of-self-in_err-push
invariant_of-self-in_err-push c = subst (λ (rs : List RowData). AreHeld c.import_entry.new.interner rs c.self.inside.void.items c.self.inside.last_type c.self.inside.last_set c.self.inside.last_env) (sym c.in_err-push.ensures.items) (held_more c.self.inside.interner c.import_entry.new.interner c.import_entry.ensures.grows c.self.inside.table.items c.self.inside.void.items c.self.inside.last_type c.self.inside.last_set c.self.inside.last_env c.self.invariant)

pub returns-in_err-push-clause-kept : goal.returns-in_err-push-clause-kept
returns-in_err-push-clause-kept c = λ _. ap (λ (rs : List RowData). map (entry_of c.import_entry.new.interner) rs) c.in_err-push.ensures.items ∙ (lists_stay c.self.inside.interner c.import_entry.new.interner c.import_entry.ensures.grows c.self.inside.table.items c.self.inside.void.items c.self.inside.last_type c.self.inside.last_set c.self.inside.last_env c.self.invariant c.args.self.now c.self.view_is).0

pub returns-in_err-push-clause-same : goal.returns-in_err-push-clause-same
returns-in_err-push-clause-same c = (lists_stay c.self.inside.interner c.import_entry.new.interner c.import_entry.ensures.grows c.self.inside.table.items c.self.inside.void.items c.self.inside.last_type c.self.inside.last_set c.self.inside.last_env c.self.invariant c.args.self.now c.self.view_is).1

pub invariant_of-self-3 : goal.invariant_of-self-3
invariant_of-self-3 c = row_held c.self.inside.interner c.import_entry.new.interner c.import_entry.ensures.grows c.self.inside.table.items c.self.inside.void.items c.self.inside.last_type c.self.inside.last_set c.self.inside.last_env c.self.invariant c.args.self.now c.self.view_is c.in_ok-row.row c.in_ok-row.ensures.row c.args.entry.now c.in_ok-row.ensures.entry c.push.new.self.items c.in_ok-push.ensures.items

pub returns-clause-added : goal.returns-clause-added
returns-clause-added c = λ _. (
  row_added c.self.inside.interner c.import_entry.new.interner c.import_entry.ensures.grows c.self.inside.table.items c.self.inside.void.items c.self.inside.last_type c.self.inside.last_set c.self.inside.last_env c.self.invariant c.args.self.now c.self.view_is c.in_ok-row.row c.in_ok-row.ensures.row c.args.entry.now c.in_ok-row.ensures.entry c.push.new.self.items c.in_ok-push.ensures.items,
  above_entries c.self.inside.interner c.import_entry.new.interner c.import_entry.ensures.grows c.self.inside.table.items c.self.inside.void.items c.self.inside.last_type c.self.inside.last_set c.self.inside.last_env c.self.invariant c.args.self.now c.self.view_is c.in_ok-row.row c.in_ok-row.ensures.row c.args.entry.now c.in_ok-row.ensures.entry _ refl (c.is_above_last.ensures.0 c.if-not-is_above_last.false),
)

pub returns-clause-same : goal.returns-clause-same
returns-clause-same c = (lists_stay c.self.inside.interner c.import_entry.new.interner c.import_entry.ensures.grows c.self.inside.table.items c.self.inside.void.items c.self.inside.last_type c.self.inside.last_set c.self.inside.last_env c.self.invariant c.args.self.now c.self.view_is).1
