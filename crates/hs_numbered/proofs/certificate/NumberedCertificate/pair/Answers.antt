use Rattle.std.proofs.Common.{◌≡◌, refl, sym, ◌∙◌, ap, ℕ, ◌<◌, List, length, map, slice_get, Some, arith}
use Rattle.std.proofs.lemmas.List.{length-map}
use Rattle.std.proofs.lemmas.Option.{slice_get_within}
use Rattle.hs_scheme.proofs.Lists.{slice_get-read}
use Rattle.hs_table.specs.Types.{state}
use Rattle.hs_table.specs.Entries.{EntryData}
use Rattle.hs_types.specs.Interned.{InternerData, entry_of, env_of_id}
use Rattle.hs_types.proofs.Numbers.{env_within, env_stays}
use Rattle.hs_numbered.proofs.Mapped.{mapped_within, mapped_read, read_within}
use Rattle.hs_numbered.specs.Certificates.{VoidRowData, IsVoidRow, void_of, GivenData, CertificateData}
use Rattle.hs_numbered.proofs.Growing.{held_more, lists_stay}
use Rattle.hs_numbered.proofs.certificate.NumberedCertificate.pair.Goals as goal

there : (k : ℕ) (I : InternerData) (void : List VoidRowData) (table : List EntryData) (given : GivenData) (d : CertificateData) → record { numbers = I; table = table; void = map (void_of I) void; given = given } ≡ d → k < length d.void → k < length void
there k I void table given d is lt = omega (arith, lt, ap (λ (x : CertificateData). length x.void) is, length-map void (void_of I))

pub invariant_of-self : goal.invariant_of-self
invariant_of-self c = held_more c.self.inside.interner c.base.new.self c.base.ensures.grows c.self.inside.table.items c.self.inside.void.items c.self.inside.last_type c.self.inside.last_set c.self.inside.last_env c.self.invariant

pub returns-in_err-ty-clause-same : goal.returns-in_err-ty-clause-same
returns-in_err-ty-clause-same c = lists_stay c.self.inside.interner c.base.new.self c.base.ensures.grows c.self.inside.table.items c.self.inside.void.items c.self.inside.last_type c.self.inside.last_set c.self.inside.last_env c.self.invariant c.args.self.now c.self.view_is

pub tree-requires : goal.tree-requires
tree-requires c =
    let I = c.self.inside.interner in
    let J = c.base.new.self in
    let lt = there c.args.place I c.self.inside.void.items (map (entry_of I) c.self.inside.table.items) _ c.args.self.now c.self.view_is c.requires in (
      env_within I J c.base.ensures.grows c.index-row.result.now.env (read_within (IsVoidRow I) c.self.inside.void.items c.args.place c.index-row.result.now c.self.invariant.void_rows lt c.index-row.ensures),
      slice_get_within J.types c.in_ok-ty.ty (state 0) c.in_ok-ty.ensures.ok,
    )

pub invariant_of-self-in_err-entry : goal.invariant_of-self-in_err-entry
invariant_of-self-in_err-entry c = held_more c.self.inside.interner c.base.new.self c.base.ensures.grows c.self.inside.table.items c.self.inside.void.items c.self.inside.last_type c.self.inside.last_set c.self.inside.last_env c.self.invariant

pub returns-in_err-entry-clause-same : goal.returns-in_err-entry-clause-same
returns-in_err-entry-clause-same c = lists_stay c.self.inside.interner c.base.new.self c.base.ensures.grows c.self.inside.table.items c.self.inside.void.items c.self.inside.last_type c.self.inside.last_set c.self.inside.last_env c.self.invariant c.args.self.now c.self.view_is

pub invariant_of-self-2 : goal.invariant_of-self-2
invariant_of-self-2 c = held_more c.self.inside.interner c.base.new.self c.base.ensures.grows c.self.inside.table.items c.self.inside.void.items c.self.inside.last_type c.self.inside.last_set c.self.inside.last_env c.self.invariant

pub returns-clause-pair : goal.returns-clause-pair
returns-clause-pair c =
    let I = c.self.inside.interner in
    let J = c.base.new.self in
    let void = c.self.inside.void.items in
    let row = c.index-row.result.now in
    let k = c.args.place in
    let lt = there k I void (map (entry_of I) c.self.inside.table.items) _ c.args.self.now c.self.view_is c.requires in
    let used = read_within (IsVoidRow I) void k row c.self.invariant.void_rows lt c.index-row.ensures in
    let at : slice_get c.args.self.now.void k ≡ Some (void_of I row) =
    ap (λ (d : CertificateData). slice_get d.void k) (sym c.self.view_is)
    ∙ slice_get-read (map (void_of I) void) k (void_of I row) (mapped_within (void_of I) void (map (void_of I) void) refl k row lt c.index-row.ensures)
    (sym (mapped_read (void_of I) void (map (void_of I) void) refl k row lt c.index-row.ensures)) in
    let env : c.entry.inside.env.items ≡ env_of_id I row.env = ap (λ (e : EntryData). e.env) (c.entry.view_is ∙ c.in_ok-entry.ensures) ∙ env_stays I J c.base.ensures.grows row.env used in
    at ∙ (λ i. Some (record { rule = row.rule; env = sym env i }))

pub returns-clause-same : goal.returns-clause-same
returns-clause-same c = lists_stay c.self.inside.interner c.base.new.self c.base.ensures.grows c.self.inside.table.items c.self.inside.void.items c.self.inside.last_type c.self.inside.last_set c.self.inside.last_env c.self.invariant c.args.self.now c.self.view_is
