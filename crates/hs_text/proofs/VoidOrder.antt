-- The order of pairs of a nonterminal and an environment is total.
use Rattle.std.proofs.Common.{◌≡◌, ◌∙◌, ap}
use Rattle.std.specs.Ordering.{nat_cmp, ordering_then}
use Rattle.std.specs.declared.cmp.Ordering.TheVariants.{Equal}
use Rattle.std.specs.Cmp.{IsTotalOrder}
use Rattle.std.proofs.lemmas.Cmp.{nat_cmp_total, lists_total, on_total, then_total, tied_itself}
use Rattle.hs_scheme.proofs.Orderings.{then_equal}
use Rattle.hs_table.specs.Types.{type_cmp, state}
use Rattle.hs_table.specs.Entries.{EntryData, env_cmp}
use Rattle.hs_table_laws.proofs.Orders.{type_cmp_total, entry_same}
use Rattle.hs_weak.specs.Void.{VoidData, void_cmp}

pub void_cmp_total : IsTotalOrder void_cmp
void_cmp_total = then_total (on_total (λ (v : VoidData). v.rule) nat_cmp_total) (on_total (λ (v : VoidData). v.env) (lists_total (lists_total type_cmp_total)))

-- as entries of one type
pub void_same : (a b : VoidData) → void_cmp a b ≡ Equal → a ≡ b
void_same a b e =
    let p = then_equal (nat_cmp a.rule b.rule) (env_cmp a.env b.env) e in
    let entry = λ (v : VoidData). (let made : EntryData = record { point = v.rule; env = v.env; ty = state 0 } in made) in
    let rest : ordering_then (env_cmp a.env b.env) (type_cmp (state 0) (state 0)) ≡ Equal =
    ap (λ o. ordering_then o (type_cmp (state 0) (state 0))) p.1 ∙ tied_itself type_cmp_total (state 0) in
    let same : entry a ≡ entry b = entry_same (entry a) (entry b) (ap (λ o. ordering_then o (ordering_then (env_cmp a.env b.env) (type_cmp (state 0) (state 0)))) p.0 ∙ rest) in
    λ i. record { rule = (same i).point; env = (same i).env }
