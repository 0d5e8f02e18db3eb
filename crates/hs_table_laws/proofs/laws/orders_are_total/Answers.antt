use Rattle.hs_table_laws.proofs.Orders.{type_cmp_total, type_same, arrows_cmp, entry_cmp_total, entry_same}
use Rattle.hs_table_laws.proofs.laws.orders_are_total.Goals as goal

pub returns : goal.returns
returns c = record { types = type_cmp_total; same_type = type_same; arrows = arrows_cmp; entries = entry_cmp_total; same_entry = entry_same }
