-- Entries and void pairs by number.
--     VoidRowData, IsVoidRow, void_of    a row stands for a pair of a nonterminal and an environment
--     AreHeld                           rows and numbers are in use
--     GivenData, GivenGrows              how many types, sets and environments are taken by number, the lowest ones
--     given_by, given_of                 these numbers, by the greatest that were given
--     CertificateData                    what has numbers, and entries and void pairs of it
--     IsAboveLast                        an item is greater than the last of a list
use Rattle.std.specs.Prelude.{◌≡◌, refl, ℕ, suc, ◌<◌, ◌≤◌, List, [], ◌∷◌, ◌++◌, length, All, Option, Some, None, IfSome}
use Rattle.std.specs.Coded.{Coded, code_by, coded×, coded_list, coded_ℕ}
use Rattle.std.specs.declared.cmp.Ordering.{Ordering}
use Rattle.std.specs.declared.cmp.Ordering.TheVariants.{Less}
use Rattle.hs_table.specs.Entries.{EntryData, coded_entry}
use Rattle.hs_weak.specs.Void.{VoidData, coded_void}
use Rattle.hs_types.specs.Interned.{InternerData, coded_interner, env_of_id, RowData, IsRow}
use Rattle.hs_numbered.specs.declared.void_row.VoidRow.{VoidRow}

-- what contracts see of a void row: its two numbers
abbrev pub VoidRowData : Type 0
VoidRowData = VoidRow

abbrev pub IsVoidRow : InternerData → VoidRowData → Type 0
IsVoidRow I row = row.env < length I.envs

abbrev pub void_of : InternerData → VoidRowData → VoidData
void_of I row = record { rule = row.rule; env = env_of_id I row.env }

-- rows, and the greatest numbers that were given, are in use
pub record AreHeld (I : InternerData) (table : List RowData) (void : List VoidRowData) (type set env : Option ℕ) : Type 0 where
  pub rows : All (IsRow I) table
  pub void_rows : All (IsVoidRow I) void
  pub types : IfSome type (λ t. t < length I.types)
  pub sets : IfSome set (λ s. s < length I.sets)
  pub envs : IfSome env (λ e. e < length I.envs)

-- all lesser numbers are taken, and no other
pub record GivenData : Type 0 where
  pub types : ℕ
  pub sets : ℕ
  pub envs : ℕ

abbrev pub GivenGrows : GivenData → GivenData → Type 0
GivenGrows old new = (old.types ≤ new.types) × (old.sets ≤ new.sets) × (old.envs ≤ new.envs)

abbrev pub given_by : Option ℕ → ℕ
given_by None = 0
given_by (Some last) = suc last

abbrev pub given_of : Option ℕ → Option ℕ → Option ℕ → GivenData
given_of type set env = record { types = given_by type; sets = given_by set; envs = given_by env }

pub record CertificateData : Type 0 where
  pub numbers : InternerData
  pub table : List EntryData
  pub void : List VoidData
  pub given : GivenData

abbrev pub coded_certificate : Coded CertificateData
coded_certificate =
    code_by (InternerData × (List EntryData × (List VoidData × (ℕ × (ℕ × ℕ)))))
    (coded× coded_interner (coded× (coded_list coded_entry) (coded× (coded_list coded_void) (coded× coded_ℕ (coded× coded_ℕ coded_ℕ)))))
    (λ c. (c.numbers, (c.table, (c.void, (c.given.types, (c.given.sets, c.given.envs))))))
    (λ p. record { numbers = p.0; table = p.1.0; void = p.1.1.0; given = record { types = p.1.1.1.0; sets = p.1.1.1.1.0; envs = p.1.1.1.1.1 } }) (λ _. refl)

-- so is any item where the list is empty
abbrev pub IsAboveLast : {X : Type 0} → (X → X → Ordering) → List X → X → Type 0
IsAboveLast {X} cmp xs x = (front : List X) (last : X) → xs ≡ front ++ last ∷ [] → cmp last x ≡ Less
