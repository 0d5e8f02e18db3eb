-- Conclusions that wait, in their table.
use Rattle.std.proofs.Common.{◌≡◌, sym, ◌∙◌, ap, subst, ◌+◌, ◌<◌, List, [], ◌∷◌, length, Option, Some, None, IfSome, IfNone, cond, arith, Contains, inl, inr, ◌⊎◌}
use Rattle.std.specs.Prelude.{if◌then◌else◌}
use Rattle.std.specs.Option.{is_some}
use Rattle.std.specs.Map.{lookup}
use Rattle.std.proofs.lemmas.Bool.{cases_Bool, cond-true, cond-false, false≢true}
use Rattle.std.proofs.lemmas.Option.{same_Some, none-some}
use Rattle.indexmap.specs.IndexMap.{IndexMap, get}
use Rattle.hs_table.specs.Entries.{EntryData}
use Rattle.hs_types.specs.Interned.{InternerData, RowData, IsRow, entry_of, Grows}
use Rattle.hs_types.specs.contracts.ids.RowPartialEq.TheImpl.{eq-value}
use Rattle.hs_types.proofs.Numbers.{row_stays}
use Rattle.hs_replica.proofs.KeptLemmas.{row_same}
use Rattle.hs_rules.specs.Conclusions.{DeducedData}
use Rattle.hs_core.specs.Waiting.{Waits, HasRow, IsKeyed, IsThereOrWaits}

module _ {S : Type 0} (m n : IndexMap RowData DeducedData S) (row : RowData) (w : Option DeducedData) (updates : (q : RowData) → get eq-value.it n q ≡ cond (eq-value.it row q) w (get eq-value.it m q)) where
  -- what stands under the row now, and under another row
  under : (q : RowData) → row ≡ q → get eq-value.it n q ≡ w
  under q same = updates q ∙ cond-true (eq-value.it row q) w (get eq-value.it m q) ((row_same row q).1 same)

  -- a row is this one, or stands as before
  cases : (q : RowData) → (row ≡ q) ⊎ (get eq-value.it n q ≡ get eq-value.it m q)
  cases q = elim (cases_Bool (eq-value.it row q)) [
    | inl same ↦ inl ((row_same row q).0 same)
    | inr other ↦ inr (updates q ∙ cond-false (eq-value.it row q) w (get eq-value.it m q) other)
  ]

-- what stood under a row was taken
module _ {S : Type 0} (m n : IndexMap RowData DeducedData S) (row : RowData) (updates : (q : RowData) → get eq-value.it n q ≡ cond (eq-value.it row q) None (get eq-value.it m q)) where
  taken_fewer : (x : DeducedData) → Waits n x → Waits m x
  taken_fewer x w = elim (cases m n row None updates x.row) [
    | inl same ↦ absurd (none-some x (sym (under m n row None updates x.row same) ∙ w))
    | inr as_before ↦ sym as_before ∙ w
  ]

  pub taken_keyed : IsKeyed m → IsKeyed n
  taken_keyed keyed r x h = elim (cases m n row None updates r) [
    | inl same ↦ absurd (none-some x (sym (under m n row None updates r same) ∙ h))
    | inr as_before ↦ keyed r x (sym as_before ∙ h)
  ]

  taken_others : (d : DeducedData) → get eq-value.it m row ≡ Some d → (x : DeducedData) → Waits m x → (x ≡ d) ⊎ Waits n x
  taken_others d is x w = elim (cases m n row None updates x.row) [
    | inl same ↦ inl (same_Some x d (sym w ∙ ap (λ q. get eq-value.it m q) (sym same) ∙ is))
    | inr as_before ↦ inr (as_before ∙ w)
  ]

-- what is found under a row waits
keyed_waits : {S : Type 0} (m : IndexMap RowData DeducedData S) (row : RowData) (d : DeducedData) → IsKeyed m → get eq-value.it m row ≡ Some d → Waits m d
keyed_waits m row d keyed is = ap (λ q. get eq-value.it m q) (keyed row d is) ∙ is

-- what `swap_remove` took from under the row of a table that was as before
module _ {S : Type 0} (f m n : IndexMap RowData DeducedData S) (row : RowData) (same : m ≡ f) (updates : (q : RowData) → get eq-value.it n q ≡ cond (eq-value.it row q) None (get eq-value.it m q)) where
  pub took_fewer : (x : DeducedData) → Waits n x → Waits f x
  took_fewer x w = subst (λ (t : IndexMap RowData DeducedData S). Waits t x) same (taken_fewer m n row updates x w)

  pub took_some : IsKeyed f → (o : Option DeducedData) → o ≡ get eq-value.it m row → IfSome o (λ d. Waits f d)
  took_some keyed None is = tt
  took_some keyed (Some d) is = keyed_waits f row d keyed (ap (λ (t : IndexMap RowData DeducedData S). get eq-value.it t row) (sym same) ∙ sym is)

  pub took_others : (o : Option DeducedData) → o ≡ get eq-value.it m row → IfSome o (λ d. (x : DeducedData) → Waits f x → (x ≡ d) ⊎ Waits n x)
  took_others None is = tt
  took_others (Some d) is = λ x w. taken_others m n row updates d (sym is) x (subst (λ (t : IndexMap RowData DeducedData S). Waits t x) (sym same) w)

  pub took_less : (o : Option DeducedData) → length n.entries + (if is_some o then 1 else 0) ≡ length m.entries → IfSome o (λ d. length n.entries < length f.entries)
  took_less None len = tt
  took_less (Some d) len = omega (arith, len, ap (λ (t : IndexMap RowData DeducedData S). length t.entries) same)

  pub took_none : HasRow f row → (o : Option DeducedData) → o ≡ get eq-value.it m row → IfNone o ((x : DeducedData) → Waits f x → ⊥)
  took_none has None is = λ x w. false≢true (ap (λ (p : Option DeducedData). is_some p) (is ∙ ap (λ (t : IndexMap RowData DeducedData S). get eq-value.it t row) same) ∙ has)
  took_none has (Some d) is = tt

-- nothing stands in an empty table
none_waits : {S : Type 0} (m : IndexMap RowData DeducedData S) → length m.entries ≡ 0 → (r : RowData) → get eq-value.it m r ≡ None
none_waits m none r = go m.entries none
  where
    go : (es : List (RowData × DeducedData)) → length es ≡ 0 → lookup (eq-value.it r) es ≡ None
    go [] e = λ i. None
    go (x ∷ es) e = absurd (omega (arith, e))

pub nothing_waits : {S : Type 0} (m : IndexMap RowData DeducedData S) → length m.entries ≡ 0 → (d : DeducedData) → Waits m d → ⊥
nothing_waits m none d w = none-some d (sym (none_waits m none d.row) ∙ w)

-- what is known stays known: the interner and the log grow, and what waited waits or is in the log
pub known_then : (I J : InternerData) (L M : List EntryData) (W V : DeducedData → Type 0) → Grows I J → ((e : EntryData) → Contains L e → Contains M e) → ((d : DeducedData) → W d → IsRow I d.row)
    → ((d : DeducedData) → W d → V d ⊎ Contains M (entry_of J d.row)) → (e : EntryData) → IsThereOrWaits I L W e → IsThereOrWaits J M V e
known_then I J L M W V g more rows keep e known = elim known [
  | inl was ↦ inl (more e was)
  | inr (d, (w, is)) ↦
      let same : entry_of J d.row ≡ e = row_stays I J g d.row (rows d w) ∙ is in
      elim (keep d w) [
        | inl v ↦ inr (d, (v, same))
        | inr there ↦ inl (subst (λ x. Contains M x) same there)
      ]
]
