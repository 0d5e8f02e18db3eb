-- Nothing comes of an idle point.
use Rattle.std.proofs.Common.{◌≡◌, refl, sym, ◌∙◌, ap, subst, ℕ, zero, suc, ◌≤◌, List, [], ◌∷◌, length, set, replicate, Option, Some, None, slice_get, Contains, arith}
use Rattle.std.proofs.lemmas.Option.{same_Some, slice_get_within, get_or_from_slice_get}
use Rattle.hs_scheme.specs.declared.term.Head.{Head}
use Rattle.hs_scheme.specs.declared.term.Head.TheVariants.{Tm}
use Rattle.hs_scheme.specs.flow.Points.{PointData, point_at}
use Rattle.hs_scheme.specs.Problem.{ProblemData}
use Rattle.hs_scheme.proofs.Lists.{none_in, here, later}
use Rattle.hs_table.specs.declared.support.HeadBy.{HeadBy}
use Rattle.hs_table.specs.declared.support.HeadBy.TheVariants.{Terminal, Param}
use Rattle.hs_table.specs.declared.support.HeadBy.TheVariants.{Rule as ByRule}
use Rattle.hs_table.specs.Types.{TypeTree, state, arrows}
use Rattle.hs_table.specs.Entries.{Env, EntryData, Has}
use Rattle.hs_table.specs.Follows.{IsHeadType, IsTerminalType, HasMove, rank_of}
use Rattle.hs_table_laws.proofs.Arrows.{arrows_same, one_long, one_has}
use Rattle.hs_weak.specs.Strength.{AsStrongAs}
use Rattle.hs_weak.specs.Weak.{WeaklyChosen, done, next_argument, choose, WeaklyFollows}
use Rattle.hs_weak.specs.WeakExamples.{chosen_long}
use Rattle.hs_weak.specs.Reads.{last_state}
use Rattle.hs_weak.specs.Void.{VoidData}
use Rattle.hs_weak.specs.Certificate.{Matters}
use Rattle.hs_types.specs.Interned.{InternerData, RowData}
use Rattle.hs_choices.specs.Numbered.{AreTableRows}
use Rattle.hs_heads.proofs.Ends.{last_over, no_more_sets}
use Rattle.hs_certificate_checker.specs.Idle.{HaveNoRows, IsIdle}
use Rattle.hs_certificate_checker.specs.Settled.{AreSettledAt}

-- the points that were looked at, and one more
pub no_rows_more : (table : List RowData) (u : ℕ) (rows : List RowData) → ((row : RowData) → Contains table row → row.point ≡ u → Contains rows row) → length rows ≡ 0 → (row : RowData) → Contains table row → row.point ≡ u → ⊥
no_rows_more table u [] has none row m at = none_in row (has row m at)
no_rows_more table u (r ∷ rows) has none row m at = absurd (omega (arith, none))

module _ (p : ProblemData) (C : List EntryData) (I : InternerData) (table : List RowData) (rows : AreTableRows p C I table) where
  -- nothing may be chosen where there are no rows
  none_chosen : {i : ℕ} {us : List ℕ} {ss : Env} {places : List (ℕ × ℕ)} {es : List EntryData} → WeaklyChosen AsStrongAs p C i us ss places es → HaveNoRows table us → (j : ℕ) (a : TypeTree) → Has ss j a → ⊥
  none_chosen done bare j a h = none_in a h
  none_chosen (next_argument c) bare zero a h = none_in a h
  none_chosen (next_argument {u = u} {us = us} c) bare (suc j) a h = none_chosen c (λ w m. bare w (later u w us m)) j a h
  none_chosen (choose {u = u} {place = place} {us = us} {e = e} holds point strong c) bare j a h =
      let row = rows.each place e holds in
      bare u (here u us) row.0 row.1.0 (ap (λ (x : EntryData). x.point) row.1.1 ∙ point)

  module _ (R : List (ℕ × ℕ)) (point : ℕ) (idle : IsIdle p R table point) where
    ends : (q : ℕ) (child : Option ℕ) (ty : TypeTree) → IsTerminalType p idle.terminal q child ty → last_state ty ≡ q
    ends q None ty l = ap last_state l.is ∙ last_over (replicate (rank_of p idle.terminal) []) (state q)
    ends q (Some child) ty r = ap last_state r.is ∙ last_over (set (replicate (length r.qs) []) r.place (state r.r ∷ [])) (state q)

    -- a terminal with a transition is rejected by a child alone, and so by an argument
    by_child : (q : ℕ) (child : Option ℕ) (sets : Env) (ty : TypeTree) (n : ℕ) → HasMove p.sorted.automaton.transitions idle.terminal n q → length sets ≡ n
        → IsTerminalType p idle.terminal q child (arrows sets ty) → (j : ℕ) × ((a : TypeTree) × Has sets j a)
    by_child q None sets ty n move long l = let no : (let none : Option (List ℕ) = None in none) ≡ Some move.0 = sym l.moves ∙ move.1.0 in absurd (cc)
    by_child q (Some child) sets ty n move long r =
        let ones = set (replicate (length r.qs) []) r.place (state r.r ∷ []) in
        let same : r.qs ≡ move.0 = same_Some r.qs move.0 (sym r.moves ∙ move.1.0) in
        let within = slice_get_within r.qs r.place r.r r.at in
        let whole : length ones ≡ length r.qs = one_long (length r.qs) r.place (state r.r ∷ []) in
        let few : length r.qs ≤ n = subst (λ (qs : List ℕ). length qs ≤ n) (sym same) move.1.1 in
        let more = no_more_sets ones sets q ty (sym r.is) in
        let both = arrows_same sets ones ty (state q) (omega (arith, whole, few, more, long)) r.is in
        (r.place, (state r.r, subst (λ (E : Env). Has E r.place (state r.r)) (sym both.0) ((one_has (length r.qs) r.place r.place (state r.r) (state r.r) within).1 (refl, refl))))

    by_head : (rule : ℕ) (by : HeadBy) (sets : Env) (ty : TypeTree) (n : ℕ) → IsHeadType p C rule (Tm idle.terminal) by (arrows sets ty) → Contains R (point, last_state ty) → n ≡ length (point_at p.points point).args → length sets ≡ n
        → (j : ℕ) × ((a : TypeTree) × Has sets j a)
    by_head rule (Terminal q child) sets ty n (lt, t) read count long =
        let end : last_state ty ≡ q = sym (last_over sets ty) ∙ ends q child (arrows sets ty) t in
        by_child q child sets ty n (subst (λ k. HasMove p.sorted.automaton.transitions idle.terminal k q) (sym count) (idle.moves q (subst (λ z. Contains R (point, z)) end read))) long t
    by_head rule (ByRule place) sets ty n h read count long = absurd h
    by_head rule (Param y place) sets ty n h read count long = absurd h

    pub idle_none : (e : EntryData) → e.point ≡ point → WeaklyFollows AsStrongAs p C e → Matters R e → ⊥
    idle_none e is (s, f) matters =
        let d = point_at p.points point in
        let none : PointData = record { rule = 0; head = Tm 0; args = [] } in
        let own : d ≡ f.of = get_or_from_slice_get p.points.points point f.of none (subst (λ k. slice_get p.points.points k ≡ Some f.of) is f.at) in
        let head : f.of.head ≡ Tm idle.terminal = ap (λ (x : PointData). x.head) (sym own) ∙ idle.head in
        let asked = by_head f.of.rule s.head f.sets e.ty (length f.of.args) (subst (λ (h : Head). IsHeadType p C f.of.rule h s.head (arrows f.sets e.ty)) head f.head) (subst (λ k. Contains R (k, last_state e.ty)) is matters)
        (ap (λ (x : PointData). length x.args) (sym own)) (chosen_long AsStrongAs p C f.are) in
        none_chosen f.are (subst (λ (x : PointData). HaveNoRows table x.args) own idle.bare) asked.0 asked.1.0 asked.1.1

    pub idle_settled : (V : List VoidData) → AreSettledAt p C V R point
    idle_settled V e is follows matters = absurd (idle_none e is follows matters)
