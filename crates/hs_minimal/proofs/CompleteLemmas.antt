-- That all is found which weakly follows at a terminal with all its arguments.
use Rattle.std.proofs.Common.{◌≡◌, refl, sym, ◌∙◌, ap, subst, ℕ, ◌<◌, List, [], ◌∷◌, ◌++◌, length, get_or, replicate, set, slice_get, Some, None, Contains, arith, inr}
use Rattle.std.proofs.lemmas.List.Elements.{Contains-append_left, Contains-append_right}
use Rattle.std.proofs.lemmas.Option.{same_Some, slice_get-get_or, slice_get_within}
use Rattle.hs_scheme.specs.declared.term.Head.{Head}
use Rattle.hs_scheme.specs.declared.term.Head.TheVariants.{Tm}
use Rattle.hs_scheme.specs.flow.Points.{PointData, point_at}
use Rattle.hs_scheme.specs.Problem.{ProblemData}
use Rattle.hs_scheme.proofs.Lists.{here, Contains-at}
use Rattle.hs_table.specs.declared.support.HeadBy.{HeadBy}
use Rattle.hs_table.specs.declared.support.HeadBy.TheVariants.{Terminal, Rule, Param}
use Rattle.hs_table.specs.Types.{TypeTree, state, arrows}
use Rattle.hs_table.specs.Entries.{Env, EntryData, Has, IsEnv, params_of}
use Rattle.hs_table.specs.Follows.{IsHeadType, AnyHas, LacksTransition, RejectsChild, rank_of}
use Rattle.hs_table_laws.proofs.Arrows.{arrows_same, length-empties, empties_has, one_long, one_has}
use Rattle.hs_verdict.specs.Premises.{IsSortedProblem}
use Rattle.hs_weak.specs.Strength.{AsStrongAs, same_state, AsksAtLeast, Covers}
use Rattle.hs_weak.specs.Weak.{WeaklyChosen, WeaklyFollows}
use Rattle.hs_weak.specs.WeakExamples.{chosen_long}
use Rattle.hs_weak.proofs.Strength.{state_only}
use Rattle.hs_types.specs.Interned.{InternerData, RowData, IsRow, type_of_id, env_of_id, entry_of, Grows}
use Rattle.hs_types.proofs.Numbers.{type_stays, env_stays, row_within, row_stays}
use Rattle.hs_choices.proofs.Pruning.{union_asks}
use Rattle.hs_heads.proofs.TerminalLemmas.{ranks_agree}
use Rattle.hs_reads.specs.Lists.{list_of}
use Rattle.hs_minimal.specs.Growing.{GrowingData, IsGrowing, AreOfRows}
use Rattle.hs_minimal.specs.Following.{HasEntry, KeepsEntries, rejected_in, HasByRow, HasLacking, IsCoveredAmong}
use Rattle.hs_minimal.proofs.GrowingLemmas.{added_in_use}
use Rattle.hs_minimal.proofs.ChoosingLemmas.{chosen_entry}

-- entries stay while there come more numbers and more rows
pub entry_stays : (J K : InternerData) → Grows J K → (rows : List RowData) (e : EntryData) → HasEntry J rows e → HasEntry K rows e
entry_stays J K grows rows e (r, (there, in_use, is)) = (r, (there, row_within J K grows r in_use, row_stays J K grows r in_use ∙ is))

pub entry_there : (J : InternerData) (old new : List RowData) (r : RowData) → new ≡ old ++ r ∷ [] → (e : EntryData) → HasEntry J old e → HasEntry J new e
entry_there J old new r is e (x, (there, in_use, x_is)) = (x, (subst (λ (z : List RowData). Contains z x) (sym is) (Contains-append_left old (r ∷ []) x there), in_use, x_is))

pub entry_pushed : (J : InternerData) (old new : List RowData) (r : RowData) → new ≡ old ++ r ∷ [] → IsRow J r → (e : EntryData) → entry_of J r ≡ e → HasEntry J new e
entry_pushed J old new r is in_use e e_is = (r, (subst (λ (z : List RowData). Contains z r) (sym is) (Contains-append_right old (r ∷ []) r (here r [])), in_use, e_is))

-- what is told of a row, and of a state, stays
module _ (p : ProblemData) (point a : ℕ) where
  pub by_row_stays : (I J K : InternerData) (old new : List RowData) → KeepsEntries J K old new → (place : ℕ) (row : RowData) → HasByRow p I J old point a place row → HasByRow p I K new point a place row
  by_row_stays I J K old new keeps place row told s q is reads = keeps (rejected_in point (env_of_id I row.env) q) (told s q is reads)

  -- read later
  pub by_row_before : (I L K : InternerData) → Grows I L → (new : List RowData) (place : ℕ) (row : RowData) → IsRow I row → HasByRow p L K new point a place row → HasByRow p I K new point a place row
  by_row_before I L K grows new place row in_use told s q is reads =
      subst (λ (E : Env). HasEntry K new (rejected_in point E q)) (env_stays I L grows row.env in_use.0) (told s q (type_stays I L grows row.ty in_use.1 ∙ is) reads)

  pub lacking_stays : (J K : InternerData) (old new : List RowData) → KeepsEntries J K old new → (q : ℕ) → HasLacking p J old point a q → HasLacking p K new point a q
  lacking_stays J K old new keeps q told none = keeps (rejected_in point (replicate (params_of p (point_at p.points point).rule) []) q) (told none)

-- of a row that is kept
module _ (g : GrowingData) (I L : InternerData) (grows : Grows I L) (h : IsGrowing I g) (point a : ℕ) (found : List RowData) (place u : ℕ) (row : RowData) (there : Contains (list_of g.rows u) row) where
  row_in_use : IsRow I row
  row_in_use = added_in_use I g h row (h.taken u row there).1

  pub by_row_later : (K : InternerData) → HasByRow g.problem L K found point a place row → HasByRow g.problem I K found point a place row
  by_row_later K told = by_row_before g.problem point a I L K grows found place row row_in_use told

  pub by_row_now : HasByRow g.problem I L found point a place row → HasByRow g.problem L L found point a place row
  by_row_now told s q is reads =
      subst (λ (E : Env). HasEntry L found (rejected_in point E q)) (sym (env_stays I L grows row.env row_in_use.0)) (told s q (sym (type_stays I L grows row.ty row_in_use.1) ∙ is) reads)

-- what covers an entry with this type
module _ (K : InternerData) (found : List RowData) (point : ℕ) (e : EntryData) (at : e.point ≡ point) where
  covered_by_entry : (env : Env) (q : ℕ) → e.ty ≡ state q → AsksAtLeast AsStrongAs e.env env → HasEntry K found (rejected_in point env q) → IsCoveredAmong K found e
  covered_by_entry env q ty asks (r, (there, in_use, is)) = (
    r,
    (
      there,
      subst (λ (x : EntryData). Covers AsStrongAs x e) (sym is)
          (record { point = sym at; ty = subst (λ (t : TypeTree). AsStrongAs (state q) t) (sym ty) same_state; env = asks }),
    ),
  )

module _ (p : ProblemData) (given : IsSortedProblem p) (K : InternerData) (g : GrowingData) (found : List RowData) (point a : ℕ) (head : (point_at p.points point).head ≡ Tm a) (full : length (point_at p.points point).args ≡ rank_of p a)
    (own : slice_get p.points.points point ≡ Some (point_at p.points point)) (lacking : (q : ℕ) → q < p.sorted.automaton.states → HasLacking p K found point a q)
    (told : (place : ℕ) → place < length (point_at p.points point).args → (row : RowData) → Contains (list_of g.rows (get_or (point_at p.points point).args place 0)) row → HasByRow p K K found point a place row) (C : List EntryData) (of_rows : AreOfRows K g C) where
  abbrev of : PointData
  of = point_at p.points point

  module _ (e : EntryData) (at : e.point ≡ point) (sets : Env) (places : List (ℕ × ℕ)) (chosen : List EntryData) (are : WeaklyChosen AsStrongAs p C 0 of.args sets places chosen) (env : IsEnv (params_of p of.rule) e.env)
      (union : (j : ℕ) (b : TypeTree) → j < length e.env → AnyHas chosen j b → Has e.env j b) where
    many : length sets ≡ rank_of p a
    many = chosen_long AsStrongAs p C are ∙ full

    by_lacking : (q : ℕ) → q < p.sorted.automaton.states → LacksTransition p a q (arrows sets e.ty) → IsCoveredAmong K found e
    by_lacking q lt l =
        let none : Env = replicate (rank_of p a) [] in
        let parts = arrows_same sets none e.ty (state q) (many ∙ sym (length-empties (rank_of p a))) l.is in
        covered_by_entry K found point e at (replicate (params_of p of.rule) []) q parts.1 (λ j b m. absurd (empties_has (params_of p of.rule) j b m)) (lacking q lt l.moves)

    by_child : (q child : ℕ) → RejectsChild p a q child (arrows sets e.ty) → IsCoveredAmong K found e
    by_child q child r =
        let rank : rank_of p a ≡ length r.qs = sym (ranks_agree p.sorted given.sorted q a r.qs r.moves) in
        let one : Env = set (replicate (length r.qs) []) r.place (state r.r ∷ []) in
        let parts = arrows_same sets one e.ty (state q) (many ∙ (rank ∙ sym (one_long (length r.qs) r.place (state r.r ∷ [])))) r.is in
        let in_qs = slice_get_within r.qs r.place r.r r.at in
        let lt : r.place < length of.args = omega (arith, in_qs, rank, full) in
        let u : ℕ = get_or of.args r.place 0 in
        let asked : Has sets r.place (state r.r) = subst (λ (ss : Env). Has ss r.place (state r.r)) (sym parts.0) (one_asks (length r.qs) r.place (state r.r) in_qs) in
        let x = chosen_entry p C are r.place u (state r.r) (slice_get-get_or of.args r.place 0 lt) asked in
        let row = of_rows x.entry (Contains-at C x.place x.entry x.holds.at) in
        let row_point : row.0.point ≡ u = ap (λ (d : EntryData). d.point) row.1.1 ∙ x.point in
        let row_ty : type_of_id K row.0.ty ≡ state r.r = ap (λ (d : EntryData). d.ty) row.1.1 ∙ state_only x.entry.ty r.r x.strong in
        let there : Contains (list_of g.rows u) row.0 = subst (λ k. Contains (list_of g.rows k) row.0) row_point row.1.0 in
        covered_by_entry K found point e at (env_of_id K row.0.env) q parts.1
        (subst (λ (E : Env). AsksAtLeast AsStrongAs e.env E) (sym (ap (λ (d : EntryData). d.env) row.1.1))
        (union_asks p given C point of own are e.env (λ j b below any. union j b (omega (arith, below, env.long)) any) x.entry x.there))
        (told r.place lt row.0 there r.r q row_ty (r.qs, (r.moves, r.at)))
      where
        one_asks : (n k : ℕ) (b : TypeTree) → k < n → Has (set (replicate n []) k (b ∷ [])) k b
        one_asks n k b lt = (one_has n k k b b lt).1 (refl, refl)

    by_head : (by : HeadBy) → IsHeadType p C of.rule (Tm a) by (arrows sets e.ty) → IsCoveredAmong K found e
    by_head (Terminal q None) h = by_lacking q h.0 h.1
    by_head (Terminal q (Some child)) h = by_child q child h.1
    by_head (Rule place) h = absurd h
    by_head (Param y place) h = absurd h

  pub covered_at_terminal : (e : EntryData) → e.point ≡ point → WeaklyFollows AsStrongAs p C e → IsCoveredAmong K found e
  covered_at_terminal e at (s, h) =
      let of_is : h.of ≡ of = same_Some h.of of (sym h.at ∙ (ap (λ k. slice_get p.points.points k) at ∙ own)) in
      by_head e at h.sets s.args h.chosen (subst (λ (d : PointData). WeaklyChosen AsStrongAs p C 0 d.args h.sets s.args h.chosen) of_is h.are) (subst (λ (d : PointData). IsEnv (params_of p d.rule) e.env) of_is h.env) (λ j b lt any. (h.union j b lt).1 (inr any)) s.head
      (subst (λ (k : Head). IsHeadType p C of.rule k s.head (arrows h.sets e.ty)) head (subst (λ (d : PointData). IsHeadType p C d.rule d.head s.head (arrows h.sets e.ty)) of_is h.head))
