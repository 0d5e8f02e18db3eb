-- What the wanted types of a point's head lead to is what follows by them.
use Rattle.std.proofs.Common.{◌≡◌, sym, ◌∙◌, ap, subst, ℕ, zero, suc, ◌+◌, ◌<◌, List, [], ◌∷◌, ◌++◌, length, map, take, slice_get, None, Some, arith, Contains, ◌⊎◌, inl, inr}
use Rattle.std.proofs.lemmas.List.{length-map}
use Rattle.std.proofs.lemmas.List.Elements.{Contains-append_right}
use Rattle.std.proofs.lemmas.Option.{same_Some, get_or_from_slice_get}
use Rattle.hs_scheme.specs.declared.term.Head.TheVariants.{Tm}
use Rattle.hs_scheme.specs.flow.Points.{PointData, IsArgument}
use Rattle.hs_scheme.specs.Problem.{ProblemData}
use Rattle.hs_scheme.proofs.Lists.{here}
use Rattle.hs_table.specs.declared.support.HeadBy.{HeadBy}
use Rattle.hs_table.specs.Types.{TypeTree, state, arrows, IsSet}
use Rattle.hs_table.specs.Entries.{Env, EntryData, Has, InShape, set_at, params_of, entry_at}
use Rattle.hs_table.specs.Follows.{IsHeadType, Support, FollowsBy, head_premise, premises}
use Rattle.hs_table_laws.proofs.Places.{at_take}
use Rattle.hs_table_laws.proofs.Sets.{no_set}
use Rattle.hs_types.specs.Interned.{InternerData, type_of_id, set_of_id, env_of_id, RowData, entry_of, IsInterner, Grows}
use Rattle.hs_types.proofs.Numbers.{type_within, type_stays, row_stays, row_within, Grows-trans}
use Rattle.hs_rules.specs.declared.search.Fixed.{Fixed}
use Rattle.hs_rules.specs.Order.{IsNoGreater}
use Rattle.hs_rules.specs.Conclusions.{DeducedData, IsDeduced}
use Rattle.hs_rules.specs.Slots.{SlotData, slots, FixedData, IsCandidate, Picked, IsOwn, Concludes}
use Rattle.hs_rules.specs.Filling.{fixed_of}
use Rattle.hs_rules.specs.Found.{SearchData, HeadData, HaveEnvs, RowsAre, HeadLeadsTo, IsDeducedBy, HasEnvFound}
use Rattle.hs_rules.specs.Parts.{ArePart, HasRowFor, HasAll, UsesArgument, IsOnlyPlaceOf}
use Rattle.hs_rules.specs.Heads.{head_type, IsHeadAt, AreHeads}
use Rattle.hs_rules.proofs.OrderLemmas.{no_greater_then}
use Rattle.hs_rules.proofs.SlotLemmas.{filled_by, used_fixed, fixed_used, slot_of, into_slots, slots_differ}
use Rattle.hs_rules.proofs.FollowLemmas.{chosen_picked, chosen_long, concludes_follows, follows_concludes}

-- what was deduced stays so
pub deduced_later : (p : ProblemData) (E : List EntryData) (J K : InternerData) (d : DeducedData) → Grows J K → IsDeduced p J E d → IsDeduced p K E d
deduced_later p E J K d g h = record { row = row_within J K g d.row h.row; follows = subst (λ (e : EntryData). FollowsBy p E d.support e) (sym (row_stays J K g d.row h.row)) h.follows }

-- a conclusion by a type of the head is deduced
module _ (p : ProblemData) (log : List EntryData) (s : SearchData) (of : PointData) (at : slice_get p.points.points s.point ≡ Some of) (args_are : of.args ≡ s.args)
    (shapes : (e : EntryData) → Contains (take s.limit log) e → InShape p e) where
  abbrev E : List EntryData
  E = take s.limit log

  -- the same environment, for as many parameters as the rule has
  to_rule : (ids : InternerData) (h : HeadData) (args : List (ℕ × ℕ)) (env : Env) → IsHeadAt p E of ids h → HeadLeadsTo ids log s h args env
      → Concludes E (fixed_of log s.fixed) (params_of p of.rule) of.args (env_of_id ids h.own) (map (set_of_id ids) h.sets) args env
  to_rule ids h args env head leads =
      subst (λ (us : List ℕ). Concludes E (fixed_of log s.fixed) (params_of p of.rule) us (env_of_id ids h.own) (map (set_of_id ids) h.sets) args env) (sym args_are)
      (subst (λ (n : ℕ). Concludes E (fixed_of log s.fixed) n s.args (env_of_id ids h.own) (map (set_of_id ids) h.sets) args env) head.own.is_env.long leads)

  from_rule : (ids : InternerData) (h : HeadData) (args : List (ℕ × ℕ)) (env : Env) → IsHeadAt p E of ids h
      → Concludes E (fixed_of log s.fixed) (params_of p of.rule) of.args (env_of_id ids h.own) (map (set_of_id ids) h.sets) args env → HeadLeadsTo ids log s h args env
  from_rule ids h args env head c =
      subst (λ (n : ℕ). Concludes E (fixed_of log s.fixed) n s.args (env_of_id ids h.own) (map (set_of_id ids) h.sets) args env) (sym head.own.is_env.long)
      (subst (λ (us : List ℕ). Concludes E (fixed_of log s.fixed) (params_of p of.rule) us (env_of_id ids h.own) (map (set_of_id ids) h.sets) args env) args_are c)

  module _ (J K : InternerData) (g : Grows J K) where
    pub deduced : (h : HeadData) → IsHeadAt p E of J h → (d : DeducedData) → IsDeducedBy J K log s h d → IsDeduced p K E d
    deduced h head d c =
        let known = subst (λ (t : ℕ). t < length J.types) (sym c.ty) head.known.rest in
        let ty_is : type_of_id K d.row.ty ≡ type_of_id J h.rest = type_stays J K g d.row.ty known ∙ ap (type_of_id J) c.ty in
        let f = concludes_follows p E shapes of s.point h.by (fixed_of log s.fixed) (env_of_id J h.own) (map (set_of_id J) h.sets) (env_of_id K d.row.env) (type_of_id J h.rest) d.support.args at head.type head.own
        (sym (length-map h.sets (set_of_id J) ∙ head.known.long)) (to_rule J h d.support.args (env_of_id K d.row.env) head c.leads) in
        record {
          row = (c.within, type_within J K g d.row.ty known);
          follows =
              subst (λ (x : Support). FollowsBy p E x (entry_of K d.row)) (λ i. record { head = sym c.by i; args = d.support.args })
              (subst (λ (x : EntryData). FollowsBy p E (record { head = h.by; args = d.support.args }) x) (λ i. record { point = sym c.point i; env = env_of_id K d.row.env; ty = sym ty_is i }) f);
        }

    -- what follows by a wanted type is found
    pub reached : (Wanted : HeadBy → Env → Type 0) (heads : List HeadData) (found : List DeducedData) → AreHeads p E of J Wanted heads
        → ((h : HeadData) → Contains heads h → (args : List (ℕ × ℕ)) (env : Env) → HeadLeadsTo J log s h args env → HasEnvFound K s h args env found)
        → (sup : Support) (e : EntryData) (f : FollowsBy p E sup e) → e.point ≡ s.point → Wanted sup.head f.sets
        → ((ids : List ℕ) → map (set_of_id J) ids ≡ f.sets → Picked (λ (x : SlotData). x.arg) (IsCandidate E None) (slots 0 f.of.args f.sets) sup.args f.chosen
        → Picked (λ (x : SlotData). x.arg) (IsCandidate E (fixed_of log s.fixed)) (slots 0 f.of.args f.sets) sup.args f.chosen)
        → HasRowFor K found sup e
    reached Wanted heads found are all sup e f here_is want to =
        let same : f.of ≡ of = same_Some f.of of (sym f.at ∙ (ap (λ k. slice_get p.points.points k) here_is ∙ at)) in
        let head = subst (λ (o : PointData). IsHeadType p E o.rule o.head sup.head (arrows f.sets e.ty)) same f.head in
        let long : length f.sets ≡ length of.args = sym (chosen_long p E f.are) ∙ ap (λ (o : PointData). length o.args) same in
        let any = are.all sup.head f.sets e.ty long head want in
        let t = any.1.1 in
        let item = (are.sound t.item t.there).0 in
        let type_is : head_type J t.item ≡ arrows f.sets e.ty = λ i. arrows (t.sets_are i) (t.rest_is i) in
        let own = subst (λ (y : TypeTree). IsOwn (params_of p f.of.rule) f.of.head y (env_of_id J t.item.own)) type_is
        (subst (λ (o : PointData). IsOwn (params_of p o.rule) o.head (head_type J t.item) (env_of_id J t.item.own)) (sym same) item.own) in
        let c = follows_concludes p E (fixed_of log s.fixed) (env_of_id J t.item.own) sup e f own (to t.item.sets t.sets_are) in
        let c_of = subst (λ (o : PointData). Concludes E (fixed_of log s.fixed) (params_of p o.rule) o.args (env_of_id J t.item.own) f.sets sup.args e.env) same c in
        let c_ids = subst (λ (ss : Env). Concludes E (fixed_of log s.fixed) (params_of p of.rule) of.args (env_of_id J t.item.own) ss sup.args e.env) (sym t.sets_are) c_of in
        let r = all t.item t.there sup.args e.env (from_rule J t.item sup.args e.env item c_ids) in
        let ty_is : type_of_id K r.item.row.ty ≡ e.ty = ap (type_of_id K) r.ty ∙ (type_stays J K g t.item.rest item.known.rest ∙ t.rest_is) in
        let own_places = map (λ (a : ℕ × ℕ). a.1) sup.args in
        let by_least = subst (λ (by : HeadBy). IsNoGreater (head_premise by ++ own_places) (premises sup)) (sym t.by_is) (any.1.0 own_places) in
        record {
          item = r.item;
          there = r.there;
          is = λ i. record { point = (r.point ∙ sym here_is) i; env = r.is i; ty = ty_is i };
          least = no_greater_then (premises r.item.support) (head_premise t.item.by ++ own_places) (premises sup) r.least by_least;
        }

    -- what is found stays deduced, and what is added is
    pub part_more : (I : InternerData) → Grows I J → (Counts : Support → Type 0) (Wanted : HeadBy → Env → Type 0) (heads : List HeadData) (rows more : List RowData) (old new : List DeducedData) → AreHeads p E of J Wanted heads
        → ((h : HeadData) (d : DeducedData) → Contains heads h → Wanted h.by (map (set_of_id J) h.sets) → IsDeducedBy J K log s h d → Counts d.support)
        → ArePart p I E s.point Counts rows old → RowsAre more new → ((d : DeducedData) → Contains new d → Contains old d ⊎ ((h : HeadData) × Contains heads h × IsDeducedBy J K log s h d))
        → ArePart p K E s.point Counts more new
    part_more I gi Counts Wanted heads rows more old new are counts part rows_are some = record {
      once = rows_are;
      each = λ d there. elim (some d there) [
        | inl was ↦ let e = part.each d was in (deduced_later p E I K d (Grows-trans I J K gi g) e.0, e.1, e.2)
        | inr (h, among, c) ↦ let a = are.sound h among in (deduced h a.0 d c, counts h d among a.1 c, c.point)
      ];
    }

    pub all_reached : (Wanted : HeadBy → Env → Type 0) (Kind : Support → Type 0) (heads : List HeadData) (found : List DeducedData) → AreHeads p E of J Wanted heads
        → ((h : HeadData) → Contains heads h → (args : List (ℕ × ℕ)) (env : Env) → HeadLeadsTo J log s h args env → HasEnvFound K s h args env found)
        → ((sup : Support) (e : EntryData) (f : FollowsBy p E sup e) → e.point ≡ s.point → Kind sup → Wanted sup.head f.sets × ((ids : List ℕ) → map (set_of_id J) ids ≡ f.sets
        → Picked (λ (x : SlotData). x.arg) (IsCandidate E None) (slots 0 f.of.args f.sets) sup.args f.chosen → Picked (λ (x : SlotData). x.arg) (IsCandidate E (fixed_of log s.fixed)) (slots 0 f.of.args f.sets) sup.args f.chosen))
        → HasAll p K E s.point Kind found
    all_reached Wanted Kind heads found are all kind sup e here_is f k =
        let w = kind sup e f here_is k in
        reached Wanted heads found are all sup e f here_is w.0 w.1

-- sets that have numbers are ascending
pub numbered_sets : (ids : InternerData) → IsInterner ids → (xs : List ℕ) (j : ℕ) → IsSet (set_at (map (set_of_id ids) xs) j)
numbered_sets ids is [] j = no_set
numbered_sets ids is (x ∷ xs) zero = is.set_ascends x
numbered_sets ids is (x ∷ xs) (suc j) = numbered_sets ids is xs j

-- the entry at a place, which is an argument of the point, is used
module _ (p : ProblemData) (log : List EntryData) (limit point arg place : ℕ) (of : PointData) (at : slice_get p.points.points point ≡ Some of) (e0 : EntryData) (e0_at : slice_get log place ≡ Some e0) (below : place < limit)
    (is_place : IsOnlyPlaceOf p.points point e0.point arg) where
  abbrev E0 : List EntryData
  E0 = take limit log

  abbrev fixed : Fixed
  fixed = record { arg = arg; place = place }

  abbrev fixed_data : FixedData
  fixed_data = record { arg = arg; ty = (entry_at log place).ty; place = place }

  e0_is : entry_at log place ≡ e0
  e0_is = get_or_from_slice_get log place e0 (record { point = 0; env = []; ty = state 0 }) e0_at

  pub there : slice_get of.args arg ≡ Some e0.point
  there = ap (λ (o : PointData). slice_get o.args arg) (sym (get_or_from_slice_get p.points.points point of (record { rule = 0; head = Tm 0; args = [] }) at)) ∙ is_place.there

  -- a support that uses it
  pub uses_fixed : (sets : Env) (args : List (ℕ × ℕ)) (es : List EntryData) → ((j : ℕ) → IsSet (set_at sets j)) → Contains (map (λ a. a.1) args) place
      → Picked (λ (x : SlotData). x.arg) (IsCandidate E0 None) (slots 0 of.args sets) args es → Picked (λ (x : SlotData). x.arg) (IsCandidate E0 (Some fixed_data)) (slots 0 of.args sets) args es
  uses_fixed sets args es ascend used k =
      used_fixed E0 fixed_data (slots_differ 0 of.args sets ascend)
      (λ x e c cand.
      let t = at_take limit log place e cand.at in
      let same : e ≡ e0 = same_Some e e0 (sym t.1 ∙ e0_at) in
      let i = slot_of 0 of.args sets x c in
      let point_is : x.point ≡ e0.point = sym cand.point ∙ ap (λ (z : EntryData). z.point) same in
      let is_arg : IsArgument p.points point i.place e0.point = ap (λ (o : PointData). slice_get o.args i.place) (get_or_from_slice_get p.points.points point of (record { rule = 0; head = Tm 0; args = [] }) at) ∙ (i.point ∙ ap (λ (u : ℕ). Some u) point_is) in
      (omega (arith, i.arg, (is_place.only point i.place is_arg).1), sym cand.ty ∙ (ap (λ (z : EntryData). z.ty) same ∙ ap (λ (z : EntryData). z.ty) (sym e0_is))))
      k used

  -- what it is used for
  pub used_asks : (sets : Env) (args : List (ℕ × ℕ)) (es : List EntryData) → Picked (λ (x : SlotData). x.arg) (IsCandidate E0 None) (slots 0 of.args sets) args es → Contains (map (λ a. a.1) args) place → Has sets arg e0.ty
  used_asks sets args es k used =
      let c = filled_by (λ (x : SlotData). x.arg) (IsCandidate E0 None) place k used in
      let same : c.entry ≡ e0 = same_Some c.entry e0 (sym (at_take limit log place c.entry c.fills.at).1 ∙ e0_at) in
      let i = slot_of 0 of.args sets c.slot c.there in
      let point_is : c.slot.point ≡ e0.point = sym c.fills.point ∙ ap (λ (z : EntryData). z.point) same in
      let is_arg : IsArgument p.points point i.place e0.point = ap (λ (o : PointData). slice_get o.args i.place) (get_or_from_slice_get p.points.points point of (record { rule = 0; head = Tm 0; args = [] }) at) ∙ (i.point ∙ ap (λ (u : ℕ). Some u) point_is) in
      subst (λ (j : ℕ). Has sets j e0.ty) (is_place.only point i.place is_arg).1 (subst (λ (t : TypeTree). Has sets i.place t) (sym c.fills.ty ∙ ap (λ (z : EntryData). z.ty) same) i.has)

  -- what follows by it
  pub argument_kind : (ids : InternerData) → IsInterner ids → (sup : Support) (e : EntryData) (f : FollowsBy p E0 sup e) → e.point ≡ point → UsesArgument place sup → Has f.sets arg e0.ty × ((xs : List ℕ) → map (set_of_id ids) xs ≡ f.sets
      → Picked (λ (x : SlotData). x.arg) (IsCandidate E0 None) (slots 0 f.of.args f.sets) sup.args f.chosen → Picked (λ (x : SlotData). x.arg) (IsCandidate E0 (Some fixed_data)) (slots 0 f.of.args f.sets) sup.args f.chosen)
  argument_kind ids is sup e f here_is used =
      let same : f.of ≡ of = same_Some f.of of (sym f.at ∙ (ap (λ k. slice_get p.points.points k) here_is ∙ at)) in (
        used_asks f.sets sup.args f.chosen (subst (λ (o : PointData). Picked (λ (x : SlotData). x.arg) (IsCandidate E0 None) (slots 0 o.args f.sets) sup.args f.chosen) same (chosen_picked p E0 f.are)) used,
        λ xs sets_are k. subst (λ (o : PointData). Picked (λ (x : SlotData). x.arg) (IsCandidate E0 (Some fixed_data)) (slots 0 o.args f.sets) sup.args f.chosen) (sym same)
            (uses_fixed f.sets sup.args f.chosen (λ j. subst (λ (ss : Env). IsSet (set_at ss j)) sets_are (numbered_sets ids is xs j)) used
            (subst (λ (o : PointData). Picked (λ (x : SlotData). x.arg) (IsCandidate E0 None) (slots 0 o.args f.sets) sup.args f.chosen) same k)),
      )

  -- a fixed one is used
  pub fixed_uses : (sets : Env) (args : List (ℕ × ℕ)) (es : List EntryData) → Has sets arg e0.ty → Picked (λ (x : SlotData). x.arg) (IsCandidate E0 (Some fixed_data)) (slots 0 of.args sets) args es → Contains (map (λ a. a.1) args) place
  fixed_uses sets args es has k =
      let x : SlotData = record { arg = 0 + arg; point = e0.point; ty = e0.ty } in
      let z : 0 + arg ≡ arg = omega arith in
      fixed_used E0 fixed_data x (into_slots 0 of.args sets arg e0.point e0.ty there has) z (ap (λ (y : EntryData). y.ty) (sym e0_is)) k

-- an entry that is used as an argument is at an argument's point
pub used_argument : (p : ProblemData) (log : List EntryData) (limit point place : ℕ) (e0 : EntryData) → slice_get log place ≡ Some e0 → (sup : Support) (e : EntryData) → FollowsBy p (take limit log) sup e → e.point ≡ point → UsesArgument place sup
    → (i : ℕ) × IsArgument p.points point i e0.point
used_argument p log limit point place e0 e0_at sup e f here_is used =
    let c = filled_by (λ (x : SlotData). x.arg) (IsCandidate (take limit log) None) place (chosen_picked p (take limit log) f.are) used in
    let i = slot_of 0 f.of.args f.sets c.slot c.there in
    let same : c.entry ≡ e0 = same_Some c.entry e0 (sym (at_take limit log place c.entry c.fills.at).1 ∙ e0_at) in
    let point_is : c.slot.point ≡ e0.point = sym c.fills.point ∙ ap (λ (z : EntryData). z.point) same in
    let of_at : slice_get p.points.points point ≡ Some f.of = ap (λ k. slice_get p.points.points k) (sym here_is) ∙ f.at in
    (i.place, ap (λ (o : PointData). slice_get o.args i.place) (get_or_from_slice_get p.points.points point f.of (record { rule = 0; head = Tm 0; args = [] }) of_at) ∙ (i.point ∙ ap (λ (u : ℕ). Some u) point_is))

-- envs of the head's types are as long as the arguments' environments
pub heads_envs : (p : ProblemData) (E : List EntryData) (of : PointData) (ids : InternerData) (Wanted : HeadBy → Env → Type 0) (heads : List HeadData) (args : List ℕ) (params : ℕ) → params ≡ params_of p of.rule → AreHeads p E of ids Wanted heads
    → HaveEnvs E args params → (h : HeadData) → Contains heads h → HaveEnvs E args (length (env_of_id ids h.own))
heads_envs p E of ids Wanted heads args params is are have h c = subst (λ (n : ℕ). HaveEnvs E args n) (is ∙ sym (are.sound h c).0.own.is_env.long) have

pub premise_used : (by : HeadBy) (args : List (ℕ × ℕ)) (place : ℕ) → head_premise by ≡ place ∷ [] → Contains (premises (record { head = by; args = args })) place
premise_used by args place is = subst (λ (xs : List ℕ). Contains (xs ++ map (λ a. a.1) args) place) (sym is) (here place (map (λ a. a.1) args))

pub argument_used : (by : HeadBy) (args : List (ℕ × ℕ)) (place : ℕ) → Contains (map (λ a. a.1) args) place → Contains (premises (record { head = by; args = args })) place
argument_used by args place c = Contains-append_right (head_premise by) (map (λ a. a.1) args) place c
