-- The types of a point's head, as they are wanted.
use Rattle.std.proofs.Common.{◌≡◌, refl, sym, ◌∙◌, ap, subst, ℕ, ◌+◌, ◌<◌, ◌&&◌, nat_eq, None, Some, List, [], ◌∷◌, length, map, take, filter, replicate, set, slice_get, arith, Contains, inl, inr, ◌↔◌, Bool}
use Rattle.std.proofs.lemmas.Bool.{eqb-true, eq-eqb, and_parts, and_from}
use Rattle.std.proofs.lemmas.List.{length-map}
use Rattle.std.proofs.lemmas.Option.{same_Some}
use Rattle.hs_scheme.specs.declared.term.Head.TheVariants.{Var, Nt, Tm}
use Rattle.hs_scheme.specs.declared.flow.FlowPair.{FlowPair}
use Rattle.hs_scheme.specs.flow.Points.{PointData}
use Rattle.hs_scheme.specs.acceptance.Automaton.{next}
use Rattle.hs_scheme.specs.acceptance.Transitions.{Reads}
use Rattle.hs_scheme.specs.Problem.{ProblemData}
use Rattle.hs_scheme.proofs.Lists.{none_in, Contains-at, filter_keeps, filter_has, filter_passes}
use Rattle.hs_table.specs.declared.support.HeadBy.{HeadBy}
use Rattle.hs_table.specs.declared.support.HeadBy.TheVariants.{Terminal, Rule, Param}
use Rattle.hs_table.specs.Types.{TypeTree, state, arrows}
use Rattle.hs_table.specs.Entries.{Env, EntryData, Has, InShape, params_of}
use Rattle.hs_table.specs.Follows.{rank_of, LacksTransition, RejectsChild, IsAt, FromBody, FromFlow, IsHeadType, head_premise}
use Rattle.hs_table_laws.proofs.Places.{at_take, to_take, within_from}
use Rattle.hs_table_laws.proofs.Arrows.{empties_has, one_long, one_has, label_of}
use Rattle.hs_types.specs.Interned.{InternerData, type_of_id, set_of_id, env_of_id}
use Rattle.hs_replica.specs.Places.{here as entries_at, takes, asks, HasArgumentType, ArePlaces}
use Rattle.hs_replica.proofs.Firsts.{first_like}
use Rattle.hs_rules.specs.Slots.{IsOwn}
use Rattle.hs_rules.specs.Found.{HeadData}
use Rattle.hs_rules.specs.Heads.{head_type, IsNoGreaterHead, HasNoGreaterType, GainsHeads, BodyAt, ParamAt, AtSome, AtRange, ChildIn, ReadIn, StopsIn, InState, AtFlow, AreHeads, Asks, ComesFrom, AnyHead}
use Rattle.hs_rules.proofs.ArrowLemmas.{arrows_long, takes_has}
use Rattle.hs_rules.proofs.OwnLemmas.{own_body, own_terminal, own_param}
use Rattle.hs_rules.proofs.OrderLemmas.{no_greater_same, no_greater_first, head_itself}

-- from a source of types to the wanted types
module _ (p : ProblemData) (E : List EntryData) (of : PointData) (ids : InternerData) (Wanted : HeadBy → Env → Type 0) (S : HeadBy → Env → TypeTree → Type 0) (heads : List HeadData)
    (from : (by : HeadBy) (o : Env) (t : TypeTree) → S by o t → IsHeadType p E of.rule of.head by t × IsOwn (params_of p of.rule) of.head t o)
    (wanted : (by : HeadBy) (o : Env) (sets : Env) (rest : TypeTree) → S by o (arrows sets rest) → length sets ≡ length of.args → Wanted by sets)
    (into : (by : HeadBy) (sets : Env) (rest : TypeTree) → length sets ≡ length of.args → IsHeadType p E of.rule of.head by (arrows sets rest) → Wanted by sets → (b : HeadBy) × (o : Env) × S b o (arrows sets rest) × IsNoGreaterHead b by) where
  pub gained_are : GainsHeads ids (length of.args) S [] heads → AreHeads p E of ids Wanted heads
  gained_are g = record {
    sound = λ h c. elim (g.sound h c) [
      | inl nowhere ↦ absurd (none_in h nowhere)
      | inr (w, s) ↦
          let f = from h.by (env_of_id ids h.own) (head_type ids h) s in (
            record {
              known = record { own = w.own; sets = w.sets; rest = w.rest; long = w.long; is_env = record { long = refl; sets = f.1.is_env.sets } };
              type = f.0;
              own = f.1;
            },
            wanted h.by (env_of_id ids h.own) (map (set_of_id ids) h.sets) (type_of_id ids h.rest) s (length-map h.sets (set_of_id ids) ∙ w.long),
          )
    ];
    all = λ by sets rest long type want. let s = into by sets rest long type want in (s.0, (s.3, g.all s.0 s.1 (arrows sets rest) s.2 sets rest long refl));
  }

module _ (p : ProblemData) (log : List EntryData) (limit rule : ℕ) (args : List ℕ) (shapes : (e : EntryData) → Contains (take limit log) e → InShape p e) where
  abbrev E : List EntryData
  E = take limit log

  abbrev n : ℕ
  n = params_of p rule

  at_place : (place : ℕ) (e : EntryData) → place < limit → slice_get log place ≡ Some e → IsAt p E place e
  at_place place e lt at = let t = to_take limit log place e lt at in record { at = t; shape = shapes e (Contains-at E place e t) }

  -- a nonterminal at the head
  module _ (f body : ℕ) (body_at : slice_get p.points.bodies f ≡ Some body) (ids : InternerData) (places : List ℕ) (heads : List HeadData) where
    abbrev at_nonterminal : PointData
    at_nonterminal = record { rule = rule; head = Nt f; args = args }

    abbrev Bodies : HeadBy → Env → TypeTree → Type 0
    Bodies = AtSome (BodyAt log (replicate n [])) places

    module _ (Wanted : HeadBy → Env → Type 0) (within : (place : ℕ) (e : EntryData) → Contains places place → slice_get log place ≡ Some e → (place < limit) × (e.point ≡ body))
        (wanted : (place : ℕ) (e : EntryData) (sets : Env) (rest : TypeTree) → Contains places place → slice_get log place ≡ Some e → arrows sets rest ≡ arrows e.env e.ty → length sets ≡ length args → Wanted (Rule place) sets)
        (into : (place q : ℕ) (e : EntryData) (sets : Env) (rest : TypeTree) → place < limit → slice_get log place ≡ Some e → e.point ≡ body → e.ty ≡ state q → arrows sets rest ≡ arrows e.env (state q) → length sets ≡ length args
        → Wanted (Rule place) sets → Contains places place) where
      bodies_from : (by : HeadBy) (o : Env) (t : TypeTree) → Bodies by o t → IsHeadType p E rule (Nt f) by t × IsOwn n (Nt f) t o
      bodies_from by o t s =
          let w = within s.place s.from.entry s.among s.from.at in
          let j = s.from.just in
          let body_is : slice_get p.points.bodies f ≡ Some s.from.entry.point = body_at ∙ ap (λ (k : ℕ). Some k) (sym w.1) in
          let h : FromBody p E f s.place t = record {
            entry = s.from.entry;
            q = s.from.is_state.0;
            holds = at_place s.place s.from.entry w.0 s.from.at;
            body = body_is;
            is_state = s.from.is_state.1;
            is = j.2 ∙ ap (arrows s.from.entry.env) s.from.is_state.1;
          } in
          (subst (λ (b : HeadBy). IsHeadType p E rule (Nt f) b t) (sym j.0) h, subst (λ (e : Env). IsOwn n (Nt f) t e) (sym j.1) (own_body n f t))

      bodies_wanted : (by : HeadBy) (o : Env) (sets : Env) (rest : TypeTree) → Bodies by o (arrows sets rest) → length sets ≡ length args → Wanted by sets
      bodies_wanted by o sets rest s long =
          subst (λ (b : HeadBy). Wanted b sets) (sym s.from.just.0) (wanted s.place s.from.entry sets rest s.among s.from.at s.from.just.2 long)

      bodies_into : (by : HeadBy) (sets : Env) (rest : TypeTree) → length sets ≡ length args → IsHeadType p E rule (Nt f) by (arrows sets rest) → Wanted by sets → (b : HeadBy) × (o : Env) × Bodies b o (arrows sets rest) × IsNoGreaterHead b by
      bodies_into (Terminal q child) sets rest long x want = absurd x
      bodies_into (Rule place) sets rest long x want =
          let t = at_take limit log place x.entry x.holds.at in
          let point : x.entry.point ≡ body = same_Some x.entry.point body (sym x.body ∙ body_at) in (
            Rule place,
            replicate n [],
            record {
              place = place;
              among = into place x.q x.entry sets rest t.0 t.1 point x.is_state x.is long want;
              from = record { entry = x.entry; at = t.1; is_state = (x.q, x.is_state); just = (refl, refl, x.is ∙ ap (arrows x.entry.env) (sym x.is_state)) };
            },
            head_itself (Rule place),
          )
      bodies_into (Param y place) sets rest long x want = absurd x

      pub bodies_are : GainsHeads ids (length args) Bodies [] heads → AreHeads p E at_nonterminal ids Wanted heads
      bodies_are = gained_are p E at_nonterminal ids Wanted Bodies heads bodies_from bodies_wanted bodies_into

    -- those that ask for a type at an argument
    pub bodies_asking : (indexed arg : ℕ) (a : TypeTree) (found : List ℕ) → indexed ≡ length log → arg < length args → ArePlaces log indexed (asks body arg a) found
        → ((place : ℕ) → Contains places place ↔ (Contains found place × (place < limit))) → GainsHeads ids (length args) Bodies [] heads → AreHeads p E at_nonterminal ids (Asks arg a) heads
    bodies_asking indexed arg a found all lt are below =
        bodies_are (Asks arg a)
        (λ place e c at.
        let b = (below place).0 c in
        let x = ((are.exact place).0 b.0).1 in
        (b.1, ap (λ (z : EntryData). z.point) (same_Some e x.entry (sym at ∙ x.at)) ∙ x.meets.0))
        (λ place e sets rest c at is long.
        let x = ((are.exact place).0 ((below place).0 c).0).1 in
        let same = same_Some x.entry e (sym x.at ∙ at) in
        takes_has sets rest arg a (record { sets = e.env; rest = e.ty; is = is; has = subst (λ (z : EntryData). Has z.env arg a) same x.meets.1.1 }) (omega (arith, lt, long)))
        (λ place q e sets rest le at point is_state is long want.
        let more = arrows_long e.env sets q rest (sym is) in
        let has = takes_has e.env (state q) arg a (record { sets = sets; rest = rest; is = sym is; has = want }) (omega (arith, lt, long, more)) in
        let w = within_from log place e at in
        (below place).1 ((are.exact place).1 (omega (arith, w, all), record { entry = e; at = at; meets = (point, ((q, is_state), has)) }), le))

    -- that of one place
    pub bodies_from_place : (only_place : ℕ) → ((place : ℕ) (e : EntryData) → Contains places place → slice_get log place ≡ Some e → (place ≡ only_place) × (place < limit) × (e.point ≡ body))
        → ((e : EntryData) → slice_get log only_place ≡ Some e → e.point ≡ body → Contains places only_place) → GainsHeads ids (length args) Bodies [] heads → AreHeads p E at_nonterminal ids (ComesFrom only_place) heads
    bodies_from_place only_place within there =
        bodies_are (ComesFrom only_place) (λ place e c at. let w = within place e c at in (w.1, w.2)) (λ place e sets rest c at is long. ap (λ (k : ℕ). k ∷ []) (within place e c at).0)
        (λ place q e sets rest lt at point is_state is long want.
        let same : place ≡ only_place = cc in
        subst (λ (k : ℕ). Contains places k) (sym same) (there e (ap (λ k. slice_get log k) (sym same) ∙ at) point))

    pub bodies_all : (indexed : ℕ) (found : List ℕ) → indexed ≡ length log → ArePlaces log indexed (entries_at body) found → ((place : ℕ) → Contains places place ↔ (Contains found place × (place < limit)))
        → GainsHeads ids (length args) Bodies [] heads → AreHeads p E at_nonterminal ids AnyHead heads
    bodies_all indexed found all are below =
        bodies_are AnyHead
        (λ place e c at.
        let b = (below place).0 c in
        let x = ((are.exact place).0 b.0).1 in
        (b.1, ap (λ (z : EntryData). z.point) (same_Some e x.entry (sym at ∙ x.at)) ∙ x.meets))
        (λ place e sets rest c at is long. tt)
        (λ place q e sets rest le at point is_state is long want.
        let w = within_from log place e at in
        (below place).1 ((are.exact place).1 (omega (arith, w, all), record { entry = e; at = at; meets = point }), le))

  -- a parameter at the head
  module _ (x : ℕ) (pairs : List FlowPair) (are_pairs : pairs ≡ filter (λ (f : FlowPair). nat_eq f.rule rule && nat_eq f.param x) p.flow.pairs) (ids : InternerData) (heads : List HeadData) where
    abbrev at_parameter : PointData
    at_parameter = record { rule = rule; head = Var x; args = args }

    param_type : (place : ℕ) (by : HeadBy) (o : Env) (t : TypeTree) → (s : ParamAt log n x place by o t) → place < limit → Contains p.flow.pairs (record { rule = rule; param = x; point = s.entry.point })
        → IsHeadType p E rule (Var x) by t × IsOwn n (Var x) t o
    param_type place by o t s lt flows =
        let j = s.just in
        let h : FromFlow p E rule x place t = record { entry = s.entry; holds = at_place place s.entry lt s.at; flows = flows; is = j.2 } in (
          subst (λ (b : HeadBy). IsHeadType p E rule (Var x) b t) (sym j.0) (refl, h),
          subst (λ (e : Env). IsOwn n (Var x) t e) (sym j.1 ∙ refl) (subst (λ (y : TypeTree). IsOwn n (Var x) t (set (replicate n []) x (y ∷ []))) j.2 (own_param n x t)),
        )

    flow_in : (f : FlowPair) → Contains pairs f → Contains p.flow.pairs (record { rule = rule; param = x; point = f.point })
    flow_in f c =
        let test : FlowPair → Bool = λ g. nat_eq g.rule rule && nat_eq g.param x in
        let k = subst (λ (fs : List FlowPair). Contains fs f) are_pairs c in
        let t = and_parts (nat_eq f.rule rule) (nat_eq f.param x) (filter_passes test p.flow.pairs f k) in
        subst (λ (g : FlowPair). Contains p.flow.pairs g) (λ i. record { rule = eqb-true f.rule rule t.0 i; param = eqb-true f.param x t.1 i; point = f.point }) (filter_has test p.flow.pairs f k)

    in_flow : (u : ℕ) → Contains p.flow.pairs (record { rule = rule; param = x; point = u }) → Contains pairs (record { rule = rule; param = x; point = u })
    in_flow u c =
        let f : FlowPair = record { rule = rule; param = x; point = u } in
        subst (λ (fs : List FlowPair). Contains fs f) (sym are_pairs)
        (filter_keeps (λ (g : FlowPair). nat_eq g.rule rule && nat_eq g.param x) p.flow.pairs f (and_from (nat_eq rule rule) (nat_eq x x) (eq-eqb rule rule refl) (eq-eqb x x refl)) c)

    -- those that take an argument of a type
    pub params_taking : (arg : ℕ) (a : TypeTree) → arg < length args → GainsHeads ids (length args) (AtFlow log n x limit (λ u. takes u arg a) pairs) [] heads → AreHeads p E at_parameter ids (Asks arg a) heads
    params_taking arg a lt =
        gained_are p E at_parameter ids (Asks arg a) (AtFlow log n x limit (λ u. takes u arg a) pairs) heads
        (λ by o t s.
        let same = same_Some s.source.entry s.answers.entry (sym s.source.at ∙ s.answers.at) in
        let point : s.source.entry.point ≡ s.pair.point = ap (λ (z : EntryData). z.point) same ∙ s.answers.meets.0 in
        param_type s.place by o t s.source s.within (subst (λ (u : ℕ). Contains p.flow.pairs (record { rule = rule; param = x; point = u })) (sym point) (flow_in s.pair s.among)))
        (λ by o sets rest s long.
        let same = same_Some s.answers.entry s.source.entry (sym s.answers.at ∙ s.source.at) in
        let ty = ap (λ (z : EntryData). z.ty) same ∙ sym s.source.just.2 in
        takes_has sets rest arg a (subst (λ (t : TypeTree). HasArgumentType t arg a) ty s.answers.meets.1.0) (omega (arith, lt, long)))
        into
      where
        into : (by : HeadBy) (sets : Env) (rest : TypeTree) → length sets ≡ length args → IsHeadType p E rule (Var x) by (arrows sets rest) → Asks arg a by sets → (b : HeadBy) × (o : Env) × AtFlow log n x limit (λ u. takes u arg a) pairs b o (arrows sets rest) × IsNoGreaterHead b by
        into (Terminal q child) sets rest long h want = absurd h
        into (Rule place) sets rest long h want = absurd h
        into (Param y place) sets rest long h want =
            let k = h.1 in
            let t = at_take limit log place k.entry k.holds.at in
            let f = first_like log place k.entry t.1 in
            let takes_it : HasArgumentType f.entry.ty arg a = record { sets = sets; rest = rest; is = f.ty ∙ sym k.is; has = want } in (
              Param x f.place,
              set (replicate n []) x (f.entry.ty ∷ []),
              record {
                pair = record { rule = rule; param = x; point = k.entry.point };
                among = in_flow k.entry.point k.flows;
                place = f.place;
                within = omega (arith, f.before, t.0);
                answers = record { entry = f.entry; at = f.at; meets = (f.point, (takes_it, f.first)) };
                source = record { entry = f.entry; at = f.at; just = (refl, refl, k.is ∙ sym f.ty) };
              },
              λ ps. no_greater_first f.place place ps f.before,
            )

    pub params_all : GainsHeads ids (length args) (AtFlow log n x limit entries_at pairs) [] heads → AreHeads p E at_parameter ids AnyHead heads
    params_all =
        gained_are p E at_parameter ids AnyHead (AtFlow log n x limit entries_at pairs) heads
        (λ by o t s.
        let same = same_Some s.source.entry s.answers.entry (sym s.source.at ∙ s.answers.at) in
        let point : s.source.entry.point ≡ s.pair.point = ap (λ (z : EntryData). z.point) same ∙ s.answers.meets in
        param_type s.place by o t s.source s.within (subst (λ (u : ℕ). Contains p.flow.pairs (record { rule = rule; param = x; point = u })) (sym point) (flow_in s.pair s.among)))
        (λ by o sets rest s long. tt) into
      where
        into : (by : HeadBy) (sets : Env) (rest : TypeTree) → length sets ≡ length args → IsHeadType p E rule (Var x) by (arrows sets rest) → AnyHead by sets → (b : HeadBy) × (o : Env) × AtFlow log n x limit entries_at pairs b o (arrows sets rest) × IsNoGreaterHead b by
        into (Terminal q child) sets rest long h want = absurd h
        into (Rule place) sets rest long h want = absurd h
        into (Param y place) sets rest long h want =
            let k = h.1 in
            let t = at_take limit log place k.entry k.holds.at in (
              Param x place,
              set (replicate n []) x (k.entry.ty ∷ []),
              record {
                pair = record { rule = rule; param = x; point = k.entry.point };
                among = in_flow k.entry.point k.flows;
                place = place;
                within = t.0;
                answers = record { entry = k.entry; at = t.1; meets = refl };
                source = record { entry = k.entry; at = t.1; just = (refl, refl, k.is) };
              },
              head_itself (Param x place),
            )

    -- that of one place
    pub params_from_place : (only_place : ℕ) (places : List ℕ)
        → ((place : ℕ) (e : EntryData) → Contains places place → slice_get log place ≡ Some e → (place ≡ only_place) × (place < limit) × Contains p.flow.pairs (record { rule = rule; param = x; point = e.point }))
        → ((e : EntryData) → slice_get log only_place ≡ Some e → Contains p.flow.pairs (record { rule = rule; param = x; point = e.point }) → Contains places only_place)
        → GainsHeads ids (length args) (AtSome (ParamAt log n x) places) [] heads → AreHeads p E at_parameter ids (ComesFrom only_place) heads
    params_from_place only_place places within there =
        gained_are p E at_parameter ids (ComesFrom only_place) (AtSome (ParamAt log n x) places) heads
        (λ by o t s. let w = within s.place s.from.entry s.among s.from.at in param_type s.place by o t s.from w.1 w.2)
        (λ by o sets rest s long. ap head_premise s.from.just.0 ∙ ap (λ (k : ℕ). k ∷ []) (within s.place s.from.entry s.among s.from.at).0) into
      where
        into : (by : HeadBy) (sets : Env) (rest : TypeTree) → length sets ≡ length args → IsHeadType p E rule (Var x) by (arrows sets rest) → ComesFrom only_place by sets → (b : HeadBy) × (o : Env) × AtSome (ParamAt log n x) places b o (arrows sets rest) × IsNoGreaterHead b by
        into (Terminal q child) sets rest long h want = absurd h
        into (Rule place) sets rest long h want = absurd h
        into (Param y place) sets rest long h want =
            let k = h.1 in
            let same : place ≡ only_place = cc in
            let t = at_take limit log place k.entry k.holds.at in
            let at : slice_get log only_place ≡ Some k.entry = ap (λ m. slice_get log m) (sym same) ∙ t.1 in (
              Param x only_place,
              set (replicate n []) x (k.entry.ty ∷ []),
              record { place = only_place; among = there k.entry at k.flows; from = record { entry = k.entry; at = at; just = (refl, refl, k.is) } },
              λ ps. no_greater_same (only_place ∷ ps) (place ∷ ps) (ap (λ (m : ℕ). m ∷ ps) (sym same)),
            )

  -- a terminal at the head
  module _ (a : ℕ) (ids : InternerData) (heads : List HeadData) where
    abbrev at_terminal : PointData
    at_terminal = record { rule = rule; head = Tm a; args = args }

    abbrev own : Env
    own = replicate n []

    pub child_type : (q place : ℕ) (by : HeadBy) (o : Env) (t : TypeTree) → q < p.sorted.automaton.states → ChildIn p.sorted.automaton.transitions a own place q by o t → IsHeadType p E rule (Tm a) by t × IsOwn n (Tm a) t o
    child_type q place by o t lt s =
        let j = s.child.just in
        let h : RejectsChild p a q (place + 1) t = record { qs = s.to; place = place; r = s.child.r; moves = s.moves; at = s.child.at; counted = refl; is = j.2 } in
        (subst (λ (b : HeadBy). IsHeadType p E rule (Tm a) b t) (sym j.0) (lt, h), subst (λ (e : Env). IsOwn n (Tm a) t e) (sym j.1) (own_terminal n a t))

    pub lacking_type : (q : ℕ) (by : HeadBy) (o : Env) (t : TypeTree) → q < p.sorted.automaton.states → StopsIn p.sorted.automaton.transitions a (rank_of p a) own q by o t → IsHeadType p E rule (Tm a) by t × IsOwn n (Tm a) t o
    lacking_type q by o t lt s =
        let j = s.just in
        let h : LacksTransition p a q t = record { moves = s.moves; is = j.2 } in
        (subst (λ (b : HeadBy). IsHeadType p E rule (Tm a) b t) (sym j.0) (lt, h), subst (λ (e : Env). IsOwn n (Tm a) t e) (sym j.1) (own_terminal n a t))

    -- the types that ask for a state at a child
    module _ (arg : ℕ) (arg_lt : arg < length args) where
      -- what the set of a terminal's child asks for
      child_asks : (qs : List ℕ) (q place r : ℕ) (t : TypeTree) (sets : Env) (rest : TypeTree) → arrows sets rest ≡ arrows (set (replicate (length qs) []) place (state r ∷ [])) (state q) → length sets ≡ length args → Has sets arg t
          → (arg ≡ place) × (t ≡ state r)
      child_asks qs q place r t sets rest is long has =
          let full = set (replicate (length qs) []) place (state r ∷ []) in
          let more = arrows_long full sets q rest (sym is) in
          let many = one_long (length qs) place (state r ∷ []) in
          let k = takes_has full (state q) arg t (record { sets = sets; rest = rest; is = sym is; has = has }) (omega (arith, arg_lt, long, more)) in
          (one_has (length qs) place arg (state r) t (omega (arith, arg_lt, long, more, many))).0 k

      abbrev Reading : List ℕ → HeadBy → Env → TypeTree → Type 0
      Reading = AtSome (ReadIn p.sorted.automaton.states p.sorted.automaton.transitions a own arg)

      pub terminals_asking : (r : ℕ) (states : List ℕ) → ((q : ℕ) → Contains states q ↔ Reads p.sorted.automaton.transitions a arg r q) → GainsHeads ids (length args) (Reading states) [] heads → AreHeads p E at_terminal ids (Asks arg (state r)) heads
      terminals_asking r states reading =
          gained_are p E at_terminal ids (Asks arg (state r)) (Reading states) heads (λ by o t s. child_type s.place arg by o t s.from.0 s.from.1)
          (λ by o sets rest s long.
          let c = s.from.1 in
          let k = (reading s.place).0 s.among in
          let same : k.0 ≡ c.to = same_Some k.0 c.to (sym k.1.0 ∙ c.moves) in
          let r_is : c.child.r ≡ r = same_Some c.child.r r (sym c.child.at ∙ (ap (λ (xs : List ℕ). slice_get xs arg) (sym same) ∙ k.1.1)) in
          let full = set (replicate (length c.to) []) arg (state c.child.r ∷ []) in
          let below : arg < length c.to = within_from c.to arg c.child.r c.child.at in
          let has = (one_has (length c.to) arg arg (state c.child.r) (state r) below).1 (refl, ap state (sym r_is)) in
          takes_has sets rest arg (state r) (record { sets = full; rest = state s.place; is = c.child.just.2; has = has }) (omega (arith, arg_lt, long)))
          into
        where
          into : (by : HeadBy) (sets : Env) (rest : TypeTree) → length sets ≡ length args → IsHeadType p E rule (Tm a) by (arrows sets rest) → Asks arg (state r) by sets → (b : HeadBy) × (o : Env) × Reading states b o (arrows sets rest) × IsNoGreaterHead b by
          into (Terminal q None) sets rest long h want =
              let more = arrows_long (replicate (rank_of p a) []) sets q rest (sym h.1.is) in
              absurd (empties_has (rank_of p a) arg (state r) (takes_has (replicate (rank_of p a) []) (state q) arg (state r) (record { sets = sets; rest = rest; is = sym h.1.is; has = want }) (omega (arith, arg_lt, long, more))))
          into (Terminal q (Some child)) sets rest long h want =
              let k = h.1 in
              let asked = child_asks k.qs q k.place k.r (state r) sets rest k.is long want in
              let r_is : r ≡ k.r = same_Some r k.r (ap label_of asked.1) in
              let at : slice_get k.qs arg ≡ Some k.r = ap (λ m. slice_get k.qs m) asked.0 ∙ k.at in (
                Terminal q (Some (arg + 1)),
                own,
                record {
                  place = q;
                  among = (reading q).1 (k.qs, (k.moves, at ∙ ap (λ (m : ℕ). Some m) (sym r_is)));
                  from = (
                    h.0,
                    record {
                      to = k.qs;
                      moves = k.moves;
                      child = record { r = k.r; at = at; just = (refl, refl, k.is ∙ ap (λ (m : ℕ). arrows (set (replicate (length k.qs) []) m (state k.r ∷ [])) (state q)) (sym asked.0)) };
                    },
                  );
                },
                head_itself (Terminal q (Some (arg + 1))),
              )
          into (Rule place) sets rest long h want = absurd h
          into (Param y place) sets rest long h want = absurd h

      -- and none asks for anything else
      pub terminals_asking_none : (t : TypeTree) → ((q : ℕ) → t ≡ state q → ⊥) → heads ≡ [] → AreHeads p E at_terminal ids (Asks arg t) heads
      terminals_asking_none t other none = record {
        sound = λ h c. absurd (none_in h (subst (λ (hs : List HeadData). Contains hs h) none c));
        all = all;
      }
        where
          all : (by : HeadBy) (sets : Env) (rest : TypeTree) → length sets ≡ length args → IsHeadType p E rule (Tm a) by (arrows sets rest) → Asks arg t by sets → HasNoGreaterType ids (length args) by sets rest heads
          all (Terminal q None) sets rest long h want =
              let more = arrows_long (replicate (rank_of p a) []) sets q rest (sym h.1.is) in
              absurd (empties_has (rank_of p a) arg t (takes_has (replicate (rank_of p a) []) (state q) arg t (record { sets = sets; rest = rest; is = sym h.1.is; has = want }) (omega (arith, arg_lt, long, more))))
          all (Terminal q (Some child)) sets rest long h want = absurd (other h.1.r (child_asks h.1.qs q h.1.place h.1.r t sets rest h.1.is long want).1)
          all (Rule k) sets rest long h want = absurd h
          all (Param y k) sets rest long h want = absurd h

    pub terminals_all : GainsHeads ids (length args) (AtRange (InState p.sorted.automaton.transitions a (rank_of p a) 0 own) 0 p.sorted.automaton.states) [] heads
        → ((q : ℕ) (to : List ℕ) → next p.sorted.automaton.transitions q a ≡ Some to → length to ≡ rank_of p a) → AreHeads p E at_terminal ids AnyHead heads
    terminals_all g ranks =
        gained_are p E at_terminal ids AnyHead (AtRange (InState p.sorted.automaton.transitions a (rank_of p a) 0 own) 0 p.sorted.automaton.states) heads
        (λ by o t s. elim s.source [
          | inl l ↦ lacking_type s.place by o t s.most l
          | inr c ↦ child_type s.place c.place by o t s.most c.source
        ]) (λ by o sets rest s long. tt) into g
      where
        into : (by : HeadBy) (sets : Env) (rest : TypeTree) → length sets ≡ length args → IsHeadType p E rule (Tm a) by (arrows sets rest) → AnyHead by sets
            → (b : HeadBy) × (o : Env) × AtRange (InState p.sorted.automaton.transitions a (rank_of p a) 0 own) 0 p.sorted.automaton.states b o (arrows sets rest) × IsNoGreaterHead b by
        into (Terminal q None) sets rest long h want = (Terminal q None, own, record { place = q; least = omega arith; most = h.0; source = inl (record { moves = h.1.moves; just = (refl, refl, h.1.is) }) }, head_itself (Terminal q None))
        into (Terminal q (Some child)) sets rest long h want =
            let k = h.1 in (
              Terminal q (Some (k.place + 1)),
              own,
              record {
                place = q;
                least = omega arith;
                most = h.0;
                source = inr (record {
                  place = k.place;
                  least = omega arith;
                  most = omega (arith, ranks q k.qs k.moves, within_from k.qs k.place k.r k.at);
                  source = record { to = k.qs; moves = k.moves; child = record { r = k.r; at = k.at; just = (refl, refl, k.is) } };
                });
              },
              head_itself (Terminal q (Some (k.place + 1))),
            )
        into (Rule k) sets rest long h want = absurd h
        into (Param y k) sets rest long h want = absurd h
