-- What is found is just the types of the head.
use Rattle.std.proofs.Common.{◌≡◌, refl, sym, ◌∙◌, ap, subst, ℕ, zero, suc, ◌<◌, List, [], ◌∷◌, length, set, replicate, Option, Some, None, slice_get, get_or, Result, Ok, Err, IfOk, OnOk, All, Contains, inl, inr}
use Rattle.std.specs.Prelude.{slice_index, slice_index_or}
use Rattle.std.specs.Option.{option_map_or}
use Rattle.std.proofs.lemmas.List.{length-map}
use Rattle.std.proofs.lemmas.List.Elements.{Contains-get_or}
use Rattle.std.proofs.lemmas.Option.{get_or_from_slice_get}
use Rattle.hs_scheme.proofs.Lists.{none_in}
use Rattle.hs_scheme.specs.declared.term.Head.{Head}
use Rattle.hs_scheme.specs.declared.term.Head.TheVariants.{Var, Nt, Tm}
use Rattle.hs_scheme.specs.declared.term.Rule.{Rule}
use Rattle.hs_scheme.specs.sorting.Parameters.{counts_of}
use Rattle.hs_scheme.specs.flow.Points.{PointData, PointsData, ParameterWithin}
use Rattle.hs_scheme.specs.Problem.{ProblemData}
use Rattle.hs_table.specs.declared.support.HeadBy.{HeadBy}
use Rattle.hs_table.specs.declared.support.HeadBy.TheVariants.{Terminal, Param}
use Rattle.hs_table.specs.declared.support.HeadBy.TheVariants.{Rule as ByRule}
use Rattle.hs_table.specs.Types.{TypeTree, state, arrows}
use Rattle.hs_table.specs.Entries.{EntryData, params_of}
use Rattle.hs_table.specs.Follows.{IsHeadType, IsTerminalType, rank_of}
use Rattle.hs_table_laws.proofs.Arrows.{arrows_same}
use Rattle.hs_verdict.specs.Premises.{IsSortedProblem}
use Rattle.hs_weak.specs.Reads.{last_state, FlowsTo}
use Rattle.hs_types.specs.Interned.{InternerData, type_of_id, set_of_id, env_of_id, RowData, entry_of}
use Rattle.hs_choices.specs.Numbered.{AreTableRows}
use Rattle.hs_choices.specs.Slots.{IsHeadEnv}
use Rattle.hs_heads.specs.HeadTypes.{HeadTypeData, sets_of, AreHeadTypes}
use Rattle.hs_heads.specs.Sources.{GainsTypes, HeadSays}
use Rattle.hs_heads.specs.Splits.{AreSplits, IsHeadWithin}
use Rattle.hs_heads.proofs.Ends.{last_over}

module _ (p : ProblemData) (C : List EntryData) (R : List (ℕ × ℕ)) (I : InternerData) (table : List RowData) (rows : AreTableRows p C I table) (point rule : ℕ) where
  abbrev IsTyped : Head → TypeTree → Type 0
  IsTyped head ty = ((by : HeadBy) × IsHeadType p C rule head by ty) × Contains R (point, last_state ty)

  ends_in : (a q : ℕ) (child : Option ℕ) (ty : TypeTree) → IsTerminalType p a q child ty → last_state ty ≡ q
  ends_in a q None ty l = ap last_state l.is ∙ last_over (replicate (rank_of p a) []) (state q)
  ends_in a q (Some child) ty r = ap last_state r.is ∙ last_over (set (replicate (length r.qs) []) r.place (state r.r ∷ [])) (state q)

  pub is_typed : (head : Head) (ty : TypeTree) → HeadSays p R I table point rule head ty → IsTyped head ty
  is_typed (Tm a) ty (q, (read, (lt, (child, is)))) = ((Terminal q child, (lt, is)), subst (λ z. Contains R (point, z)) (sym (ends_in a q child ty is)) read)
  is_typed (Nt f) ty (u, (body, r)) =
      let at = rows.taken r.row r.there in (
        (
          ByRule at.0,
          record {
            entry = entry_of I r.row;
            q = r.says.q;
            holds = at.1;
            body = subst (λ z. slice_get p.points.bodies f ≡ Some z) (sym r.at) body;
            is_state = r.says.is_state;
            is = r.says.is;
          },
        ),
        subst (λ z. Contains R (point, z)) (sym (ap last_state r.says.is ∙ last_over (env_of_id I r.row.env) (state r.says.q))) r.says.read,
      )
  is_typed (Var x) ty (u, (flows, r)) =
      let at = rows.taken r.row r.there in (
        (
          Param x at.0,
          (
            refl,
            record { entry = entry_of I r.row; holds = at.1; flows = subst (FlowsTo p rule x) (sym r.at) flows; is = r.says.is },
          ),
        ),
        r.says.read,
      )

  pub says_typed : (head : Head) (ty : TypeTree) (by : HeadBy) → IsHeadType p C rule head by ty → Contains R (point, last_state ty) → HeadSays p R I table point rule head ty
  says_typed (Tm a) ty (Terminal q child) h read = (q, (subst (λ z. Contains R (point, z)) (ends_in a q child ty h.1) read, (h.0, (child, h.1))))
  says_typed (Tm a) ty (ByRule place) h read = absurd h
  says_typed (Tm a) ty (Param y place) h read = absurd h
  says_typed (Nt f) ty (Terminal q child) h read = absurd h
  says_typed (Nt f) ty (ByRule place) h read =
      let r = rows.each place h.entry h.holds in
      let row_is : entry_of I r.0 ≡ h.entry = r.1.1 in (
        h.entry.point,
        (
          h.body,
          record {
            row = r.0;
            there = r.1.0;
            at = ap (λ (e : EntryData). e.point) row_is;
            says = record {
              q = h.q;
              is_state = ap (λ (e : EntryData). e.ty) row_is ∙ h.is_state;
              read = subst (λ z. Contains R (point, z)) (ap last_state h.is ∙ last_over h.entry.env (state h.q)) read;
              is = h.is ∙ ap (λ (e : EntryData). arrows e.env (state h.q)) (sym row_is);
            };
          },
        ),
      )
  says_typed (Nt f) ty (Param y place) h read = absurd h
  says_typed (Var x) ty (Terminal q child) h read = absurd h
  says_typed (Var x) ty (ByRule place) h read = absurd h
  says_typed (Var x) ty (Param y place) h read =
      let f = h.1 in
      let r = rows.each place f.entry f.holds in
      let row_is : entry_of I r.0 ≡ f.entry = r.1.1 in (
        f.entry.point,
        (
          f.flows,
          record {
            row = r.0;
            there = r.1.0;
            at = ap (λ (e : EntryData). e.point) row_is;
            says = record { is = f.is ∙ ap (λ (e : EntryData). e.ty) (sym row_is); read = read };
          },
        ),
      )

  -- the types that were added to none, split at the arguments
  pub are_head_types : (J K : InternerData) (keys : List ℕ) (found : List HeadTypeData) (of : PointData) → of.rule ≡ rule → GainsTypes I J [] keys (HeadSays p R I table point rule of.head)
      → AreSplits of.head (params_of p of.rule) (length of.args) J K keys found → AreHeadTypes p C R point of K found
  are_head_types J K keys found of rule_is gains splits = record {
    rows = λ h c.
        let s = (splits.come h c).1.1 in
        record {
          sets = s.split.within;
          ty = s.split.left;
          env = s.env;
          first = subst (λ (ty : TypeTree). IsHeadEnv (params_of p of.rule) of.head ty (env_of_id K h.first)) s.split.is s.asks;
        };
    taken = λ h c.
        let m = splits.come h c in
        let t = m.0 in
        let s = m.1.1 in
        let own : IsTyped of.head (type_of_id J t) = elim (gains.come t m.1.0) [
          | inl nowhere ↦ absurd (none_in t nowhere)
          | inr new ↦ is_typed of.head (type_of_id J t) new.1
        ] in
        record {
          by = own.0.0;
          head = subst (λ (r : ℕ). IsHeadType p C r of.head own.0.0 (arrows (sets_of K h) (type_of_id K h.ty))) (sym rule_is) (subst (λ (ty : TypeTree). IsHeadType p C rule of.head own.0.0 ty) s.split.is own.0.1);
          long = length-map h.sets (set_of_id K) ∙ s.split.long;
          read = subst (λ z. Contains R (point, z)) (ap last_state s.split.is ∙ last_over (sets_of K h) (type_of_id K h.ty)) own.1;
        };
    each = λ sets ty k.
        let read = subst (λ z. Contains R (point, z)) (sym (last_over sets ty)) k.read in
        let says = says_typed of.head (arrows sets ty) k.by (subst (λ (r : ℕ). IsHeadType p C r of.head k.by (arrows sets ty)) rule_is k.head) read in
        let n = gains.all (arrows sets ty) says in
        let s = splits.all n.number n.there sets ty k.long n.is in
        let long : length (sets_of K s.item) ≡ length sets = length-map s.item.sets (set_of_id K) ∙ (s.split.split.long ∙ sym k.long) in
        let same = arrows_same (sets_of K s.item) sets (type_of_id K s.item.ty) ty long (sym s.split.split.is ∙ n.is) in
        (s.item, (s.there, same));
  }

-- the counts of the rules are their numbers of parameters
pub count_is : (rules : List Rule) (f : ℕ) → slice_index (counts_of rules) f ≡ option_map_or (λ (r : Rule). r.params) (slice_get rules f) 0
count_is [] f = refl
count_is (r ∷ rules) zero = refl
count_is (r ∷ rules) (suc f) = count_is rules f

pub head_within : (p : ProblemData) (rule : ℕ) (head : Head) → IsSortedProblem p → ParameterWithin p.points.params rule head → IsHeadWithin (params_of p rule) head
head_within p rule (Var x) is within =
    subst (λ n. x < n) (ap (λ (points : PointsData). slice_index points.params rule) is.problem.points ∙ count_is p.sorted.scheme.rules rule) within
head_within p rule (Nt f) is within = tt
head_within p rule (Tm a) is within = tt

-- the point's rule, head and arguments
pub own_point : (points : List PointData) (point : ℕ) (of d : PointData) → slice_get points point ≡ Some of → slice_index_or points point d ≡ of
own_point points point of d at = get_or_from_slice_get points point of d at

-- what was added to none has numbers
pub all_known : (I J : InternerData) (old keys slice : List ℕ) (From : TypeTree → Type 0) → old ≡ [] → slice ≡ keys → GainsTypes I J old keys From → All (λ t. t < length J.types) slice
all_known I J old keys slice From none same gains = λ k d lt.
    let t = get_or slice k d in
    let within : t < length J.types = elim (gains.come t (subst (λ (ts : List ℕ). Contains ts t) same (Contains-get_or slice k d lt))) [
      | inl nowhere ↦ absurd (none_in t (subst (λ (ts : List ℕ). Contains ts t) none nowhere))
      | inr new ↦ new.0
    ] in
    within

pub on_ok_of : {X E : Type 0} (r : Result X E) (P : X → Type 0) (Q : Type 0) → ((x : X) → P x → Q) → IfOk r P → OnOk r Q
on_ok_of (Ok x) P Q f h = f x h
on_ok_of (Err e) P Q f h = tt
