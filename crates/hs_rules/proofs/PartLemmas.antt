-- Conclusions as they are gathered.
use Rattle.std.proofs.Common.{◌≡◌, ◌≢◌, refl, sym, ◌∙◌, ap, subst, ℕ, zero, suc, ◌<◌, List, [], ◌∷◌, length, map, take, drop, get_or, slice_get, slice_index, Option, Some, arith, All, AllPairs, Contains, ◌⊎◌, inl, inr, ◌↔◌}
use Rattle.std.proofs.lemmas.Option.{slice_get-get_or, same_Some}
use Rattle.std.proofs.lemmas.Bool.{cases_order}
use Rattle.std.proofs.lemmas.List.{length-map, get_or_default}
use Rattle.std.proofs.lemmas.List.Elements.{Contains-append_cases}
use Rattle.hs_scheme.specs.declared.term.Head.{Head}
use Rattle.hs_scheme.specs.declared.term.Head.TheVariants.{Var, Nt, Tm}
use Rattle.hs_scheme.specs.flow.Points.{PointData, PointsData, NonterminalWithin, ParameterWithin, point_at, points_of, IsArgument}
use Rattle.hs_scheme.specs.Problem.{ProblemData}
use Rattle.hs_scheme.proofs.Lists.{none_in, only}
use Rattle.hs_table.specs.declared.support.HeadBy.{HeadBy}
use Rattle.hs_table.specs.declared.support.HeadBy.TheVariants.{Terminal, Rule, Param}
use Rattle.hs_table.specs.Entries.{EntryData, InShape, IsEnv, params_of}
use Rattle.hs_table.specs.Follows.{Support, head_premise, premises}
use Rattle.hs_table_laws.proofs.Places.{place_of}
use Rattle.hs_table_laws.proofs.Members.{into_map}
use Rattle.hs_types.specs.Interned.{InternerData, RowData, entry_of, IsInterner, Grows}
use Rattle.hs_types.proofs.Numbers.{row_stays, same_row}
use Rattle.hs_replica.specs.Replica.{ReplicaData, KeepsLog}
use Rattle.hs_rules.specs.declared.search.Fixed.{Fixed}
use Rattle.hs_rules.specs.Order.{IsNoGreater}
use Rattle.hs_rules.specs.Conclusions.{DeducedData, IsDeduced, IsLeastOf, Uses, AreSomeConclusions, AreConclusions}
use Rattle.hs_rules.specs.declared.joining.TheConstants.{FEW}
use Rattle.hs_rules.specs.Filling.{CanSearch, IsWithin}
use Rattle.hs_rules.specs.Found.{HaveEnvs, RowsAre, Lowers}
use Rattle.hs_rules.specs.Parts.{ArePart, HasAll, UsesArgument, IsInRule, IsOnlyPlaceOf}
use Rattle.hs_rules.proofs.Lists.{all_from}
use Rattle.hs_rules.proofs.OrderLemmas.{no_greater_then}
use Rattle.hs_rules.specs.declared.head_search.HeadSearch.{HeadSearch}
use Rattle.hs_rules.specs.Seeking.{IsHeadWithin, CanSeekHeads, CanGather}
use Rattle.hs_rules.proofs.PointLemmas.{params_are}
use Rattle.hs_scheme.specs.declared.points.Argument.{Argument}

-- each row once
read_map : (found : List DeducedData) (i : ℕ) (d : DeducedData) → get_or (map (λ (x : DeducedData). x.row) found) i d.row ≡ (get_or found i d).row
read_map [] i d = refl
read_map (x ∷ found) zero d = refl
read_map (x ∷ found) (suc i) d = read_map found i d

rows_once : (rows : List RowData) (found : List DeducedData) → RowsAre rows found → AllPairs (λ a b. a.row ≢ b.row) found
rows_once rows found h = λ i j d lt below e.
    let long = length-map found (λ (x : DeducedData). x.row) in
    h.once i j d.row lt (omega (arith, below, long)) (read_map found i d ∙ (e ∙ sym (read_map found j d)))

-- a row is found at one place
pub one_of_row : (rows : List RowData) (found : List DeducedData) → RowsAre rows found → (c d : DeducedData) → Contains found c → Contains found d → c.row ≡ d.row → c ≡ d
one_of_row rows found h c d (i, lt, at) (j, below, other) same = elim (cases_order i j) [
  | inl is ↦ sym at ∙ (get_or_default found i c d lt ∙ (ap (λ (k : ℕ). get_or found k d) is ∙ other))
  | inr (inl less) ↦ absurd (rows_once rows found h i j d less below (ap (λ (x : DeducedData). x.row) (sym (get_or_default found i c d lt) ∙ at) ∙ (same ∙ sym (ap (λ (x : DeducedData). x.row) other))))
  | inr (inr more) ↦ absurd (rows_once rows found h j i d more lt (ap (λ (x : DeducedData). x.row) other ∙ (sym same ∙ sym (ap (λ (x : DeducedData). x.row) (sym (get_or_default found i c d lt) ∙ at)))))
]

pub part_some : (p : ProblemData) (ids : InternerData) (E : List EntryData) (point : ℕ) (Counts : Support → Type 0) (rows : List RowData) (found : List DeducedData) → ArePart p ids E point Counts rows found → AreSomeConclusions p ids E point Counts found
part_some p ids E point Counts rows found part = record {
  deduced = all_from (IsDeduced p ids E) found (λ d c. (part.each d c).0);
  count = all_from (λ d. Counts d.support) found (λ d c. (part.each d c).1);
  at = all_from (λ d. d.row.point ≡ point) found (λ d c. (part.each d c).2);
  once = rows_once rows found part.once;
}

pub part_conclusions : (p : ProblemData) (ids : InternerData) (E : List EntryData) (point : ℕ) (Counts : Support → Type 0) (rows : List RowData) (found : List DeducedData) → IsInterner ids → ArePart p ids E point Counts rows found → HasAll p ids E point Counts found
    → AreConclusions p ids E point Counts found
part_conclusions p ids E point Counts rows found numbers part all = let some = part_some p ids E point Counts rows found part in record {
  deduced = some.deduced;
  count = some.count;
  at = some.at;
  each = λ s e here_is f counts.
      let h = all s e here_is f counts in
      subst (λ (x : EntryData). Contains (map (λ (d : DeducedData). entry_of ids d.row) found) x) h.is (into_map (λ (d : DeducedData). entry_of ids d.row) found h.item h.there);
  once = some.once;
  least = all_from (λ d. IsLeastOf p E Counts d.support (entry_of ids d.row)) found (λ d c r f counts.
      let own = part.each d c in
      let h = all r (entry_of ids d.row) own.2 f counts in
      let row_is = same_row ids numbers h.item.row d.row (part.each h.item h.there).0.row own.0.row h.is in
      let same = one_of_row rows found part.once h.item d h.there c row_is in
      subst (λ (x : DeducedData). IsNoGreater (premises x.support) (premises r)) same h.least);
}

-- nothing found
pub part_none : (p : ProblemData) (ids : InternerData) (E : List EntryData) (point : ℕ) (Counts : Support → Type 0) (rows : List RowData) (found : List DeducedData) → rows ≡ [] → found ≡ [] → ArePart p ids E point Counts rows found
part_none p ids E point Counts rows found no_rows none = record {
  once = record {
    same = no_rows ∙ sym (ap (λ (ds : List DeducedData). drop FEW (map (λ (d : DeducedData). d.row) ds)) none);
    once = subst (λ (ds : List DeducedData). AllPairs (λ a b. a ≢ b) (map (λ (d : DeducedData). d.row) ds)) (sym none) (λ i j d lt below. absurd (omega arith));
  };
  each = λ d c. absurd (none_in d (subst (λ (ds : List DeducedData). Contains ds d) none c));
}

-- a support with a premise at a place has it at its head or at an argument
head_used : (by : HeadBy) (place : ℕ) → Contains (head_premise by) place → head_premise by ≡ place ∷ []
head_used (Terminal q child) place c = absurd (none_in place c)
head_used (Rule k) place c = ap (λ (n : ℕ). n ∷ []) (sym (only k place c))
head_used (Param x k) place c = ap (λ (n : ℕ). n ∷ []) (sym (only k place c))

pub uses_cases : (s : Support) (place : ℕ) → Uses place s → (head_premise s.head ≡ place ∷ []) ⊎ UsesArgument place s
uses_cases s place c = elim (Contains-append_cases (head_premise s.head) (map (λ a. a.1) s.args) place c) [ inl h ↦ inl (head_used s.head place h) | inr a ↦ inr a ]

-- what was found by the one kind and then by the other
pub both_kinds : (p : ProblemData) (J K : InternerData) (E : List EntryData) (point place : ℕ) (rows : List RowData) (old new : List DeducedData) → Grows J K → ArePart p J E point (Uses place) rows old → Lowers old new
    → HasAll p J E point (λ s. head_premise s.head ≡ place ∷ []) old → HasAll p K E point (UsesArgument place) new → HasAll p K E point (Uses place) new
both_kinds p J K E point place rows old new g part lowers by_head by_argument = λ s e here_is f uses. elim (uses_cases s place uses) [
  | inl head ↦
      let h = by_head s e here_is f head in
      let low = lowers h.item h.there in
      record {
        item = low.item;
        there = low.there;
        is = ap (entry_of K) low.is ∙ (row_stays J K g h.item.row (part.each h.item h.there).0.row ∙ h.is);
        least = no_greater_then (premises low.item.support) (premises h.item.support) (premises s) low.least h.least;
      }
  | inr argument ↦ by_argument s e here_is f argument
]

-- while the replica keeps its log
pub can_search_later : (r t : ReplicaData) (args : List ℕ) (limit : ℕ) (fixed : Option Fixed) → KeepsLog r t → CanSearch r args limit fixed → CanSearch t args limit fixed
can_search_later r t args limit fixed k h = record {
  indexed = k.indexed ∙ (h.indexed ∙ sym (ap (λ (l : List EntryData). length l) k.log));
  limited = omega (arith, h.limited, ap (λ (l : List EntryData). length l) k.log);
  few = h.few;
  fixed_within = subst (λ (l : List EntryData). IsWithin l args limit fixed) (sym k.log) h.fixed_within;
}

pub can_seek_later : (r t : ReplicaData) (at : HeadSearch) → KeepsLog r t → CanSeekHeads r at → CanSeekHeads t at
can_seek_later r t at k h = record {
  search = can_search_later r t at.search.args.now at.search.limit at.search.fixed k h.search;
  params_are = h.params_are;
  shapes = subst (λ (l : List EntryData). All (InShape at.problem.now) (take at.search.limit l)) (sym k.log) h.shapes;
  head = h.head;
}

pub can_gather_later : (r t : ReplicaData) (at : HeadSearch) → KeepsLog r t → CanGather r at → CanGather t at
can_gather_later r t at k h = record {
  heads = can_seek_later r t at k h.heads;
  free = h.free;
  is_point = h.is_point;
  envs = subst (λ (l : List EntryData). HaveEnvs (take at.search.limit l) at.search.args.now at.params) (sym k.log) h.envs;
}

-- entries at the arguments of a point have an environment for its rule
pub have_envs : (p : ProblemData) (E : List EntryData) (args : List ℕ) (rule params : ℕ) → params ≡ params_of p rule → ((e : EntryData) → Contains E e → InShape p e) → ((j a : ℕ) → slice_get args j ≡ Some a → IsInRule p.points a rule) → HaveEnvs E args params
have_envs p E args rule params is shapes in_rule = λ e c among.
    let s = shapes e c in
    let at = place_of args e.point among in
    let r = in_rule at.0 e.point at.1 in
    let same : s.of ≡ r.of = same_Some s.of r.of (sym s.at ∙ r.at) in
    let rule_is : s.of.rule ≡ rule = ap (λ (d : PointData). d.rule) same ∙ r.in_rule in
    let n_is : params_of p s.of.rule ≡ params = ap (params_of p) rule_is ∙ sym is in
    subst (λ (n : ℕ). IsEnv n e.env) n_is s.env

-- the point of a number, by its parts
pub point_parts : (x : PointsData) (point rule : ℕ) (head : Head) (args : List ℕ) → point < length x.points → rule ≡ (point_at x point).rule → head ≡ (point_at x point).head → args ≡ (point_at x point).args
    → slice_get x.points point ≡ Some (record { rule = rule; head = head; args = args })
point_parts x point rule head args lt r h a =
    slice_get-get_or x.points point (record { rule = 0; head = Tm 0; args = [] }) lt ∙ (λ i. Some (let d : PointData = record { rule = sym r i; head = sym h i; args = sym a i } in d))

-- heads are within what the problem has
pub head_within : (p : ProblemData) (rule params : ℕ) (head : Head) → p.points ≡ points_of p.sorted.scheme.rules → NonterminalWithin (length p.points.bodies) head → ParameterWithin p.points.params rule head → params ≡ params_of p rule → IsHeadWithin p params head
head_within p rule params (Var x) points within parameter is =
    let counts : slice_index p.points.params rule ≡ params_of p rule = ap (λ (y : PointsData). slice_index y.params rule) points ∙ params_are p.sorted.scheme.rules rule in
    omega (arith, parameter, counts, is)
head_within p rule params (Nt f) points within parameter is = within
head_within p rule params (Tm a) points within parameter is = tt

-- where a point is an argument of another
module _ (points : PointsData) (result : Option Argument) (point a : ℕ) (is : (q place : ℕ) → result ≡ Some (record { point = q; place = place }) ↔ IsArgument points q place a) where
  pub argument_other : (whose : Argument) → result ≡ Some whose → (whose.point ≡ point → ⊥) → (i : ℕ) → IsArgument points point i a → ⊥
  argument_other whose there differs i other = differs (ap (λ (w : Argument). w.point) (same_Some whose (record { point = point; place = i }) (sym there ∙ (is point i).1 other)))

  pub argument_only : (whose : Argument) → result ≡ Some whose → whose.point ≡ point → IsOnlyPlaceOf points point a whose.place
  argument_only whose there here = record {
    there = subst (λ (q : ℕ). IsArgument points q whose.place a) here ((is whose.point whose.place).0 there);
    only = λ q i other.
        let same : whose ≡ record { point = q; place = i } = same_Some whose (record { point = q; place = i }) (sym there ∙ (is q i).1 other) in
        (ap (λ (w : Argument). w.point) (sym same) ∙ here, ap (λ (w : Argument). w.place) (sym same));
  }
