-- At an inert point nothing is demanded, and nothing follows.
use Rattle.std.proofs.Common.{◌≡◌, refl, sym, ◌∙◌, ap, subst, ℕ, zero, suc, Bool, true, List, [], ◌∷◌, ◌++◌, length, Some, slice_get, inl, inr, ◌⊎◌, arith}
use Rattle.std.proofs.lemmas.Option.{slice_get-get_or, same_Some}
use Rattle.hs_scheme.specs.declared.flow.HeadPair.{HeadPair}
use Rattle.hs_scheme.specs.declared.term.Head.{Head}
use Rattle.hs_scheme.specs.declared.term.Head.TheVariants.{Var, Tm}
use Rattle.hs_scheme.specs.flow.Flow.{IsBase}
use Rattle.hs_scheme.specs.flow.Points.{PointData, point_at}
use Rattle.hs_scheme.specs.Problem.{ProblemData}
use Rattle.hs_scheme.proofs.Lists.{none_in, Contains-at}
use Rattle.hs_table.specs.declared.support.HeadBy.{HeadBy}
use Rattle.hs_table.specs.declared.support.HeadBy.TheVariants.{Terminal, Rule, Param}
use Rattle.hs_table.specs.Types.{TypeTree}
use Rattle.hs_table.specs.Entries.{EntryData}
use Rattle.hs_table.specs.Follows.{IsHeadType, Follows}
use Rattle.hs_table_laws.proofs.Places.{within_from}
use Rattle.hs_flow_checker.specs.Gaps.{held}
use Rattle.hs_flow_checker.specs.PassedOn.{DemandNothing}
use Rattle.hs_checker.specs.Inert.{IsInert, AreInert}
use Rattle.hs_checker.specs.Slots.{IsCountAt}
use Rattle.hs_flow_checker.proofs.GapLemmas.{flow_held, head_held}

-- one mark more
pub marks_push : (olds : List Bool) (b : Bool) (u : ℕ) → slice_get (olds ++ b ∷ []) u ≡ Some true → slice_get olds u ≡ Some true ⊎ ((u ≡ length olds) × (b ≡ true))
marks_push [] b zero h = inr (refl, same_Some b true h)
marks_push [] b (suc u) h = absurd (cc)
marks_push (o ∷ olds) b zero h = inl h
marks_push (o ∷ olds) b (suc u) h = elim (marks_push olds b u h) [
  | inl before ↦ inl before
  | inr own ↦ inr (ap suc own.0, own.1)
]

-- the point of a number, where it is known to be one
is_point : (p : ProblemData) (point : ℕ) (of : PointData) → slice_get p.points.points point ≡ Some of → of ≡ point_at p.points point
is_point p point of at =
    let d : PointData = record { rule = 0; head = Tm 0; args = [] } in
    same_Some of (point_at p.points point) (sym at ∙ slice_get-get_or p.points.points point d (within_from p.points.points point of at))

pub inert_demands : (p : ProblemData) (E : List EntryData) (marks : List Bool) → AreInert p E marks → DemandNothing p marks
inert_demands p E marks are point pair marked d =
    let own = are point marked in
    let same = is_point p point d.of d.at in
    let rules : d.of.rule ≡ (point_at p.points point).rule = ap (λ (q : PointData). q.rule) same in
    let heads : d.of.head ≡ Var own.parameter = ap (λ (q : PointData). q.head) same ∙ own.head in
    let base : IsBase (held p) (point_at p.points point).rule (Var own.parameter) d.by.rule d.by.given =
    subst (λ (h : Head). IsBase (held p) (point_at p.points point).rule h d.by.rule d.by.given) heads (subst (λ (r : ℕ). IsBase (held p) r d.of.head d.by.rule d.by.given) rules d.is_base) in
    let h : HeadPair = record { point = base.0; rule = d.by.rule; given = d.by.given } in
    (own.silent base.0 ((flow_held p.flow.pairs p.flow.heads (record { rule = (point_at p.points point).rule; param = own.parameter; point = base.0 })).0 base.1.0)).becomes h ((head_held p.flow.pairs p.flow.heads h).0 base.1.1) refl

-- the head has no type
no_type : (p : ProblemData) (E : List EntryData) (point : ℕ) (own : IsInert p E point) (by : HeadBy) (ty : TypeTree) → IsHeadType p E (point_at p.points point).rule (Var own.parameter) by ty → ⊥
no_type p E point own (Terminal q child) ty x = x
no_type p E point own (Rule place) ty x = x
no_type p E point own (Param y place) ty x = (own.silent x.1.entry.point x.1.flows).has x.1.entry (Contains-at E place x.1.entry x.1.holds.at) refl

no_head : (p : ProblemData) (E : List EntryData) (point : ℕ) → IsInert p E point → (of : PointData) → slice_get p.points.points point ≡ Some of → (by : HeadBy) (ty : TypeTree) → IsHeadType p E of.rule of.head by ty → ⊥
no_head p E point own of at by ty x =
    let same = is_point p point of at in
    let heads : of.head ≡ Var own.parameter = ap (λ (q : PointData). q.head) same ∙ own.head in
    no_type p E point own by ty (subst (λ (h : Head). IsHeadType p E (point_at p.points point).rule h by ty) heads (subst (λ (r : ℕ). IsHeadType p E r of.head by ty) (ap (λ (q : PointData). q.rule) same) x))

pub inert_follows : (p : ProblemData) (E : List EntryData) (point : ℕ) → IsInert p E point → (e : EntryData) → e.point ≡ point → Follows p E e → ⊥
inert_follows p E point own e at f = no_head p E point own f.1.of (subst (λ (n : ℕ). slice_get p.points.points n ≡ Some f.1.of) at f.1.at) f.0.head _ f.1.head

pub inert_count : (p : ProblemData) (E : List EntryData) (point : ℕ) → IsInert p E point → IsCountAt p E point 0
inert_count p E point own = record {
  types = [];
  distinct = λ i j d low high. absurd (omega arith);
  exact = λ t. (λ c. absurd (none_in t c), λ i. absurd (no_head p E point own i.of i.at i.by t i.head));
  count = refl;
}
