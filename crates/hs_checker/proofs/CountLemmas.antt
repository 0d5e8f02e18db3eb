-- The entries of a table that are in shape stand for it, and instances are counted point by point.
use Rattle.std.proofs.Common.{◌≡◌, ◌≢◌, refl, sym, ◌∙◌, ap, subst, ℕ, ◌+◌, ◌-◌, ◌^◌, ◌<◌, ◌≤◌, min, Option, Some, None, MatchOption, List, [], ◌∷◌, ◌++◌, length, arith, Contains, AllPairs, inl, inr, ◌⊎◌, ◌↔◌}
use Rattle.std.proofs.lemmas.Bool.Decides.{nat_tests}
use Rattle.std.proofs.lemmas.List.{length_push}
use Rattle.hs_scheme.specs.declared.term.Head.{Head}
use Rattle.hs_scheme.specs.declared.term.Head.TheVariants.{Var, Nt, Tm}
use Rattle.hs_scheme.specs.acceptance.Automaton.{IsAutomaton}
use Rattle.hs_scheme.specs.Problem.{ProblemData}
use Rattle.hs_table.specs.declared.support.HeadBy.{HeadBy}
use Rattle.hs_table.specs.declared.support.HeadBy.TheVariants.{Terminal, Rule, Param}
use Rattle.hs_table.specs.Types.{TypeTree, arrows}
use Rattle.hs_table.specs.Entries.{Env, EntryData, InShape}
use Rattle.hs_table.specs.Follows.{IsAt, IsHeadType, Chosen, done, next_argument, choose, Follows}
use Rattle.hs_table.specs.Tables.{IsClosedTable, IsInstance, HasStart as HasStartEntry}
use Rattle.hs_table_laws.proofs.Places.{place_of, pairs_tail, pairs_head, within_from}
use Rattle.hs_table_laws.proofs.Shapes.{follows_shape}
use Rattle.hs_table_plain.proofs.Members.{in_pushed, pairs_push}
use Rattle.hs_table_plain.proofs.TableLemmas.{below_or_last}
use Rattle.hs_scheme.specs.declared.flow.Pair.{Pair}
use Rattle.hs_scheme.specs.declared.flow.Pair.TheVariants.{OfFlow, OfHead}
use Rattle.hs_scheme.proofs.Lists.{none_in, here, later, uncons, Contains-at}
use Rattle.hs_verdict.specs.Premises.{HasClosedFlow}
use Rattle.hs_checker.specs.declared.fault.CheckFault.{CheckFault}
use Rattle.hs_checker.specs.declared.fault.CheckFault.TheVariants.{FlowOpen, HeadOpen, Missing, HasStart, OutOfMemory}
use Rattle.hs_flow_checker.specs.declared.gaps.Kind.TheVariants.{Flow, Heads}
use Rattle.hs_flow_checker.specs.Gaps.{HoldsAll, IsFirstLacking}
use Rattle.hs_checker.specs.Slots.{IsCountAt}
use Rattle.hs_checker.specs.Checked.{IsCount, IsMissing, IsFault}

-- entries in shape are elsewhere
module _ (p : ProblemData) (E F : List EntryData) (all : (e : EntryData) → InShape p e → Contains E e → Contains F e) where
  record Elsewhere (e : EntryData) : Type 0 where
    place : ℕ
    at : IsAt p F place e

  found : (place : ℕ) (e : EntryData) → IsAt p E place e → Elsewhere e
  found place e h = let r = place_of F e (all e h.shape (Contains-at E place e h.at)) in record { place = r.0; at = record { at = r.1; shape = h.shape } }

  head_moved : (rule : ℕ) (h : Head) (by : HeadBy) (ty : TypeTree) → IsHeadType p E rule h by ty → (b : HeadBy) × IsHeadType p F rule h b ty
  head_moved rule (Tm a) (Terminal q child) ty x = (Terminal q child, x)
  head_moved rule (Tm a) (Rule place) ty x = absurd x
  head_moved rule (Tm a) (Param y place) ty x = absurd x
  head_moved rule (Nt f) (Terminal q child) ty x = absurd x
  head_moved rule (Nt f) (Rule place) ty x = let r = found place x.entry x.holds in (Rule r.place, record { entry = x.entry; q = x.q; holds = r.at; body = x.body; is_state = x.is_state; is = x.is })
  head_moved rule (Nt f) (Param y place) ty x = absurd x
  head_moved rule (Var j) (Terminal q child) ty x = absurd x
  head_moved rule (Var j) (Rule place) ty x = absurd x
  head_moved rule (Var j) (Param y place) ty x = let r = found place x.1.entry x.1.holds in (Param y r.place, (x.0, record { entry = x.1.entry; holds = r.at; flows = x.1.flows; is = x.1.is }))

  chosen_moved : {i : ℕ} {us : List ℕ} {ss : Env} {args : List (ℕ × ℕ)} {es : List EntryData} → Chosen p E i us ss args es → (bs : List (ℕ × ℕ)) × Chosen p F i us ss bs es
  chosen_moved done = ([], done)
  chosen_moved (next_argument h) = let r = chosen_moved h in (r.0, next_argument r.1)
  chosen_moved (choose {i = i} {place = place} {e = e} at point ty h) = let r = chosen_moved h in let x = found place e at in ((i, x.place) ∷ r.0, choose x.at point ty r.1)

  pub follows_moved : (e : EntryData) → Follows p E e → Follows p F e
  follows_moved e (s, h) =
      let head = head_moved h.of.rule h.of.head s.head (arrows h.sets e.ty) h.head in
      let are = chosen_moved h.are in
      (record { head = head.0; args = are.0 }, record { of = h.of; at = h.at; sets = h.sets; head = head.1; chosen = h.chosen; are = are.1; env = h.env; union = h.union })

  pub instance_moved : (point : ℕ) (ty : TypeTree) → IsInstance p E point ty → IsInstance p F point ty
  instance_moved point ty h =
      let head = head_moved h.of.rule h.of.head h.by ty h.head in
      let are = chosen_moved h.are in
      record { of = h.of; at = h.at; by = head.0; head = head.1; sets = h.sets; rest = h.rest; is = h.is; args = are.0; chosen = h.chosen; are = are.1 }

-- the entries of a table that are in shape
module _ (p : ProblemData) (E T : List EntryData) (exact : (e : EntryData) → Contains E e ↔ (Contains T e × InShape p e)) where
  into : (e : EntryData) → InShape p e → Contains T e → Contains E e
  into e shape c = (exact e).1 (c, shape)

  out : (e : EntryData) → InShape p e → Contains E e → Contains T e
  out e shape c = ((exact e).0 c).0

  pub closed_whole : IsClosedTable p E → IsClosedTable p T
  closed_whole closed e f = ((exact e).0 (closed e (follows_moved p T E into e f))).0

  pub missing_whole : IsAutomaton p.sorted.automaton → (e : EntryData) → IsMissing p E e → IsMissing p T e
  missing_whole automaton e h = (follows_moved p E T out e h.0, λ c. h.1 (into e (follows_shape p E automaton.to e h.0) c))

  pub count_whole : (n : ℕ) → IsCount p E n → IsCount p T n
  count_whole n h = record {
    total = h.total;
    instances = record {
      all = h.instances.all;
      distinct = h.instances.distinct;
      exact = λ point ty. (
        λ c. instance_moved p E T out point ty ((h.instances.exact point ty).0 c),
        λ i. (h.instances.exact point ty).1 (instance_moved p T E into point ty i),
      );
      count = h.instances.count;
    };
    is = h.is;
  }

-- the instances at the points below k are counted
pub record CountedBelow (p : ProblemData) (E : List EntryData) (k n : ℕ) : Type 0 where
  pub all : List (ℕ × TypeTree)
  pub distinct : AllPairs (λ a b. a ≢ b) all
  pub exact : (point : ℕ) (ty : TypeTree) → Contains all (point, ty) ↔ ((point < k) × IsInstance p E point ty)
  pub is : n ≡ min (length all) (2 ^ 64 - 1)

-- some pairs of a point with types beside others
record Beside (olds : List (ℕ × TypeTree)) (k : ℕ) (types : List TypeTree) : Type 0 where
  all : List (ℕ × TypeTree)
  distinct : AllPairs (λ a b. a ≢ b) all
  exact : (x : ℕ × TypeTree) → Contains all x ↔ (Contains olds x ⊎ ((x.0 ≡ k) × Contains types x.1))
  long : length all ≡ length olds + length types

beside : (olds : List (ℕ × TypeTree)) (k : ℕ) (types : List TypeTree) → AllPairs (λ a b. a ≢ b) olds → AllPairs (λ a b. a ≢ b) types → ((t : TypeTree) → Contains types t → Contains olds (k, t) → ⊥) → Beside olds k types
beside olds k [] distinct set new = record {
  all = olds;
  distinct = distinct;
  exact = λ x. (λ c. inl c, λ h. elim h [ inl c ↦ c | inr both ↦ absurd (none_in x.1 both.1) ]);
  long = omega arith;
}
beside olds k (t ∷ types) distinct set new =
    let news = olds ++ (k, t) ∷ [] in
    let apart : AllPairs (λ a b. a ≢ b) news = pairs_push olds (k, t) distinct (new t (here t types)) in
    let rest = beside news k types apart (pairs_tail (λ a b. a ≢ b) t types set)
    (λ u there c. elim ((in_pushed olds (k, t) (k, u)).0 c) [
      | inl old ↦ new u (later t u types there) old
      | inr same ↦ pairs_head (λ a b. a ≢ b) t u types set there (sym (ap (λ (x : ℕ × TypeTree). x.1) same))
    ]) in
    record {
      all = rest.all;
      distinct = rest.distinct;
      exact = λ x. (
        λ c. elim ((rest.exact x).0 c) [
          | inl n ↦ elim ((in_pushed olds (k, t) x).0 n) [
            | inl old ↦ inl old
            | inr same ↦ inr (ap (λ (y : ℕ × TypeTree). y.0) same, subst (λ (z : TypeTree). Contains (t ∷ types) z) (sym (ap (λ (y : ℕ × TypeTree). y.1) same)) (here t types))
          ]
          | inr both ↦ inr (both.0, later t x.1 types both.1)
        ],
        λ h. (rest.exact x).1 (elim h [
          | inl old ↦ inl ((in_pushed olds (k, t) x).1 (inl old))
          | inr both ↦ elim (uncons t x.1 types both.1) [
            | inl same ↦ inl ((in_pushed olds (k, t) x).1 (inr (λ i. (both.0 i, same i))))
            | inr there ↦ inr (both.0, there)
          ]
        ]),
      );
      long = omega (arith, rest.long, length_push olds (k, t));
    }

cut_sum : (a b c n m : ℕ) → n ≡ min a (2 ^ 64 - 1) → m ≡ min (n + b) (2 ^ 64 - 1) → c ≡ a + b → m ≡ min c (2 ^ 64 - 1)
cut_sum a b c n m e f g = grind (arith, nat_tests)

-- and those at k with them
pub counted_more : (p : ProblemData) (E : List EntryData) (k n m c : ℕ) → IsCountAt p E k c → m ≡ min (n + c) (2 ^ 64 - 1) → CountedBelow p E k n → CountedBelow p E (k + 1) m
counted_more p E k n m c at sum before =
    let types = at.types in
    let b = beside before.all k types before.distinct at.distinct (λ t there d. absurd (omega (arith, ((before.exact k t).0 d).0))) in
    record {
      all = b.all;
      distinct = b.distinct;
      exact = λ point ty. (
        λ d. elim ((b.exact (point, ty)).0 d) [
          | inl old ↦ let h = (before.exact point ty).0 old in (omega (arith, h.0), h.1)
          | inr both ↦ (omega (arith, both.0), subst (λ (q : ℕ). IsInstance p E q ty) (sym both.0) ((at.exact ty).0 both.1))
        ],
        λ h. (b.exact (point, ty)).1 (elim (below_or_last point k h.0) [
          | inl lt ↦ inl ((before.exact point ty).1 (lt, h.1))
          | inr same ↦ inr (same, (at.exact ty).1 (subst (λ (q : ℕ). IsInstance p E q ty) same h.1))
        ]),
      );
      is = cut_sum (length before.all) (length types) (length b.all) n m before.is (sum ∙ ap (λ d. min (n + d) (2 ^ 64 - 1)) at.count) b.long;
    }

-- at all points
pub counted_all : (p : ProblemData) (E : List EntryData) (k n : ℕ) → length p.points.points ≤ k → CountedBelow p E k n → IsCount p E n
counted_all p E k n all_points c = record {
  total = length c.all;
  instances = record {
    all = c.all;
    distinct = c.distinct;
    exact = λ point ty. (
      λ there. ((c.exact point ty).0 there).1,
      λ i. (c.exact point ty).1 (omega (arith, all_points, within_from p.points.points point i.of i.at), i),
    );
    count = refl;
  };
  is = c.is;
}

-- flow pairs and head pairs together
both_kinds : (p : ProblemData) → HoldsAll p Flow → HoldsAll p Heads → HasClosedFlow p
both_kinds p flows heads (OfFlow f) d = flows (OfFlow f) tt d
both_kinds p flows heads (OfHead h) d = heads (OfHead h) tt d

pub no_gap : (p : ProblemData) (o : Option Pair) → ((pair : Pair) → o ≡ Some pair → ⊥) → MatchOption o (HoldsAll p Flow × HoldsAll p Heads) (IsFirstLacking p) → HasClosedFlow p
no_gap p None never h = both_kinds p h.0 h.1
no_gap p (Some pair) never h = absurd (never pair refl)

-- nothing is at fault over a closed flow and a closed table without the start entry
pub no_fault : (p : ProblemData) (T : List EntryData) (fault : CheckFault) → HasClosedFlow p → IsClosedTable p T → (HasStartEntry p T → ⊥) → IsFault p T fault → fault ≡ OutOfMemory
no_fault p T (FlowOpen rule param point) flow closed start h = absurd (h.absent (flow (OfFlow (record { rule = rule; param = param; point = point })) h.demanded))
no_fault p T (HeadOpen point rule given) flow closed start h = absurd (h.1.absent (flow (OfHead (record { point = point; rule = rule; given = given })) h.1.demanded))
no_fault p T (Missing e) flow closed start h = absurd (h.1.1 (closed e h.1.0))
no_fault p T HasStart flow closed start h = absurd (start h.1.1)
no_fault p T OutOfMemory flow closed start h = refl
