-- What is passed on of what a parameter becomes.
use Rattle.std.proofs.Common.{◌≡◌, refl, sym, ◌∙◌, ap, subst, ℕ, ◌+◌, ◌<◌, ◌≤◌, List, length, slice_get, Some, Contains, arith}
use Rattle.hs_scheme.specs.declared.term.Head.{Head}
use Rattle.hs_scheme.specs.declared.term.Head.TheVariants.{Var, Tm}
use Rattle.hs_scheme.specs.declared.flow.FlowPair.{FlowPair}
use Rattle.hs_scheme.specs.sorting.Parameters.{IsParameter, parameter_of}
use Rattle.hs_scheme.specs.Problem.{ProblemData}
use Rattle.hs_table_laws.proofs.Places.{place_of, within_from}
use Rattle.hs_weak.specs.Reads.{PointIs}
use Rattle.hs_reads.specs.declared.becoming.Becoming.{Becoming}
use Rattle.hs_reads.specs.Growing.{Grows}
use Rattle.hs_reads.specs.Lists.{list_of}
use Rattle.hs_reads.specs.Becomings.{AreBecomings, IsByHead}
use Rattle.hs_reads.proofs.BecomingLemmas.{parts_read}
use Rattle.hs_reads.proofs.GrowLemmas.{grows_has, one_place_more}

-- all that pairs with the parameter at their points' heads pass on of it is there
abbrev pub IsPassedOn : ProblemData → Becoming → List Becoming → Type 0
IsPassedOn p b found =
    (f : FlowPair) (args : List ℕ) → Contains p.flow.pairs f → PointIs p f.point b.rule (Var b.param) args
    → Contains found (record { rule = f.rule; param = f.param; terminal = b.terminal; given = b.given + length args })

pub passed_more : (p : ProblemData) (old new : List Becoming) (k : ℕ) (b : Becoming) → Grows old new → slice_get old k ≡ Some b
    → ((i : ℕ) (c : Becoming) → i < k → slice_get old i ≡ Some c → IsPassedOn p c old) → IsPassedOn p b new
    → (i : ℕ) (c : Becoming) → i < k + 1 → slice_get new i ≡ Some c → IsPassedOn p c new
passed_more p old new k b g at so_far now = one_place_more (λ c. IsPassedOn p c new) old new k b g at (λ i c lt e f args m is. grows_has old new _ g (so_far i c lt e f args m is)) now

pub all_passed : (p : ProblemData) (found : List Becoming) (k : ℕ) → length found ≤ k
    → ((f : FlowPair) (rule a : ℕ) (args : List ℕ) → Contains p.flow.pairs f → PointIs p f.point rule (Tm a) args → Contains found (record { rule = f.rule; param = f.param; terminal = a; given = length args }))
    → ((i : ℕ) (b : Becoming) → i < k → slice_get found i ≡ Some b → IsPassedOn p b found) → AreBecomings p found
all_passed p found k le first passed = record {
  first = first;
  next = λ b f args m flows at. let place = place_of found b m in
      passed place.0 b (omega (arith, within_from found place.0 b place.1, le)) place.1 f args flows at;
}

-- what was passed on along the row of the parameter's number
pub passed_now : (p : ProblemData) (lists : List (List FlowPair)) → IsByHead p p.flow.pairs lists → (b : Becoming) (row : List FlowPair) (found : List Becoming)
    → (IsParameter p.points.params b.rule b.param → row ≡ list_of lists (parameter_of p.points.params b.rule b.param))
    → ((f : FlowPair) (rule : ℕ) (h : Head) (args : List ℕ) → Contains row f → PointIs p f.point rule h args
    → Contains found (record { rule = f.rule; param = f.param; terminal = b.terminal; given = b.given + length args })) → IsPassedOn p b found
passed_now p lists by b row found is there f args m at =
    let has = by.has f b.rule b.param args m at in
    let g = has.1.0 in
    let alike = has.1.1.1 in
    let own = by.only (parameter_of p.points.params b.rule b.param) g has.1.1.0 in
    let us = own.headed.1.0 in
    let long : length us ≡ length args =
    sym (ap (λ (xs : List ℕ). length xs) (parts_read p p.points refl g.point own.rule (Var own.param) us own.headed.1.1).args_are)
    ∙ (alike.long ∙ ap (λ (xs : List ℕ). length xs) (parts_read p p.points refl f.point b.rule (Var b.param) args at).args_are) in
    let now = there g own.rule (Var own.param) us (subst (λ (fs : List FlowPair). Contains fs g) (sym (is has.0)) has.1.1.0) own.headed.1.1 in
    subst (λ (n : ℕ). Contains found (record { rule = f.rule; param = f.param; terminal = b.terminal; given = b.given + n })) long
    (subst (λ (n : ℕ). Contains found (record { rule = f.rule; param = n; terminal = b.terminal; given = b.given + length us })) alike.param
    (subst (λ (n : ℕ). Contains found (record { rule = n; param = g.param; terminal = b.terminal; given = b.given + length us })) alike.rule now))
