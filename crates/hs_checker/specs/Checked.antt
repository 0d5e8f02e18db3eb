-- What a check answers.
--     IsCount p T n      n is the number of instances of the table, cut at 2^64 - 1
--     IsFault p T fault  what the flow or the table lacks, or has too much, in the order in which it is looked for
use Rattle.std.specs.Prelude.{◌≡◌, ℕ, ◌-◌, ◌^◌, min, List, Contains}
use Rattle.hs_scheme.specs.declared.flow.Pair.{Pair}
use Rattle.hs_scheme.specs.declared.flow.Pair.TheVariants.{OfFlow, OfHead}
use Rattle.hs_scheme.specs.Problem.{ProblemData}
use Rattle.hs_table.specs.Entries.{EntryData}
use Rattle.hs_table.specs.Follows.{Follows}
use Rattle.hs_table.specs.Tables.{IsClosedTable, HasStart as HasStartEntry, IsInstanceCount}
use Rattle.hs_verdict.specs.Premises.{HasClosedFlow}
use Rattle.hs_checker.specs.declared.fault.CheckFault.{CheckFault}
use Rattle.hs_checker.specs.declared.fault.CheckFault.TheVariants.{FlowOpen, HeadOpen, Missing, HasStart, OutOfMemory}
use Rattle.hs_flow_checker.specs.declared.gaps.Kind.TheVariants.{Flow}
use Rattle.hs_flow_checker.specs.Gaps.{Lacks, HoldsAll}

pub record IsCount (p : ProblemData) (T : List EntryData) (n : ℕ) : Type 0 where
  pub total : ℕ
  pub instances : IsInstanceCount p T total
  pub is : n ≡ min total (2 ^ 64 - 1)

abbrev pub fault_of : Pair → CheckFault
fault_of (OfFlow f) = FlowOpen f.rule f.param f.point
fault_of (OfHead h) = HeadOpen h.point h.rule h.given

-- the entry follows from the table and isn't in it
abbrev pub IsMissing : ProblemData → List EntryData → EntryData → Type 0
IsMissing p T e = Follows p T e × (Contains T e → ⊥)

abbrev pub IsGap : ProblemData → List EntryData → CheckFault → Type 0
IsGap p T (FlowOpen rule param point) = ⊥
IsGap p T (HeadOpen point rule given) = ⊥
IsGap p T (Missing e) = IsMissing p T e
IsGap p T HasStart = ⊥
IsGap p T OutOfMemory = Unit {0}

-- A pair is named where the flow lacks it, a head pair only where no flow pair is lacking; an entry only over a closed flow; the start
-- entry only where the table is closed too. Want of memory may come at any time.
abbrev pub IsFault : ProblemData → List EntryData → CheckFault → Type 0
IsFault p T (FlowOpen rule param point) = Lacks p (OfFlow (record { rule = rule; param = param; point = point }))
IsFault p T (HeadOpen point rule given) = HoldsAll p Flow × Lacks p (OfHead (record { point = point; rule = rule; given = given }))
IsFault p T (Missing e) = HasClosedFlow p × IsMissing p T e
IsFault p T HasStart = HasClosedFlow p × (IsClosedTable p T × HasStartEntry p T)
IsFault p T OutOfMemory = Unit {0}

-- so before the start entry is looked for
abbrev pub IsFlaw : ProblemData → List EntryData → CheckFault → Type 0
IsFlaw p T (FlowOpen rule param point) = IsFault p T (FlowOpen rule param point)
IsFlaw p T (HeadOpen point rule given) = IsFault p T (HeadOpen point rule given)
IsFlaw p T (Missing e) = IsFault p T (Missing e)
IsFlaw p T HasStart = ⊥
IsFlaw p T OutOfMemory = Unit {0}
