-- What is at fault before the start entry is looked for, of some entries and of a table that has them.
use Rattle.std.proofs.Common.{◌≡◌, sym, ◌∙◌, ap, subst, List, Option, Some, None, MatchOption, Contains, ◌↔◌}
use Rattle.hs_scheme.specs.acceptance.Automaton.{IsAutomaton}
use Rattle.hs_scheme.specs.declared.flow.Pair.{Pair}
use Rattle.hs_scheme.specs.declared.flow.Pair.TheVariants.{OfFlow, OfHead}
use Rattle.hs_scheme.specs.Problem.{ProblemData}
use Rattle.hs_table.specs.Entries.{EntryData, InShape}
use Rattle.hs_verdict.specs.Premises.{HasClosedFlow}
use Rattle.hs_flow_checker.specs.declared.gaps.Kind.TheVariants.{Flow, Heads}
use Rattle.hs_flow_checker.specs.Gaps.{HoldsAll, IsFirstLacking}
use Rattle.hs_checker.specs.declared.fault.CheckFault.{CheckFault}
use Rattle.hs_checker.specs.declared.fault.CheckFault.TheVariants.{FlowOpen, HeadOpen, Missing, HasStart, OutOfMemory}
use Rattle.hs_checker.specs.Checked.{IsGap, IsFault, IsFlaw, fault_of}
use Rattle.hs_checker.proofs.CountLemmas.{missing_whole}

pub flaw_whole : (p : ProblemData) (E T : List EntryData) (fault : CheckFault) → ((e : EntryData) → Contains E e ↔ (Contains T e × InShape p e)) → IsAutomaton p.sorted.automaton → IsFlaw p E fault → IsFlaw p T fault
flaw_whole p E T (FlowOpen rule param point) exact automaton h = h
flaw_whole p E T (HeadOpen point rule given) exact automaton h = h
flaw_whole p E T (Missing e) exact automaton h = (h.0, missing_whole p E T exact automaton e h.1)
flaw_whole p E T HasStart exact automaton h = absurd h
flaw_whole p E T OutOfMemory exact automaton h = tt

pub flaw_fault : (p : ProblemData) (T : List EntryData) (fault : CheckFault) → IsFlaw p T fault → IsFault p T fault
flaw_fault p T (FlowOpen rule param point) h = h
flaw_fault p T (HeadOpen point rule given) h = h
flaw_fault p T (Missing e) h = h
flaw_fault p T HasStart h = absurd h
flaw_fault p T OutOfMemory h = tt

pub gap_flaw : (p : ProblemData) (E : List EntryData) → HasClosedFlow p → (fault : CheckFault) → IsGap p E fault → IsFlaw p E fault
gap_flaw p E flow (FlowOpen rule param point) h = absurd h
gap_flaw p E flow (HeadOpen point rule given) h = absurd h
gap_flaw p E flow (Missing e) h = (flow, h)
gap_flaw p E flow HasStart h = absurd h
gap_flaw p E flow OutOfMemory h = tt

first_flaw : (p : ProblemData) (T : List EntryData) (pair : Pair) → IsFirstLacking p pair → IsFlaw p T (fault_of pair)
first_flaw p T (OfFlow f) h = h
first_flaw p T (OfHead h) both = both

pub open_flaw : (p : ProblemData) (T : List EntryData) (o : Option Pair) (pair : Pair) (fault : CheckFault) → o ≡ Some pair → MatchOption o (HoldsAll p Flow × HoldsAll p Heads) (IsFirstLacking p) → fault ≡ fault_of pair → IsFlaw p T fault
open_flaw p T None pair fault is h same = absurd (cc)
open_flaw p T (Some own) pair fault is h same =
    let e : own ≡ pair = cc in
    subst (λ (x : CheckFault). IsFlaw p T x) (sym (same ∙ ap fault_of (sym e))) (first_flaw p T own h)

-- of entries that are all in shape
pub same_shaped : (p : ProblemData) (E T : List EntryData) → ((e : EntryData) → Contains E e ↔ Contains T e) → ((e : EntryData) → Contains T e → InShape p e) → (e : EntryData) → Contains E e ↔ (Contains T e × InShape p e)
same_shaped p E T same shapes e = (λ c. let d = (same e).0 c in (d, shapes e d), λ b. (same e).1 b.0)
