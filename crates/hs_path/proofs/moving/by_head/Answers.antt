use Rattle.std.proofs.Common.{refl, sym, ◌∙◌, ap, subst as along, length, ℕ, ◌<◌, List, Option}
use Rattle.std.proofs.lemmas.Option.{slice_get_within}
use Rattle.hs_table.specs.declared.support.HeadBy.{HeadBy}
use Rattle.hs_table.specs.declared.support.HeadBy.TheVariants.{Terminal}
use Rattle.hs_table.specs.Entries.{EntryData, entry_at}
use Rattle.hs_verdict.specs.Evidence.{evidence, first, child_pack, own_evidence}
use Rattle.hs_core.specs.Core.{log_of}
use Rattle.hs_path.specs.declared.evidence.Store.{Store}
use Rattle.hs_path.specs.Stored.{Piled}
use Rattle.hs_path.specs.Moved.{HeadBefore, IsContinuationAt}
use Rattle.hs_path.proofs.StoredLemmas.{grows_refl}
use Rattle.hs_path.proofs.moving.by_head.Goals as goal

pub row_at-ty-requires : goal.row_at-ty-requires
row_at-ty-requires c = along (λ (h : HeadBy). HeadBefore (length (log_of c.args.core.now)) h) c.in-Param.is c.requires.head

pub own_evidence-evidence-requires-clause-node : goal.own_evidence-evidence-requires-clause-node
own_evidence-evidence-requires-clause-node c = c.requires.node

pub own_evidence-evidence-requires-clause-ty : goal.own_evidence-evidence-requires-clause-ty
own_evidence-evidence-requires-clause-ty c = c.row_at-ty.ensures.row.1

pub returns-in-Param-clause-grows : goal.returns-in-Param-clause-grows
returns-in-Param-clause-grows c = grows_refl c.args.store.now

pub returns-in-Param-clause-taken : goal.returns-in-Param-clause-taken
returns-in-Param-clause-taken c = λ below own packs known piled.
    let T : List EntryData = log_of c.args.core.now in
    let b : ℕ = length T in
    let ev = c.own_evidence-evidence.ensures below own known in
    let continuation = c.continuation_of.result in
    let at = c.continuation_of.ensures.continuation b _ known.nothing ev.1 in
    record {
      x = c.in-Param.param;
      m = c.in-Param.place;
      is = c.in-Param.is;
      at = along (λ (e : EntryData). IsContinuationAt b c.args.store.now continuation (own_evidence (entry_at T c.args.node.place).env own c.in-Param.param e.ty)) (sym c.row_at-ty.ensures.entry) at;
      lower = along (λ (n : ℕ). n < below) (sym c.continuation_of.ensures.number) ev.0;
      stack = piled;
    }

pub returns-in_ok-next-in-Rule-clause-grows : goal.returns-in_ok-next-in-Rule-clause-grows
returns-in_ok-next-in-Rule-clause-grows c = c.in_ok-next-in-Rule.ensures.grows

pub returns-in_ok-next-in-Rule-clause-taken : goal.returns-in_ok-next-in-Rule-clause-taken
returns-in_ok-next-in-Rule-clause-taken c = λ below own packs known piled.
    let b : ℕ = length (log_of c.args.core.now) in
    let within = along (λ (h : HeadBy). HeadBefore b h) c.in-Rule.is c.requires.head in
    record {
      e = evidence c.in-Rule.place packs;
      at = c.in_ok-next-in-Rule.ensures.continuation b packs known.nothing within piled;
      cleared = c.in_ok-next-in-Rule.ensures.cleared;
      is = (c.in-Rule.place, c.in-Rule.is, refl);
    }

pub returns-in-Terminal-default-None-clause-grows : goal.returns-in-Terminal-default-None-clause-grows
returns-in-Terminal-default-None-clause-grows c = grows_refl c.args.store.now

pub returns-in-Terminal-default-None-clause-taken : goal.returns-in-Terminal-default-None-clause-taken
returns-in-Terminal-default-None-clause-taken c = λ below own packs known piled.
    let at = c.in-Terminal-default-None in
    (refl, at.is ∙ ap (λ (o : Option ℕ). Terminal at.state o) (rw at.is at at.child-is))

pub returns-in-Terminal-default-Some-clause-grows : goal.returns-in-Terminal-default-Some-clause-grows
returns-in-Terminal-default-Some-clause-grows c = grows_refl c.args.store.now

pub returns-in-Terminal-default-Some-clause-taken : goal.returns-in-Terminal-default-Some-clause-taken
returns-in-Terminal-default-Some-clause-taken c = λ below own packs known piled.
    let b : ℕ = length (log_of c.args.core.now) in
    let s : Store = c.args.store.now in
    let n : ℕ = length s.nodes.items in
    let at = c.in-Terminal-default-Some in
    let some = slice_get_within s.nodes.items 0 known.nothing.0 known.nothing.1 in
    let there = along (λ (xs : List ℕ). Piled b s n xs 0 (length xs) packs) (sym c.as_slice.ensures.value) piled in
    let stands = c.child_evidence-evidence.ensures b n packs known.nothing some there in
    record {
      e = first (child_pack packs at.child);
      at = c.continuation_of-in-Terminal-default-Some.ensures.continuation b (first (child_pack packs at.child)) known.nothing stands.1;
      cleared = cc;
      is = (at.state, at.is ∙ ap (λ (o : Option ℕ). Terminal at.state o) (rw at.is at at.child-is), refl, refl);
    }
