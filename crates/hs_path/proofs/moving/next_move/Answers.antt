use Rattle.std.proofs.Common.{◌≡◌, sym, ◌∙◌, ap, subst as along, length, arith, ℕ, ◌<◌, List}
use Rattle.std.proofs.lemmas.List.Elements.{All-weaker}
use Rattle.std.proofs.lemmas.Option.{get_or_from_slice_get}
use Rattle.hs_scheme.specs.flow.Points.{PointsData, point_at}
use Rattle.hs_scheme.specs.Problem.{ProblemData}
use Rattle.hs_table.specs.Entries.{EntryData}
use Rattle.hs_table.specs.Follows.{Support}
use Rattle.hs_verdict.specs.Evidence.{Evidence, Packs, evidence, no_packs, stacked}
use Rattle.hs_verdict.specs.Naming.{support_at, terminal_of, argument_packs}
use Rattle.hs_core.specs.Core.{log_of, state_of}
use Rattle.hs_path.specs.declared.evidence.Store.{Store}
use Rattle.hs_path.specs.Stored.{Nothing, KnowsCurrent, GrowsStore, premise}
use Rattle.hs_path.specs.Moved.{owns, Moves}
use Rattle.hs_path.proofs.StoredLemmas.{grows_then, stands_grow}
use Rattle.hs_path.proofs.MovingLemmas.{premises_within, head_weaker, continuation_grows, continuation_knows, some_nodes, taken_at}
use Rattle.hs_path.proofs.moving.next_move.Goals as goal

pub args_of-arguments-requires : goal.args_of-arguments-requires
args_of-arguments-requires c =
    let T = log_of c.args.core.now in
    let s : Support = record { head = c.support.result.0.now; args = c.support.result.1.now } in
    let w = premises_within c.args.problem.now T (state_of c.args.core.now).supports c.requires.log c.args.continuation.node.place s c.requires.place c.support.ensures in
    along (λ (x : PointsData). c.row_at-point.result.point < length x.points) (ap (λ (x : ProblemData). x.points) (sym c.problem.view_is))
    (along (λ (e : EntryData). e.point < length c.args.problem.now.points.points) c.row_at-point.ensures.entry w.point)

pub put_arguments-requires-clause-places : goal.put_arguments-requires-clause-places
put_arguments-requires-clause-places c =
    let T = log_of c.args.core.now in
    let s : Support = record { head = c.support.result.0.now; args = c.support.result.1.now } in
    let w = premises_within c.args.problem.now T (state_of c.args.core.now).supports c.requires.log c.args.continuation.node.place s c.requires.place c.support.ensures in
    All-weaker (λ (x : ℕ × ℕ). x.1 < c.args.continuation.node.place) (λ (x : ℕ × ℕ). x.1 < length T) (λ x h. omega (arith, h, c.requires.place)) s.args w.args

pub terminal_at-terminal-requires : goal.terminal_at-terminal-requires
terminal_at-terminal-requires c =
    let T = log_of c.args.core.now in
    let s : Support = record { head = c.support.result.0.now; args = c.support.result.1.now } in
    let w = premises_within c.args.problem.now T (state_of c.args.core.now).supports c.requires.log c.args.continuation.node.place s c.requires.place c.support.ensures in
    along (λ (e : EntryData). e.point < length c.args.problem.now.points.points) c.row_at-point.ensures.entry w.point

pub by_head-requires-clause-head : goal.by_head-requires-clause-head
by_head-requires-clause-head c =
    let T = log_of c.args.core.now in
    let s : Support = record { head = c.support.result.0.now; args = c.support.result.1.now } in
    let w = premises_within c.args.problem.now T (state_of c.args.core.now).supports c.requires.log c.args.continuation.node.place s c.requires.place c.support.ensures in
    head_weaker c.args.continuation.node.place (length T) s.head (omega (arith, c.requires.place)) w.head

pub returns-clause-grows : goal.returns-clause-grows
returns-clause-grows c = grows_then c.args.store.now c.put_arguments.new.store c.by_head.new.store c.in_ok-put_arguments.ensures.grows c.in_ok-taken.ensures.grows

pub returns-clause-taken : goal.returns-clause-taken
returns-clause-taken c = λ own packs nothing at piled.
    let T : List EntryData = log_of c.args.core.now in
    let b : ℕ = length T in
    let p : ProblemData = c.args.problem.now in
    let supports : List Support = (state_of c.args.core.now).supports in
    let place : ℕ = c.args.continuation.node.place in
    let s : Support = record { head = c.support.result.0.now; args = c.support.result.1.now } in
    let old : Store = c.args.store.now in
    let mid : Store = c.put_arguments.new.store in
    let new : Store = c.by_head.new.store in
    let items : List ℕ = c.by_head.new.stack.items in
    let taken = c.in_ok-taken.taken in
    let g : GrowsStore old mid = c.in_ok-put_arguments.ensures.grows in
    let w = premises_within p T supports c.requires.log place s c.requires.place c.support.ensures in
    let give : ℕ → Evidence = premise T place own in
    let of : ℕ → ℕ → Evidence = owns T place own in
    let arguments : List ℕ = c.args_of-arguments.result.now in
    let known : KnowsCurrent b old (length old.nodes.items) c.args.continuation.node own = continuation_knows b old c.args.continuation own nothing at (length old.nodes.items) at.within (some_nodes b old c.args.continuation own nothing at) in
    let stack = c.in_ok-put_arguments.ensures.stack own packs known piled in
    let later : Nothing b mid = stands_grow b old mid g 0 (evidence 0 no_packs) nothing in
    let here = continuation_grows b old mid g c.args.continuation (evidence place own) at in
    let full : Packs = stacked (argument_packs give 0 arguments s.args) packs in
    let stands = taken_at b mid c.args.continuation own later here new s.head c.terminal_at-terminal.result of full items taken w.head
    (λ below knows. c.in_ok-taken.ensures.taken below own full knows stack) in
    let q : ℕ = c.row_at-point.result.point in
    let are : arguments ≡ (point_at p.points q).args =
    c.args_of-arguments.ensures.args ∙ ap (λ (x : ProblemData). (point_at x.points q).args) c.problem.view_is in
    let By : Support → ℕ → Type 0 = λ (x : Support) (r : ℕ).
    Moves b new c.args.continuation.number x.head (terminal_of (point_at p.points r).head) of (stacked (argument_packs give 0 (point_at p.points r).args x.args) packs) items taken in
    along (λ (r : ℕ). By (support_at supports place) r) (ap (λ (e : EntryData). e.point) (sym c.row_at-point.ensures.entry))
    (along (λ (x : Support). By x q) (sym (get_or_from_slice_get supports place s _ c.support.ensures))
    (along (λ (us : List ℕ). Moves b new c.args.continuation.number s.head (terminal_of (point_at p.points q).head) of (stacked (argument_packs give 0 us s.args) packs) items taken) are
    (along (λ (a : ℕ). Moves b new c.args.continuation.number s.head a of full items taken) c.terminal_at-terminal.ensures stands)))
