use Rattle.std.proofs.Common.{◌≡◌, refl, sym, ◌∙◌, ap, subst as along, length, append-nil, arith, ℕ, ◌++◌, List, Option}
use Rattle.std.proofs.lemmas.Option.{slice_get_within}
use Rattle.hs_scheme.specs.Problem.{ProblemData}
use Rattle.hs_table.specs.Entries.{EntryData}
use Rattle.hs_table.specs.Follows.{Support}
use Rattle.hs_core.specs.Core.{log_of, state_of}
use Rattle.hs_path.specs.declared.moving.NamingMove.{NamingMove}
use Rattle.hs_path.specs.Moved.{MovesAt}
use Rattle.hs_path.specs.Walked.{IsLongerPath}
use Rattle.hs_path.specs.Walking.{listed}
use Rattle.hs_path.proofs.WalkingLemmas.{at_place, walk_starts, walk_silent, walk_step, walk_cut, walk_end}
use Rattle.hs_path.proofs.walking.walk_from.Goals as goal
use Rattle.hs_path.proofs.walking.walk_from.Goals.{in-Some+in_ok-push-in-Step, in_default}

pub loop-trail-init : goal.loop-trail-init
loop-trail-init c =
    let T : List EntryData = log_of c.args.core.now in
    let supports : List Support = (state_of c.args.core.now).supports in
    let starts = c.requires.start in
    record {
      few = c.requires.least;
      walking = walk_starts c.args.problem.now T supports c.requires.log c.requires.leads c.args.place starts c.in_ok-store.store
          (c.in_ok-store.ensures (length T) (omega (arith, slice_get_within T c.args.place starts.entry starts.at))) c.new-stack.result.items c.new-trail.result.items c.new-stack.ensures.items c.new-trail.ensures.items;
    }

pub returns-in-End : goal.returns-in-End
returns-in-End c =
    let T : List EntryData = log_of c.args.core.now in
    let p : ProblemData = c.args.problem.now in
    let supports : List Support = (state_of c.args.core.now).supports in
    let from = c.loop-trail in
    let w = from.invariant.walking in
    let said = c.in_ok-terminal.ensures.taken w.at.node.own w.packs w.nothing (at_place p T supports from.store from.stack.items from.continuation from.trail.items from.used w) w.stack in
    let t = along (λ (x : NamingMove). MovesAt p T supports c.next_move.new.store c.next_move.new.stack.items from.continuation w.at.node.own w.packs x) c.in-End.is said in
    walk_end p T supports from.store from.stack.items from.continuation from.trail.items from.used w c.args.steps c.in-End.terminal c.in-End.state _ from.invariant.few t.0 t.1 refl

pub loop-trail-smaller-in-Silent : goal.loop-trail-smaller-in-Silent
loop-trail-smaller-in-Silent c =
    let T : List EntryData = log_of c.args.core.now in
    let p : ProblemData = c.args.problem.now in
    let supports : List Support = (state_of c.args.core.now).supports in
    let from = c.loop-trail in
    let w = from.invariant.walking in
    let said = c.in_ok-terminal.ensures.taken w.at.node.own w.packs w.nothing (at_place p T supports from.store from.stack.items from.continuation from.trail.items from.used w) w.stack in
    let t = along (λ (x : NamingMove). MovesAt p T supports c.next_move.new.store c.next_move.new.stack.items from.continuation w.at.node.own w.packs x) c.in-Silent.is said in
    omega (arith, t.lower)

pub loop-trail-preserved-in-Silent : goal.loop-trail-preserved-in-Silent
loop-trail-preserved-in-Silent c =
    let T : List EntryData = log_of c.args.core.now in
    let p : ProblemData = c.args.problem.now in
    let supports : List Support = (state_of c.args.core.now).supports in
    let from = c.loop-trail in
    let w = from.invariant.walking in
    let said = c.in_ok-terminal.ensures.taken w.at.node.own w.packs w.nothing (at_place p T supports from.store from.stack.items from.continuation from.trail.items from.used w) w.stack in
    let t = along (λ (x : NamingMove). MovesAt p T supports c.next_move.new.store c.next_move.new.stack.items from.continuation w.at.node.own w.packs x) c.in-Silent.is said in
    record {
      few = from.invariant.few;
      walking = walk_silent p T supports from.store from.stack.items from.continuation from.trail.items from.used w c.next_move.new.store c.next_move.new.stack.items c.in-Silent.next c.in_ok-terminal.ensures.grows t;
    }

pub returns-then-used-steps : goal.returns-then-used-steps
returns-then-used-steps c =
    let T : List EntryData = log_of c.args.core.now in
    let p : ProblemData = c.args.problem.now in
    let supports : List Support = (state_of c.args.core.now).supports in
    let from = c.loop-trail in
    let w = from.invariant.walking in
    let said = c.in_ok-terminal.ensures.taken w.at.node.own w.packs w.nothing (at_place p T supports from.store from.stack.items from.continuation from.trail.items from.used w) w.stack in
    let t = along (λ (x : NamingMove). MovesAt p T supports c.next_move.new.store c.next_move.new.stack.items from.continuation w.at.node.own w.packs x) c.in-Step.is said in
    along (λ (n : ℕ). IsLongerPath p T supports n from.trail.items) c.if-used-steps.true
    (walk_cut p T supports from.store from.stack.items from.continuation from.trail.items from.used w c.next_move.new.store c.next_move.new.stack.items c.in-Step.label c.in-Step.next c.in_ok-terminal.ensures.grows t)

pub loop-trail-preserved : goal.loop-trail-preserved
loop-trail-preserved c =
    let T : List EntryData = log_of c.args.core.now in
    let p : ProblemData = c.args.problem.now in
    let supports : List Support = (state_of c.args.core.now).supports in
    let from = c.loop-trail in
    let w = from.invariant.walking in
    let said = c.in_ok-terminal.ensures.taken w.at.node.own w.packs w.nothing (at_place p T supports from.store from.stack.items from.continuation from.trail.items from.used w) w.stack in
    let t = along (λ (x : NamingMove). MovesAt p T supports c.next_move.new.store c.next_move.new.stack.items from.continuation w.at.node.own w.packs x) c.in-Step.is said in
    let longer : c.match-label.trail.items ≡ from.trail.items ++ listed c.in-Step.label = elim c.match-label.branch [
      | in-Some+in_ok-push-in-Step v ↦ sym (ap (λ (o : Option (ℕ × ℕ)). from.trail.items ++ listed o) v.in-Some.is ∙ (sym v.in_ok-push-in-Step.ensures.items ∙ ap (λ x. x.items) (sym v.trail-is)))
      | in_default v ↦ sym (ap (λ (o : Option (ℕ × ℕ)). from.trail.items ++ listed o) v.in_default.is ∙ (append-nil from.trail.items ∙ ap (λ x. x.items) (sym v.trail-is)))
    ] in
    record {
      few = omega (arith, from.invariant.few, c.if-used-steps.false);
      walking = walk_step p T supports from.store from.stack.items from.continuation from.trail.items from.used w c.next_move.new.store c.next_move.new.stack.items c.in-Step.label c.in-Step.next c.in_ok-terminal.ensures.grows t
          c.match-label.trail.items longer;
    }
