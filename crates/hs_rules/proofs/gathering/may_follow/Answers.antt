use Rattle.std.proofs.Common.{◌≡◌, ap, subst, ◌∷◌, [], slice_get, take, Option, Some}
use Rattle.std.specs.Bool.{OnFalse}
use Rattle.std.proofs.lemmas.Bool.{OnFalse_from, OnFalse_at}
use Rattle.std.proofs.lemmas.Result.{IfOk-weaker}
use Rattle.hs_scheme.specs.declared.term.Head.{Head}
use Rattle.hs_table.specs.Entries.{EntryData}
use Rattle.hs_table.specs.Follows.{head_premise, Support, FollowsBy}
use Rattle.hs_rules.specs.Slots.{FixedData}
use Rattle.hs_rules.specs.Filling.{fixed_of}
use Rattle.hs_rules.specs.Shut.{IsBodyShut}
use Rattle.hs_rules.specs.Seeking.{IsHeadWithin}
use Rattle.hs_rules.proofs.ShutLemmas.{nothing_by}
use Rattle.hs_rules.proofs.gathering.may_follow.Goals as goal

pub returns-in-Nt-clause-nothing : goal.returns-in-Nt-clause-nothing
returns-in-Nt-clause-nothing c =
    let p = c.args.at.now.problem.now in
    let log = c.args.replica.now.log in
    let s = c.args.at.now.search in
    let E = take s.limit log in
    let f = c.in-Nt.nonterminal in
    let at = subst (λ (h : Head). slice_get p.points.points s.point ≡ Some (record { rule = c.args.at.now.rule; head = h; args = s.args.now })) c.in-Nt.is c.requires.can.is_point in
    let free = ap (fixed_of log) c.requires.can.free in
    IfOk-weaker c.is_body_open.result (λ may. OnFalse may (IsBodyShut p E (fixed_of log s.fixed) s.args.now f c.args.place))
    (λ may. OnFalse may ((d : Support) (e : EntryData) → e.point ≡ s.point → FollowsBy p E d e → head_premise d.head ≡ c.args.place ∷ [] → ⊥))
    (λ may shut. OnFalse_from may ((d : Support) (e : EntryData) → e.point ≡ s.point → FollowsBy p E d e → head_premise d.head ≡ c.args.place ∷ [] → ⊥) (λ no.
    nothing_by p E c.args.at.now.rule f c.args.place s.args.now s.point at
    (subst (λ (x : Option FixedData). IsBodyShut p E x s.args.now f c.args.place) free (OnFalse_at no shut)))) c.is_body_open.ensures.shut

pub is_body_open-requires-clause-can : goal.is_body_open-requires-clause-can
is_body_open-requires-clause-can c = c.requires.can.heads

pub is_body_open-requires-clause-head : goal.is_body_open-requires-clause-head
is_body_open-requires-clause-head c = subst (λ (h : Head). IsHeadWithin c.args.at.now.problem.now c.args.at.now.params h) c.in-Nt.is c.requires.can.heads.head
