use Rattle.std.proofs.Common.{◌≡◌, ◌∙◌, ap, length}
use Rattle.std.proofs.lemmas.Result.{IfOk-weaker}
use Rattle.hs_scheme.specs.Tree.{node, forest}
use Rattle.hs_reduce.specs.Graph.{terms_at}
use Rattle.hs_reduce.proofs.ReplacementLemmas.{alone, All-grows, All-one_more, Grows-then, one_more_argument, all_arguments}
use Rattle.hs_reduce.proofs.replacement.+substitute.Goals as goal

pub returns-in-Some : goal.returns-in-Some
returns-in-Some t c =
    let s = c.in-Some.ensures in
    alone c.args.graph.now c.args.with.now c.args.term.now s.0 c.in-Some.place s.1 s.2 c.requires

pub loop-arg-preserved : goal.loop-arg-preserved
loop-arg-preserved t c =
    let old = c.args.graph.now in let mid = c.loop-arg.graph in let new = c.substitute.new.graph in
    let args = c.loop-arg.args.items in
    let added = c.in_ok-place.ensures in
    record {
      grows = Grows-then old mid new c.loop-arg.invariant.grows added.grows;
      within = All-one_more (length new) c.in_ok-place.place args c.push.new.self.items c.in_ok-push.ensures.items (All-grows mid new args added.grows c.loop-arg.invariant.within) added.within;
      terms = one_more_argument old mid new c.args.with.now c.requires c.loop-arg.invariant.grows (terms_at old c.in_ok-head.field-0.args.items) c.deref-arg-items.result.now c.loop-arg.arg-index args
          c.loop-arg.invariant.terms c.arg-item.result c.in_ok-place.place c.arg-item.result c.push.new.self.items c.loop-arg.invariant.within c.loop-arg-test.true c.arg-item.is c.in_ok-push.ensures.items added;
    }

pub returns : goal.returns
returns t c =
    let old = c.args.graph.now in let mid = c.loop-arg.graph in
    let us = c.deref-arg-items.result.now in
    let is : node c.term.inside.head (forest us) ≡ c.args.term.now = ap (λ ts. node c.term.inside.head (forest ts)) c.deref-arg-items.ensures.value ∙ c.term.view_is in
    IfOk-weaker c.add.result _ _
    (λ place a. all_arguments old mid c.add.new.self c.args.with.now c.requires c.loop-arg.invariant.grows (terms_at old c.in_ok-head.field-0.args.items) us c.loop-arg.arg-index c.loop-arg.args.items
    c.loop-arg.invariant.terms c.term.inside.head c.in_ok-head.field-0.head c.args.term.now place c.as_slice.result.now c.as_slice.ensures.value c.loop-arg-test.false is c.in_ok-head.ensures.term a)
    c.add.ensures
