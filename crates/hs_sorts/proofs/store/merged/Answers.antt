use Rattle.std.proofs.Common.{sym, subst}
use Rattle.hs_sorts.specs.declared.store.Shape.{Shape}
use Rattle.hs_sorts.specs.declared.store.Shape.TheVariants.{Arrow}
use Rattle.hs_sorts.specs.Nodes.{Merges}
use Rattle.hs_sorts.proofs.Joining.{arrows_merge}
use Rattle.hs_sorts.proofs.store.merged.Goals as goal

pub returns-in_ok-push-in-Arrow-Arrow-2 : goal.returns-in_ok-push-in-Arrow-Arrow-2
returns-in_ok-push-in-Arrow-Arrow-2 c =
    subst (λ (l : Shape). Merges l c.args.right l c.args.pairs.now.items c.push-in-Arrow-Arrow.new.self.items) (sym c.in-Arrow-Arrow.is-0)
    (subst (λ (r : Shape). Merges (Arrow c.in-Arrow-Arrow.a c.in-Arrow-Arrow.b) r (Arrow c.in-Arrow-Arrow.a c.in-Arrow-Arrow.b) c.args.pairs.now.items c.push-in-Arrow-Arrow.new.self.items) (sym c.in-Arrow-Arrow.is-1)
    (arrows_merge c.in-Arrow-Arrow.a c.in-Arrow-Arrow.b c.in-Arrow-Arrow.c c.in-Arrow-Arrow.d c.args.pairs.now.items c.push.new.self.items c.push-in-Arrow-Arrow.new.self.items
    c.in_ok-push-in-Arrow-Arrow.ensures.items c.in_ok-push-in-Arrow-Arrow-2.ensures.items))
