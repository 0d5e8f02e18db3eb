use Rattle.std.proofs.Common.{◌≡◌, ◌∙◌, ap, ◌++◌, replicate}
use Rattle.hs_sorts.specs.declared.store.Shape.TheVariants.{Open}
use Rattle.hs_sorts.specs.declared.store.Node.TheVariants.{Root}
use Rattle.hs_sorts.proofs.Laying.{laid_out}
use Rattle.hs_sorts.proofs.solve.lay_out.Goals as goal

pub returns : goal.returns
returns c =
    let t : c.in-Ok.terminals ≡ c.args.terminals = c.in-Ok.ensures.1 in
    laid_out c.args.rules c.args.terminals c.args.store.now c.add_all.new.self c.add_all-2.new.self c.requires
    c.in_ok-add_all.ensures.added.1 (c.in_ok-add_all-2.ensures.added.1 ∙ ap (λ n. c.add_all.new.self ++ replicate n (Root Open)) t) c.in_ok-add_all-2.ensures.few
