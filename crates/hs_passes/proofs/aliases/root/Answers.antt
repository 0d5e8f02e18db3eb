use Rattle.std.proofs.Common.{refl, sym, ◌∙◌}
use Rattle.hs_passes.proofs.Linking.{step_links, step_same, step_follow, step_smaller, step_roots, step_in_range}
use Rattle.hs_passes.proofs.aliases.root.Goals as goal

pub loop-links-init : goal.loop-links-init
loop-links-init c = record { in_range = c.requires.from; links = c.requires.links; roots = λ h e. e; follow = λ rep fol. fol; same = λ rep fol. refl }

pub loop-links-preserved : goal.loop-links-preserved
loop-links-preserved c =
    let inv = c.loop-links.invariant in
    let links = c.loop-links.links in
    let at = c.loop-links.at in
    let ne = c.loop-links-test.true in
    record {
      in_range = step_in_range links inv.links at inv.in_range ne;
      links = step_links links inv.links at inv.in_range ne;
      roots = λ h e. step_roots links inv.links at inv.in_range ne h (inv.roots h e);
      follow = λ rep fol. step_follow links inv.links at inv.in_range ne rep (inv.follow rep fol);
      same = λ rep fol. step_same links inv.links at inv.in_range ne rep (inv.follow rep fol) ∙ inv.same rep fol;
    }

pub loop-links-smaller : goal.loop-links-smaller
loop-links-smaller c = step_smaller c.loop-links.links c.loop-links.invariant.links c.loop-links.at c.loop-links.invariant.in_range c.loop-links-test.true

pub returns-clause-root : goal.returns-clause-root
returns-clause-root c = λ rep fol.
    let inv = c.loop-links.invariant in
    sym ((inv.follow rep fol).own c.loop-links.at inv.in_range c.loop-links-test.false) ∙ inv.same rep fol
