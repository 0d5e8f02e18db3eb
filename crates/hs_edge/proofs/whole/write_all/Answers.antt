use Rattle.std.proofs.Common.{arith, ◌≤◌, ◌++◌, ◌∙◌, ap, sym, refl, subst, ℕ, List}
use Rattle.std.proofs.lemmas.List.{append-nil, take_all, take_rest}
use Rattle.hs_edge.specs.Count.{Rose}
use Rattle.hs_edge.specs.Writing.{Writing}
use Rattle.hs_edge.proofs.Noted.{takes_more, aims_more}
use Rattle.hs_edge.proofs.whole.write_all.Goals as goal

pub loop-done-init : goal.loop-done-init
loop-done-init g c =
    let old = g.O.Sink.writing c.args.sink.now in
    record {
      within = omega arith;
      front = sym (append-nil old.taken);
      each = (0, sym (append-nil old.aims));
      same_faults = refl;
    }

pub loop-done-preserved : goal.loop-done-preserved
loop-done-preserved g c =
    let old = g.O.Sink.writing c.args.sink.now in
    let now = g.O.Sink.writing c.loop-done.sink in
    let new = g.O.Sink.writing c.write.new.self in
    let behind = take_rest c.args.bytes.now c.loop-done.done in
    record {
      within = omega (arith, c.in-Ok.ensures.fits);
      front = takes_more old now new _ _ _ _ behind c.loop-done.invariant.front c.in-Ok.ensures.ok_writing;
      each = aims_more old now new _ _ _ _ behind c.loop-done.invariant.front c.in-Ok.ensures.ok_writing c.loop-done.invariant.each;
      same_faults = c.in-Ok.ensures.ok_faults ∙ c.loop-done.invariant.same_faults;
    }

pub loop-done-smaller : goal.loop-done-smaller
loop-done-smaller g c = omega (arith, c.in-Ok.ensures.fits, c.in-Ok.ensures.takes_some)

pub returns-in-Err : goal.returns-in-Err
returns-in-Err g c =
    let e = c.in-Err.ensures in
    let i = c.loop-done.invariant in
    let after = g.O.Sink.faults c.write.new.self in
    record {
      all = tt;
      part = (c.loop-done.done, omega arith, ap (λ (w : Writing). w.taken) e.err_writing ∙ i.front);
      each = (i.each.0, ap (λ (w : Writing). w.aims) e.err_writing ∙ i.each.1);
      cause = subst (λ (n : ℕ). Rose n after) i.same_faults e.cause;
      same_faults = tt;
      never_falls = subst (λ (n : ℕ). n ≤ after) i.same_faults e.never_falls;
    }

pub returns : goal.returns
returns g c =
    let i = c.loop-done.invariant in
    let old = g.O.Sink.writing c.args.sink.now in
    record {
      all = i.front ∙ ap (λ (xs : List ℕ). old.taken ++ xs) (take_all c.loop-done.done c.args.bytes.now c.loop-done-test.false);
      part = tt;
      each = i.each;
      cause = tt;
      same_faults = i.same_faults;
      never_falls = omega (arith, i.same_faults);
    }
