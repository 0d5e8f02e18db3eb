use Rattle.std.proofs.Common.{◌≡◌, sym, ◌∙◌, ap, subst, ℕ, true, List, Bool, [], ◌∷◌, length, length-append, slice_get, Some, inl, inr, arith}
use Rattle.hs_scheme.specs.declared.flow.HeadPair.{HeadPair}
use Rattle.hs_checker.specs.Numbers.{entries_of}
use Rattle.hs_checker.specs.Inert.{AreSilent, IsInert}
use Rattle.hs_checker.proofs.InertLemmas.{marks_push}
use Rattle.hs_checker.proofs.inert.inert_points.Goals as goal

pub loop-point-preserved : goal.loop-point-preserved
loop-point-preserved c =
    let olds = c.loop-point.marks.items in
    let b = c.is_inert.result in
    record {
      long = omega (arith, c.loop-point.invariant.long, ap length c.push_reserved.ensures.items, length-append olds (b ∷ []));
      inert = λ I u h.
          let E = entries_of I c.args.index.now in
          let silent = subst (λ (hs : List HeadPair). AreSilent hs E c.as_slice.result.now) c.requires (subst (λ (ms : List Bool). AreSilent c.args.heads.now E ms) (sym c.as_slice.ensures.value) (c.in_ok-silent.ensures.silent I)) in
          elim (marks_push olds b u (subst (λ (ms : List Bool). slice_get ms u ≡ Some true) c.push_reserved.ensures.items h)) [
            | inl before ↦ c.loop-point.invariant.inert I u before
            | inr own ↦ subst (λ (n : ℕ). IsInert c.args.problem.now E n) (sym (own.0 ∙ c.loop-point.invariant.long)) (c.is_inert.ensures E silent own.1)
          ];
      room = omega (arith, c.push_reserved.ensures.capacity, c.loop-point.invariant.room);
    }

pub push_reserved-requires : goal.push_reserved-requires
push_reserved-requires c = omega (arith, c.loop-point.marks.ok, c.loop-point.invariant.long, c.loop-point.invariant.room, c.loop-point-test.true)
