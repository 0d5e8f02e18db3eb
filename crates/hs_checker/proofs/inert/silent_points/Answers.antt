use Rattle.std.proofs.Common.{◌≡◌, sym, ◌∙◌, ap, subst, ℕ, true, List, Bool, [], ◌∷◌, length, length-append, slice_get, Some, inl, inr, arith}
use Rattle.hs_checker.specs.Inert.{IsSilent}
use Rattle.hs_checker.specs.Numbers.{entries_of}
use Rattle.hs_checker.proofs.InertLemmas.{marks_push}
use Rattle.hs_checker.proofs.inert.silent_points.Goals as goal

pub loop-point-preserved : goal.loop-point-preserved
loop-point-preserved c =
    let olds = c.loop-point.marks.items in
    let b = c.is_silent.result in
    record {
      long = omega (arith, c.loop-point.invariant.long, ap length c.push_reserved.ensures.items, length-append olds (b ∷ []));
      silent = λ I u h. elim (marks_push olds b u (subst (λ (ms : List Bool). slice_get ms u ≡ Some true) c.push_reserved.ensures.items h)) [
        | inl before ↦ c.loop-point.invariant.silent I u before
        | inr own ↦ subst (λ (n : ℕ). IsSilent c.args.heads.now (entries_of I c.args.index.now) n) (sym (own.0 ∙ c.loop-point.invariant.long)) (c.is_silent.ensures own.1 I)
      ];
      room = omega (arith, c.push_reserved.ensures.capacity, c.loop-point.invariant.room);
    }

pub push_reserved-requires : goal.push_reserved-requires
push_reserved-requires c = omega (arith, c.loop-point.marks.ok, c.loop-point.invariant.long, c.loop-point.invariant.room, c.loop-point-test.true)
