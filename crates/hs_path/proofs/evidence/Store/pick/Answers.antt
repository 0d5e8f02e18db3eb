use Rattle.std.proofs.Common.{sym, subst as along, length, ℕ, ◌+◌, ◌<◌, map, drop}
use Rattle.hs_types.specs.Interned.{type_of_id}
use Rattle.hs_verdict.specs.Evidence.{Evidence}
use Rattle.hs_path.specs.declared.evidence.Span.{Span}
use Rattle.hs_path.specs.Stored.{Stands}
use Rattle.hs_path.proofs.StoredLemmas.{Left, types_equal, types_differ, left_first, left_found, left_more, left_none, left_end}
use Rattle.hs_path.proofs.evidence.Store.pick.Goals as goal
use Rattle.hs_path.proofs.evidence.Store.pick.Goals.{then-left, else-left}

pub loop-other-init : goal.loop-other-init
loop-other-init c = λ bound below p h.
    left_first bound c.args.self.now below (type_of_id c.args.interner.now) c.args.types.now (type_of_id c.args.interner.now c.args.ty) p c.args.pack.from c.args.pack.to h

pub returns-then-eq : goal.returns-then-eq
returns-then-eq c = λ bound below p nothing some h.
    let I = c.args.interner.now in
    let at = c.loop-other in
    let l = at.invariant bound below p h in
    let other_in : c.other-item.result < length I.types = along (λ (k : ℕ). k < length I.types) (sym c.other-item.is) (c.requires.types at.other-index c.other-item.result c.loop-other-test.true) in
    let e = left_found bound c.args.self.now below (type_of_id I) c.args.types.now (type_of_id I c.args.ty) p at.left.from at.left.to at.other-index c.other-item.result c.loop-other-test.true c.other-item.is l
    (types_equal I c.know_numbers.ensures c.args.ty c.other-item.result c.requires.ty other_in c.if-eq.ensures) in
    along (λ (x : Evidence). (c.first.result < below) × Stands bound c.args.self.now c.first.result x) (sym e) (c.first.ensures bound below l.rest nothing some l.members)

pub loop-other-preserved : goal.loop-other-preserved
loop-other-preserved c = λ bound below p h.
    let I = c.args.interner.now in
    let at = c.loop-other in
    let l = at.invariant bound below p h in
    let other_in : c.other-item.result < length I.types = along (λ (k : ℕ). k < length I.types) (sym c.other-item.is) (c.requires.types at.other-index c.other-item.result c.loop-other-test.true) in
    let e = types_differ I c.know_numbers.ensures c.args.ty c.other-item.result c.requires.ty other_in c.if-eq.ensures in
    let f = type_of_id I in
    let ids = c.args.types.now in
    let a = type_of_id I c.args.ty in
    let To : Span → Type 0 = λ span. Left bound c.args.self.now below span.from span.to (map f ids) (map f (drop (at.other-index + 1) ids)) a p in
    elim c.if-left.branch [
      | then-left w ↦ along To (sym w.left-is)
          (left_more bound c.args.self.now below f ids a p at.left.from at.left.to at.other-index c.other-item.result c.loop-other-test.true c.other-item.is l e w.if-left.true)
      | else-left w ↦ along To (sym w.left-is)
          (left_none bound c.args.self.now below f ids a p at.left.from at.left.to at.other-index c.other-item.result c.loop-other-test.true c.other-item.is l e w.if-left.false)
    ]

pub returns : goal.returns
returns c = λ bound below p nothing some h.
    let I = c.args.interner.now in
    let at = c.loop-other in
    let e = left_end bound c.args.self.now below (type_of_id I) c.args.types.now (type_of_id I c.args.ty) p at.left.from at.left.to at.other-index c.loop-other-test.false (at.invariant bound below p h) in
    (some, along (λ (x : Evidence). Stands bound c.args.self.now 0 x) (sym e) nothing)
