use Rattle.std.proofs.Common.{◌≡◌, refl, sym, subst, ap, ◌∙◌, ℕ, ◌<◌, ◌≤◌, length, Contains, Some, slice_get, arith}
use Rattle.hs_rules.specs.Conclusions.{DeducedData}
use Rattle.hs_history.specs.Story.{Base}
use Rattle.hs_types.specs.Interned.{IsRow, entry_of}
use Rattle.hs_core.specs.Core.{CoreData, deduction_of, state_of, log_of}
use Rattle.hs_core.specs.Answers.{AddsOrPasses}
use Rattle.hs_core.specs.Inside.{Fields, IsInside}
use Rattle.hs_core.proofs.Slots.{not_some}
use Rattle.hs_core.proofs.Stepping.{base_of, fields_of, seen, seen_kept, some_kept, absent_seen, full_seen, passes_again, value_of}
use Rattle.hs_core.proofs.state.Core.publish.Goals as goal

room_seen : (base : Base) (f : Fields) (inside : IsInside base f) (spare : ℕ) (v : CoreData) → value_of base f spare ≡ v → (n : ℕ) → n ≡ length f.log → n < base.budget → length (log_of v) < v.base.budget
room_seen base f inside spare v is n long room = omega (arith, long, room, ap (λ xs. length xs) (seen base f inside spare v is).log, ap (λ (w : CoreData). w.base.budget) is)

pub find-requires : goal.find-requires
find-requires c =
    subst (λ (d : DeducedData). IsRow c.self.inside.replica.ids d.row) (sym c.deduced.view_is) (subst (λ (v : CoreData). IsRow v.ids c.args.deduced.row) (sym c.self.view_is) c.requires.row)

pub returns-in-Some : goal.returns-in-Some
returns-in-Some c =
    let a = c.self.inside in (
      ap (λ xs. slice_get xs c.in-Some.place) (seen (base_of a) (fields_of a) c.self.invariant.0 a.spare c.args.self.now c.self.view_is).log
          ∙ c.in-Some.ensures.found
          ∙ (λ i. Some (entry_of (c.self.view_is i).ids (c.deduced.view_is i).row)),
      refl,
    )

pub append-place-requires-clause-row : goal.append-place-requires-clause-row
append-place-requires-clause-row c = c.requires.row

pub append-place-requires-clause-can : goal.append-place-requires-clause-can
append-place-requires-clause-can c =
    let a = c.self.inside in
    let v = c.args.self.now in
    let absent = subst (λ (d : DeducedData). Contains a.replica.log (entry_of a.replica.ids d.row) → ⊥) c.deduced.view_is c.in_default.ensures.absent in
    record {
      holds = c.requires.holds;
      is_new = record { new = absent_seen (base_of a) (fields_of a) c.self.invariant.0 a.spare v c.self.view_is c.args.deduced absent; follows = c.requires.follows };
      room = room_seen (base_of a) (fields_of a) c.self.invariant.0 a.spare v c.self.view_is c.len.result c.len.ensures.len c.if-len-self.true;
    }

pub append-place-requires-clause-spare : goal.append-place-requires-clause-spare
append-place-requires-clause-spare c = c.requires.spare

pub returns-then-len-self : goal.returns-then-len-self
returns-then-len-self c =
    let a = c.self.inside in
    let v = c.args.self.now in
    let absent = subst (λ (d : DeducedData). Contains a.replica.log (entry_of a.replica.ids d.row) → ⊥) c.deduced.view_is c.in_default.ensures.absent in (
      absent_seen (base_of a) (fields_of a) c.self.invariant.0 a.spare v c.self.view_is c.args.deduced absent,
      room_seen (base_of a) (fields_of a) c.self.invariant.0 a.spare v c.self.view_is c.len.result c.len.ensures.len c.if-len-self.true,
      c.append-place.ensures.place,
      c.append-place.ensures.stepped,
    )

pub keep-requires-clause-row : goal.keep-requires-clause-row
keep-requires-clause-row c = c.requires.row

pub keep-requires-clause-spare : goal.keep-requires-clause-spare
keep-requires-clause-spare c = c.requires.spare

pub keep-requires-clause-can : goal.keep-requires-clause-can
keep-requires-clause-can c =
    let a = c.self.inside in
    let v = c.args.self.now in
    let absent = subst (λ (d : DeducedData). Contains a.replica.log (entry_of a.replica.ids d.row) → ⊥) c.deduced.view_is c.in_default.ensures.absent in
    record {
      holds = c.requires.holds;
      is_new = record { new = absent_seen (base_of a) (fields_of a) c.self.invariant.0 a.spare v c.self.view_is c.args.deduced absent; follows = c.requires.follows };
      full = full_seen (base_of a) (fields_of a) c.self.invariant.0 a.spare v c.self.view_is (subst (λ n. a.budget ≤ n) c.len.ensures.len c.if-len-self.false);
      none_kept = seen_kept (base_of a) (fields_of a) c.self.invariant.0 a.spare v c.self.view_is (not_some a.past c.if-is_none.ensures);
    }

pub returns-then-is_none : goal.returns-then-is_none
returns-then-is_none c =
    let a = c.self.inside in
    let v = c.args.self.now in
    let absent = subst (λ (d : DeducedData). Contains a.replica.log (entry_of a.replica.ids d.row) → ⊥) c.deduced.view_is c.in_default.ensures.absent in (
      absent_seen (base_of a) (fields_of a) c.self.invariant.0 a.spare v c.self.view_is c.args.deduced absent,
      full_seen (base_of a) (fields_of a) c.self.invariant.0 a.spare v c.self.view_is (subst (λ n. a.budget ≤ n) c.len.ensures.len c.if-len-self.false),
      subst (λ k. AddsOrPasses v c.args.worker c.args.ticket (deduction_of v.ids c.args.deduced) c.keep.new.self k) (sym (seen_kept (base_of a) (fields_of a) c.self.invariant.0 a.spare v c.self.view_is (not_some a.past c.if-is_none.ensures))) c.keep.ensures,
    )

pub returns-else-is_none : goal.returns-else-is_none
returns-else-is_none c =
    let a = c.self.inside in
    let v = c.args.self.now in
    let absent = subst (λ (d : DeducedData). Contains a.replica.log (entry_of a.replica.ids d.row) → ⊥) c.deduced.view_is c.in_default.ensures.absent in (
      absent_seen (base_of a) (fields_of a) c.self.invariant.0 a.spare v c.self.view_is c.args.deduced absent,
      full_seen (base_of a) (fields_of a) c.self.invariant.0 a.spare v c.self.view_is (subst (λ n. a.budget ≤ n) c.len.ensures.len c.if-len-self.false),
      passes_again v c.args.worker c.args.ticket (deduction_of v.ids c.args.deduced) (state_of v).kept (some_kept (base_of a) (fields_of a) c.self.invariant.0 a.spare v c.self.view_is c.if-is_none.ensures),
    )
