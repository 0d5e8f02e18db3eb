use Rattle.std.proofs.Common.{◌≡◌, refl, sym, ◌∙◌, ap, subst, ℕ, ◌+◌, ◌≤◌, ◌<◌, List, [], ◌∷◌, ◌++◌, length, length-append, append_assoc, get_or, take, All, IsErrOf, arith}
use Rattle.std.proofs.lemmas.Result.{err_from_is_err_and}
use Rattle.std.proofs.lemmas.List.{take_all, take-append-le, length_push, length-map, length-set, append-nil}
use Rattle.std.proofs.lemmas.List.Elements.{All-cons, All-append, All-set}
use Rattle.std.specs.List.{slice_range}
use Rattle.hs_scheme.specs.declared.term.Head.{Head}
use Rattle.hs_scheme.specs.declared.points.Row.{Row}
use Rattle.hs_scheme.specs.declared.points.PointsFault.TheVariants.{TooMany}
use Rattle.hs_scheme.specs.Tree.{Tree, node, forest}
use Rattle.hs_scheme.specs.flow.Points.{PointData, size, sizes, numbers, term_points, terms_points}
use Rattle.hs_scheme.specs.flow.Rows.{point_of, points_in, places_in, Fits, terms_places}
use Rattle.hs_scheme.proofs.PointLemmas.{row_more, row_length, numbers_more, row_many, point_at, term_done, at_least_one}
use Rattle.hs_scheme.proofs.RowLemmas.{all_grown, places_more, first_pushed, place_pushed, ranged_points, ranged_places, term_placed, length-numbers, last_range}
use Rattle.hs_scheme.proofs.Exits.{on_ok_err}
use Rattle.hs_scheme.proofs.points.+add_term.Goals as goal

fit_pushed : (args : List ℕ) (rows new : List Row) (row : Row) → new ≡ rows ++ row ∷ [] → All (Fits args) rows → Fits args row → All (Fits args) new
fit_pushed args rows new row e fit it = subst (All (Fits args)) (sym e) (All-append (Fits args) rows (row ∷ []) fit (All-cons (Fits args) row [] it (λ k d l. absurd (omega arith))))

longer : (rows new : List Row) (row : Row) → new ≡ rows ++ row ∷ [] → length new ≡ length rows + 1
longer rows new row e = ap length e ∙ length_push rows row

as_many : (args : List ℕ) (rows : List Row) → length (points_in args rows) ≡ length rows
as_many args rows = length-map rows (point_of args)

one_more : (args : List ℕ) (rows new : List Row) (row : Row) (n : ℕ) → n ≡ length rows → new ≡ rows ++ row ∷ [] → length (points_in args new) ≡ n + 1
one_more args rows new row n long e = as_many args new ∙ (ap length e ∙ (length_push rows row ∙ omega arith))

-- the first of the rows behind the old ones is among the later ones
stands : (rule : ℕ) (args : List ℕ) (rows new : List Row) (later_args : List ℕ) (later : List Row) (row : Row) (added : List PointData) → new ≡ rows ++ row ∷ [] → points_in later_args later ≡ points_in args new ++ added
    → {n : ℕ} → n ≡ length rows → n < length later
stands rule args rows new later_args later row added e f long =
    omega (arith, longer rows new row e, as_many args new, as_many later_args later, ap length f, length-append (points_in args new) added)

-- one more argument is pending
pending_more : (rule n i : ℕ) (before so_far : List PointData) (us : List (Tree Head)) (u : Tree Head) → i < length us → u ≡ get_or us i u → length before ≡ n
    → so_far ≡ before ++ terms_points rule n (forest (take i us)) → (old pending new : List ℕ) → pending ≡ old ++ numbers n (forest (take i us)) → new ≡ pending ++ length so_far ∷ []
    → new ≡ old ++ numbers n (forest (take (i + 1) us))
pending_more rule n i before so_far us u lt is long row old pending new was e =
    e ∙ (ap (λ (xs : List ℕ). xs ++ length so_far ∷ []) was
    ∙ (append_assoc old (numbers n (forest (take i us))) (length so_far ∷ [])
    ∙ ap (λ (xs : List ℕ). old ++ xs) (numbers_more rule n i before so_far us u lt is long row (numbers n (forest (take i us))) (numbers n (forest (take i us)) ++ length so_far ∷ []) refl refl)))

-- the own arguments of the term, of which the loop took all
own_arguments : (n i : ℕ) (us : List (Tree Head)) (old pending seen : List ℕ) (start : ℕ) → length us ≤ i → pending ≡ old ++ numbers n (forest (take i us)) → start ≡ length old → seen ≡ pending
    → slice_range seen start (length seen) ≡ numbers n (forest us)
own_arguments n i us old pending seen start all is at same =
    let whole : seen ≡ old ++ numbers n (forest us) = same ∙ (is ∙ ap (λ (vs : List (Tree Head)). old ++ numbers n (forest vs)) (take_all i us all)) in
    (λ j. slice_range (whole j) start (length (whole j))) ∙ last_range old (numbers n (forest us)) start (length (old ++ numbers n (forest us))) at (length-append old (numbers n (forest us)))

pub returns-then-len-ge-MAX_POINTS : goal.returns-then-len-ge-MAX_POINTS
returns-then-len-ge-MAX_POINTS t c = record { added = tt; places = tt; pending = tt; ranges = tt; few = tt; args = tt; many = λ h. omega (arith, at_least_one c.args.term.now) }

pub returns-in_err-push : goal.returns-in_err-push
returns-in_err-push t c =
    let p = err_from_is_err_and c.from_residual.result c.from_residual.ensures.1 in
    rw p.1 (record { added = tt; places = tt; pending = tt; ranges = tt; few = tt; args = tt; many = λ h. absurd (cc (p.2, h)) })

pub loop-place-init : goal.loop-place-init
loop-place-init t c = record {
  points = sym (append-nil (points_in c.args.rows.now.args.items c.push.new.self.items));
  places = sym (append-nil (places_in c.push.new.self.items));
  args = sym (append-nil c.args.pending.now.items);
  ranges = fit_pushed c.args.rows.now.args.items c.args.rows.now.points.items c.push.new.self.items _ c.in_ok-push.ensures.items c.requires.ranges (record { up = omega arith; within = omega arith });
  few = omega (arith, longer c.args.rows.now.points.items c.push.new.self.items _ c.in_ok-push.ensures.items);
  room = omega (arith, longer c.args.rows.now.points.items c.push.new.self.items _ c.in_ok-push.ensures.items, c.requires.args);
}

pub overflow_cast-len : goal.overflow_cast-len
overflow_cast-len t c = omega (arith, c.loop-place.invariant.few)

pub overflow_cast-argument : goal.overflow_cast-argument
overflow_cast-argument t c = omega arith

pub overflow_cast-argument-in-loop-place : goal.overflow_cast-argument-in-loop-place
overflow_cast-argument-in-loop-place t c = omega (arith, c.loop-place.invariant.room, c.loop-place.invariant.few, c.requires.args)

pub returns-in_err-push-2 : goal.returns-in_err-push-2
returns-in_err-push-2 t c =
    let p = err_from_is_err_and c.from_residual-in_err-push-2.result c.from_residual-in_err-push-2.ensures.1 in
    rw p.1 (record { added = tt; places = tt; pending = tt; ranges = tt; few = tt; args = tt; many = λ h. absurd (cc (p.2, h)) })

pub returns-in_err-extend_from_slice : goal.returns-in_err-extend_from_slice
returns-in_err-extend_from_slice t c =
    let p = err_from_is_err_and c.from_residual-in_err-extend_from_slice.result c.from_residual-in_err-extend_from_slice.ensures.1 in
    rw p.1 (record { added = tt; places = tt; pending = tt; ranges = tt; few = tt; args = tt; many = λ h. absurd (cc (p.2, h)) })

pub overflow_cast-from : goal.overflow_cast-from
overflow_cast-from t c = omega (arith, c.loop-place.invariant.room, c.loop-place.invariant.few, c.requires.args)

pub index_mut-row-requires : goal.index_mut-row-requires
index_mut-row-requires t c =
    let within : c.len-number.result < length c.loop-place.rows.points.items = stands c.args.rule c.args.rows.now.args.items c.args.rows.now.points.items c.push.new.self.items c.loop-place.rows.args.items c.loop-place.rows.points.items _ _ c.in_ok-push.ensures.items c.loop-place.invariant.points (omega arith) in
    omega arith

pub returns-clause-pending : goal.returns-clause-pending
returns-clause-pending t c =
    let old = c.args.pending.now.items in
    let us = forest (take c.loop-place.place c.deref-arg-items.result.now) in
    let long : length old ≤ c.len-start.result = omega arith in
    c.truncate.ensures.items ∙ (ap (take c.len-start.result) c.loop-place.invariant.args
    ∙ (take-append-le c.len-start.result old (numbers (c.len-number.result + 1) us) (omega arith) ∙ take_all c.len-start.result old long))

pub returns-clause-ranges : goal.returns-clause-ranges
returns-clause-ranges t c =
    let us = c.deref-arg-items.result.now in
    let rows = c.loop-place.rows.points.items in
    let args = c.loop-place.rows.args.items in
    let own = numbers (c.len-number.result + 1) (forest us) in
    let grown : c.extend_from_slice.new.self.items ≡ args ++ own =
    c.in_ok-extend_from_slice.ensures.items ∙ ap (λ (xs : List ℕ). args ++ xs)
    (own_arguments (c.len-number.result + 1) c.loop-place.place us c.args.pending.now.items c.loop-place.pending.items c.deref.result.now c.len-start.result c.loop-place-test.false c.loop-place.invariant.args (omega arith) c.deref.ensures.value) in
    All-set (Fits c.extend_from_slice.new.self.items) rows c.len-number.result _ (record { up = omega (arith, length-append args own, ap length grown); within = omega arith })
    (subst (λ (xs : List ℕ). All (Fits xs) rows) (sym grown) (all_grown args own rows c.loop-place.invariant.ranges))

pub returns-clause-few : goal.returns-clause-few
returns-clause-few t c = omega (arith, length-set {A = Row}, c.loop-place.invariant.few)

pub returns-clause-many : goal.returns-clause-many
returns-clause-many t c = λ h. absurd (cc h)

pub returns-in_err-add_term : goal.returns-in_err-add_term
returns-in_err-add_term t c =
    let p = err_from_is_err_and c.from_residual-in_err-add_term.result c.from_residual-in_err-add_term.ensures.1 in
    let us = c.deref-arg-items.result.now in
    let args = c.args.rows.now.args.items in
    let long : length (points_in args c.push.new.self.items) ≡ c.len-number.result + 1 = one_more args c.args.rows.now.points.items c.push.new.self.items _ c.len-number.result (omega arith) c.in_ok-push.ensures.items in
    let many : IsErrOf c.from_residual-in_err-add_term.result TooMany → 500000 < length c.args.rows.now.points.items + size c.args.term.now =
    λ h. subst (λ (n : ℕ). 500000 < n + size c.args.term.now) (as_many args c.args.rows.now.points.items)
    (row_many c.args.rule (c.len-number.result + 1) c.loop-place.place (points_in args c.push.new.self.items) (points_in c.loop-place.rows.args.items c.loop-place.rows.points.items) us c.arg-item.result
    c.loop-place-test.true c.arg-item.is long c.loop-place.invariant.points 500000 (points_in args c.args.rows.now.points.items) c.term.inside.head c.args.term.now
    (omega (arith, as_many args c.args.rows.now.points.items)) (ap (λ vs. node c.term.inside.head (forest vs)) c.deref-arg-items.ensures.value ∙ c.term.view_is)
    (subst (λ (n : ℕ). 500000 < n + size c.arg-item.result) (sym (as_many c.loop-place.rows.args.items c.loop-place.rows.points.items)) (c.in_err-add_term.ensures.many (cc (p.1, p.2, h))))) in
    record { added = on_ok_err _ p.1; places = on_ok_err _ p.1; pending = on_ok_err _ p.1; ranges = on_ok_err _ p.1; few = on_ok_err _ p.1; args = on_ok_err _ p.1; many = many }

pub loop-place-preserved : goal.loop-place-preserved
loop-place-preserved t c =
    let us = c.deref-arg-items.result.now in
    let args = c.args.rows.now.args.items in
    let rows = c.loop-place.rows.points.items in
    let points = points_in c.loop-place.rows.args.items rows in
    let count : length points ≡ length rows = as_many c.loop-place.rows.args.items rows in
    let long : length (points_in args c.push.new.self.items) ≡ c.len-number.result + 1 = one_more args c.args.rows.now.points.items c.push.new.self.items _ c.len-number.result (omega arith) c.in_ok-push.ensures.items in
    let so_long : length rows ≡ c.len-number.result + 1 + sizes (forest (take c.loop-place.place us)) =
    sym count ∙ row_length c.args.rule (c.len-number.result + 1) c.loop-place.place (points_in args c.push.new.self.items) points us c.arg-item.result c.loop-place-test.true c.arg-item.is long c.loop-place.invariant.points in
    record {
      points = row_more c.args.rule (c.len-number.result + 1) c.loop-place.place (points_in args c.push.new.self.items) points us c.arg-item.result c.loop-place-test.true c.arg-item.is long c.loop-place.invariant.points
          (points_in c.add_term.new.rows.args.items c.add_term.new.rows.points.items) (c.in_ok-add_term.ensures.added ∙ ap (λ n. points ++ term_points c.args.rule n c.arg-item.result) (sym count));
      places = places_more c.len-number.result (c.len-number.result + 1) c.loop-place.place (length rows) (places_in c.push.new.self.items) (places_in rows) us c.arg-item.result c.loop-place-test.true c.arg-item.is so_long
          c.loop-place.invariant.places (places_in c.add_term.new.rows.points.items) c.in_ok-add_term.ensures.places;
      args = pending_more c.args.rule (c.len-number.result + 1) c.loop-place.place (points_in args c.push.new.self.items) points us c.arg-item.result c.loop-place-test.true c.arg-item.is long c.loop-place.invariant.points
          c.args.pending.now.items c.loop-place.pending.items c.add_term.new.pending.items c.loop-place.invariant.args
          (c.in_ok-add_term.ensures.pending ∙ (c.in_ok-push-2.ensures.items ∙ ap (λ n. c.loop-place.pending.items ++ n ∷ []) (omega (arith, count))));
      ranges = c.in_ok-add_term.ensures.ranges;
      few = c.in_ok-add_term.ensures.few;
      room = omega (arith, c.in_ok-add_term.ensures.args, c.loop-place.invariant.room);
    }

pub overflow_cast-to : goal.overflow_cast-to
overflow_cast-to t c =
    let us = c.deref-arg-items.result.now in
    let grown : c.extend_from_slice.new.self.items ≡ c.loop-place.rows.args.items ++ numbers (c.len-number.result + 1) (forest us) =
    c.in_ok-extend_from_slice.ensures.items ∙ ap (λ (xs : List ℕ). c.loop-place.rows.args.items ++ xs)
    (own_arguments (c.len-number.result + 1) c.loop-place.place us c.args.pending.now.items c.loop-place.pending.items c.deref.result.now c.len-start.result c.loop-place-test.false c.loop-place.invariant.args (omega arith) c.deref.ensures.value) in
    let more : length c.push.new.self.items ≡ length c.args.rows.now.points.items + 1 = longer c.args.rows.now.points.items c.push.new.self.items _ c.in_ok-push.ensures.items in
    omega (
      arith,
      length-numbers (c.len-number.result + 1) us,
      length-append c.loop-place.rows.args.items (numbers (c.len-number.result + 1) (forest us)),
      ap length grown,
      c.loop-place.invariant.room,
    )

pub returns-clause-added : goal.returns-clause-added
returns-clause-added t c =
    let us = c.deref-arg-items.result.now in
    let args = c.args.rows.now.args.items in
    let old = points_in args c.args.rows.now.points.items in
    let q = points_in args c.push.new.self.items in
    let rows = c.loop-place.rows.points.items in
    let p = points_in c.loop-place.rows.args.items rows in
    let first : PointData = record { rule = c.args.rule; head = c.term.inside.head; args = [] } in
    let pushed : q ≡ old ++ first ∷ [] = first_pushed args c.args.rows.now.points.items c.push.new.self.items _ c.in_ok-push.ensures.items in
    let long : length old ≡ c.len-number.result = as_many args c.args.rows.now.points.items ∙ omega arith in
    let row : p ≡ q ++ terms_points c.args.rule (c.len-number.result + 1) (forest us) =
    c.loop-place.invariant.points ∙ ap (λ vs. q ++ terms_points c.args.rule (c.len-number.result + 1) (forest vs)) (take_all c.loop-place.place us c.loop-place-test.false) in
    let grown : c.extend_from_slice.new.self.items ≡ c.loop-place.rows.args.items ++ numbers (c.len-number.result + 1) (forest us) =
    c.in_ok-extend_from_slice.ensures.items ∙ ap (λ (xs : List ℕ). c.loop-place.rows.args.items ++ xs)
    (own_arguments (c.len-number.result + 1) c.loop-place.place us c.args.pending.now.items c.loop-place.pending.items c.deref.result.now c.len-start.result c.loop-place-test.false c.loop-place.invariant.args (omega arith) c.deref.ensures.value) in
    let within : c.len-number.result < length rows = stands c.args.rule c.args.rows.now.args.items c.args.rows.now.points.items c.push.new.self.items c.loop-place.rows.args.items rows _ _ c.in_ok-push.ensures.items c.loop-place.invariant.points (omega arith) in
    ranged_points c.loop-place.rows.args.items c.extend_from_slice.new.self.items (numbers (c.len-number.result + 1) (forest us)) rows c.len-number.result c.index_mut-row.result.now within c.index_mut-row.ensures.value
    c.loop-place.invariant.ranges grown c.len-from.result c.len-to.result (omega arith)
    (omega (arith, length-append c.loop-place.rows.args.items (numbers (c.len-number.result + 1) (forest us)), ap length grown)) first
    (point_at c.len-number.result old q p _ first _ long pushed row)
    ∙ (term_done c.args.rule c.len-number.result old q p first (record { rule = c.args.rule; head = c.term.inside.head; args = numbers (c.len-number.result + 1) (forest us) }) c.term.inside.head us c.args.term.now long
    (ap (λ vs. node c.term.inside.head (forest vs)) c.deref-arg-items.ensures.value ∙ c.term.view_is) pushed row refl
    ∙ ap (λ n. old ++ term_points c.args.rule n c.args.term.now) (as_many args c.args.rows.now.points.items))

pub returns-clause-places : goal.returns-clause-places
returns-clause-places t c =
    let us = c.deref-arg-items.result.now in
    let rows = c.loop-place.rows.points.items in
    let grown : c.extend_from_slice.new.self.items ≡ c.loop-place.rows.args.items ++ numbers (c.len-number.result + 1) (forest us) =
    c.in_ok-extend_from_slice.ensures.items ∙ ap (λ (xs : List ℕ). c.loop-place.rows.args.items ++ xs)
    (own_arguments (c.len-number.result + 1) c.loop-place.place us c.args.pending.now.items c.loop-place.pending.items c.deref.result.now c.len-start.result c.loop-place-test.false c.loop-place.invariant.args (omega arith) c.deref.ensures.value) in
    let within : c.len-number.result < length rows = stands c.args.rule c.args.rows.now.args.items c.args.rows.now.points.items c.push.new.self.items c.loop-place.rows.args.items rows _ _ c.in_ok-push.ensures.items c.loop-place.invariant.points (omega arith) in
    ranged_places c.loop-place.rows.args.items c.extend_from_slice.new.self.items (numbers (c.len-number.result + 1) (forest us)) rows c.len-number.result c.index_mut-row.result.now within c.index_mut-row.ensures.value
    c.loop-place.invariant.ranges grown c.len-from.result c.len-to.result (omega arith) (omega (arith, length-append c.loop-place.rows.args.items (numbers (c.len-number.result + 1) (forest us)), ap length grown))
    ∙ term_placed c.args.argument c.len-number.result (places_in c.args.rows.now.points.items) (places_in c.push.new.self.items) (places_in rows) c.term.inside.head us c.args.term.now
    (length c.args.rows.now.points.items) (omega arith) (ap (λ vs. node c.term.inside.head (forest vs)) c.deref-arg-items.ensures.value ∙ c.term.view_is)
    (place_pushed c.args.rows.now.points.items c.push.new.self.items _ c.in_ok-push.ensures.items)
    (c.loop-place.invariant.places ∙ ap (λ vs. places_in c.push.new.self.items ++ terms_places c.len-number.result 0 (c.len-number.result + 1) (forest vs)) (take_all c.loop-place.place us c.loop-place-test.false))

pub returns-clause-args : goal.returns-clause-args
returns-clause-args t c =
    let us = c.deref-arg-items.result.now in
    let grown : c.extend_from_slice.new.self.items ≡ c.loop-place.rows.args.items ++ numbers (c.len-number.result + 1) (forest us) =
    c.in_ok-extend_from_slice.ensures.items ∙ ap (λ (xs : List ℕ). c.loop-place.rows.args.items ++ xs)
    (own_arguments (c.len-number.result + 1) c.loop-place.place us c.args.pending.now.items c.loop-place.pending.items c.deref.result.now c.len-start.result c.loop-place-test.false c.loop-place.invariant.args (omega arith) c.deref.ensures.value) in
    let more : length c.push.new.self.items ≡ length c.args.rows.now.points.items + 1 = longer c.args.rows.now.points.items c.push.new.self.items _ c.in_ok-push.ensures.items in
    omega (
      arith,
      length-set {A = Row},
      length-numbers (c.len-number.result + 1) us,
      length-append c.loop-place.rows.args.items (numbers (c.len-number.result + 1) (forest us)),
      ap length grown,
      c.loop-place.invariant.room,
    )
