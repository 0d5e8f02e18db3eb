use Rattle.std.proofs.Common.{arith, ap, sym, ◌≡◌, ◌∙◌, ◌+◌, ◌++◌, ℕ, Bool, true, List, length, take, vec_len}
use Rattle.std.specs.Prelude.{if◌then◌else◌, is_ok}
use Rattle.std.proofs.lemmas.List.{length-take}
use Rattle.hs_edge.specs.MemSink.{SinkState}
use Rattle.hs_edge.specs.Writing.{Writing, written}
use Rattle.hs_edge.proofs.Counted.{rose_by_one}
use Rattle.hs_edge.proofs.mem_sink.MemSinkSink.write.Goals as goal

pub overflow_sub-room : goal.overflow_sub-room
overflow_sub-room c = omega arith

pub invariant_of-self : goal.invariant_of-self
invariant_of-self c = c.self.invariant

pub returns-then-contains-clause-err_writing : goal.returns-then-contains-clause-err_writing
returns-then-contains-clause-err_writing c = ap (λ (s : SinkState). s.writing) c.self.view_is

pub returns-then-contains-clause-cause : goal.returns-then-contains-clause-cause
returns-then-contains-clause-cause c =
    rose_by_one _ c.self.inside.faults _ (ap (λ (s : SinkState). s.faults) c.self.view_is) c.saturating_add-self-inside-then-contains.ensures

pub unwrap-requires : goal.unwrap-requires
unwrap-requires c =
    c.extend_from_slice.ensures.succeeds (omega (arith, length-take c.min-count.result c.args.piece.now))

pub invariant_of-self-2 : goal.invariant_of-self-2
invariant_of-self-2 c =
    let count = c.min-count.result in
    let piece = c.args.piece.now in
    let taken = c.self.inside.taken in
    let added = take count piece in
    let few : length added ≡ _ = length-take count piece in
    let ok : is_ok c.extend_from_slice.result ≡ true = c.extend_from_slice.ensures.succeeds (omega (arith, few)) in
    let long : vec_len c.extend_from_slice.new.self ≡ vec_len taken + length added =
    c.extend_from_slice.ensures.len ∙ ap (λ (b : Bool). if b then vec_len taken + length added else vec_len taken) ok in
    record {
      is_noted = c.extend_from_slice.ensures.items
          ∙ (ap (λ (b : Bool). if b then taken.items ++ added else taken.items) ok
          ∙ (ap (λ (xs : List ℕ). xs ++ added) c.self.invariant.is_noted
          ∙ sym (ap (λ (w : Writing). w.taken) c.note_write.ensures)));
      takes_some = c.self.invariant.takes_some;
      within = omega (arith, long, few);
      has_room = omega (arith, c.extend_from_slice.ensures.capacity);
    }

pub returns-clause-fits : goal.returns-clause-fits
returns-clause-fits c = omega arith

pub returns-clause-ok_writing : goal.returns-clause-ok_writing
returns-clause-ok_writing c =
    c.note_write.ensures ∙ ap (λ (s : SinkState). written c.args.piece.now c.min-count.result s.writing) c.self.view_is

pub returns-clause-ok_faults : goal.returns-clause-ok_faults
returns-clause-ok_faults c = ap (λ (s : SinkState). s.faults) c.self.view_is
