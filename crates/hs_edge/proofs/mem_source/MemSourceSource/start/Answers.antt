use Rattle.std.proofs.Common.{arith, ap, sym, ◌∙◌, ℕ, Bool, List, Some, None}
use Rattle.std.specs.Prelude.{if◌then◌else◌}
use Rattle.std.specs.Str.{bytes_eq}
use Rattle.std.specs.String.{string_bytes}
use Rattle.hs_edge.specs.MemSource.{SourceState, faults_of, file_of}
use Rattle.hs_edge.specs.Reading.{Reading, started}
use Rattle.hs_edge.proofs.Counted.{both_rise, not_less, same_name, same_bytes, rose_at, own_rose, next_fails, not_next, failed_own, was_started}
use Rattle.hs_edge.proofs.mem_source.MemSourceSource.start.Goals as goal

pub invariant_of-self : goal.invariant_of-self
invariant_of-self c = c.self.invariant

pub returns-then-ne-clause-err_reading : goal.returns-then-ne-clause-err_reading
returns-then-ne-clause-err_reading c = ap (λ (s : SourceState). s.reading) c.self.view_is

pub returns-then-ne-clause-never_falls : goal.returns-then-ne-clause-never_falls
returns-then-ne-clause-never_falls c any =
    let self = c.self.inside in
    not_less _ _ _ (ap (λ (s : SourceState). faults_of s any) c.self.view_is)
    (both_rise (bytes_eq any (string_bytes self.name)) self.own_faults self.other_faults self.own_faults c.saturating_add-self-inside-then-ne.result (omega arith) (omega arith))

pub returns-then-ne-clause-same_files : goal.returns-then-ne-clause-same_files
returns-then-ne-clause-same_files c any = ap (λ (s : SourceState). file_of s any) c.self.view_is

pub invariant_of-self-then-contains : goal.invariant_of-self-then-contains
invariant_of-self-then-contains c = c.self.invariant

pub returns-then-contains-clause-err_reading : goal.returns-then-contains-clause-err_reading
returns-then-contains-clause-err_reading c = ap (λ (s : SourceState). s.reading) c.self.view_is

pub returns-then-contains-clause-never_falls : goal.returns-then-contains-clause-never_falls
returns-then-contains-clause-never_falls c any =
    let self = c.self.inside in
    not_less _ _ _ (ap (λ (s : SourceState). faults_of s any) c.self.view_is)
    (both_rise (bytes_eq any (string_bytes self.name)) self.own_faults self.other_faults c.saturating_add-self-inside-then-contains.result self.other_faults (omega arith) (omega arith))

pub returns-then-contains-clause-same_files : goal.returns-then-contains-clause-same_files
returns-then-contains-clause-same_files c any = ap (λ (s : SourceState). file_of s any) c.self.view_is

pub returns-then-contains-clause-cause : goal.returns-then-contains-clause-cause
returns-then-contains-clause-cause c =
    let self = c.self.inside in
    let named = same_name c.args.name.now c.as_str.result.now (string_bytes self.name) c.ne.result c.ne.ensures c.as_str.ensures.value c.if-ne.false in
    rose_at _ _ _ (ap (λ (s : SourceState). faults_of s c.args.name.now) c.self.view_is)
    (own_rose (bytes_eq c.args.name.now (string_bytes self.name)) self.own_faults self.other_faults c.saturating_add-self-inside-then-contains.result named c.saturating_add-self-inside-then-contains.ensures)

pub returns-then-contains-clause-more : goal.returns-then-contains-clause-more
returns-then-contains-clause-more c =
    let self = c.self.inside in
    let named = same_name c.args.name.now c.as_str.result.now (string_bytes self.name) c.ne.result c.ne.ensures c.as_str.ensures.value c.if-ne.false in
    rw (← c.self.view_is)
    (failed_own _ c.args.name.now _ c.saturating_add-self-inside.result c.saturating_add-self-inside-then-contains.result (same_bytes _ _ named) c.saturating_add-self-inside.ensures c.saturating_add-self-inside-then-contains.ensures
    (next_fails self.failing.items c.deref.result.now self.calls c.saturating_add-self-inside.result c.deref.ensures.value c.saturating_add-self-inside.ensures c.if-contains.ensures.cases))

pub invariant_of-self-2 : goal.invariant_of-self-2
invariant_of-self-2 c =
    let self = c.self.inside in
    let named = same_name c.args.name.now c.as_str.result.now (string_bytes self.name) c.ne.result c.ne.ensures c.as_str.ensures.value c.if-ne.false in
    record {
      gives_some = c.self.invariant.gives_some;
      within = omega arith;
      is_noted = ap (λ (r : Reading). r.begun) c.note_start.ensures ∙ ap (λ (xs : List ℕ). Some xs) (same_bytes _ _ named);
      not_begun = λ e. absurd (cc);
    }

pub returns-clause-more : goal.returns-clause-more
returns-clause-more c =
    let self = c.self.inside in
    let named = same_name c.args.name.now c.as_str.result.now (string_bytes self.name) c.ne.result c.ne.ensures c.as_str.ensures.value c.if-ne.false in
    rw (← c.self.view_is)
    (was_started _ c.args.name.now c.saturating_add-self-inside.result c.note_start.new.self (same_bytes _ _ named) c.saturating_add-self-inside.ensures c.note_start.ensures
    (not_next self.failing.items c.deref.result.now self.calls c.saturating_add-self-inside.result c.deref.ensures.value c.saturating_add-self-inside.ensures c.if-contains.ensures.cases))

pub returns-clause-ok_left : goal.returns-clause-ok_left
returns-clause-ok_left c =
    let self = c.self.inside in
    let named = same_name c.args.name.now c.as_str.result.now (string_bytes self.name) c.ne.result c.ne.ensures c.as_str.ensures.value c.if-ne.false in
    sym (ap (λ (b : Bool). if b then Some self.bytes.items else None) named)
    ∙ ap (λ (s : SourceState). file_of s c.args.name.now) c.self.view_is

pub returns-clause-ok_reading : goal.returns-clause-ok_reading
returns-clause-ok_reading c = c.note_start.ensures ∙ ap (λ (s : SourceState). started c.args.name.now s.reading) c.self.view_is

pub returns-clause-ok_faults : goal.returns-clause-ok_faults
returns-clause-ok_faults c any = ap (λ (s : SourceState). faults_of s any) c.self.view_is

pub returns-clause-never_falls : goal.returns-clause-never_falls
returns-clause-never_falls c any = not_less _ _ _ (ap (λ (s : SourceState). faults_of s any) c.self.view_is) (omega arith)

pub returns-clause-same_files : goal.returns-clause-same_files
returns-clause-same_files c any = ap (λ (s : SourceState). file_of s any) c.self.view_is
