use Rattle.std.proofs.Common.{arith, ◌≡◌, ◌≤◌, ◌++◌, ◌+◌, ℕ, List, length, drop, take, Some, ap, sym, ◌∙◌}
use Rattle.std.proofs.lemmas.Grind.{common_steps}
use Rattle.std.proofs.lemmas.List.{take_rest, take-append-drop}
use Rattle.std.specs.Str.{bytes_eq}
use Rattle.std.specs.String.{string_bytes}
use Rattle.hs_edge.specs.MemSource.{SourceState, faults_of, file_of}
use Rattle.hs_edge.proofs.Counted.{both_rise, not_less}
use Rattle.hs_edge.proofs.mem_source.MemSourceSource.read.Goals as goal

-- the bytes that were left are those at the front of the buffer, and then those that are left now
given : (bytes left behind filled : List ℕ) (place count : ℕ)
    → left ≡ drop place bytes
    → count ≤ length left
    → filled ≡ take count left ++ behind
    → left ≡ take count filled ++ drop (place + count) bytes
given bytes left behind filled place count is fits fill =
    let front : take count filled ≡ take count left = grind (arith, common_steps) in
    let rest : drop (place + count) bytes ≡ drop count left = grind (arith, common_steps) in
    let whole : take count left ++ drop count left ≡ left = take-append-drop count left in
    cc

pub returns-clause-ok_left : goal.returns-clause-ok_left
returns-clause-ok_left c =
    let place = c.self.inside.place in
    let is = take_rest c.deref-2.result.now place ∙ ap (drop place) c.deref-2.ensures.value in
    ap Some (ap (λ s. s.left) (sym c.self.view_is) ∙ sym is
    ∙ given c.self.inside.bytes.items _ _ _ _ _ is
    (omega (arith, c.min-count.ensures))
    c.copy_to_front.ensures)

pub invariant_of-self : goal.invariant_of-self
invariant_of-self c = c.self.invariant

pub returns-then-contains-clause-err_reading : goal.returns-then-contains-clause-err_reading
returns-then-contains-clause-err_reading c = ap (λ (s : SourceState). s.reading) c.self.view_is

pub returns-then-contains-clause-never_falls : goal.returns-then-contains-clause-never_falls
returns-then-contains-clause-never_falls c any =
    let self = c.self.inside in
    not_less _ _ _ (ap (λ (s : SourceState). faults_of s any) c.self.view_is)
    (both_rise (bytes_eq any (string_bytes self.name)) self.own_faults self.other_faults c.saturating_add-self-inside-then-contains.result self.other_faults (omega arith) (omega arith))

pub returns-then-contains-clause-same_files : goal.returns-then-contains-clause-same_files
returns-then-contains-clause-same_files c any = ap (λ (s : SourceState). file_of s any) c.self.view_is

pub returns-clause-ok_faults : goal.returns-clause-ok_faults
returns-clause-ok_faults c any = ap (λ (s : SourceState). faults_of s any) c.self.view_is

pub returns-clause-never_falls : goal.returns-clause-never_falls
returns-clause-never_falls c any = not_less _ _ _ (ap (λ (s : SourceState). faults_of s any) c.self.view_is) (omega arith)

pub returns-clause-same_files : goal.returns-clause-same_files
returns-clause-same_files c any = ap (λ (s : SourceState). file_of s any) c.self.view_is
