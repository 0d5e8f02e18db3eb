-- The bytes of a file have one scheme.
use Rattle.std.proofs.Common.{◌≡◌, ◌∙◌, refl, sym, ap, List, ℕ, Result, Ok, Err}
use Rattle.hs_scheme.specs.sorting.Unsorted.{UnsortedData}
use Rattle.hs_reader.specs.Raw.{File}
use Rattle.hs_reader.specs.Faults.{IsFileWithin}
use Rattle.hs_reader.specs.declared.fault.ReadFault.{ReadFault}
use Rattle.hs_reader.proofs.Exact.{one_answer_is}
use Rattle.hs_resolve.specs.Numbering.{unsorted_of}
use Rattle.hs_resolve.specs.Answer.{IsFaultless}
use Rattle.hs_front.specs.Files.{IsSchemeOf}

file_in : File → Result File ReadFault → File
file_in f (Ok g) = g
file_in f (Err e) = f

pub scheme_is : (bytes : List ℕ) (file : File) → IsFileWithin bytes file → IsFaultless file → IsSchemeOf bytes (unsorted_of file)
scheme_is bytes file reads faultless = record {
  of = record { tokens = reads.tokens; lexes = reads.lexes; file = file; is_file = reads.is_file; faultless = faultless; is = refl };
  within = reads.within;
}

-- the file of a scheme is one within the limits
pub reads_of : (bytes : List ℕ) (u : UnsortedData) (s : IsSchemeOf bytes u) → IsFileWithin bytes s.of.file
reads_of bytes u s = record { tokens = s.of.tokens; lexes = s.of.lexes; is_file = s.of.is_file; within = s.within }

pub one_scheme : (bytes : List ℕ) (u v : UnsortedData) → IsSchemeOf bytes u → IsSchemeOf bytes v → u ≡ v
unfolding file_in
one_scheme bytes u v p q =
    let same = one_answer_is bytes (Ok p.of.file) (Ok q.of.file) (reads_of bytes u p) (reads_of bytes v q) in
    p.of.is ∙ (ap (λ (r : Result File ReadFault). unsorted_of (file_in p.of.file r)) same ∙ sym q.of.is)
