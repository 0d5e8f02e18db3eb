use Rattle.std.proofs.Common.{◌≡◌, ◌∙◌, ap, sym, subst, refl, List, ℕ}
use Rattle.hs_reader.specs.Tokens.{end_of_file, IsCut, placed, Lexes}
use Rattle.hs_reader.specs.Grammar.{IsFile}
use Rattle.hs_reader.specs.Faults.{kinds}
use Rattle.hs_resolve.specs.Numbering.{unsorted_of}
use Rattle.hs_text.specs.Canonical.{canonical}
use Rattle.hs_app.proofs.Relined.{relined, unsorted-same}
use Rattle.hs_app.proofs.RelinedFaults.{faultless-same, raw-same}
use Rattle.hs_app.proofs.Pieces.{file_pieces, spelled, cut-of, file-whole}
use Rattle.hs_app.proofs.Parsed.{file-parsed}
use Rattle.hs_app.proofs.Written.{written}
use Rattle.hs_app.proofs.WithinLimits.{no-limit}
use Rattle.hs_app.proofs.laws.canonical_file_is_read_again.Goals as goal

pub returns : goal.returns
returns c = λ raw inside clean.
    let file = relined raw in
    let within = raw-same raw inside in
    let faultless = faultless-same raw clean in
    let text : canonical (unsorted_of raw) ≡ spelled (file_pieces file) = ap canonical (sym (unsorted-same raw)) ∙ written file within faultless in
    let tokens = placed 1 (file_pieces file) end_of_file in
    let lexes : Lexes (canonical (unsorted_of raw)) tokens = record {
      pieces = file_pieces file;
      last = end_of_file;
      cut = subst (λ (bytes : List ℕ). IsCut 1 bytes (file_pieces file) end_of_file) (sym text) (cut-of 1 (file_pieces file) (file-whole raw inside.each_name));
      are = refl;
    } in
    let parsed : IsFile (kinds tokens) file = file-parsed 1 file within in
    record {
      tokens = tokens;
      lexes = lexes;
      file = file;
      is_file = parsed;
      read = λ shallow. record { tokens = tokens; lexes = lexes; is_file = parsed; within = no-limit (kinds tokens) file parsed within shallow };
      within = within;
      faultless = faultless;
      resolved = unsorted-same raw;
    }
