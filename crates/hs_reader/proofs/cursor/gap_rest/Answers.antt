use Rattle.std.proofs.Common.{◌≡◌, sym, ◌∙◌, ap, cond, eqb, ℕ, ◌≤◌, ◌-◌, List, length, take, drop, get_or, Some, None, false, arith}
use Rattle.hs_reader.specs.Tokens.{is_blank}
use Rattle.hs_reader.specs.Reading.{line_behind, comment_rest, slash_rest, gap_rest}
use Rattle.hs_reader.proofs.Cutting.{at_front, chosen, not_chosen}
use Rattle.hs_reader.proofs.cursor.gap_rest.Goals as goal

-- a comment is behind `/*`
gap_comment : (line : ℕ) (bytes : List ℕ) → 1 ≤ length bytes → is_blank (get_or bytes 0 0) ≡ false → get_or bytes 0 0 ≡ 47 → 1 ≤ length (take (length bytes - 1) (drop 1 bytes)) → get_or (take (length bytes - 1) (drop 1 bytes)) 0 0 ≡ 42
    → gap_rest line bytes ≡ comment_rest line (take (length (take (length bytes - 1) (drop 1 bytes)) - 1) (drop 1 (take (length bytes - 1) (drop 1 bytes))))
gap_comment line bytes h no_blank slash long star =
    let behind : List ℕ = take (length bytes - 1) (drop 1 bytes) in
    let text : List ℕ = take (length behind - 1) (drop 1 behind) in
    ap (gap_rest line) (at_front bytes h)
    ∙ (not_chosen (is_blank (get_or bytes 0 0)) (Some (line_behind line (get_or bytes 0 0), behind)) (cond (eqb (get_or bytes 0 0) 47) (slash_rest line behind) None) no_blank
    ∙ (chosen (eqb (get_or bytes 0 0) 47) (slash_rest line behind) None (ap (λ (k : ℕ). eqb k 47) slash)
    ∙ (ap (slash_rest line) (at_front behind long) ∙ chosen (eqb (get_or behind 0 0) 42) (comment_rest line text) None (ap (λ (k : ℕ). eqb k 42) star))))

pub returns-clause-value : goal.returns-clause-value
returns-clause-value c =
    c.comment_rest.ensures.value
    ∙ sym (gap_comment c.args.line c.args.bytes.now c.in-len1-up.len_at_least (sym c.is_blank.ensures ∙ c.if-is_blank.false) c.if-first-ne47.false c.in-42.len_at_least (omega arith))
