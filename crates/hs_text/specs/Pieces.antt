-- A text that is written piece by piece; only private contracts cite it.
--     Puts    where memory sufficed for the whole, it sufficed before, and this piece stands behind what was there
use Rattle.std.specs.Prelude.{◌≡◌, ℕ, List, ◌++◌, true}
use Rattle.hs_text.specs.declared.pieces.Text.{Text}

pub record Puts (old new : Text) (piece : List ℕ) : Type 0 where
  pub before : new.is_whole ≡ true → old.is_whole ≡ true
  pub bytes : new.is_whole ≡ true → new.bytes.items ≡ old.bytes.items ++ piece
