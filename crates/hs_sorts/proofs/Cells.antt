-- How nodes are kept, read and written.
use Rattle.std.proofs.Common.{◌≡◌, refl, sym, ◌∙◌, ap, subst, ℕ, ◌<◌, List, [], ◌∷◌, ◌++◌, length, get_or, set, slice_get, Some, arith}
use Rattle.std.specs.Option.{option_map}
use Rattle.std.proofs.lemmas.List.{length-map, map-append, map-set}
use Rattle.std.proofs.lemmas.Option.{slice_get-map, slice_get_read}
use Rattle.hs_sorts.specs.declared.store.Cell.{Cell}
use Rattle.hs_sorts.specs.declared.store.Node.{Node}
use Rattle.hs_sorts.specs.Cells.{node_in, nodes_in}

-- what a read of the cells behind a store gives
pub read_at : (cells : List Cell) (nodes : List Node) (i : ℕ) (x : Cell) (n : Node) → nodes_in cells ≡ nodes → i < length nodes → x ≡ get_or cells i x → n ≡ node_in x → slice_get nodes i ≡ Some n
read_at cells nodes i x n is within h e =
    let inside : i < length cells = omega (arith, within, ap length is, length-map cells node_in) in
    subst (λ (ns : List Node). slice_get ns i ≡ Some n) is
    (slice_get-map node_in cells i ∙ (ap (option_map node_in) (slice_get_read cells (length cells) i x refl inside h) ∙ ap (λ m. Some m) (sym e)))

pub written : (cells : List Cell) (i : ℕ) (x : Cell) (n : Node) → node_in x ≡ n → nodes_in (set cells i x) ≡ set (nodes_in cells) i n
written cells i x n e = map-set node_in cells i x ∙ ap (set (nodes_in cells) i) e

pub pushed : (cells longer : List Cell) (x : Cell) (n : Node) → longer ≡ cells ++ x ∷ [] → node_in x ≡ n → nodes_in longer ≡ nodes_in cells ++ n ∷ []
pushed cells longer x n is e = ap nodes_in is ∙ (map-append node_in cells (x ∷ []) ∙ ap (λ m. nodes_in cells ++ m ∷ []) e)
