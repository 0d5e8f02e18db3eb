-- What the names of a body stand for, while the terminals of later ones aren't known yet.
--     unknown_at     the line of a name that isn't among the left names
--     undefined_at   the line of an upper name that isn't among them
--     undefined_in   the least of those lines, and of one that was known before
--     IsHead, IsNumberedTerm, IsScoped
--                    the head of a name, the term of a body and the rule, whatever terminals are met later
use Rattle.std.specs.Prelude.{◌≡◌, ℕ, ◌&&◌, not, List, [], ◌∷◌, ◌++◌, map, Option, Some, None, if◌then◌else◌}
use Rattle.hs_scheme.specs.declared.term.Head.{Head}
use Rattle.hs_scheme.specs.declared.term.Rule.{Rule as NumberedRule}
use Rattle.hs_scheme.specs.Tree.{Tree}
use Rattle.hs_reader.specs.declared.raw.RawName.{RawName}
use Rattle.hs_reader.specs.Raw.{Rule}
use Rattle.hs_reader.specs.Grammar.{begins_upper}
use Rattle.hs_resolve.specs.Names.{is_among}
use Rattle.hs_resolve.specs.Numbering.{head_of, numbered}
use Rattle.hs_resolve.specs.Least.{earliest}
use Rattle.hs_resolve.specs.Tables.{scoped_rule}

abbrev pub unknown_at : List (List ℕ) → RawName → Option ℕ
unknown_at left n = if is_among left n.text then None else Some n.line

abbrev pub undefined_at : List (List ℕ) → RawName → Option ℕ
undefined_at left n = if begins_upper n.text && not (is_among left n.text) then Some n.line else None

abbrev pub undefined_in : List (List ℕ) → Option ℕ → List RawName → Option ℕ
undefined_in left o [] = o
undefined_in left o (n ∷ ns) = undefined_in left (earliest o (undefined_at left n)) ns

abbrev pub IsHead : (left params terminals : List (List ℕ)) → RawName → Head → Type 0
IsHead left params terminals name head = (later : List (List ℕ)) → head ≡ head_of left params (terminals ++ later) name

abbrev pub IsNumberedTerm : (left params terminals : List (List ℕ)) → Tree RawName → Tree Head → Type 0
IsNumberedTerm left params terminals raw term = (later : List (List ℕ)) → term ≡ numbered (head_of left params (terminals ++ later)) raw

abbrev pub AreNumbered : (left params terminals : List (List ℕ)) → List (Tree RawName) → List (Tree Head) → Type 0
AreNumbered left params terminals raw terms =
    (later : List (List ℕ)) → terms ≡ map (numbered (head_of left params (terminals ++ later))) raw

abbrev pub IsScoped : (left terminals : List (List ℕ)) → Rule → NumberedRule → Type 0
IsScoped left terminals raw rule = (later : List (List ℕ)) → rule ≡ scoped_rule left (terminals ++ later) raw

abbrev pub AreScoped : (left terminals : List (List ℕ)) → List Rule → List NumberedRule → Type 0
AreScoped left terminals raw rules = (later : List (List ℕ)) → rules ≡ map (scoped_rule left (terminals ++ later)) raw
