-- Entries of a table: that they are in shape, and what is told of them.
use Rattle.std.proofs.Common.{◌≡◌, sym, subst, Bool, true, false, List, take, slice_index_or, All, Contains, Option, Some, None}
use Rattle.std.specs.Prelude.{if◌then◌else◌}
use Rattle.std.specs.Option.{IfSome, option_map}
use Rattle.std.proofs.lemmas.Option.{same_Some}
use Rattle.std.proofs.lemmas.List.Elements.{All-contains_itself}
use Rattle.hs_scheme.specs.acceptance.Automaton.{IsAutomaton}
use Rattle.hs_scheme.specs.Problem.{ProblemData}
use Rattle.hs_table.specs.Entries.{EntryData, InShape}
use Rattle.hs_table.specs.Tables.{IsSupportedTable}
use Rattle.hs_table_laws.proofs.Places.{place_of}
use Rattle.hs_table_laws.proofs.Shapes.{follows_shape}

module _ (p : ProblemData) (T : List EntryData) (automaton : IsAutomaton p.sorted.automaton) (supported : IsSupportedTable p T) where
  pub member_shape : (e : EntryData) → Contains T e → InShape p e
  member_shape e there = let at = place_of T e there in follows_shape p (take at.0 T) automaton.to e (supported.follows at.0 e at.1)

  pub table_shape : All (InShape p) T
  table_shape k d below = member_shape (slice_index_or T k d) (All-contains_itself T k d below)

module _ {V : Type 0} (items : V → List EntryData) (p : ProblemData) where
  -- those that are told are all of a table
  pub told_supported : (o : Option V) (b : Bool) (log : List EntryData) → IsSupportedTable p log → option_map items o ≡ (if b then Some log else None) → IfSome o (λ v. IsSupportedTable p (items v))
  told_supported (Some v) true log h e = subst (IsSupportedTable p) (sym (same_Some (items v) log e)) h
  told_supported (Some v) false log h e = absurd (cc)
  told_supported None b log h e = tt

  -- and so are those that are given
  pub given_supported : (o : Option V) (T : List EntryData) → IfSome o (λ v. IsSupportedTable p (items v)) → option_map items o ≡ Some T → IsSupportedTable p T
  given_supported (Some v) T h e = subst (IsSupportedTable p) (same_Some (items v) T e) h
  given_supported None T h e = absurd (cc)
