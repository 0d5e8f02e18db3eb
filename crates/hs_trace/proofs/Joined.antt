-- How the lines of a text join, and what stands in a text.
use Rattle.std.proofs.Common.{◌≡◌, sym, ◌∙◌, ap, subst, ℕ, ◌+◌, true, nat_eq, List, [], ◌∷◌, ◌++◌, length, take, drop, slice_get, Option, Some, None, append_assoc}
use Rattle.std.specs.Prelude.{IfSome}
use Rattle.std.specs.List.{flat_map, starts_with}
use Rattle.std.specs.Cmp.Lexicographic.{same_text}
use Rattle.std.proofs.lemmas.List.{append-nil, take_more, take-append-drop}
use Rattle.std.proofs.lemmas.List.Concat.{flat_map-append}
use Rattle.std.proofs.lemmas.Option.{get_or_from_slice_get, slice_get_within}
use Rattle.hs_scheme.specs.Names.{NamesData}
use Rattle.hs_scheme.specs.sorting.Sorted.{SortedData}
use Rattle.hs_reduce.specs.declared.answers.Trace.{Trace}
use Rattle.hs_reduce.specs.Trace.{IsTraceWithin}
use Rattle.hs_text.specs.Report.{path_lines}
use Rattle.hs_trace.specs.TraceText.{trace_lines}
use Rattle.hs_trace.specs.Explained.{StandsIn, IsTraced}

-- a piece behind the pieces of some items
pub one_more : {X : Type 0} (f : X → List ℕ) (xs : List X) (n : ℕ) (x : X) (old before new : List ℕ) → slice_get xs n ≡ Some x
    → before ≡ old ++ flat_map f (take n xs) → new ≡ before ++ f x → new ≡ old ++ flat_map f (take (n + 1) xs)
one_more f xs n x old before new at so_far piece =
    let more : take (n + 1) xs ≡ take n xs ++ x ∷ [] = take_more xs n x (slice_get_within xs n x at) ∙ ap (λ u. take n xs ++ u ∷ []) (get_or_from_slice_get xs n x x at) in
    let pieces : flat_map f (take (n + 1) xs) ≡ flat_map f (take n xs) ++ f x =
    ap (flat_map f) more ∙ (flat_map-append f (take n xs) (x ∷ []) ∙ ap (λ t. flat_map f (take n xs) ++ t) (append-nil (f x))) in
    piece ∙ (ap (λ r. r ++ f x) so_far ∙ (append_assoc old (flat_map f (take n xs)) (f x) ∙ ap (λ r. old ++ r) (sym pieces)))

-- a text that goes on with the piece has it in it
pub stands : (text front rest piece : List ℕ) → text ≡ front ++ rest → starts_with nat_eq rest piece ≡ true → StandsIn text piece
stands text front rest piece e is =
    let begins : take (length piece) rest ≡ piece = sym (same_text piece (take (length piece) rest) (sym is)) in
    let whole : rest ≡ piece ++ drop (length piece) rest = sym (take-append-drop (length piece) rest) ∙ ap (λ p. p ++ drop (length piece) rest) begins in
    (front, drop (length piece) rest, e ∙ ap (λ r. front ++ r) whole)

-- the lines of a trace along a path that the report shows
pub is_traced : {T : Type 0} (items : T → List ℕ) (s : SortedData) (lines report : List ℕ) (names : NamesData) (numbers : List ℕ) (steps : ℕ) (trace : Trace) (r : Option T) → names ≡ s.names
    → IsTraceWithin s numbers steps 9999 trace → IfSome r (λ _. StandsIn report (path_lines names trace.path)) → IfSome r (λ t. items t ≡ trace_lines names lines trace.steps.items trace.path)
    → IfSome r (λ t. IsTraced s lines report (items t))
is_traced items s lines report names numbers steps trace None e w printed text = tt
is_traced items s lines report names numbers steps trace (Some t) e w printed text = record {
  path = trace.path;
  printed = subst (λ (ns : NamesData). StandsIn report (path_lines ns trace.path)) e printed;
  steps = w.all;
  is_trace = w.is;
  tells = text ∙ (λ i. trace_lines (e i) lines (w.first i) trace.path);
}
