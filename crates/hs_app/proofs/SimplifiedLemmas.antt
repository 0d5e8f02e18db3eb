-- What is answered on a scheme that was simplified, or left as it was.
use Rattle.std.proofs.Common.{◌≡◌, refl, sym, ◌∙◌, ap, subst, ◌-◌, ◌≤◌, Bool, true, false, List, Some, None, Result, Ok, Err, arith}
use Rattle.std.specs.Prelude.{if◌then◌else◌}
use Rattle.hs_scheme.specs.SameTree.{HaveSameTree}
use Rattle.hs_scheme.specs.sorting.Sorted.{SortedData, IsSorted}
use Rattle.hs_passes.specs.Weight.{weight}
use Rattle.hs_passes.specs.Passing.{KeepsRest, Image, composed}
use Rattle.hs_front.specs.declared.refusal.Refusal.{Refusal}
use Rattle.hs_front.specs.declared.refusal.Refusal.TheVariants.{Usage, Source, FileTooLong, Syntax, Limit, Names, IllSorted, NotFirstOrder, SortTooLarge, RuleTooLong, PointLimit, FlowLimit, EntryLimit, Sink, OutOfMemory}
use Rattle.hs_words.specs.declared.options.Settings.{Settings}
use Rattle.hs_app.specs.declared.verdict.Decided.{Decided}
use Rattle.hs_app.specs.Problems.{Asked, asked_of, form_asked, IsRemoved}
use Rattle.hs_app.specs.Verdict.{DecidesForm, DecidesSimplified, DecidesSorted}

pub no_choice : (b : Bool) → b ≡ true → b ≡ false → ⊥
no_choice b e f = let g : true ≡ false = sym e ∙ f in (cc)

into_sorted : (asked : Asked) (sorted : SortedData) (r : Result Decided Refusal) → DecidesSimplified asked sorted r → DecidesSorted asked sorted r
into_sorted asked sorted (Ok d) h = h
into_sorted asked sorted (Err Usage) h = h
into_sorted asked sorted (Err Source) h = h
into_sorted asked sorted (Err FileTooLong) h = h
into_sorted asked sorted (Err (Syntax line)) h = h
into_sorted asked sorted (Err (Limit which)) h = h
into_sorted asked sorted (Err (Names fault)) h = h
into_sorted asked sorted (Err (IllSorted rule)) h = h
into_sorted asked sorted (Err (NotFirstOrder terminal)) h = h
into_sorted asked sorted (Err (SortTooLarge rule)) h = h
into_sorted asked sorted (Err (RuleTooLong rule)) h = h
into_sorted asked sorted (Err PointLimit) h = h
into_sorted asked sorted (Err FlowLimit) h = h
into_sorted asked sorted (Err EntryLimit) h = h
into_sorted asked sorted (Err Sink) h = h
into_sorted asked sorted (Err OutOfMemory) h = tt

module _ (settings : Settings) (images : List Image) (s : SortedData) (is_sorted : IsSorted s) where
  chosen : (b : Bool) → settings.simplify ≡ b → (if b then composed images s else s) ≡ form_asked (asked_of settings images) s
  chosen b e = ap (λ (x : Bool). if x then composed images s else s) (sym e)

  -- where it is asked for, what the passes made is decided
  pub of_simplified : (t : SortedData) (r : Result Decided Refusal) → settings.simplify ≡ true → t ≡ composed images s → KeepsRest s t
      → HaveSameTree s.scheme.ranks s.scheme.rules t.scheme.rules → weight t ≤ weight s
      → DecidesForm settings s t (Some (weight s - weight t)) r → DecidesSorted (asked_of settings images) s r
  of_simplified t r e made rest tree lighter h =
      into_sorted (asked_of settings images) s r (record {
        is_sorted = is_sorted;
        form = t;
        simplified = record { made = made ∙ chosen true e; rest = rest; same_tree = tree; same = λ f. absurd (no_choice settings.simplify e f) };
        removed = Some (weight s - weight t);
        lighter = subst (λ (b : Bool). IsRemoved b s t (Some (weight s - weight t))) (sym e) (omega (arith, lighter));
        decides = h;
      })

  -- and else the scheme itself
  pub of_plain : (r : Result Decided Refusal) → settings.simplify ≡ false → DecidesForm settings s s None r → DecidesSorted (asked_of settings images) s r
  of_plain r e h =
      into_sorted (asked_of settings images) s r (record {
        is_sorted = is_sorted;
        form = s;
        simplified = record {
          made = chosen false e;
          rest = record { ranks = refl; automaton = refl; terminal_names = refl; state_names = refl };
          same_tree = λ ts agree q path. ((λ h. h), (λ h. h));
          same = λ f. refl;
        };
        removed = None;
        lighter = subst (λ (b : Bool). IsRemoved b s s None) (sym e) refl;
        decides = h;
      })
