-- The steps of the passes over names, over plain lists.
use Rattle.std.proofs.Common.{◌≡◌, refl, sym, ◌∙◌, ap, subst, ℕ, ◌+◌, true, false, not, ◌&&◌, cond, List, [], ◌∷◌, ◌++◌, take, filter, map, slice_get, Option, Some, None, arith, append_assoc}
use Rattle.std.specs.List.{flat_map}
use Rattle.std.proofs.lemmas.List.{append-nil}
use Rattle.hs_scheme.specs.Tree.{Tree, forest, more}
use Rattle.hs_scheme.specs.declared.term.Head.{Head}
use Rattle.hs_reader.specs.declared.raw.RawName.{RawName}
use Rattle.hs_reader.specs.Raw.{Rule}
use Rattle.hs_reader.specs.Limits.{term_names, terms_names}
use Rattle.hs_reader.specs.Grammar.{begins_upper}
use Rattle.hs_resolve.specs.Names.{texts, is_among, distinct, with_name, with_names, repeat_of}
use Rattle.hs_resolve.specs.Numbering.{is_terminal, terminals_in, numbered, numbered_each}
use Rattle.hs_resolve.specs.Least.{IsLeast, earliest, Before}
use Rattle.hs_resolve.specs.LineFaults.{Somewhere, RepeatsAt, IsUndefined}
use Rattle.hs_resolve.proofs.Lists.{at_map, take-push, flat_map-push}
use Rattle.hs_resolve.proofs.Distinct.{among-distinct, distinct-push, distinct-append}
use Rattle.hs_resolve.proofs.Leasts.{least-same, least-more}

repeat-least : (names : List RawName) (n : ℕ) (x : RawName) → IsLeast (RepeatsAt names n x) (repeat_of (take n (texts names)) x)
repeat-least names n x =
    let b = is_among (take n (texts names)) x.text in
    elim b as (λ d. b ≡ d → IsLeast (RepeatsAt names n x) (cond d (Some x.line) None)) [
      | true ↦ λ e. ((refl, e), λ line p. omega (arith, p.0))
      | false ↦ λ e. λ line p. absurd (let f : true ≡ false = sym p.1 ∙ e in (cc))
    ] refl

module _ (names : List RawName) (n : ℕ) (x : RawName) (at : slice_get names n ≡ Some x) where
  pub index-more : (old new : List (List ℕ)) → old ≡ distinct (take n (texts names)) → new ≡ with_name old x.text → new ≡ distinct (take (n + 1) (texts names))
  index-more old new was e =
      e ∙ (ap (λ ns. with_name ns x.text) was
      ∙ sym (ap distinct (take-push (texts names) n x.text (at_map (λ m. m.text) names n x at)) ∙ distinct-push (take n (texts names)) x.text))

  pub repeated-more : (old : List (List ℕ)) (a b : Option ℕ) → old ≡ distinct (take n (texts names)) → IsLeast (Before (RepeatsAt names) names n) a → b ≡ earliest a (repeat_of old x)
      → IsLeast (Before (RepeatsAt names) names (n + 1)) b
  repeated-more old a b was h e =
      let same : b ≡ earliest a (repeat_of (take n (texts names)) x) =
      e ∙ ap (λ o. earliest a o) (ap (λ ns. repeat_of ns x) was ∙ ap (λ c. cond c (Some x.line) None) (among-distinct (take n (texts names)) x.text)) in
      subst (λ o. IsLeast (Before (RepeatsAt names) names (n + 1)) o) (sym same)
      (least-more (RepeatsAt names) names n x a (repeat_of (take n (texts names)) x) at h (repeat-least names n x))

pub undefined-least : (names : List (List ℕ)) (x : RawName) → IsLeast (IsUndefined names x) (cond (begins_upper x.text && not (is_among names x.text)) (Some x.line) None)
undefined-least names x =
    elim (begins_upper x.text) as (λ b. begins_upper x.text ≡ b → IsLeast (IsUndefined names x) (cond (b && not (is_among names x.text)) (Some x.line) None)) [
      | true ↦ λ e. elim (is_among names x.text) as (λ b. is_among names x.text ≡ b → IsLeast (IsUndefined names x) (cond (not b) (Some x.line) None)) [
        | true ↦ λ f. λ line p. absurd (let g : true ≡ false = sym f ∙ p.2 in (cc))
        | false ↦ λ f. ((refl, e, f), λ line p. omega (arith, p.0))
      ] refl
      | false ↦ λ e. λ line p. absurd (let g : true ≡ false = sym p.1 ∙ e in (cc))
    ] refl

pub names_in-push : (ts : List (Tree RawName)) (t : Tree RawName) → terms_names (forest (ts ++ t ∷ [])) ≡ terms_names (forest ts) ++ term_names t
names_in-push [] t = append-nil (term_names t)
names_in-push (u ∷ us) t = ap (λ ns. term_names u ++ ns) (names_in-push us t) ∙ sym (append_assoc (term_names u) (terms_names (forest us)) (term_names t))

pub is_terminal-distinct : (params : List (List ℕ)) → is_terminal (distinct params) ≡ is_terminal params
is_terminal-distinct params = λ i x. not (begins_upper x) && not (among-distinct params x i)

pub bodies-more : (rules : List Rule) (n : ℕ) (r : Rule) (old new params : List (List ℕ)) → slice_get rules n ≡ Some r → params ≡ distinct (texts r.params)
    → old ≡ distinct (flat_map terminals_in (take n rules)) → new ≡ with_names old (filter (is_terminal params) (texts (term_names r.body)))
    → new ≡ distinct (flat_map terminals_in (take (n + 1) rules))
bodies-more rules n r old new params at scope was e =
    let found = terminals_in r in
    e ∙ (ap (λ p. with_names old (filter p (texts (term_names r.body)))) (ap is_terminal scope ∙ is_terminal-distinct (texts r.params))
    ∙ (ap (λ ns. with_names ns found) was
    ∙ sym (ap (λ rs. distinct (flat_map terminals_in rs)) (take-push rules n r at) ∙ (ap distinct (flat_map-push terminals_in (take n rules) r) ∙ distinct-append (flat_map terminals_in (take n rules)) found))))

-- what is undefined among names without repeats is undefined among the names
pub undefined-distinct : (rules : List Rule) (names : List (List ℕ)) (o : Option ℕ)
    → IsLeast (λ line. Somewhere (λ _ r. Somewhere (λ _ n. IsUndefined (distinct names) n line) (term_names r.body)) rules) o
    → IsLeast (λ line. Somewhere (λ _ r. Somewhere (λ _ n. IsUndefined names n line) (term_names r.body)) rules) o
undefined-distinct rules names o h =
    least-same (λ line. Somewhere (λ _ r. Somewhere (λ _ n. IsUndefined (distinct names) n line) (term_names r.body)) rules)
    (λ line. Somewhere (λ _ r. Somewhere (λ _ n. IsUndefined names n line) (term_names r.body)) rules) o
    (λ line s. record {
      place = s.place;
      item = s.item;
      at = s.at;
      holds = record {
        place = s.holds.place;
        item = s.holds.item;
        at = s.holds.at;
        holds =
            (s.holds.holds.0, s.holds.holds.1, sym (among-distinct names s.holds.item.text) ∙ s.holds.holds.2);
      };
    })
    (λ line s. record {
      place = s.place;
      item = s.item;
      at = s.at;
      holds = record {
        place = s.holds.place;
        item = s.holds.item;
        at = s.holds.at;
        holds =
            (s.holds.holds.0, s.holds.holds.1, among-distinct names s.holds.item.text ∙ s.holds.holds.2);
      };
    }) h

pub numbered-forest : (head : RawName → Head) (ts : List (Tree RawName)) → numbered_each head (forest ts) ≡ forest (map (numbered head) ts)
numbered-forest head [] = refl
numbered-forest head (t ∷ ts) = ap (more (numbered head t)) (numbered-forest head ts)
