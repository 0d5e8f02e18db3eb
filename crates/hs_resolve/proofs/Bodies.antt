-- The names of bodies, one after another, with numbers that later terminals don't change.
use Rattle.std.proofs.Common.{◌≡◌, refl, sym, ◌∙◌, ap, subst, ℕ, zero, suc, ◌+◌, Bool, true, false, not, ◌&&◌, cond, List, [], ◌∷◌, ◌++◌, take, filter, map, slice_get, is_some, Option, Some, None, ◌⊎◌, inl, inr}
use Rattle.std.specs.Option.{option_map_or}
use Rattle.std.specs.Str.{bytes_eq}
use Rattle.std.proofs.lemmas.List.Elements.{filter-append}
use Rattle.std.proofs.lemmas.Option.{same_Some}
use Rattle.hs_scheme.specs.Tree.{Tree, forest}
use Rattle.hs_scheme.specs.declared.term.Head.{Head}
use Rattle.hs_scheme.specs.declared.term.Head.TheVariants.{Var, Nt, Tm}
use Rattle.hs_scheme.specs.declared.term.Rule.{Rule as NumberedRule}
use Rattle.hs_reader.specs.declared.raw.RawName.{RawName}
use Rattle.hs_reader.specs.Raw.{Rule}
use Rattle.hs_reader.specs.Limits.{term_names, terms_names}
use Rattle.hs_reader.specs.Grammar.{begins_upper}
use Rattle.hs_resolve.specs.Names.{texts, is_among, number_of, number, with_names}
use Rattle.hs_resolve.specs.Numbering.{is_terminal, head_of, numbered}
use Rattle.hs_resolve.specs.Least.{IsLeast, earliest, Before}
use Rattle.hs_resolve.specs.LineFaults.{Somewhere, IsUndefined}
use Rattle.hs_resolve.specs.Tables.{scoped_rule}
use Rattle.hs_resolve.specs.Bodies.{unknown_at, undefined_at, undefined_in, IsNumberedTerm, AreNumbered, IsScoped, AreScoped, IsHead}
use Rattle.hs_resolve.proofs.Lists.{is_some-position, take-push, pushed-more}
use Rattle.hs_resolve.proofs.Growing.{extends, behind_all, all-behind, with_names-append}
use Rattle.hs_resolve.proofs.Leasts.{least-same, least-either, least-next}
use Rattle.hs_resolve.proofs.NameLoops.{undefined-least, names_in-push}

texts-append : (xs ys : List RawName) → texts (xs ++ ys) ≡ texts xs ++ texts ys
texts-append [] ys = refl
texts-append (x ∷ xs) ys = ap (λ ns. x.text ∷ ns) (texts-append xs ys)

undefined-append : (left : List (List ℕ)) (o : Option ℕ) (xs ys : List RawName) → undefined_in left o (xs ++ ys) ≡ undefined_in left (undefined_in left o xs) ys
undefined-append left o [] ys = refl
undefined-append left o (x ∷ xs) ys = undefined-append left (earliest o (undefined_at left x)) xs ys

pub head-later : (left params terminals xs : List (List ℕ)) (name : RawName) (head : Head) → IsHead left params terminals name head → IsHead left params (with_names terminals xs) name head
head-later left params terminals xs name head is = λ later.
    is (behind_all terminals xs later) ∙ ap (λ all. head_of left params all name) (all-behind terminals xs later)

module _ (items : List (Tree RawName)) (n : ℕ) (arg : Tree RawName) (at : slice_get items n ≡ Some arg) where
  names-more : terms_names (forest (take (n + 1) items)) ≡ terms_names (forest (take n items)) ++ term_names arg
  names-more = ap (λ ts. terms_names (forest ts)) (take-push items n arg at) ∙ names_in-push (take n items) arg

  pub terminals-in-more : (p : List ℕ → Bool) (first old new : List (List ℕ)) → old ≡ with_names first (filter p (texts (terms_names (forest (take n items)))))
      → new ≡ with_names old (filter p (texts (term_names arg))) → new ≡ with_names first (filter p (texts (terms_names (forest (take (n + 1) items)))))
  terminals-in-more p first old new was e =
      let before = terms_names (forest (take n items)) in
      let step : filter p (texts (terms_names (forest (take (n + 1) items)))) ≡ filter p (texts before) ++ filter p (texts (term_names arg)) =
      ap (λ ns. filter p (texts ns)) names-more ∙ (ap (filter p) (texts-append before (term_names arg)) ∙ filter-append p (texts before) (texts (term_names arg))) in
      e ∙ (ap (λ ns. with_names ns (filter p (texts (term_names arg)))) was
      ∙ (sym (with_names-append first (filter p (texts before)) (filter p (texts (term_names arg)))) ∙ ap (with_names first) (sym step)))

  pub undefined-in-more : (left : List (List ℕ)) (first old new : Option ℕ) → old ≡ undefined_in left first (terms_names (forest (take n items)))
      → new ≡ undefined_in left old (term_names arg) → new ≡ undefined_in left first (terms_names (forest (take (n + 1) items)))
  undefined-in-more left first old new was e =
      e ∙ (ap (λ o. undefined_in left o (term_names arg)) was
      ∙ (sym (undefined-append left first (terms_names (forest (take n items))) (term_names arg)) ∙ ap (undefined_in left first) (sym names-more)))

  pub terms-more : (left params xs old_terminals new_terminals : List (List ℕ)) (old new : List (Tree Head)) (term : Tree Head) → new_terminals ≡ with_names old_terminals xs
      → AreNumbered left params old_terminals (take n items) old → IsNumberedTerm left params new_terminals arg term → new ≡ old ++ term ∷ []
      → AreNumbered left params new_terminals (take (n + 1) items) new
  terms-more left params xs old_terminals new_terminals old new term grows was is e = λ later.
      let all : old_terminals ++ behind_all old_terminals xs later ≡ new_terminals ++ later = all-behind old_terminals xs later ∙ ap (λ ns. ns ++ later) (sym grows) in
      pushed-more (numbered (head_of left params (new_terminals ++ later))) items n arg old new term at
      (was (behind_all old_terminals xs later) ∙ ap (λ ts. map (numbered (head_of left params ts)) (take n items)) all) e (is later)

pub rules-more : (left xs old_terminals new_terminals : List (List ℕ)) (items : List Rule) (n : ℕ) (raw : Rule) (old new : List NumberedRule) (rule : NumberedRule) → slice_get items n ≡ Some raw
    → new_terminals ≡ with_names old_terminals xs → AreScoped left old_terminals (take n items) old → IsScoped left new_terminals raw rule → new ≡ old ++ rule ∷ []
    → AreScoped left new_terminals (take (n + 1) items) new
rules-more left xs old_terminals new_terminals items n raw old new rule at grows was is e = λ later.
    let all : old_terminals ++ behind_all old_terminals xs later ≡ new_terminals ++ later = all-behind old_terminals xs later ∙ ap (λ ns. ns ++ later) (sym grows) in
    pushed-more (scoped_rule left (new_terminals ++ later)) items n raw old new rule at
    (was (behind_all old_terminals xs later) ∙ ap (λ ts. map (scoped_rule left ts) (take n items)) all) e (is later)

-- with no more names behind them, and with those of the transitions
pub rules-all : (left terminals xs all : List (List ℕ)) (raw : List Rule) (rules : List NumberedRule) → AreScoped left terminals raw rules → all ≡ with_names terminals xs → rules ≡ map (scoped_rule left all) raw
rules-all left terminals xs all raw rules are e =
    let r = extends terminals xs in are r.0 ∙ ap (λ ts. map (scoped_rule left ts) raw) (sym (e ∙ r.1))

module _ (left : List (List ℕ)) (n : RawName) (ns : List RawName) (line : ℕ) where
  undefined-from : (i : ℕ) (x : RawName) → slice_get (n ∷ ns) i ≡ Some x → IsUndefined left x line → IsUndefined left n line ⊎ Somewhere (λ _ m. IsUndefined left m line) ns
  undefined-from zero x at h = inl (subst (λ m. IsUndefined left m line) (sym (same_Some n x at)) h)
  undefined-from (suc i) x at h = inr (record { place = i; item = x; at = at; holds = h })

-- the least line among the names of a body, and one that was known before
pub undefined-in-least : (left : List (List ℕ)) (P : ℕ → Type 0) (o : Option ℕ) (names : List RawName) → IsLeast P o
    → IsLeast (λ line. P line ⊎ Somewhere (λ _ m. IsUndefined left m line) names) (undefined_in left o names)
undefined-in-least left P o [] h =
    least-same P (λ line. P line ⊎ Somewhere (λ _ m. IsUndefined left m line) []) o (λ line p. inl p) (λ line e. elim e [ inl p ↦ p | inr s ↦ absurd (let at : None ≡ Some s.item = s.at in (cc)) ]) h
undefined-in-least left P o (n ∷ ns) h =
    let here = undefined-in-least left (λ line. P line ⊎ IsUndefined left n line) (earliest o (undefined_at left n)) ns (least-either P (IsUndefined left n) o (undefined_at left n) h (undefined-least left n)) in
    least-same (λ line. (P line ⊎ IsUndefined left n line) ⊎ Somewhere (λ _ m. IsUndefined left m line) ns) (λ line. P line ⊎ Somewhere (λ _ m. IsUndefined left m line) (n ∷ ns))
    (undefined_in left (earliest o (undefined_at left n)) ns)
    (λ line e. elim e [
      | inl f ↦ elim f [ inl p ↦ inl p | inr u ↦ inr (record { place = 0; item = n; at = refl; holds = u }) ]
      | inr s ↦ inr (record { place = suc s.place; item = s.item; at = s.at; holds = s.holds })
    ])
    (λ line e. elim e [
      | inl p ↦ inl (inl p)
      | inr s ↦ elim (undefined-from left n ns line s.place s.item s.at s.holds) [ inl u ↦ inl (inr u) | inr r ↦ inr r ]
    ]) here

pub bodies-least : (left : List (List ℕ)) (rules : List Rule) (n : ℕ) (r : Rule) (o : Option ℕ) → slice_get rules n ≡ Some r
    → IsLeast (Before (λ _ x line. Somewhere (λ _ m. IsUndefined left m line) (term_names x.body)) rules n) o
    → IsLeast (Before (λ _ x line. Somewhere (λ _ m. IsUndefined left m line) (term_names x.body)) rules (n + 1)) (undefined_in left o (term_names r.body))
bodies-least left rules n r o at h =
    let P = λ (_ : ℕ) (x : Rule) (line : ℕ). Somewhere (λ _ m. IsUndefined left m line) (term_names x.body) in
    least-next P rules n r (undefined_in left o (term_names r.body)) at (undefined-in-least left (Before P rules n) o (term_names r.body) h)

earliest-none : (o : Option ℕ) → earliest o None ≡ o
earliest-none None = refl
earliest-none (Some a) = refl

among-some : (names : List (List ℕ)) (x : List ℕ) (k : ℕ) → number_of names x ≡ Some k → is_among names x ≡ true
among-some names x k is = sym (is_some-position (bytes_eq x) names) ∙ ap is_some is

among-none : (names : List (List ℕ)) (x : List ℕ) → number_of names x ≡ None → is_among names x ≡ false
among-none names x is = sym (is_some-position (bytes_eq x) names) ∙ ap is_some is

-- a lower name is not undefined
pub lower-at : (left : List (List ℕ)) (name : RawName) (o : Option ℕ) → begins_upper name.text ≡ false → o ≡ earliest o (undefined_at left name)
lower-at left name o lower = sym (earliest-none o) ∙ (λ i. earliest o (cond (sym lower i && not (is_among left name.text)) (Some name.line) None))

pub head-parameter : (left params terminals : List (List ℕ)) (name : RawName) (k : ℕ) → begins_upper name.text ≡ false → number_of params name.text ≡ Some k → Var k ≡ head_of left params terminals name
head-parameter left params terminals name k lower is =
    λ i. cond (sym lower i) (Nt (number left name.text)) (option_map_or Var (sym is i) (Tm (number terminals name.text)))

pub head-terminal : (left params terminals : List (List ℕ)) (name : RawName) → begins_upper name.text ≡ false → number_of params name.text ≡ None → Tm (number terminals name.text) ≡ head_of left params terminals name
head-terminal left params terminals name lower is =
    λ i. cond (sym lower i) (Nt (number left name.text)) (option_map_or Var (sym is i) (Tm (number terminals name.text)))

pub known-at : (left : List (List ℕ)) (n : RawName) (o : Option ℕ) (k : ℕ) → number_of left n.text ≡ Some k → o ≡ earliest o (unknown_at left n)
known-at left n o k is =
    sym (ap (λ b. earliest o (cond b None (Some n.line))) (among-some left n.text k is) ∙ earliest-none o)

pub unknown-at : (left : List (List ℕ)) (n : RawName) → number_of left n.text ≡ None → unknown_at left n ≡ Some n.line
unknown-at left n is = ap (λ b. cond b None (Some n.line)) (among-none left n.text is)

pub parameter-is : (params : List (List ℕ)) (x : List ℕ) (k : ℕ) → number_of params x ≡ Some k → is_terminal params x ≡ false
parameter-is params x k is =
    ap (λ b. not (begins_upper x) && not b) (among-some params x k is)
    ∙ elim (begins_upper x) as (λ b. (not b && false) ≡ false) [
      | true ↦ refl
      | false ↦ refl
    ]

pub terminal-is : (params : List (List ℕ)) (x : List ℕ) → begins_upper x ≡ false → number_of params x ≡ None → is_terminal params x ≡ true
terminal-is params x lower is = λ i. not (lower i) && not (among-none params x is i)
