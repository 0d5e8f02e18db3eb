-- Texts that are written piece by piece.
use Rattle.std.proofs.Common.{◌≡◌, refl, sym, ◌∙◌, ap, ℕ, zero, suc, ◌+◌, true, false, nat_eq, List, [], ◌∷◌, ◌++◌, codes, length, take, slice_get, Some, add-one, append_assoc, arith}
use Rattle.std.specs.List.{flat_map, enumerate_from}
use Rattle.std.proofs.lemmas.Bool.{eqb-true}
use Rattle.std.proofs.lemmas.List.{append-nil, take_more}
use Rattle.std.proofs.lemmas.List.Concat.{flat_map-append}
use Rattle.std.proofs.lemmas.Option.{get_or_from_slice_get, same_Some, slice_get_within}
use Rattle.hs_scheme.specs.declared.term.Head.{Head}
use Rattle.hs_scheme.specs.declared.term.Rule.{Rule}
use Rattle.hs_scheme.specs.Tree.{Tree, node, forest}
use Rattle.hs_scheme.specs.Names.{NamesData}
use Rattle.hs_text.specs.Canonical.{opening, closing, term_text, args_text, rule_text, rules_text, params_at, name_at, states_text}

-- one more argument
args-push : (names : NamesData) (params : List (List ℕ)) (ts : List (Tree Head)) (t : Tree Head)
    → args_text names params (forest (ts ++ t ∷ [])) ≡ args_text names params (forest ts) ++ (opening t ++ (term_text names params t ++ closing t))
args-push names params [] t = append-nil (opening t ++ (term_text names params t ++ closing t))
args-push names params (u ∷ us) t =
    let first = opening u ++ (term_text names params u ++ closing u) in
    ap (λ r. first ++ r) (args-push names params us t) ∙ sym (append_assoc first (args_text names params (forest us)) (opening t ++ (term_text names params t ++ closing t)))

pub argument-more : (names : NamesData) (params : List (List ℕ)) (args : List (Tree Head)) (n : ℕ) (t : Tree Head) → slice_get args n ≡ Some t
    → args_text names params (forest (take n args)) ++ (opening t ++ (term_text names params t ++ closing t)) ≡ args_text names params (forest (take (n + 1) args))
argument-more names params args n t at =
    let more : take (n + 1) args ≡ take n args ++ t ∷ [] = take_more args n t (slice_get_within args n t at) ∙ ap (λ u. take n args ++ u ∷ []) (get_or_from_slice_get args n t t at) in
    sym (ap (λ ts. args_text names params (forest ts)) more ∙ args-push names params (take n args) t)

-- one more rule
pub enumerate-push : {A : Type 0} (k : ℕ) (xs : List A) (n : ℕ) (x : A) → slice_get xs n ≡ Some x → enumerate_from k (take (suc n) xs) ≡ enumerate_from k (take n xs) ++ (k + n, x) ∷ []
enumerate-push k [] n x at = absurd (cc)
enumerate-push k (y ∷ ys) zero x at = let e : k ≡ k + 0 = omega arith in λ i. (e i, same_Some y x at i) ∷ []
enumerate-push k (y ∷ ys) (suc n) x at =
    let e : k + 1 + n ≡ k + suc n = omega arith in ap (λ zs. (k, y) ∷ zs) (enumerate-push (k + 1) ys n x at ∙ ap (λ m. enumerate_from (k + 1) (take n ys) ++ (m, x) ∷ []) e)

pub rule-more : (names : NamesData) (rules : List Rule) (n : ℕ) (r : Rule) → slice_get rules n ≡ Some r
    → rules_text names (take n rules) ++ rule_text names n (params_at names.params n) r ≡ rules_text names (take (n + 1) rules)
rule-more names rules n r at =
    let f = λ (p : ℕ × Rule). rule_text names p.0 (params_at names.params p.0) p.1 in
    let zero_n : 0 + n ≡ n = omega arith in
    let pushed : enumerate_from 0 (take (n + 1) rules) ≡ enumerate_from 0 (take n rules) ++ (n, r) ∷ [] =
    rw add-one (enumerate-push 0 rules n r at ∙ ap (λ m. enumerate_from 0 (take n rules) ++ (m, r) ∷ []) zero_n) in
    sym (ap (flat_map f) pushed ∙ (flat_map-append f (enumerate_from 0 (take n rules)) ((n, r) ∷ []) ∙ ap (λ t. flat_map f (enumerate_from 0 (take n rules)) ++ t) (append-nil (f (n, r)))))

-- what stands round an argument
pub opening-none : (h : Head) (ts : List (Tree Head)) (n : ℕ) → n ≡ length ts → nat_eq n 0 ≡ true → opening (node h (forest ts)) ≡ codes " "
opening-none h [] n e f = refl
opening-none h (t ∷ ts) n e f = absurd (omega (arith, e, eqb-true n 0 f))

pub opening-many : (h : Head) (ts : List (Tree Head)) (n : ℕ) → n ≡ length ts → nat_eq n 0 ≡ false → opening (node h (forest ts)) ≡ codes " ("
opening-many h [] n e f = absurd (let g : true ≡ false = sym (ap (λ m. nat_eq m 0) e) ∙ f in (cc))
opening-many h (t ∷ ts) n e f = refl

pub closing-none : (h : Head) (ts : List (Tree Head)) (n : ℕ) → n ≡ length ts → nat_eq n 0 ≡ true → closing (node h (forest ts)) ≡ []
closing-none h [] n e f = refl
closing-none h (t ∷ ts) n e f = absurd (omega (arith, e, eqb-true n 0 f))

pub closing-many : (h : Head) (ts : List (Tree Head)) (n : ℕ) → n ≡ length ts → nat_eq n 0 ≡ false → closing (node h (forest ts)) ≡ codes ")"
closing-many h [] n e f = absurd (let g : true ≡ false = sym (ap (λ m. nat_eq m 0) e) ∙ f in (cc))
closing-many h (t ∷ ts) n e f = refl

-- the states on the right of a transition
pub states-none : (names : NamesData) (qs : List ℕ) → nat_eq (length qs) 0 ≡ true → codes " " ≡ states_text names qs
states-none names [] f = refl
states-none names (q ∷ qs) f = absurd (omega (arith, eqb-true (length (q ∷ qs)) 0 f))

pub states-some : (names : NamesData) (qs : List ℕ) → nat_eq (length qs) 0 ≡ false → flat_map (λ q. codes " " ++ name_at names.states q) qs ≡ states_text names qs
states-some names [] f = absurd (cc)
states-some names (q ∷ qs) f = refl
