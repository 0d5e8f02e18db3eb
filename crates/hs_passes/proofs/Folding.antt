-- One scan over the rules folds all aliases.
use Rattle.std.proofs.Common.{◌≡◌, refl, sym, ◌∙◌, ap, subst, ℕ, zero, suc, ◌+◌, ◌<◌, ◌≤◌, Bool, true, false, cond, List, [], ◌∷◌, slice_get, Option, Some, None, inl, inr, add-zero, arith}
use Rattle.std.specs.Prelude.{◌&&◌, nat_eq, not}
use Rattle.std.proofs.Math.Numerals.{one-add}
use Rattle.std.proofs.lemmas.Bool.{eq-eqb, eqb-true}
use Rattle.hs_scheme.specs.declared.term.Head.{Head}
use Rattle.hs_scheme.specs.declared.term.Head.TheVariants.{Var, Nt, Tm}
use Rattle.hs_scheme.specs.declared.term.Rule.{Rule}
use Rattle.hs_scheme.specs.Tree.{Tree, Trees, node, none, more}
use Rattle.hs_scheme.proofs.Lists.{not_equal}
use Rattle.hs_passes.specs.Selection.{place, renamed, renamed_all}
use Rattle.hs_passes.specs.Aliases.{is_parameter, are_parameters, target_in, alias_target, or_later, alias_from, first_alias}
use Rattle.hs_passes.proofs.Choosing.{place-eq}
use Rattle.hs_passes.proofs.Reaching.{either_le}
use Rattle.hs_passes.specs.Scan.{target_of}
use Rattle.hs_passes.proofs.Scanning.{kept_by, number_by}

module _ (to : ℕ → ℕ) where
  parameter-renamed : (j : ℕ) (t : Tree Head) → is_parameter j (renamed to t) ≡ is_parameter j t
  parameter-renamed j (node (Var k) none) = refl
  parameter-renamed j (node (Var k) (more t ts)) = refl
  parameter-renamed j (node (Nt f) ts) = refl
  parameter-renamed j (node (Tm a) ts) = refl

  parameters-renamed : (first d : ℕ) (ts : Trees Head) → are_parameters first d (renamed_all to ts) ≡ are_parameters first d ts
  parameters-renamed first zero none = refl
  parameters-renamed first zero (more t ts) = refl
  parameters-renamed first (suc d) none = refl
  parameters-renamed first (suc d) (more t ts) = λ i. parameter-renamed first t i && parameters-renamed (first + 1) d ts i

-- what an alias of g, or of nothing, is an alias of, where rep tells what stands for each nonterminal
abbrev pub now : (ℕ → ℕ) → ℕ → Option ℕ → Option ℕ
now rep h None = None
now rep h (Some g) = cond (nat_eq (rep g) h) None (Some (number_by rep g))

module _ (rep : ℕ → ℕ) (twice : (h : ℕ) → rep (rep h) ≡ rep h) where
  abbrev keep : ℕ → Bool
  keep = kept_by rep

  pub retarget_in : (h params : ℕ) (t : Tree Head) → keep h ≡ true → target_in (place keep h) params (renamed (number_by rep) t) ≡ now rep h (target_in h params t)
  retarget_in h params (node (Var j) ts) kept = refl
  retarget_in h params (node (Tm a) ts) kept = refl
  retarget_in h params (node (Nt g) ts) kept =
      (λ i. cond (not (place-eq keep (rep g) h (eq-eqb (rep (rep g)) (rep g) (twice g)) kept i) && parameters-renamed (number_by rep) 0 params ts i) (Some (number_by rep g)) None)
      ∙ by (nat_eq g h) refl (nat_eq (rep g) h) refl (are_parameters 0 params ts)
    where
      by : (a : Bool) → nat_eq g h ≡ a → (b : Bool) → nat_eq (rep g) h ≡ b → (p : Bool)
          → cond (not b && p) (Some (number_by rep g)) None ≡ now rep h (cond (not a && p) (Some g) None)
      by true e true d p = refl
      by true e false d p =
          let is : g ≡ h = eqb-true g h e in
          let q : nat_eq (rep g) h ≡ true = eq-eqb (rep g) h (ap rep is ∙ eqb-true (rep h) h kept) in
          let t = sym d ∙ q in absurd (cc)
      by false e true d true = sym (ap (λ c. cond c None (Some (number_by rep g))) d)
      by false e true d false = refl
      by false e false d true = sym (ap (λ c. cond c None (Some (number_by rep g))) d)
      by false e false d false = refl

alias_from_none : (rules : List Rule) (k : ℕ) → ((j : ℕ) (r : Rule) → slice_get rules j ≡ Some r → alias_target (k + j) r ≡ None) → alias_from k rules ≡ None
alias_from_none [] k each = refl
alias_from_none (r ∷ rules) k each =
    let here : alias_target k r ≡ None = ap (λ i. alias_target i r) (omega arith) ∙ each 0 r refl in
    ap (λ o. or_later k o (alias_from (k + 1) rules)) here
    ∙ alias_from_none rules (k + 1) (λ j q at. ap (λ i. alias_target i q) (omega arith) ∙ each (suc j) q at)

alias_from_at : (rules : List Rule) (k i : ℕ) (r : Rule) (g : ℕ) → slice_get rules i ≡ Some r → alias_target (k + i) r ≡ Some g
    → ((j : ℕ) (q : Rule) → j < i → slice_get rules j ≡ Some q → alias_target (k + j) q ≡ None) → alias_from k rules ≡ Some (k + i, g)
alias_from_at [] k i r g at is before = absurd (cc)
alias_from_at (s ∷ rules) k zero r g at is before =
    let same : s ≡ r = (cc) in
    let here : alias_target k s ≡ Some g = ap (λ (x : Rule). alias_target k x) same ∙ (ap (λ n. alias_target n r) (sym (add-zero k)) ∙ is) in
    ap (λ o. or_later k o (alias_from (k + 1) rules)) here ∙ ap (λ n. Some (n, g)) (omega arith)
alias_from_at (s ∷ rules) k (suc i) r g at is before =
    let here : alias_target k s ≡ None = ap (λ n. alias_target n s) (omega arith) ∙ before 0 s (omega arith) refl in
    ap (λ o. or_later k o (alias_from (k + 1) rules)) here
    ∙ (alias_from_at rules (k + 1) i r g at (ap (λ n. alias_target n r) (omega arith) ∙ is) (λ j q lt at_j. ap (λ n. alias_target n q) (omega arith) ∙ before (suc j) q (omega arith) at_j)
    ∙ ap (λ n. Some (n, g)) (omega arith))

pub first_alias_at : (all : List Rule) (f : ℕ) (r : Rule) (g : ℕ) → 0 < f → slice_get all f ≡ Some r → alias_target f r ≡ Some g
    → ((j : ℕ) (q : Rule) → 0 < j → j < f → slice_get all j ≡ Some q → alias_target j q ≡ None) → first_alias all ≡ Some (f, g)
first_alias_at all zero r g lt at is before = absurd (omega arith)
first_alias_at [] (suc f) r g lt at is before = absurd (cc)
first_alias_at (s ∷ rules) (suc f) r g lt at is before =
    alias_from_at rules 1 f r g at (ap (λ n. alias_target n r) (one-add f) ∙ is) (λ j q l at_j. ap (λ n. alias_target n q) (one-add j) ∙ before (suc j) q (omega arith) (omega arith) at_j)
    ∙ ap (λ n. Some (n, g)) (one-add f)

pub no_first_alias : (all : List Rule) → ((j : ℕ) (q : Rule) → 0 < j → slice_get all j ≡ Some q → alias_target j q ≡ None) → first_alias all ≡ None
no_first_alias [] each = refl
no_first_alias (s ∷ rules) each = alias_from_none rules 1 (λ j q at. ap (λ n. alias_target n q) (one-add j) ∙ each (suc j) q (omega arith) at)

-- the rules behind the start up to the k-th are scanned
pub record Scan (rules : List Rule) (rep : ℕ → ℕ) (k : ℕ) : Type 0 where
  pub twice : (h : ℕ) → rep (rep h) ≡ rep h
  pub ahead : (h : ℕ) → k < h → rep h ≡ h
  pub start : rep 0 ≡ 0
  pub settled : (h : ℕ) (r : Rule) → 0 < h → h ≤ k → rep h ≡ h → slice_get rules h ≡ Some r → now rep h (alias_target h r) ≡ None

module _ (rules : List Rule) (rep : ℕ → ℕ) (k : ℕ) (scan : Scan rules rep k) where
  abbrev f : ℕ
  f = suc k

  own : rep f ≡ f
  own = scan.ahead f (omega arith)

  -- where f stays, it is settled, too
  pub settle : (o : Option ℕ) → target_of f (slice_get rules f) ≡ o → now rep f o ≡ None → Scan rules rep f
  settle o e no_more = record {
    twice = scan.twice;
    ahead = λ h lt. scan.ahead h (omega arith);
    start = scan.start;
    settled = λ h r some le is at. elim (either_le h k le) [
      | inr old ↦ scan.settled h r some old is at
      | inl same ↦
          let here : target_of f (slice_get rules f) ≡ alias_target f r = ap (target_of f) (ap (slice_get rules) (sym same) ∙ at) in
          subst (λ n. now rep n (alias_target n r) ≡ None) (sym same) (ap (now rep f) (sym here ∙ e) ∙ no_more)
    ];
  }

  module _ (g : ℕ) (other : rep g ≡ f → ⊥) where
    abbrev then : ℕ → ℕ
    then h = cond (nat_eq (rep h) f) (rep g) (rep h)

    then_own : (h : ℕ) → (rep h ≡ f → ⊥) → then h ≡ rep h
    then_own h ne = ap (λ b. cond b (rep g) (rep h)) (not_equal (rep h) f ne)

    -- what stands for itself afterwards did before
    stood_before : (h : ℕ) → then h ≡ h → (rep h ≡ h) × (h ≡ f → ⊥)
    stood_before h e = by (nat_eq (rep h) f) refl e
      where
        by : (b : Bool) → nat_eq (rep h) f ≡ b → cond b (rep g) (rep h) ≡ h → (rep h ≡ h) × (h ≡ f → ⊥)
        by true d is =
            let to_f : rep h ≡ f = eqb-true (rep h) f d in
            absurd (other (is ∙ (sym (sym (ap rep is) ∙ (scan.twice g ∙ is)) ∙ to_f)))
        by false d is = (is, λ q. let t = sym d ∙ eq-eqb (rep h) f (is ∙ q) in absurd (cc))

    pub fold_one : Scan rules then f
    fold_one = record {
      twice = λ h. by h (nat_eq (rep h) f) refl;
      ahead = λ h lt.
          let is : rep h ≡ h = scan.ahead h (omega arith) in
          then_own h (λ e. absurd (omega (arith, e, is, lt))) ∙ is;
      start = then_own 0 (λ e. absurd (omega (arith, e, scan.start))) ∙ scan.start;
      settled = λ h r some le is at.
          let was = stood_before h is in
          elim (either_le h k le) [
            | inl same ↦ absurd (was.1 same)
            | inr old ↦ keep_settled h (alias_target h r) was.1 (scan.settled h r some old was.0 at)
          ];
    }
      where
        by : (h : ℕ) (b : Bool) → nat_eq (rep h) f ≡ b → then (cond b (rep g) (rep h)) ≡ cond b (rep g) (rep h)
        by h true d = then_own (rep g) (λ e. other (sym (scan.twice g) ∙ e)) ∙ scan.twice g
        by h false d = then_own (rep h) (λ e. let t = sym d ∙ eq-eqb (rep h) f (sym (scan.twice h) ∙ e) in absurd (cc)) ∙ scan.twice h

        keep_settled : (h : ℕ) (o : Option ℕ) → (h ≡ f → ⊥) → now rep h o ≡ None → now then h o ≡ None
        keep_settled h None ne e = refl
        keep_settled h (Some q) ne e = at (nat_eq (rep q) h) refl e
          where
            at : (b : Bool) → nat_eq (rep q) h ≡ b → cond b None (Some (number_by rep q)) ≡ None → cond (nat_eq (then q) h) None (Some (number_by then q)) ≡ None
            at false d e = absurd (cc)
            at true d e =
                let is : rep q ≡ h = eqb-true (rep q) h d in
                ap (λ c. cond c None (Some (number_by then q))) (eq-eqb (then q) h (then_own q (λ r. ne (sym is ∙ r)) ∙ is))
