-- Worked examples of sites and of chains.
--     a nonterminal without parameters
--         empty_chain      it has the empty chain
--         no_other_chain   and no other
--     `S -> A (F c) d. A f y -> f y. F x z -> b x z.`
--         call_site, gives_c       `F c` is a site of F with nothing given, and gives c to x
--         handed_site, gives_y     `f y` is one with one argument given, as f may stand for `F c`, and gives y to z
--         chain                    the two are a chain of F
--         whole, gives_d           `A (F c) d` alone is one of A, and gives d to y
--         not_unhanded             with nothing given `f y` is no site of F
--         skips_first              no chain of F begins with `f y`: it would skip x
--         skips_last               `F c` alone is none: it skips z
--         gives_again              none begins with `F c` twice, which would give x twice
use Rattle.std.specs.Prelude.{◌≡◌, refl, ℕ, ◌+◌, ◌≤◌, List, [], ◌∷◌, length, Contains}
use Rattle.std.proofs.Common.{sym, ap, subst, arith, inl, inr}
use Rattle.std.proofs.lemmas.Option.{same_Some}
use Rattle.hs_scheme.specs.declared.term.Head.{Head}
use Rattle.hs_scheme.specs.declared.term.Head.TheVariants.{Var, Nt, Tm}
use Rattle.hs_scheme.specs.declared.term.Rule.{Rule}
use Rattle.hs_scheme.specs.declared.flow.FlowPair.{FlowPair}
use Rattle.hs_scheme.specs.declared.flow.HeadPair.{HeadPair}
use Rattle.hs_scheme.specs.declared.flow.Pair.{Pair}
use Rattle.hs_scheme.specs.declared.flow.Pair.TheVariants.{OfFlow, OfHead}
use Rattle.hs_scheme.specs.Tree.{Tree, node, none, more}
use Rattle.hs_scheme.specs.flow.Points.{PointData, points_of}
use Rattle.hs_scheme.specs.flow.Flow.{IsBase, pairs_of}
use Rattle.hs_scheme.specs.sorting.Sorting.{o, arrow}
use Rattle.hs_scheme.specs.Problem.{ProblemData}
use Rattle.hs_scheme.proofs.Lists.{Contains-at, uncons, only}
use Rattle.hs_table.specs.Entries.{params_of}
use Rattle.hs_weak.specs.Sites.{SiteData, IsSite, GivesTo, IsChainFrom, IsChain}

pub empty_chain : (p : ProblemData) (G : ℕ) → params_of p G ≡ 0 → IsChain p G []
empty_chain p G no_params = sym no_params

-- a chain goes no further than the parameters
within : (p : ProblemData) (G g : ℕ) (sites : List SiteData) → IsChainFrom p G g sites → g ≤ params_of p G
within p G g [] e = omega (arith, e)
within p G g (s ∷ sites) (given, (of, (site, rest))) = let r = within p G (g + length of.args) sites rest in omega (arith, r)

pub no_other_chain : (p : ProblemData) (G : ℕ) → params_of p G ≡ 0 → (sites : List SiteData) → IsChain p G sites → sites ≡ []
no_other_chain p G no_params [] chain = refl
no_other_chain p G no_params (s ∷ sites) (given, (of, (site, rest))) = let r = within p G (0 + length of.args) sites rest in absurd (omega (arith, r, no_params, site.some))

abbrev leaf : Head → Tree Head
leaf h = node h none

-- A and F are the nonterminals 1 and 2, b, c and d the terminals 0, 1 and 2; the points of S are 0 `A (F c) d`, 1 `F c`, 2 `c` and 3 `d`,
-- those of A are 4 `f y` and 5 `y`, and those of F 6 `b x z`, 7 `x` and 8 `z`
abbrev rules : List Rule
rules =
    record { params = 0; body = node (Nt 1) (more (node (Nt 2) (more (leaf (Tm 1)) none)) (more (leaf (Tm 2)) none)) }
    ∷ record { params = 2; body = node (Var 0) (more (leaf (Var 1)) none) }
    ∷ record { params = 2; body = node (Tm 0) (more (leaf (Var 0)) (more (leaf (Var 1)) none)) }
    ∷ []

abbrev flows : List FlowPair
flows =
    record { rule = 1; param = 0; point = 1 } ∷ record { rule = 1; param = 1; point = 3 } ∷ record { rule = 2; param = 0; point = 2 } ∷ record { rule = 2; param = 1; point = 5 } ∷ []

-- `F c` may become F with one argument given
abbrev f_c : HeadPair
f_c = record { point = 1; rule = 2; given = 1 }

abbrev example : ProblemData
example = record {
  sorted = record {
    scheme = record { rules = rules; ranks = 2 ∷ 0 ∷ 0 ∷ [] };
    automaton = record { states = 1; transitions = [] };
    names = record { rules = []; params = []; terminals = []; states = [] };
    sorts = o ∷ arrow (arrow o o) (arrow o o) ∷ arrow o (arrow o o) ∷ [];
  };
  points = points_of rules;
  flow = record { pairs = flows; heads = f_c ∷ [] };
}

abbrev found : List Pair
found = pairs_of flows (f_c ∷ [])

abbrev call : SiteData
call = record { point = 1; given = 0 }

abbrev at_call : PointData
at_call = record { rule = 0; head = Nt 2; args = 2 ∷ [] }

abbrev handed : SiteData
handed = record { point = 4; given = 1 }

abbrev at_handed : PointData
at_handed = record { rule = 1; head = Var 0; args = 5 ∷ [] }

pub call_site : IsSite example 2 call at_call
call_site = record { at = refl; base = (refl, refl); some = omega arith }

pub gives_c : GivesTo example call 0 2
gives_c = record { of = at_call; at = refl; place = 0; argument = refl; parameter = refl }

pub handed_site : IsSite example 2 handed at_handed
handed_site = record {
  at = refl;
  base = (1, (Contains-at found 0 (OfFlow (record { rule = 1; param = 0; point = 1 })) refl, Contains-at found 4 (OfHead f_c) refl));
  some = omega arith;
}

pub gives_y : GivesTo example handed 1 5
gives_y = record { of = at_handed; at = refl; place = 0; argument = refl; parameter = refl }

pub chain : IsChain example 2 (call ∷ handed ∷ [])
chain = (refl, (at_call, (call_site, (refl, (at_handed, (handed_site, refl))))))

abbrev both : SiteData
both = record { point = 0; given = 0 }

abbrev at_both : PointData
at_both = record { rule = 0; head = Nt 1; args = 1 ∷ 3 ∷ [] }

pub whole : IsChain example 1 (both ∷ [])
whole = (refl, (at_both, (record { at = refl; base = (refl, refl); some = omega arith }, refl)))

pub gives_d : GivesTo example both 1 3
gives_d = record { of = at_both; at = refl; place = 1; argument = refl; parameter = refl }

-- nothing may become a nonterminal but `F c`, with one argument given
head_found : (h : HeadPair) → Contains found (OfHead h) → h.given ≡ 1
head_found h m = behind_flows flows m
  where
    behind_flows : (fs : List FlowPair) → Contains (pairs_of fs (f_c ∷ [])) (OfHead h) → h.given ≡ 1
    behind_flows [] c = let e : OfHead h ≡ OfHead f_c = only (OfHead f_c) (OfHead h) c in let same : h ≡ f_c = cc in ap (λ (k : HeadPair). k.given) same
    behind_flows (f ∷ fs) c = elim (uncons (OfFlow f) (OfHead h) (pairs_of fs (f_c ∷ [])) c) [
      | inl e ↦ absurd (cc)
      | inr there ↦ behind_flows fs there
    ]

pub not_unhanded : (of : PointData) → IsSite example 2 (record { point = 4; given = 0 }) of → ⊥
not_unhanded of site =
    let base = subst (λ (d : PointData). IsBase found d.rule d.head 2 0) (sym (same_Some at_handed of site.at)) site.base in
    let given : 0 ≡ 1 = head_found (record { point = base.0; rule = 2; given = 0 }) base.1.1 in
    omega (arith, given)

pub skips_first : (sites : List SiteData) → IsChain example 2 (handed ∷ sites) → ⊥
skips_first sites (given, rest) = omega (arith, given)

pub skips_last : IsChain example 2 (call ∷ []) → ⊥
skips_last (given, (of, (site, all))) = let one : 1 ≡ length of.args = ap (λ (d : PointData). length d.args) (same_Some at_call of site.at) in omega (arith, one, all)

pub gives_again : (sites : List SiteData) → IsChain example 2 (call ∷ call ∷ sites) → ⊥
gives_again sites (given, (of, (site, (again, rest)))) = omega (arith, again, site.some)
