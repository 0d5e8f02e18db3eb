-- The nodes of nonterminals and terminals, and claims on each of a list's elements.
use Rattle.std.proofs.Common.{◌≡◌, refl, sym, ◌∙◌, ap, subst, ℕ, ◌+◌, ◌^◌, ◌<◌, ◌≤◌, List, [], ◌++◌, length, slice_get, replicate, length-append, Option, Some, None, inl, inr, arith}
use Rattle.std.proofs.lemmas.List.{length-replicate}
use Rattle.std.proofs.lemmas.Option.{same_Some}
use Rattle.hs_scheme.proofs.TransitionIndex.{le_last}
use Rattle.hs_scheme.proofs.Lists.{place-append}
use Rattle.hs_sorts.specs.declared.store.Shape.TheVariants.{Open}
use Rattle.hs_sorts.specs.declared.store.Node.{Node}
use Rattle.hs_sorts.specs.declared.store.Node.TheVariants.{Root}
use Rattle.hs_sorts.specs.Nodes.{Valuation, IsValuationOf, FitsNode, IsStore}
use Rattle.hs_sorts.specs.Constraints.{Agree, Claims, IsRankedIf}
use Rattle.hs_sorts.specs.Solving.{LaysOut, EachBefore}
use Rattle.hs_sorts.proofs.Lists.{get_replicate}
use Rattle.hs_sorts.proofs.NodeLemmas.{agree_trans, over, over_agrees, over_later, respects_more}

-- no claim yet
pub claims_none : (nodes : List Node) (P : Valuation → Type 0) → length nodes ≤ 2 ^ 32 → ((v : Valuation) → P v) → Claims nodes nodes P
claims_none nodes P few all = record {
  longer = omega arith;
  few = few;
  sound = λ v r. (r, all v);
  complete = λ v r p. record { valuation = v; agrees = record { at = λ i h. refl }; respects = r };
}

pub claims_chain : (old now next : List Node) (P Q R : Valuation → Type 0) → Claims old now P → Claims now next Q → ((v w : Valuation) → Agree (length old) v w → Q v → Q w)
    → ((v : Valuation) → P v → Q v → R v) → ((v : Valuation) → R v → P v × Q v) → Claims old next R
claims_chain old now next P Q R a b stable both parts = record {
  longer = omega (arith, a.longer, b.longer);
  few = b.few;
  sound = λ v r. let n = b.sound v r in let m = a.sound v n.0 in (m.0, both v m.1 n.1);
  complete = λ v r h.
      let p = parts v h in
      let w = a.complete v r p.0 in
      let z = b.complete w.valuation w.respects (stable v w.valuation w.agrees p.1) in
      record { valuation = z.valuation; agrees = agree_trans (length old) (length now) v w.valuation z.valuation a.longer w.agrees z.agrees; respects = z.respects };
}

pub claims_clash : (old now : List Node) (P Q : Valuation → Type 0) → Claims old now P → ((v : Valuation) → IsValuationOf v now → Q v → ⊥) → ((v w : Valuation) → Agree (length old) v w → Q v → Q w)
    → (v : Valuation) → IsValuationOf v old → P v → Q v → ⊥
claims_clash old now P Q a never stable v r p q = let w = a.complete v r p in never w.valuation w.respects (stable v w.valuation w.agrees q)

module _ {A : Type 0} (Q : ℕ → A → Valuation → Type 0) (xs : List A) (old : List Node)
    (stable : (f : ℕ) (x : A) (v w : Valuation) → slice_get xs f ≡ Some x → Agree (length old) v w → Q f x v → Q f x w) where
  module _ (now : List Node) (i : ℕ) (x : A) (at : slice_get xs i ≡ Some x) (so_far : Claims old now (EachBefore Q xs i)) where
    pub each_more : (next : List Node) → Claims now next (Q i x) → Claims old next (EachBefore Q xs (i + 1))
    each_more next b =
        claims_chain old now next (EachBefore Q xs i) (Q i x) (EachBefore Q xs (i + 1)) so_far b (λ v w. stable i x v w at)
        (λ v p q f y h there. elim (le_last f i h) [
          | inl same ↦
              let e : slice_get xs i ≡ Some y = subst (λ (j : ℕ). slice_get xs j ≡ Some y) same there in
              subst (λ (j : ℕ). Q j y v) (sym same) (subst (λ (z : A). Q i z v) (same_Some x y (sym at ∙ e)) q)
          | inr less ↦ p f y less there
        ])
        (λ v h. ((λ f y l there. h f y (omega arith) there), h i x (omega arith) at))

    pub each_clash : (n : ℕ) → i < n → ((v : Valuation) → IsValuationOf v now → Q i x v → ⊥) → (v : Valuation) → IsValuationOf v old → EachBefore Q xs n v → ⊥
    each_clash n l never v r h = claims_clash old now (EachBefore Q xs i) (Q i x) so_far never (λ u w. stable i x u w at) v r (λ f y less there. h f y (omega arith) there) (h i x l at)

-- open nodes are respected whatever their sorts
pub open_respected : (v : Valuation) (nodes : List Node) (n : ℕ) → IsStore nodes → (w : Valuation) → Agree (length nodes) v w → IsValuationOf v nodes → IsValuationOf w (nodes ++ replicate n (Root Open))
open_respected v nodes n is w same r = respects_more nodes (replicate n (Root Open)) v w is same r (λ j m h.
    subst (λ (x : Node). FitsNode w (w (length nodes + j)) x) (sym (get_replicate n j (Root Open) m h)) tt)

pub row_long : (nodes : List Node) (n : ℕ) → length (nodes ++ replicate n (Root Open)) ≡ length nodes + n
row_long nodes n = length-append nodes (replicate n (Root Open)) ∙ ap (λ m. length nodes + m) (length-replicate n (Root Open))

module _ (rules terminals : ℕ) where
  abbrev parts : List Node
  parts = ([] ++ replicate rules (Root Open)) ++ replicate terminals (Root Open)

  parts_long : length parts ≡ rules + terminals
  parts_long = row_long ([] ++ replicate rules (Root Open)) terminals ∙ ap (λ m. m + terminals) (length-replicate rules (Root Open))

  is_open : (i : ℕ) (n : Node) → slice_get parts i ≡ Some n → n ≡ Root Open
  is_open i n h = elim (place-append ([] ++ replicate rules (Root Open)) (replicate terminals (Root Open)) i n h) [
    | inl e ↦ get_replicate rules i (Root Open) n e
    | inr l ↦ get_replicate terminals l.place (Root Open) n l.at
  ]

  pub laid_out : (empty mid nodes : List Node) → empty ≡ [] → mid ≡ empty ++ replicate rules (Root Open) → nodes ≡ mid ++ replicate terminals (Root Open) → length nodes ≤ 2 ^ 32 → LaysOut rules terminals nodes
  laid_out empty mid nodes none first second few =
      let whole : nodes ≡ parts = second ∙ (λ i. (first ∙ ap (λ xs. xs ++ replicate rules (Root Open)) none) i ++ replicate terminals (Root Open)) in
      let long : length nodes ≡ rules + terminals = ap length whole ∙ parts_long in
      record {
        few = few;
        room = omega (arith, long);
        any = λ s. record {
          valuation = over rules s.nonterminal s.terminal;
          respects = record {
            fits = λ i n h.
                subst (λ (x : Node). FitsNode (over rules s.nonterminal s.terminal) (over rules s.nonterminal s.terminal i) x) (sym (is_open i n (subst (λ (xs : List Node). slice_get xs i ≡ Some n) whole h))) tt;
          };
          realizes = record {
            nonterminals = λ f below. (over_agrees rules s.nonterminal s.terminal).at f below;
            terminals = λ a below. over_later rules a s.nonterminal s.terminal;
          };
        };
      }

-- what stays true where the node that it speaks of keeps its sort
pub ranked_stable : (n i : ℕ) (rank : Option ℕ) (v w : Valuation) → i < n → Agree n v w → IsRankedIf i rank v → IsRankedIf i rank w
ranked_stable n i None v w below same h = tt
ranked_stable n i (Some k) v w below same h = same.at i below ∙ h
