-- What a support names stands before it, and what is known at a continuation.
use Rattle.std.proofs.Common.{◌≡◌, refl, subst as along, ℕ, zero, suc, ◌<◌, ◌≤◌, List, [], ◌∷◌, length, get_or, take, slice_get, Some, arith}
use Rattle.std.specs.Prelude.{All}
use Rattle.std.proofs.lemmas.List.Elements.{All-nil, All-cons}
use Rattle.std.proofs.lemmas.Option.{slice_get_within, slice_get-get_or}
use Rattle.hs_scheme.specs.declared.term.Head.{Head}
use Rattle.hs_scheme.specs.declared.term.Head.TheVariants.{Var, Nt, Tm}
use Rattle.hs_scheme.specs.Problem.{ProblemData}
use Rattle.hs_table.specs.declared.support.HeadBy.{HeadBy}
use Rattle.hs_table.specs.declared.support.HeadBy.TheVariants.{Terminal, Rule, Param}
use Rattle.hs_table.specs.Types.{TypeTree}
use Rattle.hs_table.specs.Entries.{Env, EntryData, entry_at}
use Rattle.hs_table.specs.Follows.{IsHeadType, Chosen, done, next_argument, choose, Support}
use Rattle.hs_table.specs.Tables.{HasSupports}
use Rattle.hs_table_laws.proofs.Places.{at_take}
use Rattle.hs_verdict.specs.Evidence.{Evidence, Packs, evidence}
use Rattle.hs_types.specs.Interned.{Begins}
use Rattle.hs_path.specs.declared.evidence.Continuation.{Continuation}
use Rattle.hs_path.specs.declared.evidence.Store.{Store}
use Rattle.hs_path.specs.declared.moving.NamingMove.{NamingMove}
use Rattle.hs_path.specs.declared.moving.NamingMove.TheVariants.{End, Silent, Step}
use Rattle.hs_path.specs.Stored.{Piled, GrowsStore, Nothing, KnowsCurrent}
use Rattle.hs_path.specs.Moved.{HeadBefore, PremisesWithin, IsContinuationAt, Moves}
use Rattle.hs_path.proofs.StoredLemmas.{piled_grow}

module _ (p : ProblemData) (T : List EntryData) (i : ℕ) where
  head_within : (rule : ℕ) (h : Head) (by : HeadBy) (ty : TypeTree) → IsHeadType p (take i T) rule h by ty → HeadBefore i by
  head_within rule h (Terminal q child) ty is = tt
  head_within rule (Nt f) (Rule place) ty is = (at_take i T place is.entry is.holds.at).0
  head_within rule (Var x) (Rule place) ty is = absurd is
  head_within rule (Tm a) (Rule place) ty is = absurd is
  head_within rule (Var x) (Param y place) ty is = (at_take i T place is.1.entry is.1.holds.at).0
  head_within rule (Nt f) (Param y place) ty is = absurd is
  head_within rule (Tm a) (Param y place) ty is = absurd is

  chosen_within : {k : ℕ} {us : List ℕ} {ss : Env} {args : List (ℕ × ℕ)} {es : List EntryData} → Chosen p (take i T) k us ss args es → All (λ (c : ℕ × ℕ). c.1 < i) args
  chosen_within done = All-nil (λ (c : ℕ × ℕ). c.1 < i)
  chosen_within (next_argument c) = chosen_within c
  chosen_within (choose {i = k} {place = place} {args = args} {e = e} is point ty c) =
      All-cons (λ (c : ℕ × ℕ). c.1 < i) (k, place) args (at_take i T place e is.at).0 (chosen_within c)

pub premises_within : (p : ProblemData) (T : List EntryData) (supports : List Support) → HasSupports p T supports → (i : ℕ) (s : Support) → i < length T → slice_get supports i ≡ Some s → PremisesWithin p T i s
premises_within p T supports log i s lt at =
    let e : EntryData = entry_at T i in
    let f = log.follows i s e at (slice_get-get_or T i _ lt) in
    record {
      point = slice_get_within p.points.points e.point f.of f.at;
      head = head_within p T i f.of.rule f.of.head s.head _ f.head;
      args = chosen_within p T i f.are;
    }

pub begins_longer : {X : Type 0} (xs ys : List X) → Begins xs ys → length xs ≤ length ys
begins_longer [] ys b = omega arith
begins_longer (x ∷ xs) ys b = let r = slice_get_within ys (length xs) (get_or (x ∷ xs) (length xs) x) (b (length xs) _ (slice_get-get_or (x ∷ xs) (length xs) x (omega arith))) in omega (arith, r)

pub continuation_grows : (bound : ℕ) (old new : Store) (g : GrowsStore old new) (continuation : Continuation) (e : Evidence) → IsContinuationAt bound old continuation e → IsContinuationAt bound new continuation e
continuation_grows bound old new g continuation e at = record {
  node = record {
    own = at.node.own;
    is = at.node.is;
    within = at.node.within;
    packs = piled_grow bound old new g continuation.number continuation.number old.owns.items new.owns.items continuation.node.own.from continuation.node.own.to at.node.own (omega arith) g.owns at.node.packs;
  };
  within = omega (arith, at.within, begins_longer old.nodes.items new.nodes.items g.nodes);
  lowest = at.lowest;
}

module _ (bound : ℕ) (s : Store) (continuation : Continuation) (own : Packs) (nothing : Nothing bound s) (at : IsContinuationAt bound s continuation (evidence continuation.node.place own)) where
  own_packs : Piled bound s continuation.number s.owns.items continuation.node.own.from continuation.node.own.to own
  own_packs =
      let same : at.node.own ≡ own = (let e = at.node.is in cc) in
      along (λ (x : Packs). Piled bound s continuation.number s.owns.items continuation.node.own.from continuation.node.own.to x) same at.node.packs

  -- what is known by any bound from the continuation's number on
  pub continuation_knows : (below : ℕ) → continuation.number ≤ below → 0 < below → KnowsCurrent bound s below continuation.node own
  continuation_knows below le some = record {
    nothing = nothing;
    some = some;
    packs = piled_grow bound s s (record { nodes = λ i x e. e; owns = λ i x e. e; packs = λ i x e. e; members = λ i x e. e }) continuation.number below s.owns.items s.owns.items
        continuation.node.own.from continuation.node.own.to own le (λ i x e. e) own_packs;
  }

  pub some_nodes : 0 < length s.nodes.items
  some_nodes = slice_get_within s.nodes.items 0 nothing.0 nothing.1

  module _ (new : Store) (head : HeadBy) (terminal : ℕ) (of : ℕ → ℕ → Evidence) (packs : Packs) (items : List ℕ) where
    no_silent : (below lower : ℕ) (taken : NamingMove) → HeadBefore 0 head → Moves bound new below head terminal of packs items taken → Moves bound new lower head terminal of packs items taken
    no_silent below lower (End a q) within t = t
    no_silent below lower (Step label next) within t = t
    no_silent below lower (Silent next) within t = let none : t.m < 0 = along (HeadBefore 0) t.is within in absurd (omega (arith, none))

    -- at the lowest number no parameter is in front
    pub taken_at : (taken : NamingMove) → HeadBefore continuation.node.place head → ((below : ℕ) → KnowsCurrent bound s below continuation.node own → Moves bound new below head terminal of packs items taken)
        → Moves bound new continuation.number head terminal of packs items taken
    taken_at taken within are_taken = by_number continuation.number refl
      where
        by_number : (n : ℕ) → continuation.number ≡ n → Moves bound new continuation.number head terminal of packs items taken
        by_number zero e =
            no_silent (length s.nodes.items) continuation.number taken (along (λ (i : ℕ). HeadBefore i head) (at.lowest e) within)
            (are_taken (length s.nodes.items) (continuation_knows (length s.nodes.items) at.within some_nodes))
        by_number (suc n) e = are_taken continuation.number (continuation_knows continuation.number (omega arith) (omega (arith, e)))

pub head_weaker : (i n : ℕ) (head : HeadBy) → i ≤ n → HeadBefore i head → HeadBefore n head
head_weaker i n (Terminal q child) le within = tt
head_weaker i n (Rule place) le within = omega (arith, le, within)
head_weaker i n (Param x place) le within = omega (arith, le, within)
