-- The rows of an automaton's transitions, one transition after another.
use Rattle.std.proofs.Common.{◌≡◌, refl, sym, ◌∙◌, ap, subst, ℕ, suc, ◌+◌, ◌⊎◌, inl, inr, Bool, true, false, ◌&&◌, nat_eq, List, [], ◌∷◌, ◌++◌, length, slice_get, Option, Some, None, option_map, unwrap_or, find, cond, Vec, Contains, ◌↔◌, arith}
use Rattle.std.specs.declared.alloc.Global.{Global}
use Rattle.std.proofs.lemmas.Bool.{eqb-true, eq-eqb}
use Rattle.std.proofs.lemmas.Option.{slice_get_within, same_Some}
use Rattle.std.proofs.lemmas.List.Elements.{Contains-append_left, Contains-push, Contains-push_cases}
use Rattle.hs_scheme.specs.Key.{triple_eq}
use Rattle.hs_scheme.specs.acceptance.Transition.{TransitionData}
use Rattle.hs_scheme.specs.acceptance.Automaton.{is_of, IsDeterministic}
use Rattle.hs_scheme.specs.acceptance.Transitions.{items_of, IsPlaceOf, Reads, IsByTerminal, IsRead, IsByChild, GainsReads}
use Rattle.hs_scheme.proofs.TransitionIndex.{is_of-true, find-only, le_last}

items_or : (o : Option (Vec ℕ Global)) (fresh : Vec ℕ Global) → fresh.items ≡ [] → (unwrap_or o fresh).items ≡ items_of o
items_or None fresh e = e
items_or (Some v) fresh e = refl

-- the row of a key is taken out, gets the item at its end, and is put back; this is what stands at a key
pub row_added : (here : Bool) (old out new at_key o : Option (Vec ℕ Global)) (row pushed fresh : Vec ℕ Global) (item : ℕ) → (here ≡ true → at_key ≡ old) → o ≡ at_key → fresh.items ≡ [] → row ≡ unwrap_or o fresh
    → pushed.items ≡ row.items ++ item ∷ [] → out ≡ cond here None old → new ≡ cond here (Some pushed) out → items_of new ≡ cond here (items_of old ++ item ∷ []) (items_of old)
row_added true old out new at_key o row pushed fresh item key was empty is more removed back =
    ap items_of back ∙ (more ∙ ap (λ xs. xs ++ item ∷ []) (ap (λ (v : Vec ℕ Global). v.items) is ∙ (items_or o fresh empty ∙ ap items_of (was ∙ key refl))))
row_added false old out new at_key o row pushed fresh item key was empty is more removed back = ap items_of (back ∙ removed)

-- an item is in a row that may have got one more
gained : (here : Bool) (xs ys : List ℕ) (x y : ℕ) → ys ≡ cond here (xs ++ x ∷ []) xs → Contains ys y → Contains xs y ⊎ ((here ≡ true) × (x ≡ y))
gained true xs ys x y e h = elim (Contains-push_cases xs x y (subst (λ (zs : List ℕ). Contains zs y) e h)) [ inl old ↦ inl old | inr new ↦ inr (refl, new) ]
gained false xs ys x y e h = inl (subst (λ (zs : List ℕ). Contains zs y) e h)

still : (here : Bool) (xs ys : List ℕ) (x y : ℕ) → ys ≡ cond here (xs ++ x ∷ []) xs → Contains xs y → Contains ys y
still true xs ys x y e h = subst (λ (zs : List ℕ). Contains zs y) (sym e) (Contains-append_left xs (x ∷ []) y h)
still false xs ys x y e h = subst (λ (zs : List ℕ). Contains zs y) (sym e) h

now_there : (here : Bool) (xs ys : List ℕ) (x : ℕ) → ys ≡ cond here (xs ++ x ∷ []) xs → here ≡ true → Contains ys x
now_there true xs ys x e h = subst (λ (zs : List ℕ). Contains zs x) (sym e) (Contains-push xs x)
now_there false xs ys x e h = absurd (cc)

same_at : (ts : List TransitionData) (i n : ℕ) (t u : TransitionData) → slice_get ts n ≡ Some t → slice_get ts i ≡ Some u → i ≡ n → t ≡ u
same_at ts i n t u at h e = same_Some t u (sym at ∙ (ap (λ k. slice_get ts k) (sym e) ∙ h))

pub terminal_more : (ts : List TransitionData) (n : ℕ) (t : TransitionData) (was now : ℕ → List ℕ) → slice_get ts n ≡ Some t
    → ((a : ℕ) → now a ≡ cond (nat_eq t.terminal a) (was a ++ n ∷ []) (was a)) → IsByTerminal ts n was → IsByTerminal ts (n + 1) now
terminal_more ts n t was now at grown so_far a i = (
  λ h. elim (gained (nat_eq t.terminal a) (was a) (now a) n i (grown a) h) [
    | inl old ↦ let p = (so_far a i).0 old in (omega (arith, p.0), p.1)
    | inr (here, same) ↦ (omega arith, (t, (subst (λ (k : ℕ). slice_get ts k ≡ Some t) same at, eqb-true t.terminal a here)))
  ],
  λ p. elim (le_last i n p.0) [
    | inl last ↦
        let e : t ≡ p.1.0 = same_at ts i n t p.1.0 at p.1.1.0 last in
        let own : nat_eq t.terminal a ≡ true = eq-eqb t.terminal a (ap (λ (u : TransitionData). u.terminal) e ∙ p.1.1.1) in
        subst (Contains (now a)) (sym last) (now_there (nat_eq t.terminal a) (was a) (now a) n (grown a) own)
    | inr less ↦ still (nat_eq t.terminal a) (was a) (now a) n i (grown a) ((so_far a i).1 (less, p.1))
  ],
)

three : (b c d : Bool) → b && c && d ≡ true → (b ≡ true) × ((c ≡ true) × (d ≡ true))
three true true true h = (refl, (refl, refl))
three true true false h = absurd (cc)
three true false d h = absurd (cc)
three false c d h = absurd (cc)

pub triple_same : (a b c x y z : ℕ) → triple_eq (a, b, c) (x, y, z) ≡ true → (a ≡ x) × ((b ≡ y) × (c ≡ z))
triple_same a b c x y z h = let p = three (nat_eq a x) (nat_eq b y) (nat_eq c z) h in (eqb-true a x p.0, (eqb-true b y p.1.0, eqb-true c z p.1.1))

same_triple : (a b c x y z : ℕ) → a ≡ x → b ≡ y → c ≡ z → triple_eq (a, b, c) (x, y, z) ≡ true
same_triple a b c x y z e f g = rw (eq-eqb a x e, eq-eqb b y f, eq-eqb c z g)

-- one more child of the transition
pub child_more : (t : TransitionData) (m state : ℕ) (first was now : ℕ → ℕ → ℕ → List ℕ) → slice_get t.to m ≡ Some state
    → ((a child s : ℕ) → now a child s ≡ cond (triple_eq (t.terminal, m, state) (a, child, s)) (was a child s ++ t.from ∷ []) (was a child s)) → GainsReads t m first was → GainsReads t (m + 1) first now
child_more t m state first was now at grown so_far a child s q = (
  λ h. elim (gained (triple_eq (t.terminal, m, state) (a, child, s)) (was a child s) (now a child s) t.from q (grown a child s) h) [
    | inl old ↦ elim ((so_far a child s q).0 old) [ inl before ↦ inl before | inr (lt, read) ↦ inr (omega (arith, lt), read) ]
    | inr (here, same) ↦
        let p = triple_same t.terminal m state a child s here in
        inr (omega (arith, p.1.0), record { from = same; terminal = p.0; to = subst (λ (k : ℕ). slice_get t.to k ≡ Some s) p.1.0 (at ∙ ap (λ (k : ℕ). Some k) p.1.1) })
  ],
  λ h. elim h [
    | inl before ↦ still (triple_eq (t.terminal, m, state) (a, child, s)) (was a child s) (now a child s) t.from q (grown a child s) ((so_far a child s q).1 (inl before))
    | inr (lt, read) ↦ elim (le_last child m lt) [
      | inl last ↦
          let value : state ≡ s = same_Some state s (sym at ∙ (ap (λ k. slice_get t.to k) (sym last) ∙ read.to)) in
          subst (Contains (now a child s)) read.from
          (now_there (triple_eq (t.terminal, m, state) (a, child, s)) (was a child s) (now a child s) t.from (grown a child s) (same_triple t.terminal m state a child s read.terminal (sym last) value))
      | inr less ↦ still (triple_eq (t.terminal, m, state) (a, child, s)) (was a child s) (now a child s) t.from q (grown a child s) ((so_far a child s q).1 (inr (less, read)))
    ]
  ],
)

pub children_more : (ts : List TransitionData) (n : ℕ) (t : TransitionData) (was now : ℕ → ℕ → ℕ → List ℕ) → slice_get ts n ≡ Some t → GainsReads t (length t.to) was now → IsByChild ts n was → IsByChild ts (n + 1) now
children_more ts n t was now at gains so_far a child s q = (
  λ h. elim ((gains a child s q).0 h) [
    | inl before ↦ let r = (so_far a child s q).0 before in record { place = r.place; within = omega (arith, r.within); transition = r.transition; at = r.at; read = r.read }
    | inr (lt, read) ↦ record { place = n; within = omega arith; transition = t; at = at; read = read }
  ],
  λ r. elim (le_last r.place n r.within) [
    | inl last ↦
        let e : r.transition ≡ t = sym (same_at ts r.place n t r.transition at r.at last) in
        let read : IsRead t a child s q = subst (λ (u : TransitionData). IsRead u a child s q) e r.read in
        (gains a child s q).1 (inr (slice_get_within t.to child s read.to, read))
    | inr less ↦ (gains a child s q).1 (inl ((so_far a child s q).1 (record { place = r.place; within = less; transition = r.transition; at = r.at; read = r.read })))
  ],
)

find-there : {A : Type 0} (p : A → Bool) (xs : List A) (x : A) → find p xs ≡ Some x → (i : ℕ) × ((slice_get xs i ≡ Some x) × (p x ≡ true))
find-there p [] x h = absurd (cc)
find-there {A} p (y ∷ ys) x h = go (p y) refl h (λ k. find-there p ys x k)
  where
    go : (b : Bool) → p y ≡ b → cond b (Some y) (find p ys) ≡ Some x → (find p ys ≡ Some x → (i : ℕ) × ((slice_get ys i ≡ Some x) × (p x ≡ true))) → (i : ℕ) × ((slice_get (y ∷ ys) i ≡ Some x) × (p x ≡ true))
    go true e h later = let same : y ≡ x = same_Some y x h in (0, (h, subst (λ (z : A). p z ≡ true) same e))
    go false e h later = let l = later h in (suc l.0, l.1)

pub mapped : {A B : Type 0} (f : A → B) (o : Option A) (y : B) → option_map f o ≡ Some y → (x : A) × ((o ≡ Some x) × (f x ≡ y))
mapped f None y h = absurd (cc)
mapped f (Some x) y h = (x, (refl, same_Some (f x) y h))

-- the rows of all transitions tell what `next` tells
pub reads_exactly : (ts : List TransitionData) (rows : ℕ → ℕ → ℕ → List ℕ) → IsDeterministic ts → IsByChild ts (length ts) rows → (a child s q : ℕ) → Contains (rows a child s) q ↔ Reads ts a child s q
reads_exactly ts rows det by a child s q = (
  λ h.
      let r = (by a child s q).0 h in
      let t = r.transition in
      let own : is_of q a t ≡ true = rw (eq-eqb t.from q r.read.from, eq-eqb t.terminal a r.read.terminal) in
      let found : find (is_of q a) ts ≡ Some t = find-only (is_of q a) ts r.place t r.at own (λ j u at_j e.
      let p = is_of-true q a u e in det j r.place u t at_j r.at (p.0 ∙ sym r.read.from) (p.1 ∙ sym r.read.terminal)) in
      (t.to, (ap (option_map (λ (u : TransitionData). u.to)) found, r.read.to)),
  λ h.
      let m = mapped (λ (u : TransitionData). u.to) (find (is_of q a) ts) h.0 h.1.0 in
      let f = find-there (is_of q a) ts m.0 m.1.0 in
      let p = is_of-true q a m.0 f.1.1 in
      (by a child s q).1 (record {
        place = f.0;
        within = slice_get_within ts f.0 m.0 f.1.0;
        transition = m.0;
        at = f.1.0;
        read = record { from = p.0; terminal = p.1; to = ap (λ (xs : List ℕ). slice_get xs child) m.1.1 ∙ h.1.1 };
      }),
)

pub places_exactly : (ts : List TransitionData) (rows : ℕ → List ℕ) → IsByTerminal ts (length ts) rows → (a i : ℕ) → Contains (rows a) i ↔ IsPlaceOf ts a i
places_exactly ts rows by a i = (λ h. ((by a i).0 h).1, λ p. (by a i).1 (slice_get_within ts i p.0 p.1.0, p))
