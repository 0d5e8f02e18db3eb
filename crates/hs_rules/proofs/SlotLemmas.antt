-- Candidates for slots.
use Rattle.std.proofs.Common.{◌≡◌, refl, sym, ◌∙◌, ap, subst, ℕ, zero, suc, ◌+◌, List, [], ◌∷◌, map, slice_get, Some, None, arith, AllPairs, Contains, ◌⊎◌, inl, inr, ◌↔◌}
use Rattle.std.specs.List.{insert}
use Rattle.std.specs.declared.cmp.Ordering.TheVariants.{Less, Equal}
use Rattle.std.proofs.lemmas.Cmp.{tied_itself}
use Rattle.std.proofs.lemmas.List.Elements.{Contains-append_left, Contains-append_right, Contains-append_cases}
use Rattle.hs_scheme.proofs.Lists.{none_in, here, later, uncons, pairs_append}
use Rattle.hs_table.specs.Types.{TypeTree, IsSet, type_cmp}
use Rattle.hs_table.specs.Entries.{Env, EntryData, Has, set_at, IsEnv}
use Rattle.hs_table.specs.Follows.{AnyHas}
use Rattle.hs_table_laws.proofs.Places.{pairs_cons, pairs_head, pairs_tail}
use Rattle.hs_table_laws.proofs.Orders.{type_cmp_total}
use Rattle.hs_rules.specs.Slots.{SlotData, slots_of, slots, FixedData, IsCandidate, Picked, none_left, pick, IsJoin}

-- one more slot, at its place
module _ {X : Type 0} (arg : X → ℕ) (Fills : X → ℕ → EntryData → Type 0) where
  pub picked_insert : {x : X} {place : ℕ} {e : EntryData} (at : ℕ) {xs : List X} {args : List (ℕ × ℕ)} {es : List EntryData} → Fills x place e → Picked arg Fills xs args es → Picked arg Fills (insert xs at x) (insert args at (arg x, place)) (insert es at e)
  picked_insert zero h k = pick h k
  picked_insert (suc at) h none_left = pick h none_left
  picked_insert (suc at) h (pick other rest) = pick other (picked_insert at h rest)

  pub record First (x : X) (xs : List X) (args : List (ℕ × ℕ)) (es : List EntryData) : Type 0 where
    pub place : ℕ
    pub entry : EntryData
    pub rest : List (ℕ × ℕ)
    pub others : List EntryData
    pub fills : Fills x place entry
    pub picked : Picked arg Fills xs rest others
    pub args_are : args ≡ (arg x, place) ∷ rest
    pub entries_are : es ≡ entry ∷ others

  pub first_of : (x : X) (xs : List X) (args : List (ℕ × ℕ)) (es : List EntryData) → Picked arg Fills (x ∷ xs) args es → First x xs args es
  first_of x xs args es (pick {place = place} {args = rest} {e = e} {es = others} h k) = record { place = place; entry = e; rest = rest; others = others; fills = h; picked = k; args_are = refl; entries_are = refl }

  pub none_of : (args : List (ℕ × ℕ)) (es : List EntryData) → Picked arg Fills [] args es → (args ≡ []) × (es ≡ [])
  none_of args es none_left = (refl, refl)

  pub record Inserted (xs : List X) (x : X) (at : ℕ) (args : List (ℕ × ℕ)) (es : List EntryData) : Type 0 where
    pub before : List (ℕ × ℕ)
    pub entries : List EntryData
    pub place : ℕ
    pub entry : EntryData
    pub picked : Picked arg Fills xs before entries
    pub fills : Fills x place entry
    pub args_are : args ≡ insert before at (arg x, place)
    pub entries_are : es ≡ insert entries at entry

  alone : (x : X) (at : ℕ) (args : List (ℕ × ℕ)) (es : List EntryData) → Picked arg Fills (x ∷ []) args es → Inserted [] x (suc at) args es
  alone x at args es k =
      let f = first_of x [] args es k in
      let n = none_of f.rest f.others f.picked in
      record {
        before = [];
        entries = [];
        place = f.place;
        entry = f.entry;
        picked = none_left;
        fills = f.fills;
        args_are = f.args_are ∙ ap (λ r. (arg x, f.place) ∷ r) n.0;
        entries_are = f.entries_are ∙ ap (λ r. f.entry ∷ r) n.1;
      }

  pub inserted_of : (xs : List X) (x : X) (at : ℕ) (args : List (ℕ × ℕ)) (es : List EntryData) → Picked arg Fills (insert xs at x) args es → Inserted xs x at args es
  inserted_of xs x zero args es k =
      let f = first_of x xs args es k in
      record { before = f.rest; entries = f.others; place = f.place; entry = f.entry; picked = f.picked; fills = f.fills; args_are = f.args_are; entries_are = f.entries_are }
  inserted_of [] x (suc at) args es k = alone x at args es k
  inserted_of (y ∷ xs) x (suc at) args es k =
      let f = first_of y (insert xs at x) args es k in
      let l = inserted_of xs x at f.rest f.others f.picked in
      record {
        before = (arg y, f.place) ∷ l.before;
        entries = f.entry ∷ l.entries;
        place = l.place;
        entry = l.entry;
        picked = pick f.fills l.picked;
        fills = l.fills;
        args_are = f.args_are ∙ ap (λ r. (arg y, f.place) ∷ r) l.args_are;
        entries_are = f.entries_are ∙ ap (λ r. f.entry ∷ r) l.entries_are;
      }

-- a place that was picked fills a slot
pub record Filled {X : Type 0} (Fills : X → ℕ → EntryData → Type 0) (xs : List X) (place : ℕ) : Type 0 where
  pub slot : X
  pub entry : EntryData
  pub there : Contains xs slot
  pub fills : Fills slot place entry

pub filled_by : {X : Type 0} (arg : X → ℕ) (Fills : X → ℕ → EntryData → Type 0) {xs : List X} {args : List (ℕ × ℕ)} {es : List EntryData} (place : ℕ)
    → Picked arg Fills xs args es → Contains (map (λ a. a.1) args) place → Filled Fills xs place
filled_by arg Fills place none_left c = absurd (none_in place c)
filled_by arg Fills place (pick {x = x} {xs = xs} {place = q} {args = args} {e = e} h k) c = elim (uncons q place (map (λ a. a.1) args) c) [
  | inl is ↦ record { slot = x; entry = e; there = here x xs; fills = subst (λ (n : ℕ). Fills x n e) (sym is) h }
  | inr there ↦ let r = filled_by arg Fills place k there in record { slot = r.slot; entry = r.entry; there = later x r.slot xs r.there; fills = r.fills }
]

-- no two slots are of one argument and type
abbrev pub Differ : SlotData → SlotData → Type 0
Differ s t = s.arg ≡ t.arg → s.ty ≡ t.ty → ⊥

module _ (E : List EntryData) (f : FixedData) where
  abbrev Free : SlotData → ℕ → EntryData → Type 0
  Free = IsCandidate E None

  abbrev Fixed : SlotData → ℕ → EntryData → Type 0
  Fixed = IsCandidate E (Some f)

  -- the slot of the fixed entry isn't among these
  others_fixed : {xs : List SlotData} {args : List (ℕ × ℕ)} {es : List EntryData} → ((s : SlotData) → Contains xs s → s.arg ≡ f.arg → s.ty ≡ f.ty → ⊥)
      → Picked (λ s. s.arg) Free xs args es → Picked (λ s. s.arg) Fixed xs args es
  others_fixed away none_left = none_left
  others_fixed away (pick {x = x} {xs = xs} h k) =
      pick (record { at = h.at; point = h.point; ty = h.ty; respects = λ a t. absurd (away x (here x xs) a t) }) (others_fixed (λ s c. away s (later x s xs c)) k)

  -- the fixed entry's place was picked, and fills no other slot
  pub used_fixed : {xs : List SlotData} {args : List (ℕ × ℕ)} {es : List EntryData} → AllPairs Differ xs
      → ((s : SlotData) (e : EntryData) → Contains xs s → Free s f.place e → (s.arg ≡ f.arg) × (s.ty ≡ f.ty))
      → Picked (λ s. s.arg) Free xs args es → Contains (map (λ a. a.1) args) f.place → Picked (λ s. s.arg) Fixed xs args es
  used_fixed differ fits none_left c = absurd (none_in f.place c)
  used_fixed differ fits (pick {x = x} {xs = xs} {place = q} {args = args} {e = e} h k) c = elim (uncons q f.place (map (λ a. a.1) args) c) [
    | inl is ↦
        let own = fits x e (here x xs) (subst (λ (n : ℕ). Free x n e) (sym is) h) in
        pick (record { at = h.at; point = h.point; ty = h.ty; respects = λ a t. sym is })
        (others_fixed (λ s there a t. pairs_head Differ x s xs differ there (own.0 ∙ sym a) (own.1 ∙ sym t)) k)
    | inr there ↦
        let r = filled_by (λ s. s.arg) Free f.place k there in
        let other = fits r.slot r.entry (later x r.slot xs r.there) r.fills in
        pick (record { at = h.at; point = h.point; ty = h.ty; respects = λ a t. absurd (pairs_head Differ x r.slot xs differ r.there (a ∙ sym other.0) (t ∙ sym other.1)) })
        (used_fixed (pairs_tail Differ x xs differ) (λ s y m. fits s y (later x s xs m)) k there)
  ]

  -- where the slot of the fixed entry is there, its place is picked
  pub fixed_used : {xs : List SlotData} {args : List (ℕ × ℕ)} {es : List EntryData} (s : SlotData) → Contains xs s → s.arg ≡ f.arg → s.ty ≡ f.ty
      → Picked (λ s. s.arg) Fixed xs args es → Contains (map (λ a. a.1) args) f.place
  fixed_used s c a t none_left = absurd (none_in s c)
  fixed_used s c a t (pick {x = x} {xs = xs} {place = q} {args = args} h k) = elim (uncons x s xs c) [
    | inl is ↦ subst (λ (n : ℕ). Contains (q ∷ map (λ b. b.1) args) n) (h.respects (ap (λ (z : SlotData). z.arg) (sym is) ∙ a) (ap (λ (z : SlotData). z.ty) (sym is) ∙ t)) (here q (map (λ b. b.1) args))
    | inr there ↦ later q f.place (map (λ b. b.1) args) (fixed_used s there a t k)
  ]

  -- a fixed entry leaves fewer candidates
  pub freed : {xs : List SlotData} {args : List (ℕ × ℕ)} {es : List EntryData} → Picked (λ s. s.arg) Fixed xs args es → Picked (λ s. s.arg) Free xs args es
  freed none_left = none_left
  freed (pick h k) = pick (record { at = h.at; point = h.point; ty = h.ty; respects = tt }) (freed k)

-- the slots of arguments and sets
pub record IsSlot (i : ℕ) (us : List ℕ) (ss : Env) (s : SlotData) : Type 0 where
  pub place : ℕ
  pub arg : s.arg ≡ i + place
  pub point : slice_get us place ≡ Some s.point
  pub has : Has ss place s.ty

of_one : (i u : ℕ) (a : TypeTree) (s : SlotData) (set : List TypeTree) → Contains (slots_of i u set) s → (s.arg ≡ i) × (s.point ≡ u) × Contains set s.ty
of_one i u b s [] c = absurd (none_in s c)
of_one i u b s (a ∷ set) c = elim (uncons (let x : SlotData = record { arg = i; point = u; ty = a } in x) s (slots_of i u set) c) [
  | inl is ↦ (ap (λ (z : SlotData). z.arg) is, ap (λ (z : SlotData). z.point) is, subst (λ (t : TypeTree). Contains (a ∷ set) t) (sym (ap (λ (z : SlotData). z.ty) is)) (here a set))
  | inr there ↦ let r = of_one i u b s set there in (r.0, r.1, later a s.ty set r.2)
]

pub slot_of : (i : ℕ) (us : List ℕ) (ss : Env) (s : SlotData) → Contains (slots i us ss) s → IsSlot i us ss s
slot_of i [] ss s c = absurd (none_in s c)
slot_of i (u ∷ us) [] s c = absurd (none_in s c)
slot_of i (u ∷ us) (set ∷ ss) s c = elim (Contains-append_cases (slots_of i u set) (slots (suc i) us ss) s c) [
  | inl h ↦ let r = of_one i u s.ty s set h in record { place = 0; arg = let z : i ≡ i + 0 = omega arith in r.0 ∙ z; point = ap (λ n. Some n) (sym r.1); has = r.2 }
  | inr h ↦ let r = slot_of (suc i) us ss s h in record { place = suc r.place; arg = omega (arith, r.arg); point = r.point; has = r.has }
]

into_one : (i u : ℕ) (a : TypeTree) (set : List TypeTree) → Contains set a → Contains (slots_of i u set) (record { arg = i; point = u; ty = a })
into_one i u a [] c = absurd (none_in a c)
into_one i u a (b ∷ set) c = elim (uncons b a set c) [
  | inl is ↦ subst (λ (t : TypeTree). Contains (slots_of i u (b ∷ set)) (record { arg = i; point = u; ty = t })) (sym is) (here (record { arg = i; point = u; ty = b }) (slots_of i u set))
  | inr there ↦ later (record { arg = i; point = u; ty = b }) (record { arg = i; point = u; ty = a }) (slots_of i u set) (into_one i u a set there)
]

pub into_slots : (i : ℕ) (us : List ℕ) (ss : Env) (j u : ℕ) (a : TypeTree) → slice_get us j ≡ Some u → Has ss j a → Contains (slots i us ss) (record { arg = i + j; point = u; ty = a })
into_slots i [] ss j u a at has = absurd (cc)
into_slots i (v ∷ us) [] j u a at has = absurd (none_in a has)
into_slots i (v ∷ us) (set ∷ ss) zero u a at has =
    let z : i ≡ i + 0 = omega arith in
    let w : v ≡ u = cc in
    Contains-append_left (slots_of i v set) (slots (suc i) us ss) (record { arg = i + 0; point = u; ty = a })
    (subst (λ (n : ℕ). Contains (slots_of i v set) (record { arg = n; point = u; ty = a })) z (subst (λ (m : ℕ). Contains (slots_of i v set) (record { arg = i; point = m; ty = a })) w (into_one i v a set has)))
into_slots i (v ∷ us) (set ∷ ss) (suc j) u a at has =
    let z : suc i + j ≡ i + suc j = omega arith in
    Contains-append_right (slots_of i v set) (slots (suc i) us ss) (record { arg = i + suc j; point = u; ty = a })
    (subst (λ (n : ℕ). Contains (slots (suc i) us ss) (record { arg = n; point = u; ty = a })) z (into_slots (suc i) us ss j u a at has))

less_differs : (a b : TypeTree) → type_cmp a b ≡ Less → a ≡ b → ⊥
less_differs a b less is = let f : Less ≡ Equal = sym (subst (λ (t : TypeTree). type_cmp a t ≡ Less) (sym is) less) ∙ tied_itself type_cmp_total a in cc

one_differs : (i u : ℕ) (set : List TypeTree) → IsSet set → AllPairs Differ (slots_of i u set)
one_differs i u [] h = λ j k d lt below. absurd (omega arith)
one_differs i u (a ∷ set) h =
    pairs_cons Differ (record { arg = i; point = u; ty = a }) (slots_of i u set)
    (λ s c arg ty. less_differs a s.ty (pairs_head (λ x y. type_cmp x y ≡ Less) a s.ty set h (of_one i u a s set c).2) ty)
    (one_differs i u set (pairs_tail (λ x y. type_cmp x y ≡ Less) a set h))

pub slots_differ : (i : ℕ) (us : List ℕ) (ss : Env) → ((j : ℕ) → IsSet (set_at ss j)) → AllPairs Differ (slots i us ss)
slots_differ i [] ss h = λ j k d lt below. absurd (omega arith)
slots_differ i (u ∷ us) [] h = λ j k d lt below. absurd (omega arith)
slots_differ i (u ∷ us) (set ∷ ss) h =
    pairs_append Differ (slots_of i u set) (slots (suc i) us ss) (one_differs i u set (h 0)) (slots_differ (suc i) us ss (λ j. h (suc j)))
    (λ s t cs ct arg ty. let x = of_one i u s.ty s set cs in let y = slot_of (suc i) us ss t ct in absurd (omega (arith, arg, x.0, y.arg)))

-- joined environments
pub any_insert : (es : List EntryData) (at : ℕ) (e : EntryData) (j : ℕ) (a : TypeTree) → AnyHas (insert es at e) j a ↔ (Has e.env j a ⊎ AnyHas es j a)
any_insert es zero e j a = (λ h. h, λ h. h)
any_insert [] (suc at) e j a = (λ h. h, λ h. h)
any_insert (x ∷ es) (suc at) e j a = let r = any_insert es at e j a in (λ h. out r.0 h, λ h. back r.1 h)
  where
    out : (AnyHas (insert es at e) j a → Has e.env j a ⊎ AnyHas es j a) → Has x.env j a ⊎ AnyHas (insert es at e) j a → Has e.env j a ⊎ (Has x.env j a ⊎ AnyHas es j a)
    out f (inl h) = inr (inl h)
    out f (inr h) = elim (f h) [ inl k ↦ inl k | inr k ↦ inr (inr k) ]

    back : (Has e.env j a ⊎ AnyHas es j a → AnyHas (insert es at e) j a) → Has e.env j a ⊎ (Has x.env j a ⊎ AnyHas es j a) → Has x.env j a ⊎ AnyHas (insert es at e) j a
    back f (inl h) = inr (f (inl h))
    back f (inr (inl h)) = inl h
    back f (inr (inr h)) = inr (f (inr h))

pub join_none : (n : ℕ) (own : Env) → IsEnv n own → IsJoin n own [] own
join_none n own h = record { is_env = h; has = λ j a lt. (λ k. inl k, λ k. elim k [ inl m ↦ m | inr none ↦ absurd none ]) }

pub join_more : (n : ℕ) (own env joined : Env) (es : List EntryData) (at : ℕ) (e : EntryData) → IsJoin n own es env → IsEnv n joined
    → ((j : ℕ) (a : TypeTree) → Has joined j a ↔ (Has env j a ⊎ Has e.env j a)) → IsJoin n own (insert es at e) joined
join_more n own env joined es at e h is union = record {
  is_env = is;
  has = λ j a lt. let u = union j a in let b = h.has j a lt in let m = any_insert es at e j a in (λ k. out j a b.0 m.1 (u.0 k), λ k. u.1 (back j a b.1 m.0 k));
}
  where
    out : (j : ℕ) (a : TypeTree) → (Has env j a → Has own j a ⊎ AnyHas es j a) → (Has e.env j a ⊎ AnyHas es j a → AnyHas (insert es at e) j a)
        → Has env j a ⊎ Has e.env j a → Has own j a ⊎ AnyHas (insert es at e) j a
    out j a f g (inl k) = elim (f k) [ inl m ↦ inl m | inr m ↦ inr (g (inr m)) ]
    out j a f g (inr k) = inr (g (inl k))

    back : (j : ℕ) (a : TypeTree) → (Has own j a ⊎ AnyHas es j a → Has env j a) → (AnyHas (insert es at e) j a → Has e.env j a ⊎ AnyHas es j a)
        → Has own j a ⊎ AnyHas (insert es at e) j a → Has env j a ⊎ Has e.env j a
    back j a f g (inl k) = inl (f (inl k))
    back j a f g (inr k) = elim (g k) [ inl m ↦ inr m | inr m ↦ inl (f (inr m)) ]
