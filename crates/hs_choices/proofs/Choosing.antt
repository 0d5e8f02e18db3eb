-- What may be chosen, by rows.
use Rattle.std.proofs.Common.{◌≡◌, refl, sym, ◌∙◌, ap, subst, ℕ, zero, suc, map, ◌+◌, ◌<◌, List, ◌∷◌, [], ◌++◌, length, get_or, slice_get, Some, take, append-nil, append_assoc, arith, Bool, true, false, IsTrue, All, ◌≤◌, Contains, ◌⊎◌, inl, inr, ◌↔◌}
use Rattle.std.proofs.lemmas.Bool.{cases_eq}
use Rattle.std.proofs.lemmas.List.{take_all}
use Rattle.std.proofs.lemmas.List.Elements.{Contains-append_left, Contains-append_right, Contains-append_cases, All-contains}
use Rattle.hs_scheme.specs.Problem.{ProblemData}
use Rattle.hs_scheme.proofs.Lists.{none_in, here, later, uncons, read-slice_get}
use Rattle.hs_table.specs.Types.{TypeTree}
use Rattle.hs_table.specs.Entries.{Env, EntryData}
use Rattle.hs_table_laws.proofs.Members.{from_map, into_map, taken_next, pushed_cases}
use Rattle.hs_types.specs.Interned.{InternerData, type_of_id, env_of_id, RowData, IsRow, entry_of}
use Rattle.hs_weak.specs.Strength.{AsStrongAs, AsksAtLeast}
use Rattle.hs_weak.proofs.Strength.{env_refl}
use Rattle.hs_choices.proofs.Growing.{all_members}
use Rattle.hs_choices.specs.Unions.{AsksOneOf}
use Rattle.hs_choices.specs.Slots.{MayStand, IsSlotFor, AreSlots, no_argument, behind_argument, one_type}
use Rattle.hs_choices.specs.Numbered.{envs_of, AreOfStrong, AreOfEach, of_none, of_one, AreSlotsAdded, AreRowsAt, AreTableRows, AreAtPoint, AreOfArguments, no_arguments, one_argument, slot_envs, AreOfLength}

module _ (p : ProblemData) (C : List EntryData) (u : ℕ) (I : InternerData) (rows : List RowData) (at : AreRowsAt p C u I rows) (ty : TypeTree) (ks : List ℕ) (are : AreOfStrong I rows ty ks) where
  taken : (E : Env) → Contains (envs_of I ks) E → (e : EntryData) × (MayStand p C u ty e × (e.env ≡ E))
  taken E m =
      let k = from_map (env_of_id I) ks E m in
      let r = are.taken k.item k.there in
      let h = at.taken r.0 r.1.0 in
      (entry_of I r.0, (record { place = h.1.0; holds = h.1.1; point = h.0; strong = r.1.1 }, ap (env_of_id I) r.1.2 ∙ sym k.is))

  each : (e : EntryData) → MayStand p C u ty e → AsksOneOf (envs_of I ks) e.env
  each e m =
      let r = at.each m.place e m.holds m.point in
      let strong : AsStrongAs (type_of_id I r.0.ty) ty = subst (λ (x : EntryData). AsStrongAs x.ty ty) (sym r.1.1) m.strong in
      let env : env_of_id I r.0.env ≡ e.env = ap (λ (x : EntryData). x.env) r.1.1 in (
        env_of_id I r.0.env,
        (
          into_map (env_of_id I) ks r.0.env (are.each r.0 r.1.0 strong),
          subst (λ (z : Env). AsksAtLeast AsStrongAs e.env z) (sym env) (env_refl p.sorted.automaton.states e.env m.holds.shape.types),
        ),
      )

  pub may_be_chosen : IsSlotFor p C u ty (envs_of I ks)
  may_be_chosen = record { taken = taken; each = each }

pub none_strong : (I : InternerData) (rows : List RowData) (t : TypeTree) → AreOfStrong I (take 0 rows) t []
none_strong I rows t = record { taken = λ k m. absurd (none_in k m); each = λ row m strong. absurd (none_in row m) }

-- one row more
module _ (I : InternerData) (rows : List RowData) (t : TypeTree) (i : ℕ) (row : RowData) (lt : i < length rows) (is : row ≡ get_or rows i row) (ks : List ℕ) (are : AreOfStrong I (take i rows) t ks) where
  abbrev Strong : RowData → Type 0
  Strong r = AsStrongAs (type_of_id I r.ty) t

  split : (r : RowData) → Contains (take (i + 1) rows) r → Contains (take i rows) r ⊎ (r ≡ row)
  split r m = pushed_cases (take i rows) row r (subst (λ (z : List RowData). Contains z r) (taken_next rows i row lt is) m)

  join : (r : RowData) → Contains (take i rows) r ⊎ (r ≡ row) → Contains (take (i + 1) rows) r
  join r (inl m) = subst (λ (z : List RowData). Contains z r) (sym (taken_next rows i row lt is)) (Contains-append_left (take i rows) (row ∷ []) r m)
  join r (inr e) = subst (λ (z : List RowData). Contains z r) (sym (taken_next rows i row lt is)) (Contains-append_right (take i rows) (row ∷ []) r (subst (λ (z : RowData). Contains (row ∷ []) z) (sym e) (here row [])))

  old : (k : ℕ) → Contains ks k → (r : RowData) × (Contains (take (i + 1) rows) r × Strong r × (r.env ≡ k))
  old k m = let h = are.taken k m in (h.0, (join h.0 (inl h.1.0), h.1.1, h.1.2))

  pub not_strong : (Strong row → ⊥) → AreOfStrong I (take (i + 1) rows) t ks
  not_strong not = record {
    taken = old;
    each = λ r m strong. elim (split r m) [
      | inl was ↦ are.each r was strong
      | inr e ↦ absurd (not (subst Strong e strong))
    ];
  }

  pub one_strong : Strong row → (after : List ℕ) → after ≡ ks ++ row.env ∷ [] → AreOfStrong I (take (i + 1) rows) t after
  one_strong strong after after_is = record {
    taken = λ k m. elim (pushed_cases ks row.env k (subst (λ (z : List ℕ). Contains z k) after_is m)) [
      | inl was ↦ old k was
      | inr e ↦ (row, (join row (inr refl), strong, sym e))
    ];
    each = λ r m s. subst (λ (z : List ℕ). Contains z r.env) (sym after_is) (elim (split r m) [
      | inl was ↦ Contains-append_left ks (row.env ∷ []) r.env (are.each r was s)
      | inr e ↦ Contains-append_right ks (row.env ∷ []) r.env (subst (λ k. Contains (row.env ∷ []) k) (sym (ap (λ (z : RowData). z.env) e)) (here row.env []))
    ]);
  }

pub row_within : (I J : InternerData) → J ≡ I → (rows : List RowData) (i : ℕ) (row : RowData) → i < length rows → row ≡ get_or rows i row → All (IsRow I) rows → row.ty < length J.types
row_within I J same rows i row lt is all = subst (λ (K : InternerData). row.ty < length K.types) (sym same) (subst (λ (r : RowData). IsRow I r) (sym is) (all i row lt)).1

module _ (I J : InternerData) (same : J ≡ I) (t u : ℕ) (b : Bool) where
  pub strong_so : b ≡ true → (IsTrue b ↔ AsStrongAs (type_of_id J t) (type_of_id J u)) → AsStrongAs (type_of_id I t) (type_of_id I u)
  strong_so e tells = subst (λ (K : InternerData). AsStrongAs (type_of_id K t) (type_of_id K u)) same (tells.0 e)

  pub not_strong_so : b ≡ false → (IsTrue b ↔ AsStrongAs (type_of_id J t) (type_of_id J u)) → AsStrongAs (type_of_id I t) (type_of_id I u) → ⊥
  not_strong_so e tells h = let f : false ≡ true = sym e ∙ tells.1 (subst (λ (K : InternerData). AsStrongAs (type_of_id K t) (type_of_id K u)) (sym same) h) in cc

pub all_strong : (I : InternerData) (rows : List RowData) (t : TypeTree) (i : ℕ) → length rows ≤ i → (ks : List ℕ) → AreOfStrong I (take i rows) t ks → AreOfStrong I rows t ks
all_strong I rows t i past ks are = subst (λ (z : List RowData). AreOfStrong I z t ks) (take_all i rows past) are

-- one type more
of_more : (I : InternerData) (rows : List RowData) (types : List TypeTree) (slots : List (List ℕ)) (ty : TypeTree) (ks : List ℕ) → AreOfEach I rows types slots → AreOfStrong I rows ty ks → AreOfEach I rows (types ++ ty ∷ []) (slots ++ ks ∷ [])
of_more I rows types slots ty ks of_none are = of_one are of_none
of_more I rows types slots ty ks (of_one {types = others} {slots = rest} first each) are = of_one first (of_more I rows others rest ty ks each are)

pub none_added : (I : InternerData) (rows : List RowData) (set : List TypeTree) (old : List (List ℕ)) → AreSlotsAdded I rows (take 0 set) old old
none_added I rows set old = record { added = []; is = sym (append-nil old); each = of_none }

pub slot_added : (I : InternerData) (rows : List RowData) (set : List TypeTree) (place : ℕ) (ty : TypeTree) (ks : List ℕ) (old slots after : List (List ℕ)) → place < length set → slice_get set place ≡ Some ty → AreSlotsAdded I rows (take place set) old slots
    → AreOfStrong I rows ty ks → after ≡ slots ++ ks ∷ [] → AreSlotsAdded I rows (take (place + 1) set) old after
slot_added I rows set place ty ks old slots after lt at were are after_is =
    let read : ty ≡ get_or set place ty = sym (read-slice_get set place ty at).1 in
    record {
      added = were.added ++ ks ∷ [];
      is = after_is ∙ (ap (λ (z : List (List ℕ)). z ++ ks ∷ []) were.is ∙ append_assoc old were.added (ks ∷ []));
      each = subst (λ (z : List TypeTree). AreOfEach I rows z (were.added ++ ks ∷ [])) (sym (taken_next set place ty lt read)) (of_more I rows (take place set) were.added ty ks were.each are);
    }

pub slots_all : (I : InternerData) (rows : List RowData) (set : List TypeTree) (place : ℕ) (old slots : List (List ℕ)) → length set ≤ place → AreSlotsAdded I rows (take place set) old slots → AreSlotsAdded I rows set old slots
slots_all I rows set place old slots past were = subst (λ (z : List TypeTree). AreSlotsAdded I rows z old slots) (take_all place set past) were

module _ (p : ProblemData) (C : List EntryData) (I : InternerData) (table : List RowData) (all : AreTableRows p C I table) where
  at_point : (u : ℕ) (rows : List RowData) → AreAtPoint table u rows → AreRowsAt p C u I rows
  at_point u rows part = record {
    taken = λ row m. let own = (part row).0 m in (own.1, all.taken row own.0);
    each = λ place e at is.
        let r = all.each place e at in
        (r.0, ((part r.0).1 (r.1.0, ap (λ (x : EntryData). x.point) r.1.1 ∙ is), r.1.1));
  }

  of_argument : (u : ℕ) (us : List ℕ) (ss : Env) (rows : List RowData) (slots : List (List ℕ)) → AreRowsAt p C u I rows → AreSlots p C us ss (slot_envs I slots) → {s : List TypeTree} {first : List (List ℕ)} → AreOfEach I rows s first
      → AreSlots p C (u ∷ us) (s ∷ ss) (slot_envs I (first ++ slots))
  of_argument u us ss rows slots at rest of_none = behind_argument rest
  of_argument u us ss rows slots at rest (of_one {ty = ty} {ks = ks} are others) = one_type (may_be_chosen p C u I rows at ty ks are) (of_argument u us ss rows slots at rest others)

  pub rows_stand : (us : List ℕ) (ss : Env) (slots : List (List ℕ)) → AreOfArguments I table us ss slots → AreSlots p C us ss (slot_envs I slots)
  rows_stand us ss slots no_arguments = no_argument
  rows_stand us ss slots (one_argument {u = u} {us = others} {s = s} {ss = sets} {rows = rows} {first = first} {slots = rest} part each more) =
      of_argument u others sets rows rest (at_point u rows part) (rows_stand others sets rest more) each

-- one argument more
of_last : (I : InternerData) (table : List RowData) (us : List ℕ) (ss : Env) (slots : List (List ℕ)) (u : ℕ) (s : List TypeTree) (rows : List RowData) (last : List (List ℕ)) → AreOfArguments I table us ss slots → AreAtPoint table u rows → AreOfEach I rows s last
    → AreOfArguments I table (us ++ u ∷ []) (ss ++ s ∷ []) (slots ++ last)
of_last I table us ss slots u s rows last no_arguments part each = subst (λ (z : List (List ℕ)). AreOfArguments I table (u ∷ []) (s ∷ []) z) (append-nil last) (one_argument part each no_arguments)
of_last I table us ss slots u s rows last (one_argument {u = v} {us = others} {s = r} {ss = sets} {first = first} {slots = rest} own first_each more) part each =
    subst (λ (z : List (List ℕ)). AreOfArguments I table ((v ∷ others) ++ u ∷ []) ((r ∷ sets) ++ s ∷ []) z) (sym (append_assoc first rest last))
    (one_argument own first_each (of_last I table others sets rest u s rows last more part each))

pub argument_more : (I : InternerData) (table : List RowData) (args : List ℕ) (sets : Env) (i u : ℕ) (s : List TypeTree) → i < length args → u ≡ get_or args i u → i < length sets → s ≡ get_or sets i s → (slots after : List (List ℕ)) → AreOfArguments I table (take i args) (take i sets) slots
    → (rows : List RowData) → AreAtPoint table u rows → AreSlotsAdded I rows s slots after → AreOfArguments I table (take (i + 1) args) (take (i + 1) sets) after
argument_more I table args sets i u s lt is within set_is slots after were rows part added =
    subst (λ (z : List (List ℕ)). AreOfArguments I table (take (i + 1) args) (take (i + 1) sets) z) (sym added.is)
    (subst (λ (z : List ℕ). AreOfArguments I table z (take (i + 1) sets) (slots ++ added.added)) (sym (taken_next args i u lt is))
    (subst (λ (z : Env). AreOfArguments I table (take i args ++ u ∷ []) z (slots ++ added.added)) (sym (taken_next sets i s within set_is)) (of_last I table (take i args) (take i sets) slots u s rows added.added were part added.each)))

-- some rows are those at the point
some_at : (table : List RowData) (u : ℕ) → (rows : List RowData) × AreAtPoint table u rows
some_at [] u = ([], λ row. (λ m. absurd (none_in row m), λ h. absurd (none_in row h.0)))
some_at (r ∷ table) u =
    let rest = some_at table u in
    elim (cases_eq r.point u) [
      | inl same ↦ (
        r ∷ rest.0,
        λ row. (
          λ m. elim (uncons r row rest.0 m) [
            | inl e ↦ (subst (λ (x : RowData). Contains (r ∷ table) x) (sym e) (here r table), ap (λ (x : RowData). x.point) e ∙ same)
            | inr there ↦ let h = (rest.1 row).0 there in (later r row table h.0, h.1)
          ],
          λ h. elim (uncons r row table h.0) [
            | inl e ↦ subst (λ (x : RowData). Contains (r ∷ rest.0) x) (sym e) (here r rest.0)
            | inr there ↦ later r row rest.0 ((rest.1 row).1 (there, h.1))
          ],
        ),
      )
      | inr other ↦ (
        rest.0,
        λ row. (
          λ m. let h = (rest.1 row).0 m in (later r row table h.0, h.1),
          λ h. elim (uncons r row table h.0) [
            | inl e ↦ absurd (other (sym (ap (λ (x : RowData). x.point) e) ∙ h.1))
            | inr there ↦ (rest.1 row).1 (there, h.1)
          ],
        ),
      )
    ]

-- of an argument nothing is asked
pub nothing_asked : (I : InternerData) (table : List RowData) (args : List ℕ) (sets : Env) (i u : ℕ) (s : List TypeTree) → i < length args → u ≡ get_or args i u → i < length sets → s ≡ get_or sets i s → length s ≡ 0 → (slots : List (List ℕ))
    → AreOfArguments I table (take i args) (take i sets) slots → AreOfArguments I table (take (i + 1) args) (take (i + 1) sets) slots
nothing_asked I table args sets i u [] lt is within set_is none slots were =
    let at = some_at table u in
    argument_more I table args sets i u [] lt is within set_is slots slots were at.0 at.1 (record { added = []; is = sym (append-nil slots); each = of_none })
nothing_asked I table args sets i u (a ∷ s) lt is within set_is none slots were = absurd (omega (arith, none))

pub arguments_all : (I : InternerData) (table : List RowData) (args : List ℕ) (sets : Env) (i : ℕ) (slots : List (List ℕ)) → length args ≤ i → length sets ≡ length args → AreOfArguments I table (take i args) (take i sets) slots → AreOfArguments I table args sets slots
arguments_all I table args sets i slots past long were =
    subst (λ (z : List ℕ). AreOfArguments I table z sets slots) (take_all i args past) (subst (λ (z : Env). AreOfArguments I table (take i args) z slots) (take_all i sets (omega (arith, past, long))) were)

pub part_within : (I : InternerData) (table : List RowData) (u : ℕ) (rows : List RowData) → All (IsRow I) table → AreAtPoint table u rows → All (IsRow I) rows
part_within I table u rows all part = all_members (λ (r : RowData). IsRow I r) rows (λ r m. All-contains (λ (x : RowData). IsRow I x) table r all ((part r).0 m).0)

pub map_read : {A B : Type 0} (f : A → B) (xs : List A) (i : ℕ) (x : A) → i < length xs → x ≡ get_or xs i x → f x ≡ get_or (map f xs) i (f x)
map_read f [] i x lt is = absurd (omega arith)
map_read f (y ∷ ys) zero x lt is = ap f is
map_read f (y ∷ ys) (suc i) x lt is = map_read f ys i x (omega arith) is

from_row : (I : InternerData) (rows : List RowData) {types : List TypeTree} {slots : List (List ℕ)} → AreOfEach I rows types slots → (slot : List ℕ) → Contains slots slot → (k : ℕ) → Contains slot k → (row : RowData) × (Contains rows row × (row.env ≡ k))
from_row I rows of_none slot m k n = absurd (none_in slot m)
from_row I rows (of_one {ks = ks} {slots = more} are others) slot m k n = elim (uncons ks slot more m) [
  | inl e ↦ let r = are.taken k (subst (λ (z : List ℕ). Contains z k) e n) in (r.0, (r.1.0, r.1.2))
  | inr there ↦ from_row I rows others slot there k n
]

-- the environments of rows at the arguments are of one length, so all that may be chosen are
pub slots_long : (n : ℕ) (I : InternerData) (table : List RowData) → All (IsRow I) table → {us : List ℕ} {ss : Env} {slots : List (List ℕ)} → AreOfArguments I table us ss slots
    → ((row : RowData) → Contains table row → Contains us row.point → length (env_of_id I row.env) ≡ n) → (slot : List ℕ) → Contains slots slot → AreOfLength n I slot
slots_long n I table all no_arguments long slot m = absurd (none_in slot m)
slots_long n I table all (one_argument {u = u} {us = us} {rows = rows} {first = first} {slots = rest} part each more) long slot m = elim (Contains-append_cases first rest slot m) [
  | inl own ↦ all_members (λ k. (k < length I.envs) × (length (env_of_id I k) ≡ n)) slot (λ k in_slot.
      let r = from_row I rows each slot own k in_slot in
      let at = (part r.0).0 r.1.0 in
      let within : IsRow I r.0 = All-contains (λ (x : RowData). IsRow I x) table r.0 all at.0 in
      subst (λ z. (z < length I.envs) × (length (env_of_id I z) ≡ n)) r.1.1 (within.0, long r.0 at.0 (subst (λ z. Contains (u ∷ us) z) (sym at.1) (here u us))))
  | inr behind ↦ slots_long n I table all more (λ row there own. long row there (later u row.point us own)) slot behind
]
