-- The fault that is chosen is the first.
use Rattle.std.proofs.Common.{◌≡◌, refl, sym, ◌∙◌, subst, ℕ, zero, suc, ◌<◌, ◌≤◌, ◌⊎◌, true, false, cond, nat_eq, Option, Some, None, inl, inr, arith}
use Rattle.std.proofs.lemmas.Bool.{eqb-true, eq-eqb, cases_lt}
use Rattle.hs_reader.specs.Raw.{File}
use Rattle.hs_resolve.specs.declared.fault.NameFault.{NameFault}
use Rattle.hs_resolve.specs.declared.fault.NameFault.TheVariants as fault
use Rattle.hs_resolve.specs.declared.line.FaultLines.{FaultLines}
use Rattle.hs_resolve.specs.Least.{IsLeast}
use Rattle.hs_resolve.specs.LineFaults.{DuplicateRule, DuplicateParam, Undefined, StartHasParams, DuplicateTransition, RankClash, LineFault}
use Rattle.hs_resolve.specs.Answer.{HasNoLineFault, IsFaultless, IsFirstLine, IsAnswered}
use Rattle.hs_resolve.specs.Tables.{AreLines}
use Rattle.hs_resolve.specs.Choice.{is_at, least_line, fault_on}
use Rattle.hs_resolve.proofs.Leasts.{least-either}

pub least-of_all : (raw : File) (l : FaultLines) → AreLines raw l → IsLeast (LineFault raw) (least_line l)
least-of_all raw l a =
    least-either (DuplicateRule raw) _ l.duplicate_rule _ a.duplicate_rule
    (least-either (DuplicateParam raw) _ l.duplicate_param _ a.duplicate_param
    (least-either (Undefined raw) _ l.undefined _ a.undefined
    (least-either (StartHasParams raw) _ l.start_has_params _ a.start_has_params
    (least-either (DuplicateTransition raw) (RankClash raw) l.duplicate_transition l.rank_clash a.duplicate_transition a.rank_clash))))

at_line : (P : ℕ → Type 0) (o : Option ℕ) (line : ℕ) → IsLeast P o → is_at o line ≡ true → P line
at_line P None line h e = absurd (cc)
at_line P (Some at) line h e = subst P (eqb-true at line e) h.0

not_at : (P : ℕ → Type 0) (o : Option ℕ) (line : ℕ) → IsLeast P o → ((other : ℕ) → P other → line ≤ other) → is_at o line ≡ false → P line → ⊥
not_at P None line h bound e p = h line p
not_at P (Some at) line h bound e p =
    let low : line ≤ at = bound at h.0 in
    let high : at ≤ line = h.1 line p in
    let same : nat_eq at line ≡ true = eq-eqb at line (omega arith) in
    let f : true ≡ false = sym same ∙ e in (cc)

module _ (raw : File) (l : FaultLines) (a : AreLines raw l) (line : ℕ) (here : LineFault raw line) (bound : (other : ℕ) → LineFault raw other → line ≤ other) where
  first_line : IsFirstLine raw line
  first_line earlier less h = omega (arith, bound earlier h)

  rank_clash : (¬ DuplicateRule raw line) → (¬ DuplicateParam raw line) → (¬ Undefined raw line) → (¬ StartHasParams raw line) → (¬ DuplicateTransition raw line) → RankClash raw line
  rank_clash r p u s t = elim here [
    | inl h ↦ absurd (r h)
    | inr (inl h) ↦ absurd (p h)
    | inr (inr (inl h)) ↦ absurd (u h)
    | inr (inr (inr (inl h))) ↦ absurd (s h)
    | inr (inr (inr (inr (inl h)))) ↦ absurd (t h)
    | inr (inr (inr (inr (inr h)))) ↦ h
  ]

  abbrev after_start : NameFault
  after_start = cond (is_at l.duplicate_transition line) (fault.DuplicateTransition line) (fault.RankClash line)

  abbrev after_undefined : NameFault
  after_undefined = cond (is_at l.start_has_params line) (fault.StartHasParams line) after_start

  abbrev after_param : NameFault
  after_param = cond (is_at l.undefined line) (fault.Undefined line) after_undefined

  abbrev after_rule : NameFault
  after_rule = cond (is_at l.duplicate_param line) (fault.DuplicateParam line) after_param

  pub answered : IsAnswered raw (cond (is_at l.duplicate_rule line) (fault.DuplicateRule line) after_rule)
  answered =
      elim (is_at l.duplicate_rule line) as (λ b. is_at l.duplicate_rule line ≡ b → IsAnswered raw (cond b (fault.DuplicateRule line) after_rule)) [
        | true ↦ λ e. (at_line (DuplicateRule raw) l.duplicate_rule line a.duplicate_rule e, first_line)
        | false ↦ λ e. let no_rule = not_at (DuplicateRule raw) l.duplicate_rule line a.duplicate_rule (λ o h. bound o (inl h)) e in
            elim (is_at l.duplicate_param line) as (λ b. is_at l.duplicate_param line ≡ b → IsAnswered raw (cond b (fault.DuplicateParam line) after_param)) [
              | true ↦ λ e. (at_line (DuplicateParam raw) l.duplicate_param line a.duplicate_param e, first_line, no_rule)
              | false ↦ λ e. let no_param = not_at (DuplicateParam raw) l.duplicate_param line a.duplicate_param (λ o h. bound o (inr (inl h))) e in
                  elim (is_at l.undefined line) as (λ b. is_at l.undefined line ≡ b → IsAnswered raw (cond b (fault.Undefined line) after_undefined)) [
                    | true ↦ λ e. (at_line (Undefined raw) l.undefined line a.undefined e, first_line, no_rule, no_param)
                    | false ↦ λ e. let no_undefined = not_at (Undefined raw) l.undefined line a.undefined (λ o h. bound o (inr (inr (inl h)))) e in
                        elim (is_at l.start_has_params line) as (λ b. is_at l.start_has_params line ≡ b → IsAnswered raw (cond b (fault.StartHasParams line) after_start)) [
                          | true ↦ λ e. (at_line (StartHasParams raw) l.start_has_params line a.start_has_params e, first_line, no_rule, no_param, no_undefined)
                          | false ↦ λ e. let no_start = not_at (StartHasParams raw) l.start_has_params line a.start_has_params (λ o h. bound o (inr (inr (inr (inl h))))) e in
                              elim (is_at l.duplicate_transition line) as (λ b. is_at l.duplicate_transition line ≡ b → IsAnswered raw (cond b (fault.DuplicateTransition line) (fault.RankClash line))) [
                                | true ↦ λ e. (at_line (DuplicateTransition raw) l.duplicate_transition line a.duplicate_transition e, first_line, no_rule, no_param, no_undefined, no_start)
                                | false ↦ λ e. let no_transition = not_at (DuplicateTransition raw) l.duplicate_transition line a.duplicate_transition (λ o h. bound o (inr (inr (inr (inr (inl h)))))) e in
                                    (rank_clash no_rule no_param no_undefined no_start no_transition, first_line, no_rule, no_param, no_undefined, no_start, no_transition)
                              ] refl
                        ] refl
                  ] refl
            ] refl
      ] refl

pub first-answered : (raw : File) (l : FaultLines) (line : ℕ) → AreLines raw l → least_line l ≡ Some line → IsAnswered raw (fault_on l line)
first-answered raw l line a e =
    let h : IsLeast (LineFault raw) (Some line) = subst (λ o. IsLeast (LineFault raw) o) e (least-of_all raw l a) in answered raw l a line h.0 h.1

pub first-none : (raw : File) (l : FaultLines) → AreLines raw l → least_line l ≡ None → HasNoLineFault raw
first-none raw l a e = subst (λ o. IsLeast (LineFault raw) o) e (least-of_all raw l a)

-- there is one first fault
lines_meet : (raw : File) (a b : ℕ) → LineFault raw a → IsFirstLine raw a → LineFault raw b → IsFirstLine raw b → a ≡ b
lines_meet raw a b ha fa hb fb =
    elim (cases_lt a b) [
      | inl less ↦ absurd (fb a less ha)
      | inr more ↦ elim (cases_lt b a) [ inl less ↦ absurd (fa b less hb) | inr same ↦ omega arith ]
    ]

-- the faults of lines, in their order
abbrev Stands : File → ℕ → ℕ → Type 0
Stands raw zero line = DuplicateRule raw line
Stands raw (suc zero) line = DuplicateParam raw line
Stands raw (suc (suc zero)) line = Undefined raw line
Stands raw (suc (suc (suc zero))) line = StartHasParams raw line
Stands raw (suc (suc (suc (suc zero)))) line = DuplicateTransition raw line
Stands raw (suc (suc (suc (suc (suc k))))) line = RankClash raw line

abbrev of_order : ℕ → ℕ → NameFault
of_order zero line = fault.DuplicateRule line
of_order (suc zero) line = fault.DuplicateParam line
of_order (suc (suc zero)) line = fault.Undefined line
of_order (suc (suc (suc zero))) line = fault.StartHasParams line
of_order (suc (suc (suc (suc zero)))) line = fault.DuplicateTransition line
of_order (suc (suc (suc (suc (suc k))))) line = fault.RankClash line

line_fault : (raw : File) (k line : ℕ) → Stands raw k line → LineFault raw line
line_fault raw zero line h = inl h
line_fault raw (suc zero) line h = inr (inl h)
line_fault raw (suc (suc zero)) line h = inr (inr (inl h))
line_fault raw (suc (suc (suc zero))) line h = inr (inr (inr (inl h)))
line_fault raw (suc (suc (suc (suc zero)))) line h = inr (inr (inr (inr (inl h))))
line_fault raw (suc (suc (suc (suc (suc k))))) line h = inr (inr (inr (inr (inr h))))

-- none of the first k stands on the line
abbrev NoneBelow : File → ℕ → ℕ → Type 0
NoneBelow raw k line = (j : ℕ) → j < k → Stands raw j line → ⊥

record IsFirstFault (raw : File) (k line : ℕ) : Type 0 where
  stands : Stands raw k line
  first : IsFirstLine raw line
  none : NoneBelow raw k line

none_below_0 : (raw : File) (line : ℕ) → NoneBelow raw 0 line
none_below_0 raw line j less = absurd (omega arith)

one_more : (raw : File) (line k : ℕ) → NoneBelow raw k line → (Stands raw k line → ⊥) → NoneBelow raw (suc k) line
one_more raw line k none absent j less h =
    elim (cases_lt j k) [
      | inl below ↦ none j below h
      | inr above ↦ let e : j ≡ k = omega arith in absent (subst (λ i. Stands raw i line) e h)
    ]

-- the fault of a line that is answered has a place in the order
module _ (raw : File) where
  placed : (f : NameFault) → IsAnswered raw f → ((k : ℕ) × (line : ℕ) × (of_order k line ≡ f) × IsFirstFault raw k line) ⊎ (f ≡ fault.TooManyStates)
  placed (fault.DuplicateRule m) h = inl (0, m, refl, record { stands = h.0; first = h.1; none = none_below_0 raw m })
  placed (fault.DuplicateParam m) h = inl (1, m, refl, record { stands = h.0; first = h.1; none = one_more raw m 0 (none_below_0 raw m) h.2 })
  placed (fault.Undefined m) h =
      inl (2, m, refl, record { stands = h.0; first = h.1; none = one_more raw m 1 (one_more raw m 0 (none_below_0 raw m) h.2) h.3 })
  placed (fault.StartHasParams m) h =
      inl (3, m, refl, record { stands = h.0; first = h.1; none = one_more raw m 2 (one_more raw m 1 (one_more raw m 0 (none_below_0 raw m) h.2) h.3) h.4 })
  placed (fault.DuplicateTransition m) h =
      inl (4, m, refl, record { stands = h.0; first = h.1; none = one_more raw m 3 (one_more raw m 2 (one_more raw m 1 (one_more raw m 0 (none_below_0 raw m) h.2) h.3) h.4) h.5 })
  placed (fault.RankClash m) h =
      inl (
        5,
        m,
        refl,
        record {
          stands = h.0;
          first = h.1;
          none = one_more raw m 4 (one_more raw m 3 (one_more raw m 2 (one_more raw m 1 (one_more raw m 0 (none_below_0 raw m) h.2) h.3) h.4) h.5) h.6;
        },
      )
  placed fault.TooManyStates h = inr refl
  placed fault.OutOfMemory h = absurd h

  same_first : (k m j n : ℕ) → IsFirstFault raw k m → IsFirstFault raw j n → of_order k m ≡ of_order j n
  same_first k m j n p q =
      let on : m ≡ n = lines_meet raw m n (line_fault raw k m p.stands) p.first (line_fault raw j n q.stands) q.first in
      elim (cases_lt k j) [
        | inl below ↦ absurd (q.none k below (subst (Stands raw k) on p.stands))
        | inr more ↦ elim (cases_lt j k) [
          | inl below ↦ absurd (p.none j below (subst (Stands raw j) (sym on) q.stands))
          | inr less ↦ let e : k ≡ j = omega arith in λ i. of_order (e i) (on i)
        ]
      ]

  no_line_fault : (k line : ℕ) → IsFirstFault raw k line → IsAnswered raw fault.TooManyStates → ⊥
  no_line_fault k line p h = h.0 line (line_fault raw k line p.stands)

  pub one_fault_is : (f g : NameFault) → IsAnswered raw f → IsAnswered raw g → f ≡ g
  one_fault_is f g hf hg =
      elim (placed f hf) [
        | inl (k, m, is, p) ↦ elim (placed g hg) [
          | inl (j, n, is', q) ↦ sym is ∙ (same_first k m j n p q ∙ is')
          | inr many ↦ absurd (no_line_fault k m p (subst (IsAnswered raw) many hg))
        ]
        | inr many ↦ elim (placed g hg) [
          | inl (j, n, is', q) ↦ absurd (no_line_fault j n q (subst (IsAnswered raw) many hf))
          | inr many' ↦ many ∙ sym many'
        ]
      ]

-- where no line fault stands, there are too many states
pub no_line : (raw : File) (f : NameFault) → HasNoLineFault raw → IsAnswered raw f → f ≡ fault.TooManyStates
no_line raw (fault.DuplicateRule m) none h = absurd (none m (inl h.0))
no_line raw (fault.DuplicateParam m) none h = absurd (none m (inr (inl h.0)))
no_line raw (fault.Undefined m) none h = absurd (none m (inr (inr (inl h.0))))
no_line raw (fault.StartHasParams m) none h = absurd (none m (inr (inr (inr (inl h.0)))))
no_line raw (fault.DuplicateTransition m) none h = absurd (none m (inr (inr (inr (inr (inl h.0))))))
no_line raw (fault.RankClash m) none h = absurd (none m (inr (inr (inr (inr (inr h.0))))))
no_line raw fault.TooManyStates none h = refl
no_line raw fault.OutOfMemory none h = absurd h

pub not_both : (raw : File) (f : NameFault) → IsFaultless raw → IsAnswered raw f → ⊥
not_both raw f clean h =
    let many = subst (IsAnswered raw) (no_line raw f clean.lines h) h in omega (arith, many.1, clean.states)
