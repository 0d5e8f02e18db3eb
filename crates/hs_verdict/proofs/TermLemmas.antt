-- The terms at the points are as the points say.
use Rattle.std.proofs.Common.{◌≡◌, refl, sym, ◌∙◌, ap, subst, ℕ, zero, suc, ◌+◌, List, [], ◌∷◌, length, map, get_or, slice_get, Some, arith, inl, inr, length-append}
use Rattle.std.proofs.lemmas.Option.{get_or_from_slice_get, same_Some}
use Rattle.hs_scheme.specs.declared.term.Head.{Head}
use Rattle.hs_scheme.specs.declared.term.Head.TheVariants.{Nt}
use Rattle.hs_scheme.specs.declared.term.Rule.{Rule}
use Rattle.hs_scheme.specs.Tree.{Tree, Trees, node, none, more, forest}
use Rattle.hs_scheme.specs.flow.Points.{PointData, size, sizes, numbers, term_points, terms_points, rules_points, bodies, points_of}
use Rattle.hs_scheme.proofs.PointLemmas.{length-term_points}
use Rattle.hs_scheme.proofs.Lists.{place-append}
use Rattle.hs_table_laws.proofs.Standing.{StandsFrom, stands_front, stands_back, stands_tail, stands_head}
use Rattle.hs_verdict.specs.Terms.{subterms, subterms_row, terms_of, term_at}

-- a term for each point: what the point is made of; its arguments stand in its own rule; and bodies
pub record AreTerms (rules : List Rule) (term : ℕ → Tree Head) : Type 0 where
  pub whole : (point : ℕ) (d : PointData) → slice_get (points_of rules).points point ≡ Some d → term point ≡ node d.head (forest (map term d.args))
  pub has_rule : (point : ℕ) (d : PointData) → slice_get (points_of rules).points point ≡ Some d → (r : Rule) × (slice_get rules d.rule ≡ Some r)
  pub arguments : (point : ℕ) (d : PointData) (i a : ℕ) → slice_get (points_of rules).points point ≡ Some d → slice_get d.args i ≡ Some a
      → (of : PointData) × (slice_get (points_of rules).points a ≡ Some of) × (of.rule ≡ d.rule)
  pub bodies : (f : ℕ) (r : Rule) → slice_get rules f ≡ Some r
      → (b : ℕ) × (of : PointData) × (slice_get (points_of rules).bodies f ≡ Some b) × (slice_get (points_of rules).points b ≡ Some of) × (of.rule ≡ f) × (term b ≡ r.body)

-- the point is made of this head and these arguments, in this rule
abbrev pub IsPoint : List Rule → ℕ → ℕ → Head → List ℕ → Type 0
IsPoint rules point rule h args = slice_get (points_of rules).points point ≡ Some (record { rule = rule; head = h; args = args })

stands_whole : {A : Type 0} (xs : List A) → StandsFrom xs 0 xs
stands_whole xs = record { at = λ i y e. let same : 0 + i ≡ i = omega arith in ap (λ k. slice_get xs k) same ∙ e }

mutual
  length-subterms : (t : Tree Head) → length (subterms t) ≡ size t
  length-subterms (node h ts) = omega (arith, length-subterms_row ts)

  length-subterms_row : (ts : Trees Head) → length (subterms_row ts) ≡ sizes ts
  length-subterms_row none = refl
  length-subterms_row (more t ts) = length-append (subterms t) (subterms_row ts) ∙ omega (arith, length-subterms t, length-subterms_row ts)

module _ (points : List PointData) (terms : List (Tree Head)) where
  abbrev term : ℕ → Tree Head
  term point = get_or terms point (node (Nt 0) none)

  term_is : (point : ℕ) (t : Tree Head) → slice_get terms point ≡ Some t → term point ≡ t
  term_is point t e = get_or_from_slice_get terms point t (node (Nt 0) none) e

  pub record IsWhole (rule point : ℕ) (d : PointData) : Type 0 where
    pub in_rule : d.rule ≡ rule
    pub term_of : term point ≡ node d.head (forest (map term d.args))
    pub arguments : (j a : ℕ) → slice_get d.args j ≡ Some a → (of : PointData) × (slice_get points a ≡ Some of) × (of.rule ≡ rule)

  front_term : (n : ℕ) (t : Tree Head) → StandsFrom terms n (subterms t) → term n ≡ t
  front_term n (node h ts) s = term_is n (node h ts) (stands_head terms n (node h ts) (subterms_row ts) s)

  row_terms : (n : ℕ) (ts : Trees Head) → StandsFrom terms n (subterms_row ts) → ts ≡ forest (map term (numbers n ts))
  row_terms n none s = refl
  row_terms n (more t ts) s =
      λ i. more (sym (front_term n t (stands_front terms n (subterms t) (subterms_row ts) s)) i)
      (row_terms (n + size t) ts (stands_back terms n (size t) (subterms t) (subterms_row ts) (length-subterms t) s) i)

  front_point : (rule n : ℕ) (t : Tree Head) → StandsFrom points n (term_points rule n t) → (of : PointData) × (slice_get points n ≡ Some of) × (of.rule ≡ rule)
  front_point rule n (node h ts) s =
      let d : PointData = record { rule = rule; head = h; args = numbers (n + 1) ts } in (d, stands_head points n d (terms_points rule (n + 1) ts) s, refl)

  row_points : (rule n : ℕ) (ts : Trees Head) → StandsFrom points n (terms_points rule n ts) → (j a : ℕ) → slice_get (numbers n ts) j ≡ Some a → (of : PointData) × (slice_get points a ≡ Some of) × (of.rule ≡ rule)
  row_points rule n none s j a e = absurd (cc)
  row_points rule n (more t ts) s zero a e =
      let same : n ≡ a = same_Some n a e in
      subst (λ (k : ℕ). (of : PointData) × (slice_get points k ≡ Some of) × (of.rule ≡ rule)) same
      (front_point rule n t (stands_front points n (term_points rule n t) (terms_points rule (n + size t) ts) s))
  row_points rule n (more t ts) s (suc j) a e =
      row_points rule (n + size t) ts (stands_back points n (size t) (term_points rule n t) (terms_points rule (n + size t) ts) (length-term_points rule n t) s) j a e

  mutual
    whole_term : (rule n : ℕ) (t : Tree Head) → StandsFrom points n (term_points rule n t) → StandsFrom terms n (subterms t)
        → (i : ℕ) (d : PointData) → slice_get (term_points rule n t) i ≡ Some d → IsWhole rule (n + i) d
    whole_term rule n (node h ts) s r zero d e =
        let own : PointData = record { rule = rule; head = h; args = numbers (n + 1) ts } in
        let same : own ≡ d = same_Some own d e in
        let sp = stands_tail points n own (terms_points rule (n + 1) ts) s in
        let st = stands_tail terms n (node h ts) (subterms_row ts) r in
        let here : n ≡ n + 0 = omega arith in
        subst (λ (q : PointData). IsWhole rule (n + 0) q) same (subst (λ (k : ℕ). IsWhole rule k own) here (record {
          in_rule = refl;
          term_of = term_is n (node h ts) (stands_head terms n (node h ts) (subterms_row ts) r) ∙ ap (λ (us : Trees Head). node h us) (row_terms (n + 1) ts st);
          arguments = row_points rule (n + 1) ts sp;
        }))
    whole_term rule n (node h ts) s r (suc i) d e =
        let own : PointData = record { rule = rule; head = h; args = numbers (n + 1) ts } in
        let same : n + 1 + i ≡ n + suc i = omega arith in
        subst (λ (k : ℕ). IsWhole rule k d) same (whole_row rule (n + 1) ts (stands_tail points n own (terms_points rule (n + 1) ts) s) (stands_tail terms n (node h ts) (subterms_row ts) r) i d e)

    whole_row : (rule n : ℕ) (ts : Trees Head) → StandsFrom points n (terms_points rule n ts) → StandsFrom terms n (subterms_row ts)
        → (i : ℕ) (d : PointData) → slice_get (terms_points rule n ts) i ≡ Some d → IsWhole rule (n + i) d
    whole_row rule n none s r i d e = absurd (cc)
    whole_row rule n (more t ts) s r i d e = elim (place-append (term_points rule n t) (terms_points rule (n + size t) ts) i d e) [
      | inl h ↦ whole_term rule n t (stands_front points n (term_points rule n t) (terms_points rule (n + size t) ts) s) (stands_front terms n (subterms t) (subterms_row ts) r) i d h
      | inr b ↦
          let same : n + size t + b.place ≡ n + i = omega (arith, b.is, length-term_points rule n t) in
          subst (λ (k : ℕ). IsWhole rule k d) same
          (whole_row rule (n + size t) ts (stands_back points n (size t) (term_points rule n t) (terms_points rule (n + size t) ts) (length-term_points rule n t) s)
          (stands_back terms n (size t) (subterms t) (subterms_row ts) (length-subterms t) r) b.place d b.at)
    ]

  -- the points of rules: each in its own rule
  pub record InRule (rules : List Rule) (point : ℕ) (d : PointData) : Type 0 where
    pub rule : Rule
    pub is : slice_get rules d.rule ≡ Some rule
    pub whole : IsWhole d.rule point d

  in_rule : (rules : List Rule) (rule point : ℕ) (d : PointData) (r : Rule) → slice_get rules rule ≡ Some r → IsWhole rule point d → InRule rules point d
  in_rule rules rule point d r e w = record {
    rule = r;
    is = ap (λ k. slice_get rules k) w.in_rule ∙ e;
    whole = subst (λ (k : ℕ). IsWhole k point d) (sym w.in_rule) w;
  }

  whole_rules : (rules : List Rule) (rule n : ℕ) (rest : List Rule) → StandsFrom rules rule rest → StandsFrom points n (rules_points rule n rest) → StandsFrom terms n (terms_of rest)
      → (i : ℕ) (d : PointData) → slice_get (rules_points rule n rest) i ≡ Some d → InRule rules (n + i) d
  whole_rules rules rule n [] q s t i d e = absurd (cc)
  whole_rules rules rule n (r ∷ rest) q s t i d e = elim (place-append (term_points rule n r.body) (rules_points (rule + 1) (n + size r.body) rest) i d e) [
    | inl h ↦ in_rule rules rule (n + i) d r (stands_head rules rule r rest q)
        (whole_term rule n r.body (stands_front points n (term_points rule n r.body) (rules_points (rule + 1) (n + size r.body) rest) s) (stands_front terms n (subterms r.body) (terms_of rest) t) i d h)
    | inr b ↦
        let same : n + size r.body + b.place ≡ n + i = omega (arith, b.is, length-term_points rule n r.body) in
        subst (λ (k : ℕ). InRule rules k d) same
        (whole_rules rules (rule + 1) (n + size r.body) rest (stands_tail rules rule r rest q)
        (stands_back points n (size r.body) (term_points rule n r.body) (rules_points (rule + 1) (n + size r.body) rest) (length-term_points rule n r.body) s)
        (stands_back terms n (size r.body) (subterms r.body) (terms_of rest) (length-subterms r.body) t) b.place d b.at)
  ]

  pub record IsBody (rule f n : ℕ) (rest : List Rule) (r : Rule) : Type 0 where
    pub body : ℕ
    pub of : PointData
    pub at : slice_get (bodies n rest) f ≡ Some body
    pub point : slice_get points body ≡ Some of
    pub in_rule : of.rule ≡ rule + f
    pub is : term body ≡ r.body

  whole_bodies : (rule n : ℕ) (rest : List Rule) → StandsFrom points n (rules_points rule n rest) → StandsFrom terms n (terms_of rest)
      → (f : ℕ) (r : Rule) → slice_get rest f ≡ Some r → IsBody rule f n rest r
  whole_bodies rule n [] s t f r e = absurd (cc)
  whole_bodies rule n (k ∷ rest) s t zero r e =
      let point = front_point rule n k.body (stands_front points n (term_points rule n k.body) (rules_points (rule + 1) (n + size k.body) rest) s) in
      let zero_more : rule ≡ rule + 0 = omega arith in
      record {
        body = n;
        of = point.0;
        at = refl;
        point = point.1;
        in_rule = point.2 ∙ zero_more;
        is = front_term n k.body (stands_front terms n (subterms k.body) (terms_of rest) t) ∙ ap (λ (q : Rule). q.body) (same_Some k r e);
      }
  whole_bodies rule n (k ∷ rest) s t (suc f) r e =
      let b = whole_bodies (rule + 1) (n + size k.body) rest (stands_back points n (size k.body) (term_points rule n k.body) (rules_points (rule + 1) (n + size k.body) rest) (length-term_points rule n k.body) s)
      (stands_back terms n (size k.body) (subterms k.body) (terms_of rest) (length-subterms k.body) t) f r e in
      let one_more : rule + 1 + f ≡ rule + suc f = omega arith in
      record { body = b.body; of = b.of; at = b.at; point = b.point; in_rule = b.in_rule ∙ one_more; is = b.is }

pub are_terms : (rules : List Rule) → AreTerms rules (term_at rules)
are_terms rules =
    let ps : List PointData = rules_points 0 0 rules in
    let ts : List (Tree Head) = terms_of rules in
    let w : (point : ℕ) (d : PointData) → slice_get ps point ≡ Some d → InRule ps ts rules point d = λ point d e.
    let same : 0 + point ≡ point = omega arith in
    subst (λ (k : ℕ). InRule ps ts rules k d) same (whole_rules ps ts rules 0 0 rules (stands_whole rules) (stands_whole ps) (stands_whole ts) point d e) in
    record {
      whole = λ point d e. (w point d e).whole.term_of;
      has_rule = λ point d e. let k = w point d e in (k.rule, k.is);
      arguments = λ point d i a e h. (w point d e).whole.arguments i a h;
      bodies = λ f r e.
          let b = whole_bodies ps ts 0 0 rules (stands_whole ps) (stands_whole ts) f r e in
          let same : 0 + f ≡ f = omega arith in
          (b.body, b.of, b.at, b.point, b.in_rule ∙ same, b.is);
    }
