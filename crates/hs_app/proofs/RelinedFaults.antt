-- A file with other lines has no other faults, and is within the same limits.
use Rattle.std.proofs.Common.{◌≡◌, ◌≢◌, refl, sym, ◌∙◌, ap, subst, ℕ, ◌+◌, ◌<◌, ◌≤◌, true, false, List, [], ◌∷◌, ◌++◌, length, take, map, slice_get, Some, option_map, IsTrue, inl, inr, arith}
use Rattle.std.specs.List.{flat_map, list_any, list_all, AllByRecursion}
use Rattle.std.proofs.lemmas.List.{map-append, length-map}
use Rattle.std.proofs.lemmas.Option.{slice_get-map}
use Rattle.hs_scheme.proofs.TransitionLemmas.{mapped}
use Rattle.hs_reader.specs.declared.raw.RawName.{RawName}
use Rattle.hs_reader.specs.Raw.{Rule, Transition, File}
use Rattle.hs_reader.specs.Tokens.{is_name_byte}
use Rattle.hs_reader.specs.Grammar.{begins_upper, IsUpper, IsLower}
use Rattle.hs_reader.specs.Limits.{term_names, rule_names, transition_names, names, HasFewArguments, IsRaw}
use Rattle.hs_resolve.specs.Names.{texts, is_among}
use Rattle.hs_resolve.specs.Numbering.{left, first_of, rank_of}
use Rattle.hs_resolve.specs.LineFaults.{Repeats, same_left}
use Rattle.hs_resolve.specs.Answer.{HasNoLineFault, IsFaultless}
use Rattle.hs_resolve.proofs.Lists.{at_map}
use Rattle.hs_app.proofs.Relined.{reline, reline_rule, reline_transition, lined, relined, len-lined, flat_map-lined, any-lined, take-lined, all-lined, at-lined, texts-reline, texts-tree, few-tree, rank-same, left-same, states-same}

-- the name at the same place of a list with the same texts
name-at : (xs ys : List RawName) (i : ℕ) (n : RawName) → texts xs ≡ texts ys → slice_get xs i ≡ Some n → (m : RawName) × ((slice_get ys i ≡ Some m) × (m.text ≡ n.text))
name-at xs ys i n e at =
    mapped (λ m. m.text) (slice_get ys i) n.text (sym (slice_get-map (λ m. m.text) ys i) ∙ (ap (λ ts. slice_get ts i) (sym e) ∙ at_map (λ m. m.text) xs i n at))

repeats-same : (xs ys : List RawName) → texts xs ≡ texts ys → (line : ℕ) → Repeats xs line → (other : ℕ) × Repeats ys other
repeats-same xs ys e line s =
    let m = name-at xs ys s.place s.item e s.at in
    (m.0.line, record { place = s.place; item = m.0; at = m.1.0; holds = (refl, (λ j. is_among (take s.place (sym e j)) (m.1.1 j)) ∙ s.holds.1) })

module _ (raw : File) (clean : IsFaultless raw) where
  no_line : HasNoLineFault (relined raw)
  no_line line (inl h) =
      let r = repeats-same (left (relined raw)) (left raw) (left-same raw) line h in clean.lines r.0 (inl r.1)
  no_line line (inr (inl h)) =
      let a = at-lined reline_rule 2 raw.rules h.place h.item h.at in
      let e : texts h.item.params ≡ texts a.0.params = ap (λ (s : Rule). texts s.params) (sym a.1.1.1) ∙ texts-reline a.1.1.0 a.0.params in
      let r = repeats-same h.item.params a.0.params e line h.holds in
      clean.lines r.0 (inr (inl (record { place = h.place; item = a.0; at = a.1.0; holds = r.1 })))
  no_line line (inr (inr (inl h))) =
      let a = at-lined reline_rule 2 raw.rules h.place h.item h.at in
      let e : texts (term_names h.item.body) ≡ texts (term_names a.0.body) = ap (λ (s : Rule). texts (term_names s.body)) (sym a.1.1.1) ∙ texts-tree a.1.1.0 a.0.body in
      let m = name-at (term_names h.item.body) (term_names a.0.body) h.holds.place h.holds.item e h.holds.at in
      clean.lines m.0.line (inr (inr (inl (record {
        place = h.place;
        item = a.0;
        at = a.1.0;
        holds = record {
          place = h.holds.place;
          item = m.0;
          at = m.1.0;
          holds =
              (refl, ap begins_upper m.1.1 ∙ h.holds.holds.1, (λ j. is_among (sym (left-same raw) j) (m.1.1 j)) ∙ h.holds.holds.2);
        };
      }))))
  no_line line (inr (inr (inr (inl h)))) =
      let a = at-lined reline_rule 2 raw.rules 0 h.0 h.1 in
      let e : length h.0.params ≡ length a.0.params = ap (λ (s : Rule). length s.params) (sym a.1.1.1) ∙ length-map a.0.params (reline a.1.1.0) in
      clean.lines a.0.name.line (inr (inr (inr (inl (a.0, a.1.0, refl, subst (λ n. 0 < n) e h.3)))))
  no_line line (inr (inr (inr (inr (inl h))))) =
      let first = length raw.rules + 4 in
      let a = at-lined reline_transition first raw.transitions h.place h.item h.at in
      let e : list_any (same_left a.0) (take h.place raw.transitions) ≡ true =
      sym (ap (list_any (same_left a.0)) (take-lined reline_transition h.place first raw.transitions) ∙ any-lined reline_transition (same_left a.0) (λ k u. refl) first (take h.place raw.transitions))
      ∙ (ap (λ (v : Transition). list_any (same_left v) (take h.place (relined raw).transitions)) a.1.1.1 ∙ h.holds.1) in
      clean.lines a.0.from.line (inr (inr (inr (inr (inl (record { place = h.place; item = a.0; at = a.1.0; holds = (refl, e) }))))))
  no_line line (inr (inr (inr (inr (inr h))))) =
      let begin = length raw.rules + 4 in
      let a = at-lined reline_transition begin raw.transitions h.place h.item h.at in
      let longer = h.holds.1 in
      let known : rank_of raw.transitions a.0.terminal.text ≡ Some (length longer.to) =
      sym (rank-same begin raw.transitions a.0.terminal.text)
      ∙ (ap (λ (v : Transition). rank_of (relined raw).transitions v.terminal.text) a.1.1.1 ∙ ap (option_map (λ u. length u.to)) h.holds.2) in
      let first = mapped (λ u. length u.to) (first_of raw.transitions a.0.terminal.text) (length longer.to) known in
      let len : length h.item.to ≡ length a.0.to = ap (λ (v : Transition). length v.to) (sym a.1.1.1) ∙ length-map a.0.to (reline a.1.1.0) in
      clean.lines a.0.from.line (inr (inr (inr (inr (inr (record {
        place = h.place;
        item = a.0;
        at = a.1.0;
        holds =
            (refl, first.0, first.1.0, λ q. h.holds.3 (sym first.1.1 ∙ (q ∙ sym len)));
      }))))))

  pub faultless-same : IsFaultless (relined raw)
  faultless-same = record { lines = no_line; states = let e = ap (λ ns. length ns) (states-same raw) in omega (arith, e, clean.states) }

to_texts : (Q : List ℕ → Type 0) (xs : List RawName) → AllByRecursion (λ n. Q n.text) xs → AllByRecursion Q (texts xs)
to_texts Q [] h = tt
to_texts Q (x ∷ xs) h = (h.0, to_texts Q xs h.1)

from_texts : (Q : List ℕ → Type 0) (xs : List RawName) → AllByRecursion Q (texts xs) → AllByRecursion (λ n. Q n.text) xs
from_texts Q [] h = tt
from_texts Q (x ∷ xs) h = (h.0, from_texts Q xs h.1)

pub all-texts : (Q : List ℕ → Type 0) (xs ys : List RawName) → texts xs ≡ texts ys → AllByRecursion (λ n. Q n.text) ys → AllByRecursion (λ n. Q n.text) xs
all-texts Q xs ys e h = from_texts Q xs (subst (AllByRecursion Q) (sym e) (to_texts Q ys h))

map-flat_map : {A B C : Type 0} (g : B → C) (f : A → List B) (xs : List A) → map g (flat_map f xs) ≡ flat_map (λ x. map g (f x)) xs
map-flat_map g f [] = refl
map-flat_map g f (x ∷ xs) = map-append g (f x) (flat_map f xs) ∙ ap (λ ys. map g (f x) ++ ys) (map-flat_map g f xs)

rule-texts : (line : ℕ) (r : Rule) → texts (rule_names (reline_rule line r)) ≡ texts (rule_names r)
rule-texts line r =
    ap (λ ts. r.name.text ∷ ts) (map-append (λ n. n.text) (map (reline line) r.params) (term_names (reline_rule line r).body)
    ∙ ((λ i. texts-reline line r.params i ++ texts-tree line r.body i) ∙ sym (map-append (λ n. n.text) r.params (term_names r.body))))

transition-texts : (line : ℕ) (t : Transition) → texts (transition_names (reline_transition line t)) ≡ texts (transition_names t)
transition-texts line t = ap (λ ts. t.from.text ∷ (t.terminal.text ∷ ts)) (texts-reline line t.to)

pub names-same : (raw : File) → texts (names (relined raw)) ≡ texts (names raw)
names-same raw =
    let new = relined raw in
    let text = λ (n : RawName). n.text in
    map-append text (flat_map rule_names new.rules) (flat_map transition_names new.transitions)
    ∙ ((λ i. (map-flat_map text rule_names new.rules ∙ (flat_map-lined reline_rule (λ r. texts (rule_names r)) rule-texts 2 raw.rules ∙ sym (map-flat_map text rule_names raw.rules))) i
    ++ (map-flat_map text transition_names new.transitions
    ∙ (flat_map-lined reline_transition (λ t. texts (transition_names t)) transition-texts (length raw.rules + 4) raw.transitions ∙ sym (map-flat_map text transition_names raw.transitions))) i)
    ∙ sym (map-append text (flat_map rule_names raw.rules) (flat_map transition_names raw.transitions)))

lined-empty : {A : Type 0} (f : ℕ → A → A) (line : ℕ) (xs : List A) → lined f line xs ≡ [] → xs ≡ []
lined-empty f line [] e = refl
lined-empty f line (x ∷ xs) e = absurd (cc)

pub raw-same : (raw : File) → IsRaw raw → IsRaw (relined raw)
raw-same raw old =
    let first = length raw.rules + 4 in
    let rules = len-lined reline_rule 2 raw.rules in
    let transitions = len-lined reline_transition first raw.transitions in
    let count : length (names (relined raw)) ≡ length (names raw) =
    sym (length-map (names (relined raw)) (λ (n : RawName). n.text)) ∙ (ap (λ ts. length ts) (names-same raw) ∙ length-map (names raw) (λ (n : RawName). n.text)) in
    record {
      has_rule = λ e. old.has_rule (lined-empty reline_rule 2 raw.rules e);
      has_transition = λ e. old.has_transition (lined-empty reline_transition first raw.transitions e);
      each_name = all-texts (λ t. (t ≢ []) × IsTrue (list_all is_name_byte t)) (names (relined raw)) (names raw) (names-same raw) old.each_name;
      rule_names_upper = all-lined reline_rule (λ r. IsUpper r.name) (λ line r h. h) 2 raw.rules old.rule_names_upper;
      parameters_lower = all-lined reline_rule (λ r. AllByRecursion IsLower r.params)
          (λ line r h. all-texts (λ t. begins_upper t ≡ false) (map (reline line) r.params) r.params (texts-reline line r.params) h) 2 raw.rules old.parameters_lower;
      terminals_lower = all-lined reline_transition (λ t. IsLower t.terminal) (λ line t h. h) first raw.transitions old.terminals_lower;
      within = record {
        names = all-texts (λ t. length t ≤ 200) (names (relined raw)) (names raw) (names-same raw) old.within.names;
        rules = omega (arith, rules, old.within.rules);
        parameters = all-lined reline_rule (λ r. length r.params ≤ 64) (λ line r h. subst (λ n. n ≤ 64) (sym (length-map r.params (reline line))) h) 2 raw.rules old.within.parameters;
        arguments = all-lined reline_rule (λ r. HasFewArguments r.body) (λ line r h. few-tree line r.body h) 2 raw.rules old.within.arguments;
        transitions = omega (arith, transitions, old.within.transitions);
        children = all-lined reline_transition (λ t. length t.to ≤ 64) (λ line t h. subst (λ n. n ≤ 64) (sym (length-map t.to (reline line))) h) first raw.transitions old.within.children;
      };
      count = omega (arith, count, old.count);
    }
