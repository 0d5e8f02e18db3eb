-- A file with other lines for its names.
use Rattle.std.proofs.Common.{◌≡◌, refl, sym, ◌∙◌, ap, subst, ℕ, zero, suc, ◌+◌, ◌≤◌, Bool, true, false, cond, ◌||◌, List, [], ◌∷◌, ◌++◌, length, take, map, filter, slice_get, Some, option_map}
use Rattle.std.specs.List.{flat_map, list_any, AllByRecursion}
use Rattle.std.specs.Str.{bytes_eq}
use Rattle.std.proofs.lemmas.List.{map-append, length-map}
use Rattle.hs_scheme.specs.Tree.{Tree, Trees, node, none, more, children}
use Rattle.hs_reader.specs.declared.raw.RawName.{RawName}
use Rattle.hs_reader.specs.Raw.{Rule, Transition, File}
use Rattle.hs_reader.specs.Limits.{term_names, terms_names, HasFewArguments, HaveFewArguments}
use Rattle.hs_resolve.specs.Names.{texts, distinct, number}
use Rattle.hs_resolve.specs.Numbering.{left_names, is_terminal, terminals_in, terminal_names, states_in, state_names, head_of, numbered, numbered_each, rule_of, transition_of, first_of, rank_of, unsorted_of}
use Rattle.hs_resolve.proofs.Lists.{map-map}

abbrev pub reline : ℕ → RawName → RawName
reline line name = record { text = name.text; line = line }

abbrev mutual
  pub reline_tree : ℕ → Tree RawName → Tree RawName
  reline_tree line (node n args) = node (reline line n) (reline_trees line args)

  pub reline_trees : ℕ → Trees RawName → Trees RawName
  reline_trees line none = none
  reline_trees line (more t ts) = more (reline_tree line t) (reline_trees line ts)

abbrev pub reline_rule : ℕ → Rule → Rule
reline_rule line r = record { name = reline line r.name; params = map (reline line) r.params; body = reline_tree line r.body }

abbrev pub reline_transition : ℕ → Transition → Transition
reline_transition line t = record { from = reline line t.from; terminal = reline line t.terminal; to = map (reline line) t.to }

-- each item on a line of its own, from this line on
abbrev pub lined : {A : Type 0} → (ℕ → A → A) → ℕ → List A → List A
lined f line [] = []
lined f line (x ∷ xs) = f line x ∷ lined f (line + 1) xs

abbrev pub relined : File → File
relined raw = record { rules = lined reline_rule 2 raw.rules; transitions = lined reline_transition (length raw.rules + 4) raw.transitions }

module _ {A : Type 0} (f : ℕ → A → A) where
  pub len-lined : (line : ℕ) (xs : List A) → length (lined f line xs) ≡ length xs
  len-lined line [] = refl
  len-lined line (x ∷ xs) = ap suc (len-lined (line + 1) xs)

  pub map-lined : {B : Type 0} (g : A → B) → ((line : ℕ) (x : A) → g (f line x) ≡ g x) → (line : ℕ) (xs : List A) → map g (lined f line xs) ≡ map g xs
  map-lined g same line [] = refl
  map-lined g same line (x ∷ xs) = λ i. same line x i ∷ map-lined g same (line + 1) xs i

  pub flat_map-lined : {B : Type 0} (g : A → List B) → ((line : ℕ) (x : A) → g (f line x) ≡ g x) → (line : ℕ) (xs : List A) → flat_map g (lined f line xs) ≡ flat_map g xs
  flat_map-lined g same line [] = refl
  flat_map-lined g same line (x ∷ xs) = λ i. same line x i ++ flat_map-lined g same (line + 1) xs i

  pub any-lined : (p : A → Bool) → ((line : ℕ) (x : A) → p (f line x) ≡ p x) → (line : ℕ) (xs : List A) → list_any p (lined f line xs) ≡ list_any p xs
  any-lined p same line [] = refl
  any-lined p same line (x ∷ xs) = λ i. same line x i || any-lined p same (line + 1) xs i

  pub take-lined : (n line : ℕ) (xs : List A) → take n (lined f line xs) ≡ lined f line (take n xs)
  take-lined zero line xs = refl
  take-lined (suc n) line [] = refl
  take-lined (suc n) line (x ∷ xs) = ap (λ ys. f line x ∷ ys) (take-lined n (line + 1) xs)

  pub all-lined : (P : A → Type 0) → ((line : ℕ) (x : A) → P x → P (f line x)) → (line : ℕ) (xs : List A) → AllByRecursion P xs → AllByRecursion P (lined f line xs)
  all-lined P keep line [] h = tt
  all-lined P keep line (x ∷ xs) h = (keep line x h.0, all-lined P keep (line + 1) xs h.1)

  -- what stands at a place
  pub at-lined : (line : ℕ) (xs : List A) (n : ℕ) (y : A) → slice_get (lined f line xs) n ≡ Some y → (x : A) × ((slice_get xs n ≡ Some x) × ((k : ℕ) × (f k x ≡ y)))
  at-lined line [] n y h = absurd (cc)
  at-lined line (x ∷ xs) zero y h = let e : f line x ≡ y = cc in (x, (refl, (line, e)))
  at-lined line (x ∷ xs) (suc n) y h = at-lined (line + 1) xs n y h

pub texts-reline : (line : ℕ) (names : List RawName) → texts (map (reline line) names) ≡ texts names
texts-reline line [] = refl
texts-reline line (n ∷ ns) = ap (λ ts. n.text ∷ ts) (texts-reline line ns)

mutual
  pub texts-tree : (line : ℕ) (t : Tree RawName) → texts (term_names (reline_tree line t)) ≡ texts (term_names t)
  texts-tree line (node n args) = ap (λ ts. n.text ∷ ts) (texts-trees line args)

  pub texts-trees : (line : ℕ) (ts : Trees RawName) → texts (terms_names (reline_trees line ts)) ≡ texts (terms_names ts)
  texts-trees line none = refl
  texts-trees line (more t ts) =
      map-append (λ n. n.text) (term_names (reline_tree line t)) (terms_names (reline_trees line ts))
      ∙ ((λ i. texts-tree line t i ++ texts-trees line ts i) ∙ sym (map-append (λ n. n.text) (term_names t) (terms_names ts)))

mutual
  numbered-tree : (rules params terminals : List (List ℕ)) (line : ℕ) (t : Tree RawName) → numbered (head_of rules params terminals) (reline_tree line t) ≡ numbered (head_of rules params terminals) t
  numbered-tree rules params terminals line (node n args) = ap (node (head_of rules params terminals n)) (numbered-trees rules params terminals line args)

  numbered-trees : (rules params terminals : List (List ℕ)) (line : ℕ) (ts : Trees RawName) → numbered_each (head_of rules params terminals) (reline_trees line ts) ≡ numbered_each (head_of rules params terminals) ts
  numbered-trees rules params terminals line none = refl
  numbered-trees rules params terminals line (more t ts) = λ i. more (numbered-tree rules params terminals line t i) (numbered-trees rules params terminals line ts i)

mutual
  pub few-tree : (line : ℕ) (t : Tree RawName) → HasFewArguments t → HasFewArguments (reline_tree line t)
  few-tree line (node n args) h = (subst (λ k. k ≤ 64) (sym (len-children line args)) h.0, few-trees line args h.1)

  few-trees : (line : ℕ) (ts : Trees RawName) → HaveFewArguments ts → HaveFewArguments (reline_trees line ts)
  few-trees line none h = tt
  few-trees line (more t ts) h = (few-tree line t h.0, few-trees line ts h.1)

  len-children : (line : ℕ) (ts : Trees RawName) → length (children (reline_trees line ts)) ≡ length (children ts)
  len-children line none = refl
  len-children line (more t ts) = ap suc (len-children line ts)

pub terminals_in-same : (line : ℕ) (r : Rule) → terminals_in (reline_rule line r) ≡ terminals_in r
terminals_in-same line r = λ i. filter (is_terminal (texts-reline line r.params i)) (texts-tree line r.body i)

pub states_in-same : (line : ℕ) (t : Transition) → states_in (reline_transition line t) ≡ states_in t
states_in-same line t = ap (λ ts. t.from.text ∷ ts) (texts-reline line t.to)

rule_of-same : (rules terminals : List (List ℕ)) (line : ℕ) (r : Rule) → rule_of rules terminals (reline_rule line r) ≡ rule_of rules terminals r
rule_of-same rules terminals line r =
    (λ i. record { params = length-map r.params (reline line) i; body = numbered (head_of rules (texts-reline line r.params i) terminals) (reline_tree line r.body) })
    ∙ ap (λ b. record { params = length r.params; body = b }) (numbered-tree rules (texts r.params) terminals line r.body)

transition_of-same : (states terminals : List (List ℕ)) (line : ℕ) (t : Transition) → transition_of states terminals (reline_transition line t) ≡ transition_of states terminals t
transition_of-same states terminals line t =
    ap (λ qs. record { from = number states t.from.text; terminal = number terminals t.terminal.text; to = qs }) (sym (map-map (λ q. number states q.text) (reline line) t.to))

-- the first transition of a terminal is as long
pub rank-same : (line : ℕ) (ts : List Transition) (x : List ℕ) → rank_of (lined reline_transition line ts) x ≡ rank_of ts x
rank-same line [] x = refl
rank-same line (t ∷ ts) x =
    elim (bytes_eq x t.terminal.text) as (λ b. option_map (λ u. length u.to) (cond b (Some (reline_transition line t)) (first_of (lined reline_transition (line + 1) ts) x)) ≡ option_map (λ u. length u.to) (cond b (Some t) (first_of ts x))) [
      | true ↦ ap (λ n. Some n) (length-map t.to (reline line))
      | false ↦ rank-same (line + 1) ts x
    ]

module _ (raw : File) where
  pub left-same : left_names (relined raw) ≡ left_names raw
  left-same =
      sym (map-map (λ n. n.text) (λ r. r.name) (lined reline_rule 2 raw.rules))
      ∙ (map-lined reline_rule (λ r. r.name.text) (λ line r. refl) 2 raw.rules ∙ map-map (λ n. n.text) (λ r. r.name) raw.rules)

  pub terminals-same : terminal_names (relined raw) ≡ terminal_names raw
  terminals-same = λ i. distinct (flat_map-lined reline_rule terminals_in terminals_in-same 2 raw.rules i
      ++ map-lined reline_transition (λ t. t.terminal.text) (λ line t. refl) (length raw.rules + 4) raw.transitions i)

  pub states-same : state_names (relined raw) ≡ state_names raw
  states-same = ap distinct (flat_map-lined reline_transition states_in states_in-same (length raw.rules + 4) raw.transitions)

  params-same : map (λ r. texts r.params) (relined raw).rules ≡ map (λ r. texts r.params) raw.rules
  params-same = map-lined reline_rule (λ r. texts r.params) (λ line r. texts-reline line r.params) 2 raw.rules

  rules-same : map (rule_of (left_names (relined raw)) (terminal_names (relined raw))) (relined raw).rules ≡ map (rule_of (left_names raw) (terminal_names raw)) raw.rules
  rules-same =
      (λ i. map (rule_of (left-same i) (terminals-same i)) (relined raw).rules)
      ∙ map-lined reline_rule (rule_of (left_names raw) (terminal_names raw)) (rule_of-same (left_names raw) (terminal_names raw)) 2 raw.rules

  transitions-same : map (transition_of (state_names (relined raw)) (terminal_names (relined raw))) (relined raw).transitions ≡ map (transition_of (state_names raw) (terminal_names raw)) raw.transitions
  transitions-same =
      (λ i. map (transition_of (states-same i) (terminals-same i)) (relined raw).transitions)
      ∙ map-lined reline_transition (transition_of (state_names raw) (terminal_names raw)) (transition_of-same (state_names raw) (terminal_names raw)) (length raw.rules + 4) raw.transitions

  ranks-same : map (rank_of (relined raw).transitions) (terminal_names (relined raw)) ≡ map (rank_of raw.transitions) (terminal_names raw)
  ranks-same = λ i. map (λ x. rank-same (length raw.rules + 4) raw.transitions x i) (terminals-same i)

  -- the numbering knows no lines
  pub unsorted-same : unsorted_of (relined raw) ≡ unsorted_of raw
  unsorted-same = λ i. record {
    rules = rules-same i;
    ranks = ranks-same i;
    automaton = record { states = length (states-same i); transitions = transitions-same i };
    names = record { rules = left-same i; params = params-same i; terminals = terminals-same i; states = states-same i };
  }
