-- What contracts see of a file that was read: records, lists and trees of names.
use Rattle.std.specs.Prelude.{refl, ℕ, List}
use Rattle.std.specs.Coded.{Coded, code_by, coded×, coded_ℕ, coded_list}
use Rattle.hs_reader.specs.declared.raw.RawName.{RawName}
use Rattle.hs_scheme.specs.Tree.{Tree, tree_code}

pub record Rule : Type 0 where
  pub name : RawName
  pub params : List RawName
  pub body : Tree RawName

pub record Transition : Type 0 where
  pub from : RawName
  pub terminal : RawName
  pub to : List RawName

pub record File : Type 0 where
  pub rules : List Rule
  pub transitions : List Transition

-- how these values are stored
abbrev pub coded_name : Coded RawName
coded_name = code_by (List ℕ × ℕ) (coded× (coded_list coded_ℕ) coded_ℕ) (λ n. (n.text, n.line)) (λ p. record { text = p.0; line = p.1 }) (λ _. refl)

abbrev pub coded_rule : Coded Rule
coded_rule =
    code_by (RawName × (List RawName × Tree RawName)) (coded× coded_name (coded× (coded_list coded_name) (tree_code coded_name)))
    (λ r. (r.name, (r.params, r.body))) (λ p. record { name = p.0; params = p.1.0; body = p.1.1 }) (λ _. refl)

abbrev pub coded_transition : Coded Transition
coded_transition =
    code_by (RawName × (RawName × List RawName)) (coded× coded_name (coded× coded_name (coded_list coded_name)))
    (λ t. (t.from, (t.terminal, t.to))) (λ p. record { from = p.0; terminal = p.1.0; to = p.1.1 }) (λ _. refl)

abbrev pub coded_file : Coded File
coded_file =
    code_by (List Rule × List Transition) (coded× (coded_list coded_rule) (coded_list coded_transition))
    (λ f. (f.rules, f.transitions)) (λ p. record { rules = p.0; transitions = p.1 }) (λ _. refl)
