-- The definitions at small files.
use Rattle.std.specs.Prelude.{◌≡◌, refl, ℕ, List, [], ◌∷◌, codes, Some, None}
use Rattle.hs_scheme.specs.declared.term.Head.TheVariants.{Var, Nt, Tm}
use Rattle.hs_scheme.specs.Tree.{node, none, more}
use Rattle.hs_reader.specs.declared.raw.RawName.{RawName}
use Rattle.hs_reader.specs.Raw.{File}
use Rattle.hs_resolve.specs.Names.{number_of, distinct}
use Rattle.hs_resolve.specs.Numbering.{head_of, terminal_names, state_names, rank_of}
use Rattle.hs_resolve.specs.LineFaults.{DuplicateRule, Undefined, RankClash}

abbrev pub at : ℕ → List ℕ → RawName
at line text = record { text = text; line = line }

-- each name stands once, where it occurs first
pub first_occurrences : distinct (codes "b" ∷ (codes "a" ∷ (codes "b" ∷ (codes "c" ∷ [])))) ≡ codes "b" ∷ (codes "a" ∷ (codes "c" ∷ []))
first_occurrences = refl

pub second_name : number_of (codes "q0" ∷ (codes "q1" ∷ [])) (codes "q1") ≡ Some 1
second_name = refl

pub no_name : number_of (codes "q0" ∷ (codes "q1" ∷ [])) (codes "q2") ≡ None
no_name = refl

-- a parameter hides a terminal of its name, and an upper name is a nonterminal
pub heads : (head_of (codes "S" ∷ (codes "F" ∷ [])) (codes "x" ∷ []) (codes "a" ∷ (codes "x" ∷ [])) (at 1 (codes "x")) ≡ Var 0)
    × (head_of (codes "S" ∷ (codes "F" ∷ [])) (codes "x" ∷ []) (codes "a" ∷ (codes "x" ∷ [])) (at 1 (codes "F")) ≡ Nt 1)
    × (head_of (codes "S" ∷ (codes "F" ∷ [])) (codes "x" ∷ []) (codes "a" ∷ (codes "x" ∷ [])) (at 1 (codes "a")) ≡ Tm 0)
heads = (refl, refl, refl)

-- S -> F b. F x -> G x. S -> b.    q0 b -> .    q1 a -> q1 q0. q0 a -> q1.
abbrev pub example : File
example = record {
  rules =
      record { name = at 2 (codes "S"); params = []; body = node (at 2 (codes "F")) (more (node (at 2 (codes "b")) none) none) }
      ∷ (record { name = at 3 (codes "F"); params = at 3 (codes "x") ∷ []; body = node (at 3 (codes "G")) (more (node (at 3 (codes "x")) none) none) }
      ∷ (record { name = at 4 (codes "S"); params = []; body = node (at 4 (codes "b")) none } ∷ []));
  transitions =
      record { from = at 7 (codes "q0"); terminal = at 7 (codes "b"); to = [] }
      ∷ (record { from = at 8 (codes "q1"); terminal = at 8 (codes "a"); to = at 8 (codes "q1") ∷ (at 8 (codes "q0") ∷ []) }
      ∷ (record { from = at 9 (codes "q0"); terminal = at 9 (codes "a"); to = at 9 (codes "q1") ∷ [] } ∷ []));
}

pub terminals : terminal_names example ≡ codes "b" ∷ (codes "a" ∷ [])
terminals = refl

pub states : state_names example ≡ codes "q0" ∷ (codes "q1" ∷ [])
states = refl

pub rank : rank_of example.transitions (codes "a") ≡ Some 2
rank = refl

pub undefined_on_3 : Undefined example 3
undefined_on_3 = record { place = 1; item = _; at = refl; holds = record { place = 0; item = at 3 (codes "G"); at = refl; holds = (refl, refl, refl) } }

pub rule_twice_on_4 : DuplicateRule example 4
rule_twice_on_4 = record { place = 2; item = at 4 (codes "S"); at = refl; holds = (refl, refl) }

pub clash_on_9 : RankClash example 9
clash_on_9 = record { place = 2; item = _; at = refl; holds = (refl, _, refl, λ e. (cc)) }
