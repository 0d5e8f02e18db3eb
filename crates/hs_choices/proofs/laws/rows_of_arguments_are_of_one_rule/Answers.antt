use Rattle.std.proofs.Common.{List, ℕ}
use Rattle.hs_table.specs.Entries.{params_of}
use Rattle.hs_types.specs.Interned.{entry_of}
use Rattle.hs_choices.specs.Numbered.{AreOfLength}
use Rattle.hs_choices.proofs.Growing.{all_members}
use Rattle.hs_choices.proofs.Pruning.{argument_long}
use Rattle.hs_choices.proofs.Choosing.{slots_long}
use Rattle.hs_choices.proofs.laws.rows_of_arguments_are_of_one_rule.Goals as goal

pub returns : goal.returns
returns c = λ p C I table given are within point of at ss slots of_args.
    all_members (λ (slot : List ℕ). AreOfLength (params_of p of.rule) I slot) slots (slots_long (params_of p of.rule) I table within of_args
    (λ row there own. argument_long p given C point of at (entry_of I row) (record { shape = (are.taken row there).1.shape; argument = own })))
