-- A shared table may be used by many threads: its core may go from one to another.
--     problem_sync               of a problem, which all share
--     table_sync, core_send      of a table; of a core. The search that is made where threads start doesn't find these: a core has too many parts,
--                                so they are put together here from the facts that the check makes of each part (`TheSendSync`)
--     captured_sync              of what a closure captures, from each part
use denote.Ref.{NamedLft}
use denote.Param.Send.{IsSend, IsSync, AllSend, AllSync, sendable, view_send, view_sync, recorded_send, recorded_sync, struct_send, struct_sync, shr_send}
use denote.Struct.Declared.{Declared, row, fields, shape}
use denote.Struct.Struct.{Struct}
use denote.Struct.Field.{rows}
use denote.Struct.Tuple.{parts, type_at, TupleAt}
use denote.RattleType.{RattleType}
use mathlib.Core.List.{List, [], ◌∷◌}
use mir.Syntax.{Sym}
use Rattle.std.proofs.Crossing.{crosses, Vec-send, Vec-sync}
use Rattle.std.proofs.alloc.Global.TheSendSync as Global
use Rattle.std.proofs.option.Option.TheSendSync as Option
use Rattle.hs_scheme.proofs.automaton.Automaton.TheSendSync as Automaton
use Rattle.hs_scheme.proofs.flow.FlowTable.TheSendSync as FlowTable
use Rattle.hs_scheme.proofs.points.Points.TheSendSync as Points
use Rattle.hs_scheme.proofs.scheme.Names.TheSendSync as Names
use Rattle.hs_scheme.proofs.term.Head.TheSendSync as Head
use Rattle.hs_scheme.proofs.sort.Sort.TheLaws.TheKnot as SortKnot
use Rattle.hs_scheme.proofs.term.Term.TheLaws.TheKnot as TermKnot
use Rattle.hs_core.proofs.backing.Backing.TheSendSync as Backing
use Rattle.hs_core.proofs.journal.Journal.TheSendSync as Journal
use Rattle.hs_core.proofs.pending.Pending.TheSendSync as Pending
use Rattle.hs_core.proofs.tickets.Tickets.TheSendSync as Tickets
use Rattle.hs_rules.proofs.deduced.Deduced.TheSendSync as Deduced
use Rattle.hs_replica.proofs.replica.Replica.TheSendSync as Replica
use Rattle.hs_scheme.specs.contracts.sort.Sort.{the_row as sort_row}
use Rattle.hs_scheme.specs.contracts.term.Term.{the_row as term_row}
use Rattle.hs_scheme.specs.contracts.term.Rule.{the_type as rule_type}
use Rattle.hs_scheme.specs.contracts.scheme.Scheme.{the_row as scheme_row}
use Rattle.hs_scheme.specs.contracts.scheme.Scheme.TheInside.{the_row as scheme_inside, the_type as scheme_type}
use Rattle.hs_scheme.specs.contracts.sorted.Sorted.{the_row as sorted_row}
use Rattle.hs_scheme.specs.contracts.sorted.Sorted.TheInside.{the_row as sorted_inside, the_type as sorted_type}
use Rattle.hs_scheme.specs.contracts.problem.Problem.{the_row as problem_row}
use Rattle.hs_scheme.specs.contracts.problem.Problem.TheInside.{the_row as problem_inside, the_type as problem_type}
use Rattle.hs_core.specs.contracts.state.Core.{the_row}
use Rattle.hs_core.specs.contracts.state.Core.TheInside.{the_row as inside_row, the_type as inside_type}
use Rattle.hs_turn.proofs.turn.Turn.TheSendSync as Turn
use Rattle.hs_shared.specs.contracts.held.Held.{the_row as held_row, the_type as held_type}
use Rattle.hs_shared.specs.contracts.table.SharedTable.{the_row as table_row}
use Rattle.hs_shared.specs.contracts.table.SharedTable.TheInside.{the_row as table_inside, the_type as table_type}

-- a struct crosses where its fields do
all_sent : (T : Declared) → AllSend (fields T) → IsSend (row T)
all_sent T s = recorded_send (Struct (shape T)) T.D T.to T.to_one (struct_send (shape T) s)

all_shared : (T : Declared) → AllSync (fields T) → IsSync (row T)
all_shared T s = recorded_sync (Struct (shape T)) T.D T.to T.to_one (struct_sync (shape T) s)

-- a problem, from the terms of its rules on
term_sync : IsSync term_row
term_sync = search (TermKnot.crosses, Head.the_field_sync, Head.the_sync, Global.the_sync, crosses, sendable) depth 20 fits 500

sort_sync : IsSync sort_row
sort_sync = search (SortKnot.crosses, Global.the_sync, crosses, sendable) depth 20 fits 500

rule_sync : IsSync (row rule_type)
rule_sync = all_shared rule_type (search sendable, (term_sync, tt))

scheme_sync : IsSync scheme_row
scheme_sync = view_sync scheme_inside _ _ _ _ (all_shared scheme_type (Vec-sync _ rule_sync, (Vec-sync _ (search sendable), tt)))

sorted_sync : IsSync sorted_row
sorted_sync = view_sync sorted_inside _ _ _ _ (all_shared sorted_type (scheme_sync, (Automaton.the_sync, (Names.the_sync, (Vec-sync _ sort_sync, tt)))))

pub problem_sync : IsSync problem_row
problem_sync = view_sync problem_inside _ _ _ _ (all_shared problem_type (sorted_sync, (Points.the_sync, (FlowTable.the_sync, tt))))

-- the fields of a core, in their order
all_send : (κ : NamedLft) → AllSend (fields (inside_type κ))
all_send κ = (shr_send _ _ problem_row problem_sync, (search sendable, (search sendable, (Replica.the_send, (Vec-send _ Backing.the_send, (Pending.the_send, (Tickets.the_send, (search (Option.the_field_send, Option.the_send, Deduced.the_send) depth 4 fits 50, (Journal.the_send, (search (Option.the_field_send, Option.the_send, sendable) depth 4 fits 50, (search sendable, tt)))))))))))

pub core_send : (κ : NamedLft) → IsSend (the_row κ)
core_send κ = view_send (inside_row κ) _ _ _ _ (all_sent (inside_type κ) (all_send κ))

held_send : (κ : NamedLft) → IsSend (held_row κ)
held_send κ = all_sent (held_type κ) (core_send κ, tt)

pub table_sync : (κ : NamedLft) → IsSync (table_row κ)
table_sync κ = view_sync (table_inside κ) _ _ _ _ (all_shared (table_type κ) (search (Turn.the_sync, held_send, Global.the_send, Global.the_sync, crosses, sendable) depth 20 fits 500, tt))

-- what a closure captures
all_parts : (Ts : List RattleType) → AllSync Ts → AllSync (rows (parts Ts))
all_parts [] s = tt
all_parts (T ∷ Ts) s = (s.0, all_parts Ts s.1)

pub captured_sync : (ν : Sym) (Ts : List RattleType) → AllSync Ts → IsSync (TupleAt ν Ts)
captured_sync ν Ts s = all_shared (type_at ν Ts) (all_parts Ts s)
