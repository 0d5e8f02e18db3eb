-- What a seat knows at first, and after each kind of step.
use Rattle.std.specs.Prelude.{◌+◌, true, false, List, [], ◌∷◌, ◌++◌, Some, None}
use Rattle.hs_turn.specs.declared.known.Known.{Known}
use Rattle.hs_turn.specs.Story.{longer, shorter}

module _ {B E : Type 0} where
  -- the first seat, of a state with this base and an empty story
  abbrev pub first_seat : B → Known B E
  first_seat b = record { marker = record {}; holds = false; live = true; number = 0; splits = 0; joins = 0; base = Some b; seen = []; own = []; kept = []; joined = [] }

  -- the seat has got the slot, and has seen the story that it found
  abbrev pub entered : Known B E → List E → Known B E
  entered v story = record { marker = v.marker; holds = true; live = v.live; number = v.number; splits = v.splits; joins = v.joins; base = v.base; seen = story; own = v.own; kept = v.kept; joined = v.joined }

  -- these events have joined the story: the seat has seen them, and they are its own
  abbrev pub having_told : Known B E → List E → Known B E
  having_told v events = record { marker = v.marker; holds = v.holds; live = v.live; number = v.number; splits = v.splits; joins = v.joins; base = v.base; seen = v.seen ++ events; own = v.own ++ events; kept = v.kept; joined = v.joined }

  -- the seat has given the slot back
  abbrev pub having_left : Known B E → Known B E
  having_left v = record { marker = v.marker; holds = false; live = v.live; number = v.number; splits = v.splits; joins = v.joins; base = v.base; seen = v.seen; own = v.own; kept = v.kept; joined = v.joined }

  -- seat 0 after a split, and the new seat: it has seen the same, and has no own events
  abbrev pub having_split : Known B E → Known B E
  having_split v = record { marker = v.marker; holds = v.holds; live = v.live; number = v.number; splits = v.splits + 1; joins = v.joins; base = v.base; seen = v.seen; own = v.own; kept = v.kept; joined = v.joined }

  abbrev pub split_off : Known B E → Known B E
  split_off v = record { marker = v.marker; holds = false; live = true; number = v.splits + 1; splits = 0; joins = 0; base = v.base; seen = v.seen; own = []; kept = []; joined = [] }

  -- seat 0 after a join: it has seen the longer of both lists, keeps the shorter, and has the other's own events beside its own
  abbrev pub having_joined : Known B E → Known B E → Known B E
  having_joined v w = record { marker = v.marker; holds = v.holds; live = v.live; number = v.number; splits = v.splits; joins = v.joins + 1; base = v.base; seen = longer v.seen w.seen; own = v.own; kept = shorter v.seen w.seen; joined = v.joined ++ (w.number, w.own) ∷ [] }

  -- what is left of a seat that was joined
  abbrev pub spent : Known B E
  spent = record { marker = record {}; holds = false; live = false; number = 0; splits = 0; joins = 0; base = None; seen = []; own = []; kept = []; joined = [] }
