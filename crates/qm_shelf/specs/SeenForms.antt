use Rattle.qm_surroundings.specs.ShelfState.{ShelfState}
use Rattle.qm_surroundings.specs.SinkState.{SinkState}
use Rattle.qm_surroundings.specs.Surroundings.{Surroundings}
use Rattle.qm_shelf.specs.declared.shelf.Shelf.{Ghosts}
use Rattle.qm_shelf.specs.declared.sink.Sink.{Ghosts as SinkGhosts}

-- How a shelf and a sink are seen, whatever their forms.

module _ {H : Type 0} where
  -- what the ghosts of its form say of a shelf
  abbrev pub shelf_state : Ghosts H → H → ShelfState
  shelf_state form shelf = record {
    tells = form.tells;
    held = form.held shelf;
    read_faults = form.read_faults shelf;
    write_faults = form.write_faults shelf;
  }

module _ {S : Type 0} where
  -- what the ghosts of its form say of a sink
  abbrev pub sink_state : SinkGhosts S → S → SinkState
  sink_state form sink = record { tells = form.tells; printed = form.written sink; faults = form.faults sink }

module _ {H S : Type 0} where
  -- what the ghosts of their forms say of a shelf and a sink
  abbrev pub surroundings : Ghosts H → SinkGhosts S → H → S → Surroundings
  surroundings shelf_form sink_form shelf sink = record { shelf = shelf_state shelf_form shelf; sink = sink_state sink_form sink }
