-- The sequencers of a design whose ports go each at its own pace, by processes and channels.
use Rattle.std.specs.Prelude.{ℕ, ◌==◌, List, slice_get}
use Rattle.std.specs.List.{find}
use Rattle.std.specs.Option.{option_map_or}
use Rattle.net_core.specs.Machine.{Net}
use Rattle.repeat_sequencer.specs.declared.sequencer.Sequencer.{Sequencer}
use Rattle.design_clocks.specs.Plain.{plain}
use Rattle.port_items.specs.declared.items.GetItem.{GetItem}
use Rattle.port_items.specs.declared.items.PutItem.{PutItem}
use Rattle.port_items.specs.Items.{fire_items, port_gets, put_items}
use Rattle.port_design.specs.Registers.{Controls}
use Rattle.port_text.specs.declared.unit.GetControl.{GetControl}
use Rattle.port_text.specs.declared.unit.PortUnit.{PortUnit}
use Rattle.port_text.specs.declared.unit.PutControl.{PutControl}

-- the sequencer of the Get port of a channel among these, or another where there is none
abbrev pub get_sequencer : List GetControl → ℕ → Sequencer GetItem → Sequencer GetItem
get_sequencer controls c other =
    option_map_or (λ control. control.items) (find (λ control. control.channel == c) controls) other

abbrev pub put_sequencer : List PutControl → ℕ → Sequencer PutItem → Sequencer PutItem
put_sequencer controls c other =
    option_map_or (λ control. control.items) (find (λ control. control.channel == c) controls) other

-- The sequencers of units: each channel has that of its reader's Get port and that of its writer's Put port. Where there is no such
-- process or channel one without repeats stands for it, which gives the same.
abbrev pub port_controls : Net → List PortUnit → Controls
port_controls n units = record {
  fires = λ p. option_map_or (λ unit. unit.fires) (slice_get units p)
      (plain (fire_items (n.script p)));
  gets = λ c. option_map_or
      (λ unit. get_sequencer unit.gets c (plain (port_gets c (n.script (n.reader c)))))
      (slice_get units (n.reader c)) (plain (port_gets c (n.script (n.reader c))));
  puts = λ c. option_map_or
      (λ unit. put_sequencer unit.puts c (plain (put_items c (n.script (n.writer c)))))
      (slice_get units (n.writer c)) (plain (put_items c (n.script (n.writer c))));
}
