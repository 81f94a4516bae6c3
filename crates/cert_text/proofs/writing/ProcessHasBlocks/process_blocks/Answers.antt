use Rattle.std.proofs.Common.{List, ap, arith}
use Rattle.net_core.specs.declared.network.Event.{Event}
use Rattle.cert_text.proofs.writing.ProcessHasBlocks.process_blocks.Goals as goal

pub returns : goal.returns
returns c =
    record {
      stands =
          ap (λ (script : List Event). record { slots = c.args.self.now.slots; script = script }) c.blocks-2.ensures.stands;
      proper = c.blocks-2.ensures.proper;
      shallow =
          omega (arith, c.blocks-2.ensures.shallow);
    }
