-- The process network of a nest (Compaan 2000, pn 2007).
use Rattle.std.specs.Prelude.{ℕ, map, length}
use Rattle.std.specs.List.{range_with_len}
use Rattle.channel_plan.specs.declared.plans.ChannelPlan.{ChannelPlan}
use Rattle.channel_plan.specs.Plans.{plans_of}
use Rattle.net_core.specs.declared.network.Channel.{Channel}
use Rattle.net_core.specs.declared.network.Network.{Network}
use Rattle.net_core.specs.declared.network.Process.{Process}
use Rattle.sanlp.specs.declared.nest.Nest.{Nest}
use Rattle.process_derive.specs.Scripts.{script, slots_of}

-- a channel with the number of its tokens as its capacity
abbrev pub channel_of : ChannelPlan → Channel
channel_of plan =
    record {
      writer = plan.writer;
      reader = plan.reader;
      read = plan.read;
      capacity = plan.tokens;
      class = plan.class;
    }

-- the process of statement p: the slots of its incoming channels, side by side, and its script
abbrev pub process_of : Nest → ℕ → Process
process_of n p = record { slots = slots_of (plans_of n) p; script = script n p }

-- one process for each statement, and one channel for each dependence
unfoldable pub net : Nest → Network
net n = record {
  processes = map (process_of n) (range_with_len 0 (length n.statements));
  channels = map channel_of (plans_of n);
}
