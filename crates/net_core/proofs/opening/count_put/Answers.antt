use Rattle.net_core.proofs.BlockCounts.{put_once}
use Rattle.net_core.proofs.opening.count_put.Goals as goal

pub bounds-counts-channel : goal.bounds-counts-channel
bounds-counts-channel c =
    c.requires.channels c.in-Put.channel (put_once c.in-Put.channel c.args.event.now c.in-Put.is)

pub bounds-counts-channel-in-Put : goal.bounds-counts-channel-in-Put
bounds-counts-channel-in-Put c =
    c.requires.channels c.in-Put.channel (put_once c.in-Put.channel c.args.event.now c.in-Put.is)
