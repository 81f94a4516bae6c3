use Rattle.std.proofs.Common.{arith}
use Rattle.net_core.specs.Machine.{net_of}
use Rattle.net_core.specs.Progress.{cut_of}
use Rattle.cap_trim.proofs.Rings.{path_more, path_none, path_ring}
use Rattle.cap_trim.proofs.needed_places.is_ring.Goals as goal

pub loop-init : goal.loop-init
loop-init c = record {
  path = path_none (net_of c.args.network.now) (cut_of c.args.progress.now) c.args.channel c.args.first;
  there = c.requires.first;
}

pub returns-then-other-first : goal.returns-then-other-first
returns-then-other-first c =
    let n = net_of c.args.network.now in
    let k = cut_of c.args.progress.now in
    path_ring n k c.args.channel c.args.first c.loop.counter c.in-Some.other
    (path_more n k c.args.channel c.args.first c.loop.counter c.loop.process c.in-Some.other c.loop.invariant.path
    c.in-Some.ensures.waits c.in-Some.ensures.other) (omega arith)

pub loop-preserved : goal.loop-preserved
loop-preserved c = record {
  path = path_more (net_of c.args.network.now) (cut_of c.args.progress.now) c.args.channel c.args.first c.loop.counter
      c.loop.process c.in-Some.other c.loop.invariant.path c.in-Some.ensures.waits c.in-Some.ensures.other;
  there = c.in-Some.ensures.there;
}
