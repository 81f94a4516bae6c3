use Rattle.std.proofs.Common.{rules}
use Rattle.thread_runner.proofs.ProcessEnds.{placed}
use Rattle.thread_runner.proofs.ends.place.Goals as goal

pub returns : goal.returns
returns c =
    placed c.args.at c.args.writer c.args.reader c.args.put c.args.get c.args.ends.now.items c.index_mut.result.now
    c.set_put.new.row c.index_mut-2.result.now c.set_get.new.row (search rules) (search rules)
    c.index_mut.ensures.value c.set_put.ensures.puts c.set_put.ensures.gets c.index_mut-2.ensures.value
    c.set_get.ensures.gets c.set_get.ensures.puts
