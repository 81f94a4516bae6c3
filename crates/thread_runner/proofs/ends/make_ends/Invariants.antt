use Rattle.thread_runner.specs.Made.{all_streams}
use Rattle.thread_runner.proofs.ends.make_ends.Given as goal

-- the streams of the network on these inputs
abbrev pub ghosts-made : goal.ghosts-made
ghosts-made a = record { streams = all_streams a.nest.now a.network.now a.inputs.now }
