-- Runs of which the least enabled process makes each event.
use Rattle.std.specs.Prelude.{◌≡◌, ℕ, min, List}
use Rattle.net_core.specs.declared.network.Event.{Event}
use Rattle.net_core.specs.declared.network.Event.TheVariants.{Get, Fire, Put}
use Rattle.net_core.specs.Cuts.{Cut, IsCutRun, cut_after}
use Rattle.net_core.specs.Machine.{Net}

-- a run leads from one cut to another
abbrev pub LeadsTo : Net → Cut → Cut → Type 0
LeadsTo n k m = (run : List ℕ) × IsCutRun n k run × (m ≡ cut_after k run)

-- the least process that an event of p, the least enabled one, may have left or made enabled: p, at a Get the channel's writer,
-- and at a Put its reader
abbrev pub least_after : Net → ℕ → Event → ℕ
least_after n p (Get c slot) = min p (n.writer c)
least_after n p (Fire refs) = p
least_after n p (Put c) = min p (n.reader c)
