-- What is counted of a channel along the trace, and how a use and the end of an entry change it.
use Rattle.std.specs.Prelude.{ℕ, max}
use Rattle.network_numbers.specs.declared.queues.QueueCounts.{QueueCounts}

-- no use yet, and nothing put
abbrev pub empty_queue : QueueCounts
empty_queue = record { wanted = 0; greatest = 0 }

-- one use more, which wants so many turns of the writer
abbrev pub after_use : ℕ → QueueCounts → QueueCounts
after_use wanted queue =
    record { wanted = max queue.wanted wanted; greatest = queue.greatest }

-- the end of an entry, at which the queue has this length
abbrev pub after_end : ℕ → QueueCounts → QueueCounts
after_end length queue =
    record { wanted = queue.wanted; greatest = max queue.greatest length }
