mod HandOn
mod EmptyQueue
