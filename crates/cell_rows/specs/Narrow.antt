-- Statements whose forms have their numbers in 64 bits.
use Rattle.sanlp.specs.declared.nest.Statement.{Statement}
use Rattle.cell_rows.specs.declared.narrow_access.NarrowStatement.{NarrowStatement}

-- what a statement writes and reads
abbrev pub narrowed : Statement → NarrowStatement
narrowed s = record { write = s.write; reads = s.reads }
