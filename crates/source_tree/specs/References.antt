-- The occurrence of an access that a reference names.
use Rattle.source_tree.specs.Systems.{Occurrence}
use Rattle.source_tree.specs.declared.reference.Reference.{Reference}

-- the occurrence of an access that a reference names: its statement's number, the statement and the access
abbrev pub occurrence_of : Reference → Occurrence
occurrence_of r = record { number = r.number; statement = r.statement.now; access = r.access.now }
