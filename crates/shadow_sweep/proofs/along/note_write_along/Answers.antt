use Rattle.shadow_sweep.proofs.along.note_write_along.Goals as goal

pub place_at-requires-clause-short : goal.place_at-requires-clause-short
place_at-requires-clause-short c = (c.requires.placed c.in-Some.access c.in-Some.is).short
