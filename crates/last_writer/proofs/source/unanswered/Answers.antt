use Rattle.std.proofs.Common.{refl}
use Rattle.last_writer.proofs.RootContexts.{begun}
use Rattle.last_writer.proofs.source.unanswered.Goals as goal

pub returns-clause-answered : goal.returns-clause-answered
returns-clause-answered c =
    begun _ c.args.nest.now c.args.read.now refl refl c.requires.asked c.requires.writers refl refl
