-- What a command that isn't refused writes on the output.
use Rattle.std.specs.Prelude.{ℕ, List}
use Rattle.command_answers.specs.declared.status.Status.{Status}
use Rattle.command_answers.specs.declared.status.Status.TheVariants.{Done}

-- the text, and the program's status
pub record Reply : Type 0 where
  pub status : Status
  pub text : List ℕ

-- the command was done
abbrev pub done : List ℕ → Reply
done text = record { status = Done; text = text }
