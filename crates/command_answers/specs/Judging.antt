-- What a step of the work answers.
use Rattle.std.specs.Prelude.{Result, Ok, Err}
use Rattle.command_answers.specs.declared.refusal.Refusal.{Refusal}
use Rattle.command_answers.specs.declared.refusal.Stop.{Stop}
use Rattle.command_answers.specs.declared.refusal.Stop.TheVariants.{Refused, ReadFault, Memory}

-- The step answers what is judged: a value or a refusal. It reads nothing, and want of memory is free.
abbrev pub Judges : {A : Type 0} → (Result A Refusal → Type 0) → Result A Stop → Type 0
Judges IsJudged (Ok value) = IsJudged (Ok value)
Judges IsJudged (Err (Refused refusal)) = IsJudged (Err refusal)
Judges IsJudged (Err ReadFault) = ⊥
Judges IsJudged (Err Memory) = Unit {0}
