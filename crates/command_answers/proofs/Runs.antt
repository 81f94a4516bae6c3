-- What the commands that run a source on its data come to, from what their steps come to.
use Rattle.std.proofs.Common.{◌≡◌, ℕ, ℤ, List, Result, Ok, Err, sym, subst}
use Rattle.bundle.specs.Parts.{source_part, data_part}
use Rattle.sanlp.specs.Size.{SizeIsOk}
use Rattle.sanlp.specs.declared.nest.Inputs.{Inputs}
use Rattle.sanlp.specs.declared.nest.Nest.{Nest}
use Rattle.command_answers.specs.Judging.{Judges}
use Rattle.command_answers.specs.Replying.{as_reply}
use Rattle.command_answers.specs.Replies.{done}
use Rattle.command_answers.specs.Run.{IsInputs, Runs, data_refused, answered}
use Rattle.command_answers.specs.Source.{GivesWithinSize}
use Rattle.command_answers.specs.Steps.{HasInputs, HasSizedNest, IsPrepared}
use Rattle.command_answers.specs.declared.answer.Answer.{Answer}
use Rattle.command_answers.specs.declared.refusal.Stop.{Stop}
use Rattle.command_answers.specs.declared.refusal.Stop.TheVariants.{Refused, ReadFault, Memory}
use Rattle.command_answers.proofs.Stops.{Judges-Err, nest_is}

abbrev pub JudgesRun : (Nest → Inputs → List ℕ) → List (List ℕ × ℤ) → List ℕ → Result Answer Stop → Type 0
JudgesRun text params bundle result = Judges (λ answer. Runs text params bundle (as_reply answer)) result

abbrev pub JudgesPrepared : List (List ℕ × ℤ) → List ℕ → Result (Nest × Inputs) Stop → Type 0
JudgesPrepared params bundle result = Judges (IsPrepared params bundle) result

pub prepared_from : (params : List (List ℕ × ℤ)) (bundle source bytes : List ℕ) (nest : Nest)
    (answer : Result (Nest × Inputs) Stop)
    → source ≡ source_part bundle → bytes ≡ data_part bundle → HasSizedNest source params (Ok nest)
    → Judges (HasInputs nest bytes) answer → JudgesPrepared params bundle answer
prepared_from params bundle source bytes nest (Ok made) is bytes_are sized has =
    subst (λ (n : Nest). GivesWithinSize (source_part bundle) params (Ok n) × IsInputs n (data_part bundle) (Ok made.1)
    × SizeIsOk n) (sym has.0) (
      nest_is params bundle source (Ok nest) is sized.0,
      subst (λ (b : List ℕ). IsInputs nest b (Ok made.1)) bytes_are has.1,
      sized.1,
    )
prepared_from params bundle source bytes nest (Err (Refused refusal)) is bytes_are sized has = λ text.
    data_refused nest refusal (nest_is params bundle source (Ok nest) is sized.0)
    (subst (λ (b : List ℕ). IsInputs nest b (Err refusal)) bytes_are has)
prepared_from params bundle source bytes nest (Err ReadFault) is bytes_are sized has = has
prepared_from params bundle source bytes nest (Err Memory) is bytes_are sized has = tt

-- what refuses the nest or its inputs refuses the run
pub unprepared : (text : Nest → Inputs → List ℕ) (params : List (List ℕ × ℤ)) (bundle : List ℕ) (stop : Stop)
    → JudgesPrepared params bundle (Err stop) → JudgesRun text params bundle (Err stop)
unprepared text params bundle stop =
    Judges-Err (IsPrepared params bundle) (λ answer. Runs text params bundle (as_reply answer)) stop
    (λ refusal judged. judged text)

pub runs_to_text : (text : Nest → Inputs → List ℕ) (params : List (List ℕ × ℤ)) (bundle : List ℕ) (nest : Nest)
    (inputs : Inputs) (written : List ℕ)
    → IsPrepared params bundle (Ok (nest, inputs)) → written ≡ text nest inputs
    → Runs text params bundle (Ok (done written))
runs_to_text text params bundle nest inputs written is made =
    subst (λ (t : List ℕ). Runs text params bundle (Ok (done t))) (sym made) (answered nest inputs is.0 is.1)
