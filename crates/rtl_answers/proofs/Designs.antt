-- What a design comes to, from what its steps come to: the source gives no nest, or a design of the nest's network is made, or a
-- sequencer of a process is too long.
use Rattle.std.proofs.Common.{◌≡◌, ℕ, ℤ, Bool, List, Result, Ok, Err, subst, sym}
use Rattle.bundle.specs.Parts.{source_part}
use Rattle.sanlp.specs.declared.nest.Nest.{Nest}
use Rattle.command_answers.specs.Judging.{Judges}
use Rattle.command_answers.specs.Replies.{Reply}
use Rattle.command_answers.specs.Source.{GivesWithinSize}
use Rattle.command_answers.specs.declared.refusal.Refusal.{Refusal}
use Rattle.command_answers.specs.declared.refusal.Stop.{Stop}
use Rattle.command_answers.proofs.Stops.{Judges-Err, nest_is}
use Rattle.rtl_line.specs.declared.words.Policy.{Policy}
use Rattle.rtl_line.specs.declared.words.Ports.{Ports}
use Rattle.rtl_answers.specs.declared.answer.Answer.{Answer}
use Rattle.rtl_answers.specs.Answering.{AnswersWith, as_reply}
use Rattle.rtl_answers.specs.Designing.{Designs, HasDesign, designed, script_refused}

-- what a nest comes to is what the bundle comes to whose source gives it
pub designs_of : (ports : Ports) (policy : Policy) (params : List (List ℕ × ℤ)) (bundle source : List ℕ) (nest : Nest)
    (result : Result Answer Stop)
    → source ≡ source_part bundle → GivesWithinSize source params (Ok nest)
    → Judges (λ (made : Result Answer Refusal). HasDesign ports policy nest (as_reply made)) result
    → Judges (λ (made : Result Answer Refusal). Designs ports policy params bundle (as_reply made)) result
designs_of ports policy params bundle source nest (Ok answer) is gives has =
    subst (λ (r : Reply). Designs ports policy params bundle (Ok r)) (sym has.1)
    (designed nest has.0 (nest_is params bundle source (Ok nest) is gives) has.2)
designs_of ports policy params bundle source nest (Err stop) is gives has =
    Judges-Err (λ (made : Result Answer Refusal). HasDesign ports policy nest (as_reply made))
    (λ (made : Result Answer Refusal). Designs ports policy params bundle (as_reply made)) stop
    (λ refusal long. script_refused nest refusal (nest_is params bundle source (Ok nest) is gives) long) has

-- an answer is judged by whether the clocks are asked for
pub judged_with : (wanted flag : Bool) (ports : Ports) (policy : Policy) (params : List (List ℕ × ℤ)) (bundle : List ℕ)
    (result : Result Answer Stop) → flag ≡ wanted
    → Judges (λ (made : Result Answer Refusal). AnswersWith wanted ports policy params bundle (as_reply made)) result
    → Judges (λ (made : Result Answer Refusal). AnswersWith flag ports policy params bundle (as_reply made)) result
judged_with wanted flag ports policy params bundle result is judged =
    subst
    (λ (b : Bool).
    Judges (λ (made : Result Answer Refusal). AnswersWith b ports policy params bundle (as_reply made)) result) (sym is)
    judged
