-- What reading the words and the input and working on them comes to, before anything is written.
use Rattle.std.specs.Prelude.{ℕ, List, Option, Result, Ok, Err}
use Rattle.cert_text.specs.StandsFor.{IsWrittenOf}
use Rattle.command_line.specs.declared.words.Order.{Order}
use Rattle.command_answers.specs.Replies.{done}
use Rattle.command_answers.specs.Judging.{Judges}
use Rattle.command_answers.specs.Replying.{as_reply, reply_of}
use Rattle.command_answers.specs.declared.answer.Answer.{Answer}
use Rattle.command_answers.specs.declared.answer.CertificateAnswer.{CertificateAnswer}
use Rattle.command_answers.specs.declared.refusal.Stop.{Stop}
use Rattle.call_endings.specs.Changes.{Change, IsQuiet}
use Rattle.call_endings.specs.Planned.{IsStopped, ReadsAndJudges}
use Rattle.compaan_top.specs.Commands.{read_by}
use Rattle.compaan_top.specs.Outcome.{IsOutcome, Performs}

-- what an order comes to on a bundle that was read, told as the reply that it is
abbrev pub JudgesOrder : Order → List ℕ → Result Answer Stop → Type 0
JudgesOrder order bundle answer =
    Judges (λ made. Performs order.command order bundle (as_reply made)) answer

-- the input was read, and the answer is that of the order and of what was read; or the work stopped
abbrev pub IsPlanned : Option Order → Change → Result Answer Stop → Type 0
IsPlanned wanted input (Ok answer) =
    IsQuiet input × ReadsAndJudges (IsOutcome wanted) (read_by wanted) input (Ok (reply_of answer))
IsPlanned wanted input (Err stop) = IsStopped (IsOutcome wanted) (read_by wanted) input stop

-- the same of `cert`, whichever text is written
abbrev pub IsCertificatePlanned : Option Order → Change → Result CertificateAnswer Stop → Type 0
IsCertificatePlanned wanted input (Ok answer) =
    IsQuiet input × ((text : List ℕ) → IsWrittenOf text answer.network answer.cert
    → ReadsAndJudges (IsOutcome wanted) (read_by wanted) input (Ok (done text)))
IsCertificatePlanned wanted input (Err stop) =
    IsStopped (IsOutcome wanted) (read_by wanted) input stop
