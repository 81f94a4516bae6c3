-- What an answer is as a reply.
use Rattle.std.specs.Prelude.{List, ℕ, Result, Ok, Err}
use Rattle.array_data.specs.Answer.{answer_text}
use Rattle.cert_text.specs.StandsFor.{IsWrittenOf}
use Rattle.deps_text.specs.DepsText.{deps_text}
use Rattle.matrix_load.specs.Summary.{summary_text}
use Rattle.net_text.specs.NetworkText.{net_text}
use Rattle.number_text.specs.Numbers.{numbers_text}
use Rattle.trace_text.specs.TraceText.{trace_text}
use Rattle.trim_text.specs.TrimText.{trim_text}
use Rattle.verdict_text.specs.VerdictText.{unread_line}
use Rattle.vhdl_text.specs.VhdlText.{vhdl_text}
use Rattle.command_answers.specs.Checking.{refused, verdict_reply}
use Rattle.command_answers.specs.Replies.{Reply, done}
use Rattle.command_answers.specs.Simulating.{clocked_text}
use Rattle.command_answers.specs.declared.answer.Answer.{Answer}
use Rattle.command_answers.specs.declared.answer.Answer.TheVariants.{Arrays, Network, Numbers, Verdict, Unread, Summary, Nodes, Clocked, Trimmed, Trace, Dependences}
use Rattle.command_answers.specs.declared.answer.CertificateAnswer.{CertificateAnswer}
use Rattle.command_answers.specs.declared.refusal.Refusal.{Refusal}

-- the reply that an answer is
abbrev pub reply_of : Answer → Reply
reply_of (Arrays answer) = done (answer_text answer.nest.arrays answer.arrays.arrays)
reply_of (Network answer) = done (net_text answer.nest answer.network)
reply_of (Numbers answer) = done (numbers_text answer.nest answer.numbers)
reply_of (Verdict verdict) = verdict_reply verdict
reply_of (Unread error) = refused (unread_line error)
reply_of (Nodes answer) = done (vhdl_text answer.network answer.autos)
reply_of (Summary answer) =
    done (summary_text answer.points answer.channels answer.events answer.sum)
reply_of (Clocked answer) =
    done (clocked_text answer.nest.arrays answer.clocked.arrays.arrays answer.clocked.clocks)
reply_of (Trimmed trimmed) = done (trim_text trimmed.capacities trimmed.rests)
reply_of (Trace run) = done (trace_text run)
reply_of (Dependences answer) = done (deps_text answer.nest answer.dependences)

-- an answer as the reply that it is, what is written of it with its status, or a refusal
abbrev pub as_reply : Result Answer Refusal → Result Reply Refusal
as_reply (Ok answer) = Ok (reply_of answer)
as_reply (Err refusal) = Err refusal

-- a network with its certificate: each text that is written of it is a reply that is judged so
abbrev pub JudgesTexts : (Result Reply Refusal → Type 0) → Result CertificateAnswer Refusal → Type 0
JudgesTexts IsJudged (Ok answer) =
    (text : List ℕ) → IsWrittenOf text answer.network answer.cert → IsJudged (Ok (done text))
JudgesTexts IsJudged (Err refusal) = IsJudged (Err refusal)
