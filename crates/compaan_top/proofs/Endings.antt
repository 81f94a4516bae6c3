-- How a call for an order ends, from what its parts did.
--
-- What a part reports is a reply, a refusal, a fault of reading or want of memory. Each of these is carried on from the words and
-- the bundle to what was planned (`IsPlanned`); how a call ends from there is shown in `call_endings`. All is by cases on the
-- report; a report that a part can't give is contradictory. What a reply says isn't looked at here: that it is the command's
-- is taken from the part that made it.
use Rattle.std.proofs.Common.{◌≡◌, ◌≢◌, ◌≤◌, ℕ, List, [], length, Option, Some, Result, Ok, Err, refl, sym, ap, subst, ◌∙◌, false, lit≤}
use Rattle.std.specs.Global.{Vec}
use Rattle.std.proofs.KnownBytes.{Keeps-refl}
use Rattle.call_endings.specs.Changes.{Change, IsQuiet, TakesAtMost}
use Rattle.call_endings.specs.Planned.{IsOrdered, IsStopped, ReadsAndJudges, ReadsBundle}
use Rattle.call_endings.specs.Reads.{ReadsFor, bundle_limit, most_taken, nothing}
use Rattle.call_endings.proofs.Endings.{kept, reads_bundle, stopped_at_bundle, stopped_at_words, stopped_at_work, takes_none, takes_read}
use Rattle.command_line.specs.declared.words.Command.{Command}
use Rattle.command_line.specs.declared.words.Command.TheVariants.{Run, Seq, Net, Cert, Check, Deps, Vhdl, Load, Sim, Trim, Trace}
use Rattle.command_line.specs.declared.words.Order.{Order}
use Rattle.compaan_top.specs.Answers.{IsRead}
use Rattle.compaan_top.specs.Commands.{read_by, reads_of, waits, WaitsForNobody}
use Rattle.compaan_top.specs.CertOutcomes.{PrintsCertificate}
use Rattle.command_answers.specs.Judging.{Judges}
use Rattle.command_answers.specs.Load.{Loads}
use Rattle.command_answers.specs.Replies.{Reply, done}
use Rattle.compaan_top.specs.Outcome.{IsOutcome, Performs, words_refused, bundle_refused, performed}
use Rattle.command_answers.specs.Replying.{JudgesTexts, as_reply, reply_of}
use Rattle.compaan_top.specs.Planned.{IsCertificatePlanned, IsPlanned, JudgesOrder}
use Rattle.command_answers.specs.declared.answer.Answer.{Answer}
use Rattle.command_answers.specs.declared.answer.CertificateAnswer.{CertificateAnswer}
use Rattle.command_answers.specs.declared.refusal.Refusal.{Refusal}
use Rattle.command_answers.specs.declared.refusal.Stop.{Stop}

-- every command but `load` reads a bundle
pub others_read : (command : Command) → command ≢ Load → reads_of command ≢ nothing
others_read Run other = λ e. cc
others_read Seq other = λ e. cc
others_read Net other = λ e. cc
others_read Cert other = λ e. cc
others_read Check other = λ e. cc
others_read Deps other = λ e. cc
others_read Vhdl other = λ e. cc
others_read Load other = absurd (other refl)
others_read Sim other = λ e. cc
others_read Trim other = λ e. cc
others_read Trace other = λ e. cc

load_waits : waits Load ≡ false → ⊥
load_waits quiet = cc

-- so does a command that waits for nobody
pub quiet_reads : (command : Command) → WaitsForNobody command → reads_of command ≢ nothing
quiet_reads command quiet =
    others_read command (λ is. load_waits (subst (λ (c : Command). waits c ≡ false) is quiet))

-- where the words are refused nothing is read
pub planned_refusal_of_words : (wanted : Option Order) (left : Option (List ℕ)) (faults : ℕ) (stop : Stop)
    → Judges (IsOrdered wanted) (Err stop) → IsStopped (IsOutcome wanted) (read_by wanted) (kept left faults) stop
planned_refusal_of_words wanted left faults stop =
    stopped_at_words (IsOutcome wanted) (read_by wanted) wanted left faults stop
    (λ none. (ap read_by none, words_refused none))

pub planned_refusal_of_bundle : (order : Order) (input : Change) (stop : Stop) → reads_of order.command ≢ nothing
    → ReadsBundle input (Err stop) → IsStopped (IsOutcome (Some order)) (reads_of order.command) input stop
planned_refusal_of_bundle order input stop some =
    stopped_at_bundle (IsOutcome (Some order)) (reads_of order.command) input stop some
    (λ bundle long. bundle_refused order refl some long)

planned_answer : (order : Order) (input : Change) (bundle : List ℕ) (answer : Result Answer Stop)
    → IsQuiet input → IsRead (Some order) input bundle → TakesAtMost input (most_taken (reads_of order.command))
    → length bundle ≤ bundle_limit → JudgesOrder order bundle answer → IsPlanned (Some order) input answer
planned_answer order input bundle (Ok made) quiet gives taken within judged =
    (quiet, (bundle, gives, performed order (Ok (reply_of made)) refl within judged))
planned_answer order input bundle (Err stop) quiet gives taken within judged =
    stopped_at_work (IsOutcome (Some order)) (reads_of order.command)
    (λ made. Performs order.command order bundle (as_reply made)) input bundle stop quiet gives taken
    (λ refusal made. performed order (Err refusal) refl within made) judged

-- a bundle that was read is worked on
pub planned_work : (order : Order) (input : Change) (bundle : Vec ℕ) (answer : Result Answer Stop)
    → reads_of order.command ≢ nothing → ReadsBundle input (Ok bundle) → JudgesOrder order bundle.items answer
    → IsPlanned (Some order) input answer
planned_work order input bundle answer some read judged =
    planned_answer order input bundle.items answer read.0
    (reads_bundle (reads_of order.command) input bundle.items some read.1)
    (takes_read (reads_of order.command) input bundle.items some read.1) read.2 judged

cert_is_not_load : Cert ≡ Load → ⊥
cert_is_not_load is = cc

-- the same of `cert`, whichever text is written
pub planned_certificate : (order : Order) (input : Change) (bundle : Vec ℕ) (answer : Result CertificateAnswer Stop)
    → order.command ≡ Cert → ReadsBundle input (Ok bundle)
    → Judges (JudgesTexts (PrintsCertificate order.policy order.params bundle.items)) answer
    → IsCertificatePlanned (Some order) input answer
planned_certificate order input bundle answer is read judged =
    by_answer answer judged
  where
    some : reads_of order.command ≢ nothing
    some = others_read order.command (λ other. cert_is_not_load (sym is ∙ other))

    comes_to : (reply : Result Reply Refusal) → PrintsCertificate order.policy order.params bundle.items reply
        → ReadsAndJudges (IsOutcome (Some order)) (reads_of order.command) input reply
    comes_to reply made = (
      bundle.items,
      reads_bundle (reads_of order.command) input bundle.items some read.1,
      performed order reply refl read.2
          (subst (λ (c : Command). Performs c order bundle.items reply) (sym is) made),
    )

    by_answer : (answer : Result CertificateAnswer Stop)
        → Judges (JudgesTexts (PrintsCertificate order.policy order.params bundle.items)) answer
        → IsCertificatePlanned (Some order) input answer
    by_answer (Ok made) judged = (read.0, λ text written. comes_to (Ok (done text)) (judged text written))
    by_answer (Err stop) judged =
        stopped_at_work (IsOutcome (Some order)) (reads_of order.command)
        (JudgesTexts (PrintsCertificate order.policy order.params bundle.items)) input bundle.items stop read.0
        (reads_bundle (reads_of order.command) input bundle.items some read.1)
        (takes_read (reads_of order.command) input bundle.items some read.1)
        (λ refusal made. (comes_to (Err refusal) made).2) judged

-- `load` reads nothing
pub planned_load : (order : Order) (left : Option (List ℕ)) (faults : ℕ) (answer : Result Answer Stop)
    → order.command ≡ Load
    → Judges (λ made. Loads order.policy order.load (as_reply made)) answer
    → IsPlanned (Some order) (kept left faults) answer
planned_load order left faults answer is judged =
    planned_answer order (kept left faults) [] answer refl
    (subst (λ (c : Command). ReadsFor (reads_of c) (kept left faults) []) (sym is) (Keeps-refl left, refl))
    (takes_none left faults (most_taken (reads_of order.command))) (lit≤ tt)
    (subst (λ (c : Command). Judges (λ made. Performs c order [] (as_reply made)) answer) (sym is) judged)
