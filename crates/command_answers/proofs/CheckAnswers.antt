-- What the command `check` comes to, from what its steps come to.
use Rattle.std.proofs.Common.{◌≡◌, ◌≢◌, ℕ, ℤ, List, Some, Result, Ok, Err, sym, subst}
use Rattle.cert_text.specs.Reading.{reading}
use Rattle.cert_lines.specs.declared.error.CertError.{CertError}
use Rattle.cert_lines.specs.declared.error.CertError.TheVariants as cert
use Rattle.bundle.specs.Parts.{certificate_part, source_part}
use Rattle.net_checker.specs.Fits.{first, verdict_of}
use Rattle.net_checker.specs.declared.verdict.Verdict.{Verdict}
use Rattle.net_core.specs.declared.network.Network.{Network}
use Rattle.sanlp.specs.declared.nest.Nest.{Nest}
use Rattle.source_tree.specs.declared.cert.Cert.{Cert}
use Rattle.verdict_text.specs.VerdictText.{unread_line, unread_text}
use Rattle.command_answers.specs.Checking.{Checks, verdict_reply, unread, judged}
use Rattle.command_answers.specs.Judging.{Judges}
use Rattle.command_answers.specs.Replying.{as_reply, reply_of}
use Rattle.command_answers.specs.Source.{GivesWithinSize}
use Rattle.command_answers.specs.Steps.{TellsError}
use Rattle.command_answers.specs.declared.answer.Answer.{Answer}
use Rattle.command_answers.specs.declared.refusal.Stop.{Stop}
use Rattle.command_answers.specs.declared.refusal.Stop.TheVariants.{Refused, ReadFault, Memory}
use Rattle.command_answers.proofs.Stops.{nest_is}

abbrev pub JudgesCheck : List (List ℕ × ℤ) → List ℕ → Result Answer Stop → Type 0
JudgesCheck params bundle result = Judges (λ answer. Checks params bundle (as_reply answer)) result

-- an error that is told isn't want of memory
told_error : (error : CertError) (text : List ℕ) → unread_text error ≡ Some text → error ≢ cert.Memory
told_error (cert.Line line) text told = λ is. cc
told_error (cert.Number line) text told = λ is. cc
told_error cert.Truncated text told = λ is. cc
told_error (cert.Deep line) text told = λ is. cc
told_error (cert.Long process) text told = λ is. cc
told_error cert.Memory text told = λ is. cc

pub checks_unread : (params : List (List ℕ × ℤ)) (bundle source part : List ℕ) (nest : Nest) (error : CertError)
    (answer : Result Answer Stop) → source ≡ source_part bundle → certificate_part bundle ≡ Some part
    → GivesWithinSize source params (Ok nest) → (error ≢ cert.Memory → reading part ≡ Err error)
    → Judges (TellsError error) answer → JudgesCheck params bundle answer
checks_unread params bundle source part nest error (Ok made) is there gives read tells =
    subst (λ (a : Answer). Checks params bundle (Ok (reply_of a))) (sym tells.0)
    (unread part nest error (unread_line error) there (nest_is params bundle source (Ok nest) is gives)
    (read (told_error error (unread_line error) tells.1)) tells.1)
checks_unread params bundle source part nest error (Err (Refused refusal)) is there gives read tells = absurd tells
checks_unread params bundle source part nest error (Err ReadFault) is there gives read tells = absurd tells
checks_unread params bundle source part nest error (Err Memory) is there gives read tells = tt

pub checks_judged : (params : List (List ℕ × ℤ)) (bundle source part : List ℕ) (nest : Nest) (network : Network)
    (given : Cert) (verdict : Verdict) → source ≡ source_part bundle
    → certificate_part bundle ≡ Some part → GivesWithinSize source params (Ok nest) → reading part ≡ Ok (network, given)
    → verdict ≡ verdict_of (first nest network given) → Checks params bundle (Ok (verdict_reply verdict))
checks_judged params bundle source part nest network given verdict is there gives read told =
    subst (λ (v : Verdict). Checks params bundle (Ok (verdict_reply v))) (sym told)
    (judged part nest network given there (nest_is params bundle source (Ok nest) is gives) read)
