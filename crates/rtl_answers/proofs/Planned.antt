-- How a call ends, from what its parts did.
--
-- What a part reports is an answer, or why it stopped. It is carried on from the bundle to what was planned (`IsDesignPlanned`); how a
-- call ends from there is shown in `call_endings`. Words that are refused are told before anything is read, and this program tells
-- them by a line of its own, so here it is shown how a call ends there (`ends_at_usage`). All is by cases on the report.
use Rattle.std.proofs.Common.{◌≡◌, ◌≢◌, ℕ, List, [], Option, Some, None, Result, Ok, Err, refl, sym, ap, subst, inr, lit≤}
use Rattle.std.specs.Global.{Vec}
use Rattle.std.proofs.KnownBytes.{Appends-nil, Keeps-refl}
use Rattle.rtl_line.specs.declared.words.Order.{Order}
use Rattle.command_answers.specs.Judging.{Judges}
use Rattle.command_answers.specs.declared.refusal.Refusal.{Refusal}
use Rattle.command_answers.specs.declared.refusal.Stop.{Stop}
use Rattle.command_answers.specs.declared.status.Status.{Status}
use Rattle.command_answers.specs.declared.status.Status.TheVariants.{NoMemory}
use Rattle.call_endings.specs.Changes.{Change}
use Rattle.call_endings.specs.Endings.{cut_short, no_memory, written}
use Rattle.call_endings.specs.Planned.{ReadsBundle}
use Rattle.call_endings.specs.Reads.{Reads, ReadsFor, source_alone, nothing, most_taken}
use Rattle.call_endings.proofs.Endings.{kept, stopped_at_bundle, stopped_at_work, takes_none, takes_read}
use Rattle.rtl_answers.specs.Answering.{Answers, as_reply, reply_of}
use Rattle.rtl_answers.specs.Calls.{EndsDesign, IsDesignOutcome, IsDesignPlanned, TellsUsage, bundle_refused, performed, design_reads, usage_cut_short, usage_outcome, usage_told, words_refused}
use Rattle.rtl_answers.specs.declared.answer.Answer.{Answer}

-- for an order a bundle is read
reads_some : source_alone ≢ nothing
reads_some = λ e. cc

pub planned_refusal_of_bundle : (order : Order) (input : Change) (stop : Stop) → ReadsBundle input (Err stop)
    → IsDesignPlanned order input (Err stop)
planned_refusal_of_bundle order input stop =
    stopped_at_bundle (IsDesignOutcome (Some order)) source_alone input stop reads_some
    (λ bundle long. bundle_refused order refl long)

pub planned_work : (order : Order) (input : Change) (bundle : Vec ℕ) (result : Result Answer Stop)
    → ReadsBundle input (Ok bundle)
    → Judges (λ (made : Result Answer Refusal). Answers order bundle.items (as_reply made)) result
    → IsDesignPlanned order input result
planned_work order input bundle (Ok answer) read judged =
    (read.0, (bundle.items, read.1, performed order (Ok (reply_of answer)) refl read.2 judged))
planned_work order input bundle (Err stop) read judged =
    stopped_at_work (IsDesignOutcome (Some order)) source_alone
    (λ (made : Result Answer Refusal). Answers order bundle.items (as_reply made)) input bundle.items stop read.0 read.1
    (takes_read source_alone input bundle.items reads_some read.1)
    (λ refusal made. performed order (Err refusal) refl read.2 made) judged

pub ends_ordered : (wanted : Option Order) (order : Order) (input output complaint : Change) (status : Status)
    → wanted ≡ Some order → EndsDesign (Some order) input output complaint status
    → EndsDesign wanted input output complaint status
ends_ordered wanted order input output complaint status is ends =
    subst (λ (w : Option Order). EndsDesign w input output complaint status) (sym is) ends

-- where the words are refused nothing is read
reads_nothing : (wanted : Option Order) (left : Option (List ℕ)) (faults : ℕ) → wanted ≡ None
    → ReadsFor (design_reads wanted) (kept left faults) []
reads_nothing wanted left faults none =
    subst (λ (r : Reads). ReadsFor r (kept left faults) []) (sym (ap design_reads none)) (Keeps-refl left, refl)

pub ends_at_usage : (wanted : Option Order) (left held : Option (List ℕ)) (faults others : ℕ) (complaint : Change)
    {status : Status}
    → wanted ≡ None → TellsUsage complaint status
    → EndsDesign wanted (kept left faults) (kept held others) complaint status
ends_at_usage wanted left held faults others complaint none (usage_told appends calm) =
    written [] usage_outcome refl (reads_nothing wanted left faults none) (words_refused none)
    (record { written = Appends-nil held; complained = appends; output_quiet = refl; complaint_quiet = calm })
ends_at_usage wanted left held faults others complaint none (usage_cut_short front fault) =
    cut_short [] usage_outcome refl (reads_nothing wanted left faults none) (words_refused none)
    (record { written = (0, lit≤ tt, Appends-nil held); complained = front; cause = inr fault })

pub ends_without_memory : (wanted : Option Order) (left held other : Option (List ℕ)) (faults others more : ℕ)
    → EndsDesign wanted (kept left faults) (kept held others) (kept other more) NoMemory
ends_without_memory wanted left held other faults others more =
    no_memory refl (takes_none left faults (most_taken (design_reads wanted)))
    (record {
      output_kept = Keeps-refl held;
      complaint_kept = Keeps-refl other;
      output_quiet = refl;
      complaint_quiet = refl;
    })
