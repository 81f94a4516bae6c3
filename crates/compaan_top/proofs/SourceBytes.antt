-- What a call comes to whose source tells its bytes. Within the limit what was read is all that the source had; past
-- it, both are too long, and too long a bundle is refused whatever it holds.
--
-- So an outcome of what was read is an outcome of all that the source had, and a call that was answered comes to one
-- (`comes_to`): its three other ends have the statuses that `IsDecision` excludes. For `check` this gives
-- that `accepted` is said exactly where the bundle is within the limit and has a sound certificate (`call_accepted`).
-- That acceptance vouches for a fitting pair, that what fits is sound, and that what fits is accepted are hypotheses
-- here (`Acceptance`).
use Rattle.std.proofs.Common.{◌≡◌, ◌∙◌, ◌⊎◌, ◌≤◌, ◌<◌, ◌++◌, arith, ℕ, List, length, length-append, append-nil, Option, Some, None, refl, sym, ap, subst, inl, inr}
use Rattle.std.specs.Io.KnownBytes.{Appends, Consumes, IsAtEnd}
use Rattle.std.specs.Prelude.{◌↔◌}
use Rattle.std.proofs.lemmas.Bool.{cases_lt}
use Rattle.std.proofs.lemmas.Option.{same_Some, none-some}
use Rattle.command_answers.specs.declared.status.Status.{Status}
use Rattle.command_answers.specs.declared.status.Status.TheVariants.{Done, WordsRefused}
use Rattle.command_line.specs.declared.words.Command.{Command}
use Rattle.command_line.specs.declared.words.Command.TheVariants.{Check}
use Rattle.command_line.specs.declared.words.Order.{Order}
use Rattle.call_endings.specs.Changes.{Change}
use Rattle.call_endings.specs.Endings.{no_memory, read_fault, written, cut_short}
use Rattle.call_endings.specs.Outcomes.{Outcome}
use Rattle.call_endings.specs.Reads.{ReadsFor, ReadsTo, Reads, source_alone, source_and_data, source_and_certificate, nothing, bundle_limit}
use Rattle.compaan_top.specs.Answers.{Ends, IsRead}
use Rattle.compaan_top.specs.Commands.{read_by, reads_of}
use Rattle.compaan_top.specs.Headline.{AcceptsWhatFits, IsAcceptable, SaysAccepted, accepted}
use Rattle.compaan_top.specs.Laws.{IsDone, IsValid, Succeeds}
use Rattle.compaan_top.specs.Outcome.{IsOutcome, words_refused, bundle_refused, performed}
use Rattle.compaan_top.specs.InputBytes.{ComesTo, IsDecision, HasLeft}
use Rattle.compaan_top.proofs.Acceptance.{IsUndone, VouchesFor, WhatFitsIsSound, outcome_vouched, too_long, with_sound}

-- what was read to the end is all
all_read : (old new : Option (List ℕ)) (read all : List ℕ) → Consumes old new read → IsAtEnd new → old ≡ Some all
    → read ≡ all
all_read None new read all taken end is = absurd (none-some all is)
all_read (Some x) None read all taken end is = absurd taken
all_read (Some x) (Some y) read all taken end is =
    sym (append-nil read) ∙ ap (λ l. read ++ l) (sym end) ∙ sym taken ∙ same_Some x all is

-- what was read is no longer than all
no_more_read : (old new : Option (List ℕ)) (read all : List ℕ) → Consumes old new read → old ≡ Some all
    → length read ≤ length all
no_more_read None new read all taken is = absurd (none-some all is)
no_more_read (Some x) None read all taken is = absurd taken
no_more_read (Some x) (Some y) read all taken is =
    omega (
      arith,
      length-append read y,
      ap (λ (l : List ℕ). length l) taken,
      ap (λ (l : List ℕ). length l) (same_Some x all is),
    )

-- both are one bundle, or both are too long
abbrev AreAlike : List ℕ → List ℕ → Type 0
AreAlike read all = (read ≡ all) ⊎ ((bundle_limit < length read) × (bundle_limit < length all))

bundle_alike : (input : Change) (read all : List ℕ) → ReadsTo input read → input.old ≡ Some all → AreAlike read all
bundle_alike input read all reads is =
    elim (cases_lt bundle_limit (length read)) [
      | inl long ↦ inr (long, omega (arith, long, no_more_read input.old input.new read all reads.taken is))
      | inr within ↦ inl (all_read input.old input.new read all reads.taken (reads.to_end within) is)
    ]

read_alike : (reads : Reads) (input : Change) (read all : List ℕ) → ReadsFor reads input read
    → HasLeft reads input.old all → AreAlike read all
read_alike source_alone input read all gave is = bundle_alike input read all gave is
read_alike source_and_data input read all gave is = bundle_alike input read all gave is
read_alike source_and_certificate input read all gave is = bundle_alike input read all gave is
read_alike nothing input read all gave is = inl (gave.1 ∙ sym is)

-- too long a bundle is refused whatever it holds
long_outcome : (wanted : Option Order) (read all : List ℕ) {outcome : Outcome} → bundle_limit < length read
    → bundle_limit < length all
    → IsOutcome wanted read outcome → IsOutcome wanted all outcome
long_outcome wanted read all long longer (words_refused none) = words_refused none
long_outcome wanted read all long longer (bundle_refused order ordered some other) =
    bundle_refused order ordered some longer
long_outcome wanted read all long longer (performed order answer ordered within made) =
    absurd (omega (arith, long, within))

same_outcome : (wanted : Option Order) (input : Change) (read all : List ℕ) (outcome : Outcome)
    → IsRead wanted input read → HasLeft (read_by wanted) input.old all
    → IsOutcome wanted read outcome → IsOutcome wanted all outcome
same_outcome wanted input read all outcome gave told is =
    elim (read_alike (read_by wanted) input read all gave told) [
      | inl same ↦ subst (λ (b : List ℕ). IsOutcome wanted b outcome) same is
      | inr long ↦ long_outcome wanted read all long.0 long.1 is
    ]

pub comes_to : (wanted : Option Order) (input output complaint : Change) (bundle : List ℕ) {status : Status}
    → Ends wanted input output complaint status
    → HasLeft (read_by wanted) input.old bundle → IsDecision status → ComesTo wanted bundle output complaint status
comes_to wanted input output complaint bundle (no_memory quiet taken writes) told answered = absurd (answered.2 refl)
comes_to wanted input output complaint bundle (read_fault some fault taken writes) told answered =
    absurd (answered.0 refl)
comes_to wanted input output complaint bundle (written read outcome quiet gave is writes) told answered =
    record {
      outcome = outcome;
      is = same_outcome wanted input read bundle outcome gave told is;
      has_status =
          refl;
      writes = writes;
    }
comes_to wanted input output complaint bundle (cut_short read outcome quiet gave is writes) told answered =
    absurd (answered.1 refl)

-- where nothing is refused the command is done
pub comes_done : ((wanted : Option Order) (bundle : List ℕ) → Succeeds wanted bundle)
    → (wanted : Option Order) (output complaint : Change) (bundle : List ℕ) (status : Status)
    → (valid : IsValid wanted bundle) → ComesTo wanted bundle output complaint status
    → IsDone (reads_of valid.order.command) status
comes_done succeeds wanted output complaint bundle status valid comes =
    subst (IsDone (reads_of valid.order.command)) (sym comes.has_status)
    (succeeds wanted bundle valid comes.outcome comes.is)

pub says_accepted : (wanted : Option Order) (output complaint : Change) (bundle : List ℕ) (status : Status)
    (comes : ComesTo wanted bundle output complaint status)
    → comes.outcome ≡ accepted → SaysAccepted output status
says_accepted wanted output complaint bundle status comes same = (
  comes.has_status ∙ ap (λ (o : Outcome). o.status) same,
  subst (λ (o : Outcome). Appends output.old output.new o.output) same comes.writes.written,
)

words_refused_is_undone : IsUndone WordsRefused
words_refused_is_undone is = cc

-- a bundle that an order is done on is within the limit
done_within : (wanted : Option Order) (bundle : List ℕ) {outcome : Outcome} → IsOutcome wanted bundle outcome
    → outcome.status ≡ Done → length bundle ≤ bundle_limit
done_within wanted bundle (words_refused none) done = absurd (words_refused_is_undone done)
done_within wanted bundle (bundle_refused order ordered some long) done = absurd (too_long done)
done_within wanted bundle (performed order answer ordered within made) done = within

accepted_exactly : VouchesFor → WhatFitsIsSound
    → ((wanted : Option Order) (bundle : List ℕ) → AcceptsWhatFits wanted bundle)
    → (wanted : Option Order) (output complaint : Change) (bundle : List ℕ) (order : Order) (status : Status)
    → wanted ≡ Some order → order.command ≡ Check
    → ComesTo wanted bundle output complaint status → SaysAccepted output status ↔ IsAcceptable order.params bundle
accepted_exactly vouches sound accepts wanted output complaint bundle order status ordered is comes = (
  λ says. let done : comes.outcome.status ≡ Done = sym comes.has_status ∙ says.0 in (
    done_within wanted bundle comes.is done,
    with_sound sound order.params bundle (outcome_vouched vouches wanted bundle order ordered is comes.is done),
  ),
  λ has. says_accepted wanted output complaint bundle status comes
      ((accepts wanted bundle order ordered is has.0 comes.outcome comes.is).1 has.1.fitting),
)

-- what `check` reads is told
pub check_told : (order : Order) (left : Option (List ℕ)) (bundle : List ℕ) → order.command ≡ Check → left ≡ Some bundle
    → HasLeft (reads_of order.command) left bundle
check_told order left bundle is told = subst (λ (c : Command). HasLeft (reads_of c) left bundle) (sym is) told

-- so does a call to `check`
pub call_accepted : VouchesFor → WhatFitsIsSound
    → ((wanted : Option Order) (bundle : List ℕ) → AcceptsWhatFits wanted bundle)
    → (wanted : Option Order) (input output complaint : Change) (status : Status) → Ends wanted input output complaint status
    → (order : Order) → wanted ≡ Some order → order.command ≡ Check → (bundle : List ℕ) → input.old ≡ Some bundle
    → IsDecision status
    → SaysAccepted output status ↔ IsAcceptable order.params bundle
call_accepted vouches sound accepts wanted input output complaint status ends order ordered is bundle told answered =
    let whole : HasLeft (read_by wanted) input.old bundle =
    subst (λ (w : Option Order). HasLeft (read_by w) input.old bundle) (sym ordered)
    (check_told order input.old bundle is told) in
    accepted_exactly vouches sound accepts wanted output complaint bundle order status ordered is
    (comes_to wanted input output complaint bundle ends whole answered)
