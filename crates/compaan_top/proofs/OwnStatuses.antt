-- The statuses with which each command may end.
--
-- A refused source has one of three statuses (`IsOfSource`), and the list of each command that reads a source has all
-- three; every other case has one status, and that it is in the list is computed. So an outcome has a status of its
-- command's list (`outcomes_own`), and a call has one of those, that of a failed write, of want of memory, or, where it
-- reads, of a failed read (`calls_own`). That each status of a list arises isn't shown here. Where no sink has a fault,
-- want of memory alone may be a status of calls for all words (`no_one_status`): refused words have their own or that,
-- and those that order `seq` never theirs.
use Rattle.std.proofs.Common.{◌≡◌, ◌∙◌, ◌⊎◌, ◌==◌, ◌++◌, ℕ, ℤ, true, true≢false, List, [], ◌∷◌, Option, Some, None, Result, Ok, Err, refl, sym, ap, subst, inl, inr}
use Rattle.std.proofs.lemmas.Bool.{or_right}
use Rattle.std.proofs.lemmas.Option.{same_Some}
use Rattle.bundle.specs.Parts.{source_part, data_part}
use Rattle.command_line.specs.declared.words.Command.{Command}
use Rattle.command_line.specs.declared.words.Command.TheVariants.{Run, Seq, Net, Cert, Check, Deps, Vhdl, Load, Sim, Trim, Trace}
use Rattle.command_line.specs.declared.words.Order.{Order}
use Rattle.loop_bind.specs.declared.error.BindError.{BindError}
use Rattle.loop_bind.specs.declared.error.BindError.TheVariants as binding
use Rattle.loop_lex.specs.declared.token.LexError.{LexError}
use Rattle.loop_lex.specs.declared.token.LexError.TheVariants as lexical
use Rattle.net_checker.specs.Fits.{first, verdict_of}
use Rattle.net_checker.specs.declared.verdict.Refusal.{Refusal as NetRefusal}
use Rattle.sanlp.specs.declared.nest.Inputs.{Inputs}
use Rattle.sanlp.specs.declared.nest.Nest.{Nest}
use Rattle.witness_plan.specs.declared.schedules.Policy.{Policy}
use Rattle.witness_plan.specs.declared.schedules.Policy.TheVariants as policy
use Rattle.call_endings.specs.Changes.{Change, HasFault}
use Rattle.call_endings.specs.Complaints.{refusal_status}
use Rattle.call_endings.specs.Endings.{no_memory, read_fault, written, cut_short}
use Rattle.call_endings.specs.Outcomes.{Outcome, outcome_of}
use Rattle.call_endings.specs.Reads.{Reads, source_alone, source_and_data, source_and_certificate, nothing}
use Rattle.compaan_top.specs.Answers.{Ends}
use Rattle.compaan_top.specs.CertOutcomes as certify
use Rattle.compaan_top.specs.CertOutcomes.{PrintsCertificate}
use Rattle.command_answers.specs.Checking as check
use Rattle.command_answers.specs.Checking.{Checks, verdict_reply}
use Rattle.compaan_top.specs.Commands.{read_by, reads_of}
use Rattle.command_answers.specs.Describing as describe
use Rattle.command_answers.specs.Describing.{Describes}
use Rattle.compaan_top.specs.Laws.{HasStatusOf, MayEndWith, command_statuses, outcome_statuses, read_statuses}
use Rattle.command_answers.specs.Load as load
use Rattle.command_answers.specs.Load.{Loads}
use Rattle.compaan_top.specs.Outcome.{IsOutcome, Performs, words_refused, bundle_refused, performed}
use Rattle.command_answers.specs.Printing as print
use Rattle.command_answers.specs.Printing.{Prints, network_text}
use Rattle.command_answers.specs.Refusals.{byte_of, lex_refusal, bind_refusal}
use Rattle.command_answers.specs.Replies.{Reply}
use Rattle.command_answers.specs.Run.{Runs, IsInputs, run_text, source_refused, data_refused, answered}
use Rattle.command_answers.specs.Simulating.{simulation_text}
use Rattle.compaan_top.specs.DepsOutcomes as telling
use Rattle.compaan_top.specs.DepsOutcomes.{TellsSources}
use Rattle.command_answers.specs.Tracing as tracing
use Rattle.command_answers.specs.Tracing.{Traces}
use Rattle.command_answers.specs.Trimming.{trimming_text}
use Rattle.command_answers.specs.Source as sized
use Rattle.command_answers.specs.Source.{Gives, GivesWithinSize, no_tokens, no_tree, not_bound, bound}
use Rattle.command_answers.specs.Statuses.{is_one_of, status_number}
use Rattle.command_answers.specs.declared.refusal.Refusal.{Refusal}
use Rattle.command_answers.specs.declared.status.Status.{Status}
use Rattle.command_answers.specs.declared.status.Status.TheVariants.{BundleRefused, ClassRefused, InputFailed, LimitPassed, NoMemory, OutputFailed, TextRefused, WordsRefused}
use Rattle.compaan_top.proofs.Statuses.{data_status, size_status}

-- the statuses of what is wrong with a source
abbrev pub IsOfSource : Status → Type 0
IsOfSource status = (status ≡ TextRefused) ⊎ ((status ≡ ClassRefused) ⊎ (status ≡ LimitPassed))

refused_of : (made r : Refusal) → Some made ≡ Some r → IsOfSource (refusal_status made) → IsOfSource (refusal_status r)
refused_of made r e own = subst (λ (t : Refusal). IsOfSource (refusal_status t)) (same_Some made r e) own

lex_status : (e : LexError) (r : Refusal) → lex_refusal e ≡ Some r → IsOfSource (refusal_status r)
lex_status (lexical.BadByte at) r made = refused_of _ r made (inl refl)
lex_status (lexical.OpenComment at) r made = refused_of _ r made (inl refl)
lex_status (lexical.LargeNumber at) r made = refused_of _ r made (inl refl)
lex_status (lexical.TooMany at) r made = refused_of _ r made (inl refl)
lex_status lexical.Memory r made = cc

bind_status : (at : ℕ → ℕ) (e : BindError) (r : Refusal) → bind_refusal at e ≡ Some r → IsOfSource (refusal_status r)
bind_status at (binding.UnknownName t) r made = refused_of _ r made (inr (inl refl))
bind_status at (binding.Duplicate t) r made = refused_of _ r made (inr (inl refl))
bind_status at (binding.Unbound t) r made = refused_of _ r made (inr (inl refl))
bind_status at (binding.NotAffine t) r made = refused_of _ r made (inr (inl refl))
bind_status at (binding.WrongCount t) r made = refused_of _ r made (inr (inl refl))
bind_status at (binding.ElseForm t) r made = refused_of _ r made (inr (inl refl))
bind_status at (binding.StepMax t) r made = refused_of _ r made (inr (inl refl))
bind_status at (binding.StepRange t) r made = refused_of _ r made (inr (inl refl))
bind_status at (binding.TooManyProcesses t) r made = refused_of _ r made (inr (inr refl))
bind_status at (binding.TooDeep t) r made = refused_of _ r made (inr (inr refl))
bind_status at (binding.TooManyReads t) r made = refused_of _ r made (inr (inr refl))
bind_status at (binding.TooManyRows t) r made = refused_of _ r made (inr (inr refl))
bind_status at (binding.Large t) r made = refused_of _ r made (inr (inr refl))
bind_status at binding.Memory r made = cc

abbrev pub IsRefusedByStatus : {A : Type 0} → Result A Refusal → Type 0
IsRefusedByStatus (Ok x) = Unit {0}
IsRefusedByStatus (Err r) = IsOfSource (refusal_status r)

gives_refused : (source : List ℕ) (params : List (List ℕ × ℤ)) {x : Result Nest Refusal} → Gives source params x
    → IsRefusedByStatus x
gives_refused source params (no_tokens e r lexed made) = lex_status e r made
gives_refused source params (no_tree a place lexed stops) = inl refl
gives_refused source params (not_bound a t reason r lexed derived least made) =
    bind_status (byte_of source a) reason r made
gives_refused source params (bound a t n lexed derived is) = tt

pub sized_refused : (source : List ℕ) (params : List (List ℕ × ℤ)) {x : Result Nest Refusal}
    → GivesWithinSize source params x → IsRefusedByStatus x
sized_refused source params (sized.source_refused r g) = gives_refused source params g
sized_refused source params (sized.size_refused n e g c) = inr (inr (size_status e))
sized_refused source params (sized.within_size n t g c) = tt

-- a list that has the three statuses of sources has that of a refused source
among : (list : List Status) (status : Status) → is_one_of list TextRefused ≡ true → is_one_of list ClassRefused ≡ true
    → is_one_of list LimitPassed ≡ true → IsOfSource status → is_one_of list status ≡ true
among list status text class limit (inl e) = subst (λ (s : Status). is_one_of list s ≡ true) (sym e) text
among list status text class limit (inr (inl e)) = subst (λ (s : Status). is_one_of list s ≡ true) (sym e) class
among list status text class limit (inr (inr e)) = subst (λ (s : Status). is_one_of list s ≡ true) (sym e) limit

abbrev HasStatus : Reads → Result Reply Refusal → Type 0
HasStatus reads x = is_one_of (command_statuses reads) (outcome_of x).status ≡ true

inputs_status : (bytes : List ℕ) (n : Nest) (r : Refusal) → IsInputs n bytes (Err r)
    → is_one_of (command_statuses source_and_data) (refusal_status r) ≡ true
inputs_status bytes n r i = rw (data_status n.arrays i.0 r i.2) refl

runs_own : (text : Nest → Inputs → List ℕ) (params : List (List ℕ × ℤ)) (bundle : List ℕ) {x : Result Reply Refusal}
    → Runs text params bundle x → HasStatus source_and_data x
runs_own text params bundle (source_refused r g) =
    among (command_statuses source_and_data) (refusal_status r) refl refl refl
    (sized_refused (source_part bundle) params g)
runs_own text params bundle (data_refused n r g i) = inputs_status (data_part bundle) n r i
runs_own text params bundle (answered n d g i) = refl

prints_own : (text : Nest → List ℕ) (params : List (List ℕ × ℤ)) (bundle : List ℕ) {x : Result Reply Refusal}
    → Prints text params bundle x → HasStatus source_alone x
prints_own text params bundle (print.source_refused r g) =
    among (command_statuses source_alone) (refusal_status r) refl refl refl
    (sized_refused (source_part bundle) params g)
prints_own text params bundle (print.printed n g) = refl

certificate_own : (policy : Policy) (params : List (List ℕ × ℤ)) (bundle : List ℕ) {x : Result Reply Refusal}
    → PrintsCertificate policy params bundle x → HasStatus source_alone x
certificate_own policy params bundle (certify.source_refused r g) =
    among (command_statuses source_alone) (refusal_status r) refl refl refl
    (sized_refused (source_part bundle) params g)
certificate_own policy params bundle (certify.printed n c t g is w) = refl

verdict_own : (found : Option NetRefusal)
    → is_one_of (command_statuses source_and_certificate) (verdict_reply (verdict_of found)).status ≡ true
verdict_own None = refl
verdict_own (Some refusal) = refl

checks_own : (params : List (List ℕ × ℤ)) (bundle : List ℕ) {x : Result Reply Refusal} → Checks params bundle x
    → HasStatus source_and_certificate x
checks_own params bundle (check.part_missing none) = refl
checks_own params bundle (check.source_refused part r there g) =
    among (command_statuses source_and_certificate) (refusal_status r) refl refl refl
    (sized_refused (source_part bundle) params g)
checks_own params bundle (check.unread part n e text there g read told) = refl
checks_own params bundle (check.judged part n network cert there g read) = verdict_own (first n network cert)

describes_own : (policy : Policy) (params : List (List ℕ × ℤ)) (bundle : List ℕ) {x : Result Reply Refusal}
    → Describes policy params bundle x → HasStatus source_alone x
describes_own policy params bundle (describe.source_refused r g) =
    among (command_statuses source_alone) (refusal_status r) refl refl refl
    (sized_refused (source_part bundle) params g)
describes_own policy params bundle (describe.script_refused n a g k) = refl
describes_own policy params bundle (describe.described n g k) = refl

loads_own : (policy : Policy) (rows : ℕ) {x : Result Reply Refusal} → Loads policy rows x → HasStatus nothing x
loads_own policy rows (load.too_large a) = refl
loads_own policy rows (load.size_refused n e a g c) = rw (size_status e) refl
loads_own policy rows (load.summed n t k a g c i) = refl

traces_own : (policy : Policy) (params : List (List ℕ × ℤ)) (bundle : List ℕ) {x : Result Reply Refusal}
    → Traces policy params bundle x → HasStatus source_alone x
traces_own policy params bundle (tracing.source_refused r g) =
    among (command_statuses source_alone) (refusal_status r) refl refl refl
    (sized_refused (source_part bundle) params g)
traces_own policy params bundle (tracing.traced n run g e) = refl

tells_own : (params : List (List ℕ × ℤ)) (bundle : List ℕ) {x : Result Reply Refusal} → TellsSources params bundle x
    → HasStatus source_alone x
tells_own params bundle (telling.source_refused r g) =
    among (command_statuses source_alone) (refusal_status r) refl refl refl
    (gives_refused (source_part bundle) params g)
tells_own params bundle (telling.size_refused n e g some c) = rw (size_status e) refl
tells_own params bundle (telling.told n t text g small tells) = refl

performs_own : (command : Command) (order : Order) (bundle : List ℕ) (x : Result Reply Refusal)
    → Performs command order bundle x → HasStatus (reads_of command) x
performs_own Run order bundle x made = runs_own run_text order.params bundle made
performs_own Seq order bundle x made = runs_own run_text order.params bundle made
performs_own Net order bundle x made = prints_own (network_text order.policy) order.params bundle made
performs_own Cert order bundle x made = certificate_own order.policy order.params bundle made
performs_own Check order bundle x made = checks_own order.params bundle made
performs_own Deps order bundle x made = tells_own order.params bundle made
performs_own Vhdl order bundle x made = describes_own order.policy order.params bundle made
performs_own Load order bundle x made = loads_own order.policy order.load made
performs_own Sim order bundle x made = runs_own (simulation_text order.policy) order.params bundle made
performs_own Trim order bundle x made = prints_own (trimming_text order.policy) order.params bundle made
performs_own Trace order bundle x made = traces_own order.policy order.params bundle made

-- where something is read, too long a bundle has its status
long_status : (reads : Reads) → (reads ≡ nothing → ⊥) → is_one_of (command_statuses reads) BundleRefused ≡ true
long_status source_alone some = refl
long_status source_and_data some = refl
long_status source_and_certificate some = refl
long_status nothing some = absurd (some refl)

-- the statuses of an order's outcomes are those of its command
of_command : (wanted : Option Order) (order : Order) (status : Status) → wanted ≡ Some order
    → is_one_of (command_statuses (reads_of order.command)) status ≡ true
    → is_one_of (outcome_statuses wanted) status ≡ true
of_command wanted order status ordered own =
    subst (λ (o : Option Order). is_one_of (outcome_statuses o) status ≡ true) (sym ordered) own

pub outcomes_own : (wanted : Option Order) (bundle : List ℕ) {a : Outcome} → IsOutcome wanted bundle a
    → is_one_of (outcome_statuses wanted) a.status ≡ true
outcomes_own wanted bundle (words_refused x) =
    subst (λ (o : Option Order). is_one_of (outcome_statuses o) WordsRefused ≡ true) (sym x) refl
outcomes_own wanted bundle (bundle_refused o x reads long) =
    of_command wanted o BundleRefused x (long_status (reads_of o.command) reads)
outcomes_own wanted bundle (performed o answer x within made) =
    of_command wanted o (outcome_of answer).status x (performs_own o.command o bundle answer made)

-- ---- the statuses of calls

is_behind : (front list : List Status) (status : Status) → is_one_of list status ≡ true
    → is_one_of (front ++ list) status ≡ true
is_behind [] list status there = there
is_behind (one ∷ front) list status there = or_right (status_number one == status_number status) _ (is_behind front list status there)

read_status : (reads : Reads) (list : List Status) → (reads ≡ nothing → ⊥)
    → is_one_of (OutputFailed ∷ NoMemory ∷ (read_statuses reads ++ list)) InputFailed ≡ true
read_status source_alone list some = refl
read_status source_and_data list some = refl
read_status source_and_certificate list some = refl
read_status nothing list some = absurd (some refl)

outcome_status : (wanted : Option Order) (status : Status) → is_one_of (outcome_statuses wanted) status ≡ true
    → HasStatusOf wanted status
outcome_status wanted status own =
    is_behind (OutputFailed ∷ NoMemory ∷ []) (read_statuses (read_by wanted) ++ outcome_statuses wanted) status
    (is_behind (read_statuses (read_by wanted)) (outcome_statuses wanted) status own)

pub calls_own : (wanted : Option Order) (input output complaint : Change) {status : Status}
    → Ends wanted input output complaint status → HasStatusOf wanted status
calls_own wanted input output complaint (no_memory quiet taken writes) = refl
calls_own wanted input output complaint (read_fault some fault taken writes) =
    read_status (read_by wanted) (outcome_statuses wanted) some
calls_own wanted input output complaint (written bundle outcome quiet read is writes) =
    outcome_status wanted outcome.status (outcomes_own wanted bundle is)
calls_own wanted input output complaint (cut_short bundle outcome quiet read is writes) = refl

-- ---- no status for all calls: refused words have theirs or that of want of memory, and an order never has theirs

no_order : (order : Order) → ◌≡◌ {A = Option Order} None (Some order) → ⊥
no_order order is = cc

refused_outcome : (wanted : Option Order) (bundle : List ℕ) {a : Outcome} → wanted ≡ None → IsOutcome wanted bundle a
    → a.status ≡ WordsRefused
refused_outcome wanted bundle none (words_refused x) = refl
refused_outcome wanted bundle none (bundle_refused o x reads long) = absurd (no_order o (sym none ∙ x))
refused_outcome wanted bundle none (performed o answer x within made) = absurd (no_order o (sym none ∙ x))

refused_status : (wanted : Option Order) (input output complaint : Change) {status : Status} → wanted ≡ None
    → (HasFault output → ⊥) → (HasFault complaint → ⊥)
    → Ends wanted input output complaint status → (status ≡ WordsRefused) ⊎ (status ≡ NoMemory)
refused_status wanted input output complaint none sound quiet (no_memory same taken writes) = inr refl
refused_status wanted input output complaint none sound quiet (read_fault some fault taken writes) =
    absurd (some (ap read_by none))
refused_status wanted input output complaint none sound quiet (written bundle outcome same read is writes) =
    inl (refused_outcome wanted bundle none is)
refused_status wanted input output complaint none sound quiet (cut_short bundle outcome same read is writes) =
    elim writes.cause [
      | inl fault ↦ absurd (sound fault)
      | inr fault ↦ absurd (quiet fault)
    ]

abbrev an_order : Order
an_order = record { command = Seq; policy = policy.Seq; params = []; load = 0 }

ordered_status : (status : Status) → HasStatusOf (Some an_order) status → status ≡ WordsRefused → ⊥
ordered_status status has words = true≢false (sym (subst (λ (s : Status). HasStatusOf (Some an_order) s) words has))

pub no_one_status : (status : Status) → ((wanted : Option Order) → MayEndWith wanted status) → status ≡ NoMemory
no_one_status status may =
    let refused = may None in
    let ordered = may (Some an_order) in
    elim (refused_status None refused.input refused.output refused.complaint refl refused.output_sound
    refused.complaint_sound refused.ends) [
      | inl words ↦ absurd
          (ordered_status status
          (calls_own (Some an_order) ordered.input ordered.output ordered.complaint ordered.ends) words)
      | inr none ↦ none
    ]
