-- What `cert` writes is accepted. The values of parameters bear on a nest through the declarations alone, each of which
-- looks up its own name. So two lists that agree on the declared names bind a tree to the same nest, and the pair that
-- `cert` wrote fits the nest that `check` makes.
use Rattle.std.proofs.Common.{◌≡◌, ◌∙◌, ◌++◌, ℕ, ℤ, List, [], ◌∷◌, Option, Some, None, Result, Ok, Err, refl, sym, ap, subst}
use Rattle.bundle.specs.Certified.{certified, with_line_end}
use Rattle.cert_text.specs.StandsFor.{IsWrittenOf, StandsFor}
use Rattle.bundle.specs.Parts.{after_separator, certificate_part, source_part}
use Rattle.command_line.specs.declared.words.Command.{Command}
use Rattle.command_line.specs.declared.words.Command.TheVariants as command
use Rattle.command_line.specs.declared.words.Order.{Order}
use Rattle.loop_bind.specs.Findings.{body_made, findings}
use Rattle.loop_class.specs.Binding.{IsBound, Parts, assembled, nest_of}
use Rattle.loop_grammar.specs.Grammar.{Derives}
use Rattle.loop_grammar.specs.Lexemes.{IsTree, sentence}
use Rattle.loop_grammar.specs.declared.tree.Tree.{Tree}
use Rattle.loop_lex.specs.Tokens.{tokens}
use Rattle.loop_lex.specs.declared.token.Token.{Token}
use Rattle.loop_walk.proofs.SizeLaw.{size_of_ok}
use Rattle.sanlp.specs.Size.{SizeIsOk, size}
use Rattle.loop_walk.specs.Counting.{counted}
use Rattle.loop_bind.specs.Declarations.{Declared, declare, declare_name, declared, nothing_declared}
use Rattle.loop_bind.specs.Names.{value_named}
use Rattle.loop_grammar.specs.declared.tree.Declaration.{Declaration}
use Rattle.loop_grammar.specs.declared.tree.DeclWord.{DeclWord}
use Rattle.loop_grammar.specs.declared.tree.DeclWord.TheVariants.{Param, Input, Output, Both, Var}
use Rattle.loop_grammar.specs.declared.tree.Named.{Named}
use Rattle.std.specs.List.{fold}
use Rattle.std.specs.Io.KnownBytes.{Appends}
use Rattle.std.proofs.lemmas.List.{append_cancel_left}
use Rattle.std.proofs.lemmas.Option.{same_Some}
use Rattle.loop_walk.specs.declared.count.SizeError.{SizeError}
use Rattle.swept_net.specs.Certificates.{IsCertificate}
use Rattle.sanlp.specs.declared.nest.Nest.{Nest}
use Rattle.source_tree.specs.declared.cert.Cert.{Cert}
use Rattle.std.specs.Prelude.{Contains, IfOk}
use Rattle.std.proofs.lemmas.Option.{same_Some, none-some}
use Rattle.witness_plan.specs.declared.schedules.Policy.{Policy}
use Rattle.witness_plan.specs.Schedules.{planned_network}
use Rattle.compaan_top.specs.CheckAnswers.{Accepts, AgreeOn, Call, Certifies, HasCertificate, ReadCertificate, StandsForPlanned, WroteCertificate}
use Rattle.compaan_top.specs.Commands.{reads_of}
use Rattle.compaan_top.specs.Headline.{HasFittingCertificate, SaysAccepted}
use Rattle.call_endings.specs.Complaints.{refusal_status}
use Rattle.call_endings.specs.Outcomes.{Outcome, outcome_of}
use Rattle.compaan_top.specs.Outcome.{IsOutcome, Performs, words_refused, bundle_refused, performed}
use Rattle.compaan_top.specs.CertOutcomes.{PrintsCertificate, source_refused, printed}
use Rattle.command_answers.specs.Replies.{Reply}
use Rattle.command_answers.specs.Source as sized
use Rattle.command_answers.specs.Source.{Gives, GivesWithinSize, no_tokens, no_tree, not_bound, bound}
use Rattle.compaan_top.specs.InputBytes.{ComesTo, IsDecision, HasLeft}
use Rattle.command_answers.specs.declared.refusal.Refusal.{Refusal}
use Rattle.plain_data.proofs.Lists.{Contains-first, Contains-later}
use Rattle.command_answers.specs.declared.status.Status.{Status}
use Rattle.command_answers.specs.declared.status.Status.TheVariants.{Done}
use Rattle.compaan_top.proofs.OwnStatuses.{sized_refused}
use Rattle.compaan_top.proofs.Statuses.{no_order}
use Rattle.compaan_top.proofs.SourceBytes.{check_told, comes_to, says_accepted}
use Rattle.compaan_top.proofs.Acceptance.{of_source, same_order, too_long}

-- the laws below
abbrev pub WrittenStands : Type 0
WrittenStands =
    (n : Nest) (policy : Policy) (cert : Cert) (text : List ℕ) → SizeIsOk n → IsCertificate n policy cert
    → IsWrittenOf text (planned_network n policy) cert → StandsFor text (planned_network n policy) cert

abbrev pub TokensStay : Type 0
TokensStay = (source : List ℕ) → tokens (with_line_end source) ≡ tokens source

abbrev pub SentenceStays : Type 0
SentenceStays =
    (source : List ℕ) (found : List Token) → tokens source ≡ Ok found
    → sentence (with_line_end source) found ≡ sentence source found

-- A source that gives a nest

pub record HasBinding (source : List ℕ) (params : List (List ℕ × ℤ)) (nest : Nest) : Type 0 where
  pub found : List Token
  pub tree : Tree
  pub lexed : tokens source ≡ Ok found
  pub parsed : IsTree source found tree
  pub is : IsBound tree params nest

no_nest : (refusal : Refusal) (nest : Nest) → Err refusal ≡ Ok nest → ⊥
no_nest refusal nest e = cc

same_nest : (m nest : Nest) → ◌≡◌ {A = Result Nest Refusal} (Ok m) (Ok nest) → m ≡ nest
same_nest m nest e = cc

pub binding_of : (source : List ℕ) (params : List (List ℕ × ℤ)) (nest : Nest) {answer : Result Nest Refusal}
    → Gives source params answer → answer ≡ Ok nest → HasBinding source params nest
binding_of source params nest (no_tokens error refusal lexed made) e = absurd (no_nest refusal nest e)
binding_of source params nest (no_tree found place lexed stops) e = absurd (no_nest _ nest e)
binding_of source params nest (not_bound found tree reason refusal lexed parsed least made) e =
    absurd (no_nest refusal nest e)
binding_of source params nest (bound found tree m lexed parsed is) e =
    record {
      found = found;
      tree = tree;
      lexed = lexed;
      parsed = parsed;
      is =
          subst (IsBound tree params) (same_nest m nest e) is;
    }

-- gives it with its last line ended, too
pub gives_ended : TokensStay → SentenceStays → (source : List ℕ) (params : List (List ℕ × ℤ)) (nest : Nest)
    → HasBinding source params nest → Gives (with_line_end source) params (Ok nest)
gives_ended tokens_stay sentence_stays source params nest b =
    bound b.found b.tree nest (tokens_stay source ∙ b.lexed)
    (subst (λ list. Derives list b.tree) (sym (sentence_stays source b.found b.lexed)) b.parsed) b.is

-- Values that agree on what a tree declares

-- one name is declared alike, unless it is that of a parameter with other values
name_alike : (a b : List (List ℕ × ℤ)) (word : DeclWord) (d : Declared) (named : Named)
    → (word ≡ Param → value_named a named.name.text ≡ value_named b named.name.text)
    → declare_name a word d named ≡ declare_name b word d named
name_alike a b Param d named agree = rw (agree refl) refl
name_alike a b Input d named agree = refl
name_alike a b Output d named agree = refl
name_alike a b Both d named agree = refl
name_alike a b Var d named agree = refl

names_alike : (a b : List (List ℕ × ℤ)) (word : DeclWord) (d : Declared) (all : List Named)
    → ((named : Named) → Contains all named → word ≡ Param
    → value_named a named.name.text ≡ value_named b named.name.text)
    → fold (declare_name a word) d all ≡ fold (declare_name b word) d all
names_alike a b word d [] agree = refl
names_alike a b word d (named ∷ all) agree =
    ap (λ (e : Declared). fold (declare_name a word) e all)
    (name_alike a b word d named (agree named (Contains-first named all)))
    ∙ names_alike a b word (declare_name b word d named) all
    (λ other there. agree other (Contains-later named all other there))

abbrev AgreeOnAll : List (List ℕ × ℤ) → List (List ℕ × ℤ) → List Declaration → Type 0
AgreeOnAll a b all =
    (declaration : Declaration) (named : Named) → Contains all declaration → declaration.word ≡ Param
    → Contains declaration.names named
    → value_named a named.name.text ≡ value_named b named.name.text

all_alike : (a b : List (List ℕ × ℤ)) (d : Declared) (all : List Declaration) → AgreeOnAll a b all
    → fold (declare a) d all ≡ fold (declare b) d all
all_alike a b d [] agree = refl
all_alike a b d (declaration ∷ all) agree =
    ap (λ (e : Declared). fold (declare a) e all)
    (names_alike a b declaration.word d declaration.names
    (λ named there is. agree declaration named (Contains-first declaration all) is there))
    ∙ all_alike a b (declare b d declaration) all
    (λ other named there is has. agree other named (Contains-later declaration all other there) is has)

declared_alike : (a b : List (List ℕ × ℤ)) (tree : Tree) → AgreeOnAll a b tree.declarations
    → declared a tree.declarations ≡ declared b tree.declarations
unfolding declared
declared_alike a b tree agree = all_alike a b nothing_declared tree.declarations agree

findings_alike : (a b : List (List ℕ × ℤ)) (tree : Tree) → declared a tree.declarations ≡ declared b tree.declarations
    → findings tree a ≡ findings tree b
unfolding findings
findings_alike a b tree same = ap (λ (d : Declared). d.findings ++ (body_made tree d).findings) same

nest_alike : (a b : List (List ℕ × ℤ)) (tree : Tree) → declared a tree.declarations ≡ declared b tree.declarations
    → nest_of tree a ≡ nest_of tree b
unfolding nest_of
nest_alike a b tree same = ap (λ (d : Declared). assembled d.arrays (body_made tree d)) same

bound_alike : (a b : List (List ℕ × ℤ)) (tree : Tree) (nest : Nest) → AgreeOnAll a b tree.declarations
    → IsBound tree a nest → IsBound tree b nest
bound_alike a b tree nest agree is =
    let same = declared_alike a b tree agree in
    let parts : nest_of tree a ≡ nest_of tree b = nest_alike a b tree same in
    record {
      no_findings = sym (findings_alike a b tree same) ∙ is.no_findings;
      arrays = is.arrays ∙ ap (λ (p : Parts). p.arrays) parts;
      statements = is.statements ∙ ap (λ (p : Parts). p.statements) parts;
      body = is.body ∙ ap (λ (p : Parts). p.body) parts;
    }

pub rebound : (source : List ℕ) (a b : List (List ℕ × ℤ)) (nest : Nest) → AgreeOn source a b → HasBinding source a nest
    → HasBinding source b nest
rebound source a b nest agree binding = record {
  found = binding.found;
  tree = binding.tree;
  lexed = binding.lexed;
  parsed = binding.parsed;
  is = bound_alike a b binding.tree nest (λ declaration named there is has.
      agree binding.found binding.tree named.name.text binding.lexed binding.parsed
      (record { declaration = declaration; named = named; stands = there; word = is; is_declared = has; text = refl }))
      binding.is;
}

-- What `cert` comes to

pub record HasWritten (params : List (List ℕ × ℤ)) (policy : Policy) (bundle text : List ℕ) : Type 0 where
  pub nest : Nest
  pub cert : Cert
  pub total : ℕ
  pub binding : HasBinding (source_part bundle) params nest
  pub counts : counted nest ≡ Ok total
  pub certificate : IsCertificate nest policy cert
  pub is : IsWrittenOf text (planned_network nest policy) cert

pub record HasTotal (source : List ℕ) (params : List (List ℕ × ℤ)) (nest : Nest) : Type 0 where
  pub total : ℕ
  pub gives : Gives source params (Ok nest)
  pub counts : counted nest ≡ Ok total

pub total_of : (source : List ℕ) (params : List (List ℕ × ℤ)) (nest : Nest) {answer : Result Nest Refusal}
    → GivesWithinSize source params answer → answer ≡ Ok nest → HasTotal source params nest
total_of source params nest (sized.source_refused refusal gives) e = absurd (no_nest refusal nest e)
total_of source params nest (sized.size_refused m error gives counts) e = absurd (no_nest _ nest e)
total_of source params nest (sized.within_size m total gives counts) e =
    subst (HasTotal source params) (same_nest m nest e) (record { total = total; gives = gives; counts = counts })

prints_written : (order : Order) (bundle : List ℕ) {answer : Result Reply Refusal}
    → PrintsCertificate order.policy order.params bundle answer → (outcome_of answer).status ≡ Done
    → HasWritten order.params order.policy bundle (outcome_of answer).output
prints_written order bundle (source_refused refusal gives) done =
    absurd (of_source (refusal_status refusal) (sized_refused (source_part bundle) order.params gives) done)
prints_written order bundle (printed nest cert text gives certificate written) done =
    let made : HasTotal (source_part bundle) order.params nest =
    total_of (source_part bundle) order.params nest gives refl in
    record {
      nest = nest;
      cert = cert;
      total = made.total;
      binding =
          binding_of (source_part bundle) order.params nest made.gives refl;
      counts = made.counts;
      certificate = certificate;
      is = written;
    }

performs_written : (order : Order) (bundle : List ℕ) (answer : Result Reply Refusal) → order.command ≡ command.Cert
    → Performs order.command order bundle answer
    → (outcome_of answer).status ≡ Done → HasWritten order.params order.policy bundle (outcome_of answer).output
performs_written order bundle answer is made done =
    prints_written order bundle (subst (λ (c : Command). Performs c order bundle answer) is made) done

outcome_written : (order : Order) (bundle : List ℕ) {written : Outcome} → order.command ≡ command.Cert
    → IsOutcome (Some order) bundle written → written.status ≡ Done
    → HasWritten order.params order.policy bundle written.output
outcome_written order bundle is (words_refused none) done = absurd (no_order (Some order) order none refl)
outcome_written order bundle is (bundle_refused other others some long) done = absurd (too_long done)
outcome_written order bundle is (performed other answer others within made) done =
    let same : other ≡ order = same_order (Some order) other order others refl in
    performs_written order bundle answer is (subst (λ (o : Order). Performs o.command o bundle answer) same made) done

-- other values that agree on what the source declares give the same
rewritten : (a b : List (List ℕ × ℤ)) (policy : Policy) (bundle text : List ℕ) → AgreeOn (source_part bundle) a b
    → HasWritten a policy bundle text → HasWritten b policy bundle text
rewritten a b policy bundle text agree w =
    record {
      nest = w.nest;
      cert = w.cert;
      total = w.total;
      binding = rebound (source_part bundle) a b w.nest agree w.binding;
      counts = w.counts;
      certificate = w.certificate;
      is = w.is;
    }

-- What `check` comes to on that

size_ok : (n : Nest) (total : ℕ) → counted n ≡ Ok total → SizeIsOk n
size_ok n total counts =
    let whole : (total ≡ size n) × SizeIsOk n =
    subst (λ (r : Result ℕ SizeError). IfOk r (λ total. (total ≡ size n) × SizeIsOk n)) counts
    (size_of_ok n (counted n) refl) in
    whole.1

fitting : WrittenStands → TokensStay → SentenceStays
    → (params : List (List ℕ × ℤ)) (policy : Policy) (bundle other text : List ℕ) → HasWritten params policy bundle text
    → HasCertificate bundle other text → HasFittingCertificate params other
fitting stands tokens_stay sentence_stays params policy bundle other text w has = record {
  nest = w.nest;
  network = planned_network w.nest policy;
  cert = w.cert;
  gives = sized.within_size w.nest w.total
      (subst (λ (source : List ℕ). Gives source params (Ok w.nest)) (sym has.source)
      (gives_ended tokens_stay sentence_stays (source_part bundle) params w.nest w.binding)) w.counts;
  text = text;
  is_part = has.certificate;
  stands = stands w.nest policy w.cert text (size_ok w.nest w.total w.counts) w.certificate w.is;
  fits = w.certificate.fits;
}

-- ---- calls

done_is_answered : (status : Status) → status ≡ Done → IsDecision status
done_is_answered status done = (λ input. cc, λ output. cc, λ memory. cc)

-- what a sink gained is what was written on it
appended : (old new : Option (List ℕ)) (held text gained : List ℕ) → Appends old new gained → old ≡ Some held
    → new ≡ Some (held ++ text) → gained ≡ text
appended None new held text gained grown before after = absurd (none-some held before)
appended (Some x) None held text gained grown before after = absurd grown
appended (Some x) (Some y) held text gained grown before after =
    append_cancel_left x gained text
    (sym grown ∙ same_Some y (held ++ text) after
    ∙ ap (λ (h : List ℕ). h ++ text) (sym (same_Some x held before)))

-- what is written stands for the planned network and a certificate of it
pub stands_planned : WrittenStands → (cert : Order) (bundle : List ℕ) (written : Outcome)
    → Certifies cert bundle written → StandsForPlanned cert bundle written.output
stands_planned stands cert bundle written made =
    let w : HasWritten cert.params cert.policy bundle written.output =
    outcome_written cert bundle made.command made.outcome made.done in
    let b : HasBinding (source_part bundle) cert.params w.nest = w.binding in
    record {
      nest = w.nest;
      cert = w.cert;
      gives = sized.within_size w.nest w.total (bound b.found b.tree w.nest b.lexed b.parsed b.is) w.counts;
      stands = stands w.nest cert.policy w.cert written.output (size_ok w.nest w.total w.counts) w.certificate w.is;
      certificate = w.certificate;
    }

module _ (accepts : (check : Order) (bundle : List ℕ) → HasFittingCertificate check.params bundle → Accepts check bundle)
    (stands : WrittenStands) (tokens_stay : TokensStay) (sentence_stays : SentenceStays) where
  pub accepts_parts : (cert check : Order) (bundle other : List ℕ) (written : Outcome)
      → AgreeOn (source_part bundle) cert.params check.params → Certifies cert bundle written
      → HasCertificate bundle other written.output → Accepts check other
  accepts_parts cert check bundle other written agree made has =
      let w : HasWritten check.params cert.policy bundle written.output =
      rewritten cert.params check.params cert.policy bundle written.output agree
      (outcome_written cert bundle made.command made.outcome made.done) in
      accepts check other
      (fitting stands tokens_stay sentence_stays check.params cert.policy bundle other written.output w has)

  module _ (no_separator : (bundle : List ℕ) → after_separator (source_part bundle) ≡ None)
      (makes_none : (source : List ℕ) (found : List Token) → after_separator source ≡ None → tokens source ≡ Ok found
      → after_separator (with_line_end source) ≡ None)
      (source_is : (source text : List ℕ) → after_separator (with_line_end source) ≡ None
      → source_part (certified source text) ≡ with_line_end source)
      (certificate_is : (source text : List ℕ) → after_separator (with_line_end source) ≡ None
      → certificate_part (certified source text) ≡ Some text) where
    pub accepts_bytes : (cert check : Order) (bundle : List ℕ) (written : Outcome)
        → AgreeOn (source_part bundle) cert.params check.params → Certifies cert bundle written
        → Accepts check (certified (source_part bundle) written.output)
    accepts_bytes cert check bundle written agree made =
        let w : HasWritten cert.params cert.policy bundle written.output =
        outcome_written cert bundle made.command made.outcome made.done in
        let none : after_separator (with_line_end (source_part bundle)) ≡ None =
        makes_none (source_part bundle) w.binding.found (no_separator bundle) w.binding.lexed in
        accepts_parts cert check bundle (certified (source_part bundle) written.output) written agree made
        (record {
          source = source_is (source_part bundle) written.output none;
          certificate =
              certificate_is (source_part bundle) written.output none;
        })

    pub accepts_calls : (cert check : Call) (bundle text : List ℕ)
        → AgreeOn (source_part bundle) cert.order.params check.order.params → WroteCertificate cert bundle text
        → ReadCertificate check (certified (source_part bundle) text) → IsDecision check.status
        → SaysAccepted check.output check.status
    accepts_calls cert check bundle text agree wrote read answered =
        let all : List ℕ = certified (source_part bundle) text in
        let first : ComesTo (Some cert.order) bundle cert.output cert.complaint cert.status =
        comes_to (Some cert.order) cert.input cert.output cert.complaint bundle cert.ended
        (subst (λ (c : Command). HasLeft (reads_of c) cert.input.old bundle) (sym wrote.command) wrote.left)
        (done_is_answered cert.status wrote.done) in
        let second : ComesTo (Some check.order) all check.output check.complaint check.status =
        comes_to (Some check.order) check.input check.output check.complaint all check.ended
        (check_told check.order check.input.old all read.command read.left) answered in
        let gained : first.outcome.output ≡ text =
        appended cert.output.old cert.output.new wrote.held text first.outcome.output first.writes.written wrote.before
        wrote.after in
        let accepted_bytes : Accepts check.order all =
        subst (λ (t : List ℕ). Accepts check.order (certified (source_part bundle) t)) gained
        (accepts_bytes cert.order check.order bundle first.outcome agree
        (record { command = wrote.command; outcome = first.is; done = sym first.has_status ∙ wrote.done })) in
        says_accepted (Some check.order) check.output check.complaint all check.status second
        ((accepted_bytes read.command read.within second.outcome).0 second.is)
