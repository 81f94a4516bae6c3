-- The order and the bundle determine the status, and where nothing is refused it is success.
--
-- A command's answer is a relation with some cases, so two answers to one order and one bundle are compared case by
-- case: two cases exclude each other, and within one case the statuses agree. Under all of them a source comes to one
-- end (`gives_alike`): its tokens are a function of its bytes, a refused place excludes a tree, and the tree is one,
-- which is a hypothesis here (`OneTree`). Nests are alike in arrays, statements and body; the verdict and the automata
-- don't depend on the facts that a nest keeps. Success is the same comparison, with what a valid order allows. Only
-- statuses are compared, not texts.
use Rattle.std.proofs.Common.{◌≡◌, ◌≤◌, ℕ, ℤ, List, [], length, Option, Some, None, Result, Ok, Err, refl, sym, ap, ◌∙◌, subst, arith, map, inl, inr}
use Rattle.sanlp.specs.WellFormed.{IsWellFormed}
use Rattle.std.specs.Prelude.{◌<◌, IsTrue, slice_get}
use Rattle.std.specs.List.{list_all, sum_by}
use Rattle.std.specs.Option.{option_and_then, option_map, option_map_or}
use Rattle.std.proofs.lemmas.Option.{same_Some}
use Rattle.loop_parse.proofs.Runs.{stops_no_tree}
use Rattle.loop_lex.specs.Tokens.{tokens}
use Rattle.loop_lex.specs.declared.token.Token.{Token}
use Rattle.loop_lex.specs.declared.token.LexError.{LexError}
use Rattle.loop_grammar.specs.Grammar.{Stops}
use Rattle.loop_grammar.specs.Lexemes.{IsTree, sentence}
use Rattle.loop_grammar.specs.declared.tree.Tree.{Tree}
use Rattle.loop_bind.specs.Findings.{findings}
use Rattle.loop_class.specs.Binding.{nest_of}
use Rattle.loop_bind.specs.Reasons.{least_from}
use Rattle.loop_bind.specs.declared.error.BindError.{BindError}
use Rattle.loop_walk.specs.Counting.{counted, counted_parts, counted_node}
use Rattle.loop_walk.specs.declared.count.SizeError.{SizeError}
use Rattle.loop_walk.specs.declared.count.SizeError.TheVariants.{Limit, LoopValue}
use Rattle.array_data.specs.Data.{Record, fault_of, inputs_of, lists_of, records_of, unless}
use Rattle.array_data.specs.declared.error.DataError.{DataError}
use Rattle.array_data.specs.declared.error.DataError.TheVariants.{UnknownArray, Twice, Missing, Count, NotANumber, Memory}
use Rattle.witness_plan.specs.declared.schedules.Policy.{Policy}
use Rattle.cert_text.specs.Reading.{reading}
use Rattle.cert_lines.specs.declared.error.CertError.{CertError}
use Rattle.net_checker.specs.Fits.{first, verdict_of}
use Rattle.sanlp.specs.Points.{points_of}
use Rattle.sanlp.specs.Trace.{trace}
use Rattle.sanlp.specs.Writers.{last_before}
use Rattle.net_checker.specs.declared.verdict.Refusal.{Refusal as NetRefusal}
use Rattle.net_core.specs.declared.network.Network.{Network}
use Rattle.source_tree.specs.declared.cert.Cert.{Cert as CertValue}
use Rattle.sanlp.specs.Meaning.{arrays}
use Rattle.sanlp.specs.declared.nest.ArrayDecl.{ArrayDecl}
use Rattle.sanlp.specs.declared.nest.Nest.{Nest}
use Rattle.sanlp.specs.declared.nest.Node.{Node}
use Rattle.sanlp.specs.declared.nest.Statement.{Statement}
use Rattle.sanlp.specs.declared.nest.Inputs.{Inputs}
use Rattle.bundle.specs.Parts.{certificate_part, data_part, source_part}
use Rattle.command_line.specs.declared.words.Order.{Order}
use Rattle.command_line.specs.declared.words.Command.{Command}
use Rattle.command_line.specs.declared.words.Command.TheVariants.{Run, Seq, Net, Cert, Check, Deps, Vhdl, Load, Sim, Trim, Trace}
use Rattle.compaan_top.specs.CertOutcomes as certify
use Rattle.compaan_top.specs.CertOutcomes.{PrintsCertificate}
use Rattle.command_answers.specs.Checking as check
use Rattle.command_answers.specs.Checking.{Checks, verdict_reply}
use Rattle.call_endings.specs.Complaints.{refusal_status}
use Rattle.call_endings.specs.Outcomes.{Outcome, outcome_of}
use Rattle.call_endings.specs.Reads.{source_and_certificate}
use Rattle.compaan_top.specs.Commands.{reads_of}
use Rattle.channel_plan.specs.Plans.{plans_of}
use Rattle.node_automata.specs.declared.node.NodeAuto.{NodeAuto}
use Rattle.process_derive.specs.Derived.{net}
use Rattle.source_tree.specs.Sources.{sources_of}
use Rattle.source_tree.specs.Systems.{Occurrence, writes_from}
use Rattle.tree_cuts.specs.Class.{IsInStrideClass, stride_count, writes_strides}
use Rattle.vhdl_text.specs.Refusal.{first_too_long}
use Rattle.witness_plan.specs.Sequential.{sequential_schedule}
use Rattle.command_answers.specs.Describing as describe
use Rattle.command_answers.specs.Describing.{Describes, planned_automata}
use Rattle.compaan_top.specs.Laws.{HasParts, IsDone, IsNestFor, IsValid, IsWithinOwnLimit, IsWithinSizeFor}
use Rattle.command_answers.specs.Load as load
use Rattle.command_answers.specs.Load.{Loads, load_limit}
use Rattle.matrix_load.specs.Product.{IsMatrixNest, matrix_product, size_given}
use Rattle.command_answers.specs.Printing as print
use Rattle.command_answers.specs.Printing.{Prints, network_text}
use Rattle.compaan_top.specs.Outcome.{IsOutcome, Performs, words_refused, bundle_refused, performed}
use Rattle.command_answers.specs.Replies.{Reply}
use Rattle.command_answers.specs.Refusals.{byte_of, lex_refusal, bind_refusal, size_refusal, data_refusal}
use Rattle.command_answers.specs.Run.{Runs, IsInputs, run_text, source_refused, data_refused, answered}
use Rattle.command_answers.specs.Simulating.{simulation_text}
use Rattle.compaan_top.specs.DepsOutcomes as telling
use Rattle.compaan_top.specs.DepsOutcomes.{IsSmallWhereSwept, IsSwept, TellsSources}
use Rattle.command_answers.specs.Tracing as tracing
use Rattle.command_answers.specs.Tracing.{Traces}
use Rattle.command_answers.specs.Trimming.{trimming_text}
use Rattle.command_answers.specs.Source as sized
use Rattle.command_answers.specs.Source.{Gives, GivesWithinSize, no_tokens, no_tree, not_bound, bound}
use Rattle.command_answers.specs.declared.refusal.Refusal.{Refusal}
use Rattle.command_answers.specs.declared.status.Status.TheVariants.{DataRefused, Done, LimitPassed}
use Rattle.compaan_top.proofs.Facts.{facts_aside}

-- tokens have one tree
abbrev pub OneTree : Type 0
OneTree = (bytes : List ℕ) (found : List Token) (a b : Tree) → IsTree bytes found a → IsTree bytes found b → a ≡ b

-- ---- a source comes to one end

-- both are nests of the same parts, or both are refusals of one status
abbrev pub Alike : Result Nest Refusal → Result Nest Refusal → Type 0
Alike (Ok n) (Ok m) = (n.arrays ≡ m.arrays) × (n.statements ≡ m.statements) × (n.body ≡ m.body)
Alike (Err r) (Err s) = refusal_status r ≡ refusal_status s
Alike (Ok n) (Err s) = ⊥
Alike (Err r) (Ok m) = ⊥

same_list : (source : List ℕ) (a b : List Token) → tokens source ≡ Ok a → tokens source ≡ Ok b → a ≡ b
same_list source a b x y = cc

same_error : (source : List ℕ) (a b : LexError) → tokens source ≡ Err a → tokens source ≡ Err b → a ≡ b
same_error source a b x y = cc

no_both : (source : List ℕ) (a : LexError) (b : List Token) → tokens source ≡ Err a → tokens source ≡ Ok b → ⊥
no_both source a b x y = cc

same_refusal : (a b : Option Refusal) (r s : Refusal) → a ≡ Some r → b ≡ Some s → a ≡ b
    → refusal_status r ≡ refusal_status s
same_refusal a b r s x y e = ap refusal_status (same_Some r s (sym x ∙ e ∙ y))

-- no tokens of one list have a tree and a refused place
no_tree_at_place : (source : List ℕ) (a b : List Token) (place : ℕ) (tree : Tree) → tokens source ≡ Ok a
    → tokens source ≡ Ok b
    → Stops (sentence source a) place → IsTree source b tree → ⊥
no_tree_at_place source a b place tree x y stops derived =
    stops_no_tree (sentence source a) place stops tree
    (subst (λ (l : List Token). IsTree source l tree) (same_list source b a y x) derived)

-- the trees of a source are one
one_tree_of : OneTree → (source : List ℕ) (a b : List Token) (t u : Tree) → tokens source ≡ Ok a → tokens source ≡ Ok b
    → IsTree source a t → IsTree source b u → t ≡ u
one_tree_of one source a b t u x y p q =
    one source a t u p (subst (λ (l : List Token). IsTree source l u) (same_list source b a y x) q)

none_least : (tree : Tree) (params : List (List ℕ × ℤ)) (reason : BindError) → findings tree params ≡ []
    → least_from None (findings tree params) ≡ Some reason → ⊥
none_least tree params reason e f = let g : least_from None [] ≡ Some reason = rw e at f in cc

-- nests with the same parts are found wrong alike
pub first_alike : (n m : Nest) → n.arrays ≡ m.arrays → n.statements ≡ m.statements → n.body ≡ m.body
    → (network : Network) (cert : CertValue)
    → first n network cert ≡ first m network cert
first_alike n m arrays statements body network cert =
    subst (λ (x : List ArrayDecl). (v : IsWellFormed x m.statements m.body)
    → first n network cert
    ≡ first (record { arrays = x; statements = m.statements; body = m.body; well_formed = v }) network cert) arrays
    (subst (λ (y : List Statement). (v : IsWellFormed n.arrays y m.body)
    → first n network cert
    ≡ first (record { arrays = n.arrays; statements = y; body = m.body; well_formed = v }) network cert) statements
    (subst (λ (z : List Node). (v : IsWellFormed n.arrays n.statements z)
    → first n network cert
    ≡ first (record { arrays = n.arrays; statements = n.statements; body = z; well_formed = v }) network cert) body
    (λ v. facts_aside n.arrays n.statements n.body n.well_formed v network cert))) m.well_formed

-- the automata of the network don't bear on those facts either
automata_aside : (arrays : List ArrayDecl) (statements : List Statement) (body : List Node)
    (w v : IsWellFormed arrays statements body) (policy : Policy)
    → planned_automata policy (record { arrays = arrays; statements = statements; body = body; well_formed = w })
    ≡ planned_automata policy (record { arrays = arrays; statements = statements; body = body; well_formed = v })
unfolding trace last_before points_of sources_of plans_of net sequential_schedule
automata_aside arrays statements body w v policy = refl

automata_alike : (n m : Nest) → n.arrays ≡ m.arrays → n.statements ≡ m.statements → n.body ≡ m.body → (policy : Policy)
    → planned_automata policy n ≡ planned_automata policy m
automata_alike n m arrays statements body policy =
    subst (λ (x : List ArrayDecl). (v : IsWellFormed x m.statements m.body)
    → planned_automata policy n
    ≡ planned_automata policy (record { arrays = x; statements = m.statements; body = m.body; well_formed = v })) arrays
    (subst (λ (y : List Statement). (v : IsWellFormed n.arrays y m.body)
    → planned_automata policy n
    ≡ planned_automata policy (record { arrays = n.arrays; statements = y; body = m.body; well_formed = v })) statements
    (subst (λ (z : List Node). (v : IsWellFormed n.arrays n.statements z)
    → planned_automata policy n
    ≡ planned_automata policy (record { arrays = n.arrays; statements = n.statements; body = z; well_formed = v })) body
    (λ v. automata_aside n.arrays n.statements n.body n.well_formed v policy))) m.well_formed

pub gives_alike : OneTree → (source : List ℕ) (params : List (List ℕ × ℤ)) {x y : Result Nest Refusal}
    → Gives source params x → Gives source params y → Alike x y
gives_alike one source params (no_tokens e r lexed made) (no_tokens f s lexed' made') =
    same_refusal (lex_refusal e) (lex_refusal f) r s made made' (ap lex_refusal (same_error source e f lexed lexed'))
gives_alike one source params (no_tokens e r lexed made) (no_tree a place lexed' stops) =
    absurd (no_both source e a lexed lexed')
gives_alike one source params (no_tokens e r lexed made) (not_bound a t reason s lexed' derived least made') =
    absurd (no_both source e a lexed lexed')
gives_alike one source params (no_tokens e r lexed made) (bound a t n lexed' derived is) =
    absurd (no_both source e a lexed lexed')
gives_alike one source params (no_tree a place lexed stops) (no_tokens f s lexed' made') =
    absurd (no_both source f a lexed' lexed)
gives_alike one source params (no_tree a place lexed stops) (no_tree b place' lexed' stops') = refl
gives_alike one source params (no_tree a place lexed stops) (not_bound b t reason s lexed' derived least made') =
    absurd (no_tree_at_place source a b place t lexed lexed' stops derived)
gives_alike one source params (no_tree a place lexed stops) (bound b t n lexed' derived is) =
    absurd (no_tree_at_place source a b place t lexed lexed' stops derived)
gives_alike one source params (not_bound a t reason r lexed derived least made) (no_tokens f s lexed' made') =
    absurd (no_both source f a lexed' lexed)
gives_alike one source params (not_bound a t reason r lexed derived least made) (no_tree b place lexed' stops) =
    absurd (no_tree_at_place source b a place t lexed' lexed stops derived)
gives_alike one source params (not_bound a t reason r lexed derived least made)
    (not_bound b u reason' s lexed' derived' least' made') =
    let trees : t ≡ u = one_tree_of one source a b t u lexed lexed' derived derived' in
    let reasons : reason ≡ reason' =
    same_Some reason reason' (sym least ∙ ap (λ (z : Tree). least_from None (findings z params)) trees ∙ least') in
    let lists : a ≡ b = same_list source a b lexed lexed' in
    same_refusal (bind_refusal (byte_of source a) reason) (bind_refusal (byte_of source b) reason') r s made made'
    (ap (λ (l : List Token). bind_refusal (byte_of source l) reason) lists
    ∙ ap (bind_refusal (byte_of source b)) reasons)
gives_alike one source params (not_bound a t reason r lexed derived least made) (bound b u n lexed' derived' is) =
    let trees : t ≡ u = one_tree_of one source a b t u lexed lexed' derived derived' in
    absurd (none_least u params reason is.no_findings
    (sym (ap (λ (z : Tree). least_from None (findings z params)) trees) ∙ least))
gives_alike one source params (bound a t n lexed derived is) (no_tokens f s lexed' made') =
    absurd (no_both source f a lexed' lexed)
gives_alike one source params (bound a t n lexed derived is) (no_tree b place lexed' stops) =
    absurd (no_tree_at_place source b a place t lexed' lexed stops derived)
gives_alike one source params (bound a t n lexed derived is) (not_bound b u reason s lexed' derived' least made) =
    let trees : u ≡ t = one_tree_of one source b a u t lexed' lexed derived' derived in
    absurd (none_least t params reason is.no_findings
    (sym (ap (λ (z : Tree). least_from None (findings z params)) trees) ∙ least))
gives_alike one source params (bound a t n lexed derived is) (bound b u m lexed' derived' is') =
    let trees : t ≡ u = one_tree_of one source a b t u lexed lexed' derived derived' in (
      is.arrays ∙ ap (λ (z : Tree). (nest_of z params).arrays) trees ∙ sym is'.arrays,
      is.statements ∙ ap (λ (z : Tree). (nest_of z params).statements) trees ∙ sym is'.statements,
      is.body ∙ ap (λ (z : Tree). (nest_of z params).body) trees ∙ sym is'.body,
    )

-- ---- so does a nest within the limit on its size

same_counted : (n m : Nest) → n.body ≡ m.body → counted n ≡ counted m
unfolding counted
same_counted n m e = ap (λ (body : List Node). counted_parts (map counted_node body) [] 0) e

pub size_status : (e : SizeError) → refusal_status (size_refusal e) ≡ LimitPassed
size_status (Limit count) = refl
size_status (LoopValue loop) = refl

pub no_both_sizes : (n m : Nest) (e : SizeError) (total : ℕ) → n.body ≡ m.body → counted n ≡ Err e
    → counted m ≡ Ok total → ⊥
no_both_sizes n m e total same f g = let c = same_counted n m same in cc

pub sized_alike : OneTree → (source : List ℕ) (params : List (List ℕ × ℤ)) {x y : Result Nest Refusal}
    → GivesWithinSize source params x → GivesWithinSize source params y → Alike x y
sized_alike one source params (sized.source_refused r g) (sized.source_refused s h) = gives_alike one source params g h
sized_alike one source params (sized.source_refused r g) (sized.size_refused m f h d) =
    absurd (gives_alike one source params g h)
sized_alike one source params (sized.source_refused r g) (sized.within_size m u h d) =
    absurd (gives_alike one source params g h)
sized_alike one source params (sized.size_refused n e g c) (sized.source_refused s h) =
    absurd (gives_alike one source params g h)
sized_alike one source params (sized.size_refused n e g c) (sized.size_refused m f h d) =
    size_status e ∙ sym (size_status f)
sized_alike one source params (sized.size_refused n e g c) (sized.within_size m u h d) =
    absurd (no_both_sizes n m e u (gives_alike one source params g h).2 c d)
sized_alike one source params (sized.within_size n t g c) (sized.source_refused s h) =
    absurd (gives_alike one source params g h)
sized_alike one source params (sized.within_size n t g c) (sized.size_refused m f h d) =
    absurd (no_both_sizes m n f t (gives_alike one source params h g).2 d c)
sized_alike one source params (sized.within_size n t g c) (sized.within_size m u h d) =
    gives_alike one source params g h

-- ---- and so do the commands that run a source on its data

abbrev pub SameStatus : Result Reply Refusal → Result Reply Refusal → Type 0
SameStatus x y = (outcome_of x).status ≡ (outcome_of y).status

pub data_status : (list : List ArrayDecl) (fault : DataError) (r : Refusal) → data_refusal list fault ≡ Some r
    → refusal_status r ≡ DataRefused
data_status list (UnknownArray number) r told = ap refusal_status (sym (same_Some _ r told))
data_status list (Twice number) r told = ap refusal_status (sym (same_Some _ r told))
data_status list (Missing array) r told = ap refusal_status (sym (same_Some _ r told))
data_status list (Count number got want) r told = ap refusal_status (sym (same_Some _ r told))
data_status list (NotANumber number field) r told = ap refusal_status (sym (same_Some _ r told))
data_status list Memory r told = cc

-- the arrays decide what the records give
same_inputs : (n m : Nest) (rows : List Record) → n.arrays ≡ m.arrays → inputs_of n rows ≡ inputs_of m rows
same_inputs n m rows e =
    ap (λ (list : List ArrayDecl). unless (fault_of list rows) (record { arrays = lists_of list rows })) e

abbrev BothRefused : Result Inputs Refusal → Result Inputs Refusal → Type 0
BothRefused (Ok d) (Ok e) = Unit {0}
BothRefused (Err r) (Err s) = refusal_status r ≡ refusal_status s
BothRefused (Ok d) (Err s) = ⊥
BothRefused (Err r) (Ok e) = ⊥

no_both_inputs : (x y : Result Inputs DataError) (d : Inputs) (fault : DataError) → x ≡ y → x ≡ Ok d → y ≡ Err fault → ⊥
no_both_inputs x y d fault e f g = cc

inputs_alike : (bytes : List ℕ) (n m : Nest) (x y : Result Inputs Refusal) → n.arrays ≡ m.arrays
    → IsInputs n bytes x → IsInputs m bytes y → BothRefused x y
inputs_alike bytes n m (Ok d) (Ok e) same i j = tt
inputs_alike bytes n m (Err r) (Err s) same i j = data_status n.arrays i.0 r i.2 ∙ sym (data_status m.arrays j.0 s j.2)
inputs_alike bytes n m (Ok d) (Err s) same i j =
    absurd (no_both_inputs (inputs_of n (records_of bytes)) (inputs_of m (records_of bytes)) d j.0
    (same_inputs n m (records_of bytes) same) i j.1)
inputs_alike bytes n m (Err r) (Ok e) same i j =
    absurd (no_both_inputs (inputs_of m (records_of bytes)) (inputs_of n (records_of bytes)) e i.0
    (sym (same_inputs n m (records_of bytes) same)) j i.1)

runs_alike : OneTree
    → (text : Nest → Inputs → List ℕ) (params : List (List ℕ × ℤ)) (bundle : List ℕ) {x y : Result Reply Refusal}
    → Runs text params bundle x → Runs text params bundle y → SameStatus x y
runs_alike one text params bundle (source_refused r g) (source_refused s h) =
    sized_alike one (source_part bundle) params g h
runs_alike one text params bundle (source_refused r g) (data_refused m s h j) =
    absurd (sized_alike one (source_part bundle) params g h)
runs_alike one text params bundle (source_refused r g) (answered m d h j) =
    absurd (sized_alike one (source_part bundle) params g h)
runs_alike one text params bundle (data_refused n r g i) (source_refused s h) =
    absurd (sized_alike one (source_part bundle) params g h)
runs_alike one text params bundle (data_refused n r g i) (data_refused m s h j) =
    inputs_alike (data_part bundle) n m (Err r) (Err s) (sized_alike one (source_part bundle) params g h).0 i j
runs_alike one text params bundle (data_refused n r g i) (answered m d h j) =
    absurd (inputs_alike (data_part bundle) n m (Err r) (Ok d) (sized_alike one (source_part bundle) params g h).0 i j)
runs_alike one text params bundle (answered n d g i) (source_refused s h) =
    absurd (sized_alike one (source_part bundle) params g h)
runs_alike one text params bundle (answered n d g i) (data_refused m s h j) =
    absurd (inputs_alike (data_part bundle) n m (Ok d) (Err s) (sized_alike one (source_part bundle) params g h).0 i j)
runs_alike one text params bundle (answered n d g i) (answered m e h j) = refl

prints_alike : OneTree
    → (text : Nest → List ℕ) (params : List (List ℕ × ℤ)) (bundle : List ℕ) {x y : Result Reply Refusal}
    → Prints text params bundle x → Prints text params bundle y → SameStatus x y
prints_alike one text params bundle (print.source_refused r g) (print.source_refused s h) =
    sized_alike one (source_part bundle) params g h
prints_alike one text params bundle (print.source_refused r g) (print.printed m h) =
    absurd (sized_alike one (source_part bundle) params g h)
prints_alike one text params bundle (print.printed n g) (print.source_refused s h) =
    absurd (sized_alike one (source_part bundle) params g h)
prints_alike one text params bundle (print.printed n g) (print.printed m h) = refl

certificates_alike : OneTree
    → (policy : Policy) (params : List (List ℕ × ℤ)) (bundle : List ℕ) {x y : Result Reply Refusal}
    → PrintsCertificate policy params bundle x → PrintsCertificate policy params bundle y → SameStatus x y
certificates_alike one policy params bundle (certify.source_refused r g) (certify.source_refused s h) =
    sized_alike one (source_part bundle) params g h
certificates_alike one policy params bundle (certify.source_refused r g) (certify.printed m c t h is w) =
    absurd (sized_alike one (source_part bundle) params g h)
certificates_alike one policy params bundle (certify.printed n c t g is w) (certify.source_refused s h) =
    absurd (sized_alike one (source_part bundle) params g h)
certificates_alike one policy params bundle (certify.printed n c t g is w) (certify.printed m d u h was v) = refl

pub no_part_there : (bundle part : List ℕ) → certificate_part bundle ≡ None → certificate_part bundle ≡ Some part → ⊥
no_part_there bundle part none there = cc

pub same_part : (bundle a b : List ℕ) → certificate_part bundle ≡ Some a → certificate_part bundle ≡ Some b → a ≡ b
same_part bundle a b x y = cc

no_both_readings : (a b : Result (Network × CertValue) CertError) (e : CertError) (found : Network × CertValue) → a ≡ b
    → a ≡ Err e → b ≡ Ok found → ⊥
no_both_readings a b e found same x y = cc

-- one text isn't both refused and read
read_and_unread : (bundle a b : List ℕ) (e : CertError) (network : Network) (cert : CertValue)
    → certificate_part bundle ≡ Some a → certificate_part bundle ≡ Some b
    → reading a ≡ Err e → reading b ≡ Ok (network, cert) → ⊥
read_and_unread bundle a b e network cert x y unread read =
    no_both_readings (reading a) (reading b) e (network, cert) (ap reading (same_part bundle a b x y)) unread read

same_reading : (a b : Result (Network × CertValue) CertError) (x y : Network × CertValue) → a ≡ b → a ≡ Ok x → b ≡ Ok y
    → x ≡ y
same_reading a b x y same p q = cc

-- one text has one verdict
judged_alike : (bundle a b : List ℕ) (n m : Nest) (network other : Network) (cert another : CertValue)
    → certificate_part bundle ≡ Some a → certificate_part bundle ≡ Some b
    → Alike (Ok n) (Ok m) → reading a ≡ Ok (network, cert) → reading b ≡ Ok (other, another)
    → (verdict_reply (verdict_of (first n network cert))).status
    ≡ (verdict_reply (verdict_of (first m other another))).status
judged_alike bundle a b n m network other cert another x y same p q =
    let pairs : (network, cert) ≡ (other, another) =
    same_reading (reading a) (reading b) (network, cert) (other, another) (ap reading (same_part bundle a b x y)) p q in
    ap (λ (found : Option NetRefusal). (verdict_reply (verdict_of found)).status)
    (first_alike n m same.0 same.1 same.2 network cert ∙ ap (λ (z : Network × CertValue). first m z.0 z.1) pairs)

checks_alike : OneTree → (params : List (List ℕ × ℤ)) (bundle : List ℕ) {x y : Result Reply Refusal}
    → Checks params bundle x → Checks params bundle y → SameStatus x y
checks_alike one params bundle (check.part_missing none) (check.part_missing other) = refl
checks_alike one params bundle (check.part_missing none) (check.source_refused b s y h) =
    absurd (no_part_there bundle b none y)
checks_alike one params bundle (check.part_missing none) (check.unread b m f u y h q v) =
    absurd (no_part_there bundle b none y)
checks_alike one params bundle (check.part_missing none) (check.judged b m other another y h q) =
    absurd (no_part_there bundle b none y)
checks_alike one params bundle (check.source_refused a r x g) (check.part_missing none) =
    absurd (no_part_there bundle a none x)
checks_alike one params bundle (check.source_refused a r x g) (check.source_refused b s y h) =
    sized_alike one (source_part bundle) params g h
checks_alike one params bundle (check.source_refused a r x g) (check.unread b m f u y h q v) =
    absurd (sized_alike one (source_part bundle) params g h)
checks_alike one params bundle (check.source_refused a r x g) (check.judged b m other another y h q) =
    absurd (sized_alike one (source_part bundle) params g h)
checks_alike one params bundle (check.unread a n e t x g p w) (check.part_missing none) =
    absurd (no_part_there bundle a none x)
checks_alike one params bundle (check.unread a n e t x g p w) (check.source_refused b s y h) =
    absurd (sized_alike one (source_part bundle) params g h)
checks_alike one params bundle (check.unread a n e t x g p w) (check.unread b m f u y h q v) = refl
checks_alike one params bundle (check.unread a n e t x g p w) (check.judged b m other another y h q) =
    absurd (read_and_unread bundle a b e other another x y p q)
checks_alike one params bundle (check.judged a n network cert x g p) (check.part_missing none) =
    absurd (no_part_there bundle a none x)
checks_alike one params bundle (check.judged a n network cert x g p) (check.source_refused b s y h) =
    absurd (sized_alike one (source_part bundle) params g h)
checks_alike one params bundle (check.judged a n network cert x g p) (check.unread b m f u y h q v) =
    absurd (read_and_unread bundle b a f network cert y x q p)
checks_alike one params bundle (check.judged a n network cert x g p) (check.judged b m other another y h q) =
    judged_alike bundle a b n m network other cert another x y (sized_alike one (source_part bundle) params g h) p q

no_both_lengths : (a b : Option NodeAuto) (auto : NodeAuto) → a ≡ b → a ≡ Some auto → b ≡ None → ⊥
no_both_lengths a b auto same x y = cc

-- the scripts of one nest's network aren't both too long and short enough
long_and_short : (policy : Policy) (n m : Nest) (auto : NodeAuto) → Alike (Ok n) (Ok m)
    → first_too_long (planned_automata policy n) ≡ Some auto
    → first_too_long (planned_automata policy m) ≡ None → ⊥
long_and_short policy n m auto same x y =
    no_both_lengths (first_too_long (planned_automata policy n)) (first_too_long (planned_automata policy m)) auto
    (ap first_too_long (automata_alike n m same.0 same.1 same.2 policy)) x y

describes_alike : OneTree
    → (policy : Policy) (params : List (List ℕ × ℤ)) (bundle : List ℕ) {x y : Result Reply Refusal}
    → Describes policy params bundle x → Describes policy params bundle y → SameStatus x y
describes_alike one policy params bundle (describe.source_refused r g) (describe.source_refused s h) =
    sized_alike one (source_part bundle) params g h
describes_alike one policy params bundle (describe.source_refused r g) (describe.script_refused m a h l) =
    absurd (sized_alike one (source_part bundle) params g h)
describes_alike one policy params bundle (describe.source_refused r g) (describe.described m h l) =
    absurd (sized_alike one (source_part bundle) params g h)
describes_alike one policy params bundle (describe.script_refused n a g k) (describe.source_refused s h) =
    absurd (sized_alike one (source_part bundle) params g h)
describes_alike one policy params bundle (describe.script_refused n a g k) (describe.script_refused m b h l) = refl
describes_alike one policy params bundle (describe.script_refused n a g k) (describe.described m h l) =
    absurd (long_and_short policy n m a (sized_alike one (source_part bundle) params g h) k l)
describes_alike one policy params bundle (describe.described n g k) (describe.source_refused s h) =
    absurd (sized_alike one (source_part bundle) params g h)
describes_alike one policy params bundle (describe.described n g k) (describe.script_refused m b h l) =
    absurd (long_and_short policy m n b (sized_alike one (source_part bundle) params h g) l k)
describes_alike one policy params bundle (describe.described n g k) (describe.described m h l) = refl

-- the product of matrices with so many rows is one nest
matrix_alike : OneTree → (rows : ℕ) (n m : Nest) → IsMatrixNest rows n → IsMatrixNest rows m → Alike (Ok n) (Ok m)
matrix_alike one rows n m a b =
    gives_alike one matrix_product (size_given rows) (bound a.found a.tree n a.has_tokens a.has_tree a.is_bound)
    (bound b.found b.tree m b.has_tokens b.has_tree b.is_bound)

loads_alike : OneTree → (policy : Policy) (rows : ℕ) {x y : Result Reply Refusal} → Loads policy rows x
    → Loads policy rows y → SameStatus x y
loads_alike one policy rows (load.too_large a) (load.too_large b) = refl
loads_alike one policy rows (load.too_large a) (load.size_refused m f b h d) = absurd (omega (arith, a, b))
loads_alike one policy rows (load.too_large a) (load.summed m u j b h d i) = absurd (omega (arith, a, b))
loads_alike one policy rows (load.size_refused n e a g c) (load.too_large b) = absurd (omega (arith, a, b))
loads_alike one policy rows (load.size_refused n e a g c) (load.size_refused m f b h d) =
    size_status e ∙ sym (size_status f)
loads_alike one policy rows (load.size_refused n e a g c) (load.summed m u j b h d i) =
    absurd (no_both_sizes n m e u (matrix_alike one rows n m g h).2 c d)
loads_alike one policy rows (load.summed n t k a g c i) (load.too_large b) = absurd (omega (arith, a, b))
loads_alike one policy rows (load.summed n t k a g c i) (load.size_refused m f b h d) =
    absurd (no_both_sizes m n f t (matrix_alike one rows m n h g).2 d c)
loads_alike one policy rows (load.summed n t k a g c i) (load.summed m u j b h d l) = refl

traces_alike : OneTree → (policy : Policy) (params : List (List ℕ × ℤ)) (bundle : List ℕ) {x y : Result Reply Refusal}
    → Traces policy params bundle x → Traces policy params bundle y → SameStatus x y
traces_alike one policy params bundle (tracing.source_refused r g) (tracing.source_refused s h) =
    sized_alike one (source_part bundle) params g h
traces_alike one policy params bundle (tracing.source_refused r g) (tracing.traced m run h e) =
    absurd (sized_alike one (source_part bundle) params g h)
traces_alike one policy params bundle (tracing.traced n run g e) (tracing.source_refused s h) =
    absurd (sized_alike one (source_part bundle) params g h)
traces_alike one policy params bundle (tracing.traced n run g e) (tracing.traced m other h f) = refl

-- how many reads a statement has is a matter of the statements, and so is which read is meant, and whether it has a tree
abbrev IsReadIn : List Statement → ℕ → ℕ → Occurrence → Type 0
IsReadIn statements s k r =
    option_and_then
    (λ st. option_map (λ access. record { number = s; statement = st; access = access }) (slice_get st.reads k))
    (slice_get statements s)
    ≡ Some r

same_class : (n m : Nest) → n.statements ≡ m.statements → (s k : ℕ) → IsInStrideClass m s k → IsInStrideClass n s k
same_class n m same s k c = record {
  read = c.read;
  is_read = subst (λ statements. IsReadIn statements s k c.read) (sym same) c.is_read;
  each =
      subst (λ statements. IsTrue (list_all writes_strides (writes_from c.read.access.array 0 statements))) (sym same)
      c.each;
  few =
      subst (λ statements. sum_by stride_count (writes_from c.read.access.array 0 statements) ≤ 6) (sym same) c.few;
}

-- so whether every read has one is too
swept_alike : (n m : Nest) → n.statements ≡ m.statements → IsSwept n → IsSwept m
swept_alike n m same some all =
    some
    (λ s k below.
    same_class n m same s k
    (all s k
    (subst (λ statements. k < option_map_or (λ st. length st.reads) (slice_get statements s) 0) same below)))

tells_alike : OneTree → (params : List (List ℕ × ℤ)) (bundle : List ℕ) {x y : Result Reply Refusal}
    → TellsSources params bundle x → TellsSources params bundle y → SameStatus x y
tells_alike one params bundle (telling.source_refused r g) (telling.source_refused s h) =
    gives_alike one (source_part bundle) params g h
tells_alike one params bundle (telling.source_refused r g) (telling.size_refused m f h some d) =
    absurd (gives_alike one (source_part bundle) params g h)
tells_alike one params bundle (telling.source_refused r g) (telling.told m u text h small tells) =
    absurd (gives_alike one (source_part bundle) params g h)
tells_alike one params bundle (telling.size_refused n e g some c) (telling.source_refused s h) =
    absurd (gives_alike one (source_part bundle) params g h)
tells_alike one params bundle (telling.size_refused n e g some c) (telling.size_refused m f h other d) =
    size_status e ∙ sym (size_status f)
tells_alike one params bundle (telling.size_refused n e g some c) (telling.told m u text h small tells) =
    let same = gives_alike one (source_part bundle) params g h in
    absurd (no_both_sizes n m e u same.2 c (small (swept_alike n m same.1 some)))
tells_alike one params bundle (telling.told n t text g small tells) (telling.source_refused s h) =
    absurd (gives_alike one (source_part bundle) params g h)
tells_alike one params bundle (telling.told n t text g small tells) (telling.size_refused m f h some d) =
    let same = gives_alike one (source_part bundle) params h g in
    absurd (no_both_sizes m n f t same.2 d (small (swept_alike m n same.1 some)))
tells_alike one params bundle (telling.told n t text g small tells) (telling.told m u other h few told) = refl

performs_alike : OneTree → (command : Command) (order : Order) (bundle : List ℕ) (x y : Result Reply Refusal)
    → Performs command order bundle x → Performs command order bundle y → SameStatus x y
performs_alike one Run order bundle x y made other = runs_alike one run_text order.params bundle made other
performs_alike one Seq order bundle x y made other = runs_alike one run_text order.params bundle made other
performs_alike one Net order bundle x y made other =
    prints_alike one (network_text order.policy) order.params bundle made other
performs_alike one Cert order bundle x y made other =
    certificates_alike one order.policy order.params bundle made other
performs_alike one Check order bundle x y made other = checks_alike one order.params bundle made other
performs_alike one Deps order bundle x y made other = tells_alike one order.params bundle made other
performs_alike one Vhdl order bundle x y made other = describes_alike one order.policy order.params bundle made other
performs_alike one Load order bundle x y made other = loads_alike one order.policy order.load made other
performs_alike one Sim order bundle x y made other =
    runs_alike one (simulation_text order.policy) order.params bundle made other
performs_alike one Trim order bundle x y made other =
    prints_alike one (trimming_text order.policy) order.params bundle made other
performs_alike one Trace order bundle x y made other = traces_alike one order.policy order.params bundle made other

pub no_order : (wanted : Option Order) (order : Order) → wanted ≡ None → wanted ≡ Some order → ⊥
no_order wanted order x y = cc

pub outcomes_alike : OneTree → (wanted : Option Order) (bundle : List ℕ) {a b : Outcome} → IsOutcome wanted bundle a
    → IsOutcome wanted bundle b → a.status ≡ b.status
outcomes_alike one wanted bundle (words_refused x) (words_refused y) = refl
outcomes_alike one wanted bundle (words_refused x) (bundle_refused o y reads long) = absurd (no_order wanted o x y)
outcomes_alike one wanted bundle (words_refused x) (performed o answer y within made) = absurd (no_order wanted o x y)
outcomes_alike one wanted bundle (bundle_refused o x reads long) (words_refused y) = absurd (no_order wanted o y x)
outcomes_alike one wanted bundle (bundle_refused o x reads long) (bundle_refused p y others other) = refl
outcomes_alike one wanted bundle (bundle_refused o x reads long) (performed p answer y within made) =
    absurd (omega arith)
outcomes_alike one wanted bundle (performed o answer x within made) (words_refused y) = absurd (no_order wanted o y x)
outcomes_alike one wanted bundle (performed o answer x within made) (bundle_refused p y reads long) =
    absurd (omega arith)
outcomes_alike one wanted bundle (performed o answer x within made) (performed p answer' y within' made') =
    performs_alike one o.command o bundle answer answer' made
    (subst (λ (q : Order). Performs q.command q bundle answer') (same_Some p o (sym y ∙ x)) made')

-- ---- success

verdict_done : (found : Option NetRefusal) → IsDone source_and_certificate (verdict_reply (verdict_of found)).status
verdict_done None = inl refl
verdict_done (Some refusal) = inr refl

checks_done : OneTree → (params : List (List ℕ × ℤ)) (bundle : List ℕ) (n : Nest) (part : List ℕ)
    → GivesWithinSize (source_part bundle) params (Ok n)
    → certificate_part bundle ≡ Some part → {x : Result Reply Refusal} → Checks params bundle x
    → IsDone source_and_certificate (outcome_of x).status
checks_done one params bundle n part gives there (check.part_missing none) =
    absurd (no_part_there bundle part none there)
checks_done one params bundle n part gives there (check.source_refused other r others g) =
    absurd (sized_alike one (source_part bundle) params gives g)
checks_done one params bundle n part gives there (check.unread other m e text others g read told) = inr refl
checks_done one params bundle n part gives there (check.judged other m network cert others g read) =
    verdict_done (first m network cert)

loads_done : OneTree → (policy : Policy) (rows : ℕ) (n : Nest) (total : ℕ) → rows ≤ load_limit → IsMatrixNest rows n
    → counted n ≡ Ok total
    → {x : Result Reply Refusal} → Loads policy rows x → (outcome_of x).status ≡ Done
loads_done one policy rows n total within is counts (load.too_large a) = absurd (omega (arith, a, within))
loads_done one policy rows n total within is counts (load.size_refused m e a g c) =
    absurd (no_both_sizes m n e total (matrix_alike one rows m n g is).2 c counts)
loads_done one policy rows n total within is counts (load.summed m t k a g c i) = refl

certificate_done : OneTree → (policy : Policy) (params : List (List ℕ × ℤ)) (bundle : List ℕ) (n : Nest)
    → GivesWithinSize (source_part bundle) params (Ok n) → {x : Result Reply Refusal}
    → PrintsCertificate policy params bundle x → (outcome_of x).status ≡ Done
certificate_done one policy params bundle n gives (certify.source_refused r g) =
    absurd (sized_alike one (source_part bundle) params gives g)
certificate_done one policy params bundle n gives (certify.printed m c t g is w) = refl

traces_done : OneTree → (policy : Policy) (params : List (List ℕ × ℤ)) (bundle : List ℕ) (n : Nest)
    → GivesWithinSize (source_part bundle) params (Ok n)
    → {x : Result Reply Refusal} → Traces policy params bundle x → (outcome_of x).status ≡ Done
traces_done one policy params bundle n gives (tracing.source_refused r g) =
    absurd (sized_alike one (source_part bundle) params gives g)
traces_done one policy params bundle n gives (tracing.traced m run g e) = refl

tells_done : OneTree → (params : List (List ℕ × ℤ)) (bundle : List ℕ) (n : Nest) (total : ℕ)
    → Gives (source_part bundle) params (Ok n) → IsSmallWhereSwept n total
    → {x : Result Reply Refusal} → TellsSources params bundle x → (outcome_of x).status ≡ Done
tells_done one params bundle n total gives small (telling.source_refused r g) =
    absurd (gives_alike one (source_part bundle) params gives g)
tells_done one params bundle n total gives small (telling.size_refused m e h some c) =
    let same = gives_alike one (source_part bundle) params h gives in
    absurd (no_both_sizes m n e total same.2 c (small (swept_alike m n same.1 some)))
tells_done one params bundle n total gives small (telling.told m t text h few tells) = refl

performs_done : OneTree → (command : Command) (order : Order) (bundle : List ℕ)
    → (n : Nest) (total : ℕ) (inputs : Inputs)
    → IsNestFor (reads_of command) order bundle n → IsWithinSizeFor command n total
    → IsWithinOwnLimit command order.policy n
    → HasParts (reads_of command) n bundle inputs
    → (x : Result Reply Refusal) → Performs command order bundle x → IsDone (reads_of command) (outcome_of x).status
performs_done one Run order bundle n total inputs gives counts limited has x made =
    runs_alike one run_text order.params bundle made (answered n inputs (sized.within_size n total gives counts) has)
performs_done one Seq order bundle n total inputs gives counts limited has x made =
    runs_alike one run_text order.params bundle made (answered n inputs (sized.within_size n total gives counts) has)
performs_done one Net order bundle n total inputs gives counts limited has x made =
    prints_alike one (network_text order.policy) order.params bundle made
    (print.printed n (sized.within_size n total gives counts))
performs_done one Cert order bundle n total inputs gives counts limited has x made =
    certificate_done one order.policy order.params bundle n (sized.within_size n total gives counts) made
performs_done one Check order bundle n total inputs gives counts limited has x made =
    checks_done one order.params bundle n has.0 (sized.within_size n total gives counts) has.1 made
performs_done one Deps order bundle n total inputs gives counts limited has x made =
    tells_done one order.params bundle n total gives counts made
performs_done one Vhdl order bundle n total inputs gives counts limited has x made =
    describes_alike one order.policy order.params bundle made
    (describe.described n (sized.within_size n total gives counts) limited)
performs_done one Load order bundle n total inputs gives counts limited has x made =
    loads_done one order.policy order.load n total gives.0 gives.1 counts made
performs_done one Sim order bundle n total inputs gives counts limited has x made =
    runs_alike one (simulation_text order.policy) order.params bundle made
    (answered n inputs (sized.within_size n total gives counts) has)
performs_done one Trim order bundle n total inputs gives counts limited has x made =
    prints_alike one (trimming_text order.policy) order.params bundle made
    (print.printed n (sized.within_size n total gives counts))
performs_done one Trace order bundle n total inputs gives counts limited has x made =
    traces_done one order.policy order.params bundle n (sized.within_size n total gives counts) made

pub outcomes_succeed : OneTree → (wanted : Option Order) (bundle : List ℕ) (v : IsValid wanted bundle) → {a : Outcome}
    → IsOutcome wanted bundle a
    → IsDone (reads_of v.order.command) a.status
outcomes_succeed one wanted bundle v (words_refused x) = absurd (no_order wanted v.order x v.ordered)
outcomes_succeed one wanted bundle v (bundle_refused o x reads long) = absurd (omega (arith, v.within))
outcomes_succeed one wanted bundle v (performed o answer x within made) =
    performs_done one v.order.command v.order bundle v.nest v.total v.inputs v.gives v.counts v.limited v.has answer
    (subst (λ (q : Order). Performs q.command q bundle answer) (same_Some o v.order (sym x ∙ v.ordered)) made)
