-- What `check` answers to what `cert` writes.
use Rattle.std.specs.Prelude.{◌≡◌, ◌≤◌, ◌↔◌, ℕ, ℤ, List, ◌++◌, length, Contains, Some, Ok}
use Rattle.bundle.specs.Certified.{with_line_end}
use Rattle.cert_text.specs.StandsFor.{StandsFor}
use Rattle.bundle.specs.Parts.{certificate_part, source_part}
use Rattle.command_line.specs.declared.words.Command.TheVariants as command
use Rattle.command_line.specs.declared.words.Order.{Order}
use Rattle.loop_bind.specs.Names.{value_named}
use Rattle.loop_grammar.specs.Lexemes.{IsTree}
use Rattle.loop_grammar.specs.declared.tree.Declaration.{Declaration}
use Rattle.loop_grammar.specs.declared.tree.DeclWord.TheVariants.{Param}
use Rattle.loop_grammar.specs.declared.tree.Named.{Named}
use Rattle.loop_grammar.specs.declared.tree.Tree.{Tree}
use Rattle.loop_lex.specs.Tokens.{tokens}
use Rattle.loop_lex.specs.declared.token.Token.{Token}
use Rattle.swept_net.specs.Certificates.{IsCertificate}
use Rattle.sanlp.specs.declared.nest.Nest.{Nest}
use Rattle.source_tree.specs.declared.cert.Cert.{Cert}
use Rattle.witness_plan.specs.Schedules.{planned_network}
use Rattle.call_endings.specs.Changes.{Change}
use Rattle.call_endings.specs.Outcomes.{Outcome}
use Rattle.call_endings.specs.Reads.{bundle_limit}
use Rattle.compaan_top.specs.Answers.{Ends}
use Rattle.compaan_top.specs.Headline.{accepted}
use Rattle.compaan_top.specs.Outcome.{IsOutcome}
use Rattle.command_answers.specs.Source.{GivesWithinSize}
use Rattle.command_answers.specs.declared.status.Status.{Status}
use Rattle.command_answers.specs.declared.status.Status.TheVariants.{Done}

-- a tree declares a parameter of this name
pub record HasParameter (tree : Tree) (name : List ℕ) : Type 0 where
  pub declaration : Declaration
  pub named : Named
  pub stands : Contains tree.declarations declaration
  pub word : declaration.word ≡ Param
  pub is_declared : Contains declaration.names named
  pub text : named.name.text ≡ name

-- each parameter that the source declares has one value in both lists, or none in either
abbrev pub AgreeOn : List ℕ → List (List ℕ × ℤ) → List (List ℕ × ℤ) → Type 0
AgreeOn source a b =
    (found : List Token) (tree : Tree) (name : List ℕ) → tokens source ≡ Ok found
    → IsTree source found tree
    → HasParameter tree name → value_named a name ≡ value_named b name

-- an order to `cert` comes to this outcome on a bundle, and the certificate was written
pub record Certifies (order : Order) (bundle : List ℕ) (written : Outcome) : Type 0 where
  pub command : order.command ≡ command.Cert
  pub outcome : IsOutcome (Some order) bundle written
  pub done : written.status ≡ Done

-- The source gives a nest within the limit on its size, and the text stands for the nest's network, with the capacities that
-- its schedule needs, and for a certificate of it, which has that schedule and fits the nest.
pub record StandsForPlanned (order : Order) (bundle text : List ℕ) : Type 0 where
  pub nest : Nest
  pub cert : Cert
  pub gives : GivesWithinSize (source_part bundle) order.params (Ok nest)
  pub stands : StandsFor text (planned_network nest order.policy) cert
  pub certificate : IsCertificate nest order.policy cert

-- another bundle has the same source, up to the end of its last line, and this certificate
pub record HasCertificate (bundle other text : List ℕ) : Type 0 where
  pub source : source_part other ≡ with_line_end (source_part bundle)
  pub certificate : certificate_part other ≡ Some text

-- an order to `check` comes to `accepted`, and to nothing else, on a bundle within the limit
abbrev pub Accepts : Order → List ℕ → Type 0
Accepts order bundle =
    order.command ≡ command.Check → length bundle ≤ bundle_limit → (outcome : Outcome)
    → IsOutcome (Some order) bundle outcome ↔ (outcome ≡ accepted)

-- a call with an order, and how it ended
pub record Call : Type 0 where
  pub order : Order
  pub input : Change
  pub output : Change
  pub complaint : Change
  pub status : Status
  pub ended : Ends (Some order) input output complaint status

-- a call to `cert` that had this bundle left to read and wrote this text
pub record WroteCertificate (call : Call) (bundle text : List ℕ) : Type 0 where
  pub command : call.order.command ≡ command.Cert
  pub done : call.status ≡ Done
  pub left : call.input.old ≡ Some bundle
  pub held : List ℕ
  pub before : call.output.old ≡ Some held
  pub after : call.output.new ≡ Some (held ++ text)

-- a call to `check` that had this bundle left to read
pub record ReadCertificate (call : Call) (bundle : List ℕ) : Type 0 where
  pub command : call.order.command ≡ command.Check
  pub left : call.input.old ≡ Some bundle
  pub within : length bundle ≤ bundle_limit
