-- What `check` and `trace` come to where they are done.
use Rattle.std.specs.Prelude.{◌≡◌, ℕ, List, Some}
use Rattle.bundle.specs.Parts.{certificate_part}
use Rattle.command_line.specs.declared.words.Command.TheVariants.{Check, Trace}
use Rattle.command_line.specs.declared.words.Order.{Order}
use Rattle.command_answers.specs.declared.status.Status.TheVariants.{Done}
use Rattle.compaan_top.specs.CheckAnswers.{Accepts}
use Rattle.compaan_top.specs.Headline.{accepted}
use Rattle.call_endings.specs.Outcomes.{Outcome}
use Rattle.compaan_top.specs.Outcome.{IsOutcome}

-- an order to `check` comes to `accepted` on a bundle, whose certificate part is this text
pub record AcceptsText (order : Order) (bundle text : List ℕ) : Type 0 where
  pub command : order.command ≡ Check
  pub outcome : IsOutcome (Some order) bundle accepted
  pub part : certificate_part bundle ≡ Some text

-- an order to `check` comes to `accepted`, and to nothing else, on a bundle within the limit, and the bundle's certificate part
-- is this text
pub record SurelyAccepts (order : Order) (bundle text : List ℕ) : Type 0 where
  pub accepts : Accepts order bundle
  pub part : certificate_part bundle ≡ Some text

-- an order to `trace` comes to this outcome on a bundle, and a run was written
pub record WritesRun (order : Order) (bundle : List ℕ) (written : Outcome) : Type 0 where
  pub command : order.command ≡ Trace
  pub outcome : IsOutcome (Some order) bundle written
  pub done : written.status ≡ Done
