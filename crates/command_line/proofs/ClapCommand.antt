-- The command as `clap` sees it, and where its walk over the words stands.
use Rattle.std.proofs.Common.{List, Option, Some, None, Bool, true, codes}
use Rattle.clap.specs.Walk.{Rule, Row, Text, Held, Waiting, Walk}
use Rattle.clap.specs.Simple.{App, Shape, new_app, new_rule, with_rule, on_top, built}
use Rattle.clap.specs.declared.builder.action.ArgAction.TheVariants.{Set, Append}

abbrev pub policy_rule : Rule
policy_rule = record (new_rule (codes "policy")) { long = Some (codes "policy"); action = Some Set }

abbrev pub items_rule : Rule
items_rule = record (new_rule (codes "items")) { action = Some Append }

abbrev pub settings : Shape → Shape
settings shape = record shape { no_binary_name = true; disable_help_flag = true; disable_version_flag = true }

abbrev pub app : App
app = with_rule (with_rule (on_top settings (new_app (codes "compaan"))) policy_rule) items_rule

abbrev pub shape : Shape
shape = (built app).top

abbrev pub rules : List Rule
rules = shape.rules

-- what is held between two words: the rows so far, and the argument whose values are being read
abbrev pub held : List Row → Option (Text × List Text) → Held
held rows pending = record { rows = rows; pending = pending; skip = 0 }

abbrev pub at : List Row → Option (Text × List Text) → Waiting → Bool → Walk
at rows pending waiting trailing =
    record { held = held rows pending; waiting = waiting; position = 1; is_trailing = trailing; stopped = None }
