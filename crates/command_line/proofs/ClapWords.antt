-- What `clap` makes of all the words.
--
-- The whole of what `clap` does is its walk, then the keeping of the last value, subcommands, defaults and a check.
-- This program has no subcommand, no default and nothing to check, so nothing of these adds a row or a fault, and what
-- `ClapWalk` says of the walk holds of the whole. So an answer with matches has the order of its matches, and one with
-- an error has none, unless memory was wanting.
use Rattle.std.proofs.Common.{◌≡◌, ◌||◌, refl, sym, ap, true, false, List, [], Some, None, Option, Bool, Result, Ok, Err, IfOk, IfErr, ◌≢◌, inl, inr, ap₂, subst, unwrap_or, codes, fold, is_some, if◌then◌else◌, ◌∙◌}
use Rattle.std.specs.List.{cons_option}
use Rattle.std.proofs.lemmas.Bool.{or_right}
use Rattle.clap.specs.Matches.{found_of}
use Rattle.clap.specs.Values.{kind_of}
use Rattle.clap.specs.declared.error.Error.{Error}
use Rattle.clap.specs.declared.error.kind.ErrorKind.TheVariants.{OutOfMemory}
use Rattle.clap.specs.declared.parser.matches.ArgMatches.{ArgMatches}
use Rattle.clap.specs.declared.parser.matches.Found.{Found}
use Rattle.clap.proofs.OnLiterals.{clap_on_literals}
use Rattle.clap.proofs.WalkLemmas.{first_value-rows, raw_values-rows}
use Rattle.clap.specs.Walk.{Held, Row, Text, has_row, rows_of, walk, nothing_held, with_default, finished, settled}
use Rattle.clap.specs.Simple.{HasMatchesOf, built, entered, filled, is_simple, matches_of, with_index}
use Rattle.clap.specs.Kinds.{FailsBy, IsAmong, Kinds, or_else}
use Rattle.clap.specs.Faults.{fault_of, is_simple_and_free, entered_fault, defaults_fault, check_fault, settle_fault, walk_fault}
use Rattle.command_line.specs.Matches.{split_found}
use Rattle.command_line.specs.Words.{Split, order_of, order_of_split}
use Rattle.command_line.proofs.ClapCommand.{app, shape, rules, items_rule, policy_rule}
use Rattle.command_line.proofs.ClapSteps.{or_else-nil}
use Rattle.command_line.proofs.ClapWalk.{split_of, fault_from, rows_from, start, reads}

pub free : is_simple_and_free app ≡ true
unfolding clap_on_literals
free = refl

simple : is_simple app ≡ true
unfolding clap_on_literals
simple = refl

no_subcommand_fault : (stop : Option (Text × List Text)) → entered_fault (built app) stop ≡ []
no_subcommand_fault None = refl
no_subcommand_fault (Some p) = refl

no_default_fault : (rows : List Row) → defaults_fault rows rules ≡ []
unfolding defaults_fault
no_default_fault rows =
    rw (
      or_right (has_row (codes "policy") rows) true refl,
      or_right (has_row (codes "items") (with_default rows (with_index 1 (filled policy_rule)))) true refl,
    ) refl

no_check_fault : (rows : List Row) (entered : Bool) → check_fault shape rows entered ≡ []
no_check_fault rows true = refl
no_check_fault rows false = refl

same_rows : (b : Bool) (rows : List Row) → (if b then rows else rows) ≡ rows
same_rows true rows = refl
same_rows false rows = refl

no_defaults : (rows : List Row) → fold with_default rows rules ≡ rows
no_defaults rows =
    ap (λ (rs : List Row). with_default rs (with_index 1 (filled items_rule)))
    (same_rows (has_row (codes "policy") rows) rows) ∙ same_rows (has_row (codes "items") rows) rows

module _ (words : List Text) where
  abbrev end : Held
  end = (walk rules [] nothing_held words).held

  abbrev stop : Option (Text × List Text)
  stop = (walk rules [] nothing_held words).stopped

  rows-are : matches_of app words ≡ rows_from start words
  rows-are = no_defaults (settled rules end).rows

  fault-is : fault_of app words ≡ fault_from start words
  fault-is =
      let kept : Kinds = settle_fault rules false end in
      let checked : Kinds = check_fault shape (finished rules end) (is_some (entered (built app) stop)) in
      let defaults : Kinds = defaults_fault (settled rules end).rows rules in
      ap (or_else (walk_fault shape [] start words)) (
      ap (λ (kinds : Kinds). or_else kinds (or_else kept (or_else defaults checked))) (no_subcommand_fault stop)
      ∙ ap (λ (kinds : Kinds). or_else kept (or_else kinds checked)) (no_default_fault (settled rules end).rows)
      ∙ ap (or_else kept) (no_check_fault (finished rules end) (is_some (entered (built app) stop)))
      ∙ or_else-nil kept)

  -- words without a fault order what is found in them
  pub order-found : fault_of app words ≡ [] → order_of words ≡ order_of_split (split_of (matches_of app words))
  order-found none =
      (reads words).taken (sym fault-is ∙ none)
      ∙ ap (λ (rows : List Row). order_of_split (split_of rows)) (sym rows-are)

  -- and words with one are refused
  pub no_order : (fault_of app words ≡ [] → ⊥) → order_of words ≡ None
  no_order fails = (reads words).refused (λ none. fails (fault-is ∙ none))

split_of-found : (found : Found) → split_of (rows_of found) ≡ split_found found
split_of-found found =
    ap₂ (λ (items : Option (List Text))
    (policy : Option Text). let split : Split =
    record { items = unwrap_or items []; policies = cons_option policy [] } in split)
    (sym (raw_values-rows found (codes "items"))) (sym (first_value-rows found (codes "policy")))

-- the same of what `clap` answers
pub ordered : (words : List Text) (answer : Result ArgMatches Error) → FailsBy (fault_of app words) answer
    → IfOk answer (HasMatchesOf app words)
    → IfOk answer (λ matches. order_of words ≡ order_of_split (split_found (found_of matches)))
ordered words (Ok matches) none has =
    order-found words none ∙ ap order_of_split (ap split_of (sym (has simple).0) ∙ split_of-found (found_of matches))
ordered words (Err error) fails has = tt

pub refused : (words : List Text) (answer : Result ArgMatches Error) → FailsBy (fault_of app words) answer
    → IfErr answer (λ error. kind_of error ≢ OutOfMemory → order_of words ≡ None)
refused words (Ok matches) none = tt
refused words (Err error) (inl memory) = λ other. absurd (other memory)
refused words (Err error) (inr among) = λ other. no_order words (λ none. subst (IsAmong (kind_of error)) none among)
