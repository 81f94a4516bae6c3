-- One step of `clap`'s walk, at a word that isn't known.
--
-- Each turn of the walk has two results, the next state and the fault of the turn. Both are computed for each kind of
-- word and each kind of state: nothing waits for a value, `--policy` waits for one, or `--` was read. Of the word only
-- those tests are known that the walk makes of it (`IsPlain`, `IsUnknown`), so each of its branches is followed by
-- rewriting with them. Which word is of which kind is told in `WordCases`.
use Rattle.std.proofs.Common.{◌≡◌, ℕ, refl, codes, true, false, List, [], ◌∷◌, ◌++◌, Some, None, Option}
use Rattle.std.specs.Str.{bytes_eq, chars}
use Rattle.std.proofs.lemmas.Bool.{and_right}
use Rattle.clap.specs.Lexer.{long_of, short_of}
use Rattle.clap.specs.Walk.{Text, Row, Waiting, Walk, idle, positional, option, walked, settled_rows, arg_by_long}
use Rattle.clap.specs.Kinds.{Kinds, or_else}
use Rattle.clap.specs.Faults.{turn_fault, settle_fault}
use Rattle.clap.specs.declared.error.kind.ErrorKind.TheVariants as kind
use Rattle.clap.proofs.OnLiterals.{clap_on_literals}
use Rattle.command_line.proofs.ClapCommand.{shape, rules, at, held}

pub or_else-nil : (kinds : Kinds) → or_else kinds [] ≡ kinds
or_else-nil [] = refl
or_else-nil (k ∷ ks) = refl

-- nothing waits for a value
pub data IsFree : Waiting → Type 0 where
  when_idle : IsFree idle
  when_positional : IsFree positional

-- the word names no short option; what isn't text may have no first character
pub data NamesNoShort (word : Text) : Type 0 where
  no_dash : short_of word ≡ None → NamesNoShort word
  no_char : (flags : Text) → short_of word ≡ Some flags → chars flags ≡ [] → NamesNoShort word

pub record IsPlain (word : Text) : Type 0 where
  pub dashes : bytes_eq word (45 ∷ 45 ∷ []) ≡ false
  pub long : long_of word ≡ None
  pub short : NamesNoShort word

-- the word names an option that isn't there
pub data IsUnknown (word : Text) : Type 0 where
  unknown_long : (name : Text) (value : Option Text) → long_of word ≡ Some (name, value) → arg_by_long rules name ≡ None
      → IsUnknown word
  unknown_short : (flags : Text) (c : ℕ) (cs : List ℕ) → long_of word ≡ None → short_of word ≡ Some flags
      → chars flags ≡ c ∷ cs → IsUnknown word

module _ (rows : List Row) where
  -- a plain word is an item of its own
  pub plain_step : (pending : Option (Text × List Text)) (waiting : Waiting) → IsFree waiting → (word : Text)
      → IsPlain word
      → walked rules [] (at rows pending waiting false) word
      ≡ at (settled_rows rules pending rows) (Some (codes "items", word ∷ [])) positional false
  unfolding clap_on_literals
  plain_step pending waiting free word plain = go pending waiting free plain.short
    where
      go : (pending : Option (Text × List Text)) (waiting : Waiting) → IsFree waiting → NamesNoShort word
          → walked rules [] (at rows pending waiting false) word
          ≡ at (settled_rows rules pending rows) (Some (codes "items", word ∷ [])) positional false
      go None waiting when_idle (no_dash short) = rw (plain.dashes, plain.long, short) refl
      go (Some p) waiting when_idle (no_dash short) =
          rw (plain.dashes, plain.long, short, and_right (bytes_eq p.0 (codes "items")) false refl) refl
      go None waiting when_positional (no_dash short) = rw (plain.dashes, plain.long, short) refl
      go (Some p) waiting when_positional (no_dash short) =
          rw (plain.dashes, plain.long, short, and_right (bytes_eq p.0 (codes "items")) false refl) refl
      go None waiting when_idle (no_char [] short none) = rw (plain.dashes, plain.long, short) refl
      go (Some p) waiting when_idle (no_char [] short none) =
          rw (plain.dashes, plain.long, short, and_right (bytes_eq p.0 (codes "items")) false refl) refl
      go None waiting when_positional (no_char [] short none) = rw (plain.dashes, plain.long, short) refl
      go (Some p) waiting when_positional (no_char [] short none) =
          rw (plain.dashes, plain.long, short, and_right (bytes_eq p.0 (codes "items")) false refl) refl
      go None waiting when_idle (no_char (y ∷ ys) short none) = rw (plain.dashes, plain.long, short, none) refl
      go (Some p) waiting when_idle (no_char (y ∷ ys) short none) =
          rw (plain.dashes, plain.long, short, none, and_right (bytes_eq p.0 (codes "items")) false refl) refl
      go None waiting when_positional (no_char (y ∷ ys) short none) = rw (plain.dashes, plain.long, short, none) refl
      go (Some p) waiting when_positional (no_char (y ∷ ys) short none) =
          rw (plain.dashes, plain.long, short, none, and_right (bytes_eq p.0 (codes "items")) false refl) refl

  pub plain_fault : (pending : Option (Text × List Text)) (waiting : Waiting) → IsFree waiting → (word : Text)
      → IsPlain word
      → turn_fault shape [] (at rows pending waiting false) word ≡ settle_fault rules false (held rows pending)
  unfolding clap_on_literals
  plain_fault pending waiting free word plain = go pending waiting free plain.short
    where
      go : (pending : Option (Text × List Text)) (waiting : Waiting) → IsFree waiting → NamesNoShort word
          → turn_fault shape [] (at rows pending waiting false) word ≡ settle_fault rules false (held rows pending)
      go None waiting when_idle (no_dash short) = rw (plain.dashes, plain.long, short) refl
      go None waiting when_idle (no_char [] short none) = rw (plain.dashes, plain.long, short) refl
      go None waiting when_idle (no_char (y ∷ ys) short none) = rw (plain.dashes, plain.long, short, none) refl
      go None waiting when_positional (no_dash short) = rw (plain.dashes, plain.long, short) refl
      go None waiting when_positional (no_char [] short none) = rw (plain.dashes, plain.long, short) refl
      go None waiting when_positional (no_char (y ∷ ys) short none) = rw (plain.dashes, plain.long, short, none) refl
      go (Some p) waiting when_idle (no_dash short) =
          rw (plain.dashes, plain.long, short, and_right (bytes_eq p.0 (codes "items")) false refl) refl
      go (Some p) waiting when_idle (no_char [] short none) =
          rw (plain.dashes, plain.long, short, and_right (bytes_eq p.0 (codes "items")) false refl) refl
      go (Some p) waiting when_idle (no_char (y ∷ ys) short none) =
          rw (plain.dashes, plain.long, short, none, and_right (bytes_eq p.0 (codes "items")) false refl) refl
      go (Some p) waiting when_positional (no_dash short) =
          rw (plain.dashes, plain.long, short, and_right (bytes_eq p.0 (codes "items")) false refl) refl
      go (Some p) waiting when_positional (no_char [] short none) =
          rw (plain.dashes, plain.long, short, and_right (bytes_eq p.0 (codes "items")) false refl) refl
      go (Some p) waiting when_positional (no_char (y ∷ ys) short none) =
          rw (plain.dashes, plain.long, short, none, and_right (bytes_eq p.0 (codes "items")) false refl) refl

  -- an option that isn't there is refused
  pub unknown_fault : (pending : Option (Text × List Text)) (waiting : Waiting) (word : Text)
      → bytes_eq word (45 ∷ 45 ∷ []) ≡ false → IsUnknown word
      → turn_fault shape [] (at rows pending waiting false) word ≡ kind.UnknownArgument ∷ []
  unfolding clap_on_literals
  unknown_fault pending idle word dashes (unknown_long name value long none) = rw (dashes, long, none) refl
  unknown_fault pending positional word dashes (unknown_long name value long none) = rw (dashes, long, none) refl
  unknown_fault pending (option id) word dashes (unknown_long name value long none) = rw (dashes, long, none) refl
  unknown_fault pending idle word dashes (unknown_short [] c cs long short some) = cc
  unknown_fault pending positional word dashes (unknown_short [] c cs long short some) = cc
  unknown_fault pending (option id) word dashes (unknown_short [] c cs long short some) = cc
  unknown_fault pending idle word dashes (unknown_short (y ∷ ys) c cs long short some) =
      rw (dashes, long, short, some) refl
  unknown_fault pending positional word dashes (unknown_short (y ∷ ys) c cs long short some) =
      rw (dashes, long, short, some) refl
  unknown_fault pending (option id) word dashes (unknown_short (y ∷ ys) c cs long short some) =
      rw (dashes, long, short, some) refl

  -- `--policy=VALUE`
  pub assigned_step : (pending : Option (Text × List Text)) (waiting : Waiting) (v : Text)
      → walked rules [] (at rows pending waiting false) (codes "--policy=" ++ v)
      ≡ at (settled_rows rules (Some (codes "policy", v ∷ [])) (settled_rows rules pending rows)) None idle false
  unfolding clap_on_literals
  assigned_step pending idle v = refl
  assigned_step pending positional v = refl
  assigned_step pending (option id) v = refl

  pub assigned_fault : (pending : Option (Text × List Text)) (waiting : Waiting) (v : Text)
      → turn_fault shape [] (at rows pending waiting false) (codes "--policy=" ++ v)
      ≡ or_else (settle_fault rules false (held rows pending))
      (settle_fault rules false (held (settled_rows rules pending rows) (Some (codes "policy", v ∷ []))))
  unfolding clap_on_literals
  assigned_fault pending idle v = or_else-nil _
  assigned_fault pending positional v = or_else-nil _
  assigned_fault pending (option id) v = or_else-nil _

-- behind `--` every word is an item
pub trailing_step : (rows : List Row) (pending : Option (Text × List Text)) (waiting : Waiting) (word : Text)
    → walked rules [] (at rows pending waiting true) word
    ≡ at (settled_rows rules pending rows) (Some (codes "items", word ∷ [])) positional true
unfolding clap_on_literals
trailing_step rows None waiting word = refl
trailing_step rows (Some p) waiting word = rw (and_right (bytes_eq p.0 (codes "items")) false refl) refl

pub trailing_fault : (rows : List Row) (pending : Option (Text × List Text)) (waiting : Waiting) (word : Text)
    → turn_fault shape [] (at rows pending waiting true) word ≡ settle_fault rules false (held rows pending)
unfolding clap_on_literals
trailing_fault rows None waiting word = refl
trailing_fault rows (Some p) waiting word = rw (and_right (bytes_eq p.0 (codes "items")) false refl) refl

pub dashes_step : (rows : List Row) (pending : Option (Text × List Text)) (waiting : Waiting) → IsFree waiting
    → walked rules [] (at rows pending waiting false) (codes "--") ≡ at rows pending waiting true
unfolding clap_on_literals
dashes_step rows pending waiting when_idle = refl
dashes_step rows pending waiting when_positional = refl

pub dashes_fault : (rows : List Row) (pending : Option (Text × List Text)) (waiting : Waiting) → IsFree waiting
    → turn_fault shape [] (at rows pending waiting false) (codes "--") ≡ []
unfolding clap_on_literals
dashes_fault rows pending waiting when_idle = refl
dashes_fault rows pending waiting when_positional = refl

-- `--policy`
pub policy_step : (rows : List Row) (pending : Option (Text × List Text)) (waiting : Waiting) → IsFree waiting
    → walked rules [] (at rows pending waiting false) (codes "--policy")
    ≡ at (settled_rows rules pending rows) (Some (codes "policy", [])) (option (codes "policy")) false
unfolding clap_on_literals
policy_step rows pending waiting when_idle = refl
policy_step rows pending waiting when_positional = refl

pub policy_fault : (rows : List Row) (pending : Option (Text × List Text)) (waiting : Waiting) → IsFree waiting
    → turn_fault shape [] (at rows pending waiting false) (codes "--policy")
    ≡ settle_fault rules false (held rows pending)
unfolding clap_on_literals
policy_fault rows pending waiting when_idle = or_else-nil _
policy_fault rows pending waiting when_positional = or_else-nil _

-- `--policy` waits for its value
abbrev pub waiting_at : List Row → Walk
waiting_at rows = at rows (Some (codes "policy", [])) (option (codes "policy")) false

module _ (rows : List Row) where
  pub value_step : (word : Text) → IsPlain word
      → walked rules [] (waiting_at rows) word ≡ at rows (Some (codes "policy", word ∷ [])) idle false
  unfolding clap_on_literals
  value_step word plain = go plain.short
    where
      go : NamesNoShort word
          → walked rules [] (waiting_at rows) word ≡ at rows (Some (codes "policy", word ∷ [])) idle false
      go (no_dash short) = rw (plain.dashes, plain.long, short) refl
      go (no_char [] short none) = rw (plain.dashes, plain.long, short) refl
      go (no_char (y ∷ ys) short none) = rw (plain.dashes, plain.long, short, none) refl

  pub value_fault : (word : Text) → IsPlain word → turn_fault shape [] (waiting_at rows) word ≡ []
  unfolding clap_on_literals
  value_fault word plain = go plain.short
    where
      go : NamesNoShort word → turn_fault shape [] (waiting_at rows) word ≡ []
      go (no_dash short) = rw (plain.dashes, plain.long, short) refl
      go (no_char [] short none) = rw (plain.dashes, plain.long, short) refl
      go (no_char (y ∷ ys) short none) = rw (plain.dashes, plain.long, short, none) refl

  -- without a value it is refused
  pub no_value_fault : settle_fault rules false (held rows (Some (codes "policy", []))) ≡ kind.InvalidValue ∷ []
  unfolding clap_on_literals
  no_value_fault = refl

  pub value_dashes_step : walked rules [] (waiting_at rows) (codes "--")
      ≡ at rows (Some (codes "policy", [])) (option (codes "policy")) true
  unfolding clap_on_literals
  value_dashes_step = refl

  pub value_dashes_fault : turn_fault shape [] (waiting_at rows) (codes "--") ≡ []
  unfolding clap_on_literals
  value_dashes_fault = refl

  pub value_policy_fault : turn_fault shape [] (waiting_at rows) (codes "--policy") ≡ kind.InvalidValue ∷ []
  unfolding clap_on_literals
  value_policy_fault = refl

  pub value_assigned_fault : (v : Text)
      → turn_fault shape [] (waiting_at rows) (codes "--policy=" ++ v) ≡ kind.InvalidValue ∷ []
  unfolding clap_on_literals
  value_assigned_fault v = refl
