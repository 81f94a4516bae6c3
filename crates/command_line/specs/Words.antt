-- The words of a call: a command, and then items NAME=VALUE or a number, with a policy among them.
use Rattle.std.specs.Prelude.{◌==◌, ◌&&◌, ℕ, Bool, false, List, [], ◌∷◌, ◌++◌, length, take, drop, Option, Some, None, option_and_then, is_some, nat_le, if◌then◌else◌, codes, ℤ, pos, neg_ℤ}
use Rattle.std.specs.Char.{is_ascii_digit}
use Rattle.std.specs.List.{list_all, before_first, after_first}
use Rattle.std.specs.Option.{option_map}
use Rattle.std.specs.Str.{bytes_eq}
use Rattle.std.specs.Str.Parse.{digits_value}
use Rattle.loop_bind.specs.Names.{value_named}
use Rattle.loop_lex.specs.Lexical.{is_name}
use Rattle.witness_plan.specs.declared.schedules.Policy.{Policy}
use Rattle.witness_plan.specs.declared.schedules.Policy.TheVariants as policy
use Rattle.command_line.specs.declared.words.Command.{Command}
use Rattle.command_line.specs.declared.words.Command.TheVariants.{Run, Seq, Net, Cert, Check, Deps, Vhdl, Load, Sim, Trim, Trace}
use Rattle.command_line.specs.declared.words.Order.{Order}

abbrev pub Text : Type 0
Text = List ℕ

-- the word `--`, which is dropped and after which every word is an item
abbrev pub is_end_of_options : Text → Bool
is_end_of_options word = bytes_eq word (codes "--")

-- a word that begins with `-` and isn't `-` alone
abbrev pub is_option : Text → Bool
is_option [] = false
is_option (first ∷ rest) = (first == 45) && nat_le 1 (length rest)

-- the word `--policy`, whose value is the next word
abbrev pub is_policy_option : Text → Bool
is_policy_option word = bytes_eq word (codes "--policy")

-- a word `--policy=VALUE`
abbrev pub has_policy_value : Text → Bool
has_policy_value word = bytes_eq (take 9 word) (codes "--policy=")

abbrev pub policy_value : Text → Text
policy_value word = drop 9 word

-- the items of the words, and the values that they give the policy
pub record Split : Type 0 where
  pub items : List Text
  pub policies : List Text

abbrev pub with_item : Text → Split → Split
with_item item split = record split { items = item ∷ split.items }

abbrev pub with_policy : Text → Split → Split
with_policy value split = record split { policies = value ∷ split.policies }

abbrev mutual
  -- the words split, or None where a word before `--` is another option, or `--policy` is the last
  pub split_words : List Text → Option Split
  split_words [] = Some (record { items = []; policies = [] })
  split_words (word ∷ words) =
      if is_end_of_options word then Some (record { items = words; policies = [] })
      else (if is_policy_option word then split_value words
      else (if has_policy_value word
      then option_map (with_policy (policy_value word)) (split_words words)
      else (if is_option word then None
      else option_map (with_item word) (split_words words))))

  -- the words after `--policy`
  pub split_value : List Text → Option Split
  split_value [] = None
  split_value (value ∷ words) = option_map (with_policy value) (split_words words)

-- the number that 1 to 18 decimal digits write
abbrev pub number_of : Text → Option ℕ
number_of digits =
    if nat_le 1 (length digits) && (nat_le (length digits) 18 && list_all is_ascii_digit digits)
    then Some (digits_value 10 digits)
    else None

-- the number that 1 to 18 decimal digits write, after an optional `-`
abbrev pub value_of : Text → Option ℤ
value_of [] = None
value_of (first ∷ rest) =
    if first == 45 then option_map (λ n. neg_ℤ (pos n)) (number_of rest)
    else option_map pos (number_of (first ∷ rest))

-- a parameter's name with its value
abbrev pub Param : Type 0
Param = Text × ℤ

-- the name before an item's first `=` with the value after it
abbrev pub param_of : Text → Option Param
param_of item =
    if is_name (before_first (λ byte. byte == 61) item)
    then option_map (λ value. (before_first (λ byte. byte == 61) item, value))
    (value_of (after_first (λ byte. byte == 61) item))
    else None

-- the parameters with those of the items after them, or None where an item gives none or a name stands twice
abbrev pub params_with : List Param → List Text → Option (List Param)
params_with params [] = Some params
params_with params (item ∷ items) =
    option_and_then
    (λ param. if is_some (value_named params param.0) then None
    else params_with (params ++ param ∷ []) items) (param_of item)

abbrev pub command_of : Text → Option Command
command_of word =
    if bytes_eq word (codes "run") then Some Run
    else (if bytes_eq word (codes "seq") then Some Seq
    else (if bytes_eq word (codes "net") then Some Net
    else (if bytes_eq word (codes "cert") then Some Cert
    else (if bytes_eq word (codes "check") then Some Check
    else (if bytes_eq word (codes "deps") then Some Deps
    else (if bytes_eq word (codes "vhdl") then Some Vhdl
    else (if bytes_eq word (codes "load") then Some Load
    else (if bytes_eq word (codes "sim") then Some Sim
    else (if bytes_eq word (codes "trim") then Some Trim
    else (if bytes_eq word (codes "trace") then Some Trace
    else None))))))))))

abbrev pub policy_named : Text → Option Policy
policy_named value =
    if bytes_eq value (codes "seq") then Some policy.Seq
    else (if bytes_eq value (codes "down") then Some policy.Down
    else None)

-- the policy by the values that it is given, of which there is at most one
abbrev pub policy_of : List Text → Option Policy
policy_of [] = Some policy.Seq
policy_of (value ∷ []) = policy_named value
policy_of (value ∷ other ∷ values) = None

-- `load` is followed by one number
abbrev pub load_order : Policy → List Text → Option Order
load_order policy (word ∷ []) =
    option_map (λ count. record { command = Load; policy = policy; params = []; load = count })
    (number_of word)
load_order policy _ = None

-- another command is followed by items
abbrev pub params_order : Policy → Command → List Text → Option Order
params_order policy command items =
    option_map (λ params. record { command = command; policy = policy; params = params; load = 0 })
    (params_with [] items)

-- the order of a command that is followed by these words
abbrev pub order_with : Policy → Command → List Text → Option Order
order_with policy Load words = load_order policy words
order_with policy command words = params_order policy command words

abbrev pub order_of_items : Policy → List Text → Option Order
order_of_items policy [] = None
order_of_items policy (word ∷ words) =
    option_and_then (λ command. order_with policy command words) (command_of word)

abbrev pub order_of_split : Split → Option Order
order_of_split split =
    option_and_then (λ policy. order_of_items policy split.items) (policy_of split.policies)

-- what the words order, or None where they are refused
abbrev pub order_of : List Text → Option Order
order_of words = option_and_then order_of_split (split_words words)
