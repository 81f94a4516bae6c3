-- The words of a call of `compaan_rtl`: items NAME=VALUE, with a policy, how ports take turns, and a flag among them. Words are of
-- the kinds that the program `compaan` knows, but for `--ports`, for `--clocks` and for the policy `least`.
use Rattle.std.specs.Prelude.{Bool, true, false, ◌≡◌, List, [], ◌∷◌, take, drop, Option, Some, None, Result, Ok, Err, option_and_then, if◌then◌else◌, codes}
use Rattle.std.specs.Option.{option_map}
use Rattle.std.specs.Str.{bytes_eq}
use Rattle.command_line.specs.Words as first
use Rattle.command_line.specs.declared.words.WordsError.{WordsError}
use Rattle.command_line.specs.declared.words.WordsError.TheVariants.{Words, Memory}
use Rattle.command_line.specs.Words.{Text, has_policy_value, is_end_of_options, is_policy_option, params_with, policy_value}
use Rattle.rtl_line.specs.declared.words.Kind.{Kind}
use Rattle.rtl_line.specs.declared.words.Kind.TheVariants.{Dashes, Policy, PolicyValue, Ports, PortsValue, Clocks, Unknown, Item}
use Rattle.rtl_line.specs.declared.words.Order.{Order}
use Rattle.rtl_line.specs.declared.words.Policy.TheVariants as policy
use Rattle.rtl_line.specs.declared.words.Policy as any
use Rattle.rtl_line.specs.declared.words.Ports.TheVariants.{One, All}
use Rattle.rtl_line.specs.declared.words.Ports as turns

-- a word that begins with `-` and isn't `-` alone
abbrev pub is_option : Text → Bool
is_option word = first.is_option word

-- the word `--ports`, whose value is the next word, or a word `--ports=VALUE`
abbrev pub is_ports_option : Text → Bool
is_ports_option word = bytes_eq word (codes "--ports")

abbrev pub has_ports_value : Text → Bool
has_ports_value word = bytes_eq (take 8 word) (codes "--ports=")

abbrev pub ports_value : Text → Text
ports_value word = drop 8 word

-- what a word before the first `--` is
abbrev pub kind_of : Text → Kind
kind_of word =
    if is_end_of_options word then Dashes
    else (if is_policy_option word then Policy
    else (if has_policy_value word then PolicyValue
    else (if is_ports_option word then Ports
    else (if has_ports_value word then PortsValue
    else (if bytes_eq word (codes "--clocks") then Clocks
    else (if is_option word then Unknown
    else Item))))))

-- the items of the words, the values that they give the policy and the ports, and whether `--clocks` is among them
pub record Split : Type 0 where
  pub items : List Text
  pub policies : List Text
  pub ports : List Text
  pub clocks : Bool

abbrev pub with_item : Text → Split → Split
with_item item split = record split { items = item ∷ split.items }

abbrev pub with_policy : Text → Split → Split
with_policy value split = record split { policies = value ∷ split.policies }

abbrev pub with_ports : Text → Split → Split
with_ports value split = record split { ports = value ∷ split.ports }

abbrev pub with_clocks : Split → Split
with_clocks split = record split { clocks = true }

-- A word with those behind it: these as they stand, split, and split as words that begin with a value of the policy, or with one
-- of the ports.
pub record Front : Type 0 where
  pub word : Text
  pub words : List Text
  pub split : Option Split
  pub policy_first : Option Split
  pub ports_first : Option Split

-- the words split, by what the first of them is
abbrev pub split_front : Kind → Front → Option Split
split_front Dashes front =
    Some (record { items = front.words; policies = []; ports = []; clocks = false })
split_front Policy front = front.policy_first
split_front PolicyValue front = option_map (with_policy (policy_value front.word)) front.split
split_front Ports front = front.ports_first
split_front PortsValue front = option_map (with_ports (ports_value front.word)) front.split
split_front Clocks front = option_map with_clocks front.split
split_front Unknown front = None
split_front Item front = option_map (with_item front.word) front.split

abbrev mutual
  -- the words split, or None where a word before `--` is another option, or `--policy` or `--ports` is the last
  pub split_words : List Text → Option Split
  split_words [] = Some (record { items = []; policies = []; ports = []; clocks = false })
  split_words (word ∷ words) = split_front (kind_of word) (record {
    word = word;
    words = words;
    split = split_words words;
    policy_first = split_policy words;
    ports_first = split_ports words;
  })

  -- the words after `--policy`
  pub split_policy : List Text → Option Split
  split_policy [] = None
  split_policy (value ∷ words) = option_map (with_policy value) (split_words words)

  -- the words after `--ports`
  pub split_ports : List Text → Option Split
  split_ports [] = None
  split_ports (value ∷ words) = option_map (with_ports value) (split_words words)

abbrev pub policy_named : Text → Option any.Policy
policy_named value =
    if bytes_eq value (codes "seq") then Some policy.Seq
    else (if bytes_eq value (codes "down") then Some policy.Down
    else (if bytes_eq value (codes "least") then Some policy.Least
    else None))

-- the policy by the values that it is given, of which there is at most one
abbrev pub policy_of : List Text → Option any.Policy
policy_of [] = Some policy.Seq
policy_of (value ∷ []) = policy_named value
policy_of (value ∷ other ∷ values) = None

abbrev pub ports_named : Text → Option turns.Ports
ports_named value =
    if bytes_eq value (codes "one") then Some One
    else (if bytes_eq value (codes "all") then Some All
    else None)

-- how ports take turns, by the values that are given, of which there is at most one
abbrev pub ports_of : List Text → Option turns.Ports
ports_of [] = Some One
ports_of (value ∷ []) = ports_named value
ports_of (value ∷ other ∷ values) = None

abbrev pub order_of_split : Split → Option Order
order_of_split split =
    option_and_then
    (λ wanted. option_and_then
    (λ ports. option_map
    (λ params. record { policy = wanted; ports = ports; clocks = split.clocks; params = params })
    (params_with [] split.items)) (ports_of split.ports)) (policy_of split.policies)

-- what the words order, or None where they are refused
abbrev pub order_of : List Text → Option Order
order_of words = option_and_then order_of_split (split_words words)

-- their order was read, or they are refused, or memory was wanting
abbrev pub ReadsOrder : Option Order → Result Order WordsError → Type 0
ReadsOrder wanted (Ok order) = wanted ≡ Some order
ReadsOrder wanted (Err Words) = wanted ≡ None
ReadsOrder wanted (Err Memory) = Unit {0}
