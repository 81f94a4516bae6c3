-- What a reference names: a matter of the scripts alone.
use Rattle.std.specs.Prelude.{◌≡◌, ℕ, zero, suc, pred, if◌then◌else◌, ◌==◌, Option, Some, None, List, [], ◌∷◌, ◌++◌, length, map, take, drop, replicate, slice_get, slice_set, count_by}
use Rattle.std.specs.Option.{option_map, option_and_then}
use Rattle.sanlp.specs.declared.nest.Tag.{Tag}
use Rattle.net_core.specs.declared.refs.Ref.{Ref}
use Rattle.net_core.specs.declared.refs.Ref.TheVariants.{Zero, Slot}
use Rattle.net_core.specs.declared.network.Event.{Event}
use Rattle.net_core.specs.declared.network.Event.TheVariants.{Get, Fire, Put}
use Rattle.net_core.specs.Machine.{Net, Local, State, Rule}
use Rattle.net_core.specs.Shape.{is_get, fires}
use Rattle.net_core.specs.Cuts.{positions, gets_at}

abbrev pub tag : ℕ → ℕ → Tag
tag p f = record { process = p; turn = f }

-- The tokens of a channel

-- one token more where the event at place k of the writer's script is a Put of the channel: its tag is that of the last fire before
abbrev pub with_token : Net → ℕ → ℕ → Option Event → List Tag → List Tag
with_token n c k None tokens = tokens
with_token n c k (Some (Get channel slot)) tokens = tokens
with_token n c k (Some (Fire refs)) tokens = tokens
with_token n c k (Some (Put channel)) tokens =
    if c == channel then tokens ++ tag (n.writer c) (pred (fires n (n.writer c) k)) ∷ [] else tokens

-- the tokens of channel c that its writer puts before place k of its script
abbrev pub tokens_before : Net → ℕ → ℕ → List Tag
tokens_before n c zero = []
tokens_before n c (suc k) =
    with_token n c k (slice_get (n.script (n.writer c)) k) (tokens_before n c k)

abbrev pub tokens : Net → ℕ → List Tag
tokens n c = tokens_before n c (length (n.script (n.writer c)))

-- What lies in the slots

-- the m-th Get of channel c, counted from 0, puts the pair (c, m) into its slot; k is its place in the script of p
abbrev pub with_get : Net → ℕ → ℕ → Option Event → List (Option (ℕ × ℕ)) → List (Option (ℕ × ℕ))
with_get n p k None slots = slots
with_get n p k (Some (Get c slot)) slots =
    slice_set slots slot (Some (c, count_by (is_get c) (take k (n.script p))))
with_get n p k (Some (Fire refs)) slots = slots
with_get n p k (Some (Put c)) slots = slots

-- for each slot of p, its latest Get before place k of p's script: the channel, and which Get of it
abbrev pub latest_gets : Net → ℕ → ℕ → List (Option (ℕ × ℕ))
latest_gets n p zero = replicate (n.slots p) None
latest_gets n p (suc k) = with_get n p k (slice_get (n.script p) k) (latest_gets n p k)

-- the tag of the token that the m-th Get of channel c takes
abbrev pub token_at : Net → ℕ × ℕ → Option Tag
token_at n got = slice_get (tokens n got.0) got.1

-- what the slots of p name before place k of its script
abbrev pub slot_names : Net → ℕ → ℕ → List (Option Tag)
slot_names n p k = map (option_and_then (token_at n)) (latest_gets n p k)

-- What a reference names

pub data Name : Type 0 where
  -- no token: the value 0
  zero_name : Name
  -- a slot that was not filled, or whose Get has no token to take
  empty_name : Name
  token_name : Tag → Name

abbrev pub name_in : Option (Option Tag) → Name
name_in None = empty_name
name_in (Some None) = empty_name
name_in (Some (Some t)) = token_name t

-- what a reference names, where the slots name this
abbrev pub name_of : List (Option Tag) → Ref → Name
name_of slots Zero = zero_name
name_of slots (Slot k) = name_in (slice_get slots k)

-- what a reference of the fire at place k of p's script names
abbrev pub name_at : Net → ℕ → ℕ → Ref → Name
name_at n p k r = name_of (slot_names n p k) r

-- Values of names

-- the values of the first f fires of p
abbrev pub fired : {T : Type 0} → (Tag → T) → ℕ → ℕ → List T
fired v p zero = []
fired v p (suc f) = fired v p f ++ v (tag p f) ∷ []

-- each fire gives its tag's value, where the slots hold the values of what they name
abbrev pub GivesValues : {T : Type 0} → Net → Rule T → (Tag → T) → Type 0
GivesValues n rule v =
    (p k : ℕ) (refs : List Ref) → slice_get (n.script p) k ≡ Some (Fire refs)
    → rule p (fires n p k) refs (map (option_map v) (slot_names n p k)) ≡ v (tag p (fires n p k))

-- a process holds the values of what its slots name, and has kept those of its fires
pub record IsLocalNamed {T : Type 0} (n : Net) (v : Tag → T) (p : ℕ) (l : Local T) : Type 0 where
  pub slots : l.slots ≡ map (option_map v) (slot_names n p l.position)
  pub kept : l.kept ≡ fired v p (fires n p l.position)

-- each process holds the values of what it names, and each queue those of the tokens that were put and not got
pub record IsNamed {T : Type 0} (n : Net) (v : Tag → T) (s : State T) : Type 0 where
  pub locals : (p : ℕ) → IsLocalNamed n v p (s.local p)
  pub queues : (c : ℕ)
      → s.queue c
      ≡ map v (drop (gets_at n (positions s) c) (tokens_before n c (positions s (n.writer c))))
