-- What other capacities leave as it is.
--
-- By induction on the channels their number stays, and so do both ends of each, whether the list of capacities is
-- shorter than they are or longer (`reader_kept`, `writer_kept`). So to the machine only the capacities have
-- changed (`net_kept`), and nothing by which a network is wired names a capacity (`wired_at`). What runs there are
-- does change.
use Rattle.std.proofs.Common.{◌≡◌, ℕ, zero, suc, List, [], ◌∷◌, length, slice_get, refl, sym, ap, ◌∙◌, subst}
use Rattle.std.specs.Option.{option_map_or}
use mathlib.Core.Path.{fun_ext}
use Rattle.net_core.specs.declared.network.Channel.{Channel}
use Rattle.net_core.specs.declared.network.Network.{Network}
use Rattle.net_core.specs.Machine.{Net, net_of}
use Rattle.net_core.specs.Shape.{IsWired}
use Rattle.witness_plan.specs.Sequential.{channels_with, with_capacities}

pub reader_kept : (channels : List Channel) (capacities : List ℕ) (c : ℕ)
    → option_map_or (λ (x : Channel). x.reader) (slice_get (channels_with channels capacities) c) 0
    ≡ option_map_or (λ (x : Channel). x.reader) (slice_get channels c) 0
reader_kept [] capacities c = refl
reader_kept (x ∷ channels) [] zero = refl
reader_kept (x ∷ channels) [] (suc c) = reader_kept channels [] c
reader_kept (x ∷ channels) (y ∷ capacities) zero = refl
reader_kept (x ∷ channels) (y ∷ capacities) (suc c) = reader_kept channels capacities c

pub writer_kept : (channels : List Channel) (capacities : List ℕ) (c : ℕ)
    → option_map_or (λ (x : Channel). x.writer) (slice_get (channels_with channels capacities) c) 0
    ≡ option_map_or (λ (x : Channel). x.writer) (slice_get channels c) 0
writer_kept [] capacities c = refl
writer_kept (x ∷ channels) [] zero = refl
writer_kept (x ∷ channels) [] (suc c) = writer_kept channels [] c
writer_kept (x ∷ channels) (y ∷ capacities) zero = refl
writer_kept (x ∷ channels) (y ∷ capacities) (suc c) = writer_kept channels capacities c

pub length-channels_with : (channels : List Channel) (capacities : List ℕ)
    → length (channels_with channels capacities) ≡ length channels
length-channels_with [] capacities = refl
length-channels_with (x ∷ channels) [] = ap suc (length-channels_with channels [])
length-channels_with (x ∷ channels) (y ∷ capacities) = ap suc (length-channels_with channels capacities)

same_net : (n : Net) (channels : ℕ) (writer reader : ℕ → ℕ) → channels ≡ n.channels → writer ≡ n.writer
    → reader ≡ n.reader
    → (let a : Net = record n { channels = channels; writer = writer; reader = reader } in a) ≡ n
same_net n channels writer reader e f g =
    ap (λ (x : ℕ). let a : Net = record n { channels = x; writer = writer; reader = reader } in a) e
    ∙ ap (λ (x : ℕ → ℕ). let a : Net = record n { writer = x; reader = reader } in a) f
    ∙ ap (λ (x : ℕ → ℕ). let a : Net = record n { reader = x } in a) g

-- the machine takes the same of a network with other capacities, but for these
pub net_kept : (network : Network) (capacities : List ℕ)
    → net_of (with_capacities network capacities)
    ≡ record (net_of network) { capacity = (net_of (with_capacities network capacities)).capacity }
net_kept network capacities =
    same_net (record (net_of network) { capacity = (net_of (with_capacities network capacities)).capacity })
    (length (channels_with network.channels capacities)) (net_of (with_capacities network capacities)).writer
    (net_of (with_capacities network capacities)).reader
    (length-channels_with network.channels capacities) (fun_ext (writer_kept network.channels capacities))
    (fun_ext (reader_kept network.channels capacities))

pub wired_at : (n : Net) (capacity : ℕ → ℕ) → IsWired n → IsWired (record n { capacity = capacity })
wired_at n capacity w = record {
  bounded = w.bounded;
  writers = w.writers;
  readers = w.readers;
  get_channel = w.get_channel;
  get_reader = w.get_reader;
  get_slot = w.get_slot;
  put_channel = w.put_channel;
  put_writer = w.put_writer;
  put_fired = w.put_fired;
  reference_slots = w.reference_slots;
}

-- a network stays wired
pub wired_kept : (network : Network) (capacities : List ℕ) → IsWired (net_of network)
    → IsWired (net_of (with_capacities network capacities))
wired_kept network capacities w =
    subst IsWired (sym (net_kept network capacities))
    (wired_at (net_of network) (net_of (with_capacities network capacities)).capacity w)
