-- A nest's network fits the nest with whatever capacities some schedule ends all.
--
-- Of what the checker asks only the schedule depends on capacities. Shape, names and uses are read off the scripts and
-- the channels' ends, so they stay when capacities change; each of these is one induction along a script. What is left
-- is given: that the network fits with the numbers of its tokens, that the certificate's trees are usable, and that
-- some schedule ends all with the new capacities. So a new policy has to prove nothing but its schedule.
use Rattle.std.proofs.Common.{◌≡◌, ◌∙◌, ◌<◌, ℕ, zero, suc, Option, Some, None, List, [], ◌∷◌, ◌++◌, length, map}
use Rattle.std.proofs.Common.{slice_get, replicate, refl, sym, ap, subst}
use Rattle.std.specs.Option.{option_and_then}
use mathlib.Core.Path.{fun_ext}
use Rattle.channel_class.specs.Classes.{class_of}
use Rattle.net_checker.specs.Fits.{Fits}
use Rattle.net_checker.specs.Shapes.{read_total}
use Rattle.net_checker.specs.Sources.{AreUsable}
use Rattle.net_checker.proofs.FitsNames.{last_are_wanted}
use Rattle.net_core.specs.declared.network.Channel.{Channel}
use Rattle.net_core.specs.declared.network.Network.{Network}
use Rattle.net_core.specs.declared.refs.Ref.{Ref}
use Rattle.net_core.specs.declared.refs.Ref.TheVariants.{Zero, Slot}
use Rattle.net_core.specs.Machine.{Net, net_of}
use Rattle.net_core.specs.Names.{latest_gets, name_at, name_in, slot_names, token_at, tokens_before, with_get}
use Rattle.net_core.specs.Names.{with_token}
use Rattle.net_core.specs.Orders.{EndsAll}
use Rattle.net_core.specs.Rules.{tags}
use Rattle.net_core.specs.Shape.{IsWired}
use Rattle.net_core.specs.Sound.{FitsNest, NamesLastWriters}
use Rattle.net_core.specs.Uses.{uses, uses_before, uses_of}
use Rattle.sanlp.specs.Access.{read_count}
use Rattle.sanlp.specs.declared.nest.Nest.{Nest}
use Rattle.sanlp.specs.declared.nest.Tag.{Tag}
use Rattle.source_tree.specs.declared.cert.Cert.{Cert}
use Rattle.source_tree.specs.declared.cert.Origin.TheVariants as origin
use Rattle.source_tree.specs.declared.tree.Tree.{Tree}
use Rattle.source_tree.specs.Sources.{read_number}
use Rattle.witness_plan.specs.Sequential.{channels_with, with_capacities}

-- Names and uses without the capacities

module _ (n : Net) (room : ℕ → ℕ) where
  latest_same : (p k : ℕ) → latest_gets (record n { capacity = room }) p k ≡ latest_gets n p k
  latest_same p zero = refl
  latest_same p (suc k) = ap (with_get n p k (slice_get (n.script p) k)) (latest_same p k)

  before_same : (c k : ℕ) → tokens_before (record n { capacity = room }) c k ≡ tokens_before n c k
  before_same c zero = refl
  before_same c (suc k) = ap (with_token n c k (slice_get (n.script (n.writer c)) k)) (before_same c k)

  token_same : (got : ℕ × ℕ) → token_at (record n { capacity = room }) got ≡ token_at n got
  token_same got = ap (λ ts. slice_get ts got.1) (before_same got.0 (length (n.script (n.writer got.0))))

  slots_same : (p k : ℕ) → slot_names (record n { capacity = room }) p k ≡ slot_names n p k
  slots_same p k =
      ap (map (option_and_then (token_at (record n { capacity = room })))) (latest_same p k)
      ∙ ap (λ (t : ℕ × ℕ → Option Tag). map (option_and_then t) (latest_gets n p k)) (fun_ext token_same)

  name_same : (p k : ℕ) (r : Ref) → name_at (record n { capacity = room }) p k r ≡ name_at n p k r
  name_same p k Zero = refl
  name_same p k (Slot j) = ap (λ names. name_in (slice_get names j)) (slots_same p k)

  along_same : (c p k : ℕ) → uses_before (record n { capacity = room }) c p k ≡ uses_before n c p k
  along_same c p zero = refl
  along_same c p (suc k) =
      ap (λ us. us ++ uses_of c (latest_gets (record n { capacity = room }) p k) (slice_get (n.script p) k))
      (along_same c p k)
      ∙ ap (λ slots. uses_before n c p k ++ uses_of c slots (slice_get (n.script p) k)) (latest_same p k)

  pub names_stay : (nest : Nest) → NamesLastWriters nest n → NamesLastWriters nest (record n { capacity = room })
  names_stay nest names p k refs e slot r at = name_same p k r ∙ names p k refs e slot r at

  pub uses_stay : (c : ℕ) → uses (record n { capacity = room }) c ≡ uses n c
  uses_stay c = along_same c (n.reader c) (length (n.script (n.reader c)))

-- Channels

-- each channel is as before but for its capacity
pub channel_kept : (channels : List Channel) (capacities : List ℕ) (c : ℕ) (channel : Channel)
    → slice_get (channels_with channels capacities) c ≡ Some channel
    → (x : Channel) × (slice_get channels c ≡ Some x) × (channel ≡ record x { capacity = channel.capacity })
channel_kept [] capacities c channel e = cc
channel_kept (x ∷ channels) [] zero channel e =
    let same : (let changed : Channel = record x { capacity = 0 } in changed) ≡ channel = cc in (
      x,
      refl,
      sym same ∙ ap (λ m. let changed : Channel = record x { capacity = m } in changed)
          (ap (λ (y : Channel). y.capacity) same),
    )
channel_kept (x ∷ channels) [] (suc c) channel e = channel_kept channels [] c channel e
channel_kept (x ∷ channels) (m ∷ capacities) zero channel e =
    let same : (let changed : Channel = record x { capacity = m } in changed) ≡ channel = cc in (
      x,
      refl,
      sym same ∙ ap (λ m. let changed : Channel = record x { capacity = m } in changed)
          (ap (λ (y : Channel). y.capacity) same),
    )
channel_kept (x ∷ channels) (m ∷ capacities) (suc c) channel e = channel_kept channels capacities c channel e

-- The network of a nest

abbrev pub HasClasses : Network → Type 0
HasClasses network = (c : ℕ) (channel : Channel) → slice_get network.channels c ≡ Some channel → channel.class
    ≡ class_of (uses (net_of network) c)

abbrev pub KeepsRest : Network → List ℕ → Type 0
KeepsRest network capacities = net_of (with_capacities network capacities)
    ≡ record (net_of network) { capacity = (net_of (with_capacities network capacities)).capacity }

shape_stays : (nest : Nest) (network : Network) (capacities : List ℕ)
    → IsWired (net_of (with_capacities network capacities)) → FitsNest nest network
    → FitsNest nest (with_capacities network capacities)
shape_stays nest network capacities wired fits = record {
  shaped = record {
    processes = fits.shaped.processes;
    wired = wired;
    turns = fits.shaped.turns;
    few_slots =
        fits.shaped.few_slots;
  };
  references = fits.references;
  reads = λ c channel e. (let kept = channel_kept network.channels capacities c channel e in
      subst (λ (x : Channel). x.read < read_count nest x.reader) (sym kept.2) (fits.reads c kept.0 kept.1));
}

classes_stay : (network : Network) (capacities : List ℕ) → KeepsRest network capacities → HasClasses network
    → HasClasses (with_capacities network capacities)
classes_stay network capacities same classes c channel e =
    let kept = channel_kept network.channels capacities c channel e in
    ap (λ (x : Channel). x.class) kept.2
    ∙ classes c kept.0 kept.1
    ∙ ap class_of (sym (ap (λ (n : Net). uses n c) same
    ∙ uses_stay (net_of network) (net_of (with_capacities network capacities)).capacity c))

-- where every read is swept, there is no tree
pub no_tree : (m i : ℕ) (tree : Tree) → slice_get (replicate m origin.Sweep) i ≡ Some (origin.Tree tree) → ⊥
no_tree zero i tree is = let e : None ≡ Some (origin.Tree tree) = is in cc
no_tree (suc m) zero tree is = let e : Some origin.Sweep ≡ Some (origin.Tree tree) = is in cc
no_tree (suc m) (suc i) tree is = no_tree m i tree is

pub swept_are_usable : (nest : Nest) (cert : Cert) (m : ℕ) → cert.sources ≡ replicate m origin.Sweep
    → AreUsable nest cert
swept_are_usable nest cert m swept s k tree lt is =
    absurd (no_tree m (read_number nest s k) tree
    (ap (λ sources. slice_get sources (read_number nest s k)) (sym swept) ∙ is))

-- where the network fits but for its schedule, it does with capacities and a schedule that ends all
pub fits_with : (nest : Nest) (network : Network) (capacities : List ℕ) (cert : Cert)
    → FitsNest nest network → NamesLastWriters nest (net_of network) → HasClasses network
    → KeepsRest network capacities → IsWired (net_of (with_capacities network capacities))
    → length cert.sources ≡ read_total nest → AreUsable nest cert
    → EndsAll (net_of (with_capacities network capacities)) tags cert.schedule
    → Fits nest (with_capacities network capacities) cert
fits_with nest network capacities cert fits names classes same wired sources trees ends = record {
  shape = shape_stays nest network capacities wired fits;
  sources = sources;
  trees = trees;
  ends = ends;
  names = last_are_wanted nest (with_capacities network capacities) cert
      (shape_stays nest network capacities wired fits) trees sources
      (subst (NamesLastWriters nest) (sym same)
      (names_stay (net_of network) (net_of (with_capacities network capacities)).capacity nest names));
  classes = classes_stay network capacities same classes;
}
