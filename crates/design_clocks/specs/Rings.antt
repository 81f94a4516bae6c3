-- A channel as a ring of places, in which its tokens lie from the oldest one on.
use Rattle.std.specs.Prelude.{◌≡◌, ◌<◌, ◌≤◌, ◌==◌, ℕ, zero, suc, ◌+◌, ◌-◌, Bool, true, false, ◌&&◌, nat_lt, if◌then◌else◌, Option, Some, None, List, length, replicate, slice_get, slice_set, option_map}
use Rattle.net_core.specs.Machine.{Net, Rule}
use Rattle.design_clocks.specs.Registers.{Controls, after_edges, asks, event_at, token_for, offers}

-- The registers of a channel: its places, the number of the place of the oldest token, that of the place for the next one, and
-- how many tokens there are. A place in which no token was put has none.
pub record Ring (T : Type 0) : Type 0 where
  pub places : List (Option T)
  pub oldest : ℕ
  pub free : ℕ
  pub count : ℕ

-- behind a reset there is no token
abbrev pub empty_ring : {T : Type 0} → ℕ → Ring T
empty_ring capacity =
    record { places = replicate capacity None; oldest = 0; free = 0; count = 0 }

-- the place behind another one; behind the last one is the first
abbrev pub next_place : ℕ → ℕ → ℕ
next_place capacity at = if at + 1 == capacity then 0 else at + 1

-- how many tokens there are after an edge at which one is given or not, and one is taken or not
abbrev pub count_after : Bool → Bool → ℕ → ℕ
count_after true true count = count
count_after true false count = count + 1
count_after false true count = count - 1
count_after false false count = count

-- the ring after an edge at which a token is given or not, and one is taken or not
abbrev pub ring_step : {T : Type 0} → ℕ → Bool → Bool → Option T → Ring T → Ring T
ring_step capacity gives takes token ring = record {
  places = if gives then slice_set ring.places ring.free token else ring.places;
  oldest = if takes then next_place capacity ring.oldest else ring.oldest;
  free = if gives then next_place capacity ring.free else ring.free;
  count = count_after gives takes ring.count;
}

-- the ring after an edge at which its front is asked for or not, and a token is offered or not
abbrev pub ring_after : {T : Type 0} → ℕ → Bool → Bool → Option T → Ring T → Ring T
ring_after capacity asks offers token ring =
    ring_step capacity (offers && nat_lt ring.count capacity) (asks && nat_lt 0 ring.count) token
    ring

-- the place of a token by its number, from the oldest one on
abbrev pub place_of : ℕ → ℕ → ℕ → ℕ
place_of capacity oldest i =
    if nat_lt (oldest + i) capacity then oldest + i else oldest + i - capacity

-- The ring holds these tokens, the oldest first, so it is ready and valid where a queue of them is, and has its front.
pub record Holds {T : Type 0} (capacity : ℕ) (ring : Ring T) (queue : List T) : Type 0 where
  pub places : length ring.places ≡ capacity
  pub count : ring.count ≡ length queue
  pub fits : length queue ≤ capacity
  pub oldest : ring.oldest < capacity
  pub free : ring.free ≡ place_of capacity ring.oldest (length queue)
  pub tokens : (i : ℕ) → i < length queue
      → slice_get ring.places (place_of capacity ring.oldest i)
      ≡ option_map Some (slice_get queue i)

-- the ring of a channel after so many edges, beside the design
abbrev pub ring_after_edges : {T : Type 0} → Net → Controls → Rule T → ℕ → ℕ → Ring T
ring_after_edges n controls rule c zero = empty_ring (n.capacity c)
ring_after_edges n controls rule c (suc k) =
    ring_after (n.capacity c) (asks n (event_at controls (after_edges n controls rule k)) c)
    (offers n (event_at controls (after_edges n controls rule k)) c)
    (token_for n (after_edges n controls rule k) c) (ring_after_edges n controls rule c k)
