-- A source and a sink in memory, and what a call of each does.
use Rattle.std.specs.Prelude.{◌-◌, ◌==◌, ◌&&◌, ℕ, Bool, min, List, ◌++◌, take, drop, length, not, refl, if◌then◌else◌}
use Rattle.std.specs.List.{list_any}
use Rattle.std.specs.Coded.{Coded, code_by, coded×, coded_ℕ, coded_list}
use Rattle.io_edge.specs.Causes.{one_more}

-- a source in memory: what is left, the most bytes of a call, which calls fail, and the calls and faults so far
pub record SourceState : Type 0 where
  pub left : List ℕ
  pub piece : ℕ
  pub failing : List ℕ
  pub calls : ℕ
  pub faults : ℕ

-- a sink in memory: what is held, how many bytes may be held, which calls fail, and the calls and faults so far
pub record SinkState : Type 0 where
  pub held : List ℕ
  pub room : ℕ
  pub piece : ℕ
  pub failing : List ℕ
  pub calls : ℕ
  pub faults : ℕ

-- the call of this number is one that fails
abbrev pub is_among : List ℕ → ℕ → Bool
is_among failing call = list_any (λ number. number == call) failing

-- how many bytes a read gives into so much room
abbrev pub given_count : SourceState → ℕ → ℕ
given_count s room = min (min (length s.left) s.piece) room

-- a source in memory after a read
abbrev pub after_read : SourceState → ℕ → SourceState
after_read s count = record s { left = drop count s.left; calls = one_more s.calls }

-- a source in memory after a read that fails
abbrev pub after_failed_read : SourceState → SourceState
after_failed_read s = record s { calls = one_more s.calls; faults = one_more s.faults }

-- how many bytes a write takes of so many
abbrev pub taken_count : SinkState → ℕ → ℕ
taken_count s len = min (min len s.piece) (s.room - length s.held)

-- a sink in memory after a write: one that takes nothing of a non-empty piece is a fault
abbrev pub after_write : SinkState → List ℕ → SinkState
after_write s piece =
    let count = taken_count s (length piece) in
    record s {
      held = s.held ++ take count piece;
      calls = one_more s.calls;
      faults = if (count == 0) && not (length piece == 0) then one_more s.faults else s.faults;
    }

-- a sink in memory after a write that fails
abbrev pub after_failed_write : SinkState → SinkState
after_failed_write s = record s { calls = one_more s.calls; faults = one_more s.faults }

-- the states are stored as their fields
abbrev pub source_code : Coded SourceState
source_code =
    code_by (List ℕ × (ℕ × (List ℕ × (ℕ × ℕ))))
    (coded× (coded_list coded_ℕ)
    (coded× coded_ℕ (coded× (coded_list coded_ℕ) (coded× coded_ℕ coded_ℕ))))
    (λ s. (s.left, (s.piece, (s.failing, (s.calls, s.faults)))))
    (λ p. record {
      left = p.0;
      piece = p.1.0;
      failing = p.1.1.0;
      calls = p.1.1.1.0;
      faults = p.1.1.1.1;
    })
    (λ _. refl)

abbrev pub sink_code : Coded SinkState
sink_code =
    code_by (List ℕ × (ℕ × (ℕ × (List ℕ × (ℕ × ℕ)))))
    (coded× (coded_list coded_ℕ)
    (coded× coded_ℕ (coded× coded_ℕ (coded× (coded_list coded_ℕ) (coded× coded_ℕ coded_ℕ)))))
    (λ s. (s.held, (s.room, (s.piece, (s.failing, (s.calls, s.faults))))))
    (λ p. record {
      held = p.0;
      room = p.1.0;
      piece = p.1.1.0;
      failing = p.1.1.1.0;
      calls = p.1.1.1.1.0;
      faults = p.1.1.1.1.1;
    })
    (λ _. refl)
