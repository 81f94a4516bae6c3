-- The last room and the last ends leave their lists and come back.
use Rattle.std.proofs.Common.{◌≡◌, ⊎_elim, ℕ, ℤ, List, [], ◌∷◌, ◌++◌, length, Some, slice_get}
use Rattle.std.proofs.Common.{sym, ap, ◌∙◌, arith, length-append}
use Rattle.sanlp.specs.declared.nest.Inputs.{Inputs}
use Rattle.sanlp.specs.declared.nest.Nest.{Nest}
use Rattle.sanlp.specs.Laws.{values_of}
use Rattle.net_core.specs.declared.network.Network.{Network}
use Rattle.net_core.specs.Rooms.{Store}
use Rattle.node_runner.specs.Nodes.{Ports}
use Rattle.plain_data.proofs.Lists.{slice_get_push, slice_get-append_some, slice_get_push-cases}
use Rattle.thread_runner.specs.Runs.{MayWork, MayStart, HaveKept}

module _ {E : Type 0} (from to : E → Ports) (nest : Nest) (points : List (List (List ℤ))) (d : Inputs)
    (network : Network) (rooms : List (Store ℤ)) (ends : List E) (room : Store ℤ) (mine : E) where
  pub last_works : (p : ℕ) → p ≡ length rooms
      → MayStart from to nest points d network (rooms ++ room ∷ []) (ends ++ mine ∷ [])
      → MayWork from to nest points d network p room mine
  last_works p is m =
      let n : length ends ≡ length rooms =
      omega (arith, m.same, length-append rooms (room ∷ []), length-append ends (mine ∷ [])) in
      record {
        points_are = m.points_are;
        numbers = m.numbers;
        sound = m.sound;
        there = omega (arith, is, m.there, length-append rooms (room ∷ []));
        room_is = m.rooms_are p room (ap (slice_get (rooms ++ room ∷ [])) is ∙ slice_get_push rooms room);
        ends_are = m.ends_are p mine (ap (slice_get (ends ++ mine ∷ [])) (is ∙ sym n) ∙ slice_get_push ends mine);
      }

  pub rest_starts : MayStart from to nest points d network (rooms ++ room ∷ []) (ends ++ mine ∷ [])
      → MayStart from to nest points d network rooms ends
  rest_starts m = record {
    points_are = m.points_are;
    numbers = m.numbers;
    sound = m.sound;
    there = omega (arith, m.there, length-append rooms (room ∷ []));
    same = omega (arith, m.same, length-append rooms (room ∷ []), length-append ends (mine ∷ []));
    rooms_are = λ p r e. m.rooms_are p r (slice_get-append_some rooms (room ∷ []) p r e);
    ends_are = λ p x e. m.ends_are p x (slice_get-append_some ends (mine ∷ []) p x e);
  }

pub all_kept : (nest : Nest) (d : Inputs) (rooms : List (Store ℤ)) (room : Store ℤ) → HaveKept nest d rooms
    → room.kept ≡ values_of nest d (length rooms) → HaveKept nest d (rooms ++ room ∷ [])
all_kept nest d rooms room below mine p r e =
    ⊎_elim (λ (a : slice_get rooms p ≡ Some r). below p r a)
    (λ (b : (p ≡ length rooms) × (room ≡ r)). ap (λ (s : Store ℤ). s.kept) (sym b.1) ∙ mine
    ∙ ap (values_of nest d) (sym b.0))
    (slice_get_push-cases rooms room p r e)
