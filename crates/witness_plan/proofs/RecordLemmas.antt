-- A run while it is made, at first and after one event more.
--
-- The invariant is `IsRecord`: the network stands at the cut to which the schedule so far leads, and each channel's number is
-- the greatest length of its queue along that schedule. The machine keeps the first part by itself; an entry of a process
-- moves the cut on as the event does. The second is a matter of GreatestLengths. Nothing is said of whether the events could
-- come in this order.
use Rattle.std.proofs.Common.{◌≡◌, ℕ, Some, List, [], ◌∷◌, ◌++◌, map, replicate, slice_get, refl, sym, ap, ◌∙◌}
use Rattle.std.specs.List.{range_with_len}
use Rattle.sanlp.proofs.Lists.{map-range_with_len_replicate}
use Rattle.net_core.specs.declared.network.Event.{Event}
use Rattle.net_core.specs.declared.network.Event.TheVariants.{Get, Fire, Put}
use Rattle.net_core.specs.Cuts.{Cut, advanced, cut_after, opening}
use Rattle.net_core.specs.Machine.{Net}
use Rattle.net_core.specs.Progress.{IsProgress, cut_of}
use Rattle.net_core.specs.Shape.{IsWired}
use Rattle.witness_plan.specs.Records.{IsRecord, lengths_after}
use Rattle.witness_plan.specs.Sequential.{greatest_length, queue_length}
use Rattle.witness_plan.specs.declared.recorder.Recorder.{Recorder}
use Rattle.witness_plan.proofs.GreatestLengths.{greatest_kept, greatest_put}
use Rattle.net_core.proofs.CutOrder.{cut_after-append}

pub record_none : (net : Net) (recorder : Recorder) → recorder.schedule ≡ [] → IsProgress net recorder.progress
    → cut_of recorder.progress ≡ opening → recorder.greatest.items ≡ replicate net.channels 0 → IsRecord net recorder
record_none net recorder none progress at zeros = record {
  progress = progress;
  cut = at ∙ ap (cut_after opening) (sym none);
  greatest = zeros
      ∙ sym (map-range_with_len_replicate (greatest_length net []) 0 0 net.channels (λ k. refl))
      ∙ ap (λ s. map (greatest_length net s) (range_with_len 0 net.channels)) (sym none);
}

-- the cut after one entry more
pub cut_then : (schedule more : List ℕ) (p : ℕ) (old new : Cut) → more ≡ schedule ++ p ∷ []
    → old ≡ cut_after opening schedule → new ≡ advanced old p → new ≡ cut_after opening more
cut_then schedule more p old new grown at next =
    next ∙ ap (λ (k : Cut). advanced k p) at
    ∙ sym (ap (cut_after opening) grown ∙ cut_after-append opening schedule (p ∷ []))

-- the greatest lengths after one entry more
pub lengths_more : (net : Net) (wired : IsWired net) (schedule more : List ℕ) (p : ℕ) (e : Event)
    → slice_get (net.script p) (cut_after opening schedule p) ≡ Some e → more ≡ schedule ++ p ∷ [] → (cut : Cut)
    → cut ≡ cut_after opening more → (greatest : List ℕ)
    → greatest ≡ map (greatest_length net schedule) (range_with_len 0 net.channels)
    → lengths_after net cut greatest e ≡ map (greatest_length net more) (range_with_len 0 net.channels)
lengths_more net wired schedule more p (Get d slot) is grown cut at greatest are =
    are ∙ greatest_kept net wired schedule p (Get d slot) is (λ c. refl) more grown
lengths_more net wired schedule more p (Fire refs) is grown cut at greatest are =
    are ∙ greatest_kept net wired schedule p (Fire refs) is (λ c. refl) more grown
lengths_more net wired schedule more p (Put d) is grown cut at greatest are =
    greatest_put net wired schedule p d is more grown greatest are (queue_length net cut d)
    (ap (λ (k : Cut). queue_length net k d)
    (at ∙ ap (cut_after opening) grown ∙ cut_after-append opening schedule (p ∷ [])))
