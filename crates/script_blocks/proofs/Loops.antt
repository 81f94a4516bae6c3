-- Loops that go over a script by a cursor, for the crates that have such loops.
--
-- The invariant is that what the loop has had, followed by what the cursor has left, is the script. It holds at the
-- start, where nothing was had, and a step keeps it, since the item that the cursor gives stands in front of what it
-- leaves and moves behind what was had. So the next item is the one whose place is the number of those before it, and
-- at the end all of the script was had. Nothing is said of how the script is kept, nor of how many steps a loop takes.
use Rattle.std.proofs.Common.{◌≡◌, ◌<◌, suc, Some, List, [], ◌∷◌, ◌++◌, length, slice_get, sym, ap, ◌∙◌, arith}
use Rattle.std.proofs.Common.{append_assoc, append-nil, length-append}
use Rattle.plain_data.proofs.Lists.{slice_get-append_cons}

module _ {X : Type 0} (all had left : List X) (whole : had ++ left ≡ all) where
  module _ (x : X) (later : List X) (next : left ≡ x ∷ later) where
    -- the next item stands at the place that is the number of those before it
    pub next_item : slice_get all (length had) ≡ Some x
    next_item =
        sym (ap (λ xs. slice_get xs (length had)) (ap (λ xs. had ++ xs) (sym next) ∙ whole)) ∙ slice_get-append_cons had x later

    pub next_inside : length had < length all
    next_inside = omega (arith, ap length whole, length-append had left, ap length next)

    -- one item more
    pub had_more : (had ++ x ∷ []) ++ later ≡ all
    had_more = append_assoc had (x ∷ []) later ∙ ap (λ xs. had ++ xs) (sym next) ∙ whole

  -- at the end
  pub had_all : left ≡ [] → had ≡ all
  had_all none = sym (append-nil had) ∙ ap (λ xs. had ++ xs) (sym none) ∙ whole

pub one_longer : {X : Type 0} (had : List X) (x : X) → length (had ++ x ∷ []) ≡ suc (length had)
one_longer had x = omega (arith, length-append had (x ∷ []))
