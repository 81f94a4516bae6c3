-- Whether a name goes on plainly, byte by byte. The answer is that of what is left, with whether an underscore stands before
-- it: where a byte may not stand it is no, and else that of the bytes behind it. Where nothing is left, it is whether none
-- stands before the end.
use Rattle.std.proofs.Common.{◌≡◌, ◌+◌, ◌<◌, ◌≤◌, ℕ, Bool, true, false, not, eqb, ◌&&◌, List, drop, length, get_or}
use Rattle.std.proofs.Common.{ap, ◌∙◌}
use Rattle.std.proofs.lemmas.List.{at_drop_more, drop_all}
use Rattle.rtl_text.specs.Names.{goes_on, may_follow}

module _ (behind : Bool) (name : List ℕ) (i : ℕ) (lt : i < length name) where
  here : goes_on behind (drop i name)
      ≡ may_follow behind (get_or name i 0) && goes_on (eqb (get_or name i 0) 95) (drop (i + 1) name)
  here = at_drop_more (goes_on behind) name i 0 lt

  pub goes_on_past : may_follow behind (get_or name i 0) ≡ true
      → goes_on behind (drop i name) ≡ goes_on (eqb (get_or name i 0) 95) (drop (i + 1) name)
  goes_on_past may = here ∙ ap (λ b. b && goes_on (eqb (get_or name i 0) 95) (drop (i + 1) name)) may

  pub stops : may_follow behind (get_or name i 0) ≡ false → goes_on behind (drop i name) ≡ false
  stops may = here ∙ ap (λ b. b && goes_on (eqb (get_or name i 0) 95) (drop (i + 1) name)) may

pub name_end : (behind : Bool) (name : List ℕ) (i : ℕ) → length name ≤ i → goes_on behind (drop i name) ≡ not behind
name_end behind name i le = ap (goes_on behind) (drop_all i name le)
