-- How many slots the latest Gets of a process fill.
use Rattle.std.proofs.Common.{◌≡◌, ℕ, zero, suc, Option, Some, None, List, length, take, count_by, slice_get, refl, ◌∙◌}
use Rattle.std.proofs.Common.{length-set}
use Rattle.std.proofs.lemmas.List.{length-replicate}
use Rattle.net_core.specs.declared.network.Event.{Event}
use Rattle.net_core.specs.declared.network.Event.TheVariants.{Get, Fire, Put}
use Rattle.net_core.specs.Machine.{Net}
use Rattle.net_core.specs.Names.{latest_gets, with_get}
use Rattle.net_core.specs.Shape.{is_get}

pub length-with_get : (n : Net) (p k : ℕ) (e : Option Event) (slots : List (Option (ℕ × ℕ)))
    → length (with_get n p k e slots) ≡ length slots
length-with_get n p k None slots = refl
length-with_get n p k (Some (Get c slot)) slots =
    length-set slots slot (Some (c, count_by (is_get c) (take k (n.script p))))
length-with_get n p k (Some (Fire refs)) slots = refl
length-with_get n p k (Some (Put c)) slots = refl

pub length-latest_gets : (n : Net) (p k : ℕ) → length (latest_gets n p k) ≡ n.slots p
length-latest_gets n p zero = length-replicate (n.slots p) None
length-latest_gets n p (suc k) =
    length-with_get n p k (slice_get (n.script p) k) (latest_gets n p k) ∙ length-latest_gets n p k
