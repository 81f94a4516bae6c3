-- What a list of lists has at a place where it has nothing: the empty list.
use Rattle.std.proofs.Common.{◌≡◌, ◌∙◌, ℕ, List, [], ap, get_or}
use Rattle.std.specs.Prelude.{Option, None, slice_get, unwrap_or}
use Rattle.std.proofs.lemmas.Option.{unwrap_or-slice_get}

pub nothing_past : {X : Type 0} (lists : List (List X)) (k : ℕ) → None ≡ slice_get lists k → [] ≡ get_or lists k []
nothing_past {X} lists k past =
    ap (λ (found : Option (List X)). unwrap_or found []) past ∙ unwrap_or-slice_get lists k []
