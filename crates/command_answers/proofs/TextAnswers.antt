-- What the commands that print come to, from what their steps come to.
use Rattle.std.proofs.Common.{◌≡◌, ℕ, ℤ, List, Ok, sym, subst}
use Rattle.bundle.specs.Parts.{source_part}
use Rattle.sanlp.specs.declared.nest.Nest.{Nest}
use Rattle.command_answers.specs.Printing.{Prints, printed}
use Rattle.command_answers.specs.Replies.{done}
use Rattle.command_answers.specs.Source.{GivesWithinSize}
use Rattle.command_answers.proofs.Stops.{nest_is}

pub prints_text : (text : Nest → List ℕ) (params : List (List ℕ × ℤ)) (bundle source written : List ℕ) (nest : Nest)
    → source ≡ source_part bundle
    → GivesWithinSize source params (Ok nest) → written ≡ text nest → Prints text params bundle (Ok (done written))
prints_text text params bundle source written nest is gives made =
    subst (λ (t : List ℕ). Prints text params bundle (Ok (done t))) (sym made)
    (printed nest (nest_is params bundle source (Ok nest) is gives))
