-- What the command `deps` comes to on a bundle: one case for each cause, in the order in which they decide. The size is asked
-- for exactly where some read has no tree.
use Rattle.std.specs.Prelude.{◌≡◌, ℕ, ℤ, List, Option, Some, None, Result, Ok, Err}
use Rattle.bundle.specs.Parts.{source_part}
use Rattle.deps_text.specs.Dependences.{AllHaveTrees}
use Rattle.deps_text.specs.DepsText.{TellsDependences}
use Rattle.deps_text.specs.FireLines.{IsSweptOf}
use Rattle.deps_text.specs.declared.swept.Swept.{Swept}
use Rattle.loop_walk.specs.Counting.{counted}
use Rattle.loop_walk.specs.declared.count.SizeError.{SizeError}
use Rattle.sanlp.specs.declared.nest.Nest.{Nest}
use Rattle.command_answers.specs.Refusals.{size_refusal}
use Rattle.command_answers.specs.Replies.{Reply, done}
use Rattle.command_answers.specs.Source.{Gives}
use Rattle.command_answers.specs.declared.refusal.Refusal.{Refusal}

-- some read has no tree
abbrev pub IsSwept : Nest → Type 0
IsSwept nest = AllHaveTrees nest → ⊥

-- where some read has no tree, the nest is within the limit on its size
abbrev pub IsSmallWhereSwept : Nest → ℕ → Type 0
IsSmallWhereSwept nest total = IsSwept nest → counted nest ≡ Ok total

-- The source gives no nest; or some read has no tree, and the nest is too large; or a text that tells the nest's dependences is
-- written. There are many such texts, since the shape of a tree is free.
pub data TellsSources (params : List (List ℕ × ℤ)) (bundle : List ℕ)
    : Result Reply Refusal → Type 0 where
  source_refused : (refusal : Refusal) → Gives (source_part bundle) params (Err refusal)
      → TellsSources params bundle (Err refusal)
  size_refused : (nest : Nest) (error : SizeError) → Gives (source_part bundle) params (Ok nest)
      → IsSwept nest → counted nest ≡ Err error
      → TellsSources params bundle (Err (size_refusal error))
  told : (nest : Nest) (total : ℕ) (text : List ℕ) → Gives (source_part bundle) params (Ok nest)
      → IsSmallWhereSwept nest total → TellsDependences nest text
      → TellsSources params bundle (Ok (done text))

-- The source gives a nest each of whose reads has a tree.
pub record GivesTrees (params : List (List ℕ × ℤ)) (bundle : List ℕ) : Type 0 where
  pub nest : Nest
  pub gives : Gives (source_part bundle) params (Ok nest)
  pub trees : AllHaveTrees nest

-- what is swept of a nest: nothing where every read has a tree; and else the nest, or it is too large
abbrev pub HasSwept : Nest → Result (Option Swept) Refusal → Type 0
HasSwept nest (Ok None) = AllHaveTrees nest
HasSwept nest (Ok (Some swept)) =
    IsSwept nest × (total : ℕ) × (counted nest ≡ Ok total) × IsSweptOf nest swept
HasSwept nest (Err refusal) =
    IsSwept nest × (error : SizeError) × (counted nest ≡ Err error)
    × (refusal ≡ size_refusal error)
