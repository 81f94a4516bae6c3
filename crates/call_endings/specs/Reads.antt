-- What is read of a source.
use Rattle.std.specs.Prelude.{◌≡◌, ◌≤◌, ◌+◌, ℕ, List, [], length}
use Rattle.std.specs.Io.KnownBytes.{Consumes, IsAtEnd, Keeps}
use Rattle.call_endings.specs.Changes.{Change}

-- the parts of a bundle that are read
pub data Reads : Type 0 where
  source_alone : Reads
  source_and_data : Reads
  source_and_certificate : Reads
  nothing : Reads

-- the most bytes that a bundle has
abbrev pub bundle_limit : ℕ
bundle_limit = 67_108_864

-- the source gave the bundle: to its end, or to one byte past the limit
pub record ReadsTo (input : Change) (bundle : List ℕ) : Type 0 where
  pub taken : Consumes input.old input.new bundle
  pub within : length bundle ≤ bundle_limit + 1
  pub to_end : length bundle ≤ bundle_limit → IsAtEnd input.new

-- the source gave nothing
abbrev pub ReadsNothing : Change → List ℕ → Type 0
ReadsNothing input bundle = Keeps input.old input.new × (bundle ≡ [])

-- where a bundle is to be read the source gave it, and else nothing
abbrev pub ReadsFor : Reads → Change → List ℕ → Type 0
ReadsFor source_alone = ReadsTo
ReadsFor source_and_data = ReadsTo
ReadsFor source_and_certificate = ReadsTo
ReadsFor nothing = ReadsNothing

-- the most bytes that are taken of the source
abbrev pub most_taken : Reads → ℕ
most_taken source_alone = bundle_limit + 1
most_taken source_and_data = bundle_limit + 1
most_taken source_and_certificate = bundle_limit + 1
most_taken nothing = 0
