-- The lines of a text, and the texts that begin with given lines.
use Rattle.std.specs.Prelude.{◌≡◌, ◌==◌, false, ℕ, List, [], ◌∷◌, ◌++◌, All, Err, length}
use Rattle.std.specs.List.{flat_map}
use Rattle.net_core.specs.declared.network.Network.{Network}
use Rattle.source_tree.specs.declared.cert.Cert.{Cert}
use Rattle.cert_lines.specs.declared.error.CertError.{CertError}
use Rattle.cert_text.specs.Reading.{reading}
use Rattle.cert_text.specs.StandsFor.{StandsFor}

-- no line feed stands in it
abbrev pub IsLine : List ℕ → Type 0
IsLine line = All (λ byte. (byte == 10) ≡ false) line

-- lines, each with its line feed
abbrev pub lines_text : List (List ℕ) → List ℕ
lines_text lines = flat_map (λ line. line ++ 10 ∷ []) lines

-- these are the first lines of the text
pub record BeginsWith (lines : List (List ℕ)) (text : List ℕ) : Type 0 where
  pub each : All IsLine lines
  pub rest : List ℕ
  pub is_text : text ≡ lines_text lines ++ rest

-- The first n lines of the text decide that it is refused so: each text that begins with them is, and none of these stands
-- for a pair.
pub record IsDecidedBy (text : List ℕ) (n : ℕ) (refusal : CertError) : Type 0 where
  pub lines : List (List ℕ)
  pub count : length lines ≡ n
  pub begins : BeginsWith lines text
  pub same : (other : List ℕ) → BeginsWith lines other → reading other ≡ Err refusal
  pub none : (other : List ℕ) (network : Network) (cert : Cert) → BeginsWith lines other
      → StandsFor other network cert → ⊥
