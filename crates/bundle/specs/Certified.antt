-- The bundle of a source and a certificate.
use Rattle.std.specs.Prelude.{◌==◌, ℕ, Bool, true, List, [], ◌∷◌, ◌++◌, codes, if◌then◌else◌}

-- whether LF ends the last line, if there is one
abbrev pub ends_with_line : List ℕ → Bool
ends_with_line [] = true
ends_with_line (byte ∷ []) = byte == 10
ends_with_line (byte ∷ next ∷ bytes) = ends_with_line (next ∷ bytes)

-- a source, with LF behind a last line that has none
abbrev pub with_line_end : List ℕ → List ℕ
with_line_end source = if ends_with_line source then source else source ++ 10 ∷ []

-- a source, two separators and a certificate
abbrev pub certified : List ℕ → List ℕ → List ℕ
certified source text = with_line_end source ++ (codes "%%\n%%\n" ++ text)
