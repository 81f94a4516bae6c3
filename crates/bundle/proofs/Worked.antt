-- Bundles put together of a source and a certificate.
use Rattle.std.proofs.Common.{◌≡◌, None, Some, refl}
use Rattle.std.specs.Prelude.{[], codes}
use Rattle.bundle.specs.Parts.{after_separator, certificate_part, data_part, source_part}
use Rattle.bundle.specs.Certified.{certified, with_line_end}

ended : certified (codes "in x;\n") (codes "cert 1\nend\n") ≡ codes "in x;\n%%\n%%\ncert 1\nend\n"
ended = refl

not_ended : certified (codes "in x;") (codes "cert 1\nend\n") ≡ codes "in x;\n%%\n%%\ncert 1\nend\n"
not_ended = refl

empty : certified [] (codes "cert 1\nend\n") ≡ codes "%%\n%%\ncert 1\nend\n"
empty = refl

no_separator : after_separator (with_line_end (codes "in x;")) ≡ None
no_separator = refl

source : source_part (certified (codes "in x;") (codes "cert 1\nend\n")) ≡ codes "in x;\n"
source = refl

between : data_part (certified (codes "in x;") (codes "cert 1\nend\n")) ≡ []
between = refl

certificate : certificate_part (certified (codes "in x;") (codes "cert 1\nend\n")) ≡ Some (codes "cert 1\nend\n")
certificate = refl

-- a line feed can make a separator of a line that is none
returned : after_separator (codes "%%\r") ≡ None
returned = refl

returned_and_ended : after_separator (with_line_end (codes "%%\r")) ≡ Some []
returned_and_ended = refl
