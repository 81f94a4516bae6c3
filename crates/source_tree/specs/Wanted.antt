-- What a read wants under a certificate.
use Rattle.std.specs.Prelude.{◌≡◌, ℕ, Option, Some, slice_get}
use Rattle.std.specs.Option.{option_and_then}
use Rattle.sanlp.specs.declared.nest.Nest.{Nest}
use Rattle.sanlp.specs.declared.nest.Point.{Point}
use Rattle.sanlp.specs.declared.nest.Tag.{Tag}
use Rattle.sanlp.specs.Laws.{entries_of}
use Rattle.sanlp.specs.Tags.{tag_at}
use Rattle.sanlp.specs.Trace.{trace}
use Rattle.sanlp.specs.Writers.{last_writer}
use Rattle.source_tree.specs.Exact.{IsPointOf}
use Rattle.source_tree.specs.Gives.{gives}
use Rattle.source_tree.specs.Sources.{read_number}
use Rattle.source_tree.specs.declared.cert.Cert.{Cert}
use Rattle.source_tree.specs.declared.cert.Origin.{Origin}
use Rattle.source_tree.specs.declared.cert.Origin.TheVariants.{Sweep, Tree}

-- By this origin, what read k of entry t reads was written by this entry, or by none: by Sweep that is the
-- last writer, and by a tree the entry whose point the tree gives. Where a tree gives dead it is nothing.
abbrev pub IsWriterBy : Nest → Origin → ℕ → ℕ → Option ℕ → Type 0
IsWriterBy n Sweep k t writer = writer ≡ last_writer n t k
IsWriterBy n (Tree tree) k t writer =
    (p : Point) × (slice_get (trace n) t ≡ Some p) × IsPointOf (trace n) writer (gives tree p.at)

-- Read k of statement p wants this tag at its turn f, or zero where it is none: the tag of the entry that
-- wrote what it reads, by the certificate's origin of the read.
pub record IsWanted (n : Nest) (cert : Cert) (p k f : ℕ) (source : Option Tag) : Type 0 where
  pub entry : ℕ
  pub turn : slice_get (entries_of (trace n) p) f ≡ Some entry
  pub origin : Origin
  pub said : slice_get cert.sources (read_number n p k) ≡ Some origin
  pub writer : Option ℕ
  pub written : IsWriterBy n origin k entry writer
  pub tag : source ≡ option_and_then (tag_at (trace n)) writer
