-- What is wanted under a certificate whose trees are usable is the tag of the last writer.
--
-- A usable tree is checked, and so exact: at each point of its reader it gives the point of the last writer, or zero.
-- Each point stands once in the trace, so the entry whose point it gives is that writer. Sweep says the last writer
-- itself. So both ways the names that are wanted are those of the last writers, of which alone the entries of a
-- schedule are judged by.
use Rattle.std.proofs.Common.{◌≡◌, ◌+◌, ◌<◌, ℕ, ℤ, List, length, refl, sym, ap, ◌∙◌, subst, arith}
use Rattle.std.proofs.Common.{zero-add}
use Rattle.std.specs.Prelude.{Option, Some, None, slice_get}
use Rattle.std.specs.Option.{option_and_then, option_map_or}
use Rattle.std.proofs.lemmas.List.Sums.{sum_by-take-le}
use Rattle.std.proofs.lemmas.Option.{same_Some, slice_get_within}
use Rattle.sanlp.specs.Access.{read_count}
use Rattle.sanlp.specs.declared.nest.Nest.{Nest}
use Rattle.sanlp.specs.declared.nest.Point.{Point}
use Rattle.sanlp.specs.declared.nest.Statement.{Statement}
use Rattle.sanlp.specs.declared.nest.Tag.{Tag}
use Rattle.sanlp.specs.Laws.{entries_of}
use Rattle.sanlp.specs.Points.{points_of}
use Rattle.sanlp.specs.Tags.{tag_at}
use Rattle.sanlp.specs.Trace.{trace}
use Rattle.sanlp.specs.Writers.{last_writer}
use Rattle.sanlp.proofs.Enumerates.{enumerates_domains}
use Rattle.source_check.proofs.Exactness.{checked_is_exact}
use Rattle.source_tree.specs.declared.cert.Cert.{Cert}
use Rattle.source_tree.specs.declared.cert.Origin.{Origin}
use Rattle.source_tree.specs.declared.cert.Origin.TheVariants as origin
use Rattle.source_tree.specs.declared.tree.Found.{Found}
use Rattle.source_tree.specs.declared.tree.Found.TheVariants as found
use Rattle.source_tree.specs.declared.tree.Tree.{Tree}
use Rattle.source_tree.specs.Exact.{IsPointOf, IsExact}
use Rattle.source_tree.specs.Gives.{gives}
use Rattle.source_tree.specs.Sources.{read_number}
use Rattle.source_tree.specs.Wanted.{IsWanted, IsWriterBy}
use Rattle.net_core.specs.declared.network.Event.TheVariants.{Fire}
use Rattle.net_core.specs.declared.network.Network.{Network}
use Rattle.net_core.specs.declared.refs.Ref.{Ref}
use Rattle.net_core.specs.Machine.{net_of}
use Rattle.net_core.specs.Shape.{fires, turns}
use Rattle.net_core.specs.Sound.{FitsNest, NamesLastWriters, name_of_source, source_tag}
use Rattle.net_core.proofs.Entries.{entry_at_turn}
use Rattle.net_core.proofs.FireValues.{turn_entry, turn_there}
use Rattle.net_checker.specs.Shapes.{read_total}
use Rattle.net_checker.specs.Sources.{AreUsable, IsUsable, NamesWanted}
use Rattle.plain_data.proofs.Lists.{slice_get-some, sum_by_more_some}

-- a point is that of one entry alone
same_writer : (n : Nest) (a b : Option ℕ) (found : Found) → IsPointOf (trace n) a found → IsPointOf (trace n) b found
    → a ≡ b
same_writer n a b found.Zero one other = one ∙ sym other
same_writer n a b (found.At p) one other = one.1 ∙ ap Some ((enumerates_domains n).once one.0 other.0 p one.2 other.2)
    ∙ sym other.1
same_writer n a b found.Dead one other = absurd one

-- a usable tree gives the last writer
pub usable_is_exact : (n : Nest) (s k : ℕ) (tree : Tree) → IsUsable n s k tree → IsExact n s k tree
usable_is_exact n s k tree usable = checked_is_exact n s k tree (enumerates_domains n) usable.checked

-- the point of a turn
at_turn : (n : Nest) (p f t : ℕ) → slice_get (entries_of (trace n) p) f ≡ Some t → (x : List ℤ)
    × (slice_get (trace n) t ≡ Some (record { statement = p; at = x }))
at_turn n p f t is =
    let e = entry_at_turn 0 (trace n) p f t is in (
      e.point.at,
      ap (slice_get (trace n)) (e.is ∙ zero-add e.place) ∙ e.found
          ∙ ap (λ s. Some (record { statement = s; at = e.point.at })) e.process,
    )

-- a read of a statement is one of all reads
pub read_within : (n : Nest) (s k : ℕ) → k < read_count n s → read_number n s k < read_total n
read_within n s k lt = go (slice_get n.statements s) refl lt where
  go : (o : Option Statement) → slice_get n.statements s ≡ o
      → k < option_map_or (λ (st : Statement). length st.reads) o 0 → read_number n s k < read_total n
  go None is few = absurd (omega arith)
  go (Some st) is few =
      omega (
        arith,
        few,
        sum_by_more_some (λ (st : Statement). length st.reads) n.statements s st is,
        sum_by-take-le (λ (st : Statement). length st.reads) n.statements (s + 1),
      )

module _ (n : Nest) (cert : Cert) (usable : AreUsable n cert) where
  -- by its origin, what a read reads was written by the last writer
  written_last : (p k f t : ℕ) (writer : Option ℕ) (o : Origin) → k < read_count n p
      → slice_get (entries_of (trace n) p) f ≡ Some t
      → slice_get cert.sources (read_number n p k) ≡ Some o → IsWriterBy n o k t writer → writer ≡ last_writer n t k
  written_last p k f t writer origin.Sweep lt turn said written = written
  written_last p k f t writer (origin.Tree tree) lt turn said written =
      let here = at_turn n p f t turn in
      let exact = usable_is_exact n p k tree (usable p k tree lt said) t here.0 here.1 in
      let point : Point = record { statement = p; at = here.0 } in
      let same : written.0 ≡ point = same_Some written.0 point (sym written.1 ∙ here.1) in
      let given : IsPointOf (trace n) writer (gives tree here.0) =
      subst (λ (q : Point). IsPointOf (trace n) writer (gives tree q.at)) same written.2 in
      same_writer n writer (last_writer n t k) (gives tree here.0) given exact

  last_written : (p k f t : ℕ) (o : Origin) → k < read_count n p → slice_get (entries_of (trace n) p) f ≡ Some t
      → slice_get cert.sources (read_number n p k) ≡ Some o → IsWriterBy n o k t (last_writer n t k)
  last_written p k f t origin.Sweep lt turn said = refl
  last_written p k f t (origin.Tree tree) lt turn said =
      let here = at_turn n p f t turn in
      let exact = usable_is_exact n p k tree (usable p k tree lt said) t here.0 here.1 in
      (record { statement = p; at = here.0 }, here.1, exact)

  source_of_turn : (p k f t : ℕ) → slice_get (entries_of (trace n) p) f ≡ Some t → source_tag n p f k
      ≡ option_and_then (tag_at (trace n)) (last_writer n t k)
  source_of_turn p k f t turn =
      ap (λ o. option_and_then (tag_at (trace n)) (option_and_then (λ t. last_writer n t k) o)) turn

  -- what a read wants is its last writer's tag
  wanted_is_last : (p k f : ℕ) (source : Option Tag) → k < read_count n p → IsWanted n cert p k f source → source
      ≡ source_tag n p f k
  wanted_is_last p k f source lt w =
      w.tag ∙ ap (option_and_then (tag_at (trace n)))
      (written_last p k f w.entry w.writer w.origin lt w.turn w.said w.written)
      ∙ sym (source_of_turn p k f w.entry w.turn)

  last_is_wanted : (p k f : ℕ) → length cert.sources ≡ read_total n → k < read_count n p → f < turns (points_of n) p
      → IsWanted n cert p k f (source_tag n p f k)
  last_is_wanted p k f many lt there =
      let e = turn_entry n p f there in
      let said = slice_get-some cert.sources (read_number n p k) (omega (arith, many, read_within n p k lt)) in
      record {
        entry = e.entry;
        turn = e.is;
        origin = said.0;
        said = said.1;
        writer = last_writer n e.entry k;
        written = last_written p k f e.entry said.0 lt e.is said.1;
        tag = source_of_turn p k f e.entry e.is;
      }

module _ (n : Nest) (network : Network) (cert : Cert) (fits : FitsNest n network) (usable : AreUsable n cert) where
  read_of_fire : (p k : ℕ) (refs : List Ref) → slice_get ((net_of network).script p) k ≡ Some (Fire refs)
      → (read : ℕ) (r : Ref) → slice_get refs read ≡ Some r → read < read_count n p
  read_of_fire p k refs is read r there = omega (arith, fits.references p k refs is, slice_get_within refs read r there)

  pub wanted_are_last : NamesWanted n cert (net_of network) → NamesLastWriters n (net_of network)
  wanted_are_last names p k refs is read r there =
      let w = names p k refs is read r there in
      w.2 ∙ ap name_of_source (wanted_is_last n cert usable p read (fires (net_of network) p k) w.0
      (read_of_fire p k refs is read r there) w.1)

  pub last_are_wanted : length cert.sources ≡ read_total n → NamesLastWriters n (net_of network)
      → NamesWanted n cert (net_of network)
  last_are_wanted many names p k refs is read r there =
      let f = fires (net_of network) p k in (
        source_tag n p f read,
        last_is_wanted n cert usable p read f many (read_of_fire p k refs is read r there)
            (turn_there n network fits p k refs is),
        names p k refs is read r there,
      )
