-- What a nest's points and sources have for each process in turn.
--
-- The invariant is that what is left of the table of sources is that of the statements from p on
-- (`rest_from`). At first it is the whole exact table. Statement p takes as many lists from the front
-- as it has reads: they are the sources of its reads (`own_sources`), and what is behind them is that
-- of the statements from p + 1 on (`later_sources`). The turns of a process are as many as its points,
-- which stand in the same order (`turns_there`). That the table is exact is a premise here.
use Rattle.std.proofs.Common.{◌≡◌, ◌<◌, ◌≤◌, ◌+◌, ℕ, List, ◌++◌, map, length, take, drop, get_or, sym}
use Rattle.std.proofs.Common.{ap, ◌∙◌, arith, add-one, length-append, drop_at}
use Rattle.std.specs.Prelude.{Option, Some, slice_get}
use Rattle.std.specs.Option.{option_map_or}
use Rattle.std.specs.List.{range_with_len}
use Rattle.std.proofs.lemmas.List.{take_at}
use Rattle.std.proofs.lemmas.List.FromFn.{length-map-range_with_len, get_or-map-range_with_len}
use Rattle.sanlp.specs.Access.{read_count}
use Rattle.sanlp.specs.declared.nest.Nest.{Nest}
use Rattle.sanlp.specs.declared.nest.Statement.{Statement}
use Rattle.sanlp.specs.declared.nest.Tag.{Tag}
use Rattle.sanlp.specs.Points.{points_of}
use Rattle.sanlp.specs.Trace.{trace}
use Rattle.source_tree.specs.Sources.{sources_from, sources_of}
use Rattle.net_core.specs.declared.network.Channel.{Channel}
use Rattle.net_core.specs.declared.network.Network.{Network}
use Rattle.net_core.specs.declared.network.Process.{Process}
use Rattle.channel_plan.specs.declared.plans.ChannelPlan.{ChannelPlan}
use Rattle.channel_plan.specs.Plans.{plans_of, sources_at, turn_count}
use Rattle.channel_plan.proofs.Nests.{turns_are}
use Rattle.plain_data.proofs.Lists.{drop-some}
use Rattle.process_derive.specs.Derived.{channel_of, net, process_of}

abbrev rest_from : Nest → ℕ → List (List (Option Tag))
rest_from n p = sources_from n (trace n) p (drop p n.statements)

abbrev sources_of_reads : Nest → ℕ → ℕ → List (List (Option Tag))
sources_of_reads n p reads = map (sources_at n p) (range_with_len 0 reads)

next_rest : (n : Nest) (p : ℕ) (s : Statement) → slice_get n.statements p ≡ Some s
    → rest_from n p ≡ sources_of_reads n p (length s.reads) ++ rest_from n (p + 1)
next_rest n p s e =
    ap (sources_from n (trace n) p) (drop-some n.statements p s e)
    ∙ ap (λ k. sources_of_reads n p (length s.reads) ++ sources_from n (trace n) (p + 1) (drop k n.statements))
    (sym (add-one p))

pub reads_within : (n : Nest) (p reads : ℕ) (s : Statement) (rest : List (List (Option Tag)))
    → slice_get n.statements p ≡ Some s → reads ≡ length s.reads
    → rest ≡ rest_from n p → reads ≤ length rest
reads_within n p reads s rest e counts is =
    omega (
      arith,
      ap length is,
      ap length (next_rest n p s e),
      length-append (sources_of_reads n p (length s.reads))
          (rest_from n (p + 1)),
      length-map-range_with_len (sources_at n p) 0 (length s.reads),
    )

pub own_sources : (n : Nest) (p reads : ℕ) (s : Statement) (rest own : List (List (Option Tag)))
    → slice_get n.statements p ≡ Some s → reads ≡ length s.reads
    → rest ≡ rest_from n p → own ≡ take reads rest → own ≡ sources_of_reads n p (read_count n p)
own_sources n p reads s rest own e counts is f =
    f ∙ ap (take reads) (is ∙ next_rest n p s e)
    ∙ take_at (sources_of_reads n p (length s.reads)) (rest_from n (p + 1)) reads
    (length-map-range_with_len (sources_at n p) 0 (length s.reads) ∙ sym counts)
    ∙ ap (λ o. sources_of_reads n p (option_map_or (λ (t : Statement). length t.reads) o 0)) (sym e)

pub later_sources : (n : Nest) (p reads : ℕ) (s : Statement) (rest later : List (List (Option Tag)))
    → slice_get n.statements p ≡ Some s → reads ≡ length s.reads
    → rest ≡ rest_from n p → later ≡ drop reads rest → later ≡ rest_from n (p + 1)
later_sources n p reads s rest later e counts is f =
    f ∙ ap (drop reads) (is ∙ next_rest n p s e)
    ∙ drop_at (sources_of_reads n p (length s.reads)) (rest_from n (p + 1)) reads
    (length-map-range_with_len (sources_at n p) 0 (length s.reads) ∙ sym counts)

pub all_sources : (n : Nest) (rest table : List (List (Option Tag))) → rest ≡ table → table ≡ sources_of n
    → rest ≡ rest_from n 0
unfolding sources_of
all_sources n rest table e f = e ∙ f

pub turns_exist : (n : Nest) (p : ℕ) (turns : List ℕ) → turns ≡ map length (points_of n) → p < length n.statements
    → p < length turns
turns_exist n p turns e lt =
    omega (arith, ap length (e ∙ turns_are n), length-map-range_with_len (turn_count n) 0 (length n.statements))

pub turns_there : (n : Nest) (p : ℕ) (turns : List ℕ) → turns ≡ map length (points_of n) → p < length n.statements
    → get_or turns p 0 ≡ turn_count n p
turns_there n p turns e lt =
    ap (λ ts. get_or ts p 0) (e ∙ turns_are n)
    ∙ get_or-map-range_with_len (turn_count n) 0 (length n.statements) p p 0 lt (omega arith)

-- the network of these processes and channels
pub net_made : (n : Nest) (processes : List Process) (channels : List Channel) (plans : List ChannelPlan)
    → processes ≡ map (process_of n) (range_with_len 0 (length n.statements)) → channels ≡ map channel_of plans
    → plans ≡ plans_of n
    → record { processes = processes; channels = channels } ≡ net n
unfolding net
net_made n processes channels plans e f g =
    let make : List Process → List Channel → Network = λ ps cs. record { processes = ps; channels = cs } in
    ap (λ ps. make ps channels) e
    ∙ ap (make (map (process_of n) (range_with_len 0 (length n.statements)))) (f ∙ ap (map channel_of) g)
