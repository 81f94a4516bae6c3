use Rattle.std.proofs.Common.{◌∙◌, ◌++◌, [], ap, map, sym, arith, length}
use Rattle.std.specs.List.{flat_map}
use Rattle.std.proofs.lemmas.List.{append-nil, get_or_read}
use Rattle.process_derive.specs.Scripts.{gets_of, ref_of}
use Rattle.process_derive.specs.Uses.{read_uses, usages_at, uses_by_read}
use Rattle.process_derive.proofs.Points.{exists_here, few_here, fits_here, found_here, of_read, passing_first}
use Rattle.process_derive.proofs.Points.{named_here, passed_all, passing_last, passing_more, source_here, use_here}
use Rattle.process_derive.proofs.Points.{uses_here}
use Rattle.process_derive.proofs.Usages.{few_refs, gets_more, refs_more}
use Rattle.process_derive.proofs.events.add_uses.Goals as goal

pub loop-read-init : goal.loop-read-init
loop-read-init c = record {
  gets = sym (append-nil c.args.events.now);
  refs = c.empty-refs.ensures;
  counts = passing_first c.args.sources.now c.args.processes c.args.turn c.args.counts.now.items c.requires.counted;
}

pub source_at-requires : goal.source_at-requires
source_at-requires c =
    let sources = c.args.sources.now in
    let i = c.loop-read.read in
    let list = get_or_read sources i _ c.loop-read-test.true c.index-sources-read.is [] in
    omega (arith, ap length list, c.requires.there i c.loop-read-test.true)

pub next_use-found-requires-clause-exists : goal.next_use-found-requires-clause-exists
next_use-found-requires-clause-exists c =
    let sources = c.args.sources.now in
    let i = c.loop-read.read in
    let list = get_or_read sources i _ c.loop-read-test.true c.index-sources-read.is [] in
    exists_here sources c.args.processes c.args.turn i c.source_at.result c.loop-read.counts.items
    c.loop-read.invariant.counts c.loop-read-test.true
    (source_here sources c.args.processes c.args.turn i _ c.source_at.result list c.source_at.ensures
    (c.requires.exist i c.args.turn))

pub next_use-found-requires-clause-few : goal.next_use-found-requires-clause-few
next_use-found-requires-clause-few c =
    let sources = c.args.sources.now in
    let i = c.loop-read.read in
    let list = get_or_read sources i _ c.loop-read-test.true c.index-sources-read.is [] in
    few_here sources c.args.processes c.args.turn i 4294967295 c.source_at.result c.loop-read.counts.items
    c.loop-read.invariant.counts c.loop-read-test.true
    (source_here sources c.args.processes c.args.turn i _ c.source_at.result list c.source_at.ensures
    (c.requires.exist i c.args.turn)) c.requires.turn

pub next_use-found-requires-clause-read : goal.next_use-found-requires-clause-read
next_use-found-requires-clause-read c =
    omega (arith, c.loop-read.counts.ok.0, c.loop-read.invariant.counts.reads, c.loop-read-test.true)

pub next_use-found-requires-clause-few_reads : goal.next_use-found-requires-clause-few_reads
next_use-found-requires-clause-few_reads c =
    omega (arith, c.loop-read.counts.ok.0, c.loop-read.invariant.counts.reads, c.requires.few)

pub add_use-requires : goal.add_use-requires
add_use-requires c =
    let sources = c.args.sources.now in
    let i = c.loop-read.read in
    let f = c.args.turn in
    let list = get_or_read sources i _ c.loop-read-test.true c.index-sources-read.is [] in
    let below = source_here sources c.args.processes f i _ c.source_at.result list c.source_at.ensures
    (c.requires.exist i f) in
    let here = named_here sources f i _ c.source_at.result list c.source_at.ensures
    (c.requires.there i c.loop-read-test.true) in
    fits_here c.args.plans.now c.args.incoming.now (of_read sources i) i f c.next_use-found.result
    (found_here c.args.incoming.now sources c.args.processes f i c.source_at.result c.loop-read.counts.items
    c.next_use-found.result c.loop-read.invariant.counts c.loop-read-test.true here below c.next_use-found.ensures.found)
    (c.requires.fit i f)

pub push-requires : goal.push-requires
push-requires c =
    omega (
      arith,
      few_refs c.args.plans.now (uses_by_read c.args.incoming.now c.args.sources.now) c.loop-read.read c.args.turn
          c.loop-read.refs c.loop-read.invariant.refs,
      c.loop-read-test.true,
      c.requires.few,
    )

pub loop-read-preserved : goal.loop-read-preserved
loop-read-preserved c =
    let sources = c.args.sources.now in
    let plans = c.args.plans.now in
    let incoming = c.args.incoming.now in
    let i = c.loop-read.read in
    let f = c.args.turn in
    let found = c.next_use-found.result in
    let list = get_or_read sources i _ c.loop-read-test.true c.index-sources-read.is [] in
    let below = source_here sources c.args.processes f i _ c.source_at.result list c.source_at.ensures
    (c.requires.exist i f) in
    let here = named_here sources f i _ c.source_at.result list c.source_at.ensures
    (c.requires.there i c.loop-read-test.true) in
    let is = found_here incoming sources c.args.processes f i c.source_at.result c.loop-read.counts.items
    found c.loop-read.invariant.counts c.loop-read-test.true here below c.next_use-found.ensures.found in
    let used = use_here incoming (of_read sources i) i f found (c.requires.there i c.loop-read-test.true) is in
    let at = uses_here incoming sources i c.loop-read-test.true in
    let uses = uses_by_read incoming sources in
    record {
      gets = gets_more plans uses i f (read_uses incoming i (of_read sources i)) found c.args.events.now
          c.loop-read.events c.add_use.new.events at used c.loop-read.invariant.gets c.in_ok-add_use.ensures.gets;
      refs = refs_more plans uses i f (read_uses incoming i (of_read sources i)) found c.in_ok-add_use.field-0
          c.loop-read.refs c.push.new.self at used c.in_ok-add_use.ensures.named c.loop-read.invariant.refs
          c.push.ensures;
      counts = passing_more sources c.args.processes f i c.source_at.result c.loop-read.counts.items
          c.next_use-found.new.counts.items c.loop-read.invariant.counts c.loop-read-test.true here below
          c.next_use-found.ensures.counted;
    }

pub returns : goal.returns
returns c =
    let sources = c.args.sources.now in
    let plans = c.args.plans.now in
    let f = c.args.turn in
    let all = passed_all c.args.incoming.now sources c.loop-read.read (omega arith) in
    record {
      gets = c.loop-read.invariant.gets
          ∙ ap (λ uses. c.args.events.now ++ flat_map gets_of (usages_at plans uses f)) all;
      refs = c.loop-read.invariant.refs ∙ ap (λ uses. map ref_of (usages_at plans uses f)) all;
      counted = passing_last sources c.args.processes f c.loop-read.read c.loop-read.counts.items
          c.loop-read.invariant.counts (omega arith);
    }
