use Rattle.std.proofs.Common.{◌≡◌, ◌++◌, ℕ, [], length, get_or, map, ap, sym, ◌∙◌, arith, append_assoc}
use Rattle.std.specs.List.{flat_map, range_with_len}
use Rattle.std.proofs.lemmas.List.{get_or_read, map-append}
use Rattle.channel_plan.specs.Reads.{channels_of, channels_to}
use Rattle.plan_numbers.specs.Numbers.{numbers_of}
use Rattle.plan_numbers.proofs.read.add_numbers_to.Goals as goal
use Rattle.sanlp.proofs.Lists.{flat_map-range_with_len_more}

pub loop-read-preserved : goal.loop-read-preserved
loop-read-preserved c =
    let turns = c.args.turns.now in
    let reads = c.args.reads.now in
    let read = c.loop-read.read in
    let channels = λ (k : ℕ). channels_of turns c.args.reader k (get_or reads k []) in
    let before = flat_map channels (range_with_len 0 read) in
    let source =
    c.as_slice.ensures
    ∙ get_or_read reads read c.index-reads-read.result c.loop-read-test.true c.index-reads-read.is [] in
    c.in_ok-add_numbers_of.ensures
    ∙ ap (λ old. old ++ map numbers_of (channels_of turns c.args.reader read c.as_slice.result.now)) c.loop-read.invariant
    ∙ ap (λ sources. (c.args.numbers.now.items ++ map numbers_of before)
    ++ map numbers_of (channels_of turns c.args.reader read sources)) source
    ∙ append_assoc c.args.numbers.now.items (map numbers_of before) (map numbers_of (channels read))
    ∙ ap (λ new. c.args.numbers.now.items ++ new)
    (sym (map-append numbers_of before (channels read))
    ∙ ap (map numbers_of) (sym (flat_map-range_with_len_more channels 0 read read (omega arith))))

pub returns : goal.returns
unfolding channels_to
returns c =
    let channels = λ (k : ℕ). channels_of c.args.turns.now c.args.reader k (get_or c.args.reads.now k []) in
    let all : c.loop-read.read ≡ length c.args.reads.now = omega arith in
    c.loop-read.invariant
    ∙ ap (λ m. c.args.numbers.now.items ++ map numbers_of (flat_map channels (range_with_len 0 m))) all
