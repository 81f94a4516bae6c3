-- The numbers of the channels of a read, writer by writer.
--
-- The invariant is that the processes so far have their channels: one for each of which some source is. A process that has turns
-- among the sources is such a writer, and adds the numbers of its channel; one that has none is none. At the end these are all
-- processes.
use Rattle.std.proofs.Common.{◌≡◌, ◌<◌, ◌++◌, ◌∷◌, [], ℕ, Bool, true, false, map, length, get_or, sym, ap, ap₂, ◌∙◌, arith}
use Rattle.std.proofs.Common.{append_assoc}
use Rattle.std.specs.List.{list_any}
use Rattle.std.proofs.lemmas.List.{get_or_read}
use Rattle.std.proofs.lemmas.List.Elements.{All-same}
use Rattle.std.proofs.lemmas.List.FromFn.{get_or-map-range_with_len, length-map-range_with_len}
use Rattle.channel_plan.specs.Reads.{channel_of, channels_of}
use Rattle.channel_plan.specs.Tokens.{is_from, turns_used, writers_of}
use Rattle.channel_plan.proofs.Channels.{turns_within}
use Rattle.plan_numbers.specs.Numbers.{numbers_of}
use Rattle.plan_numbers.specs.Used.{numbers_by}
use Rattle.plan_numbers.proofs.Channels.{is_writer, no_writer, numbers_more, numbers_same, numbers_told}
use Rattle.plan_numbers.proofs.read.add_numbers_of.Goals as goal
use Rattle.plan_numbers.proofs.read.add_numbers_of.Goals.{else-not-is_empty}
use Rattle.plan_numbers.proofs.read.add_numbers_of.Goals.{then-not-is_empty+in_ok-channel_numbers+in_ok-push}

pub bounds-turns-writer : goal.bounds-turns-writer
bounds-turns-writer c =
    omega (
      arith,
      ap length (c.deref-used-items.ensures.value ∙ c.in_ok-lists.ensures),
      length-map-range_with_len (λ w. turns_used w c.args.sources.now) 0 (length c.args.turns.now),
      c.loop-writer-test.true,
    )

pub overflow_cast-writer : goal.overflow_cast-writer
overflow_cast-writer c =
    omega (
      arith,
      ap length (c.deref-used-items.ensures.value ∙ c.in_ok-lists.ensures),
      length-map-range_with_len (λ w. turns_used w c.args.sources.now) 0 (length c.args.turns.now),
      c.loop-writer-test.true,
      c.requires.few.processes,
    )

pub channel_numbers-requires-clause-within : goal.channel_numbers-requires-clause-within
channel_numbers-requires-clause-within c =
    let turns = c.args.turns.now in
    let sources = c.args.sources.now in
    let w = c.loop-writer.writer in
    let lists = c.deref-used-items.ensures.value ∙ c.in_ok-lists.ensures in
    let many = ap length lists ∙ length-map-range_with_len (λ w. turns_used w sources) 0 (length turns) in
    let used : c.used-item.result ≡ turns_used w sources =
    get_or_read c.deref-used-items.result.now w c.used-item.result c.loop-writer-test.true c.used-item.is []
    ∙ ap (λ xs. get_or xs w []) lists
    ∙ get_or-map-range_with_len (λ w. turns_used w sources) 0 (length turns) w w [] (omega (arith, many)) (omega arith) in
    All-same (λ turn. turn < get_or turns w 0) c.as_slice.result.now (turns_used w sources) (c.as_slice.ensures ∙ used)
    (turns_within turns w sources c.requires.among)

pub loop-writer-preserved : goal.loop-writer-preserved
loop-writer-preserved c =
    let turns = c.args.turns.now in
    let sources = c.args.sources.now in
    let old = c.args.numbers.now.items in
    let w = c.loop-writer.writer in
    let lists = c.deref-used-items.ensures.value ∙ c.in_ok-lists.ensures in
    let many = ap length lists ∙ length-map-range_with_len (λ w. turns_used w sources) 0 (length turns) in
    let used : c.used-item.result ≡ turns_used w sources =
    get_or_read c.deref-used-items.result.now w c.used-item.result c.loop-writer-test.true c.used-item.is []
    ∙ ap (λ xs. get_or xs w []) lists
    ∙ get_or-map-range_with_len (λ w. turns_used w sources) 0 (length turns) w w [] (omega (arith, many)) (omega arith) in
    let channel = λ (v : ℕ). channel_of c.args.reader c.args.read sources (get_or turns v 0) v in
    let keep : ℕ → Bool = λ v. list_any (is_from v) sources in
    elim c.if-not-is_empty.branch [
      | then-not-is_empty+in_ok-channel_numbers+in_ok-push v ↦
          let some : keep w ≡ true =
          is_writer w sources
          (λ none. (let empty = c.is_empty.ensures.1 (used ∙ none) in
          let full : c.is_empty.result ≡ false = v.if-not-is_empty.true in cc)) in
          ap (λ v. v.items) v.numbers-is
          ∙ v.in_ok-push.ensures.items
          ∙ ap₂ (λ xs x. xs ++ x ∷ []) c.loop-writer.invariant
          (v.in_ok-channel_numbers.ensures
          ∙ ap (numbers_by c.args.reader c.args.read w (get_or turns w 0)) (v.as_slice.ensures ∙ used)
          ∙ numbers_told c.args.reader c.args.read (get_or turns w 0) w sources)
          ∙ append_assoc old _ (numbers_of (channel w) ∷ [])
          ∙ ap (λ xs. old ++ xs) (sym (numbers_more channel keep w some))
      | else-not-is_empty v ↦
          let none : keep w ≡ false =
          no_writer w sources
          (sym used ∙ c.is_empty.ensures.0 v.if-not-is_empty.false) in
          ap (λ v. v.items) v.numbers-is
          ∙ c.loop-writer.invariant
          ∙ ap (λ xs. old ++ xs) (sym (numbers_same channel keep w none))
    ]

pub returns : goal.returns
unfolding channels_of
returns c =
    let channel = λ (w : ℕ). channel_of c.args.reader c.args.read c.args.sources.now (get_or c.args.turns.now w 0) w in
    let all : c.loop-writer.writer ≡ length c.args.turns.now =
    omega (
      arith,
      ap length (c.deref-used-items.ensures.value ∙ c.in_ok-lists.ensures),
      length-map-range_with_len (λ w. turns_used w c.args.sources.now) 0 (length c.args.turns.now),
      c.loop-writer-test.false,
      c.loop-writer.auto.writer-end,
    ) in
    c.loop-writer.invariant
    ∙ ap (λ m. c.args.numbers.now.items ++ map numbers_of (map channel (writers_of m c.args.sources.now))) all
