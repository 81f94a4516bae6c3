use Rattle.std.proofs.Common.{◌≡◌, ◌∙◌, ◌++◌, ◌∷◌, [], ℕ, List, Some, sym, ap, get_or, slice_get, eqb, Bool, false}
use Rattle.std.specs.Option.{option_map_or}
use Rattle.std.proofs.lemmas.Bool.{eq-eqb, ne_eqb}
use Rattle.std.proofs.lemmas.Option.{slice_get-get_or}
use Rattle.channel_class.specs.declared.UseOrder.TheVariants.{InOrder}
use Rattle.net_core.specs.declared.network.Channel.{Channel}
use Rattle.net_core.specs.Machine.{net_of}
use Rattle.node_automata.proofs.NumberFilters.{passing_more, passing_same}
use Rattle.node_automata.proofs.node.channels_out.Goals as goal
use Rattle.node_automata.proofs.node.channels_out.Goals.{then-channel-process+in_ok-push, else-channel-process}

pub loop-number-preserved : goal.loop-number-preserved
loop-number-preserved c =
    let n = c.loop-number.number in
    let p = c.args.process in
    let channels = c.args.network.now.channels in
    let items = c.as_slice-channel-items.result.now in
    let test : ℕ → Bool = λ k. eqb ((net_of c.args.network.now).writer k) p in
    let none : Channel =
    record { writer = 0; reader = 0; read = 0; capacity = 0; class = record { order = InOrder; multiplicity = false } }
    in
    let channel = get_or items n none in
    let found : slice_get channels n ≡ Some channel =
    ap (λ list. slice_get list n) (sym c.as_slice-channel-items.ensures)
    ∙ slice_get-get_or items n none c.loop-number-test.true in
    let is : test n ≡ eqb channel.writer p =
    ap (λ o. eqb (option_map_or (λ (channel : Channel). channel.writer) o 0) p) found in
    elim c.if-channel-process.branch [
      | then-channel-process+in_ok-push w ↦
          w.puts-is ∙ w.in_ok-push.ensures.ok ∙ ap (λ (xs : List ℕ). xs ++ n ∷ []) c.loop-number.invariant
          ∙ sym (passing_more test n (is ∙ eq-eqb _ _ w.if-channel-process.true))
      | else-channel-process w ↦ w.puts-is ∙ c.loop-number.invariant
          ∙ sym (passing_same test n (is ∙ ne_eqb _ _ w.if-channel-process.false))
    ]
