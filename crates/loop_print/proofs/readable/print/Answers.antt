use Rattle.loop_print.proofs.Texts.{text_is_read}
use Rattle.loop_print.proofs.readable.print.Goals as goal

pub returns : goal.returns
returns c = text_is_read c.args.tree.now c.in_ok-text.text.items c.tokens_are_in_order.ensures
    c.spaced_tokens_are_read_back.ensures.read c.spaced_tokens_are_read_back.ensures.texts c.requires
    c.in_ok-text.ensures
