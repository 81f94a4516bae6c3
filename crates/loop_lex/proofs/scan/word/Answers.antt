use Rattle.std.proofs.Common.{◌≡◌, if◌then◌else◌, take}
use Rattle.loop_lex.specs.Lexical.{is_letter_or_digit, is_reserved}
use Rattle.loop_lex.specs.declared.token.TokenKind.TheVariants.{Name, Reserved}
use Rattle.loop_lex.proofs.Longest.{word_found, prefix_within}
use Rattle.loop_lex.proofs.scan.word.Goals as goal

pub split_at-requires : goal.split_at-requires
split_at-requires c = rw c.word_length-length.ensures (prefix_within is_letter_or_digit c.args.bytes.now)

pub returns : goal.returns
returns c =
    let found = word_found c.args.bytes.now c.requires in
    let kind : c.word_kind.result ≡ (if is_reserved c.split_at.result.0.now then Reserved else Name) =
    c.word_kind.ensures in
    let text : c.split_at.result.0.now ≡ take c.word_length-length.result c.args.bytes.now = c.split_at.ensures.front in
    rw (kind, text, c.word_length-length.ensures) (found.long, found.kind)
