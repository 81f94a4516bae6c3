-- The line that the checker's answer is told by.
use Rattle.std.specs.Prelude.{ℕ, List, [], ◌∷◌, Option, Some, None, codes, decimal, unwrap_or}
use Rattle.cert_lines.specs.declared.error.CertError.{CertError}
use Rattle.cert_lines.specs.declared.error.CertError.TheVariants as error
use Rattle.int_polyhedra.specs.declared.system.Reason.{Reason}
use Rattle.int_polyhedra.specs.declared.system.Reason.TheVariants as reason
use Rattle.source_check.specs.declared.verdict.Rule.{Rule}
use Rattle.source_check.specs.declared.verdict.Rule.TheVariants as rule
use Rattle.net_checker.specs.declared.verdict.Refusal.{Refusal}
use Rattle.net_checker.specs.declared.verdict.Refusal.TheVariants.{Shape, Fires, Source, NotEnabled, Tag, Unended, Class}
use Rattle.net_checker.specs.declared.verdict.Seen.{Seen}
use Rattle.net_checker.specs.declared.verdict.Seen.TheVariants as seen
use Rattle.net_checker.specs.declared.verdict.Verdict.{Verdict}
use Rattle.net_checker.specs.declared.verdict.Verdict.TheVariants.{Accepted, Refused}
use Rattle.net_checker.specs.declared.verdict.Wanted.{Wanted}
use Rattle.net_checker.specs.declared.verdict.Wanted.TheVariants as wanted
use Rattle.text_out.specs.Words.{line_text}
use Rattle.net_text.specs.NetworkText.{class_word}
use Rattle.point_text.specs.PointText.{point_text}

-- what a reference names
abbrev pub seen_word : Seen → List ℕ
seen_word seen.Zero = codes "zero"
seen_word seen.Empty = codes "empty"
seen_word (seen.At point) = point_text point

-- what its read wants
abbrev pub wanted_word : Wanted → List ℕ
wanted_word wanted.Zero = codes "zero"
wanted_word (wanted.At point) = point_text point

-- the name of the reason why a proof doesn't refute its system
abbrev pub reason_word : Reason → List ℕ
reason_word (reason.BadIndex number) = codes "BadIndex"
reason_word (reason.Negative value) = codes "Negative"
reason_word (reason.NotContradictory row) = codes "NotContradictory"
reason_word (reason.NotDivisible value) = codes "NotDivisible"
reason_word reason.Overflow = codes "Overflow"

-- the name of the rule that refuses a tree with what it keeps
abbrev pub rule_words : Rule → List (List ℕ)
rule_words (rule.BadForm leaf) = codes "BadForm" ∷ decimal leaf ∷ []
rule_words (rule.NoWriter leaf) = codes "NoWriter" ∷ decimal leaf ∷ []
rule_words (rule.Proofs leaf got want) =
    codes "Proofs" ∷ decimal leaf ∷ decimal got ∷ decimal want ∷ []
rule_words (rule.Proof leaf number reason) =
    codes "Proof" ∷ decimal leaf ∷ decimal number ∷ reason_word reason ∷ []
rule_words (rule.Overflow turn) = codes "Overflow" ∷ decimal turn ∷ []

-- the name of the reason with what it keeps
abbrev pub refusal_words : Refusal → List (List ℕ)
refusal_words (Shape process) = codes "Shape" ∷ decimal process ∷ []
refusal_words (Fires process place) = codes "Fires" ∷ decimal process ∷ decimal place ∷ []
refusal_words (Source statement read rule) =
    codes "Source" ∷ decimal statement ∷ decimal read ∷ rule_words rule
refusal_words (NotEnabled entry) = codes "NotEnabled" ∷ decimal entry ∷ []
refusal_words (Tag entry found want) =
    codes "Tag" ∷ decimal entry ∷ seen_word found ∷ wanted_word want ∷ []
refusal_words (Unended process) = codes "Unended" ∷ decimal process ∷ []
refusal_words (Class channel said is) =
    codes "Class" ∷ decimal channel ∷ class_word said ∷ class_word is ∷ []

abbrev pub refused_line : List (List ℕ) → List ℕ
refused_line words = line_text (codes "refused" ∷ words)

-- `accepted`, or `refused` with the reason
abbrev pub verdict_text : Verdict → List ℕ
verdict_text Accepted = line_text (codes "accepted" ∷ [])
verdict_text (Refused refusal) = refused_line (refusal_words refusal)

-- `refused` with the reason why a text is none of a network with its certificate; want of memory is no such reason
abbrev pub unread_text : CertError → Option (List ℕ)
unread_text (error.Line line) = Some (refused_line (codes "Line" ∷ decimal line ∷ []))
unread_text (error.Number line) = Some (refused_line (codes "Number" ∷ decimal line ∷ []))
unread_text error.Truncated = Some (refused_line (codes "Truncated" ∷ []))
unread_text (error.Deep line) = Some (refused_line (codes "Deep" ∷ decimal line ∷ []))
unread_text (error.Long process) = Some (refused_line (codes "Long" ∷ decimal process ∷ []))
unread_text error.Memory = None

-- what is written of a text that can't be read: the line of its reason, or nothing where there is none
abbrev pub unread_line : CertError → List ℕ
unread_line error = unwrap_or (unread_text error) []
