-- The checker's lines, computed from the definitions. Each line was spelled by hand.
use Rattle.std.proofs.Common.{◌≡◌, pos, negsuc, true, false, [], ◌∷◌, codes, refl}
use Rattle.std.specs.Prelude.{Some, None}
use Rattle.std.specs.Fmt.{digits}
use Rattle.channel_class.specs.declared.ChannelClass.{ChannelClass}
use Rattle.channel_class.specs.declared.UseOrder.TheVariants.{InOrder, Reorder}
use Rattle.cert_lines.specs.declared.error.CertError.TheVariants as error
use Rattle.int_polyhedra.specs.declared.system.Reason.TheVariants as reason
use Rattle.source_check.specs.declared.verdict.Rule.TheVariants as rule
use Rattle.net_checker.specs.declared.verdict.Refusal.TheVariants as refusal
use Rattle.net_checker.specs.declared.verdict.Seen.TheVariants as seen
use Rattle.net_checker.specs.declared.verdict.Verdict.TheVariants.{Accepted, Refused}
use Rattle.net_checker.specs.declared.verdict.Wanted.TheVariants as wanted
use Rattle.verdict_text.specs.VerdictText.{unread_line, unread_text, verdict_text}

accepted : verdict_text Accepted ≡ codes "accepted\n"
accepted = refl

-- Networks and schedules

shape : verdict_text (Refused (refusal.Shape 3)) ≡ codes "refused Shape 3\n"
unfolding digits
shape = refl

fires : verdict_text (Refused (refusal.Fires 1 12)) ≡ codes "refused Fires 1 12\n"
unfolding digits
fires = refl

not_enabled : verdict_text (Refused (refusal.NotEnabled 15)) ≡ codes "refused NotEnabled 15\n"
unfolding digits
not_enabled = refl

unended : verdict_text (Refused (refusal.Unended 2)) ≡ codes "refused Unended 2\n"
unfolding digits
unended = refl

-- of two loops, of one, and of none; a loop value may be negative

other_point : verdict_text
    (Refused (refusal.Tag 13 (seen.At (record { statement = 0; at = pos 0 ∷ pos 1 ∷ [] }))
    (wanted.At (record { statement = 0; at = pos 1 ∷ pos 0 ∷ [] }))))
    ≡ codes "refused Tag 13 0(0,1) 0(1,0)\n"
unfolding digits
other_point = refl

zero_for_point : verdict_text
    (Refused (refusal.Tag 3 seen.Zero (wanted.At (record { statement = 2; at = negsuc 9 ∷ [] }))))
    ≡ codes "refused Tag 3 zero 2(-10)\n"
unfolding digits
zero_for_point = refl

empty_for_point : verdict_text (Refused (refusal.Tag 2 seen.Empty (wanted.At (record { statement = 0; at = [] }))))
    ≡ codes "refused Tag 2 empty 0()\n"
unfolding digits
empty_for_point = refl

point_for_zero : verdict_text
    (Refused (refusal.Tag 0 (seen.At (record { statement = 1; at = pos 2 ∷ [] })) wanted.Zero))
    ≡ codes "refused Tag 0 1(2) zero\n"
unfolding digits
point_for_zero = refl

abbrev reordered : ChannelClass
reordered = record { order = Reorder; multiplicity = true }

abbrev in_order : ChannelClass
in_order = record { order = InOrder; multiplicity = false }

-- what is said comes first
class : verdict_text (Refused (refusal.Class 1 reordered in_order))
    ≡ codes "refused Class 1 reorder+ inorder\n"
unfolding digits
class = refl

-- Trees

no_writer : verdict_text (Refused (refusal.Source 1 0 (rule.NoWriter 0))) ≡ codes "refused Source 1 0 NoWriter 0\n"
unfolding digits
no_writer = refl

bad_form : verdict_text (Refused (refusal.Source 1 0 (rule.BadForm 0))) ≡ codes "refused Source 1 0 BadForm 0\n"
unfolding digits
bad_form = refl

-- four proofs, and five are wanted
few_proofs : verdict_text (Refused (refusal.Source 1 0 (rule.Proofs 0 4 5))) ≡ codes "refused Source 1 0 Proofs 0 4 5\n"
unfolding digits
few_proofs = refl

-- proof 4 of leaf 0 names row 7: the number that the reason keeps isn't told
no_such_row : verdict_text (Refused (refusal.Source 1 0 (rule.Proof 0 4 (reason.BadIndex 7))))
    ≡ codes "refused Source 1 0 Proof 0 4 BadIndex\n"
unfolding digits
no_such_row = refl

overflow : verdict_text (Refused (refusal.Source 3 1 (rule.Overflow 20))) ≡ codes "refused Source 3 1 Overflow 20\n"
unfolding digits
overflow = refl

-- Texts that can't be read

line : unread_text (error.Line 25) ≡ Some (codes "refused Line 25\n")
unfolding digits
line = refl

number : unread_text (error.Number 17) ≡ Some (codes "refused Number 17\n")
unfolding digits
number = refl

truncated : unread_text error.Truncated ≡ Some (codes "refused Truncated\n")
truncated = refl

deep : unread_text (error.Deep 529) ≡ Some (codes "refused Deep 529\n")
unfolding digits
deep = refl

long : unread_text (error.Long 0) ≡ Some (codes "refused Long 0\n")
unfolding digits
long = refl

-- want of memory is no reason, and nothing is written
memory : unread_text error.Memory ≡ None
memory = refl

nothing_is_written : unread_line error.Memory ≡ []
nothing_is_written = refl
