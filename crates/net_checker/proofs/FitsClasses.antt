-- No class is refused exactly where each channel has the class of its uses.
use Rattle.std.proofs.Common.{◌≡◌, ℕ, Bool, true, false, cond, Option, Some, None, length, slice_get, refl, sym, ap}
use Rattle.std.proofs.Common.{ap₂, ◌∙◌}
use Rattle.std.proofs.lemmas.Bool.{and_parts, and_from}
use Rattle.std.proofs.lemmas.Option.{slice_get_within}
use Rattle.channel_class.specs.declared.ChannelClass.{ChannelClass}
use Rattle.channel_class.specs.declared.UseOrder.{UseOrder}
use Rattle.channel_class.specs.declared.UseOrder.TheVariants.{InOrder, Reorder}
use Rattle.net_core.specs.declared.network.Channel.{Channel}
use Rattle.net_core.specs.declared.network.Network.{Network}
use Rattle.net_checker.specs.declared.verdict.Refusal.TheVariants as refusal
use Rattle.net_checker.specs.Classes.{same_order, same_bool, same_class, used_class, channel_refusal, class_refusal}
use Rattle.net_checker.proofs.Choices.{first_none, none_first}
use Rattle.net_checker.proofs.Lists.{passes_where_none}

order_same : (a b : UseOrder) → same_order a b ≡ true → a ≡ b
order_same InOrder InOrder h = refl
order_same InOrder Reorder h = cc
order_same Reorder InOrder h = cc
order_same Reorder Reorder h = refl

bool_same : (a b : Bool) → same_bool a b ≡ true → a ≡ b
bool_same true b h = sym h
bool_same false true h = cc
bool_same false false h = refl

pub class_same : (a b : ChannelClass) → same_class a b ≡ true → a ≡ b
class_same a b h =
    let parts = and_parts (same_order a.order b.order) (same_bool a.multiplicity b.multiplicity) h in
    ap₂ (λ o m. record { order = o; multiplicity = m }) (order_same a.order b.order parts.0)
    (bool_same a.multiplicity b.multiplicity parts.1)

order_itself : (a : UseOrder) → same_order a a ≡ true
order_itself InOrder = refl
order_itself Reorder = refl

bool_itself : (a : Bool) → same_bool a a ≡ true
bool_itself true = refl
bool_itself false = refl

pub class_itself : (a : ChannelClass) → same_class a a ≡ true
class_itself a = and_from _ _ (order_itself a.order) (bool_itself a.multiplicity)

-- each channel has the class of its uses
abbrev pub HaveClasses : Network → Type 0
HaveClasses network =
    (c : ℕ) (channel : Channel) → slice_get network.channels c ≡ Some channel → channel.class ≡ used_class network c

none_class : (network : Network) (c : ℕ) (o : Option Channel) (channel : Channel) → o ≡ Some channel
    → channel_refusal network c o ≡ None → channel.class ≡ used_class network c
none_class network c None channel is h = cc
none_class network c (Some x) channel is h =
    let same : x ≡ channel = cc in
    rw (← same) (class_same x.class (used_class network c)
    (passes_where_none (same_class x.class (used_class network c))
    (refusal.Class c x.class (used_class network c)) h))

pub none_classes : (network : Network) → class_refusal network ≡ None → HaveClasses network
unfolding class_refusal
none_classes network h c channel is =
    none_class network c (slice_get network.channels c) channel is
    (none_first (λ c. channel_refusal network c (slice_get network.channels c)) (length network.channels) h c
    (slice_get_within network.channels c channel is))

class_none : (network : Network) (c : ℕ) (o : Option Channel)
    → ((channel : Channel) → o ≡ Some channel → channel.class ≡ used_class network c)
    → channel_refusal network c o ≡ None
class_none network c None h = refl
class_none network c (Some x) h =
    let is = h x refl in
    let passes : same_class x.class (used_class network c) ≡ true =
    ap (λ a. same_class a (used_class network c)) is ∙ class_itself (used_class network c) in
    ap (λ b. cond b None (Some (refusal.Class c x.class (used_class network c)))) passes

pub classes_none : (network : Network) → HaveClasses network → class_refusal network ≡ None
unfolding class_refusal
classes_none network have =
    first_none (λ c. channel_refusal network c (slice_get network.channels c)) (length network.channels)
    (λ c lt. class_none network c (slice_get network.channels c) (have c))
