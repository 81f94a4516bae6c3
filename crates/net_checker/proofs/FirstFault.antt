-- What the code found is wrong first.
--
-- But for a shape that is wrong as a whole, a refusal is what the least number gives that gives anything:
-- the least process, place or channel at which a test fails. The code goes up from 0. Where it stops at a
-- number, the test fails there and fails at no lesser one, so what it answers is the definition's
-- (`first_found` of Choices); where it comes to the end, none of these is refused. For the fires it counts
-- the Fires that it passes, and before each place that is the count of the definition (`fired_yes`,
-- `fired_no`), so it makes the same test. What a refusal says of the network isn't a matter of this file.
use Rattle.std.proofs.Common.{◌≡◌, ℕ, suc, ◌+◌, ◌^◌, take, ◌<◌, ◌≤◌, true, false, cond, ltb, Option}
use Rattle.std.proofs.Common.{Some, None, List, [], length, slice_get, get_or, count_by, sym, ap, ◌∙◌, arith}
use Rattle.std.proofs.lemmas.Bool.{le-ltb, lt-ltb, cond-true, cond-false}
use Rattle.std.proofs.lemmas.Option.{slice_get_within, slice_get-get_or, get_or_from_slice_get}
use Rattle.channel_class.specs.declared.ChannelClass.{ChannelClass}
use Rattle.net_core.specs.declared.network.Channel.{Channel}
use Rattle.std.specs.Option.{option_or}
use Rattle.std.proofs.Math.Seq.{take-length}
use Rattle.sanlp.specs.declared.nest.Nest.{Nest}
use Rattle.sanlp.specs.Points.{points_of}
use Rattle.source_tree.specs.declared.cert.Cert.{Cert}
use Rattle.net_core.specs.declared.network.Event.{Event}
use Rattle.net_core.specs.declared.network.Network.{Network}
use Rattle.net_core.specs.Machine.{Net, net_of}
use Rattle.net_core.specs.Shape.{fires, is_fire, turns, FitsNumbers}
use Rattle.net_core.proofs.EventCounts.{count_next}
use Rattle.net_core.proofs.Ready.{length-script-le}
use Rattle.net_checker.specs.declared.verdict.Refusal.{Refusal}
use Rattle.net_checker.specs.declared.verdict.Refusal.TheVariants as refusal
use Rattle.net_checker.specs.Choice.{first_below}
use Rattle.net_checker.specs.Shapes.{agrees, keeps_shape, process_shape, shape_refusal}
use Rattle.net_checker.specs.Firings.{may_stand, event_firing, process_firing, firing_refusal}
use Rattle.net_checker.specs.Classes.{same_class, used_class, channel_refusal, class_refusal}
use Rattle.net_checker.proofs.Choices.{first_found, first_none}

-- Shape

pub whole_wrong : (n : Nest) (network : Network) (cert : Cert) → agrees n network cert ≡ false
    → Some (refusal.Shape (length n.statements)) ≡ shape_refusal n network cert
unfolding shape_refusal
whole_wrong n network cert h =
    sym (ap (λ b.
    option_or (cond b None (Some (refusal.Shape (length n.statements))))
    (first_below (process_shape (net_of network)) (length network.processes))) h)

shape_rest : (n : Nest) (network : Network) (cert : Cert) → agrees n network cert ≡ true
    → first_below (process_shape (net_of network)) (length network.processes) ≡ shape_refusal n network cert
unfolding shape_refusal
shape_rest n network cert h =
    sym (ap (λ b.
    option_or (cond b None (Some (refusal.Shape (length n.statements))))
    (first_below (process_shape (net_of network)) (length network.processes))) h)

pub process_wrong : (n : Nest) (network : Network) (cert : Cert) (p : ℕ) → agrees n network cert ≡ true
    → p < length network.processes → ((q : ℕ) → q < p → process_shape (net_of network) q ≡ None)
    → keeps_shape (net_of network) p ≡ false → Some (refusal.Shape p) ≡ shape_refusal n network cert
process_wrong n network cert p whole lt before wrong =
    sym (first_found (process_shape (net_of network)) (length network.processes) p (refusal.Shape p) before lt
    (ap (λ b. cond b None (Some (refusal.Shape p))) wrong)) ∙ shape_rest n network cert whole

pub shape_fine : (n : Nest) (network : Network) (cert : Cert) → agrees n network cert ≡ true
    → ((q : ℕ) → q < length network.processes → process_shape (net_of network) q ≡ None)
    → None ≡ shape_refusal n network cert
shape_fine n network cert whole each =
    sym (first_none (process_shape (net_of network)) (length network.processes) each) ∙ shape_rest n network cert whole

-- Fires

pub event_fine : (n : Nest) (net : Net) (p k before : ℕ) (o : Option Event) (e : Event) → o ≡ Some e
    → before ≡ fires net p k → may_stand n net p before e ≡ true → event_firing n net p k o ≡ None
event_fine n net p k before o e is many h =
    ap (event_firing n net p k) is
    ∙ ap (λ b. cond b None (Some (refusal.Fires p k))) (ap (λ f. may_stand n net p f e) (sym many) ∙ h)

event_wrong : (n : Nest) (net : Net) (p k before : ℕ) (o : Option Event) (e : Event) → o ≡ Some e
    → before ≡ fires net p k → may_stand n net p before e ≡ false → event_firing n net p k o ≡ Some (refusal.Fires p k)
event_wrong n net p k before o e is many h =
    ap (event_firing n net p k) is
    ∙ ap (λ b. cond b None (Some (refusal.Fires p k))) (ap (λ f. may_stand n net p f e) (sym many) ∙ h)

abbrev at_place : Nest → Net → ℕ → ℕ → Option Refusal
at_place n net p k = event_firing n net p k (slice_get (net.script p) k)

pub place_wrong : (n : Nest) (net : Net) (p k before : ℕ) (e : Event) → k < length (net.script p)
    → slice_get (net.script p) k ≡ Some e → before ≡ fires net p k → may_stand n net p before e ≡ false
    → ((j : ℕ) → j < k → event_firing n net p j (slice_get (net.script p) j) ≡ None)
    → Some (refusal.Fires p k) ≡ process_firing n net p
place_wrong n net p k before e lt is many wrong fine =
    let found =
    first_found (at_place n net p) (length (net.script p)) k (refusal.Fires p k) fine lt
    (event_wrong n net p k before (slice_get (net.script p) k) e is many wrong) in
    sym (ap (λ o.
    option_or o (cond (ltb (count_by is_fire (net.script p)) (turns (points_of n) p))
    (Some (refusal.Fires p (length (net.script p)))) None)) found)

process_rest : (n : Nest) (net : Net) (p : ℕ)
    → ((j : ℕ) → j < length (net.script p) → event_firing n net p j (slice_get (net.script p) j) ≡ None)
    → cond (ltb (count_by is_fire (net.script p)) (turns (points_of n) p))
    (Some (refusal.Fires p (length (net.script p)))) None ≡ process_firing n net p
process_rest n net p fine =
    sym (ap (λ o.
    option_or o (cond (ltb (count_by is_fire (net.script p)) (turns (points_of n) p))
    (Some (refusal.Fires p (length (net.script p)))) None))
    (first_none (at_place n net p) (length (net.script p)) fine))

pub few_fires : (n : Nest) (net : Net) (p : ℕ)
    → ((j : ℕ) → j < length (net.script p) → event_firing n net p j (slice_get (net.script p) j) ≡ None)
    → count_by is_fire (net.script p) < turns (points_of n) p
    → Some (refusal.Fires p (length (net.script p))) ≡ process_firing n net p
few_fires n net p fine lt =
    sym (ap (λ b. cond b (Some (refusal.Fires p (length (net.script p)))) None)
    (lt-ltb (count_by is_fire (net.script p)) (turns (points_of n) p) lt)) ∙ process_rest n net p fine

pub enough_fires : (n : Nest) (net : Net) (p : ℕ)
    → ((j : ℕ) → j < length (net.script p) → event_firing n net p j (slice_get (net.script p) j) ≡ None)
    → turns (points_of n) p ≤ count_by is_fire (net.script p) → None ≡ process_firing n net p
enough_fires n net p fine le =
    sym (ap (λ b. cond b (Some (refusal.Fires p (length (net.script p)))) None)
    (le-ltb (count_by is_fire (net.script p)) (turns (points_of n) p) le)) ∙ process_rest n net p fine

pub firing_found : (n : Nest) (network : Network) (p : ℕ) (x : Refusal) → p < length network.processes
    → ((q : ℕ) → q < p → process_firing n (net_of network) q ≡ None) → process_firing n (net_of network) p ≡ Some x
    → Some x ≡ firing_refusal n network
unfolding firing_refusal
firing_found n network p x lt before is =
    sym (first_found (process_firing n (net_of network)) (length network.processes) p x before lt is)

pub firing_fine : (n : Nest) (network : Network)
    → ((q : ℕ) → q < length network.processes → process_firing n (net_of network) q ≡ None)
    → None ≡ firing_refusal n network
unfolding firing_refusal
firing_fine n network each = sym (first_none (process_firing n (net_of network)) (length network.processes) each)

-- the fires counted so far, one event later
pub fired_yes : (net : Net) (p k : ℕ) (e : Event) (before now : ℕ) → slice_get (net.script p) k ≡ Some e
    → before ≡ fires net p k → is_fire e ≡ true → now ≡ before + 1 → now ≡ fires net p (k + 1)
fired_yes net p k e before now is counted fire more =
    let one : cond {A = ℕ} (is_fire e) 1 0 ≡ 1 = cond-true (is_fire e) 1 0 fire in
    let there : suc k ≡ k + 1 = omega arith in
    let next : now ≡ fires net p (suc k) = omega (arith, count_next is_fire (net.script p) k e is) in
    next ∙ ap (fires net p) there

pub fired_no : (net : Net) (p k : ℕ) (e : Event) (before now : ℕ) → slice_get (net.script p) k ≡ Some e
    → before ≡ fires net p k → is_fire e ≡ false → now ≡ before → now ≡ fires net p (k + 1)
fired_no net p k e before now is counted other same =
    let none : cond {A = ℕ} (is_fire e) 1 0 ≡ 0 = cond-false (is_fire e) 1 0 other in
    let there : suc k ≡ k + 1 = omega arith in
    let next : now ≡ fires net p (suc k) = omega (arith, count_next is_fire (net.script p) k e is) in
    next ∙ ap (fires net p) there

-- all fires, at the script's end
pub fired_all : (net : Net) (p k before : ℕ) → length (net.script p) ≡ k → before ≡ fires net p k
    → before ≡ count_by is_fire (net.script p)
fired_all net p k before end counted =
    counted ∙ ap (λ j. count_by is_fire (take j (net.script p))) (sym end)
    ∙ ap (count_by is_fire) (take-length (net.script p))

-- every script is short
pub script_short : (net : Net) (p : ℕ) → FitsNumbers net → p < net.processes → length (net.script p) < 2 ^ 32
script_short net p numbers lt = omega (arith, numbers.events, length-script-le net p net.processes lt)

-- Classes

abbrev at_channel : Network → ℕ → Option Refusal
at_channel network c = channel_refusal network c (slice_get network.channels c)

pub channel_fine : (network : Network) (c : ℕ) (channel : Channel) (class : ChannelClass)
    → slice_get network.channels c ≡ Some channel → class ≡ used_class network c → same_class channel.class class ≡ true
    → channel_refusal network c (slice_get network.channels c) ≡ None
channel_fine network c channel class is used same =
    ap (channel_refusal network c) is
    ∙ ap (λ b. cond b None (Some (refusal.Class c channel.class (used_class network c))))
    (ap (same_class channel.class) (sym used) ∙ same)

pub channel_wrong : (network : Network) (c : ℕ) (channel : Channel) (class : ChannelClass)
    → slice_get network.channels c ≡ Some channel → class ≡ used_class network c
    → same_class channel.class class ≡ false
    → ((d : ℕ) → d < c → channel_refusal network d (slice_get network.channels d) ≡ None)
    → Some (refusal.Class c channel.class class) ≡ class_refusal network
unfolding class_refusal
channel_wrong network c channel class is used differs before =
    let here : at_channel network c ≡ Some (refusal.Class c channel.class class) =
    ap (channel_refusal network c) is
    ∙ ap (λ b. cond b None (Some (refusal.Class c channel.class (used_class network c))))
    (ap (same_class channel.class) (sym used) ∙ differs)
    ∙ ap (λ k. Some (refusal.Class c channel.class k)) (sym used) in
    sym (first_found (at_channel network) (length network.channels) c (refusal.Class c channel.class class) before
    (slice_get_within network.channels c channel is) here)

pub classes_fine : (network : Network)
    → ((d : ℕ) → d < length network.channels → channel_refusal network d (slice_get network.channels d) ≡ None)
    → None ≡ class_refusal network
unfolding class_refusal
classes_fine network each = sym (first_none (at_channel network) (length network.channels) each)

-- the list of a channel, whatever stands for one that isn't there
pub list_used : (lists : List (List ℕ)) (at : ℕ) (list : List ℕ) → at < length lists → list ≡ get_or lists at list
    → list ≡ get_or lists at []
list_used lists at list lt is =
    sym (get_or_from_slice_get lists at list [] (slice_get-get_or lists at list lt ∙ ap Some (sym is)))
