-- One slot is enough for a channel of a nest exactly where its class is in order.
--
-- A channel is there only for a writer of which some source of the read is a turn, so it has a use. With a use, one
-- slot is enough exactly where no use names an earlier token than the use before it; and the class is in order exactly
-- there. So both sides are the same question on the uses, for each channel by itself. Nothing is said here of how many
-- slots a channel out of order needs.
use Rattle.std.proofs.Common.{◌≡◌, ◌<◌, ◌==◌, ℕ, List, [], ◌∷◌, ◌||◌, Bool, true, false, cond, Some, None, length, refl}
use Rattle.std.proofs.Common.{arith, ap, IsTrue, ◌↔◌}
use Rattle.std.specs.Prelude.{Option}
use Rattle.std.specs.List.{All, cons_option, flat_map, list_any, range_with_len}
use Rattle.std.proofs.lemmas.Bool.{eq-eqb, ne_eqb}
use Rattle.std.proofs.lemmas.List.{length-map}
use Rattle.std.proofs.lemmas.List.Elements.{filter_passes}
use Rattle.channel_class.specs.Classes.{never_falls}
use Rattle.channel_class.specs.declared.UseOrder.TheVariants.{InOrder, Reorder}
use Rattle.reorder_slots.proofs.Laws.{one_slot}
use Rattle.sanlp.specs.Access.{read_count}
use Rattle.sanlp.specs.declared.nest.Nest.{Nest}
use Rattle.sanlp.specs.declared.nest.Tag.{Tag}
use Rattle.sanlp.proofs.Each.{Each, all_from_each, each_flat_map, each_from_all, each_map, each_of, each_then}
use Rattle.channel_plan.specs.Plans.{HasOneSlotInOrder, plan_of, plans_at, plans_of, sources_at}
use Rattle.channel_plan.specs.Tokens.{is_from, tokens_below, turn_of, turns_used, uses_of, writers_of}

some_used : (b rest : Bool) (turn : ℕ) (used : List ℕ) → (b || rest) ≡ true → (rest ≡ true → 0 < length used)
    → 0 < length (cons_option (cond b (Some turn) None) used)
some_used true rest turn used h later = omega arith
some_used false rest turn used h later = later h

pub turns_used-some : (w : ℕ) (sources : List (Option Tag)) → list_any (is_from w) sources ≡ true
    → 0 < length (turns_used w sources)
turns_used-some w [] h = absurd (cc)
turns_used-some w (None ∷ sources) h = turns_used-some w sources h
turns_used-some w (Some tag ∷ sources) h =
    some_used (tag.process == w) (list_any (is_from w) sources) tag.turn (turns_used w sources) h (turns_used-some w sources)

-- the turn of a source, where it is of the writer and where it isn't
pub turn_of-own : (w : ℕ) (t : Tag) → t.process ≡ w → cons_option (turn_of w (Some t)) [] ≡ t.turn ∷ []
turn_of-own w t e = ap (λ b. cons_option (cond b (Some t.turn) None) []) (eq-eqb t.process w e)

pub turn_of-foreign : (w : ℕ) (t : Tag) → (t.process ≡ w → ⊥) → cons_option (turn_of w (Some t)) [] ≡ []
turn_of-foreign w t e = ap (λ b. cons_option (cond b (Some t.turn) None) []) (ne_eqb t.process w e)

pub in_order_where : (b : Bool) → (cond b InOrder Reorder ≡ InOrder) ↔ IsTrue b
in_order_where true = (λ e. refl, λ t. refl)
in_order_where false = (λ e. absurd (cc), λ t. absurd (cc))

of_plan : (n : Nest) (p k w : ℕ) → list_any (is_from w) (sources_at n p k) ≡ true → HasOneSlotInOrder (plan_of n p k w)
of_plan n p k w from =
    let used = turns_used w (sources_at n p k) in
    let uses = uses_of used in
    let some : 0 < length uses =
    omega (arith, turns_used-some w (sources_at n p k) from, length-map used (tokens_below used)) in
    let one = one_slot uses some in
    let order = in_order_where (never_falls uses) in
    (λ h. order.1 (one.0 h), λ h. one.1 (order.0 h))

of_read : (n : Nest) (p k : ℕ) → Each HasOneSlotInOrder (plans_at n p k)
of_read n p k =
    let sources = sources_at n p k in
    each_map HasOneSlotInOrder (plan_of n p k) (writers_of (length n.statements) sources)
    (each_then (λ w. list_any (is_from w) sources ≡ true) (λ w. HasOneSlotInOrder (plan_of n p k w))
    (writers_of (length n.statements) sources)
    (of_plan n p k)
    (each_from_all (λ w. list_any (is_from w) sources ≡ true) (writers_of (length n.statements) sources)
    (filter_passes (λ w. list_any (is_from w) sources) (range_with_len 0 (length n.statements)))))

pub one_slot_in_order : (n : Nest) → All HasOneSlotInOrder (plans_of n)
unfolding plans_of
one_slot_in_order n =
    let reads : ℕ → List ℕ = λ p. range_with_len 0 (read_count n p) in
    let processes : List ℕ = range_with_len 0 (length n.statements) in
    all_from_each HasOneSlotInOrder (flat_map (λ p. flat_map (plans_at n p) (reads p)) processes)
    (each_flat_map HasOneSlotInOrder (λ p. flat_map (plans_at n p) (reads p)) processes
    (each_of (λ p. Each HasOneSlotInOrder (flat_map (plans_at n p) (reads p))) processes (λ p.
    each_flat_map HasOneSlotInOrder (plans_at n p) (reads p)
    (each_of (λ k. Each HasOneSlotInOrder (plans_at n p k)) (reads p) (of_read n p)))))
