-- The class of uses, as one more of them is looked at.
--
-- One use more keeps the order where it isn't below the last one, and it is a repeat where one before it is the same. Both are
-- told of a list with one element more at its end (`falls_push`, `repeat_push`), by induction along the list: the definitions go
-- along it from its first element. What the last use is of no uses is 0, which no use is below.
use Rattle.std.proofs.Common.{◌≡◌, ◌+◌, ◌<◌, ◌==◌, ◌&&◌, ◌||◌, ℕ, Bool, true, false, leb, List, [], ◌∷◌, ◌++◌, take}
use Rattle.std.proofs.Common.{get_or, length, refl, sym, ap, ap₂, ◌∙◌, arith}
use Rattle.std.specs.List.{fold, list_any}
use Rattle.std.proofs.lemmas.Bool.{le-leb}
use Rattle.std.proofs.lemmas.List.{take_more}
use Rattle.std.proofs.Math.Bool.{or-false}
use Rattle.channel_class.specs.Classes.{class_of, has_repeat, never_falls}
use Rattle.channel_class.specs.declared.ChannelClass.{ChannelClass}
use Rattle.channel_class.specs.declared.UseOrder.{UseOrder}
use Rattle.channel_plan.specs.Tokens.{is_used}
use Rattle.plan_numbers.specs.Numbers.{order_of}

-- the last of these uses, and 0 of none
abbrev pub last_of : List ℕ → ℕ
last_of uses = fold (λ before next. next) 0 uses

and_true : (b : Bool) → (b && true) ≡ b
and_true true = refl
and_true false = refl

and_grouped : (a b c : Bool) → (a && (b && c)) ≡ ((a && b) && c)
and_grouped true b c = refl
and_grouped false b c = refl

falls_push : (uses : List ℕ) (x : ℕ) → never_falls (uses ++ x ∷ []) ≡ (never_falls uses && leb (last_of uses) x)
falls_push [] x = sym (le-leb 0 x (omega arith))
falls_push (a ∷ []) x = and_true (leb a x)
falls_push (a ∷ (b ∷ uses)) x =
    ap (λ later. leb a b && later) (falls_push (b ∷ uses) x)
    ∙ and_grouped (leb a b) (never_falls (b ∷ uses)) (leb (last_of (b ∷ uses)) x)

pub falls_more : (uses : List ℕ) (i : ℕ) → i < length uses
    → never_falls (take (i + 1) uses) ≡ (never_falls (take i uses) && leb (last_of (take i uses)) (get_or uses i 0))
falls_more uses i lt = ap never_falls (take_more uses i 0 lt) ∙ falls_push (take i uses) (get_or uses i 0)

any_push : (p : ℕ → Bool) (xs : List ℕ) (x : ℕ) → list_any p (xs ++ x ∷ []) ≡ (list_any p xs || p x)
any_push p [] x = or-false (p x)
any_push p (a ∷ xs) x = ap (λ later. p a || later) (any_push p xs x) ∙ or_grouped (p a) (list_any p xs) (p x)
  where
    or_grouped : (a b c : Bool) → (a || (b || c)) ≡ ((a || b) || c)
    or_grouped true b c = refl
    or_grouped false b c = refl

others : (a b h u : Bool) → ((a || b) || (h || u)) ≡ ((a || h) || (b || u))
others true b h u = refl
others false false h u = refl
others false true true u = refl
others false true false u = refl

repeat_push : (uses : List ℕ) (x : ℕ) → has_repeat (uses ++ x ∷ []) ≡ (has_repeat uses || is_used uses x)
repeat_push [] x = refl
repeat_push (a ∷ uses) x =
    ap₂ (λ here later. here || later) (any_push (λ n. a == n) uses x) (repeat_push uses x)
    ∙ others (list_any (λ n. a == n) uses) (a == x) (has_repeat uses) (is_used uses x)

pub repeat_more : (uses : List ℕ) (i : ℕ) → i < length uses
    → has_repeat (take (i + 1) uses) ≡ (has_repeat (take i uses) || is_used (take i uses) (get_or uses i 0))
repeat_more uses i lt = ap has_repeat (take_more uses i 0 lt) ∙ repeat_push (take i uses) (get_or uses i 0)

-- the class, from order and repeats
pub class_from : (uses : List ℕ) (order : UseOrder) (in_order repeats : Bool) → order ≡ order_of in_order
    → in_order ≡ never_falls uses → repeats ≡ has_repeat uses
    → ◌≡◌ {A = ChannelClass} (record { order = order; multiplicity = repeats }) (class_of uses)
class_from uses order in_order repeats e f g =
    let told = e ∙ ap order_of f in λ i. record { order = told i; multiplicity = g i }
