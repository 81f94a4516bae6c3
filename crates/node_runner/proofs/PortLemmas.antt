-- How the ports of a process go on from value to value.
use Rattle.std.proofs.Common.{◌≡◌, ◌<◌, ◌≤◌, ◌+◌, ◌==◌, ℕ, zero, suc, Bool, true, false, cond, ℤ, Option, Some, None}
use Rattle.std.proofs.Common.{List, [], ◌∷◌, ◌++◌, length, take, slice_get, refl, sym, ap, ◌∙◌, subst, arith, add-one}
use Rattle.std.proofs.Common.{add-zero}
use Rattle.std.proofs.lemmas.Option.{slice_get_within}
use Rattle.std.proofs.lemmas.List.{length-take-le}
use Rattle.std.proofs.lemmas.Bool.Decides.{nat_tests}
use Rattle.ruled_links.specs.Ports.{Port, port, fresh}
use Rattle.ruled_links.specs.Channels.{CanGet, IsNext, grown, grown_at, advanced}

-- after the first g values of a stream there is one more
pub can_get : (s : List ℤ) (g : ℕ) → g < length s → CanGet (advanced (Some (fresh s)) g)
can_get s g lt = rw (length-take-le g s (omega arith)) lt

pub is_next : (s : List ℤ) (g : ℕ) (x : ℤ) → slice_get s g ≡ Some x → IsNext (advanced (Some (fresh s)) g) x
is_next s g x at = rw (length-take-le g s (let lt = slice_get_within s g x at in omega arith)) at

pub next_is : (s : List ℤ) (g : ℕ) (x : ℤ) → g ≤ length s → IsNext (advanced (Some (fresh s)) g) x
    → slice_get s g ≡ Some x
next_is s g x le next = ap (slice_get s) (sym (length-take-le g s le)) ∙ next

grow_list : (s : List ℤ) (n : ℕ) (x : ℤ) → slice_get s (length (take n s)) ≡ Some x
    → take n s ++ x ∷ [] ≡ take (suc n) s
grow_list [] zero x e = absurd (cc)
grow_list [] (suc n) x e = absurd (cc)
grow_list (y ∷ ys) zero x e = cc
grow_list (y ∷ ys) (suc n) x e = ap (λ l. y ∷ l) (grow_list ys n x e)

grow : (o : Option Port) (n : ℕ) (x : ℤ) → IsNext (advanced o n) x → grown (advanced o n) x ≡ advanced o (n + 1)
grow None n x next = refl
grow (Some p) n x next = rw add-one (ap (λ l. Some (port p.stream l)) (grow_list p.stream n x next))

grow_if : (b : Bool) (o f : Option Port) (n : ℕ) (x : ℤ) → f ≡ advanced o n → (b ≡ true → IsNext f x)
    → cond b (grown f x) f ≡ advanced o (n + cond b 1 0)
grow_if true o f n x is next =
    ap (λ y. grown y x) is ∙ grow o n x (subst (λ (y : Option Port). IsNext y x) is (next refl))
grow_if false o f n x is next = is ∙ ap (advanced o) (sym (add-zero n))

same_channel : (c d : ℕ) → (c == d) ≡ true → d ≡ c
same_channel c d e = grind (arith, nat_tests)

-- each port, where the value x goes through that of channel d
pub one_more : (ports : ℕ → Option Port) (o : Option Port) (d c n : ℕ) (x : ℤ) → ports c ≡ advanced o n
    → IsNext (ports d) x → grown_at ports d x c ≡ advanced o (n + cond (c == d) 1 0)
one_more ports o d c n x is next =
    grow_if (c == d) o (ports c) n x is (λ t. subst (λ (k : ℕ). IsNext (ports k) x) (same_channel c d t) next)
