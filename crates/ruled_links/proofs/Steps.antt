-- Each step keeps the rule of a link, and tells its end what it may know.
--
-- The rule is `Linked`: before the two ends part, the channel is empty; afterwards what was got and then what is held
-- is what was put, a front of the stream, and no more is held than the capacity. A put of the stream's next value
-- makes the front one longer; a get takes the oldest of what is held, and so, whatever the other end does meanwhile,
-- the value behind what was got. Each end knows only its own half: how much it has moved. That a value ever comes is
-- no part of the rule.
use Rattle.std.proofs.Common.{◌≡◌, inr, ⊎_elim, ℕ, zero, suc, true, false, true≢false, List, [], ◌∷◌, ◌++◌, length, set}
use Rattle.std.proofs.Common.{Some, refl, sym, ap, ◌∙◌, subst, append_assoc, arith, length-append}
use Rattle.std.specs.Prelude.{ℤ, slice_get}
use mathlib.Core.Option.{some, some-ne-none, some-injective}
use lib.ListN.{get_elem?}
use Rattle.crossbeam_channel.specs.Fifo.{Pushes, Pops}
use Rattle.ruled_links.specs.declared.rule.View.{View}
use Rattle.ruled_links.specs.Rule.{IsPrefix, opening, put_view, get_view, IsAlone, IsPair, Linked}

-- a list that goes on with x at this place
next_of : (xs ys : List ℤ) (x : ℤ) → slice_get (xs ++ ys) (length xs) ≡ Some x → (rest : List ℤ) × (ys ≡ x ∷ rest)
next_of [] [] x e = absurd (cc)
next_of [] (y ∷ ys) x e = (ys, cc)
next_of (z ∷ xs) ys x e = next_of xs ys x e

pub longer : (xs ys : List ℤ) (x : ℤ) → IsPrefix xs ys → slice_get ys (length xs) ≡ Some x → IsPrefix (xs ++ x ∷ []) ys
longer xs ys x p e =
    let n = next_of xs p.0 x (ap (λ l. slice_get l (length xs)) (sym p.1) ∙ e) in
    (n.0, p.1 ∙ ap (λ l. xs ++ l) n.1 ∙ sym (append_assoc xs (x ∷ []) n.0))

at_place : (xs ys : List ℤ) (x : ℤ) → slice_get (xs ++ x ∷ ys) (length xs) ≡ Some x
at_place [] ys x = refl
at_place (z ∷ xs) ys x = at_place xs ys x

-- the put end's pass is the first one
at_put : (a b v : View) (pass : ℕ) → b.puts ≡ false → v.puts ≡ true → get_elem? (a ∷ b ∷ []) pass ≡ some v
    → (pass ≡ 0) × (a ≡ v)
at_put a b v zero f t e = (refl, some-injective a v e)
at_put a b v (suc zero) f t e = absurd (true≢false (sym t ∙ ap (λ (s : View). s.puts) (sym (some-injective b v e)) ∙ f))
at_put a b v (suc (suc n)) f t e = absurd (some-ne-none v (sym e))

-- the get end's pass is the second one
at_get : (a b v : View) (pass : ℕ) → a.puts ≡ true → v.puts ≡ false → get_elem? (a ∷ b ∷ []) pass ≡ some v
    → (pass ≡ 1) × (b ≡ v)
at_get a b v zero t f e = absurd (true≢false (sym t ∙ ap (λ (s : View). s.puts) (some-injective a v e) ∙ f))
at_get a b v (suc zero) t f e = (refl, some-injective b v e)
at_get a b v (suc (suc n)) t f e = absurd (some-ne-none v (sym e))

-- before the split no pass has been split
unsplit : (v : View) (pass : ℕ) → v.split ≡ true → get_elem? (opening ∷ []) pass ≡ some v → ⊥
unsplit v zero t e = true≢false (sym t ∙ ap (λ (s : View). s.split) (sym (some-injective opening v e)))
unsplit v (suc n) t e = some-ne-none v (sym e)

pub sends : (n pass : ℕ) (stream sent : List ℤ) (x : ℤ) → slice_get stream (length sent) ≡ Some x
    → Pushes Linked n pass (put_view stream n sent) x (λ w. w ≡ put_view stream n (sent ++ x ∷ []))
sends n pass stream sent x next held views room h at =
    let v = put_view stream n sent in
    let w = put_view stream n (sent ++ x ∷ []) in (
      w,
      ⊎_elim
          (λ (a : IsAlone held views). absurd (unsplit v pass refl (ap (λ l. get_elem? l pass) (sym a.only) ∙ at)))
          (λ (p : IsPair held views).
          let theirs = get_view p.stream p.capacity p.got in
          let seat =
          at_put (put_view p.stream p.capacity p.put) theirs v pass refl refl
          (ap (λ l. get_elem? l pass) (sym p.both) ∙ at) in
          let same_stream : p.stream ≡ stream = ap (λ (s : View). s.stream) seat.1 in
          let same_sent : p.put ≡ sent = ap (λ (s : View). s.moved) seat.1 in
          let same_capacity : p.capacity ≡ n = ap (λ (s : View). s.capacity) seat.1 in
          let balance : sent ++ x ∷ [] ≡ p.got ++ (held ++ x ∷ []) =
          ap (λ l. l ++ x ∷ []) (sym same_sent ∙ p.balance) ∙ append_assoc p.got held (x ∷ []) in
          let prefix : IsPrefix sent stream =
          subst (λ (y : List ℤ × List ℤ). IsPrefix y.0 y.1) (λ i. (same_sent i, same_stream i)) p.prefix in
          let set_views : set views pass w ≡ w ∷ get_view stream n p.got ∷ [] =
          ap (λ l. set l pass w) p.both
          ∙ (ap (λ k. set (put_view p.stream p.capacity p.put ∷ theirs ∷ []) k w) seat.0
          ∙ (λ i. w ∷ get_view (same_stream i) (same_capacity i) p.got ∷ [])) in
          inr (record {
            stream = stream;
            capacity = n;
            put = sent ++ x ∷ [];
            got = p.got;
            both = set_views;
            balance = balance;
            prefix = longer sent stream x prefix next;
            room = simp length-append (omega arith);
          }))
          h,
      refl,
    )

pub gets : (n pass : ℕ) (stream got : List ℤ)
    → Pops Linked pass (get_view stream n got)
    (λ x w. (w ≡ get_view stream n (got ++ x ∷ [])) × (slice_get stream (length got) ≡ Some x))
gets n pass stream got x held views h at =
    let v = get_view stream n got in
    let w = get_view stream n (got ++ x ∷ []) in
    let split : IsPair (x ∷ held) views = ⊎_elim
    (λ (a : IsAlone (x ∷ held) views). absurd (unsplit v pass refl (ap (λ l. get_elem? l pass) (sym a.only) ∙ at)))
    (λ (p : IsPair (x ∷ held) views). p)
    h in
    let p = split in
    let mine = put_view p.stream p.capacity p.put in
    let seat =
    at_get mine (get_view p.stream p.capacity p.got) v pass refl refl (ap (λ l. get_elem? l pass) (sym p.both) ∙ at) in
    let same_stream : p.stream ≡ stream = ap (λ (s : View). s.stream) seat.1 in
    let same_got : p.got ≡ got = ap (λ (s : View). s.moved) seat.1 in
    let same_capacity : p.capacity ≡ n = ap (λ (s : View). s.capacity) seat.1 in
    let sent_is : p.put ≡ got ++ x ∷ held = p.balance ∙ ap (λ l. l ++ x ∷ held) same_got in
    let all : stream ≡ got ++ x ∷ (held ++ p.prefix.0) =
    sym same_stream ∙ p.prefix.1 ∙ ap (λ l. l ++ p.prefix.0) sent_is ∙ append_assoc got (x ∷ held) p.prefix.0 in
    let set_views : set views pass w ≡ put_view stream n p.put ∷ w ∷ [] =
    ap (λ l. set l pass w) p.both
    ∙ (ap (λ k. set (mine ∷ get_view p.stream p.capacity p.got ∷ []) k w) seat.0
    ∙ (λ i. put_view (same_stream i) (same_capacity i) p.put ∷ w ∷ [])) in (
      w,
      inr (record {
        stream = stream;
        capacity = n;
        put = p.put;
        got = got ++ x ∷ [];
        both = set_views;
        balance = sent_is ∙ sym (append_assoc got (x ∷ []) held);
        prefix = (p.prefix.0, sym same_stream ∙ p.prefix.1);
        room = let room = p.room in omega arith;
      }),
      (refl, ap (λ l. slice_get l (length got)) all ∙ at_place got (held ++ p.prefix.0) x),
    )
