-- Two processes: neither hinders the other, and their steps give one state in either order.
--
-- A channel has one reader and one writer, so two events of different processes are never two Gets or two Puts of one
-- channel (`Apart`). A Get and a Put of one channel touch it at its two ends: where the Get may come the queue isn't
-- empty, so its front and what is left don't depend on a Put behind it. It holds in every state, reached or not, and
-- whatever a fire gives, and it is no induction. Longer runs are the matter of CutOrder and EveryOrder, which argue by
-- monotony and don't use this exchange.
use Rattle.std.proofs.Common.{◌≡◌, ℕ, ◌<◌, ◌≤◌, true, eqb, Option, Some, None, List, [], ◌∷◌, ◌++◌, length, drop}
use Rattle.std.proofs.Common.{slice_get, refl, sym, ap, ◌∙◌, inl, inr, arith, ltb-true, lt-ltb, eq-eqb, eqb-true}
use Rattle.std.proofs.Common.{length-append, length-drop}
use Rattle.std.proofs.lemmas.Bool.{cases_eq, cases_Bool}
use mathlib.Core.Path.{fun_ext}
use Rattle.net_core.specs.declared.network.Event.{Event}
use Rattle.net_core.specs.declared.network.Event.TheVariants.{Get, Fire, Put}
use Rattle.net_core.specs.Machine.{Net, Local, State, Rule, next, can_come, enabled, front, last_of, local_after}
use Rattle.net_core.specs.Machine.{queue_after, after_event, step}
use Rattle.net_core.specs.Shape.{is_get, is_put, IsWired}
use Rattle.net_core.proofs.EventCounts.{replaced_same, replaced_other}

-- two events of different processes at one channel: not both Gets, not both Puts
pub Apart : Event → Event → Type 0
Apart e f = (c : ℕ) → (is_get c e ≡ true → is_get c f ≡ true → ⊥) × (is_put c e ≡ true → is_put c f ≡ true → ⊥)

pub get_reader : (n : Net) (wired : IsWired n) (p k c : ℕ) (e : Event) → slice_get (n.script p) k ≡ Some e
    → is_get c e ≡ true → n.reader c ≡ p
get_reader n wired p k c (Get ch slot) is t = rw (eqb-true c ch t) (wired.get_reader p k ch slot is)
get_reader n wired p k c (Fire refs) is t = cc
get_reader n wired p k c (Put ch) is t = cc

pub put_writer : (n : Net) (wired : IsWired n) (p k c : ℕ) (e : Event) → slice_get (n.script p) k ≡ Some e
    → is_put c e ≡ true → n.writer c ≡ p
put_writer n wired p k c (Get ch slot) is t = cc
put_writer n wired p k c (Fire refs) is t = cc
put_writer n wired p k c (Put ch) is t = rw (eqb-true c ch t) (wired.put_writer p k ch is)

apart : (n : Net) (wired : IsWired n) (p q i j : ℕ) (e f : Event) → (p ≡ q → ⊥) → slice_get (n.script p) i ≡ Some e
    → slice_get (n.script q) j ≡ Some f → Apart e f
unfolding Apart
apart n wired p q i j e f d ise isf c = (
  λ a b. d (sym (get_reader n wired p i c e ise a) ∙ get_reader n wired q j c f isf b),
  λ a b. d (sym (put_writer n wired p i c e ise a) ∙ put_writer n wired q j c f isf b),
)

pub drop_append : {T : Type 0} (q l : List T) → 0 < length q → drop 1 (q ++ l) ≡ drop 1 q ++ l
drop_append [] l h = absurd (omega arith)
drop_append (x ∷ q) l h = refl

pub front_append : {T : Type 0} (q l : List T) → 0 < length q → front (q ++ l) ≡ front q
front_append [] l h = absurd (omega arith)
front_append (x ∷ q) l h = refl

pub grows : {T : Type 0} (kept : List T) (f : Event) (c : ℕ) (q : List T) → (is_get c f ≡ true → ⊥)
    → length q ≤ length (queue_after kept f c q)
grows kept (Get d slot) c q none =
    elim (cases_Bool (eqb c d)) [ inl e ↦ absurd (none e) | inr e ↦ rw e (omega arith) ]
grows kept (Fire refs) c q none = omega arith
grows kept (Put d) c q none =
    elim (cases_Bool (eqb c d)) [
      | inl e ↦ rw e (omega (arith, length-append q (last_of kept)))
      | inr e ↦ rw e (omega arith)
    ]

pub shrinks : {T : Type 0} (kept : List T) (f : Event) (c : ℕ) (q : List T) → (is_put c f ≡ true → ⊥)
    → length (queue_after kept f c q) ≤ length q
shrinks kept (Get d slot) c q none =
    elim (cases_Bool (eqb c d)) [
      | inl e ↦ rw e (omega (arith, length-drop 1 q))
      | inr e ↦ rw e (omega arith)
    ]
shrinks kept (Fire refs) c q none = omega arith
shrinks kept (Put d) c q none =
    elim (cases_Bool (eqb c d)) [ inl e ↦ absurd (none e) | inr e ↦ rw e (omega arith) ]

-- an event can still come after another process's
can_come_after : {T : Type 0} (n : Net) (s t : State T) (kept : List T) (e f : Event) → Apart e f
    → ((c : ℕ) → t.queue c ≡ queue_after kept f c (s.queue c)) → can_come n s (Some e) ≡ true
    → can_come n t (Some e) ≡ true
unfolding Apart
can_come_after n s t kept (Get c slot) f ap is h =
    let had = ltb-true _ _ h in
    rw (is c) (lt-ltb _ _ (omega (arith, grows kept f c (s.queue c) (λ g. (ap c).0 (eq-eqb c c refl) g))))
can_come_after n s t kept (Fire refs) f ap is h = refl
can_come_after n s t kept (Put c) f ap is h =
    let had = ltb-true _ _ h in
    rw (is c) (lt-ltb _ _ (omega (arith, shrinks kept f c (s.queue c) (λ g. (ap c).1 (eq-eqb c c refl) g))))

-- the event that comes next, given that there is one
stays : {T : Type 0} (n : Net) (rule : Rule T) (wired : IsWired n) (s : State T) (p q : ℕ) (e f : Option Event)
    → (p ≡ q → ⊥) → next n s p ≡ e → next n s q ≡ f → can_come n s e ≡ true
    → can_come n (after_event rule s q f) e ≡ true
stays n rule wired s p q None f d ise isf h = h
stays n rule wired s p q (Some e) None d ise isf h = h
stays n rule wired s p q (Some e) (Some f) d ise isf h =
    can_come_after n s (after_event rule s q (Some f)) (s.local q).kept e f (apart n wired p q _ _ e f d ise isf)
    (λ c. refl) h

other_at : {T : Type 0} (rule : Rule T) (s : State T) (p q : ℕ) (f : Option Event) → (p ≡ q → ⊥)
    → (after_event rule s q f).local p ≡ s.local p
other_at rule s p q None d = refl
other_at rule s p q (Some f) d = replaced_other s.local q _ p d

pub other_next : {T : Type 0} (n : Net) (rule : Rule T) (s : State T) (p q : ℕ) → (p ≡ q → ⊥)
    → next n (step n rule s q) p ≡ next n s p
other_next n rule s p q d = ap (λ l. slice_get (n.script p) l.position) (other_at rule s p q (next n s q) d)

-- an enabled process stays enabled whatever another process does
pub enabled_stays : {T : Type 0} (n : Net) (rule : Rule T) (wired : IsWired n) (s : State T) (p q : ℕ) → (p ≡ q → ⊥)
    → enabled n s p ≡ true → enabled n (step n rule s q) p ≡ true
enabled_stays n rule wired s p q d h =
    rw (other_next n rule s p q d) (stays n rule wired s p q (next n s p) (next n s q) d refl refl h)

-- what two events of different processes do to a queue, in either order
queue_after_both : {T : Type 0} (n : Net) (s : State T) (a b : List T) (e f : Event) (c : ℕ) → Apart e f
    → can_come n s (Some e) ≡ true → can_come n s (Some f) ≡ true
    → queue_after b f c (queue_after a e c (s.queue c)) ≡ queue_after a e c (queue_after b f c (s.queue c))
unfolding Apart
queue_after_both n s a b (Fire refs) f c ap he hf = refl
queue_after_both n s a b (Get x i) (Fire refs) c ap he hf = refl
queue_after_both n s a b (Put x) (Fire refs) c ap he hf = refl
queue_after_both n s a b (Get x i) (Get y j) c ap he hf =
    elim (cases_Bool (eqb c x)) [
      | inl e ↦
          elim (cases_Bool (eqb c y)) [ inl f ↦ absurd ((ap c).0 e f) | inr f ↦ rw (e, f) refl ]
      | inr e ↦ rw e refl
    ]
queue_after_both n s a b (Put x) (Put y) c ap he hf =
    elim (cases_Bool (eqb c x)) [
      | inl e ↦
          elim (cases_Bool (eqb c y)) [ inl f ↦ absurd ((ap c).1 e f) | inr f ↦ rw (e, f) refl ]
      | inr e ↦ rw e refl
    ]
queue_after_both n s a b (Get x i) (Put y) c ap he hf =
    elim (cases_Bool (eqb c x)) [
      | inl e ↦
          elim (cases_Bool (eqb c y)) [
            | inl f ↦
                let here : c ≡ x = eqb-true c x e in
                let some : 0 < length (s.queue c) = rw here (ltb-true _ _ he) in
                rw (e, f) (sym (drop_append (s.queue c) (last_of b) some))
            | inr f ↦ rw (e, f) refl
          ]
      | inr e ↦ rw e refl
    ]
queue_after_both n s a b (Put x) (Get y j) c ap he hf =
    elim (cases_Bool (eqb c x)) [
      | inl e ↦
          elim (cases_Bool (eqb c y)) [
            | inl f ↦
                let here : c ≡ y = eqb-true c y f in
                let some : 0 < length (s.queue c) = rw here (ltb-true _ _ hf) in
                rw (e, f) (drop_append (s.queue c) (last_of a) some)
            | inr f ↦ rw (e, f) refl
          ]
      | inr e ↦ rw e refl
    ]

-- what a process does is not changed by another process's event
local_after_same : {T : Type 0} (n : Net) (rule : Rule T) (s : State T) (p : ℕ) (l : Local T) (b : List T) (e f : Event)
    → Apart e f → can_come n s (Some e) ≡ true
    → local_after rule p l (λ c. queue_after b f c (s.queue c)) e ≡ local_after rule p l s.queue e
unfolding Apart
local_after_same n rule s p l b (Get x i) (Get y j) ap he =
    elim (cases_Bool (eqb x y)) [ inl e ↦ absurd ((ap x).0 (eq-eqb x x refl) e) | inr e ↦ rw e refl ]
local_after_same n rule s p l b (Get x i) (Fire refs) ap he = refl
local_after_same n rule s p l b (Get x i) (Put y) ap he =
    elim (cases_Bool (eqb x y)) [
      | inl e ↦ rw (e, front_append (s.queue x) (last_of b) (ltb-true _ _ he)) refl
      | inr e ↦ rw e refl
    ]
local_after_same n rule s p l b (Fire refs) f ap he = refl
local_after_same n rule s p l b (Put x) f ap he = refl

local_after_there : {T : Type 0} (n : Net) (rule : Rule T) (s : State T) (p q : ℕ) (e f : Event) → (q ≡ p → ⊥)
    → Apart f e → can_come n s (Some f) ≡ true
    → local_after rule q ((after_event rule s p (Some e)).local q) ((after_event rule s p (Some e)).queue) f
    ≡ local_after rule q (s.local q) s.queue f
local_after_there n rule s p q e f d ap' hf =
    ap (λ l. local_after rule q l (λ c. queue_after (s.local p).kept e c (s.queue c)) f)
    (other_at rule s q p (Some e) d) ∙ local_after_same n rule s q (s.local q) (s.local p).kept f e ap' hf

swap_at : {T : Type 0} (n : Net) (rule : Rule T) (s : State T) (p q : ℕ) (e f : Event) → (p ≡ q → ⊥) → Apart e f
    → Apart f e → can_come n s (Some e) ≡ true → can_come n s (Some f) ≡ true → (r : ℕ)
    → (after_event rule (after_event rule s p (Some e)) q (Some f)).local r
    ≡ (after_event rule (after_event rule s q (Some f)) p (Some e)).local r
swap_at n rule s p q e f d ap1 ap2 he hf r =
    let wired = after_event rule s p (Some e) in
    let two = after_event rule s q (Some f) in
    let back : q ≡ p → ⊥ = λ x. d (sym x) in
    let x' = local_after rule p (two.local p) two.queue e in
    let y' = local_after rule q (wired.local q) wired.queue f in
    elim (cases_eq r q) [
      | inl isq ↦
          let out : r ≡ p → ⊥ = λ w. d (sym w ∙ isq) in
          replaced_same wired.local q y' r isq ∙ local_after_there n rule s p q e f back ap2 hf
          ∙ sym (replaced_other two.local p x' r out ∙ replaced_same s.local q _ r isq)
      | inr notq ↦
          elim (cases_eq r p) [
            | inl isp ↦
                replaced_other wired.local q y' r notq ∙ replaced_same s.local p _ r isp
                ∙ sym (replaced_same two.local p x' r isp ∙ local_after_there n rule s q p f e d ap1 he)
            | inr notp ↦
                replaced_other wired.local q y' r notq ∙ replaced_other s.local p _ r notp
                ∙ sym (replaced_other two.local p x' r notp ∙ replaced_other s.local q _ r notq)
          ]
    ]

swap_queue : {T : Type 0} (n : Net) (rule : Rule T) (s : State T) (p q : ℕ) (e f : Event) → (p ≡ q → ⊥) → Apart e f
    → can_come n s (Some e) ≡ true → can_come n s (Some f) ≡ true → (c : ℕ)
    → (after_event rule (after_event rule s p (Some e)) q (Some f)).queue c
    ≡ (after_event rule (after_event rule s q (Some f)) p (Some e)).queue c
swap_queue n rule s p q e f d ap1 he hf c =
    let back : q ≡ p → ⊥ = λ x. d (sym x) in
    ap (λ l. queue_after l.kept f c (queue_after (s.local p).kept e c (s.queue c))) (other_at rule s q p (Some e) back)
    ∙ queue_after_both n s (s.local p).kept (s.local q).kept e f c ap1 he hf
    ∙ sym (ap (λ l. queue_after l.kept e c (queue_after (s.local q).kept f c (s.queue c)))
    (other_at rule s p q (Some f) d))

swap : {T : Type 0} (n : Net) (rule : Rule T) (wired : IsWired n) (s : State T) (p q : ℕ) (e f : Option Event)
    → (p ≡ q → ⊥) → next n s p ≡ e → next n s q ≡ f → can_come n s e ≡ true → can_come n s f ≡ true
    → after_event rule (after_event rule s p e) q f ≡ after_event rule (after_event rule s q f) p e
swap n rule wired s p q None f d ise isf he hf = refl
swap n rule wired s p q (Some e) None d ise isf he hf = refl
swap n rule wired s p q (Some e) (Some f) d ise isf he hf =
    let ap1 = apart n wired p q _ _ e f d ise isf in
    let ap2 = apart n wired q p _ _ f e (λ x. d (sym x)) isf ise in
    let ats = fun_ext (swap_at n rule s p q e f d ap1 ap2 he hf) in
    let queues = fun_ext (swap_queue n rule s p q e f d ap1 he hf) in
    λ i. record { local = ats i; queue = queues i }

-- two enabled steps of different processes give one state in either order
pub exchange : {T : Type 0} (n : Net) (rule : Rule T) (wired : IsWired n) (s : State T) (p q : ℕ) → (p ≡ q → ⊥)
    → enabled n s p ≡ true → enabled n s q ≡ true → step n rule (step n rule s p) q ≡ step n rule (step n rule s q) p
exchange n rule wired s p q d he hf =
    let a = step n rule s p in
    let b = step n rule s q in
    ap (λ o. after_event rule a q o) (other_next n rule s q p (λ x. d (sym x)))
    ∙ swap n rule wired s p q (next n s p) (next n s q) d refl refl he hf
    ∙ sym (ap (λ o. after_event rule b p o) (other_next n rule s p q d))
