-- The uses of a channel fire by fire, and the channel of each source.
--
-- The first half goes along the sources of one read: the first f fires name the tokens of the turns
-- that they use, in order (`named_before`, by induction on f), and the use of a fire has the number of
-- its source's token (`use_there`). In the second half channels are told apart by their ends: they are
-- made by reader, read and writer, each ascending, so no two have the same three (`plans_differ`), and
-- the search by ends finds the only one (`found_by_ends`). Where a read has a source of a process there
-- is such a channel (`channel_found`). What goes through a channel doesn't come in.
use Rattle.std.proofs.Common.{◌≡◌, ◌<◌, ◌+◌, ℕ, zero, suc, Bool, true, cond, eqb, ◌&&◌, List, [], ◌∷◌, ◌++◌, map}
use Rattle.std.proofs.Common.{length, take, refl, sym, ap, ◌∙◌, subst, inl, inr, arith, add-one, eqb-true}
use Rattle.std.specs.Prelude.{Option, Some, None, slice_get}
use Rattle.std.specs.List.{cons_option, filter, flat_map, list_any, range_with_len}
use Rattle.std.specs.Option.{option_map, option_map_or}
use Rattle.std.proofs.lemmas.Bool.{and_parts, cases_Bool, eq-eqb, or_cases}
use Rattle.std.proofs.lemmas.List.{append-nil, map-append}
use Rattle.std.proofs.lemmas.List.Elements.{filter_map-append}
use Rattle.std.proofs.lemmas.Option.{same_Some, slice_get-map}
use Rattle.std.proofs.Math.Seq.{take-length}
use Rattle.std.proofs.lemmas.Map.Keys.{any_passes_from_place}
use Rattle.sanlp.specs.Access.{read_count}
use Rattle.sanlp.specs.declared.nest.Nest.{Nest}
use Rattle.sanlp.specs.declared.nest.Tag.{Tag}
use Rattle.sanlp.proofs.Each.{Each, each_filter, each_map, each_of}
use Rattle.sanlp.proofs.Members.{Pairwise, at_in, each_in, in_at, pairwise_flat_map, range_with_len_ascends}
use Rattle.sanlp.proofs.Lists.{flat_map-range_with_len_more}
use Rattle.channel_plan.specs.declared.plans.ChannelPlan.{ChannelPlan}
use Rattle.channel_plan.specs.Plans.{plan_of, plans_at, plans_of, sources_at, turn_count}
use Rattle.channel_plan.specs.Tokens.{is_from, is_used, tokens_below, turn_of, turns_used, uses_of, writers_of}
use Rattle.channel_plan.proofs.PlanEnds.{plans_at-reader}
use Rattle.net_core.specs.Machine.{net_of}
use Rattle.net_core.specs.Names.{tokens}
use Rattle.process_derive.specs.Derived.{net}
use Rattle.process_derive.specs.Scripts.{channel_from, goes_between}
use Rattle.process_derive.proofs.EachPlan.{each_plan, plan_there}
use Rattle.process_derive.proofs.Tags.{IsTurn, length-sources, sources_are}
use Rattle.process_derive.proofs.ScriptNames.{IsChannelOf, all_channels}
use Rattle.derived_names.proofs.Tokens.{token_of_turn}
use Rattle.plain_data.proofs.Lists.{take-suc_some}

-- The uses, fire by fire

-- the number of the token that a source of process w names, as a list of one; other sources name none
abbrev pub token_named : List ℕ → ℕ → Option Tag → List ℕ
token_named used w None = []
token_named used w (Some t) = cond (eqb t.process w) (tokens_below used t.turn ∷ []) []

-- what fire f names, whose source is among these
abbrev pub named_by_fire : List ℕ → ℕ → List (Option Tag) → ℕ → List ℕ
named_by_fire used w sources f = option_map_or (token_named used w) (slice_get sources f) []

one_named : (used : List ℕ) (w : ℕ) (source : Option Tag)
    → token_named used w source ≡ map (tokens_below used) (cons_option (turn_of w source) [])
one_named used w None = refl
one_named used w (Some t) = elim (cases_Bool (eqb t.process w)) [ inl own ↦ rw own refl | inr other ↦ rw other refl ]

take_past : {X : Type 0} (xs : List X) (k : ℕ) → slice_get xs k ≡ None → take (suc k) xs ≡ take k xs
take_past [] zero e = refl
take_past [] (suc k) e = refl
take_past (x ∷ xs) zero e = absurd (cc)
take_past (x ∷ xs) (suc k) e = ap (λ ys. x ∷ ys) (take_past xs k e)

named_next : (used : List ℕ) (w : ℕ) (sources : List (Option Tag)) (f : ℕ) (o : Option (Option Tag))
    → slice_get sources f ≡ o
    → map (tokens_below used) (turns_used w (take f sources)) ++ option_map_or (token_named used w) o []
    ≡ map (tokens_below used) (turns_used w (take (suc f) sources))
named_next used w sources f None e =
    append-nil (map (tokens_below used) (turns_used w (take f sources)))
    ∙ ap (λ xs. map (tokens_below used) (turns_used w xs)) (sym (take_past sources f e))
named_next used w sources f (Some source) e =
    ap (λ xs. map (tokens_below used) (turns_used w (take f sources)) ++ xs) (one_named used w source)
    ∙ sym (map-append (tokens_below used) (turns_used w (take f sources)) (cons_option (turn_of w source) []))
    ∙ ap (map (tokens_below used)) (sym (filter_map-append (turn_of w) (take f sources) (source ∷ [])))
    ∙ ap (λ xs. map (tokens_below used) (turns_used w xs)) (sym (take-suc_some sources f source e))

-- what the first so many fires name
pub named_before : (used : List ℕ) (w : ℕ) (sources : List (Option Tag)) (f : ℕ)
    → flat_map (named_by_fire used w sources) (range_with_len 0 f)
    ≡ map (tokens_below used) (turns_used w (take f sources))
named_before used w sources zero = refl
named_before used w sources (suc f) =
    ap (λ k. flat_map (named_by_fire used w sources) (range_with_len 0 k)) (sym (add-one f))
    ∙ flat_map-range_with_len_more (named_by_fire used w sources) 0 f f (omega arith)
    ∙ ap (λ xs. xs ++ named_by_fire used w sources f) (named_before used w sources f)
    ∙ named_next used w sources f (slice_get sources f) refl

-- all fires together name the uses
pub named_by_all : (n : Nest) (p k w : ℕ)
    → flat_map (named_by_fire (turns_used w (sources_at n p k)) w (sources_at n p k))
    (range_with_len 0 (turn_count n p)) ≡ uses_of (turns_used w (sources_at n p k))
named_by_all n p k w =
    let sources : List (Option Tag) = sources_at n p k in
    let used : List ℕ = turns_used w sources in
    named_before used w sources (turn_count n p)
    ∙ ap (λ m. map (tokens_below used) (turns_used w (take m sources))) (sym (length-sources n p k))
    ∙ ap (λ xs. map (tokens_below used) (turns_used w xs)) (take-length sources)

-- The use of one fire

-- the turn of a source is the next of its process's turns that are used
pub turn_there : (w : ℕ) (sources : List (Option Tag)) (f : ℕ) (t : Tag) → slice_get sources f ≡ Some (Some t)
    → t.process ≡ w
    → slice_get (turns_used w sources) (length (turns_used w (take f sources))) ≡ Some t.turn
turn_there w [] f t e own = absurd (cc)
turn_there w (source ∷ sources) zero t e own =
    let here : eqb t.process w ≡ true = eq-eqb t.process w own in
    ap (λ s. slice_get (cons_option (turn_of w s) (turns_used w sources)) 0) (same_Some source (Some t) e)
    ∙ ap (λ b. slice_get (cons_option (cond b (Some t.turn) None) (turns_used w sources)) 0) here
turn_there w (source ∷ sources) (suc f) t e own =
    later (turn_of w source) (turn_there w sources f t e own) where
      later : (o : Option ℕ) → slice_get (turns_used w sources) (length (turns_used w (take f sources))) ≡ Some t.turn
          → slice_get (cons_option o (turns_used w sources)) (length (cons_option o (turns_used w (take f sources))))
          ≡ Some t.turn
      later None rest = rest
      later (Some turn) rest = rest

-- the use of a fire is the number of its token
pub use_there : (w : ℕ) (sources : List (Option Tag)) (f : ℕ) (t : Tag) → slice_get sources f ≡ Some (Some t)
    → t.process ≡ w
    → slice_get (uses_of (turns_used w sources)) (length (turns_used w (take f sources)))
    ≡ Some (tokens_below (turns_used w sources) t.turn)
use_there w sources f t e own =
    let used : List ℕ = turns_used w sources in
    slice_get-map (tokens_below used) used (length (turns_used w (take f sources)))
    ∙ ap (option_map (tokens_below used)) (turn_there w sources f t e own)

pub turn_is_used : (w : ℕ) (sources : List (Option Tag)) (f : ℕ) (t : Tag) → slice_get sources f ≡ Some (Some t)
    → t.process ≡ w → is_used (turns_used w sources) t.turn ≡ true
turn_is_used w sources f t e own =
    any_passes_from_place (λ other. eqb other t.turn) (turns_used w sources) (length (turns_used w (take f sources))) t.turn
    (turn_there w sources f t e own) (eq-eqb t.turn t.turn refl)

-- the source of a fire is a turn that its process has
pub source_is : (n : Nest) (p k f : ℕ) (t : Tag) → slice_get (sources_at n p k) f ≡ Some (Some t)
    → (t.process < length n.statements) × (t.turn < turn_count n t.process)
source_is n p k f t e =
    each_in (IsTurn n) (Some t) (sources_at n p k) (sources_are n p k) (at_in (Some t) (sources_at n p k) f e)

-- the token of a fire's use is the fire's source
pub token_of_source : (n : Nest) (p k f c : ℕ) (t : Tag) → slice_get (sources_at n p k) f ≡ Some (Some t)
    → slice_get (plans_of n) c ≡ Some (plan_of n p k t.process)
    → slice_get (tokens (net_of (net n)) c) (tokens_below (turns_used t.process (sources_at n p k)) t.turn) ≡ Some t
token_of_source n p k f c t e there =
    token_of_turn n p k t.process c t.turn there (source_is n p k f t e).1
    (turn_is_used t.process (sources_at n p k) f t e refl)

-- The channels of the sources

-- the plan is that of its ends, and its reader reads what its writer wrote
pub record IsPlanOf (n : Nest) (plan : ChannelPlan) : Type 0 where
  pub plan_is : plan ≡ plan_of n plan.reader plan.read plan.writer
  pub is_read : list_any (is_from plan.writer) (sources_at n plan.reader plan.read) ≡ true

each_then_map : {X Y : Type 0} (P : X → Type 0) (Q : Y → Type 0) (f : X → Y) (xs : List X) → ((x : X) → P x → Q (f x))
    → Each P xs → Each Q (map f xs)
each_then_map P Q f [] then h = tt
each_then_map P Q f (x ∷ xs) then h = (then x h.0, each_then_map P Q f xs then h.1)

pub plans_are : (n : Nest) → Each (IsPlanOf n) (plans_of n)
plans_are n =
    each_plan n (IsPlanOf n) (λ p k w process read writer from. record { plan_is = refl; is_read = from })

-- no two channels go from one process to one read
abbrev Differ : ChannelPlan → ChannelPlan → Type 0
Differ a b = a.reader ≡ b.reader → a.read ≡ b.read → a.writer ≡ b.writer → ⊥

pairwise_filter : {X : Type 0} (R : X → X → Type 0) (test : X → Bool) (xs : List X) → Pairwise R xs
    → Pairwise R (filter test xs)
pairwise_filter R test [] h = tt
pairwise_filter R test (x ∷ xs) h =
    elim (cases_Bool
    (test x)) [
      | inl kept ↦ rw kept ((each_filter (R x) test xs h.0, pairwise_filter R test xs h.1))
      | inr left ↦ rw left (pairwise_filter R test xs h.1)
    ]

pairwise_map : {X Y : Type 0} (S : X → X → Type 0) (R : Y → Y → Type 0) (f : X → Y) (xs : List X)
    → ((x y : X) → S x y → R (f x) (f y)) → Pairwise S xs → Pairwise R (map f xs)
pairwise_map S R f [] then h = tt
pairwise_map S R f (x ∷ xs) then h = (each_then_map (S x) (R (f x)) f xs (then x) h.0, pairwise_map S R f xs then h.1)

read_by : (n : Nest) (p k : ℕ) → Each (λ plan. (plan.reader ≡ p) × (plan.read ≡ k)) (plans_at n p k)
read_by n p k =
    each_map (λ plan. (plan.reader ≡ p) × (plan.read ≡ k)) (plan_of n p k)
    (writers_of (length n.statements) (sources_at n p k))
    (each_of _ (writers_of (length n.statements) (sources_at n p k)) (λ w. (refl, refl)))

pub plans_differ : (n : Nest) → Pairwise Differ (plans_of n)
unfolding plans_of
plans_differ n =
    let processes : ℕ = length n.statements in
    pairwise_flat_map (λ p q. p < q) Differ (λ p. flat_map (plans_at n p) (range_with_len 0 (read_count n p)))
    (range_with_len 0 processes) (range_with_len_ascends 0 processes)
    (λ p there. pairwise_flat_map (λ j k. j < k) Differ (plans_at n p) (range_with_len 0 (read_count n p))
    (range_with_len_ascends 0 (read_count n p))
    (λ k here. pairwise_map (λ v w. v < w) Differ (plan_of n p k) (writers_of processes (sources_at n p k))
    (λ v w lt reader read writer. omega (arith, lt, writer))
    (pairwise_filter (λ v w. v < w) (λ w. list_any (is_from w) (sources_at n p k)) (range_with_len 0 processes)
    (range_with_len_ascends 0 processes)))
    (λ j k first second lt a b in_a in_b reader read writer.
    omega (
      arith,
      lt,
      read,
      (each_in (λ (plan : ChannelPlan). (plan.reader ≡ p) × (plan.read ≡ j)) a (plans_at n p j) (read_by n p j) in_a).1,
      (each_in (λ (plan : ChannelPlan). (plan.reader ≡ p) × (plan.read ≡ k)) b (plans_at n p k) (read_by n p k) in_b).1,
    )))
    (λ p q first second lt a b in_a in_b reader read writer.
    omega (
      arith,
      lt,
      reader,
      each_in (λ (plan : ChannelPlan). plan.reader ≡ p) a (flat_map (plans_at n p) (range_with_len 0 (read_count n p)))
          (plans_at-reader n p) in_a,
      each_in (λ (plan : ChannelPlan). plan.reader ≡ q) b (flat_map (plans_at n q) (range_with_len 0 (read_count n q)))
          (plans_at-reader n q) in_b,
    ))

-- a channel with these ends
pub record HasEnds (w p k : ℕ) (plan : ChannelPlan) : Type 0 where
  pub writer : plan.writer ≡ w
  pub reader : plan.reader ≡ p
  pub read : plan.read ≡ k

ends_of : (w p k : ℕ) (plan : ChannelPlan) → goes_between w p k plan ≡ true → HasEnds w p k plan
ends_of w p k plan e =
    let outer = and_parts (eqb plan.writer w && eqb plan.reader p) (eqb plan.read k) e in
    let inner = and_parts (eqb plan.writer w) (eqb plan.reader p) outer.0 in
    record {
      writer = eqb-true plan.writer w inner.0;
      reader = eqb-true plan.reader p inner.1;
      read =
          eqb-true plan.read k outer.1;
    }

goes_by_ends : (w p k : ℕ) (plan : ChannelPlan) → HasEnds w p k plan → goes_between w p k plan ≡ true
goes_by_ends w p k plan ends =
    rw (eq-eqb plan.writer w ends.writer, eq-eqb plan.reader p ends.reader, eq-eqb plan.read k ends.read) refl

found_later : (d : ℕ) (plans : List ChannelPlan) (w p k j : ℕ) (plan : ChannelPlan) → Pairwise Differ plans
    → slice_get plans j ≡ Some plan → HasEnds w p k plan
    → channel_from d plans w p k ≡ Some (d + j, plan)
found_later d [] w p k j plan apart e ends = absurd (cc)
found_later d (first ∷ plans) w p k zero plan apart e ends =
    let same : first ≡ plan = same_Some first plan e in
    let front : d ≡ d + 0 = omega arith in
    let here : goes_between w p k first ≡ true = ap (goes_between w p k) same ∙ goes_by_ends w p k plan ends in
    ap (λ b. cond b (Some (d, first)) (channel_from (suc d) plans w p k)) here
    ∙ ap (λ (q : ChannelPlan). Some (d, q)) same ∙ ap (λ c. Some (c, plan)) front
found_later d (first ∷ plans) w p k (suc j) plan apart e ends =
    let next : suc d + j ≡ d + suc j = omega arith in
    elim (cases_Bool (goes_between w p k first)) [
      | inl here ↦
          let own = ends_of w p k first here in
          absurd (each_in (Differ first) plan plans apart.0 (at_in plan plans j e) (own.reader ∙ sym ends.reader)
          (own.read ∙ sym ends.read) (own.writer ∙ sym ends.writer))
      | inr there ↦
          ap (λ b. cond b (Some (d, first)) (channel_from (suc d) plans w p k)) there
          ∙ found_later (suc d) plans w p k j plan apart.1 e ends
          ∙ ap (λ c. Some (c, plan)) next
    ]

-- each channel is the one that is found by its ends
pub found_by_ends : (n : Nest) (c : ℕ) (plan : ChannelPlan) → slice_get (plans_of n) c ≡ Some plan
    → channel_from 0 (plans_of n) plan.writer plan.reader plan.read ≡ Some (c, plan)
found_by_ends n c plan e =
    let front : 0 + c ≡ c = omega arith in
    found_later 0 (plans_of n) plan.writer plan.reader plan.read c plan (plans_differ n) e
    (record { writer = refl; reader = refl; read = refl }) ∙ ap (λ d. Some (d, plan)) front

-- what is found is the channel of that number, with these ends
pub record IsFound (plans : List ChannelPlan) (w p k : ℕ) (found : ℕ × ChannelPlan) : Type 0 where
  pub there : slice_get plans found.0 ≡ Some found.1
  pub ends : HasEnds w p k found.1

found_at : (d : ℕ) (plans : List ChannelPlan) (w p k : ℕ) (found : ℕ × ChannelPlan)
    → channel_from d plans w p k ≡ Some found
    → (j : ℕ) × (found.0 ≡ d + j) × (slice_get plans j ≡ Some found.1) × HasEnds w p k found.1
found_at d [] w p k found e = absurd (cc)
found_at d (first ∷ plans) w p k found e =
    elim (cases_Bool (goes_between w p k first)) [
      | inl here ↦
          let is : (d, first) ≡ found =
          same_Some (d, first) found
          (sym (ap (λ b. cond b (Some (d, first)) (channel_from (suc d) plans w p k)) here) ∙ e) in
          let front : d ≡ d + 0 = omega arith in (
            0,
            sym (ap (λ (x : ℕ × ChannelPlan). x.0) is) ∙ front,
            ap (λ (x : ℕ × ChannelPlan). Some x.1) is,
            subst (λ (x : ℕ × ChannelPlan). HasEnds w p k x.1) is (ends_of w p k first here),
          )
      | inr there ↦
          let later =
          found_at (suc d) plans w p k found
          (sym (ap (λ b. cond b (Some (d, first)) (channel_from (suc d) plans w p k)) there) ∙ e) in
          (suc later.0, omega (arith, later.1), later.2, later.3)
    ]

pub found_is : (plans : List ChannelPlan) (w p k : ℕ) (found : ℕ × ChannelPlan)
    → channel_from 0 plans w p k ≡ Some found → IsFound plans w p k found
found_is plans w p k found e =
    let at = found_at 0 plans w p k found e in
    let number : found.0 ≡ at.0 = omega (arith, at.1) in
    record { there = ap (slice_get plans) number ∙ at.2; ends = at.3 }

pub any_found : {X : Type 0} (test : X → Bool) (xs : List X) → list_any test xs ≡ true
    → (f : ℕ) × (x : X) × (slice_get xs f ≡ Some x) × (test x ≡ true)
any_found test [] e = absurd (cc)
any_found test (x ∷ xs) e =
    elim (or_cases (test x) (list_any test xs) e) [
      | inl here ↦ (0, x, refl, here)
      | inr later ↦ (let rest = any_found test xs later in (suc rest.0, rest.1, rest.2, rest.3))
    ]

writer_exists : (n : Nest) (p k w f : ℕ) (source : Option Tag) → slice_get (sources_at n p k) f ≡ Some source
    → is_from w source ≡ true → w < length n.statements
writer_exists n p k w f None e h = absurd (cc)
writer_exists n p k w f (Some t) e h = omega (arith, eqb-true t.process w h, (source_is n p k f t e).0)

-- The channel from a process to a read is the plan of both, where the read has a source of the process.
pub channel_found : (n : Nest) (p k w : ℕ) → p < length n.statements → k < read_count n p
    → list_any (is_from w) (sources_at n p k) ≡ true
    → (c : ℕ) × (channel_from 0 (plans_of n) w p k ≡ Some (c, plan_of n p k w))
    × (slice_get (plans_of n) c ≡ Some (plan_of n p k w))
channel_found n p k w process read from =
    let some = any_found (is_from w) (sources_at n p k) from in
    let writer : w < length n.statements = writer_exists n p k w some.0 some.1 some.2 some.3 in
    let at = in_at (plan_of n p k w) (plans_of n) (plan_there n p k w process read writer from) in
    (at.0, found_by_ends n at.0 (plan_of n p k w) at.1, at.1)

-- the channel of a fire's source
pub channel_of_source : (n : Nest) (p k f : ℕ) (t : Tag) → p < length n.statements → k < read_count n p
    → slice_get (sources_at n p k) f ≡ Some (Some t)
    → (c : ℕ) × (channel_from 0 (plans_of n) t.process p k ≡ Some (c, plan_of n p k t.process))
    × (slice_get (plans_of n) c ≡ Some (plan_of n p k t.process))
channel_of_source n p k f t process read e =
    channel_found n p k t.process process read
    (any_passes_from_place (is_from t.process) (sources_at n p k) f (Some t) e (eq-eqb t.process t.process refl))

-- What is found between a process and a read: their plan, and the read has a source of the process.
pub record IsChannelBetween (n : Nest) (w p k : ℕ) (found : ℕ × ChannelPlan) : Type 0 where
  pub plan_is : found.1 ≡ plan_of n p k w
  pub there : slice_get (plans_of n) found.0 ≡ Some (plan_of n p k w)
  pub is_read : list_any (is_from w) (sources_at n p k) ≡ true
  pub process : p < length n.statements
  pub read : k < read_count n p

pub found_between : (n : Nest) (w p k : ℕ) (found : ℕ × ChannelPlan) → channel_from 0 (plans_of n) w p k ≡ Some found
    → IsChannelBetween n w p k found
found_between n w p k found e =
    let is = found_is (plans_of n) w p k found e in
    let member = at_in found.1 (plans_of n) found.0 is.there in
    let own = each_in (IsPlanOf n) found.1 (plans_of n) (plans_are n) member in
    let exists = each_in (IsChannelOf n) found.1 (plans_of n) (all_channels n) member in
    let same : found.1 ≡ plan_of n p k w =
    own.plan_is ∙ (λ i. plan_of n (is.ends.reader i) (is.ends.read i) (is.ends.writer i)) in
    record {
      plan_is = same;
      there = is.there ∙ ap Some same;
      is_read =
          (λ i. list_any (is_from (sym is.ends.writer i)) (sources_at n (sym is.ends.reader i) (sym is.ends.read i)))
          ∙ own.is_read;
      process = omega (arith, exists.reader, is.ends.reader);
      read = omega (arith, exists.read, is.ends.read, ap (read_count n) is.ends.reader);
    }
