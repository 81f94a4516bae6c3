-- Entries that are made along the blocks of a schedule.
--
-- `LeadsTo` composes: where some entries lead from one state to a second, and others from there to a third, the first
-- and then the others lead from the first state to the third. For a list that is refused nowhere has a first part that
-- is refused nowhere, and what comes after is judged at the cut to which that leads. So parts lead where their
-- expansions lead, one after the other, and a repeat leads where so many copies of its body do. The number of an entry
-- stands in a refusal alone, so it doesn't matter at which number a part begins. From the opening state the whole
-- schedule is refused nowhere, and what is wrong is a process that hasn't ended.
use Rattle.std.proofs.Common.{◌≡◌, ℕ, ◌+◌, ◌<◌, suc, true, Option, Some, None, List, [], ◌∷◌, ◌++◌, length, take, get_or}
use Rattle.std.proofs.Common.{slice_get, refl, sym, ap, ◌∙◌, subst}
use Rattle.std.specs.Option.{option_or}
use Rattle.std.proofs.lemmas.List.{append-nil, take_more}
use Rattle.std.proofs.lemmas.Grind.{flat_map-append}
use Rattle.sanlp.specs.declared.nest.Nest.{Nest}
use Rattle.script_blocks.specs.declared.blocks.Blocks.{Blocks}
use Rattle.script_blocks.specs.declared.blocks.BlockPart.{BlockPart}
use Rattle.script_blocks.specs.declared.blocks.BlockPart.TheVariants.{Item}
use Rattle.script_blocks.specs.declared.blocks.BlockPart.TheViews.{Repeat}
use Rattle.script_blocks.specs.Expansion.{part_expansion, parts_expansion, repeated}
use Rattle.script_blocks.proofs.Expansions.{expansion_item, expansion_repeat}
use Rattle.script_blocks.proofs.Repetitions.{repeated_more}
use Rattle.net_core.specs.declared.network.Event.{Event}
use Rattle.net_core.specs.declared.network.Event.TheVariants.{Fire}
use Rattle.net_core.specs.declared.network.Network.{Network}
use Rattle.net_core.specs.declared.refs.Ref.{Ref}
use Rattle.net_core.specs.Cuts.{Cut, advanced, can_come_at, cut_after, opening, positions}
use Rattle.net_core.specs.Machine.{Net, enabled, net_of, next, start, step}
use Rattle.net_core.specs.Rules.{tags}
use Rattle.net_core.proofs.CutOrder.{cut_after-append}
use Rattle.net_core.proofs.Positions.{enabled_as_cut, positions_step}
use Rattle.net_checker.specs.declared.tag_state.TagState.{TagState}
use Rattle.net_checker.specs.Choice.{first_below}
use Rattle.net_checker.specs.Entries.{entry_refusal, entries_refusal, event_refusal, schedule_refusal, unended}
use Rattle.net_checker.specs.Schedules.{LeadsTo}
use Rattle.net_checker.specs.TagStates.{IsTagState, cut_in, state_of}
use Rattle.net_checker.proofs.Walk.{IsWalked, entry_event, walked_on}

-- what one item alone stands for
pub only_item : (parts rest : List (BlockPart ℕ)) (part : BlockPart ℕ) (p : ℕ) → parts ≡ part ∷ rest → rest ≡ []
    → part ≡ Item p → parts_expansion parts ≡ p ∷ []
only_item parts rest part p is none item =
    ap parts_expansion (is ∙ ap (λ (ps : List (BlockPart ℕ)). part ∷ ps) none)
    ∙ append-nil (part_expansion part) ∙ ap part_expansion item ∙ expansion_item p

none_first : {A : Type 0} (a b : Option A) → option_or a b ≡ None → a ≡ None
none_first None b h = refl
none_first (Some x) b h = cc

none_second : {A : Type 0} (a b : Option A) → option_or a b ≡ None → b ≡ None
none_second None b h = h
none_second (Some x) b h = cc

module _ (n : Nest) (net : Net) where
  fine_append : (xs ys : List ℕ) (k : Cut) (i : ℕ) → entries_refusal n net k i xs ≡ None
      → ((j : ℕ) → entries_refusal n net (cut_after k xs) j ys ≡ None)
      → entries_refusal n net k i (xs ++ ys) ≡ None
  fine_append [] ys k i first second = second i
  fine_append (x ∷ xs) ys k i first second =
      let later = entries_refusal n net (advanced k x) (suc i) xs in
      ap (λ o. option_or o (entries_refusal n net (advanced k x) (suc i) (xs ++ ys)))
      (none_first (entry_refusal n net k i x) later first)
      ∙ fine_append xs ys (advanced k x) (suc i) (none_second (entry_refusal n net k i x) later first) second

  -- no entry leads anywhere
  pub leads_nowhere : (xs : List ℕ) (a : TagState) → xs ≡ [] → LeadsTo n net xs a a
  leads_nowhere xs a none = record {
    fine = λ i. ap (entries_refusal n net (cut_in a) i) none;
    cut = sym (ap (cut_after (cut_in a)) none);
  }

  pub leads_as : (xs ys : List ℕ) (a b : TagState) → xs ≡ ys → LeadsTo n net xs a b → LeadsTo n net ys a b
  leads_as xs ys a b same leads = record {
    fine = λ i. sym (ap (entries_refusal n net (cut_in a) i) same) ∙ leads.fine i;
    cut = leads.cut ∙ ap (cut_after (cut_in a)) same;
  }

  pub leads_append : (xs ys : List ℕ) (a b c : TagState) → LeadsTo n net xs a b → LeadsTo n net ys b c
      → LeadsTo n net (xs ++ ys) a c
  leads_append xs ys a b c first second = record {
    fine = λ i. fine_append xs ys (cut_in a) i (first.fine i)
        (λ j. ap (λ k. entries_refusal n net k j ys) (sym first.cut) ∙ second.fine j);
    cut = second.cut ∙ ap (λ k. cut_after k ys) first.cut ∙ sym (cut_after-append (cut_in a) xs ys);
  }

  -- an entry that is fine, by one step of the machine
  pub leads_by_step : (p : ℕ) (a b : TagState) → enabled net (state_of net a) p ≡ true
      → ((i : ℕ) → entry_refusal n net (cut_in a) i p ≡ None)
      → state_of net b ≡ step net tags (state_of net a) p → LeadsTo n net (p ∷ []) a b
  leads_by_step p a b on fine run = record {
    fine = λ i. ap (λ o. option_or o None) (fine i);
    cut = ap positions run ∙ positions_step net tags (state_of net a) p on;
  }

  -- so does an event that may come, where the event itself isn't refused
  pub leads_by_event : (p : ℕ) (e : Event) (a b : TagState) → IsTagState net a → enabled net (state_of net a) p ≡ true
      → next net (state_of net a) p ≡ Some e → ((i : ℕ) → event_refusal n net i p (cut_in a p) (Some e) ≡ None)
      → state_of net b ≡ step net tags (state_of net a) p → LeadsTo n net (p ∷ []) a b
  leads_by_event p e a b state on is fine run =
      leads_by_step p a b on
      (λ i. entry_event n net (state_of net a) state.counted p i e on is ∙ fine i) run

  -- parts lead on by one part more
  pub leads_part : (parts : List (BlockPart ℕ)) (i : ℕ) (part : BlockPart ℕ) (a b c : TagState) → i < length parts
      → part ≡ get_or parts i part → LeadsTo n net (parts_expansion (take i parts)) a b
      → LeadsTo n net (part_expansion part) b c → LeadsTo n net (parts_expansion (take (i + 1) parts)) a c
  leads_part parts i part a b c lt is first second =
      let all : parts_expansion (take (i + 1) parts) ≡ parts_expansion (take i parts) ++ part_expansion part =
      ap parts_expansion (take_more parts i part lt ∙ ap (λ p. take i parts ++ p ∷ []) (sym is))
      ∙ flat_map-append part_expansion (take i parts) (part ∷ [])
      ∙ ap (λ ys. parts_expansion (take i parts) ++ ys) (append-nil (part_expansion part)) in
      leads_as (parts_expansion (take i parts) ++ part_expansion part) (parts_expansion (take (i + 1) parts)) a c
      (sym all) (leads_append (parts_expansion (take i parts)) (part_expansion part) a b c first second)

  -- copies lead on by one copy more
  pub leads_copy : (count : ℕ) (xs : List ℕ) (a b c : TagState) → LeadsTo n net (repeated count xs) a b
      → LeadsTo n net xs b c → LeadsTo n net (repeated (count + 1) xs) a c
  leads_copy count xs a b c first second =
      leads_as (repeated count xs ++ xs) (repeated (count + 1) xs) a c (sym (repeated_more count xs))
      (leads_append (repeated count xs) xs a b c first second)

  pub leads_repeat : (count : ℕ) (body : Blocks ℕ) (part : BlockPart ℕ) (a b : TagState) → part ≡ Repeat count body
      → LeadsTo n net (repeated count (parts_expansion body.parts)) a b → LeadsTo n net (part_expansion part) a b
  leads_repeat count body part a b is leads =
      leads_as (repeated count (parts_expansion body.parts)) (part_expansion part) a b
      (sym (ap part_expansion is ∙ expansion_repeat count body)) leads

-- a process whose next event is a Fire may go on
pub fire_enabled : (n : Net) (s : TagState) → IsTagState n s → (p : ℕ) (refs : List Ref)
    → next n (state_of n s) p ≡ Some (Fire refs) → enabled n (state_of n s) p ≡ true
fire_enabled n s state p refs is =
    enabled_as_cut n (state_of n s) state.counted p ∙ ap (can_come_at n (cut_in s)) is

-- what is wrong with a schedule that leads from the opening state is a process that hasn't ended
pub leads_to_end : (n : Nest) (network : Network) (schedule : List ℕ) (a b : TagState)
    → state_of (net_of network) a ≡ start (net_of network) → LeadsTo n (net_of network) schedule a b
    → first_below (unended (net_of network) (cut_in b)) (length network.processes)
    ≡ schedule_refusal n network schedule
unfolding schedule_refusal
leads_to_end n network schedule a b run leads =
    let net = net_of network in
    let opens : cut_in a ≡ opening = ap positions run in
    let fine : entries_refusal n net opening 0 schedule ≡ None =
    ap (λ k. entries_refusal n net k 0 schedule) (sym opens) ∙ leads.fine 0 in
    let there : cut_after opening schedule ≡ cut_in b =
    ap (λ k. cut_after k schedule) (sym opens) ∙ sym leads.cut in
    sym (ap (λ o.
    option_or o (first_below (unended net (cut_after opening schedule)) (length network.processes))) fine
    ∙ ap (λ k. first_below (unended net k) (length network.processes)) there)

-- the walk goes on past an entry that leads on, and stays where it is in a state that stays
module _ (n : Nest) (net : Net) (schedule : List ℕ) (s s' : TagState) (i : ℕ) (w : IsWalked n net schedule s i) where
  pub walked_by : (p : ℕ) → slice_get schedule i ≡ Some p → LeadsTo n net (p ∷ []) s s' → IsTagState net s'
      → IsWalked n net schedule s' (suc i)
  walked_by p at leads state =
      walked_on n net schedule s s' i p w at (none_first (entry_refusal n net (cut_in s) i p) None (leads.fine i))
      leads.cut state

  pub walked_same : s' ≡ s → IsWalked n net schedule s' i
  walked_same same = subst (λ (t : TagState). IsWalked n net schedule t i) (sym same) w
