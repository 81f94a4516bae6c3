-- Words that are refused whatever stands behind them.
--
-- Two kinds of fault stay, whatever the words behind are. Two policies are more than one, and a value that names no
-- policy is either the only one or one of more. An item that looks like an option is no command, no number and no
-- parameter, so no items among which it stands give an order: by cases on the items before it and on the command, and
-- for parameters by induction on those before it. Only these refusals are treated, not those that a later word may turn
-- into an order.
use Rattle.std.proofs.Common.{◌≡◌, ◌==◌, ◌&&◌, refl, ap, true, false, List, [], ◌∷◌, ◌++◌, Some, None, Option, Bool, option_and_then, is_some, length, nat_le, if◌then◌else◌, arith}
use Rattle.std.specs.Option.{option_map}
use Rattle.std.proofs.lemmas.Bool.Decides.{nat_tests}
use Rattle.std.proofs.lemmas.Bool.{and_parts}
use Rattle.witness_plan.specs.declared.schedules.Policy.{Policy}
use Rattle.loop_bind.specs.Names.{value_named}
use Rattle.command_line.specs.declared.words.Command.{Command}
use Rattle.command_line.specs.declared.words.Command.TheVariants.{Run, Seq, Net, Cert, Check, Deps, Vhdl, Load, Sim, Trim, Trace}
use Rattle.command_line.specs.declared.words.Order.{Order}
use Rattle.command_line.specs.Words.{Text, Param, Split, with_policy, is_option, command_of, number_of, param_of, params_with, policy_named, policy_of, load_order, params_order, order_with, order_of_items, order_of_split}
use Rattle.command_line.proofs.WordCases.{before-other}

abbrev pub join : Split → Split → Split
join split later = record { items = split.items ++ later.items; policies = split.policies ++ later.policies }

-- what is ordered by the words that were split, and those behind them
abbrev pub order_from : Split → Option Split → Option Order
order_from split later = option_and_then (λ rest. order_of_split (join split rest)) later

no_policy : (split : Split) → policy_of split.policies ≡ None → order_of_split split ≡ None
no_policy split none = rw none refl

-- a policy that is given twice
pub given_twice : (split : Split) (v w : Text) → split.policies ≡ v ∷ w ∷ [] → (later : Option Split)
    → order_from split later ≡ None
given_twice split v w e None = refl
given_twice split v w e (Some rest) = no_policy (join split rest) (rw e refl)

not_the_only : (values : List Text) (v : Text) (later : List Text) → policy_named v ≡ None
    → policy_of (values ++ v ∷ later) ≡ None
not_the_only [] v [] none = none
not_the_only [] v (w ∷ later) none = refl
not_the_only (a ∷ []) v later none = refl
not_the_only (a ∷ b ∷ values) v later none = refl

-- a value that names no policy
pub no_such_policy : (split : Split) (v : Text) → policy_named v ≡ None → (later : Option Split)
    → order_from split (option_map (with_policy v) later) ≡ None
no_such_policy split v none None = refl
no_such_policy split v none (Some rest) =
    no_policy (join split (with_policy v rest)) (not_the_only split.policies v rest.policies none)

-- a text with `-` before more
abbrev IsDashed : Text → Type 0
IsDashed word = (rest : Text) × (word ≡ 45 ∷ rest)

is_dashed : (word : Text) → is_option word ≡ true → IsDashed word
is_dashed [] e = cc
is_dashed (x ∷ xs) e =
    let first : (x == 45) ≡ true = (and_parts (x == 45) _ e).0 in
    let same : x ≡ 45 = grind (arith, nat_tests) in
    (xs, ap (λ y. y ∷ xs) same)

pub option_is_no_policy : (word : Text) → is_option word ≡ true → policy_named word ≡ None
option_is_no_policy word e = let dashed = is_dashed word e in rw dashed.1 refl

option_is_no_command : (word : Text) → is_option word ≡ true → command_of word ≡ None
option_is_no_command word e = let dashed = is_dashed word e in rw dashed.1 refl

option_is_no_param : (word : Text) → is_option word ≡ true → param_of word ≡ None
option_is_no_param word e =
    let dashed = is_dashed word e in
    rw (dashed.1, before-other 45 dashed.0 refl) refl

either_none : {X : Type 0} (b : Bool) (other : Option X) → other ≡ None → (if b then None else other) ≡ None
either_none true other e = refl
either_none false other e = e

then_none : {X Y : Type 0} (f : X → Option Y) (x : Option X) → ((a : X) → f a ≡ None) → option_and_then f x ≡ None
then_none f None e = refl
then_none f (Some a) e = e a

params_none : (params : List Param) (before : List Text) (word : Text) (later : List Text) → is_option word ≡ true
    → params_with params ((before ++ word ∷ []) ++ later) ≡ None
params_none params [] word later e = rw (option_is_no_param word e) refl
params_none params (x ∷ before) word later e =
    then_none _ (param_of x)
    (λ param. either_none (is_some (value_named params param.0)) _
    (params_none (params ++ param ∷ []) before word later e))

neither : {X : Type 0} (a b : Bool) (x : Option X) → (if a && (b && false) then x else None) ≡ None
neither true true x = refl
neither true false x = refl
neither false b x = refl

option_is_no_number : (word : Text) → is_option word ≡ true → number_of word ≡ None
option_is_no_number word e =
    let dashed = is_dashed word e in
    rw dashed.1 (neither (nat_le 1 (length (45 ∷ dashed.0))) (nat_le (length (45 ∷ dashed.0)) 18) _)

load_none : (policy : Policy) (before : List Text) (word : Text) (later : List Text) → is_option word ≡ true
    → load_order policy ((before ++ word ∷ []) ++ later) ≡ None
load_none policy [] word [] e = rw (option_is_no_number word e) refl
load_none policy [] word (x ∷ later) e = refl
load_none policy (x ∷ []) word later e = refl
load_none policy (x ∷ y ∷ before) word later e = refl

others_none : (policy : Policy) (command : Command) (before : List Text) (word : Text) (later : List Text)
    → is_option word ≡ true
    → params_order policy command ((before ++ word ∷ []) ++ later) ≡ None
others_none policy command before word later e = rw (params_none [] before word later e) refl

with_none : (policy : Policy) (command : Command) (before : List Text) (word : Text) (later : List Text)
    → is_option word ≡ true
    → order_with policy command ((before ++ word ∷ []) ++ later) ≡ None
with_none policy Run before word later e = others_none policy Run before word later e
with_none policy Seq before word later e = others_none policy Seq before word later e
with_none policy Net before word later e = others_none policy Net before word later e
with_none policy Cert before word later e = others_none policy Cert before word later e
with_none policy Check before word later e = others_none policy Check before word later e
with_none policy Deps before word later e = others_none policy Deps before word later e
with_none policy Vhdl before word later e = others_none policy Vhdl before word later e
with_none policy Load before word later e = load_none policy before word later e
with_none policy Sim before word later e = others_none policy Sim before word later e
with_none policy Trim before word later e = others_none policy Trim before word later e
with_none policy Trace before word later e = others_none policy Trace before word later e

items_none : (policy : Policy) (before : List Text) (word : Text) (later : List Text) → is_option word ≡ true
    → order_of_items policy ((before ++ word ∷ []) ++ later) ≡ None
items_none policy [] word later e = rw (option_is_no_command word e) refl
items_none policy (x ∷ before) word later e =
    then_none _ (command_of x) (λ command. with_none policy command before word later e)

-- an item that looks like an option
pub no_such_item : (before : List Text) (word : Text) (policies : List Text) → is_option word ≡ true
    → (later : Option Split) → order_from (record { items = before ++ word ∷ []; policies = policies }) later ≡ None
no_such_item before word policies e None = refl
no_such_item before word policies e (Some rest) =
    then_none _ (policy_of (policies ++ rest.policies)) (λ policy. items_none policy before word rest.items e)
