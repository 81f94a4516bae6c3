-- The numbers of a channel, from its plan.
use Rattle.std.specs.Prelude.{◌≡◌, ℕ, ◌+◌, Bool, List, map, length, take, count_by, if◌then◌else◌}
use Rattle.std.specs.List.{range_with_len}
use Rattle.channel_class.specs.declared.UseOrder.{UseOrder}
use Rattle.channel_class.specs.declared.UseOrder.TheVariants.{InOrder, Reorder}
use Rattle.channel_plan.specs.declared.plans.ChannelPlan.{ChannelPlan}
use Rattle.channel_plan.specs.Tokens.{tokens_below}
use Rattle.plan_numbers.specs.declared.numbers.PlanNumbers.{PlanNumbers}

-- uses are in order where none is below the one before it
abbrev pub order_of : Bool → UseOrder
order_of never_falls = if never_falls then InOrder else Reorder

-- for each turn of the writer, and behind the last one, how many turns before it are tokens
abbrev pub tokens_before : List Bool → List ℕ
tokens_before is_token =
    map (λ turn. count_by (λ mark. mark) (take turn is_token))
    (range_with_len 0 (length is_token + 1))

-- The list has for each place how many of these turns' tokens stand before it.
abbrev pub IsNumbered : List ℕ → List ℕ → Type 0
IsNumbered used numbers =
    numbers ≡ map (tokens_below used) (range_with_len 0 (length numbers))

-- the numbers of a channel with this plan
abbrev pub numbers_of : ChannelPlan → PlanNumbers
numbers_of plan =
    record {
      reader = plan.reader;
      read = plan.read;
      writer = plan.writer;
      tokens_before = tokens_before plan.is_token;
      tokens = plan.tokens;
      class = plan.class;
      hold = plan.slots.hold;
    }
