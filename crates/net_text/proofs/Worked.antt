-- Texts of worked networks, computed from the definitions. The networks and the numbers in the texts were made by hand.
use Rattle.std.proofs.Common.{◌≡◌, ℕ, pos, true, false, List, [], ◌∷◌, codes, flat_map, refl, lit≤}
use Rattle.std.specs.Prelude.{Some, None}
use Rattle.std.specs.Fmt.{digits}
use Rattle.std.specs.List.{concat, range_with_len}
use Rattle.channel_class.specs.declared.UseOrder.{UseOrder}
use Rattle.channel_class.specs.declared.UseOrder.TheVariants.{InOrder, Reorder}
use Rattle.sanlp.specs.declared.nest.Access.{Access}
use Rattle.sanlp.specs.declared.nest.ArrayDecl.{ArrayDecl}
use Rattle.sanlp.specs.declared.nest.Kind.TheVariants as kind
use Rattle.sanlp.specs.declared.nest.Nest.{Nest}
use Rattle.sanlp.specs.declared.nest.Node.{Node, Assign}
use Rattle.sanlp.specs.declared.nest.Role.TheVariants as role
use Rattle.sanlp.specs.declared.nest.Statement.{Statement}
use Rattle.sanlp.specs.Examples.{loop_to, rows_to, sets_y}
use Rattle.sanlp.specs.WellFormed.{IsWellFormed, in_role}
use Rattle.sanlp.proofs.Folds.{fold_assign, fold_assign_at, fold_assign_at_both, fold_given, fold_loop, fold_loop_at}
use Rattle.sanlp.proofs.Folds.{fold_loop_at_both, fold_read}
use Rattle.net_core.specs.declared.network.Channel.{Channel}
use Rattle.net_core.specs.declared.network.Event.{Event}
use Rattle.net_core.specs.declared.network.Event.TheVariants.{Get, Fire, Put}
use Rattle.net_core.specs.declared.network.Network.{Network}
use Rattle.net_core.specs.declared.refs.Ref.TheVariants.{Slot}
use Rattle.net_core.specs.Machine.{net_of}
use Rattle.net_text.specs.NetworkText.{channel_numbers, channel_text, class_word, hold, net_text, span}
use Rattle.net_text.specs.Ranges.{joined, range_of}

-- in x[3]; out y[3]; for (i = 0; i < 3; i++) y[i] = x[i];

abbrev x_and_y : List ArrayDecl
x_and_y =
    record { name = codes "x"; kind = kind.Input; extents = pos 3 ∷ [] }
    ∷ record { name = codes "y"; kind = kind.Output; extents = pos 3 ∷ [] } ∷ []

abbrev cell : ℕ → Access
cell a = record { array = a; subscripts = record { constant = pos 0; coefs = pos 1 ∷ [] } ∷ [] }

-- y[i] = v, of which the expression is taken: the value of the one read
abbrev read_one : Statement
read_one = sets_y (pos 2)

abbrev copies : List Statement
copies =
    record {
      role = role.Source 0;
      loops = 0 ∷ [];
      rows = rows_to (pos 2);
      write = Some (cell 0);
      reads = [];
      expr = (in_role (role.Source 0) read_one).expr;
    }
    ∷ record {
      role = role.Assign;
      loops = 1 ∷ [];
      rows = rows_to (pos 2);
      write = Some (cell 1);
      reads = cell 0 ∷ [];
      expr = read_one.expr;
    }
    ∷ record {
      role = role.Sink 1;
      loops = 2 ∷ [];
      rows = rows_to (pos 2);
      write = None;
      reads = cell 1 ∷ [];
      expr = read_one.expr;
    } ∷ []

abbrev copies_body : List Node
copies_body =
    loop_to 0 (pos 2) (Assign 0 ∷ []) ∷ loop_to 1 (pos 2) (Assign 1 ∷ []) ∷ loop_to 2 (pos 2) (Assign 2 ∷ []) ∷ []

copies_well_formed : IsWellFormed x_and_y copies copies_body
copies_well_formed = record {
  few_statements = lit≤ tt;
  names_differ = refl;
  few_extents = refl;
  roles_in_order = refl;
  in_roles = refl;
  statements_fit = simp (fold_read, fold_given);
  placed = simp (fold_loop_at_both, fold_assign_at_both);
  loops_numbered = simp (fold_loop, fold_assign);
  forms_fit = simp (fold_loop_at, fold_assign_at);
  ends_framed = simp (fold_loop, fold_assign);
}

abbrev copying : Nest
copying = record { arrays = x_and_y; statements = copies; body = copies_body; well_formed = copies_well_formed }

-- the same events so many times
abbrev times : ℕ → List Event → List Event
times n events = flat_map (λ turn. events) (range_with_len 0 n)

-- a channel for the reader's first read, each token of which is used once
abbrev channel : ℕ → ℕ → ℕ → UseOrder → Channel
channel writer reader capacity order = record {
  writer = writer;
  reader = reader;
  read = 0;
  capacity = capacity;
  class = record { order = order; multiplicity = false };
}

abbrev three_turns : Network
three_turns = record {
  processes =
      record { slots = 0; script = times 3 (Fire [] ∷ Put 0 ∷ []) }
      ∷ record { slots = 1; script = times 3 (Get 0 0 ∷ Fire (Slot 0 ∷ []) ∷ Put 1 ∷ []) }
      ∷ record { slots = 1; script = times 3 (Get 1 0 ∷ Fire (Slot 0 ∷ []) ∷ []) } ∷ [];
  channels = channel 0 1 3 InOrder ∷ channel 1 2 3 InOrder ∷ [];
}

-- 3 times 2, 3 times 3 and 3 times 2 events
whole_text : net_text copying three_turns
    ≡ concat (
    codes "net 1\n"
    ∷ codes "process 0 source x fires 3 slots 0\n"
    ∷ codes "process 1 assign y fires 3 slots 1\n"
    ∷ codes "process 2 sink y fires 3 slots 1\n"
    ∷ codes "channel 0 from 0 to 1 read 0 tokens 3 capacity 3 hold 1 class inorder\n"
    ∷ codes "channel 1 from 1 to 2 read 0 tokens 3 capacity 3 hold 1 class inorder\n"
    ∷ codes "events 21\n"
    ∷ codes "end\n" ∷ [])
unfolding digits
whole_text = refl

-- no points: the same processes, and no channel
abbrev no_turns : Network
no_turns = record {
  processes =
      record { slots = 0; script = [] } ∷ record { slots = 0; script = [] } ∷ record { slots = 0; script = [] } ∷ [];
  channels = [];
}

empty_text : net_text copying no_turns
    ≡ concat (
    codes "net 1\n"
    ∷ codes "process 0 source x fires 0 slots 0\n"
    ∷ codes "process 1 assign y fires 0 slots 0\n"
    ∷ codes "process 2 sink y fires 0 slots 0\n"
    ∷ codes "events 0\n"
    ∷ codes "end\n" ∷ [])
unfolding digits
empty_text = refl

-- for j < 2 for i < 2 b[j][i] = a[i][j]: the second token is got ahead of its use, so two are held

abbrev corner : Network
corner = record {
  processes =
      record { slots = 0; script = times 4 (Fire [] ∷ Put 0 ∷ []) }
      ∷ record {
        slots = 2;
        script =
            Get 0 0 ∷ Fire (Slot 0 ∷ []) ∷ Put 1
            ∷ Get 0 0 ∷ Get 0 1 ∷ Fire (Slot 1 ∷ []) ∷ Put 1
            ∷ Fire (Slot 0 ∷ []) ∷ Put 1 ∷ Get 0 0 ∷ Fire (Slot 0 ∷ []) ∷ Put 1 ∷ [];
      }
      ∷ record { slots = 1; script = times 4 (Get 1 0 ∷ Fire (Slot 0 ∷ []) ∷ []) } ∷ [];
  channels = channel 0 1 4 Reorder ∷ channel 1 2 4 InOrder ∷ [];
}

turned_line : channel_text 0 (channel_numbers corner 0 (channel 0 1 4 Reorder))
    ≡ codes "channel 0 from 0 to 1 read 0 tokens 4 capacity 4 hold 2 class reorder\n"
unfolding digits
turned_line = refl

-- the slots 3, 1 and 2 of a channel whose first slot is 1; nothing of a channel without Gets
three_slots : span (3 ∷ 1 ∷ 2 ∷ []) ≡ 3
three_slots = refl

no_slots : hold (net_of corner) 2 ≡ 0
no_slots = refl

range : range_of (3 ∷ 1 ∷ 2 ∷ 1 ∷ []) ≡ Some (1, 3)
range = refl

two_ranges : joined (Some (1, 3)) (Some (0, 2)) ≡ Some (0, 3)
two_ranges = refl

-- tokens that are used out of order and again
both : class_word (record { order = Reorder; multiplicity = true }) ≡ codes "reorder+"
both = refl

used_again : class_word (record { order = InOrder; multiplicity = true }) ≡ codes "inorder+"
used_again = refl
