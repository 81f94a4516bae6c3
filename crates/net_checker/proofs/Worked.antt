-- What the checker's definitions say of one small network and of changed ones, computed from them. The rows were
-- reckoned by hand: each change breaks one rule, and the row tells the first place where it is broken.
--
-- The nest hands one value on: a source, an assignment and a sink, each with one point. Its network has one process for
-- each and two channels, and 7 events. The certificate has `Sweep` for both reads.
use Rattle.std.proofs.Common.{◌≡◌, ℕ, suc, pos, ℤ, true, false, List, [], ◌∷◌, codes, refl, lit≤}
use Rattle.std.specs.Prelude.{Some, None}
use Rattle.channel_class.specs.declared.ChannelClass.{ChannelClass}
use Rattle.channel_class.specs.declared.UseOrder.{UseOrder}
use Rattle.channel_class.specs.declared.UseOrder.TheVariants.{InOrder, Reorder}
use Rattle.sanlp.specs.declared.nest.Access.{Access}
use Rattle.sanlp.specs.declared.nest.ArrayDecl.{ArrayDecl}
use Rattle.sanlp.specs.declared.nest.Kind.TheVariants as kind
use Rattle.sanlp.specs.declared.nest.Nest.{Nest}
use Rattle.sanlp.specs.declared.nest.Node.{Node, Assign}
use Rattle.sanlp.specs.declared.nest.Role.TheVariants as role
use Rattle.sanlp.specs.declared.nest.Statement.{Statement}
use Rattle.sanlp.specs.Examples.{loop_to, rows_to, sets_y}
use Rattle.sanlp.specs.Points.{points_of}
use Rattle.sanlp.specs.Trace.{trace}
use Rattle.sanlp.specs.WellFormed.{IsWellFormed, in_role}
use Rattle.sanlp.specs.Writers.{last_before}
use Rattle.sanlp.proofs.Folds.{fold_assign, fold_assign_at, fold_assign_at_both, fold_given, fold_loop, fold_loop_at}
use Rattle.sanlp.proofs.Folds.{fold_loop_at_both, fold_read}
use Rattle.source_tree.specs.declared.cert.Cert.{Cert}
use Rattle.source_tree.specs.declared.cert.Origin.TheVariants.{Sweep}
use Rattle.net_core.specs.declared.network.Channel.{Channel}
use Rattle.net_core.specs.declared.network.Event.{Event}
use Rattle.net_core.specs.declared.network.Event.TheVariants.{Get, Fire, Put}
use Rattle.net_core.specs.declared.network.Network.{Network}
use Rattle.net_core.specs.declared.refs.Ref.TheVariants.{Zero, Slot}
use Rattle.net_core.specs.Names.{tag}
use Rattle.net_core.specs.Names.Name.{zero_name, empty_name, token_name}
use Rattle.net_core.specs.Sound.{source_tag}
use Rattle.net_checker.specs.declared.verdict.Refusal.TheVariants as refusal
use Rattle.net_checker.specs.declared.verdict.Seen.TheVariants as seen
use Rattle.net_checker.specs.declared.verdict.Wanted.TheVariants as wanted
use Rattle.net_checker.specs.Choice.{first_below}
use Rattle.net_checker.specs.Classes.{class_refusal}
use Rattle.net_checker.specs.Entries.{name_refusal, schedule_refusal}
use Rattle.net_checker.specs.Firings.{firing_refusal}
use Rattle.net_checker.specs.Fits.{first}
use Rattle.net_checker.specs.FittingFires.{puts_first}
use Rattle.net_checker.specs.Shapes.{shape_refusal}
use Rattle.net_checker.specs.Sources.{source_refusal}

-- in x[1]; out y[1]; for (i = 0; i < 1; i++) y[i] = x[i];

abbrev x_and_y : List ArrayDecl
x_and_y =
    record { name = codes "x"; kind = kind.Input; extents = pos 1 ∷ [] }
    ∷ record { name = codes "y"; kind = kind.Output; extents = pos 1 ∷ [] } ∷ []

abbrev cell : ℕ → Access
cell a = record { array = a; subscripts = record { constant = pos 0; coefs = pos 1 ∷ [] } ∷ [] }

-- y[i] = v, of which the expression is taken: the value of the one read
abbrev read_one : Statement
read_one = sets_y (pos 0)

abbrev copies : List Statement
copies =
    record {
      role = role.Source 0;
      loops = 0 ∷ [];
      rows = rows_to (pos 0);
      write = Some (cell 0);
      reads = [];
      expr = (in_role (role.Source 0) read_one).expr;
    }
    ∷ record {
      role = role.Assign;
      loops = 1 ∷ [];
      rows = rows_to (pos 0);
      write = Some (cell 1);
      reads = cell 0 ∷ [];
      expr = read_one.expr;
    }
    ∷ record {
      role = role.Sink 1;
      loops = 2 ∷ [];
      rows = rows_to (pos 0);
      write = None;
      reads = cell 1 ∷ [];
      expr = read_one.expr;
    } ∷ []

abbrev copies_body : List Node
copies_body =
    loop_to 0 (pos 0) (Assign 0 ∷ []) ∷ loop_to 1 (pos 0) (Assign 1 ∷ []) ∷ loop_to 2 (pos 0) (Assign 2 ∷ []) ∷ []

copies_well_formed : IsWellFormed x_and_y copies copies_body
copies_well_formed = record {
  few_statements = lit≤ tt;
  names_differ = refl;
  few_extents = refl;
  roles_in_order = refl;
  in_roles = refl;
  statements_fit = simp (fold_read, fold_given);
  placed = simp (fold_loop_at_both, fold_assign_at_both);
  loops_numbered = simp (fold_loop, fold_assign);
  forms_fit = simp (fold_loop_at, fold_assign_at);
  ends_framed = simp (fold_loop, fold_assign);
}

abbrev copying : Nest
copying = record { arrays = x_and_y; statements = copies; body = copies_body; well_formed = copies_well_formed }

-- Networks

-- each token is used once
abbrev once : UseOrder → ChannelClass
once order = record { order = order; multiplicity = false }

-- the reader is the process after the writer
abbrev channel : ℕ → ℕ → ℕ → UseOrder → Channel
channel writer read capacity order = record {
  writer = writer;
  reader = suc writer;
  read = read;
  capacity = capacity;
  class = once order;
}

abbrev source : List Event
source = Fire [] ∷ Put 0 ∷ []

abbrev assignment : List Event
assignment = Get 0 0 ∷ Fire (Slot 0 ∷ []) ∷ Put 1 ∷ []

abbrev sink : List Event
sink = Get 1 0 ∷ Fire (Slot 0 ∷ []) ∷ []

-- these scripts, so many slots of the sink, and these channels
abbrev network : List Event → List Event → List Event → ℕ → List Channel → Network
network first second third slots channels = record {
  processes =
      record { slots = 0; script = first } ∷ record { slots = 1; script = second }
      ∷ record { slots = slots; script = third } ∷ [];
  channels = channels;
}

abbrev both : List Channel
both = channel 0 0 1 InOrder ∷ channel 1 0 1 InOrder ∷ []

abbrev right : Network
right = network source assignment sink 1 both

abbrev in_turn : List ℕ
in_turn = 0 ∷ 0 ∷ 1 ∷ 1 ∷ 1 ∷ 2 ∷ 2 ∷ []

abbrev cert : List ℕ → Cert
cert schedule = record { sources = Sweep ∷ Sweep ∷ []; schedule = schedule }

-- the point 0 of each process
abbrev points : List (List (List ℤ))
points = ((pos 0 ∷ []) ∷ []) ∷ ((pos 0 ∷ []) ∷ []) ∷ ((pos 0 ∷ []) ∷ []) ∷ []

points_are : points_of copying ≡ points
unfolding points_of trace
points_are = simp (fold_loop_at, fold_assign_at)

-- the assignment reads what the source gave, and the sink what was assigned

first_source : source_tag copying 1 0 0 ≡ Some (tag 0 0)
unfolding trace last_before
first_source = simp (fold_loop_at, fold_assign_at)

second_source : source_tag copying 2 0 0 ≡ Some (tag 1 0)
unfolding trace last_before
second_source = simp (fold_loop_at, fold_assign_at)

-- The shape

right_shape : shape_refusal copying right (cert in_turn) ≡ None
unfolding shape_refusal first_below
right_shape = refl

-- there is no read 9: the network as a whole doesn't agree with the nest of 3 statements
no_such_read : shape_refusal copying
    (network source assignment sink 1 (channel 0 9 1 InOrder ∷ channel 1 0 1 InOrder ∷ [])) (cert in_turn)
    ≡ Some (refusal.Shape 3)
unfolding shape_refusal first_below
no_such_read = refl

one_source : shape_refusal copying right (record { sources = Sweep ∷ []; schedule = in_turn }) ≡ Some (refusal.Shape 3)
unfolding shape_refusal first_below
one_source = refl

-- process 2 gets from channel 0, which is read by process 1
others_channel : shape_refusal copying
    (network source assignment (Get 0 0 ∷ Fire (Slot 0 ∷ []) ∷ []) 1 both) (cert in_turn)
    ≡ Some (refusal.Shape 2)
unfolding shape_refusal first_below
others_channel = refl

-- two slots and one Get
idle_slot : shape_refusal copying (network source assignment sink 2 both) (cert in_turn) ≡ Some (refusal.Shape 2)
unfolding shape_refusal first_below
idle_slot = refl

-- The fires

right_fires : firing_refusal copying right ≡ None
unfolding firing_refusal first_below points_of trace
right_fires = simp (fold_loop_at, fold_assign_at)

put_first : firing_refusal copying (network (Put 0 ∷ Fire [] ∷ []) assignment sink 1 both) ≡ Some (refusal.Fires 0 0)
unfolding firing_refusal first_below
put_first = refl

-- the fire of the assignment stands at place 1
no_reference : firing_refusal copying (network source (Get 0 0 ∷ Fire [] ∷ Put 1 ∷ []) sink 1 both)
    ≡ Some (refusal.Fires 1 1)
unfolding firing_refusal first_below points_of trace
no_reference = simp (fold_loop_at, fold_assign_at)

-- no fire, which is seen at the end of the script
no_fire : firing_refusal copying (network source (Get 0 0 ∷ []) sink 1 both) ≡ Some (refusal.Fires 1 1)
unfolding firing_refusal first_below points_of trace
no_fire = simp (fold_loop_at, fold_assign_at)

-- a Put before each Fire, a Put behind one, and neither
put_before : puts_first (Get 0 0 ∷ Put 1 ∷ Fire (Slot 0 ∷ []) ∷ []) ≡ true
put_before = refl

put_behind : puts_first assignment ≡ false
put_behind = refl

no_put : puts_first (Get 0 0 ∷ []) ≡ false
no_put = refl

-- The schedule

right_schedule : schedule_refusal copying right in_turn ≡ None
unfolding schedule_refusal first_below points_of trace last_before
right_schedule = simp (fold_loop_at, fold_assign_at)

-- entry 1 is the Put to a channel without a place
no_place : schedule_refusal copying
    (network source assignment sink 1 (channel 0 0 0 InOrder ∷ channel 1 0 1 InOrder ∷ [])) in_turn
    ≡ Some (refusal.NotEnabled 1)
unfolding schedule_refusal first_below
no_place = refl

no_such_process : schedule_refusal copying right (7 ∷ 0 ∷ 1 ∷ 1 ∷ 1 ∷ 2 ∷ 2 ∷ []) ≡ Some (refusal.NotEnabled 0)
unfolding schedule_refusal first_below
no_such_process = refl

-- process 1 is at its end
past_the_end : schedule_refusal copying right (0 ∷ 0 ∷ 1 ∷ 1 ∷ 1 ∷ 2 ∷ 1 ∷ []) ≡ Some (refusal.NotEnabled 6)
unfolding schedule_refusal first_below points_of trace last_before
past_the_end = simp (fold_loop_at, fold_assign_at)

last_left_out : schedule_refusal copying right (0 ∷ 0 ∷ 1 ∷ 1 ∷ 1 ∷ 2 ∷ []) ≡ Some (refusal.Unended 2)
unfolding schedule_refusal first_below points_of trace last_before
last_left_out = simp (fold_loop_at, fold_assign_at)

-- entry 3 is the fire of the assignment
zero_read : schedule_refusal copying
    (network source (Get 0 0 ∷ Fire (Zero ∷ []) ∷ Put 1 ∷ []) sink 1 both) in_turn
    ≡ Some (refusal.Tag 3 seen.Zero (wanted.At (record { statement = 0; at = pos 0 ∷ [] })))
unfolding schedule_refusal first_below points_of trace last_before
zero_read = simp (fold_loop_at, fold_assign_at)

-- the fire comes before the Get, as entry 2
empty_slot : schedule_refusal copying
    (network source (Fire (Slot 0 ∷ []) ∷ Get 0 0 ∷ Put 1 ∷ []) sink 1 both) in_turn
    ≡ Some (refusal.Tag 2 seen.Empty (wanted.At (record { statement = 0; at = pos 0 ∷ [] })))
unfolding schedule_refusal first_below points_of trace last_before
empty_slot = simp (fold_loop_at, fold_assign_at)

-- Names against what is wanted: a slot that was never filled isn't zero

empty_for_zero : name_refusal points 5 empty_name None ≡ Some (refusal.Tag 5 seen.Empty wanted.Zero)
empty_for_zero = refl

zero_for_zero : name_refusal points 5 zero_name None ≡ None
zero_for_zero = refl

other_turn : name_refusal (((pos 0 ∷ []) ∷ (pos 4 ∷ []) ∷ []) ∷ []) 5 (token_name (tag 0 0)) (Some (tag 0 1))
    ≡ Some (refusal.Tag 5 (seen.At (record { statement = 0; at = pos 0 ∷ [] }))
    (wanted.At (record { statement = 0; at = pos 4 ∷ [] })))
other_turn = refl

-- The classes: the one token of each channel is used once

right_classes : class_refusal right ≡ None
unfolding class_refusal first_below
right_classes = refl

said_reorder : class_refusal (network source assignment sink 1 (channel 0 0 1 InOrder ∷ channel 1 0 1 Reorder ∷ []))
    ≡ Some (refusal.Class 1 (once Reorder) (once InOrder))
unfolding class_refusal first_below
said_reorder = refl

-- All together

accepted : first copying right (cert in_turn) ≡ None
unfolding first_below shape_refusal firing_refusal source_refusal schedule_refusal class_refusal
    points_of trace last_before
accepted = simp (fold_loop_at, fold_assign_at)

-- a second token that nobody uses is harmless
unused_token : first copying
    (network (Fire [] ∷ Put 0 ∷ Put 0 ∷ []) assignment sink 1 (channel 0 0 2 InOrder ∷ channel 1 0 1 InOrder ∷ []))
    (cert (0 ∷ 0 ∷ 0 ∷ 1 ∷ 1 ∷ 1 ∷ 2 ∷ 2 ∷ []))
    ≡ None
unfolding first_below shape_refusal firing_refusal source_refusal schedule_refusal class_refusal
    points_of trace last_before
unused_token = simp (fold_loop_at, fold_assign_at)

-- Of two faults the one of the shape decides: read 9, and a schedule that doesn't end.
shape_first : first copying
    (network source assignment sink 1 (channel 0 9 1 InOrder ∷ channel 1 0 1 InOrder ∷ [])) (cert [])
    ≡ Some (refusal.Shape 3)
unfolding shape_refusal first_below
shape_first = refl
