-- How a box holds the value of a type that may lead back to it: it holds one, and has no shape of its own.
use mathlib.Core.Path.{refl}
use mathlib.Core.Former.{Former, this, const, pair, via}
use base.Stored.{gnil}
use base.Fml.{ftrue}
use denote.RattleType.{RattleType}
use denote.Memory.{part_of}
use denote.RawPtr.{Ptr}
use denote.Sharing.{nothing}
use denote.HoleLaws.{Alike}
use denote.HolePlaces.{Recodes, struct_places, laid, one_value}
use denote.Hole.Fix.{over}
use denote.Param.Weighed.{Weighed}
use denote.Model.Placed.{view_places}
use Rattle.std.specs.declared.boxed.Box.{Box}
use Rattle.std.specs.contracts.boxed.Box as box
use Rattle.std.specs.declared.alloc.Global.{Global}
use Rattle.std.specs.contracts.alloc.Global as global
use Rattle.std.specs.contracts.impls.GlobalAllocator.TheImpl.{ghosts}
use Rattle.plain_data.specs.declared.boxed.Boxed.TheInside.{Inside}
use Rattle.plain_data.specs.declared.boxed.Boxed.TheView.{view, invariant}
use Rattle.plain_data.specs.contracts.boxed.Boxed as Seen
use Rattle.plain_data.specs.contracts.boxed.Boxed.TheInside as Stored

abbrev pub the_former : Former {0} → Former {0}
the_former inner = inner

abbrev pub the_weighed : {inner : Former {0}} → Weighed inner → Weighed (the_former inner)
the_weighed weighed = weighed

-- the stored field: a pointer with its allocator, and the value behind it
abbrev stored : Former {0}
stored = via (pair (const (Ptr × Global)) this) Inside
    (λ X inside. ((inside.inner.ptr, inside.inner.alloc), inside.inner.value))
    (λ X parts. record { inner = record { ptr = parts.0.0; alloc = parts.0.1; value = parts.1 } })
    (λ X inside. refl) (λ X parts. refl)

abbrev holding : {X Y : Type 0} → Box X Global → Y → Box Y Global
holding b y = record { ptr = b.ptr; alloc = b.alloc; value = y }

abbrev box_of : RattleType → RattleType
box_of T = box.the_row T global.the_row ghosts

module _ (From To : RattleType) (h : From.Denot → To.Denot) where
  box_places : Alike From To h → Alike (box_of From) (box_of To) (λ b. holding b (h b.value))
  unfolding part_of
  box_places alike = record {
    mir_same =
        λ i. (box_of (one_value From (alike.mir_same i) (λ _. ftrue) (λ _ _. nothing) gnil)).mir;
    own_same =
        λ b i. (box_of
        (one_value From (alike.mir_same i) (alike.own_same b.value i)
        (alike.shr_same b.value i) gnil)).own_val (holding b tt);
    shr_same =
        λ b i. (box_of
        (one_value From (alike.mir_same i) (alike.own_same b.value i)
        (alike.shr_same b.value i) gnil)).shr_at (holding b tt);
  }

  pub the_places : Alike From To h
      → Alike (Seen.the_row From) (Seen.the_row To) ((the_former this).map From.Denot To.Denot h)
  the_places alike =
      view_places stored this view (λ X Y k u. refl) (λ X u. refl) From.Denot To.Denot h
      (Seen.the_row From).coded (Seen.the_row To).coded
      (invariant From.Denot) (invariant To.Denot) (λ u p q. refl) (λ u p q. refl) (λ u e. tt)
      (λ u e. tt)
      (over (Stored.the_row From)) (over (Stored.the_row To))
      (struct_places (Stored.the_type From) (Stored.the_type To)
      ((λ b. holding b (h b.value)), tt) _ (λ value. refl) refl
      (laid _ _ _ (box_places alike), tt))

  pub the_codes_placed : Recodes From To h
      → Recodes (Seen.the_row From) (Seen.the_row To) ((the_former this).map From.Denot To.Denot h)
  the_codes_placed same value = same value
