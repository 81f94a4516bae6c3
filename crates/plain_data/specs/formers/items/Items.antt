-- How a list holds the values of a type that may lead back to it: its shape is that of a list.
use mathlib.Core.Path.{◌≡◌, refl, sym}
use mathlib.Core.List.{List, []}
use mathlib.Core.Former.{Former, this, list, via, children}
use base.Stored.{code_map}
use denote.RattleType.{RattleType}
use denote.HoleLaws.{Alike}
use denote.HolePlaces.{Recodes, struct_places, laid}
use denote.Hole.Carrier.{listed, list-listed}
use denote.Hole.Fix.{over}
use denote.Param.Weighed.{Weighed, w_list}
use denote.Model.Placed.{view_places}
use Rattle.std.specs.formers.vec.Vec as vec
use Rattle.std.specs.declared.alloc.Global.{Global}
use Rattle.std.specs.contracts.alloc.Global as global
use Rattle.std.specs.contracts.impls.GlobalAllocator.TheImpl.{ghosts}
use Rattle.plain_data.specs.declared.items.Items.TheInside.{Inside}
use Rattle.plain_data.specs.declared.items.Items.TheView.{view, invariant}
use Rattle.plain_data.specs.contracts.items.Items as Seen
use Rattle.plain_data.specs.contracts.items.Items.TheInside as Stored

abbrev pub the_former : Former {0} → Former {0}
the_former inner = list inner

abbrev pub the_weighed : {inner : Former {0}} → Weighed inner → Weighed (the_former inner)
the_weighed weighed = w_list weighed

pub the_empty : List ⊥
the_empty = []

abbrev pub the_items : (X : Type 0) → List X → List X
the_items X items = items

pub the_items_listed : (X : Type 0) (items : List X)
    → listed _ (children (the_former this) X items) ≡ the_items X items
the_items_listed X items = list-listed X items

-- the stored fields: one vector
abbrev stored : Former {0}
stored = via (vec.the_former this Global) Inside (λ X inside. inside.items)
    (λ X items. record { items = items }) (λ X inside. refl) (λ X items. refl)

module _ (From To : RattleType) (h : From.Denot → To.Denot) where
  pub the_places : Alike From To h
      → Alike (Seen.the_row From) (Seen.the_row To) ((the_former this).map From.Denot To.Denot h)
  the_places alike =
      let inner = vec.the_places global.the_row ghosts From To h alike in
      view_places stored (list this) view (λ X Y k u. refl) (λ X u. refl) From.Denot To.Denot h
      (Seen.the_row From).coded (Seen.the_row To).coded
      (invariant From.Denot) (invariant To.Denot) (λ u p q. refl) (λ u p q. refl) (λ u e. tt)
      (λ u e. tt)
      (over (Stored.the_row From)) (over (Stored.the_row To))
      (struct_places (Stored.the_type From) (Stored.the_type To) (vec.mapped h, tt) _
      (λ items. refl) refl (laid _ _ _ inner, tt))

  pub the_codes_placed : Recodes From To h
      → Recodes (Seen.the_row From) (Seen.the_row To) ((the_former this).map From.Denot To.Denot h)
  the_codes_placed same items =
      sym (code_map From.coded.code To.coded.code h (λ x. sym (same x)) items)
