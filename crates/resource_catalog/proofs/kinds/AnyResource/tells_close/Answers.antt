use Rattle.std.specs.Prelude.{◌≡◌, IfOk}
use Rattle.std.proofs.Common.{sym, subst}
use Rattle.resource_catalog.specs.declared.kinds.AnyResource.{AnyResource}
use Rattle.log_model.specs.kinds.Reading.{kind_decision}
use Rattle.resource_catalog.specs.Kinds.{any_kind, any_instance, any_cells}
use Rattle.resource_catalog.proofs.kinds.AnyResource.tells_close.Goals as goal

pub returns-in-Value : goal.returns-in-Value
returns-in-Value c = subst (λ (r : AnyResource). IfOk c.tells_close.result (λ told. told ≡ (kind_decision (any_kind r)).tells_close (any_instance r) (any_cells r) c.args.name.now c.args.owner)) (sym c.in-Value.is) c.tells_close.ensures

pub returns-in-Counter : goal.returns-in-Counter
returns-in-Counter c = subst (λ (r : AnyResource). IfOk c.tells_close-in-Counter.result (λ told. told ≡ (kind_decision (any_kind r)).tells_close (any_instance r) (any_cells r) c.args.name.now c.args.owner)) (sym c.in-Counter.is) c.tells_close-in-Counter.ensures

pub returns-in-Map : goal.returns-in-Map
returns-in-Map c = subst (λ (r : AnyResource). IfOk c.tells_close-in-Map.result (λ told. told ≡ (kind_decision (any_kind r)).tells_close (any_instance r) (any_cells r) c.args.name.now c.args.owner)) (sym c.in-Map.is) c.tells_close-in-Map.ensures

pub returns-in-Multimap : goal.returns-in-Multimap
returns-in-Multimap c = subst (λ (r : AnyResource). IfOk c.tells_close-in-Multimap.result (λ told. told ≡ (kind_decision (any_kind r)).tells_close (any_instance r) (any_cells r) c.args.name.now c.args.owner)) (sym c.in-Multimap.is) c.tells_close-in-Multimap.ensures

pub returns-in-Set : goal.returns-in-Set
returns-in-Set c = subst (λ (r : AnyResource). IfOk c.tells_close-in-Set.result (λ told. told ≡ (kind_decision (any_kind r)).tells_close (any_instance r) (any_cells r) c.args.name.now c.args.owner)) (sym c.in-Set.is) c.tells_close-in-Set.ensures

pub returns-in-Queue : goal.returns-in-Queue
returns-in-Queue c = subst (λ (r : AnyResource). IfOk c.tells_close-in-Queue.result (λ told. told ≡ (kind_decision (any_kind r)).tells_close (any_instance r) (any_cells r) c.args.name.now c.args.owner)) (sym c.in-Queue.is) c.tells_close-in-Queue.ensures

pub returns-in-Lock : goal.returns-in-Lock
returns-in-Lock c = subst (λ (r : AnyResource). IfOk c.tells_close-in-Lock.result (λ told. told ≡ (kind_decision (any_kind r)).tells_close (any_instance r) (any_cells r) c.args.name.now c.args.owner)) (sym c.in-Lock.is) c.tells_close-in-Lock.ensures

pub returns-in-Group : goal.returns-in-Group
returns-in-Group c = subst (λ (r : AnyResource). IfOk c.tells_close-in-Group.result (λ told. told ≡ (kind_decision (any_kind r)).tells_close (any_instance r) (any_cells r) c.args.name.now c.args.owner)) (sym c.in-Group.is) c.tells_close-in-Group.ensures

pub returns-in-Topic : goal.returns-in-Topic
returns-in-Topic c = subst (λ (r : AnyResource). IfOk c.tells_close-in-Topic.result (λ told. told ≡ (kind_decision (any_kind r)).tells_close (any_instance r) (any_cells r) c.args.name.now c.args.owner)) (sym c.in-Topic.is) c.tells_close-in-Topic.ensures
