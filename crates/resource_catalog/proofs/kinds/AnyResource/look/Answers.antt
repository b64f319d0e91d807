use Rattle.std.proofs.Common.{sym, subst}
use Rattle.machine.specs.Answers.{Looks}
use Rattle.resource_catalog.specs.declared.kinds.AnyResource.{AnyResource}
use Rattle.log_model.specs.kinds.Reading.{kind_decision}
use Rattle.resource_catalog.specs.Kinds.{any_kind, any_instance, any_cells}
use Rattle.resource_catalog.proofs.kinds.AnyResource.look.Goals as goal

pub returns-in-Value : goal.returns-in-Value
returns-in-Value c = subst (λ (r : AnyResource). Looks ((kind_decision (any_kind r)).look (any_instance r) (any_cells r) c.args.op.now) c.look.result) (sym c.in-Value.is) c.look.ensures

pub returns-in-Counter : goal.returns-in-Counter
returns-in-Counter c = subst (λ (r : AnyResource). Looks ((kind_decision (any_kind r)).look (any_instance r) (any_cells r) c.args.op.now) c.look-in-Counter.result) (sym c.in-Counter.is) c.look-in-Counter.ensures

pub returns-in-Map : goal.returns-in-Map
returns-in-Map c = subst (λ (r : AnyResource). Looks ((kind_decision (any_kind r)).look (any_instance r) (any_cells r) c.args.op.now) c.look-in-Map.result) (sym c.in-Map.is) c.look-in-Map.ensures

pub returns-in-Multimap : goal.returns-in-Multimap
returns-in-Multimap c = subst (λ (r : AnyResource). Looks ((kind_decision (any_kind r)).look (any_instance r) (any_cells r) c.args.op.now) c.look-in-Multimap.result) (sym c.in-Multimap.is) c.look-in-Multimap.ensures

pub returns-in-Set : goal.returns-in-Set
returns-in-Set c = subst (λ (r : AnyResource). Looks ((kind_decision (any_kind r)).look (any_instance r) (any_cells r) c.args.op.now) c.look-in-Set.result) (sym c.in-Set.is) c.look-in-Set.ensures

pub returns-in-Queue : goal.returns-in-Queue
returns-in-Queue c = subst (λ (r : AnyResource). Looks ((kind_decision (any_kind r)).look (any_instance r) (any_cells r) c.args.op.now) c.look-in-Queue.result) (sym c.in-Queue.is) c.look-in-Queue.ensures

pub returns-in-Lock : goal.returns-in-Lock
returns-in-Lock c = subst (λ (r : AnyResource). Looks ((kind_decision (any_kind r)).look (any_instance r) (any_cells r) c.args.op.now) c.look-in-Lock.result) (sym c.in-Lock.is) c.look-in-Lock.ensures

pub returns-in-Group : goal.returns-in-Group
returns-in-Group c = subst (λ (r : AnyResource). Looks ((kind_decision (any_kind r)).look (any_instance r) (any_cells r) c.args.op.now) c.look-in-Group.result) (sym c.in-Group.is) c.look-in-Group.ensures

pub returns-in-Topic : goal.returns-in-Topic
returns-in-Topic c = subst (λ (r : AnyResource). Looks ((kind_decision (any_kind r)).look (any_instance r) (any_cells r) c.args.op.now) c.look-in-Topic.result) (sym c.in-Topic.is) c.look-in-Topic.ensures
